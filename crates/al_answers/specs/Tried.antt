-- Which of the named files were tried, and how often the files were read.
use Rattle.std.specs.Prelude.{◌≡◌, ℕ, suc, ◌≤◌, List, slice_get, None, Some, IsSomeAnd}
use Rattle.al_io.specs.Contents.{contents_of}
use Rattle.al_io.specs.Counts.{MayHaveRisen}
use Rattle.al_answers.specs.declared.answers.Answer.{Answer}
use Rattle.al_answers.specs.Lines.{unread_line}
use Rattle.al_answers.specs.Plans.{failed, absent}
use Rattle.al_answers.specs.Seen.{FilesSeen, calls_later}

-- the k-th of the names, from 0, was the last that was tried
pub record TriedLast (names : List (List ℕ)) (f g : FilesSeen) (name : List ℕ) : Type 0 where
  pub place : ℕ
  pub named : slice_get names place ≡ Some name
  pub calls : g.calls ≡ calls_later (suc place) f.calls

-- at most so many reads, and each is counted
pub record ReadAtMost (most : ℕ) (f g : FilesSeen) : Type 0 where
  pub reads : ℕ
  pub within : reads ≤ most
  pub calls : g.calls ≡ calls_later reads f.calls

-- a file that is not read may have failed, or is not there
pub data Missed (names : List (List ℕ)) (f g : FilesSeen) (a : Answer) : Type 0 where
  by_fault : (name : List ℕ) → TriedLast names f g name → MayHaveRisen f.faults g.faults
      → a ≡ failed 4 (unread_line name) → Missed names f g a
  by_absence : (name : List ℕ) → TriedLast names f g name → g.faults ≡ f.faults
      → IsSomeAnd f.contents (λ contents. contents_of contents name ≡ None) → a ≡ absent name → Missed names f g a
