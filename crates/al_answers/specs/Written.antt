-- What a call writes, in the words of its caller.
use Rattle.std.specs.Prelude.{◌≡◌, ℕ, List, [], ◌∷◌, None, IsSomeAnd, ◌⊎◌}
use Rattle.std.specs.Option.{option_map}
use Rattle.std.specs.Io.KnownBytes.{append_known}
use Rattle.al_io.specs.Contents.{contents_of}
use Rattle.al_io.specs.Counts.{counted_on}
use Rattle.al_io.specs.Written.{AppendsPrefix}
use Rattle.al_answers.specs.declared.answers.Answer.{Answer}
use Rattle.al_answers.specs.Calls.{Change, Call}
use Rattle.al_answers.specs.Lines.{unread_line, absent_line}
use Rattle.al_answers.specs.Seen.{SinkSeen}
use Rattle.al_answers.specs.Tried.{TriedLast}

abbrev pub IsOneOf : List ℕ → ℕ → Type 0
IsOneOf [] n = ⊥
IsOneOf (x ∷ xs) n = (n ≡ x) ⊎ IsOneOf xs n

-- a sink took these bytes
abbrev pub IsAppended : Change SinkSeen → List ℕ → Type 0
IsAppended sink bytes = sink.after.written ≡ append_known sink.before.written bytes

-- a sink took a prefix of them
abbrev pub IsPartlyAppended : Change SinkSeen → List ℕ → Type 0
IsPartlyAppended sink bytes = AppendsPrefix sink.before.written sink.after.written bytes

-- a sink took nothing
abbrev pub IsUnwritten : Change SinkSeen → Type 0
IsUnwritten sink = sink.after.written ≡ sink.before.written

-- an answer is what was written, and the status is its
pub record Writes (a : Answer) (c : Call) : Type 0 where
  pub ends : c.status ≡ a.status
  pub to_out : IsAppended c.out a.out
  pub to_err : IsAppended c.err a.err

-- nothing on standard output, and this on standard error
pub record WritesLine (line : List ℕ) (c : Call) : Type 0 where
  pub to_out : IsUnwritten c.out
  pub to_err : IsAppended c.err line

-- a prefix of an answer was written
pub data WritesPart (a : Answer) (c : Call) : Type 0 where
  -- of what is for standard output, and nothing on standard error
  out_in_part : IsPartlyAppended c.out a.out → IsUnwritten c.err → WritesPart a c
  -- all of that, and a prefix of what is for standard error
  err_in_part : IsAppended c.out a.out → IsPartlyAppended c.err a.err → WritesPart a c

-- at most one put more
abbrev pub HasOnePutAtMost : Change SinkSeen → Type 0
HasOnePutAtMost sink =
    (sink.after.calls ≡ sink.before.calls) ⊎ (sink.after.calls ≡ option_map (counted_on 1) sink.before.calls)

-- an answer of which this holds was written
pub record Answered (P : Answer → Type 0) (c : Call) : Type 0 where
  pub answer : Answer
  pub holds : P answer
  pub writes : Writes answer c

-- the line says that the file that was tried last was not read
pub record Unread (names : List (List ℕ)) (c : Call) : Type 0 where
  pub name : List ℕ
  pub tried : TriedLast names c.files.before c.files.after name
  pub writes : WritesLine (unread_line name) c

-- a prefix of that line was written
pub record UnreadInPart (names : List (List ℕ)) (c : Call) : Type 0 where
  pub name : List ℕ
  pub tried : TriedLast names c.files.before c.files.after name
  pub out : IsUnwritten c.out
  pub err : IsPartlyAppended c.err (unread_line name)

-- the line says that the file that was tried last is not there, and so do the contents
pub record Absent (names : List (List ℕ)) (c : Call) : Type 0 where
  pub name : List ℕ
  pub tried : TriedLast names c.files.before c.files.after name
  pub lacks : IsSomeAnd c.files.before.contents (λ contents. contents_of contents name ≡ None)
  pub writes : WritesLine (absent_line name) c
