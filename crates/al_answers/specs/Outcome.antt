-- What a call comes to that follows a plan.
use Rattle.std.specs.Prelude.{◌≡◌, ℕ, List, None, Some, IfSome, IsSomeAnd}
use Rattle.al_io.specs.Contents.{contents_of, beginning_of}
use Rattle.al_io.specs.Counts.{MayHaveRisen}
use Rattle.al_answers.specs.declared.answers.Answer.{Answer}
use Rattle.al_answers.specs.declared.reading.FileRead.{FileRead}
use Rattle.al_answers.specs.declared.reading.FileRead.TheVariants as file
use Rattle.al_answers.specs.Calls.{Change, Call}
use Rattle.al_answers.specs.Lines.{unread_line}
use Rattle.al_answers.specs.Plans.{Plan, Reads, Answers, failed, absent}
use Rattle.al_answers.specs.Seen.{FilesSeen, SinkSeen, ReadsOnce, TriesOnce, Took, TookPart}

-- the bytes are the beginning of the file, where that is told
abbrev pub IsBeginning : FilesSeen → List ℕ → ℕ → List ℕ → Type 0
IsBeginning files name most bytes = IfSome files.contents (λ contents. beginning_of contents name most ≡ Some bytes)

-- where an answer came from
pub data Came : Plan → FilesSeen → FilesSeen → Answer → Type 0 where
  planned : (a : Answer) (files : FilesSeen) → Came (Answers a) files files a
  -- a file was read
  read_on : (name : List ℕ) (most : ℕ) (next : List ℕ → Plan) (old mid new : FilesSeen) (bytes : List ℕ) (a : Answer)
      → ReadsOnce old mid → IsBeginning old name most bytes → Came (next bytes) mid new a
      → Came (Reads name most next) old new a
  -- the contents are told, and lack the file
  not_there : (name : List ℕ) (most : ℕ) (next : List ℕ → Plan) (old new : FilesSeen)
      → ReadsOnce old new → IsSomeAnd old.contents (λ contents. contents_of contents name ≡ None)
      → Came (Reads name most next) old new (absent name)
  -- the read failed
  not_read : (name : List ℕ) (most : ℕ) (next : List ℕ → Plan) (old new : FilesSeen)
      → TriesOnce old new → MayHaveRisen old.faults new.faults
      → Came (Reads name most next) old new (failed 4 (unread_line name))

-- what was read where memory ran out
pub data Starved : Plan → FilesSeen → FilesSeen → Type 0 where
  at_once : (p : Plan) (files : FilesSeen) → Starved p files files
  at_read : (name : List ℕ) (most : ℕ) (next : List ℕ → Plan) (old new : FilesSeen) → TriesOnce old new
      → Starved (Reads name most next) old new
  later : (name : List ℕ) (most : ℕ) (next : List ℕ → Plan) (old mid new : FilesSeen) (bytes : List ℕ)
      → ReadsOnce old mid → IsBeginning old name most bytes → Starved (next bytes) mid new
      → Starved (Reads name most next) old new

-- what reading one file comes to
abbrev pub Reading : List ℕ → ℕ → FilesSeen → FilesSeen → FileRead → Type 0
Reading name most old new (file.Bytes bytes) = ReadsOnce old new × IsBeginning old name most bytes
Reading name most old new (file.Unread a) = (next : List ℕ → Plan) → Came (Reads name most next) old new a

-- ---- the sinks

-- an answer is written: to standard output, and then to standard error
pub data Delivers (a : Answer) (out err : Change SinkSeen) : ℕ → Type 0 where
  whole : Took a.out out.before out.after → Took a.err err.before err.after → Delivers a out err a.status
  out_failed : TookPart a.out out.before out.after → err.after ≡ err.before → Delivers a out err 5
  err_failed : Took a.out out.before out.after → TookPart a.err err.before err.after → Delivers a out err 5

-- ---- the whole

pub data Outcome (p : Plan) (c : Call) : Type 0 where
  answered : (a : Answer) → Came p c.files.before c.files.after a → Delivers a c.out c.err c.status → Outcome p c
  starved : Starved p c.files.before c.files.after → c.out.after ≡ c.out.before → c.err.after ≡ c.err.before
      → c.status ≡ 6
      → Outcome p c
