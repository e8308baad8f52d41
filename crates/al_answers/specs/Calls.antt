-- A call: the files and both sinks, before it and after it, and the status with which it ends.
use Rattle.std.specs.Prelude.{◌≡◌, ◌≢◌, ℕ, List, Option, IfSome}
use Rattle.al_io.specs.Contents.{Contents}
use Rattle.al_io.specs.Counts.{DidNotRise, MayHaveRisen, HasRisen}
use Rattle.al_answers.specs.Seen.{FilesSeen, SinkSeen}

pub record Change (A : Type 0) : Type 0 where
  pub before : A
  pub after : A

abbrev pub change : {S A : Type 0} → (S → A) → S → S → Change A
change seen old new = record { before = seen old; after = seen new }

pub record Call : Type 0 where
  pub files : Change FilesSeen
  pub out : Change SinkSeen
  pub err : Change SinkSeen
  pub status : ℕ

-- ---- the files

-- whatever they hold, where their contents are told
abbrev pub OverTold : Call → (Contents → Type 0) → Type 0
OverTold c P = IfSome c.files.before.contents P

abbrev pub NoReadFails : Call → Type 0
NoReadFails c = DidNotRise c.files.before.faults c.files.after.faults

abbrev pub ReadFails : Call → Type 0
ReadFails c = HasRisen c.files.before.faults c.files.after.faults

-- the files count no faults, or one more than before
abbrev pub ReadMayFail : Call → Type 0
ReadMayFail c = MayHaveRisen c.files.before.faults c.files.after.faults

-- ---- the sinks

abbrev pub NoPutFails : Change SinkSeen → Type 0
NoPutFails sink = DidNotRise sink.before.faults sink.after.faults

abbrev pub PutFails : Change SinkSeen → Type 0
PutFails sink = HasRisen sink.before.faults sink.after.faults

abbrev pub PutMayFail : Change SinkSeen → Type 0
PutMayFail sink = MayHaveRisen sink.before.faults sink.after.faults

-- no put is made
abbrev pub HasNoPut : Change SinkSeen → Type 0
HasNoPut sink = sink.after.calls ≡ sink.before.calls

-- nothing is written
abbrev pub IsSilent : Call → Type 0
IsSilent c = (c.out.after.written ≡ c.out.before.written) × (c.err.after.written ≡ c.err.before.written)

-- no file is read, and no put is made
pub record IsUntouched (c : Call) : Type 0 where
  pub files : c.files.after ≡ c.files.before
  pub out : c.out.after ≡ c.out.before
  pub err : c.err.after ≡ c.err.before

-- ---- the whole

-- no file or sink fails
pub record IsQuiet (c : Call) : Type 0 where
  pub files : NoReadFails c
  pub out : NoPutFails c.out
  pub err : NoPutFails c.err

abbrev pub HasMemory : Call → Type 0
HasMemory c = c.status ≢ 6

-- the status is that of no failed read or put, and of no want of memory
pub record IsAnswered (c : Call) : Type 0 where
  pub read : c.status ≢ 4
  pub written : c.status ≢ 5
  pub fed : HasMemory c
