-- The numbers of a command are in their ranges.
use Rattle.std.specs.Prelude.{◌≤◌, ℕ, ◌+◌}
use Rattle.al_source.specs.declared.limits.TheConstants.{MOST_START, MOST_SIZE, MOST_TESTS}
use Rattle.al_core.specs.Limits.{AreInRange}
use Rattle.al_words.specs.declared.command.Command.{Command}
use Rattle.al_words.specs.declared.command.Job.{Job}
use Rattle.al_words.specs.declared.command.Command.TheVariants.{Run, Plain, Trace, Infer, Check, Demo}

-- the start of the generated program, and how many numbers it reads
pub record IsDemo (start size : ℕ) : Type 0 where
  pub start_fits : start ≤ MOST_START
  pub size_fits : (1 ≤ size) × (size ≤ MOST_SIZE)

-- it names a source, and behind it at most as many inputs as there may be tests
pub record IsJob (job : Job) : Type 0 where
  pub names : (1 ≤ job.count) × (job.count ≤ MOST_TESTS + 1)
  pub knobs : AreInRange job.knobs

-- a search has at least one input
abbrev pub HasRanges : Command → Type 0
HasRanges (Run job) = IsJob job
HasRanges (Plain job) = IsJob job
HasRanges (Trace job) = IsJob job
HasRanges (Infer job k) = IsJob job × (2 ≤ job.count)
HasRanges (Check job) = IsJob job
HasRanges (Demo start size knobs) = IsDemo start size × AreInRange knobs
