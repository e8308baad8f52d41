-- The files of a command.
use Rattle.std.specs.Prelude.{⊤, ◌≤◌, ℕ, List, map, slice_range, Option, Some, None}
use Rattle.al_source.specs.declared.limits.TheConstants.{MOST_TESTS}
use Rattle.al_words.specs.declared.command.Command.{Command}
use Rattle.al_words.specs.declared.command.Command.TheVariants.{Run, Plain, Trace, Infer, Check, Demo}
use Rattle.al_words.specs.declared.command.Job.{Job}
use Rattle.al_words.specs.Words.{word_at, place}

abbrev pub job_of : Command → Option Job
job_of (Run job) = Some job
job_of (Plain job) = Some job
job_of (Trace job) = Some job
job_of (Infer job k) = Some job
job_of (Check job) = Some job
job_of (Demo start size knobs) = None

abbrev pub source_name : List (List ℕ) → Job → List ℕ
source_name words job = word_at words (place job.names 0)

-- the places of the words that name inputs
abbrev pub input_places : Job → List ℕ
input_places job = slice_range job.names 1 job.count

abbrev pub input_names : List (List ℕ) → Job → List (List ℕ)
input_names words job = map (word_at words) (input_places job)

-- how many inputs a command may have: a search has one or more
abbrev pub FitsInputs : Command → ℕ → Type 0
FitsInputs (Infer job k) n = (1 ≤ n) × (n ≤ MOST_TESTS)
FitsInputs _ n = ⊤
