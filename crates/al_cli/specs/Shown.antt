-- What words show, over files of known contents: a status, and what is written to standard output and standard error.
use Rattle.std.specs.Prelude.{ℕ, ◌+◌, nat_lt, length, if◌then◌else◌, List, [], ◌∷◌, ◌++◌, codes, Option, Some, None, Result, Ok, Err, ℤ}
use Rattle.al_source.specs.declared.limits.TheConstants.{SOURCE_BYTES, INPUT_BYTES}
use Rattle.al_core.specs.declared.choices.Knobs.{Knobs}
use Rattle.al_core.specs.declared.reports.Ending.{Ending}
use Rattle.al_core.specs.declared.reports.Ending.TheVariants as ending
use Rattle.al_core.specs.declared.reports.Report.{Report}
use Rattle.al_rules.specs.Refusals.{Noted, accepted}
use Rattle.al_core.specs.Run.{sizes_of}
use Rattle.al_core.specs.Report.{report}
use Rattle.al_gen.specs.Generated.{source as made_source, input as made_input}
use Rattle.al_io.specs.Contents.{Contents}
use Rattle.al_report.specs.Traces.{trace_text, totals_text, trap_text}
use Rattle.al_report.specs.Faults.{refusal_text, input_cause_text}
use Rattle.al_report.specs.Places.{bad_text}
use Rattle.al_report.specs.Tables.{no_loop_text}
use Rattle.al_rules.specs.declared.faults.Refusal.{Refusal}
use Rattle.al_rules.specs.declared.faults.Refusal.TheVariants.{Grammar}
use Rattle.al_front.specs.declared.fault.BadTokens.{BadTokens}
use Rattle.al_front.specs.Places.{bad_tokens}
use Rattle.al_answers.specs.declared.answers.Answer.{Answer}
use Rattle.al_answers.specs.Plans.{Plan, Reads, Answers, failed, played}
use Rattle.al_text.specs.declared.faults.InputCause.{InputCause}
use Rattle.al_text.specs.Numbers.{numbers_of}
use Rattle.al_words.specs.declared.command.Command.{Command}
use Rattle.al_words.specs.declared.command.Command.TheVariants.{Run, Plain, Trace, Infer, Check, Demo}
use Rattle.al_words.specs.declared.command.Job.{Job}
use Rattle.al_words.specs.declared.command.WordFault.{WordFault}
use Rattle.al_words.specs.Words.{command}
use Rattle.al_words.specs.Jobs.{job_of, source_name, input_names}
use Rattle.al_runs_laws.specs.Accepted.{annotated, unannotated}
use Rattle.al_search.specs.Search.{searched}
use Rattle.al_cli.specs.Lines.{word_line}

-- ---- runs

-- the report of a program's run in lockstep, on one thread
abbrev pub lockstep_report : Noted → List ℤ → Knobs → Report
lockstep_report program input knobs = report program.0 input (sizes_of knobs) (annotated knobs.line program.1)

abbrev pub plain_report : Noted → List ℤ → Knobs → Report
plain_report program input knobs = report program.0 input (sizes_of knobs) (unannotated program.1)

-- ---- answers

abbrev pub done : List ℕ → Answer
done out = record { status = 0; out = out; err = [] }

-- what is written of a run; a trap that ends it has a line
abbrev pub ended : List ℕ → Ending → List ℕ → Answer
ended name ending.Done out = done out
ended name (ending.Trap t line) out = record { status = 3; out = out; err = trap_text name t line }

-- a program's bytes
abbrev pub bytes_of : List ℕ → Report → Answer
bytes_of name r = ended name r.ending r.output

-- the rounds of a run, without the program's bytes
abbrev pub trace_of : List ℕ → Report → Answer
trace_of name r = ended name r.ending (trace_text r)

-- a program's bytes, and then the totals
abbrev pub totals_of : List ℕ → Report → Answer
totals_of name r = ended name r.ending (r.output ++ totals_text r)

-- the numbers of a run: those of the first input, or none where there is no input
abbrev pub first_input : List (List ℤ) → List ℤ
first_input [] = []
first_input (ns ∷ others) = ns

-- what is written where the source of this name is the program, and its inputs are these numbers
abbrev pub answer_of : Command → List ℕ → Noted → List (List ℤ) → Answer
answer_of (Run job) name program inputs = bytes_of name (lockstep_report program (first_input inputs) job.knobs)
answer_of (Plain job) name program inputs = bytes_of name (plain_report program (first_input inputs) job.knobs)
answer_of (Trace job) name program inputs = trace_of name (lockstep_report program (first_input inputs) job.knobs)
answer_of (Infer job k) name program inputs = done (searched program k inputs job.knobs)
answer_of (Check job) name program inputs = done (codes "ok\n")
answer_of (Demo start size knobs) name program inputs =
    totals_of name (lockstep_report program (first_input inputs) knobs)

-- ---- what is read

-- one byte more than a source may have, and one more than an input may have
abbrev pub most_of_source : ℕ
most_of_source = SOURCE_BYTES + 1

abbrev pub most_of_input : ℕ
most_of_input = INPUT_BYTES + 1

-- a source with its first bad token
abbrev pub bad_line : List ℕ → List ℕ → BadTokens → List ℕ
bad_line name source bad = bad_text name source bad.tokens bad.place

-- Every source that the grammar refuses has bad tokens.
abbrev pub bad_line_or_none : List ℕ → List ℕ → Option BadTokens → List ℕ
bad_line_or_none name source (Some bad) = bad_line name source bad
bad_line_or_none name source None = refusal_text name Grammar

-- what is said of a source that is refused: where the grammar refuses it, `check` tells its first bad token
abbrev pub refused_line : Command → List ℕ → List ℕ → Refusal → List ℕ
refused_line (Check job) name source Grammar = bad_line_or_none name source (bad_tokens source)
refused_line _ name source cause = refusal_text name cause

abbrev pub if_accepted : (Refusal → List ℕ) → (Noted → Plan) → Result Noted Refusal → Plan
if_accepted line next (Ok program) = next program
if_accepted line next (Err cause) = Answers (failed 1 (line cause))

-- A source is read, and refused or gone on with.
abbrev pub source_plan : Command → List ℕ → (Noted → Plan) → Plan
source_plan c name next =
    Reads name most_of_source (λ source. if_accepted (refused_line c name source) next (accepted source))

-- the number of the loop of a search, where the program has none of that number
abbrev pub missing_loop : Command → Noted → Option ℕ
missing_loop (Infer job k) program = if nat_lt k (length program.1) then None else Some k
missing_loop _ program = None

abbrev pub if_numbers : List ℕ → (List ℤ → Plan) → Result (List ℤ) InputCause → Plan
if_numbers name next (Ok input) = next input
if_numbers name next (Err fault) = Answers (failed 7 (input_cause_text name fault))

-- An input is read, and refused or gone on with.
abbrev pub input_plan : List ℕ → (List ℤ → Plan) → Plan
input_plan name next = Reads name most_of_input (λ text. if_numbers name next (numbers_of text))

-- the inputs of these names, one after another
abbrev pub inputs_plan : List (List ℕ) → (List (List ℤ) → Plan) → Plan
inputs_plan [] next = next []
inputs_plan (name ∷ names) next = input_plan name (λ ns. inputs_plan names (λ others. next (ns ∷ others)))

-- a search of a loop that is not there is refused
abbrev pub unless_missing : List ℕ → Plan → Option ℕ → Plan
unless_missing name next (Some k) = Answers (failed 1 (no_loop_text name k))
unless_missing name next None = next

-- the inputs, and then what is done
abbrev pub after_source : Command → List (List ℕ) → Job → Noted → Plan
after_source c words job program =
    let name = source_name words job in
    unless_missing name
    (inputs_plan (input_names words job) (λ inputs. Answers (answer_of c name program inputs)))
    (missing_loop c program)

abbrev pub job_plan : Command → List (List ℕ) → Job → Plan
job_plan c words job = source_plan c (source_name words job) (after_source c words job)

-- the numbers that are generated
abbrev pub made_inputs : Command → List (List ℤ)
made_inputs (Demo start size knobs) = made_input start size ∷ []
made_inputs _ = []

-- the generated program, by the name `demo`
abbrev pub made_plan : Command → Plan
made_plan c =
    if_accepted (refused_line c (codes "demo") made_source)
    (λ program. Answers (answer_of c (codes "demo") program (made_inputs c)))
    (accepted made_source)

abbrev pub plan_by : Command → List (List ℕ) → Option Job → Plan
plan_by c words (Some job) = job_plan c words job
plan_by c words None = made_plan c

abbrev pub plan_of : List (List ℕ) → Result Command WordFault → Plan
plan_of words (Ok c) = plan_by c words (job_of c)
plan_of words (Err fault) = Answers (failed 2 (word_line words fault))

-- what the words ask to be read, and what comes of it
unfoldable pub plan : List (List ℕ) → Plan
plan words = plan_of words (command words)

-- the names of the files that a command reads, in order
abbrev pub job_names : List (List ℕ) → Option Job → List (List ℕ)
job_names words (Some job) = source_name words job ∷ input_names words job
job_names words None = []

abbrev pub names_by : List (List ℕ) → Result Command WordFault → List (List ℕ)
names_by words (Ok c) = job_names words (job_of c)
names_by words (Err fault) = []

abbrev pub names_of : List (List ℕ) → List (List ℕ)
names_of words = names_by words (command words)

abbrev pub shown : List (List ℕ) → Contents → Answer
shown words files = played files (plan words)
