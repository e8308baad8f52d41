-- The command that words ask for, or the first fault in them.
use Rattle.std.specs.Prelude.{◌≡◌, ℕ, ◌+◌, ◌-◌, ◌^◌, if◌then◌else◌, ◌==◌, ◌&&◌, ◌||◌, nat_le, nat_lt, Bool, true, false, List, [], ◌∷◌, replicate, Option, Some, None, is_some, Result, Ok, Err, codes, nat_eq, slice_get, slice_set, unwrap_or}
use Rattle.std.specs.List.{starts_with}
use Rattle.std.specs.Str.{bytes_eq}
use Rattle.al_source.specs.Steps.{and_then}
use Rattle.al_source.specs.declared.limits.TheConstants.{MOST_LANES, MOST_CHUNK, MOST_THREADS, MOST_STEPS, MOST_TESTS, MOST_START, MOST_SIZE, DEFAULT_LANES, DEFAULT_CHUNK, DEFAULT_THREADS, DEFAULT_LINE, DEFAULT_ITERATION_STEPS, DEFAULT_SERIAL_STEPS}
use Rattle.al_core.specs.declared.choices.Knobs.{Knobs}
use Rattle.al_core.specs.Lines.{is_line_size}
use Rattle.al_text.specs.Digits.{numeral}
use Rattle.al_words.specs.declared.command.Command.{Command}
use Rattle.al_words.specs.declared.command.Command.TheVariants.{Run, Plain, Trace, Infer, Check, Demo}
use Rattle.al_words.specs.declared.command.Job.{Job}
use Rattle.al_words.specs.declared.command.WordFault.{WordFault}
use Rattle.al_words.specs.declared.command.WordFault.TheVariants.{NoCommand, BadCommand, Unknown, Repeated, NoValue, BadValue, Names, BadNumber}
use Rattle.al_words.specs.declared.option.Given.{Given}
use Rattle.al_words.specs.declared.option.Knob.{Knob}
use Rattle.al_words.specs.declared.option.Knob.TheVariants.{Lanes, Chunk, Threads, Line, IterSteps, Steps, LoopNumber}
use Rattle.al_words.specs.declared.verb.Verb.{Verb}
use Rattle.al_words.specs.declared.verb.Verb.TheVariants as verb
use Rattle.al_words.specs.declared.walk.Waiting.{Waiting}
use Rattle.al_words.specs.declared.walk.Walk.{Walk}

-- ---- the first word

abbrev pub verb_of : List ℕ → Option Verb
verb_of word =
    if bytes_eq word (codes "run") then Some verb.Run
    else if bytes_eq word (codes "plain") then Some verb.Plain
    else if bytes_eq word (codes "trace") then Some verb.Trace
    else if bytes_eq word (codes "infer") then Some verb.Infer
    else if bytes_eq word (codes "check") then Some verb.Check
    else if bytes_eq word (codes "demo") then Some verb.Demo
    else None

-- a source, and for a run perhaps an input; the search has one or more; the generated program has a start and a size
abbrev pub takes : Verb → ℕ → Bool
takes verb.Run n = n == 1 || n == 2
takes verb.Plain n = n == 1 || n == 2
takes verb.Trace n = n == 1 || n == 2
takes verb.Infer n = nat_le 2 n && nat_le n (MOST_TESTS + 1)
takes verb.Check n = n == 1
takes verb.Demo n = n == 2

-- ---- options

abbrev pub knob_of : List ℕ → Option Knob
knob_of word =
    if bytes_eq word (codes "--lanes") then Some Lanes
    else if bytes_eq word (codes "--chunk") then Some Chunk
    else if bytes_eq word (codes "--threads") then Some Threads
    else if bytes_eq word (codes "--line") then Some Line
    else if bytes_eq word (codes "--iter-steps") then Some IterSteps
    else if bytes_eq word (codes "--steps") then Some Steps
    else if bytes_eq word (codes "--loop") then Some LoopNumber
    else None

-- all options but the number of a loop set a number of a run
abbrev pub is_of_run : Knob → Bool
is_of_run Lanes = true
is_of_run Chunk = true
is_of_run Threads = true
is_of_run Line = true
is_of_run IterSteps = true
is_of_run Steps = true
is_of_run LoopNumber = false

-- a command that runs no program has no option
abbrev pub has_option : Verb → Knob → Bool
has_option verb.Run knob = is_of_run knob
has_option verb.Plain knob = is_of_run knob
has_option verb.Trace knob = is_of_run knob
has_option verb.Infer knob = true
has_option verb.Check knob = false
has_option verb.Demo knob = is_of_run knob

abbrev pub had : Verb → Option Knob → Option Knob
had v (Some knob) = if has_option v knob then Some knob else None
had v None = None

-- the option of the command that a word names
abbrev pub knob_for : Verb → List ℕ → Option Knob
knob_for v word = had v (knob_of word)

abbrev pub least : Knob → ℕ
least Lanes = 1
least Chunk = 1
least Threads = 1
least Line = 1
least IterSteps = 1
least Steps = 1
least LoopNumber = 0

abbrev pub greatest : Knob → ℕ
greatest Lanes = MOST_LANES
greatest Chunk = MOST_CHUNK
greatest Threads = MOST_THREADS
greatest Line = 2 ^ 32 - 1
greatest IterSteps = MOST_STEPS
greatest Steps = MOST_STEPS
greatest LoopNumber = 2 ^ 32 - 1

-- of those up to its greatest an option takes all, but a line has one of five sizes
abbrev pub takes_number : Knob → ℕ → Bool
takes_number Lanes n = true
takes_number Chunk n = true
takes_number Threads n = true
takes_number Line n = is_line_size n
takes_number IterSteps n = true
takes_number Steps n = true
takes_number LoopNumber n = true

abbrev pub within : ℕ → ℕ → Option ℕ → Option ℕ
within least most (Some n) = if nat_le least n && nat_le n most then Some n else None
within least most None = None

abbrev pub number_in : ℕ → ℕ → List ℕ → Option ℕ
number_in least most word = within least most (numeral word)

abbrev pub taken : Knob → Option ℕ → Option ℕ
taken knob (Some n) = if takes_number knob n then Some n else None
taken knob None = None

abbrev pub value_of : Knob → List ℕ → Option ℕ
value_of knob word = taken knob (number_in (least knob) (greatest knob) word)

abbrev pub nothing : Given
nothing = record {
  lanes = None;
  chunk = None;
  threads = None;
  line = None;
  iter_steps = None;
  steps = None;
  loop_number = None;
}

abbrev pub given_to : Given → Knob → Option ℕ
given_to g Lanes = g.lanes
given_to g Chunk = g.chunk
given_to g Threads = g.threads
given_to g Line = g.line
given_to g IterSteps = g.iter_steps
given_to g Steps = g.steps
given_to g LoopNumber = g.loop_number

abbrev pub give : Given → Knob → ℕ → Given
give g Lanes n = record g { lanes = Some n }
give g Chunk n = record g { chunk = Some n }
give g Threads n = record g { threads = Some n }
give g Line n = record g { line = Some n }
give g IterSteps n = record g { iter_steps = Some n }
give g Steps n = record g { steps = Some n }
give g LoopNumber n = record g { loop_number = Some n }

-- what was given, and else the default
abbrev pub knobs_of : Given → Knobs
knobs_of g = record {
  lanes = unwrap_or g.lanes DEFAULT_LANES;
  chunk = unwrap_or g.chunk DEFAULT_CHUNK;
  threads = unwrap_or g.threads DEFAULT_THREADS;
  line = unwrap_or g.line DEFAULT_LINE;
  iter_steps = unwrap_or g.iter_steps DEFAULT_ITERATION_STEPS;
  serial_steps = unwrap_or g.steps DEFAULT_SERIAL_STEPS;
}

-- the number of the loop that was given, and else the first
abbrev pub loop_of : Given → ℕ
loop_of g = unwrap_or g.loop_number 0

-- ---- the words after the first

abbrev pub begin : Verb → Walk
begin v = record { verb = v; names = replicate 17 0; count = 0; given = nothing; waiting = None }

-- the word after an option is its value, whatever it is
abbrev pub valued : Walk → Waiting → Option ℕ → Result Walk WordFault
valued w o (Some n) = Ok (record w { given = give w.given o.knob n; waiting = None })
valued w o None = Err (BadValue o.at)

abbrev pub optioned : Walk → ℕ → Option Knob → Result Walk WordFault
optioned w at (Some knob) =
    if is_some (given_to w.given knob) then Err (Repeated at)
    else Ok (record w { waiting = Some (record { knob = knob; at = at }) })
optioned w at None = Err (Unknown at)

abbrev pub named : Walk → ℕ → Walk
named w at =
    record w { names = if nat_lt w.count 17 then slice_set w.names w.count at else w.names; count = w.count + 1 }

-- any other word that begins with `-` is an option, and the rest are names
abbrev pub step_by : Option Waiting → Walk → ℕ → List ℕ → Result Walk WordFault
step_by (Some o) w at word = valued w o (value_of o.knob word)
step_by None w at word =
    if starts_with nat_eq word (codes "-") then optioned w at (knob_for w.verb word) else Ok (named w at)

abbrev pub step : Walk → ℕ → List ℕ → Result Walk WordFault
step w at word = step_by w.waiting w at word

abbrev pub walked : Walk → ℕ → List (List ℕ) → Result Walk WordFault
walked w at [] = Ok w
walked w at (x ∷ xs) = and_then (step w at x) (λ v. walked v (at + 1) xs)

-- a step that was taken, or the fault
abbrev pub Takes : Result Walk WordFault → Result (Unit {0}) WordFault → Walk → Type 0
Takes told (Ok a) new = told ≡ Ok new
Takes told (Err e) new = told ≡ Err e

-- ---- the command

abbrev pub word_at : List (List ℕ) → ℕ → List ℕ
word_at words at = unwrap_or (slice_get words at) []

abbrev pub place : List ℕ → ℕ → ℕ
place names i = unwrap_or (slice_get names i) 0

abbrev pub with_size : ℕ → ℕ → Knobs → Option ℕ → Result Command WordFault
with_size at start knobs (Some size) = Ok (Demo start size knobs)
with_size at start knobs None = Err (BadNumber at)

abbrev pub with_start : List (List ℕ) → Job → Option ℕ → Result Command WordFault
with_start words job (Some start) =
    with_size (place job.names 1) start job.knobs (number_in 1 MOST_SIZE (word_at words (place job.names 1)))
with_start words job None = Err (BadNumber (place job.names 0))

abbrev pub demo : List (List ℕ) → Job → Result Command WordFault
demo words job = with_start words job (number_in 0 MOST_START (word_at words (place job.names 0)))

abbrev pub asked : List (List ℕ) → Verb → Job → ℕ → Result Command WordFault
asked words verb.Run job k = Ok (Run job)
asked words verb.Plain job k = Ok (Plain job)
asked words verb.Trace job k = Ok (Trace job)
asked words verb.Infer job k = Ok (Infer job k)
asked words verb.Check job k = Ok (Check job)
asked words verb.Demo job k = demo words job

abbrev pub walked_job : Walk → Job
walked_job w = record { names = w.names; count = w.count; knobs = knobs_of w.given }

abbrev pub ended : List (List ℕ) → Walk → Option Waiting → Result Command WordFault
ended words w (Some o) = Err (NoValue o.at)
ended words w None = if takes w.verb w.count then asked words w.verb (walked_job w) (loop_of w.given) else Err Names

abbrev pub after_walk : List (List ℕ) → Result Walk WordFault → Result Command WordFault
after_walk words (Ok w) = ended words w w.waiting
after_walk words (Err e) = Err e

abbrev pub by_verb : List (List ℕ) → List (List ℕ) → Option Verb → Result Command WordFault
by_verb words rest (Some v) = after_walk words (walked (begin v) 1 rest)
by_verb words rest None = Err (BadCommand 0)

abbrev pub command : List (List ℕ) → Result Command WordFault
command [] = Err NoCommand
command (first ∷ rest) = by_verb (first ∷ rest) rest (verb_of first)
