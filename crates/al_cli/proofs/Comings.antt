-- What the parts of a plan come to.
use Rattle.std.proofs.Common.{◌≡◌, ℕ, ◌+◌, ◌<◌, length, map, drop, get_or, true, false, List, [], ◌∷◌, ◌++◌, Option, None, Some, Result, Ok, Err, IfOk, OnErr, IsSomeAnd, ℤ, refl, sym, ap, subst, ◌∙◌}
use Rattle.std.proofs.lemmas.List.{append_assoc, append-nil, drop_more}
use Rattle.std.specs.declared.alloc.AllocError.{AllocError}
use Rattle.al_rules.specs.Refusals.{Noted, accepted}
use Rattle.al_report.specs.Faults.{input_cause_text}
use Rattle.al_report.specs.Tables.{no_loop_text}
use Rattle.al_rules.specs.declared.faults.Refusal.{Refusal}
use Rattle.al_answers.specs.declared.answers.Answer.{Answer}
use Rattle.al_answers.specs.declared.reading.FileRead.{FileRead}
use Rattle.al_answers.specs.declared.reading.FileRead.TheVariants as file
use Rattle.al_answers.specs.Plans.{Plan, Answers, failed}
use Rattle.al_answers.specs.Seen.{FilesSeen, ReadsOnce, TriesOnce}
use Rattle.al_answers.specs.Outcome.{IsBeginning, Reading, Came, planned, read_on, Starved, at_once, at_read, later}
use Rattle.al_text.specs.declared.faults.InputCause.{InputCause}
use Rattle.al_source.specs.Answers.{Fails}
use Rattle.al_text.specs.Numbers.{numbers_of}
use Rattle.al_words.specs.declared.command.Command.{Command}
use Rattle.al_words.specs.declared.command.WordFault.{WordFault}
use Rattle.al_words.specs.declared.command.Job.{Job}
use Rattle.al_words.specs.Words.{command, word_at}
use Rattle.al_words.specs.Jobs.{source_name, input_names}
use Rattle.al_cli.specs.Shown.{answer_of, most_of_source, most_of_input, refused_line, if_accepted, source_plan, missing_loop, if_numbers, input_plan, inputs_plan, after_source, plan_of, plan}
use Rattle.al_cli.specs.declared.reading.SourceStep.{SourceStep}
use Rattle.al_cli.specs.declared.reading.SourceStep.TheVariants as source
use Rattle.al_cli.specs.declared.reading.InputStep.{InputStep}
use Rattle.al_cli.specs.declared.reading.InputStep.TheVariants as input
use Rattle.al_cli.specs.declared.reading.InputsStep.{InputsStep}
use Rattle.al_cli.specs.declared.reading.InputsStep.TheVariants as inputs
use Rattle.al_cli.specs.Steps.{GoesOn, Starves, SourceComes, InputComes, InputsCome}
use Rattle.al_cli.proofs.Onward.{Onward}

pub on_any_err : {A : Type 0} (r : Result A AllocError) (P : Type 0) → P → OnErr r P
on_any_err (Ok a) P p = tt
on_any_err (Err e) P p = p

pub if_ok : {A E : Type 0} (r : Result A E) (P Q : A → Type 0) → ((a : A) → P a → Q a) → IfOk r P → IfOk r Q
if_ok (Ok a) P Q f p = f a p
if_ok (Err e) P Q f p = tt

pub on_err : {A E : Type 0} (r : Result A E) (P Q : Type 0) → (P → Q) → OnErr r P → OnErr r Q
on_err (Ok a) P Q f p = tt
on_err (Err e) P Q f p = f p

-- what a file that was read says
pub read_bytes : (name : List ℕ) (most : ℕ) (f g : FilesSeen) (r : FileRead) (bytes : List ℕ) → r ≡ file.Bytes bytes → Reading name most f g r
    → ReadsOnce f g × IsBeginning f name most bytes
read_bytes name most f g r bytes is h = subst (Reading name most f g) is h

pub came_answer : (a b : Answer) (f : FilesSeen) → b ≡ a → Came (Answers a) f f b
came_answer a b f is = subst (λ x. Came (Answers x) f f b) is (planned b f)

pub came_planned : (p q : Plan) (f : FilesSeen) (a : Answer) → Answers a ≡ q → p ≡ q → Came p f f a
came_planned p q f a is same = subst (λ r. Came r f f a) (is ∙ sym same) (planned a f)

pub plan_is : (words : List (List ℕ)) (r : Result Command WordFault) → r ≡ command words → plan words ≡ plan_of words r
unfolding plan
plan_is words r is = ap (plan_of words) (sym is)

-- ---- a source

abbrev on_source : Command → List ℕ → (Noted → Plan) → List ℕ → Plan
on_source d name next source = if_accepted (refused_line d name source) next (accepted source)

module _ (d : Command) (name bytes : List ℕ) (f g : FilesSeen) (r : FileRead) (read : r ≡ file.Bytes bytes)
    (reading : Reading name most_of_source f g r) where
  source_read : ReadsOnce f g × IsBeginning f name most_of_source bytes
  source_read = read_bytes name most_of_source f g r bytes read reading

  pub source_goes : (program : Noted) → accepted bytes ≡ Ok program → GoesOn (source_plan d name) f g program
  source_goes program is = record {
    came = λ next last a c. read_on name most_of_source (on_source d name next) f g last bytes a source_read.0 source_read.1 (rw is c);
    starved = λ next last s. later name most_of_source (on_source d name next) f g last bytes source_read.0 source_read.1 (rw is s);
  }

  source_refused : (cause : Refusal) (a : Answer) → accepted bytes ≡ Err cause → a ≡ failed 1 (refused_line d name bytes cause)
      → (next : Noted → Plan) → Came (source_plan d name next) f g a
  source_refused cause a is same next = read_on name most_of_source (on_source d name next) f g g bytes a source_read.0 source_read.1
      (rw is (came_answer _ a g same))

  -- of the cause of a fault, and the line about it
  pub source_told : (cause : Option Refusal) (line : List ℕ) (a : Answer) → Fails (accepted bytes) cause
      → IsSomeAnd cause (λ of. line ≡ refused_line d name bytes of) → a ≡ failed 1 line → (next : Noted → Plan) → Came (source_plan d name next) f g a
  source_told (Some cause) line a is told same = source_refused cause a is (same ∙ ap (failed 1) told)
  source_told None line a is told same = absurd told

  pub source_starved : (next : Noted → Plan) → Starved (source_plan d name next) f g
  source_starved next = later name most_of_source (on_source d name next) f g g bytes source_read.0 source_read.1 (at_once _ g)

pub source_untried : (d : Command) (name : List ℕ) (f g : FilesSeen) → TriesOnce f g → (next : Noted → Plan) → Starved (source_plan d name next) f g
source_untried d name f g once next = at_read name most_of_source (on_source d name next) f g once

-- the source of this name was accepted
pub source_accepted : (d : Command) (name own bytes : List ℕ) (f g : FilesSeen) (r : SourceStep) (program : Noted) → name ≡ own
    → r ≡ source.Accepted bytes program → SourceComes d name f g r → GoesOn (source_plan d own) f g program
source_accepted d name own bytes f g r program same is comes =
    subst (λ n. GoesOn (source_plan d n) f g program) same (subst (SourceComes d name f g) is comes).0

pub source_is : (d : Command) (name bytes : List ℕ) (f g : FilesSeen) (r : SourceStep) (program : Noted)
    → r ≡ source.Accepted bytes program → SourceComes d name f g r → accepted bytes ≡ Ok program
source_is d name bytes f g r program is comes = (subst (SourceComes d name f g) is comes).1

-- the source of this name was answered for
pub source_answered : (d : Command) (name own : List ℕ) (f g : FilesSeen) (r : SourceStep) (a : Answer) → name ≡ own
    → r ≡ source.Answered a → SourceComes d name f g r → (next : Noted → Plan) → Came (source_plan d own next) f g a
source_answered d name own f g r a same is comes next =
    subst (λ n. Came (source_plan d n next) f g a) same ((subst (SourceComes d name f g) is comes) next)

-- ---- an input

module _ (name bytes : List ℕ) (f g : FilesSeen) (r : FileRead) (read : r ≡ file.Bytes bytes) (reading : Reading name most_of_input f g r) where
  input_read : ReadsOnce f g × IsBeginning f name most_of_input bytes
  input_read = read_bytes name most_of_input f g r bytes read reading

  pub input_goes : (input : List ℤ) → numbers_of bytes ≡ Ok input → GoesOn (input_plan name) f g input
  input_goes input is = record {
    came = λ next last a c. read_on name most_of_input (λ text. if_numbers name next (numbers_of text)) f g last bytes a input_read.0 input_read.1 (rw is c);
    starved = λ next last s. later name most_of_input (λ text. if_numbers name next (numbers_of text)) f g last bytes input_read.0 input_read.1 (rw is s);
  }

  pub input_refused : (fault : InputCause) (a : Answer) → numbers_of bytes ≡ Err fault → a ≡ failed 7 (input_cause_text name fault) → (next : List ℤ → Plan)
      → Came (input_plan name next) f g a
  input_refused fault a is same next = read_on name most_of_input (λ text. if_numbers name next (numbers_of text)) f g g bytes a input_read.0 input_read.1
      (rw is (came_answer _ a g same))

  pub input_starved : (next : List ℤ → Plan) → Starved (input_plan name next) f g
  input_starved next = later name most_of_input (λ text. if_numbers name next (numbers_of text)) f g g bytes input_read.0 input_read.1 (at_once _ g)

pub input_untried : (name : List ℕ) (f g : FilesSeen) → TriesOnce f g → (next : List ℤ → Plan) → Starved (input_plan name next) f g
input_untried name f g once next = at_read name most_of_input (λ text. if_numbers name next (numbers_of text)) f g once

-- ---- inputs

-- before the first of them
pub inputs_begin : (names : List (List ℕ)) (f : FilesSeen) (all : List (List ℤ)) → all ≡ [] → Onward names f names f all
inputs_begin names f all is =
    subst (Onward names f names f) (sym is)
    (record { before = λ more. more; same = λ more. refl; came = λ next last a c. c; starved = λ next last s. s })

-- the first of those that are left
pub next_named : (words : List (List ℕ)) (places : List ℕ) (i place d : ℕ) (name : List ℕ) → i < length places → place ≡ get_or places i d
    → name ≡ word_at words place → map (word_at words) (drop i places) ≡ name ∷ map (word_at words) (drop (i + 1) places)
next_named words places i place d name within is named = rw (drop_more places i d within, named, is) refl

module _ (names : List (List ℕ)) (f : FilesSeen) (name : List ℕ) (others : List (List ℕ)) (g h : FilesSeen) (all : List (List ℤ)) (r : InputStep)
    (so_far : Onward names f (name ∷ others) g all) (comes : InputComes name g h r) where
  abbrev on_input : (List (List ℤ) → Plan) → List ℤ → Plan
  on_input next ms = inputs_plan others (λ more. next (so_far.before (ms ∷ more)))

  pub inputs_go : (ns : List ℤ) → r ≡ input.Numbers ns → Onward names f others h (all ++ (ns ∷ []))
  inputs_go ns is =
      let goes : GoesOn (input_plan name) g h ns = subst (InputComes name g h) is comes in
      record {
        before = λ more. so_far.before (ns ∷ more);
        same = λ more. so_far.same (ns ∷ more) ∙ sym (append_assoc all (ns ∷ []) more);
        came = λ next last a c. so_far.came next last a (goes.came (on_input next) last a c);
        starved = λ next last s. so_far.starved next last (goes.starved (on_input next) last s);
      }

  pub inputs_end : (a : Answer) → r ≡ input.Answered a → (next : List (List ℤ) → Plan) → Came (inputs_plan names next) f h a
  inputs_end a is next = so_far.came next h a ((subst (InputComes name g h) is comes) (on_input next))

pub inputs_starve : (names : List (List ℕ)) (f : FilesSeen) (name : List ℕ) (others : List (List ℕ)) (g h : FilesSeen) (all : List (List ℤ))
    → Onward names f (name ∷ others) g all → Starves (input_plan name) g h → Starves (inputs_plan names) f h
inputs_starve names f name others g h all so_far starves next =
    so_far.starved next h (starves (λ ms. inputs_plan others (λ more. next (so_far.before (ms ∷ more)))))

-- memory runs out between two of them
pub inputs_stop : (names : List (List ℕ)) (f : FilesSeen) (others : List (List ℕ)) (g : FilesSeen) (all : List (List ℤ))
    → Onward names f others g all → Starves (inputs_plan names) f g
inputs_stop names f others g all so_far next = so_far.starved next g (at_once _ g)

-- all were read
pub inputs_all : (names : List (List ℕ)) (f g : FilesSeen) (all : List (List ℤ)) → Onward names f [] g all → GoesOn (inputs_plan names) f g all
inputs_all names f g all so_far =
    let same : so_far.before [] ≡ all = so_far.same [] ∙ append-nil all in
    record {
      came = λ next last a c. so_far.came next last a (subst (λ x. Came (next x) g last a) (sym same) c);
      starved = λ next last s. so_far.starved next last (subst (λ x. Starved (next x) g last) (sym same) s);
    }

-- ---- what is done then

module _ (c : Command) (words : List (List ℕ)) (job : Job) (program : Noted) (name : List ℕ) (named : name ≡ source_name words job) where
  -- the program lacks the loop of a search
  pub lacks_loop : (line : List ℕ) (a : Answer) (f : FilesSeen) (n : ℕ) → missing_loop c program ≡ Some n → line ≡ no_loop_text name n
      → a ≡ failed 1 line → Came (after_source c words job program) f f a
  lacks_loop line a f n lacks is same =
      came_planned (after_source c words job program) (Answers (failed 1 (no_loop_text (source_name words job) n))) f a
      (ap Answers (same ∙ ap (failed 1) (is ∙ ap (λ x. no_loop_text x n) named))) (rw lacks refl)

  module _ (all given : List (List ℤ)) (f h : FilesSeen) (r : InputsStep) (has : missing_loop c program ≡ None) (is : r ≡ inputs.Numbers all)
      (comes : InputsCome (input_names words job) f h r) where
    last_plan : List (List ℤ) → Plan
    last_plan ns = Answers (answer_of c (source_name words job) program ns)

    goes : GoesOn (inputs_plan (input_names words job)) f h all
    goes = (subst (InputsCome (input_names words job) f h) is comes).0

    pub inputs_done : (out : Result Answer AllocError) → given ≡ all → IfOk out (λ a. a ≡ answer_of c name program given)
        → IfOk out (Came (after_source c words job program) f h)
    unfolding last_plan
    inputs_done out same done =
        if_ok out _ _
        (λ a e. rw has (goes.came last_plan h a
        (came_answer _ a h (e ∙ ap (λ n. answer_of c n program given) named ∙ ap (answer_of c (source_name words job) program) same)))) done

    pub inputs_starved : (out : Result Answer AllocError) → OnErr out (Starved (after_source c words job program) f h)
    unfolding last_plan
    inputs_starved out = on_any_err out _ (rw has (goes.starved last_plan h (at_once _ h)))
