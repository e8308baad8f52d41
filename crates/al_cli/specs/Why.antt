-- Why an answer is given, whether or not the files tell their contents.
use Rattle.std.specs.Prelude.{⊤, ◌≡◌, ◌≢◌, ◌⊎◌, ℕ, List, [], ◌∷◌, codes, Option, Some, None, Ok, Err, ℤ}
use Rattle.al_rules.specs.Refusals.{Noted, accepted}
use Rattle.al_gen.specs.Generated.{source as made_source}
use Rattle.al_report.specs.Faults.{refusal_text, input_cause_text}
use Rattle.al_report.specs.Tables.{no_loop_text}
use Rattle.al_rules.specs.declared.faults.Refusal.{Refusal}
use Rattle.al_rules.specs.declared.faults.Refusal.TheVariants.{Grammar}
use Rattle.al_front.specs.declared.fault.BadTokens.{BadTokens}
use Rattle.al_front.specs.Places.{IsBadIn}
use Rattle.al_answers.specs.declared.answers.Answer.{Answer}
use Rattle.al_answers.specs.Plans.{failed}
use Rattle.al_text.specs.declared.faults.InputCause.{InputCause}
use Rattle.al_text.specs.Numbers.{numbers_of}
use Rattle.al_words.specs.declared.command.Command.{Command}
use Rattle.al_words.specs.declared.command.Command.TheVariants.{Infer, Check}
use Rattle.al_words.specs.declared.command.Job.{Job}
use Rattle.al_words.specs.declared.command.WordFault.{WordFault}
use Rattle.al_words.specs.Words.{command}
use Rattle.al_words.specs.Jobs.{job_of, source_name, input_names}
use Rattle.al_cli.specs.Lines.{word_line}
use Rattle.al_cli.specs.Shown.{answer_of, bad_line, missing_loop, made_inputs}

-- a command's source has this name; the generated program is that of `demo`
abbrev pub IsSource : List (List ℕ) → Option Job → List ℕ → List ℕ → Type 0
IsSource words (Some job) name source = name ≡ source_name words job
IsSource words None name source = (name ≡ codes "demo") × (source ≡ made_source)

-- the line is that of the cause; of the grammar `check` tells more
abbrev pub TellsCause : Command → Refusal → Type 0
TellsCause (Check job) cause = cause ≢ Grammar
TellsCause _ cause = ⊤

-- a name is one of these
abbrev pub IsNamed : List ℕ → List (List ℕ) → Type 0
IsNamed name [] = ⊥
IsNamed name (n ∷ ns) = (name ≡ n) ⊎ IsNamed name ns

-- texts of so many inputs are these numbers, one after another
abbrev pub AreNumbers : List (List ℕ) → List (List ℤ) → Type 0
AreNumbers [] [] = ⊤
AreNumbers (name ∷ names) (ns ∷ others) = ((text : List ℕ) × (numbers_of text ≡ Ok ns)) × AreNumbers names others
AreNumbers _ _ = ⊥

pub data Why (words : List (List ℕ)) : Answer → Type 0 where
  -- status 2: the words are refused
  words_refused : (fault : WordFault) → command words ≡ Err fault → Why words (failed 2 (word_line words fault))
  -- status 1: the source is refused
  source_refused : (c : Command) (name source : List ℕ) (cause : Refusal) → command words ≡ Ok c
      → IsSource words (job_of c) name source → accepted source ≡ Err cause → TellsCause c cause
      → Why words (failed 1 (refusal_text name cause))
  -- status 1: the tokens of the source derive no program, and the first bad one is told
  token_bad : (job : Job) (source : List ℕ) (bad : BadTokens) → command words ≡ Ok (Check job) → IsBadIn source bad
      → Why words (failed 1 (bad_line (source_name words job) source bad))
  -- status 1: the program has no loop of the number
  no_loop : (job : Job) (k : ℕ) (source : List ℕ) (program : Noted) → command words ≡ Ok (Infer job k)
      → accepted source ≡ Ok program → missing_loop (Infer job k) program ≡ Some k
      → Why words (failed 1 (no_loop_text (source_name words job) k))
  -- status 7: an input is refused
  input_refused : (c : Command) (job : Job) (name text : List ℕ) (fault : InputCause) → command words ≡ Ok c
      → job_of c ≡ Some job → IsNamed name (input_names words job) → numbers_of text ≡ Err fault
      → Why words (failed 7 (input_cause_text name fault))
  -- status 0 or 3: it was done
  all_done : (c : Command) (job : Job) (source : List ℕ) (program : Noted) (inputs : List (List ℤ))
      → command words ≡ Ok c → job_of c ≡ Some job → accepted source ≡ Ok program → missing_loop c program ≡ None
      → AreNumbers (input_names words job) inputs
      → Why words (answer_of c (source_name words job) program inputs)
  -- status 0 or 3: the generated program was run
  made_done : (c : Command) (program : Noted) → command words ≡ Ok c → job_of c ≡ None
      → accepted made_source ≡ Ok program → Why words (answer_of c (codes "demo") program (made_inputs c))
