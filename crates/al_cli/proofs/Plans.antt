-- What holds of all answers of the plan of words.
use Rattle.std.proofs.Common.{◌≡◌, inl, inr, ℕ, nat_lt, Bool, true, false, if◌then◌else◌, List, [], ◌∷◌, codes, Option, None, Some, Result, Ok, Err, IsSomeAnd, ℤ, length, refl, sym, ap, subst, ◌∙◌}
use Rattle.al_core.specs.declared.reports.Ending.{Ending}
use Rattle.al_core.specs.declared.reports.Ending.TheVariants as ending
use Rattle.al_rules.specs.Refusals.{Noted, accepted}
use Rattle.al_gen.specs.Generated.{source as made_source}
use Rattle.al_report.specs.Faults.{input_cause_text}
use Rattle.al_report.specs.Tables.{no_loop_text}
use Rattle.al_rules.specs.declared.faults.Refusal.{Refusal}
use Rattle.al_rules.specs.declared.faults.Refusal.TheVariants.{Lexical, Grammar, Layout, Types, Notes, TooManyNodes}
use Rattle.al_front.specs.declared.fault.BadTokens.{BadTokens}
use Rattle.al_front.specs.Places.{IsBadIn, bad_tokens}
use Rattle.al_front.proofs.Places.{bad_told}
use Rattle.al_answers.specs.declared.answers.Answer.{Answer}
use Rattle.al_answers.specs.Plans.{Plan, Reads, Answers, failed, ReadsInOrder, AllAnswers}
use Rattle.al_answers.specs.Written.{IsOneOf}
use Rattle.al_text.specs.declared.faults.InputCause.{InputCause}
use Rattle.al_text.specs.Numbers.{numbers_of}
use Rattle.al_words.specs.declared.command.Command.{Command}
use Rattle.al_words.specs.declared.command.Command.TheVariants.{Run, Plain, Trace, Infer, Check, Demo}
use Rattle.al_words.specs.declared.command.Job.{Job}
use Rattle.al_words.specs.declared.command.WordFault.{WordFault}
use Rattle.al_words.specs.Words.{command}
use Rattle.al_words.specs.Jobs.{job_of, source_name, input_names}
use Rattle.al_cli.specs.Shown.{answer_of, ended, bad_line_or_none, refused_line, if_accepted, source_plan, missing_loop, unless_missing, if_numbers, input_plan, inputs_plan, after_source, made_inputs, made_plan, plan_by, plan_of, plan, job_names, names_by, names_of}
use Rattle.al_cli.specs.Why.{IsNamed, AreNumbers, Why, words_refused, source_refused, token_bad, no_loop, input_refused, all_done, made_done}

-- ---- parts of plans

source_all : (P : Answer → Type 0) (c : Command) (name : List ℕ) (next : Noted → Plan)
    → ((source : List ℕ) (cause : Refusal) → accepted source ≡ Err cause → P (failed 1 (refused_line c name source cause)))
    → ((source : List ℕ) (program : Noted) → accepted source ≡ Ok program → AllAnswers P (next program))
    → AllAnswers P (source_plan c name next)
source_all P c name next refused on = λ source. by_result source (accepted source) refl
  where
    by_result : (source : List ℕ) (r : Result Noted Refusal) → accepted source ≡ r → AllAnswers P (if_accepted (refused_line c name source) next r)
    by_result source (Ok program) e = on source program e
    by_result source (Err cause) e = refused source cause e

input_all : (P : Answer → Type 0) (name : List ℕ) (next : List ℤ → Plan)
    → ((text : List ℕ) (fault : InputCause) → numbers_of text ≡ Err fault → P (failed 7 (input_cause_text name fault)))
    → ((ns : List ℤ) → ((text : List ℕ) × (numbers_of text ≡ Ok ns)) → AllAnswers P (next ns))
    → AllAnswers P (input_plan name next)
input_all P name next refused on = λ text. by_result text (numbers_of text) refl
  where
    by_result : (text : List ℕ) (r : Result (List ℤ) InputCause) → numbers_of text ≡ r → AllAnswers P (if_numbers name next r)
    by_result text (Ok ns) e = on ns (text, e)
    by_result text (Err fault) e = refused text fault e

inputs_all : (P : Answer → Type 0) (names : List (List ℕ)) (next : List (List ℤ) → Plan)
    → ((name text : List ℕ) (fault : InputCause) → IsNamed name names → numbers_of text ≡ Err fault → P (failed 7 (input_cause_text name fault)))
    → ((inputs : List (List ℤ)) → AreNumbers names inputs → AllAnswers P (next inputs))
    → AllAnswers P (inputs_plan names next)
inputs_all P [] next refused on = on [] tt
inputs_all P (name ∷ names) next refused on =
    input_all P name (λ ns. inputs_plan names (λ others. next (ns ∷ others))) (λ text fault e. refused name text fault (inl refl) e)
    (λ ns is. inputs_all P names (λ others. next (ns ∷ others)) (λ n text fault among e. refused n text fault (inr among) e)
    (λ others are. on (ns ∷ others) (is, are)))

-- ---- every answer has its cause

missing_number : (job : Job) (k : ℕ) (program : Noted) (n : ℕ) → missing_loop (Infer job k) program ≡ Some n → n ≡ k
missing_number job k program n = by_test (nat_lt k (length program.1))
  where
    by_test : (b : Bool) → (if b then None else Some k) ≡ Some n → n ≡ k
    by_test true e = absurd cc
    by_test false e = cc

module _ (words : List (List ℕ)) where
  checked_why : (job : Job) (source : List ℕ) (cause : Refusal) → command words ≡ Ok (Check job) → accepted source ≡ Err cause
      → Why words (failed 1 (refused_line (Check job) (source_name words job) source cause))
  checked_why job source Grammar e h = by_tokens (bad_tokens source) (bad_told source h)
    where
      by_tokens : (r : Option BadTokens) → IsSomeAnd r (IsBadIn source) → Why words (failed 1 (bad_line_or_none (source_name words job) source r))
      by_tokens (Some bad) is = token_bad job source bad e is
      by_tokens None is = absurd is
  checked_why job source (Lexical cause) e h = source_refused (Check job) _ source (Lexical cause) e refl h (λ same. cc)
  checked_why job source (Layout cause) e h = source_refused (Check job) _ source (Layout cause) e refl h (λ same. cc)
  checked_why job source (Types cause) e h = source_refused (Check job) _ source (Types cause) e refl h (λ same. cc)
  checked_why job source (Notes cause) e h = source_refused (Check job) _ source (Notes cause) e refl h (λ same. cc)
  checked_why job source TooManyNodes e h = source_refused (Check job) _ source TooManyNodes e refl h (λ same. cc)

  refused_why : (c : Command) (job : Job) (source : List ℕ) (cause : Refusal) → command words ≡ Ok c → job_of c ≡ Some job
      → accepted source ≡ Err cause → Why words (failed 1 (refused_line c (source_name words job) source cause))
  refused_why (Run job) own source cause e is h =
      let same : own ≡ job = cc in source_refused (Run job) _ source cause e (ap (source_name words) same) h tt
  refused_why (Plain job) own source cause e is h =
      let same : own ≡ job = cc in source_refused (Plain job) _ source cause e (ap (source_name words) same) h tt
  refused_why (Trace job) own source cause e is h =
      let same : own ≡ job = cc in source_refused (Trace job) _ source cause e (ap (source_name words) same) h tt
  refused_why (Infer job k) own source cause e is h =
      let same : own ≡ job = cc in source_refused (Infer job k) _ source cause e (ap (source_name words) same) h tt
  refused_why (Check job) own source cause e is h =
      let same : job ≡ own = cc in
      subst (λ j. Why words (failed 1 (refused_line (Check job) (source_name words j) source cause))) same (checked_why job source cause e h)
  refused_why (Demo start size knobs) own source cause e is h = absurd cc

  lacks_why : (c : Command) (job : Job) (source : List ℕ) (program : Noted) → command words ≡ Ok c → job_of c ≡ Some job
      → accepted source ≡ Ok program → (n : ℕ) → missing_loop c program ≡ Some n → Why words (failed 1 (no_loop_text (source_name words job) n))
  lacks_why (Infer job k) own source program e is h n lacks =
      let same : job ≡ own = cc in
      let of_loop : n ≡ k = missing_number job k program n lacks in
      subst (λ j. Why words (failed 1 (no_loop_text (source_name words j) n))) same
      (subst (λ (i : ℕ). Why words (failed 1 (no_loop_text (source_name words job) i))) (sym of_loop)
      (no_loop job k source program e h (lacks ∙ ap Some of_loop)))
  lacks_why (Run job) own source program e is h n lacks = absurd cc
  lacks_why (Plain job) own source program e is h n lacks = absurd cc
  lacks_why (Trace job) own source program e is h n lacks = absurd cc
  lacks_why (Check job) own source program e is h n lacks = absurd cc
  lacks_why (Demo start size knobs) own source program e is h n lacks = absurd cc

  after_why : (c : Command) (job : Job) (source : List ℕ) (program : Noted) → command words ≡ Ok c → job_of c ≡ Some job
      → accepted source ≡ Ok program → AllAnswers (Why words) (after_source c words job program)
  after_why c job source program e is h = by_loop (missing_loop c program) refl
    where
      by_loop : (r : Option ℕ) → missing_loop c program ≡ r
          → AllAnswers (Why words)
          (unless_missing (source_name words job)
          (inputs_plan (input_names words job) (λ inputs. Answers (answer_of c (source_name words job) program inputs))) r)
      by_loop None has =
          inputs_all (Why words) (input_names words job) (λ inputs. Answers (answer_of c (source_name words job) program inputs))
          (λ name text fault among wrong. input_refused c job name text fault e is among wrong)
          (λ inputs are. all_done c job source program inputs e is h has are)
      by_loop (Some n) lacks = lacks_why c job source program e is h n lacks

  made_why : (c : Command) → command words ≡ Ok c → job_of c ≡ None → AllAnswers (Why words) (made_plan c)
  made_why (Demo start size knobs) e is = by_result (accepted made_source) refl
    where
      by_result : (r : Result Noted Refusal) → accepted made_source ≡ r
          → AllAnswers (Why words)
          (if_accepted (refused_line (Demo start size knobs) (codes "demo") made_source)
          (λ program. Answers (answer_of (Demo start size knobs) (codes "demo") program (made_inputs (Demo start size knobs)))) r)
      by_result (Ok program) h = made_done (Demo start size knobs) program e refl h
      by_result (Err cause) h = source_refused (Demo start size knobs) (codes "demo") made_source cause e (refl, refl) h tt
  made_why (Run job) e is = absurd cc
  made_why (Plain job) e is = absurd cc
  made_why (Trace job) e is = absurd cc
  made_why (Infer job k) e is = absurd cc
  made_why (Check job) e is = absurd cc

  by_job : (c : Command) (r : Option Job) → command words ≡ Ok c → job_of c ≡ r → AllAnswers (Why words) (plan_by c words r)
  by_job c (Some job) e is =
      source_all (Why words) c (source_name words job) (after_source c words job) (λ source cause h. refused_why c job source cause e is h)
      (λ source program h. after_why c job source program e is h)
  by_job c None e is = made_why c e is

  command_why : (r : Result Command WordFault) → command words ≡ r → AllAnswers (Why words) (plan_of words r)
  command_why (Ok c) e = by_job c (job_of c) e refl
  command_why (Err fault) e = words_refused fault e

pub every_why : (words : List (List ℕ)) → AllAnswers (Why words) (plan words)
unfolding plan
every_why words = command_why words (command words) refl

weaker : (P Q : Answer → Type 0) → ((a : Answer) → P a → Q a) → (p : Plan) → AllAnswers P p → AllAnswers Q p
weaker P Q f (Reads name most next) h = λ bytes. weaker P Q f (next bytes) (h bytes)
weaker P Q f (Answers a) h = f a h

-- ---- statuses

ended_status : (name : List ℕ) (e : Ending) (out : List ℕ) → IsOneOf (0 ∷ 3 ∷ []) (ended name e out).status
ended_status name ending.Done out = inl refl
ended_status name (ending.Trap t line) out = inr (inl refl)

pub done_status : (c : Command) (name : List ℕ) (program : Noted) (inputs : List (List ℤ))
    → IsOneOf (0 ∷ 3 ∷ []) (answer_of c name program inputs).status
done_status (Run job) name program inputs = ended_status name _ _
done_status (Plain job) name program inputs = ended_status name _ _
done_status (Trace job) name program inputs = ended_status name _ _
done_status (Infer job k) name program inputs = inl refl
done_status (Check job) name program inputs = inl refl
done_status (Demo start size knobs) name program inputs = ended_status name _ _

of_run : (n : ℕ) → IsOneOf (0 ∷ 3 ∷ []) n → IsOneOf (0 ∷ 1 ∷ 2 ∷ 3 ∷ 7 ∷ []) n
of_run n (inl h) = inl h
of_run n (inr (inl h)) = inr (inr (inr (inl h)))
of_run n (inr (inr h)) = elim h [ ]

why_status : (words : List (List ℕ)) (a : Answer) → Why words a → IsOneOf (0 ∷ 1 ∷ 2 ∷ 3 ∷ 7 ∷ []) a.status
why_status words _ (words_refused fault e) = inr (inr (inl refl))
why_status words _ (source_refused c name source cause e is h tells) = inr (inl refl)
why_status words _ (token_bad job source bad e is) = inr (inl refl)
why_status words _ (no_loop job k source program e h lacks) = inr (inl refl)
why_status words _ (input_refused c job name text fault e is among h) = inr (inr (inr (inr (inl refl))))
why_status words _ (all_done c job source program inputs e is h has are) = of_run _ (done_status c (source_name words job) program inputs)
why_status words _ (made_done c program e is h) = of_run _ (done_status c (codes "demo") program (made_inputs c))

pub own_statuses : (words : List (List ℕ)) → AllAnswers (λ a. IsOneOf (0 ∷ 1 ∷ 2 ∷ 3 ∷ 7 ∷ []) a.status) (plan words)
own_statuses words = weaker (Why words) _ (why_status words) (plan words) (every_why words)

-- ---- the order of reads

none_left : (a : Answer) (ns : List (List ℕ)) → ReadsInOrder ns (Answers a)
none_left a [] = tt
none_left a (n ∷ ns) = tt

source_order : (c : Command) (name : List ℕ) (names : List (List ℕ)) (next : Noted → Plan)
    → ((program : Noted) → ReadsInOrder names (next program)) → ReadsInOrder (name ∷ names) (source_plan c name next)
source_order c name names next on = (refl, λ source. by_result (refused_line c name source) (accepted source))
  where
    by_result : (line : Refusal → List ℕ) (r : Result Noted Refusal) → ReadsInOrder names (if_accepted line next r)
    by_result line (Ok program) = on program
    by_result line (Err cause) = none_left (failed 1 (line cause)) names

inputs_order : (names : List (List ℕ)) (next : List (List ℤ) → Plan) → ((inputs : List (List ℤ)) → ReadsInOrder [] (next inputs))
    → ReadsInOrder names (inputs_plan names next)
inputs_order [] next on = on []
inputs_order (name ∷ names) next on =
    (refl, λ text. by_result (λ ns. inputs_order names (λ others. next (ns ∷ others)) (λ others. on (ns ∷ others))) (numbers_of text))
  where
    by_result : ((ns : List ℤ) → ReadsInOrder names (inputs_plan names (λ others. next (ns ∷ others)))) → (r : Result (List ℤ) InputCause)
        → ReadsInOrder names (if_numbers name (λ ns. inputs_plan names (λ others. next (ns ∷ others))) r)
    by_result goes (Ok ns) = goes ns
    by_result goes (Err fault) = none_left (failed 7 (input_cause_text name fault)) names

after_order : (c : Command) (words : List (List ℕ)) (job : Job) (program : Noted)
    → ReadsInOrder (input_names words job) (after_source c words job program)
after_order c words job program = by_loop (missing_loop c program)
  where
    by_loop : (r : Option ℕ)
        → ReadsInOrder (input_names words job)
        (unless_missing (source_name words job)
        (inputs_plan (input_names words job) (λ inputs. Answers (answer_of c (source_name words job) program inputs))) r)
    by_loop None = inputs_order (input_names words job) (λ inputs. Answers (answer_of c (source_name words job) program inputs)) (λ inputs. tt)
    by_loop (Some n) = none_left (failed 1 (no_loop_text (source_name words job) n)) (input_names words job)

made_order : (c : Command) → ReadsInOrder [] (made_plan c)
made_order c = by_result (accepted made_source)
  where
    by_result : (r : Result Noted Refusal)
        → ReadsInOrder []
        (if_accepted (refused_line c (codes "demo") made_source) (λ program. Answers (answer_of c (codes "demo") program (made_inputs c))) r)
    by_result (Ok program) = tt
    by_result (Err cause) = tt

job_order : (c : Command) (words : List (List ℕ)) (r : Option Job) → ReadsInOrder (job_names words r) (plan_by c words r)
job_order c words (Some job) =
    source_order c (source_name words job) (input_names words job) (after_source c words job) (after_order c words job)
job_order c words None = made_order c

command_order : (words : List (List ℕ)) (r : Result Command WordFault) → ReadsInOrder (names_by words r) (plan_of words r)
command_order words (Ok c) = job_order c words (job_of c)
command_order words (Err fault) = tt

pub in_order : (words : List (List ℕ)) → ReadsInOrder (names_of words) (plan words)
unfolding plan
in_order words = command_order words (command words)
