-- What valid words show.
use Rattle.std.proofs.Common.{◌≡◌, ◌⊎◌, inl, inr, ℕ, ◌<◌, ◌≤◌, true, false, nat_lt, nat_le, List, [], ◌∷◌, length, take, codes, Option, None, Some, Ok, Err, ℤ, refl, sym, ap, subst, ◌∙◌, arith, rules}
use Rattle.std.proofs.lemmas.List.{take_all, length-take}
use Rattle.al_source.specs.declared.limits.TheConstants.{SOURCE_BYTES, INPUT_BYTES}
use Rattle.al_rules.specs.Refusals.{Noted, accepted}
use Rattle.al_io.specs.Contents.{Contents, contents_of}
use Rattle.al_rules.specs.declared.faults.Refusal.TheVariants.{Lexical}
use Rattle.al_rules.specs.declared.faults.LexicalCause.TheVariants as lex
use Rattle.al_front.specs.declared.fault.BadTokens.{BadTokens}
use Rattle.al_front.specs.Places.{IsBadIn}
use Rattle.al_front.proofs.Places.{bad_one, bad_refused}
use Rattle.al_source_facts.specs.GeneratedTree.{tree, entries}
use Rattle.al_source_facts.proofs.GeneratedAccepting.{generated_accepted}
use Rattle.al_answers.specs.declared.answers.Answer.{Answer}
use Rattle.al_answers.specs.Plans.{Plan, Answers, failed, played}
use Rattle.al_answers.specs.Written.{IsOneOf}
use Rattle.al_text.specs.declared.faults.InputCause.TheVariants.{TooLong}
use Rattle.al_text.specs.Numbers.{numbers_of}
use Rattle.al_words.specs.declared.command.Command.{Command}
use Rattle.al_words.specs.declared.command.Command.TheVariants.{Check}
use Rattle.al_words.specs.declared.command.Job.{Job}
use Rattle.al_words.specs.Words.{command}
use Rattle.al_words.specs.Jobs.{job_of, source_name, input_names}
use Rattle.al_cli.specs.Shown.{answer_of, bad_line, bad_line_or_none, refused_line, if_accepted, source_plan, inputs_plan, most_of_source, most_of_input, missing_loop, after_source, made_inputs, plan_by, plan_of, plan, shown}
use Rattle.al_cli.specs.Headline.{HaveInputs, Holds, IsValid, to_do, to_show}
use Rattle.al_cli.proofs.Plans.{done_status}

le_or_lt : (m n : ℕ) → (m ≤ n) ⊎ (n < m)
le_or_lt m n = grind arith

-- ---- the bytes that are read of a file are as good as all of them

long_source : (source : List ℕ) → SOURCE_BYTES < length source → accepted source ≡ Err (Lexical lex.TooLong)
unfolding accepted
long_source source h = let long : nat_lt SOURCE_BYTES (length source) ≡ true = search (rules, h) in rw long refl

source_by_length : (source : List ℕ) → (length source ≤ most_of_source) ⊎ (most_of_source < length source)
    → accepted (take most_of_source source) ≡ accepted source
source_by_length source (inl few) = rw (take_all most_of_source source few) refl
source_by_length source (inr many) =
    let cut : SOURCE_BYTES < length (take most_of_source source) = rw (length-take most_of_source source) (omega arith) in
    long_source (take most_of_source source) cut ∙ sym (long_source source (omega arith))

same_source : (source : List ℕ) → accepted (take most_of_source source) ≡ accepted source
same_source source = source_by_length source (le_or_lt (length source) most_of_source)

long_input : (text : List ℕ) → INPUT_BYTES < length text → numbers_of text ≡ Err TooLong
long_input text h = let long : nat_le (length text) INPUT_BYTES ≡ false = search (rules, h) in rw long refl

input_by_length : (text : List ℕ) → (length text ≤ most_of_input) ⊎ (most_of_input < length text) → numbers_of (take most_of_input text) ≡ numbers_of text
input_by_length text (inl few) = rw (take_all most_of_input text few) refl
input_by_length text (inr many) =
    let cut : INPUT_BYTES < length (take most_of_input text) = rw (length-take most_of_input text) (omega arith) in
    long_input (take most_of_input text) cut ∙ sym (long_input text (omega arith))

same_input : (text : List ℕ) → numbers_of (take most_of_input text) ≡ numbers_of text
same_input text = input_by_length text (le_or_lt (length text) most_of_input)

-- ---- plans over these files

source_played : (files : Contents) (c : Command) (name source : List ℕ) (program : Noted) (next : Noted → Plan) → contents_of files name ≡ Some source
    → accepted source ≡ Ok program → played files (source_plan c name next) ≡ played files (next program)
source_played files c name source program next there is = rw (there, same_source source, is) refl

inputs_played : (files : Contents) (names : List (List ℕ)) (inputs : List (List ℤ)) (f : List (List ℤ) → Answer) → HaveInputs files names inputs
    → played files (inputs_plan names (λ all. Answers (f all))) ≡ f inputs
inputs_played files [] [] f h = refl
inputs_played files (name ∷ names) (ns ∷ others) f h =
    let text = h.0 in
    rw (text.1, same_input text.0, text.2) (inputs_played files names others (λ all. f (ns ∷ all)) h.1)
inputs_played files [] (ns ∷ others) f h = absurd h
inputs_played files (name ∷ names) [] f h = absurd h

shown_by : (words : List (List ℕ)) (files : Contents) → shown words files ≡ played files (plan_of words (command words))
unfolding plan
shown_by words files = refl

shown_of : (words : List (List ℕ)) (files : Contents) (c : Command) (r : Option Job) → command words ≡ Ok c → job_of c ≡ r
    → shown words files ≡ played files (plan_by c words r)
shown_of words files c r e is =
    shown_by words files ∙ ap (λ x. played files (plan_of words x)) e ∙ ap (λ x. played files (plan_by c words x)) is

pub holds_shows : (words : List (List ℕ)) (files : Contents) (c : Command) (job : Job) (program : Noted) (inputs : List (List ℤ)) → command words ≡ Ok c
    → job_of c ≡ Some job → missing_loop c program ≡ None → Holds words files job program inputs
    → shown words files ≡ answer_of c (source_name words job) program inputs
holds_shows words files c job program inputs e is has h =
    shown_of words files c (Some job) e is
    ∙ source_played files c (source_name words job) h.source program (after_source c words job) h.there h.is_accepted
    ∙ rw has (inputs_played files (input_names words job) inputs (answer_of c (source_name words job) program) h.have_inputs)

pub valid_status : (words : List (List ℕ)) (files : Contents) → IsValid words files → IsOneOf (0 ∷ 3 ∷ []) (shown words files).status
valid_status words files (to_do c job program inputs e is h has) = subst (λ (a : Answer). IsOneOf (0 ∷ 3 ∷ []) a.status)
    (sym (holds_shows words files c job program inputs e is has h)) (done_status c (source_name words job) program inputs)
valid_status words files (to_show c e is) =
    subst (λ (a : Answer). IsOneOf (0 ∷ 3 ∷ []) a.status) (sym (shown_of words files c None e is))
    (rw generated_accepted (done_status c (codes "demo") (tree, entries) (made_inputs c)))

-- ---- a source whose tokens derive no program

bad_next : (job : Job) (name source : List ℕ) (bad : BadTokens) (next : Noted → Plan) → IsBadIn source bad
    → if_accepted (refused_line (Check job) name source) next (accepted source) ≡ Answers (failed 1 (bad_line name source bad))
bad_next job name source bad next h =
    ap (if_accepted (refused_line (Check job) name source) next) (bad_refused source bad h)
    ∙ ap (λ r. Answers (failed 1 (bad_line_or_none name source r))) (bad_one source bad h)

bad_played : (files : Contents) (job : Job) (name source : List ℕ) (bad : BadTokens) (next : Noted → Plan) → contents_of files name ≡ Some source
    → IsBadIn source bad → played files (source_plan (Check job) name next) ≡ failed 1 (bad_line name source bad)
bad_played files job name source bad next there h =
    let whole : take most_of_source source ≡ source = take_all most_of_source source (omega (arith, h.short)) in
    rw there (subst
    (λ bytes. played files (if_accepted (refused_line (Check job) name bytes) next (accepted bytes)) ≡ failed 1 (bad_line name source bad))
    (sym whole) (ap (played files) (bad_next job name source bad next h)))

pub bad_shows : (words : List (List ℕ)) (files : Contents) (job : Job) (source : List ℕ) (bad : BadTokens) → command words ≡ Ok (Check job)
    → contents_of files (source_name words job) ≡ Some source → IsBadIn source bad
    → shown words files ≡ failed 1 (bad_line (source_name words job) source bad)
bad_shows words files job source bad e there h =
    shown_by words files ∙ ap (λ r. played files (plan_of words r)) e ∙ bad_played files job (source_name words job) source bad _ there h
