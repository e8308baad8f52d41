-- Clauses of the top call that speak of valid words, and of refused ones.
use Rattle.std.proofs.Common.{◌≡◌, ◌≢◌, ◌⊎◌, inl, inr, ℕ, ◌<◌, length, true, List, [], ◌∷◌, Option, None, Some, Result, Ok, Err, IfSome, IsErr, ℤ, refl, ap, subst, ◌∙◌, arith, rules}
use Rattle.al_rules.specs.Refusals.{Noted}
use Rattle.al_front.specs.declared.fault.BadTokens.{BadTokens}
use Rattle.al_front.specs.Places.{IsBadIn}
use Rattle.al_io.specs.Contents.{Contents, contents_of}
use Rattle.al_io.specs.Counts.{DidNotRise}
use Rattle.al_answers.specs.declared.answers.Answer.{Answer}
use Rattle.al_answers.specs.Plans.{failed}
use Rattle.al_answers.specs.Seen.{FilesSeen, SinkSeen}
use Rattle.al_answers.specs.Outcome.{Outcome}
use Rattle.al_answers.specs.Written.{IsOneOf, Writes}
use Rattle.al_answers.proofs.Options.{if_so}
use Rattle.al_answers.proofs.Outcomes.{at, is_as_played, only_answer}
use Rattle.al_words.specs.declared.command.Command.{Command}
use Rattle.al_words.specs.declared.command.Command.TheVariants.{Run, Infer, Check}
use Rattle.al_words.specs.declared.command.Job.{Job}
use Rattle.al_words.specs.declared.command.WordFault.{WordFault}
use Rattle.al_words.specs.Words.{command}
use Rattle.al_words.specs.Jobs.{source_name}
use Rattle.al_search.specs.Search.{searched}
use Rattle.al_cli.specs.Lines.{word_line}
use Rattle.al_cli.specs.Shown.{lockstep_report, first_input, done, bytes_of, missing_loop, bad_line, plan_of, plan, shown}
use Rattle.al_cli.specs.Headline.{Holds, IsValid}
use Rattle.al_cli.proofs.Valid.{holds_shows, bad_shows, valid_status}

module _ (words : List (List ℕ)) (f g : FilesSeen) (o p e q : SinkSeen) where
  pub headline : (s : ℕ) → Outcome (plan words) (at f g o p e q s) → (job : Job) → (program : Noted) → (inputs : List (List ℤ)) → command words ≡ Ok (Run job)
      → DidNotRise f.faults g.faults → DidNotRise o.faults p.faults → DidNotRise e.faults q.faults → s ≢ 6
      → IfSome f.contents (λ files. Holds words files job program inputs
      → Writes (bytes_of (source_name words job) (lockstep_report program (first_input inputs) job.knobs)) (at f g o p e q s))
  headline s outcome job program inputs is still still_out still_err not_six =
      if_so f.contents _ _
      (λ files w h. subst (λ a. Writes a (at f g o p e q s)) (holds_shows words files (Run job) job program inputs is refl refl h) w)
      (is_as_played (plan words) f g o p e q s outcome still still_out still_err not_six)

  pub table : (s : ℕ) → Outcome (plan words) (at f g o p e q s) → (job : Job) (k : ℕ) (program : Noted) (inputs : List (List ℤ))
      → command words ≡ Ok (Infer job k) → DidNotRise f.faults g.faults → DidNotRise o.faults p.faults → DidNotRise e.faults q.faults → s ≢ 6
      → k < length program.1
      → IfSome f.contents (λ files. Holds words files job program inputs → Writes (done (searched program k inputs job.knobs)) (at f g o p e q s))
  table s outcome job k program inputs is still still_out still_err not_six there =
      let has : missing_loop (Infer job k) program ≡ None = search (rules, there) in
      if_so f.contents _ _
      (λ files w h. subst (λ a. Writes a (at f g o p e q s)) (holds_shows words files (Infer job k) job program inputs is refl has h) w)
      (is_as_played (plan words) f g o p e q s outcome still still_out still_err not_six)

  pub bad_token : (s : ℕ) → Outcome (plan words) (at f g o p e q s) → (job : Job) (source : List ℕ) (bad : BadTokens) → command words ≡ Ok (Check job)
      → IsBadIn source bad → DidNotRise f.faults g.faults → DidNotRise o.faults p.faults → DidNotRise e.faults q.faults → s ≢ 6
      → IfSome f.contents (λ files. contents_of files (source_name words job) ≡ Some source
      → Writes (failed 1 (bad_line (source_name words job) source bad)) (at f g o p e q s))
  bad_token s outcome job source bad is h still still_out still_err not_six =
      if_so f.contents _ _ (λ files w there. subst (λ a. Writes a (at f g o p e q s)) (bad_shows words files job source bad is there h) w)
      (is_as_played (plan words) f g o p e q s outcome still still_out still_err not_six)

  with_six : (s : ℕ) (a : Answer) → (s ≢ 6 → Writes a (at f g o p e q s)) → IsOneOf (0 ∷ 3 ∷ []) a.status → (s ≡ 6) ⊎ (s ≢ 6) → IsOneOf (0 ∷ 3 ∷ 6 ∷ []) s
  with_six s a w h (inl six) = inr (inr (inl six))
  with_six s a w (inl h) (inr not_six) = inl ((w not_six).ends ∙ h)
  with_six s a w (inr (inl h)) (inr not_six) = inr (inl ((w not_six).ends ∙ h))
  with_six s a w (inr (inr h)) (inr not_six) = elim h [ ]

  six_or_not : (s : ℕ) → (s ≡ 6) ⊎ (s ≢ 6)
  six_or_not s = grind arith

  pub complete : (s : ℕ) → Outcome (plan words) (at f g o p e q s) → DidNotRise f.faults g.faults → DidNotRise o.faults p.faults → DidNotRise e.faults q.faults
      → IfSome f.contents (λ files. IsValid words files → IsOneOf (0 ∷ 3 ∷ 6 ∷ []) s)
  complete s outcome still still_out still_err = by_six (six_or_not s)
    where
      by_six : (s ≡ 6) ⊎ (s ≢ 6) → IfSome f.contents (λ files. IsValid words files → IsOneOf (0 ∷ 3 ∷ 6 ∷ []) s)
      by_six (inl six) = every f.contents (λ files h. inr (inr (inl six)))
        where
          every : (r : Option Contents) → ((files : Contents) → IsValid words files → IsOneOf (0 ∷ 3 ∷ 6 ∷ []) s)
              → IfSome r (λ files. IsValid words files → IsOneOf (0 ∷ 3 ∷ 6 ∷ []) s)
          every None k = tt
          every (Some files) k = k files
      by_six (inr not_six) = if_so f.contents _ _ (λ files w h. with_six s (shown words files) (λ never. w) (valid_status words files h) (inr not_six))
          (is_as_played (plan words) f g o p e q s outcome still still_out still_err not_six)

  -- refused words are answered so, unless a put fails or memory runs out
  pub words_give : (s : ℕ) → Outcome (plan words) (at f g o p e q s) → IsErr (command words) → IsOneOf (2 ∷ 5 ∷ 6 ∷ []) s
  unfolding plan
  words_give s outcome refused = by_command (command words) refl refused
    where
      by_command : (r : Result Command WordFault) → command words ≡ r → IsErr r → IsOneOf (2 ∷ 5 ∷ 6 ∷ []) s
      by_command (Ok c) is h = absurd cc
      by_command (Err fault) is h = only_answer (plan words) f g o p e q (failed 2 (word_line words fault)) (ap (plan_of words) is) s outcome
