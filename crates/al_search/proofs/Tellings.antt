-- What a trial tells, from the run that it made.
use Rattle.std.proofs.Common.{◌≡◌, ◌<◌, ◌^◌, ℕ, ℤ, false, List, Option, Result, IfOk, subst, sym, ap, ◌∙◌}
use Rattle.std.specs.declared.alloc.AllocError.{AllocError}
use Rattle.al_core.specs.declared.choices.Choice.{Choice}
use Rattle.al_core.specs.declared.reports.Report.{Report}
use Rattle.al_core.specs.Report.{report, watched}
use Rattle.al_core.specs.Run.{sizes_of}
use Rattle.al_laws.specs.Bounds.{Fit}
use Rattle.al_infer.specs.declared.outcomes.Outcome.{Outcome}
use Rattle.al_search.specs.declared.trials.Search.{Search}
use Rattle.al_search.specs.Search.{candidate, choices_for, input_of, outcome_of}
use Rattle.al_search.specs.Trials.{told_by}

pub small_span : (told r : Report) → told ≡ watched false r → Fit r → told.span < 2 ^ 100
small_span told r is fit = subst (λ (x : Report). x.span < 2 ^ 100) (sym is) fit.span

module _ (s : Search) (k : Option ℕ) (t : ℕ) where
  abbrev of_run : List ℤ → List (Option Choice) → Outcome
  of_run input cs = outcome_of (report s.program.value.0 input (sizes_of s.knobs) cs)

  pub told_at : (input : List ℤ) (choice : Option Choice) (cs : List (Option Choice)) (r : Result Outcome AllocError)
      → input ≡ input_of s.tests.now t → choice ≡ candidate s.tried.now k → cs ≡ choices_for s.infos.now s.number choice
      → s.infos.now ≡ s.program.value.1 → IfOk r (λ o. o ≡ outcome_of (report s.program.value.0 input (sizes_of s.knobs) cs))
      → IfOk r (λ o. o ≡ told_by s k t)
  told_at input choice cs r i c l n h =
      let all = l ∙ (ap (λ infos. choices_for infos s.number choice) n ∙ ap (choices_for s.program.value.1 s.number) c) in
      subst (λ ds. IfOk r (λ o. o ≡ of_run (input_of s.tests.now t) ds)) all
      (subst (λ numbers. IfOk r (λ o. o ≡ of_run numbers cs)) i h)
