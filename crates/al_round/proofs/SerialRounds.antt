-- The definition's round is serial.
use Rattle.std.proofs.Common.{◌≡◌, ℕ, List, ◌++◌, sym, ap, subst, ◌∙◌}
use Rattle.std.specs.Prelude.{IsPermutation}
use Rattle.al_core.specs.declared.choices.Choice.{Choice}
use Rattle.al_core.specs.declared.reports.Judged.{Judged}
use Rattle.al_core.specs.Iteration.{Execution}
use Rattle.al_core.specs.Lockstep.{commits, not_committed}
use Rattle.al_core.specs.Memory.{Memory}
use Rattle.al_core.specs.Round.{round}
use Rattle.al_core.specs.Serial.{serial}
use Rattle.al_rounds_laws.specs.Loops.{end_of, end_of_round, Pairwise}
use Rattle.al_rounds_laws.specs.Writes.{TouchApart}
use Rattle.al_rounds_laws.proofs.InOrder.{round_in_order}
use Rattle.al_rounds_laws.proofs.Writing.{committed_touch_apart}
use Rattle.al_reductions_laws.proofs.Rounds.{rounds_with_reds}
use Rattle.al_reductions_laws.proofs.SumsCommute.{any_order_is_same}
use Rattle.al_round.specs.declared.report.RoundReport.{RoundReport}
use Rattle.al_round.specs.Rounds.{IsRound}
use Rattle.al_round.specs.Serial.{end_of_report, IsSerialRound, CommitsFirst, CommitsApart, CommitsInAnyOrder}

module _ (x : Execution) (choice : Choice) (chunks : List ℕ) (m n : Memory) (r : RoundReport) (is : IsRound x choice chunks m n r) where
  same_end : end_of_report n r ≡ end_of_round (round x choice chunks m)
  same_end = λ i. record { memory = is.memory i; printed = is.printed i; ending = is.ending i }

  pub serial_round : IsSerialRound x choice chunks m n r
  serial_round runs looks distinct ready =
      same_end ∙ rounds_with_reds x choice m chunks runs looks distinct ready ∙ ap (λ (js : List Judged). end_of (serial x (commits js) m)) (sym is.verdicts)

  pub commits_first : CommitsFirst x choice chunks m n r
  commits_first ordered =
      round_in_order x choice ordered m chunks ∙ ap (λ (js : List Judged). commits js ++ not_committed js) (sym is.verdicts)

  pub commits_apart : CommitsApart x choice chunks m n r
  commits_apart looks =
      subst (λ (js : List Judged). Pairwise (TouchApart x choice m) (commits js)) (sym is.verdicts) (committed_touch_apart x choice m chunks looks)

  pub commits_in_any_order : CommitsInAnyOrder x choice chunks m n r
  commits_in_any_order runs looks values distinct fresh ds moved =
      is.memory
      ∙ any_order_is_same x choice m chunks ds runs looks values distinct fresh
      (subst (λ (js : List Judged). IsPermutation (commits js) ds) is.verdicts moved)
