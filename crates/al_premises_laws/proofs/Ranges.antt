-- The numbers of both executions have their sizes, and so have the values in their memories.
use Rattle.std.proofs.Common.{◌≡◌, ℕ, ◌<◌, true, arith, w64, FitsSigned}
use Rattle.std.specs.Prelude.{pos, ◌+ℤ◌}
use Rattle.al_core.specs.declared.typed_tree.TExpr.{fold-roll-TExpr}
use Rattle.al_core.specs.declared.typed_tree.TPlace.{fold-roll-TPlace}
use Rattle.al_core.specs.declared.typed_tree.TKind.{para-roll-TKind}
use Rattle.al_core.specs.declared.typed_tree.TStmt.{para-roll-TStmt}
use Rattle.al_core.specs.Readiness.{IsVal, HasValues}
use Rattle.al_graded_laws.specs.InRange.{in_range, RunsInRange}
use Rattle.al_graded_laws.specs.Rules.{stmt_obeys, obeys, obeys_at}
use Rattle.al_runs_laws.specs.Small.{first_body, second_body}
use Rattle.al_runs_laws.proofs.SmallFacts.{small_is_program}
use Rattle.al_premises_laws.specs.Executions.{first, second, at_first, at_second, reduced}
use Rattle.al_premises_laws.proofs.Memories.{held}

pub small_number : (n j : ℕ) → n < 100 → j < n → FitsSigned w64 (pos 0 +ℤ pos j)
small_number n j l k = grind (arith, l, k)

first_body_in_range : stmt_obeys in_range first_body ≡ true
unfolding stmt_obeys obeys obeys_at
first_body_in_range = simp (para-roll-TStmt, para-roll-TKind, fold-roll-TExpr, fold-roll-TPlace)

second_body_in_range : stmt_obeys in_range second_body ≡ true
unfolding stmt_obeys obeys obeys_at
second_body_in_range = simp (para-roll-TStmt, para-roll-TKind, fold-roll-TExpr, fold-roll-TPlace)

pub first_in_range : RunsInRange first
first_in_range = record {
  program = small_is_program.numbers;
  body = first_body_in_range;
  number = omega arith;
  trips = omega arith;
  counters = λ j l. small_number 3 j (omega arith) l;
}

pub second_in_range : RunsInRange second
second_in_range = record {
  program = small_is_program.numbers;
  body = second_body_in_range;
  number = omega arith;
  trips = omega arith;
  counters = λ j l. small_number 9 j (omega arith) l;
}

pub fits : (n : ℕ) → n < 100 → FitsSigned w64 (pos n)
fits n l = grind (arith, l)

pub first_has_values : HasValues at_first
first_has_values =
    held (pos 0) (pos 0) (pos 0) (pos 0) IsVal
    (fits 0 (omega arith)) (fits 0 (omega arith)) (fits 0 (omega arith)) (fits 0 (omega arith))

pub second_has_values : HasValues at_second
second_has_values =
    held (pos 1) (pos 1) (pos 3) (pos 0) IsVal
    (fits 1 (omega arith)) (fits 1 (omega arith)) (fits 3 (omega arith)) (fits 0 (omega arith))

pub reduced_has_values : HasValues reduced
reduced_has_values =
    held (pos 8) (pos 1) (pos 3) (pos 36) IsVal
    (fits 8 (omega arith)) (fits 1 (omega arith)) (fits 3 (omega arith)) (fits 36 (omega arith))
