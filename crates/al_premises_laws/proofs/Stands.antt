-- The loops of the small program, and what it is known to meet.
use Rattle.std.proofs.Common.{◌≡◌, [], ◌∷◌, Some, ap, ◌∙◌}
use Rattle.std.specs.Prelude.{slice_get}
use Rattle.al_core.specs.declared.typed_tree.TExpr.{out-roll-TExpr}
use Rattle.al_core.specs.declared.typed_tree.TKind.{para-roll-TKind, out-roll-TKind}
use Rattle.al_core.specs.declared.typed_tree.TStmt.{para-roll-TStmt}
use Rattle.al_core.specs.Loops.{ForLoop, placed, program_loops, for_loops, noted_loop, loop_at}
use Rattle.al_runs_laws.specs.Small.{small, main, first_body, second_body, from_zero, below, next}
use Rattle.al_premises_laws.specs.Executions.{first_loop, second_loop}

abbrev first_for : ForLoop
first_for = record { number = 0; first = Some from_zero; test = Some (below 3); third = Some next; body = first_body }

abbrev second_for : ForLoop
second_for = record { number = 1; first = Some from_zero; test = Some (below 9); third = Some next; body = second_body }

its_loops : program_loops small ≡ placed main first_for ∷ placed main second_for ∷ []
unfolding program_loops for_loops
its_loops = simp (para-roll-TStmt, para-roll-TKind)

pub first_stands : loop_at small 0 ≡ Some first_loop
first_stands =
    ap (λ ls. noted_loop 0 (slice_get small.loops 0) (slice_get ls 0)) its_loops ∙ simp (out-roll-TKind, out-roll-TExpr)

pub second_stands : loop_at small 1 ≡ Some second_loop
second_stands =
    ap (λ ls. noted_loop 1 (slice_get small.loops 1) (slice_get ls 1)) its_loops ∙ simp (out-roll-TKind, out-roll-TExpr)
