use Rattle.std.proofs.Common.{◌≡◌, refl, sym, ap, ◌∙◌}
use Rattle.std.specs.Prelude.{not, ◌&&◌}
use Rattle.al_core.specs.Accepted.{mentions, any_mentions, if_only, only_updates}
use Rattle.al_loop_notes.proofs.OnlyUpdates.{part, starts, tests, counts, if_is, for_is, block_is, and_true, and_false}
use Rattle.al_loop_notes.proofs.updates.+only.Goals as goal
use Rattle.al_loop_notes.proofs.updates.+only.Goals.{only_updates-then-not-in_expr, only_updates-else-not-in_expr, only_updates-then-is_plain_start, only_updates-else-is_plain_start, only_updates-then-part_only_updates, only_updates-else-part_only_updates, only_updates-then-not-in_test, only_updates-else-not-in_test}

pub only_updates-returns-then-only_updates : goal.only_updates-returns-then-only_updates
only_updates-returns-then-only_updates t c =
    let first : c.if-not-in_expr.value ≡ (not (mentions c.args.a c.in-If.e) && only_updates c.args.op c.args.a c.in-If.s) = elim c.if-not-in_expr.branch [
      | only_updates-then-not-in_expr w ↦ and_true (ap not (sym c.in_expr-in-If.ensures ∙ w.if-not-in_expr.true)) (w.value-is ∙ w.only_updates.ensures
          ∙ ap (only_updates c.args.op c.args.a) w.get.ensures)
      | only_updates-else-not-in_expr w ↦ and_false (only_updates c.args.op c.args.a c.in-If.s) (ap not (sym c.in_expr-in-If.ensures
          ∙ w.if-not-in_expr.false)) (w.value-is ∙ ap not c.in_expr-in-If.ensures)
    ] in
    rw (if_is c.args.op c.args.a c.args.s.now _ _ _ c.in-If.is, ← first, c.if-only_updates.true) c.part_only_updates.ensures

pub only_updates-returns-then-part_only_updates-2 : goal.only_updates-returns-then-part_only_updates-2
only_updates-returns-then-part_only_updates-2 t c =
    let start : c.if-is_plain_start.value ≡ starts c.args.op c.args.a c.in-For.number c.in-For.first = elim c.if-is_plain_start.branch [
      | only_updates-then-is_plain_start w ↦ and_true (sym c.is_plain_start.ensures ∙ w.if-is_plain_start.true) (w.value-is
          ∙ w.part_only_updates-then-is_plain_start.ensures)
      | only_updates-else-is_plain_start w ↦ and_false (if_only c.args.op c.args.a (part c.args.op c.args.a c.in-For.first)) (sym c.is_plain_start.ensures
          ∙ w.if-is_plain_start.false) (w.value-is ∙ c.is_plain_start.ensures)
    ] in
    let test : c.if-part_only_updates.value ≡ tests c.args.op c.args.a c.in-For.number c.in-For.first c.in-For.test = elim c.if-part_only_updates.branch [
      | only_updates-then-part_only_updates w ↦ and_true (sym start ∙ w.if-part_only_updates.true) (w.value-is ∙ ap not w.in_test.ensures)
      | only_updates-else-part_only_updates w ↦ and_false (not (any_mentions c.args.a c.in-For.test)) (sym start ∙ w.if-part_only_updates.false) (w.value-is
          ∙ start)
    ] in
    let third : c.if-not-in_test.value ≡ counts c.args.op c.args.a c.in-For.number c.in-For.first c.in-For.test c.in-For.third = elim c.if-not-in_test.branch [
      | only_updates-then-not-in_test w ↦ and_true (sym test ∙ w.if-not-in_test.true) (w.value-is ∙ w.part_only_updates-then-not-in_test.ensures)
      | only_updates-else-not-in_test w ↦ and_false (if_only c.args.op c.args.a (part c.args.op c.args.a c.in-For.third)) (sym test
          ∙ w.if-not-in_test.false) (w.value-is ∙ test)
    ] in
    rw (for_is c.args.op c.args.a c.args.s.now _ _ _ _ _ c.in-For.is, ← third, c.if-part_only_updates-2.true) (c.only_updates-then-part_only_updates-2.ensures
    ∙ ap (only_updates c.args.op c.args.a) c.get-then-part_only_updates-2.ensures)

pub only_updates-returns-else-part_only_updates-2 : goal.only_updates-returns-else-part_only_updates-2
only_updates-returns-else-part_only_updates-2 t c =
    let start : c.if-is_plain_start.value ≡ starts c.args.op c.args.a c.in-For.number c.in-For.first = elim c.if-is_plain_start.branch [
      | only_updates-then-is_plain_start w ↦ and_true (sym c.is_plain_start.ensures ∙ w.if-is_plain_start.true) (w.value-is
          ∙ w.part_only_updates-then-is_plain_start.ensures)
      | only_updates-else-is_plain_start w ↦ and_false (if_only c.args.op c.args.a (part c.args.op c.args.a c.in-For.first)) (sym c.is_plain_start.ensures
          ∙ w.if-is_plain_start.false) (w.value-is ∙ c.is_plain_start.ensures)
    ] in
    let test : c.if-part_only_updates.value ≡ tests c.args.op c.args.a c.in-For.number c.in-For.first c.in-For.test = elim c.if-part_only_updates.branch [
      | only_updates-then-part_only_updates w ↦ and_true (sym start ∙ w.if-part_only_updates.true) (w.value-is ∙ ap not w.in_test.ensures)
      | only_updates-else-part_only_updates w ↦ and_false (not (any_mentions c.args.a c.in-For.test)) (sym start ∙ w.if-part_only_updates.false) (w.value-is
          ∙ start)
    ] in
    let third : c.if-not-in_test.value ≡ counts c.args.op c.args.a c.in-For.number c.in-For.first c.in-For.test c.in-For.third = elim c.if-not-in_test.branch [
      | only_updates-then-not-in_test w ↦ and_true (sym test ∙ w.if-not-in_test.true) (w.value-is ∙ w.part_only_updates-then-not-in_test.ensures)
      | only_updates-else-not-in_test w ↦ and_false (if_only c.args.op c.args.a (part c.args.op c.args.a c.in-For.third)) (sym test
          ∙ w.if-not-in_test.false) (w.value-is ∙ test)
    ] in
    rw (for_is c.args.op c.args.a c.args.s.now _ _ _ _ _ c.in-For.is, ← third, c.if-part_only_updates-2.false) refl

pub only_updates-returns-in-Block : goal.only_updates-returns-in-Block
only_updates-returns-in-Block t c =
    (rw c.as_slice-in-Block.ensures at c.all_only_update.ensures) ∙ sym (block_is c.args.op c.args.a c.args.s.now c.in-Block.ss c.in-Block.is)
