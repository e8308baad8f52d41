use Rattle.std.proofs.Common.{refl, ◌∙◌}
use Rattle.al_core.specs.Action.{bind, pure}
use Rattle.al_interpreter.proofs.Chains.{goes, stops}
use Rattle.al_interpreter.proofs.Nodes as nodes
use Rattle.al_interpreter.proofs.Lists.{more, no_more}
use Rattle.al_interpreter.proofs.walker.Walker.+expressions.Goals as goal

pub value-returns-in_err-at-in-Load : goal.value-returns-in_err-at-in-Load
value-returns-in_err-at-in-Load g t c =
    rw (c.in-Load.is, nodes.value-Load, ← c.get.ensures)
    (stops _ _ _ _ _ _ c.from_residual.ensures.1 c.in_err-at-in-Load.ensures)

pub value-returns-in_ok-at-in-Load : goal.value-returns-in_ok-at-in-Load
unfolding bind pure
value-returns-in_ok-at-in-Load g t c = rw (c.in-Load.is, nodes.value-Load, ← c.get.ensures, c.in_ok-at-in-Load.ensures) c.load.ensures

pub value-returns-in_err-x-in-Unary : goal.value-returns-in_err-x-in-Unary
value-returns-in_err-x-in-Unary g t c =
    rw (c.in-Unary.is, nodes.value-Unary, ← c.get-in-Unary.ensures)
    (stops _ _ _ _ _ _ c.from_residual-in_err-x-in-Unary.ensures.1 c.in_err-x-in-Unary.ensures)

pub value-returns-in_ok-x-in-Unary : goal.value-returns-in_ok-x-in-Unary
unfolding bind pure
value-returns-in_ok-x-in-Unary g t c =
    rw (c.in-Unary.is, nodes.value-Unary, ← c.get-in-Unary.ensures, c.in_ok-x-in-Unary.ensures, ← c.operate_one.ensures) c.lift.ensures

pub value-returns-in_err-x-in-Binary : goal.value-returns-in_err-x-in-Binary
value-returns-in_err-x-in-Binary g t c =
    rw (c.in-Binary.is, nodes.value-Binary, ← c.get-in-Binary.ensures)
    (stops _ _ _ _ _ _ c.from_residual-in_err-x-in-Binary.ensures.1 c.in_err-x-in-Binary.ensures)

pub value-returns-in_err-y-in-Binary : goal.value-returns-in_err-y-in-Binary
value-returns-in_err-y-in-Binary g t c =
    rw (c.in-Binary.is, nodes.value-Binary, ← c.get-in-Binary.ensures)
    (goes _ _ _ _ _ _ _ c.in_ok-x-in-Binary.ensures
    (rw (← c.get-in-Binary-2.ensures) (stops _ _ _ _ _ _ c.from_residual-in_err-y-in-Binary.ensures.1 c.in_err-y-in-Binary.ensures)))

pub value-returns-in_ok-y-in-Binary : goal.value-returns-in_ok-y-in-Binary
unfolding bind pure
value-returns-in_ok-y-in-Binary g t c =
    rw (
      c.in-Binary.is,
      nodes.value-Binary,
      ← c.get-in-Binary.ensures,
      c.in_ok-x-in-Binary.ensures,
      ← c.get-in-Binary-2.ensures,
      c.in_ok-y-in-Binary.ensures,
      ← c.operate.ensures,
    ) c.lift-in-Binary.ensures

pub value-returns-in_err-x-in-Same : goal.value-returns-in_err-x-in-Same
value-returns-in_err-x-in-Same g t c =
    rw (c.in-Same.is, nodes.value-Same, ← c.get-in-Same.ensures)
    (stops _ _ _ _ _ _ c.from_residual-in_err-x-in-Same.ensures.1 c.in_err-x-in-Same.ensures)

pub value-returns-in_err-y-in-Same : goal.value-returns-in_err-y-in-Same
value-returns-in_err-y-in-Same g t c =
    rw (c.in-Same.is, nodes.value-Same, ← c.get-in-Same.ensures)
    (goes _ _ _ _ _ _ _ c.in_ok-x-in-Same.ensures
    (rw (← c.get-in-Same-2.ensures) (stops _ _ _ _ _ _ c.from_residual-in_err-y-in-Same.ensures.1 c.in_err-y-in-Same.ensures)))

pub value-returns-in_ok-y-in-Same : goal.value-returns-in_ok-y-in-Same
unfolding bind pure
value-returns-in_ok-y-in-Same g t c =
    rw (
      c.in-Same.is,
      nodes.value-Same,
      ← c.get-in-Same.ensures,
      c.in_ok-x-in-Same.ensures,
      ← c.get-in-Same-2.ensures,
      c.in_ok-y-in-Same.ensures,
      ← c.compare.ensures,
    ) refl

pub value-returns-in_err-x-in-Choose : goal.value-returns-in_err-x-in-Choose
value-returns-in_err-x-in-Choose g t c =
    rw (c.in-Choose.is, nodes.value-Choose, ← c.get-in-Choose.ensures)
    (stops _ _ _ _ _ _ c.from_residual-in_err-x-in-Choose.ensures.1 c.in_err-x-in-Choose.ensures)

pub value-returns-in_err-y-in-Choose : goal.value-returns-in_err-y-in-Choose
value-returns-in_err-y-in-Choose g t c =
    rw (c.in-Choose.is, nodes.value-Choose, ← c.get-in-Choose.ensures)
    (goes _ _ _ _ _ _ _ c.in_ok-x-in-Choose.ensures
    (rw (← c.get-in-Choose-2.ensures) (stops _ _ _ _ _ _ c.from_residual-in_err-y-in-Choose.ensures.1 c.in_err-y-in-Choose.ensures)))

pub value-returns-in_ok-y-in-Choose : goal.value-returns-in_ok-y-in-Choose
unfolding bind pure
value-returns-in_ok-y-in-Choose g t c =
    rw (
      c.in-Choose.is,
      nodes.value-Choose,
      ← c.get-in-Choose.ensures,
      c.in_ok-x-in-Choose.ensures,
      ← c.get-in-Choose-2.ensures,
      c.in_ok-y-in-Choose.ensures,
      ← c.choose.ensures,
    ) c.lift-in-Choose.ensures

pub value-returns-in_err-y-in-And : goal.value-returns-in_err-y-in-And
value-returns-in_err-y-in-And g t c =
    rw (c.in-And.is, nodes.value-And, ← c.get-in-And.ensures)
    (goes _ _ _ _ _ _ _ c.in_ok-x-in-And.ensures
    (rw (
      ← c.truth.ensures,
      c.if-truth.true,
      ← c.get-then-truth.ensures,
    ) (stops _ _ _ _ _ _ c.from_residual-in_err-y-in-And.ensures.1 c.in_err-y-in-And.ensures)))

pub value-returns-in_ok-y-in-And : goal.value-returns-in_ok-y-in-And
unfolding bind pure
value-returns-in_ok-y-in-And g t c =
    rw (
      c.in-And.is,
      nodes.value-And,
      ← c.get-in-And.ensures,
      c.in_ok-x-in-And.ensures,
      ← c.truth.ensures,
      c.if-truth.true,
      ← c.get-then-truth.ensures,
      c.in_ok-y-in-And.ensures,
      c.of_test.ensures,
      c.truth-then-truth.ensures,
    ) refl

pub value-returns-in_err-y-in-Or : goal.value-returns-in_err-y-in-Or
value-returns-in_err-y-in-Or g t c =
    rw (c.in-Or.is, nodes.value-Or, ← c.get-in-Or.ensures)
    (goes _ _ _ _ _ _ _ c.in_ok-x-in-Or.ensures
    (rw (
      ← c.truth-in-Or.ensures,
      c.if-truth-2.false,
      ← c.get-else-truth-2.ensures,
    ) (stops _ _ _ _ _ _ c.from_residual-in_err-y-in-Or.ensures.1 c.in_err-y-in-Or.ensures)))

pub value-returns-in_ok-y-in-Or : goal.value-returns-in_ok-y-in-Or
unfolding bind pure
value-returns-in_ok-y-in-Or g t c =
    rw (
      c.in-Or.is,
      nodes.value-Or,
      ← c.get-in-Or.ensures,
      c.in_ok-x-in-Or.ensures,
      ← c.truth-in-Or.ensures,
      c.if-truth-2.false,
      ← c.get-else-truth-2.ensures,
      c.in_ok-y-in-Or.ensures,
      c.of_test-else-truth-2.ensures,
      c.truth-else-truth-2.ensures,
    ) refl

pub value-returns-in_err-vs-in-Call : goal.value-returns-in_err-vs-in-Call
value-returns-in_err-vs-in-Call g t c =
    rw (c.in-Call.is, nodes.value-Call, ← c.as_slice.ensures)
    (stops _ _ _ _ _ _ c.from_residual-in_err-vs-in-Call.ensures.1 c.in_err-vs-in-Call.ensures)

pub value-returns-in_ok-vs-in-Call : goal.value-returns-in_ok-vs-in-Call
unfolding bind pure
value-returns-in_ok-vs-in-Call g t c = rw (c.in-Call.is, nodes.value-Call, ← c.as_slice.ensures, c.in_ok-vs-in-Call.ensures) c.call.ensures

pub values-returns-in_err-value : goal.values-returns-in_err-value
values-returns-in_err-value g t c =
    no_more _ _ _ _ _ _ _ _ _ _ _ _ _ _ c.loop-e.invariant c.loop-e-test.true c.e-item.is c.from_residual.ensures.1 c.in_err-value.ensures

pub values-loop-e-preserved : goal.values-loop-e-preserved
values-loop-e-preserved g t c = c.loop-e.invariant ∙ more _ _ _ _ _ _ _ _ _ _ _ _ _ c.loop-e-test.true c.e-item.is c.in_ok-push.ensures.ok c.in_ok-value.ensures
