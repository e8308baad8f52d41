use Rattle.std.proofs.Common.{Some, sym, ap, ◌∙◌, arith}
use Rattle.al_code_laws.specs.Planned.{nothing}
use Rattle.al_code_laws.specs.Tree.{stmt_code}
use Rattle.al_lower.specs.Emits.{part_code}
use Rattle.al_lower.specs.Starts.{any_start, start_as}
use Rattle.al_lower.proofs.KindsOf.{stmts_start, stmts_next, end_within, emits-nothing, if_lowered, while_lowered, for_lowered, annotated_lowered, no_start_lowered}
use Rattle.al_lower.proofs.statements.+statements.Goals as goal

pub stmts-loop-left-init : goal.stmts-loop-left-init
stmts-loop-left-init t c = (omega arith, stmts_start c.args.ss.now c.args.out c.args.cont c.args.code.now)

pub stmts-loop-left-preserved : goal.stmts-loop-left-preserved
stmts-loop-left-preserved t c = (
  omega (arith, c.loop-left.invariant.0),
  stmts_next c.args.ss.now c.args.out c.args.cont c.loop-left.left c.index-ss-left.result _ c.loop-left.code c.stmt.new.code
      (omega (arith, c.loop-left-test.true)) c.loop-left.invariant.0 c.index-ss-left.is c.loop-left.invariant.1 c.in_ok-stmt.ensures,
)

pub kind-while_head-requires : goal.kind-while_head-requires
kind-while_head-requires t c =
    end_within c.args.line nothing (stmt_code c.get-in-While.result.now (Some c.len-end-in-While.result) c.len-next.result)
    c.args.code.now _ _ _ c.len-end-in-While.result c.len-end-in-While.ensures c.in_ok-put-in-While.ensures
    (sym (emits-nothing _)) c.in_ok-stmt-in-While.ensures

pub kind-head-requires : goal.kind-head-requires
kind-head-requires t c =
    end_within c.args.line (part_code c.in-For.third c.args.out c.args.cont)
    (stmt_code c.get-in-None-number.result.now (Some c.len-end-in-None-number.result) c.len-next-in-None-number.result)
    c.args.code.now _ _ _ c.len-end-in-None-number.result c.len-end-in-None-number.ensures c.in_ok-put-in-None-number.ensures
    c.in_ok-part-in-None-number.ensures c.in_ok-stmt-in-None-number.ensures

pub kind-returns-in_default : goal.kind-returns-in_default
kind-returns-in_default t c =
    rw (c.in-For.is)
    (no_start_lowered c.in-For.first c.in-For.test c.in-For.third c.in-For.body c.in-For.number c.args.line c.args.out c.args.cont
    c.in-Some-number.number c.args.code.now c.in-Some-number.is (sym c.start_of.ensures ∙ ap any_start c.in_default.is))

pub kind-returns-in_ok-expr-in-Some : goal.kind-returns-in_ok-expr-in-Some
kind-returns-in_ok-expr-in-Some t c =
    rw (c.in-If.is)
    (if_lowered c.in-If.e c.in-If.a c.in-Some.b c.in-If.b c.args.line c.args.out c.args.cont c.args.code.now _ _ _ _ _ c.len-end.result c.len-second.result
    c.in-Some.is c.len-end.ensures (rw (← c.get.ensures) c.in_ok-stmt-in-Some.ensures) c.len-second.ensures c.in_ok-put-in-Some.ensures
    (rw (← c.get-in-Some.ensures) c.in_ok-stmt-in-Some-2.ensures) c.in_ok-put-in-Some-2.ensures c.in_ok-expr-in-Some.ensures)

pub kind-returns-in_ok-while_head-in-While : goal.kind-returns-in_ok-while_head-in-While
kind-returns-in_ok-while_head-in-While t c =
    rw (c.in-While.is, ← c.get-in-While.ensures)
    (while_lowered c.in-While.e c.get-in-While.result.now c.args.line c.args.out c.args.cont c.args.code.now _ _ _ c.len-end-in-While.result
    c.len-next.result c.len-end-in-While.ensures c.in_ok-put-in-While.ensures c.len-next.ensures c.in_ok-stmt-in-While.ensures
    c.in_ok-while_head-in-While.ensures)

pub kind-returns-in_ok-part-in-None-number-2 : goal.kind-returns-in_ok-part-in-None-number-2
kind-returns-in_ok-part-in-None-number-2 t c =
    rw (c.in-For.is, ← c.get-in-None-number.ensures)
    (for_lowered c.in-For.first c.in-For.test c.in-For.third c.get-in-None-number.result.now c.in-For.number c.args.line c.args.out c.args.cont
    c.args.code.now _ _ _ _ _ c.len-end-in-None-number.result c.len-next-in-None-number.result c.in-None-number.is c.len-end-in-None-number.ensures
    c.in_ok-put-in-None-number.ensures c.in_ok-part-in-None-number.ensures c.len-next-in-None-number.ensures c.in_ok-stmt-in-None-number.ensures
    c.in_ok-head-in-None-number.ensures c.in_ok-part-in-None-number-2.ensures)

pub kind-returns-in_ok-expr-in-Some-number : goal.kind-returns-in_ok-expr-in-Some-number
kind-returns-in_ok-expr-in-Some-number t c =
    rw (c.in-For.is, ← c.get-in-Some-number.ensures)
    (annotated_lowered c.in-For.first c.in-For.test c.in-For.third c.get-in-Some-number.result.now c.in-For.number c.args.line c.args.out c.args.cont
    c.in-Some-number.number (start_as c.in-Some-start_of.start) c.bound_of-bound.result c.args.code.now _ _ _ _ c.len-after.result
    c.len-next-in-Some-number.result c.in-Some-number.is (sym c.start_of.ensures ∙ ap any_start c.in-Some-start_of.is) c.bound_of-bound.ensures
    c.len-after.ensures c.in_ok-put-in-Some-number.ensures c.len-next-in-Some-number.ensures c.in_ok-stmt-in-Some-number.ensures
    c.in_ok-put-in-Some-number-2.ensures c.in_ok-expr-in-Some-number.ensures)
