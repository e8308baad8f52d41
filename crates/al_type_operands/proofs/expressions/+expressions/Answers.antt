use Rattle.std.proofs.Common.{sym, subst, ◌∙◌}
use Rattle.al_rules.specs.declared.operands.Operand.{Operand}
use Rattle.al_rules.specs.Checks.{Checked}
use Rattle.al_rules.specs.Scopes.{in_scope}
use Rattle.al_rules.specs.Expressions.{operand}
use Rattle.al_source.specs.Answers.{Gives}
use Rattle.al_type_names.specs.Steps.{kind_of}
use Rattle.al_type_operands.proofs.ExpressionCases.{of_name, of_call, of_calloc}
use Rattle.al_type_operands.proofs.Gathered.{each_more}
use Rattle.al_type_operands.proofs.expressions.+expressions.Goals as goal

pub operand-returns-in-Var : goal.operand-returns-in-Var
operand-returns-in-Var t c =
    subst (λ (r : Checked Operand). Gives kind_of r c.variable.result)
    (sym (of_name c.args.known.now (in_scope c.args.scope.now) c.args.x.now _ _ c.in-Var.is c.as_slice.ensures)) c.variable.ensures

pub operand-returns-in_ok-args-in-Call : goal.operand-returns-in_ok-args-in-Call
operand-returns-in_ok-args-in-Call t c =
    subst (λ (r : Checked Operand). Gives kind_of r c.call_value.result)
    (sym (of_call c.args.known.now (in_scope c.args.scope.now) c.args.x.now _ _ _ _ _ c.in-Call.is c.as_slice-in-Call-2.ensures
    c.as_slice-in-Call.ensures c.in_ok-args-in-Call.ensures)) c.call_value.ensures

pub operand-returns-in_ok-a-in-Calloc : goal.operand-returns-in_ok-a-in-Calloc
operand-returns-in_ok-a-in-Calloc t c =
    subst (λ (r : Checked Operand). Gives kind_of r c.calloc.result)
    (sym (of_calloc c.args.known.now (in_scope c.args.scope.now) c.args.x.now _ _ _ c.in_ok-a-in-Calloc.a c.in-Calloc.is
    c.get-in-Calloc.ensures c.in_ok-a-in-Calloc.ensures)) c.calloc.ensures

pub operands-loop-x-preserved : goal.operands-loop-x-preserved
operands-loop-x-preserved t c =
    c.loop-x.invariant
    ∙ each_more (operand c.args.known.now (in_scope c.args.scope.now)) c.loop-x.done c.add.new.self c.args.xs.now c.loop-x.x-index
    c.x-item.result c.in_ok-operand.field-0 c.loop-x-test.true c.x-item.is c.in_ok-add.ensures.ok c.in_ok-operand.ensures
