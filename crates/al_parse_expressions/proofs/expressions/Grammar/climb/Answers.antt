use Rattle.std.proofs.Common.{rules, ◌+◌, sym, ap, ◌∙◌, arith}
use Rattle.std.proofs.lemmas.Grind.{common_steps}
use Rattle.al_grammar.specs.Operators.{join}
use Rattle.al_source.specs.Steps.{bind}
use Rattle.al_grammar.specs.ExpressionParser.{parse, whole, climb}
use Rattle.al_parse_expressions.specs.Cursors.{state}
use Rattle.al_grammar.proofs.ParserEquation.{climb_other, climb_same}
use Rattle.al_parse_expressions.proofs.Faults.{gives_fault}
use Rattle.al_parse_expressions.proofs.expressions.Grammar.climb.Goals as goal

pub returns-then-at-level-clause-reads : goal.returns-then-at-level-clause-reads
returns-then-at-level-clause-reads g c =
    sym c.loop-at.invariant.same
    ∙ climb_other c.args.level c.loop-at.left (state c.loop-at.cursor) c.in-Some.at c.in-Some.op (sym c.infix.ensures ∙ c.in-Some.is) c.if-at-level.true

pub loop-at-preserved : goal.loop-at-preserved
loop-at-preserved g c =
    let more = climb_same c.args.level c.loop-at.left (state c.loop-at.cursor) c.in-Some.at c.in-Some.op (sym c.infix.ensures ∙ c.in-Some.is)
    c.if-at-level.false in
    record {
      same = sym (sym c.loop-at.invariant.same ∙ more
          ∙ ap (λ o. bind (bind o (λ _. parse (whole (c.args.level + 1)))) (λ y. parse (climb c.args.level (join c.in-Some.op c.loop-at.left y))))
          c.in_ok-spend.ensures
          ∙ ap (λ o. bind o (λ y. parse (climb c.args.level (join c.in-Some.op c.loop-at.left y)))) c.in_ok-right.ensures.reads
          ∙ ap (λ y. parse (climb c.args.level y) (state c.nest.new.cursor)) (sym c.in_ok-left.ensures));
      shorter = grind (arith, common_steps);
    }

pub returns-in_err-right-clause-reads : goal.returns-in_err-right-clause-reads
returns-in_err-right-clause-reads g c =
    let more = climb_same c.args.level c.loop-at.left (state c.loop-at.cursor) c.in-Some.at c.in-Some.op (sym c.infix.ensures ∙ c.in-Some.is)
    c.if-at-level.false in
    gives_fault (parse (whole (c.args.level + 1)) (state c.spend.new.self)) (λ y. parse (climb c.args.level (join c.in-Some.op c.loop-at.left y)))
    (parse (climb c.args.level c.args.left) (state c.args.cursor.now))
    c.in_err-right.field-0.0 (state c.nest.new.cursor) c.from_residual-in_err-right.result
    (sym c.loop-at.invariant.same ∙ more
    ∙ ap (λ o. bind (bind o (λ _. parse (whole (c.args.level + 1)))) (λ y. parse (climb c.args.level (join c.in-Some.op c.loop-at.left y))))
    c.in_ok-spend.ensures)
    c.in_err-right.ensures.reads (search rules)
