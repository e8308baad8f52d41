-- The parser of expressions by a number of steps that is large enough, with no guard.
use Rattle.std.proofs.Common.{◌≡◌, ℕ, zero, suc, ◌<◌, Err, sym, ◌∙◌, arith}
use Rattle.al_source.specs.declared.source_tree.Expr.{Expr}
use Rattle.al_grammar.specs.Expressions.{State}
use Rattle.al_grammar.specs.ExpressionParser.{Parser, Job, step, measure, parse}
use Rattle.al_grammar.proofs.FixedPoint.{parse_step}
use Rattle.al_grammar.proofs.ParserEquation.{opened}

unfoldable pub run : ℕ → Job → Parser Expr
run zero j s = Err s.1
run (suc f) j s = step (run f) j s

pub run_step : (f : ℕ) (j : Job) (s : State) → run (suc f) j s ≡ step (run f) j s
unfolding run
run_step f j s = λ i. run (suc f) j s

pub parse_run : (f : ℕ) (j : Job) (s : State) → measure j s < f → parse j s ≡ run f j s
unfolding run
parse_run zero j s h = absurd (omega arith)
parse_run (suc f) j s h = parse_step j s ∙ opened (run f) (measure j s) (λ k u l. sym (parse_run f k u (omega arith))) j s (omega arith)
