use Rattle.std.proofs.lemmas.Result.{err_from_is_err_and}
use Rattle.al_rules.specs.Refusals.{accepted, tokens_of, program_of, tree_of}
use Rattle.al_front.proofs.Causes.{stops}
use Rattle.al_front.proofs.Places.{tokens_tell, tells_place, tree_tells, annotated_gives}
use Rattle.al_front.proofs.resolving.resolve.Goals as goal

pub returns-in_err-tokens-clause-answer : goal.returns-in_err-tokens-clause-answer
unfolding accepted
returns-in_err-tokens-clause-answer c =
    let p = err_from_is_err_and c.from_residual.result c.from_residual.ensures.1 in
    rw (p.1, p.2) (stops (tokens_of c.args.source.now) _ _ c.in_err-tokens.ensures)

pub returns-in_err-tokens-clause-place : goal.returns-in_err-tokens-clause-place
returns-in_err-tokens-clause-place c =
    let p = err_from_is_err_and c.from_residual.result c.from_residual.ensures.1 in
    rw (p.1, p.2) (tokens_tell c.args.source.now _ c.in_err-tokens.ensures)

pub returns-in_err-program-clause-answer : goal.returns-in_err-program-clause-answer
unfolding accepted
returns-in_err-program-clause-answer c =
    let p = err_from_is_err_and c.from_residual-in_err-program.result c.from_residual-in_err-program.ensures.1 in
    rw (p.1, p.2, c.in_ok-tokens.ensures) (stops (program_of c.in_ok-tokens.tokens) _ _ c.in_err-program.ensures.answer)

pub returns-in_err-program-clause-place : goal.returns-in_err-program-clause-place
returns-in_err-program-clause-place c =
    let p = err_from_is_err_and c.from_residual-in_err-program.result c.from_residual-in_err-program.ensures.1 in
    rw (p.1, p.2) (tells_place c.args.source.now c.in_ok-tokens.tokens _ c.in_ok-tokens.ensures c.in_err-program.ensures.place)

pub returns-in_err-typed-clause-answer : goal.returns-in_err-typed-clause-answer
unfolding accepted
returns-in_err-typed-clause-answer c =
    let p = err_from_is_err_and c.from_residual-in_err-typed.result c.from_residual-in_err-typed.ensures.1 in
    rw (p.1, p.2, c.in_ok-tokens.ensures, c.in_ok-program.ensures.answer) (stops (tree_of c.in_ok-program.program) _ _ c.in_err-typed.ensures)

pub returns-in_err-typed-clause-place : goal.returns-in_err-typed-clause-place
returns-in_err-typed-clause-place c =
    let p = err_from_is_err_and c.from_residual-in_err-typed.result c.from_residual-in_err-typed.ensures.1 in
    rw (p.1, p.2) (tree_tells c.args.source.now c.in_ok-program.program _ c.in_err-typed.ensures)

pub returns-clause-answer : goal.returns-clause-answer
unfolding accepted
returns-clause-answer c = rw (c.in_ok-tokens.ensures, c.in_ok-program.ensures.answer, c.in_ok-typed.ensures) c.annotated_well.ensures

pub returns-clause-place : goal.returns-clause-place
returns-clause-place c = annotated_gives c.args.source.now c.in_ok-typed.typed _ c.annotated_well.ensures
