use Rattle.al_source.specs.Faults.{lexical}
use Rattle.al_lexer.proofs.StepLemmas.{step_goes, step_fails}
use Rattle.al_lexer.proofs.lexer.Lexer.step.Goals as goal

pub returns-in-Err-clause-err : goal.returns-in-Err-clause-err
returns-in-Err-clause-err c = step_fails c.args.self.now.spot c.args.self.now.rest.now (lexical c.in-Err.fault) c.in-Err.ensures.value c.requires.some

pub returns-in_ok-push_some-in-Ok-clause-ok : goal.returns-in_ok-push_some-in-Ok-clause-ok
returns-in_ok-push_some-in-Ok-clause-ok c =
    let s = c.args.self.now.spot in
    let z = c.args.self.now.rest.now in
    let n = c.in-Ok.field-0 in
    rw (c.after.ensures.spot, c.after.ensures.rest)
    (step_goes s z n c.args.tokens.now c.push_some.new.tokens c.in-Ok.ensures.value c.requires.some c.in-Ok.ensures.within.0 c.in_ok-push_some-in-Ok.ensures)
