use Rattle.std.proofs.Common.{◌≡◌, Option, rules, sym, subst}
use Rattle.std.specs.Prelude.{option_map}
use Rattle.al_source.specs.Answers.{Fails}
use Rattle.al_rules.specs.declared.faults.Refusal.{Refusal}
use Rattle.al_rules.specs.declared.faults.Refusal.TheVariants.{Lexical}
use Rattle.al_rules.specs.Faults.{spelled}
use Rattle.al_rules.specs.Refusals.{tokens_of}
use Rattle.al_front.specs.Answers.{refused}
use Rattle.al_front.proofs.Causes.{spelled_tokens, refused_tokens}
use Rattle.al_front.proofs.resolving.tokens_of.Goals as goal

pub returns-in-Ok : goal.returns-in-Ok
returns-in-Ok c = spelled_tokens c.args.source.now c.in-Ok.tokens c.in-Ok.ensures.too_long c.in-Ok.ensures.spelled

pub returns-in-Err : goal.returns-in-Err
returns-in-Err c =
    let fault = c.in-Err.fault in
    let cause : refused c.by_cause.result ≡ option_map Lexical (spelled fault) = search rules in
    subst (λ (d : Option Refusal). Fails (tokens_of c.args.source.now) d) (sym cause) (refused_tokens c.args.source.now fault c.in-Err.ensures.cause)
