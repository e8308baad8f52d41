use Rattle.std.proofs.Common.{◌∙◌}
use Rattle.al_core.specs.Clash.{clashes}
use Rattle.al_validate.proofs.Judging.{told_touched}
use Rattle.al_validate.proofs.clashes.clashes_with.Goals as goal

pub returns : goal.returns
returns c o before is was =
    let choice = c.args.choice.now in
    c.clash_by.ensures ∙ (λ t. clashes choice.policy choice.line (is t) (told_touched c.args.earlier.now before was t))
