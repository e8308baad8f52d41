use Rattle.std.proofs.Common.{◌∙◌, sym}
use Rattle.al_infer.proofs.OneMore.{refused_here, accepted_here}
use Rattle.al_infer.proofs.search.tried.Goals as goal

pub returns-in-Some : goal.returns-in-Some
returns-in-Some g c =
    let tried = c.in_ok-outcome.outcome in
    refused_here (g.T.Trial.told c.args.trial.now) c.args.test c.args.candidate c.args.sum c.in-Some.why c.args.plain.now tried c.requires.found
    c.requires.plain c.in_ok-outcome.ensures.told (sym c.in-Some.is ∙ c.refused_beside.ensures)

pub returns : goal.returns
returns g c =
    let tried = c.in_ok-outcome.outcome in
    accepted_here (g.T.Trial.told c.args.trial.now) c.args.test c.args.candidate c.args.sum c.args.plain.now tried c.requires.found
    c.requires.plain c.in_ok-outcome.ensures.told (sym c.in-None.is ∙ c.refused_beside.ensures) c.in_ok-outcome.ensures.small
