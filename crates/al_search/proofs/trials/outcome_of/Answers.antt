use Rattle.al_laws.proofs.Fits.{counts_fit}
use Rattle.al_search.proofs.Tellings.{small_span}
use Rattle.al_search.proofs.trials.outcome_of.Goals as goal

pub returns-clause-small : goal.returns-clause-small
returns-clause-small g c =
    let s = c.args.search.now in
    let p = s.program.value.0 in
    small_span _ _ (c.in_ok-report.ensures.exact p c.requires.may.code)
    (counts_fit p c.args.input.now s.knobs c.args.choices.now c.requires.may.ranges)
