use Rattle.std.proofs.Common.{◌∙◌}
use Rattle.al_search.proofs.LineSizes.{trial_has}
use Rattle.al_search.proofs.Tellings.{told_at}
use Rattle.al_search.proofs.trials.Search.outcome.Goals as goal

pub outcome_of-requires-clause-lines : goal.outcome_of-requires-clause-lines
outcome_of-requires-clause-lines g c κs within =
    let s = c.args.self.now in
    trial_has s.infos.now s.number s.tried.now c.args.candidate c.requires.lines _ c.in_ok-choice.ensures _
    (c.as_slice.ensures.value ∙ c.in_ok-choices.ensures)

pub returns-clause-told : goal.returns-clause-told
returns-clause-told g c =
    told_at c.args.self.now c.args.candidate c.args.test _ _ _ _ c.input.ensures c.in_ok-choice.ensures
    (c.as_slice.ensures.value ∙ c.in_ok-choices.ensures) c.requires.loops c.outcome_of.ensures.exact
