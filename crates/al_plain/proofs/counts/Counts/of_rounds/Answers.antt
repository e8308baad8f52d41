use Rattle.std.proofs.Common.{ap, ◌∙◌}
use Rattle.al_core.specs.Lockstep.{Rounds}
use Rattle.al_core.specs.Run.{counts_of_rounds}
use Rattle.al_plain.specs.Counting.{entered, with_rounds, with_steps}
use Rattle.al_plain.specs.Executions.{execution_of}
use Rattle.al_plain.proofs.Counted.{counted}
use Rattle.al_plain.proofs.counts.Counts.of_rounds.Goals as goal

pub returns : goal.returns
returns c =
    let x = execution_of c.args.x.now in
    let i = c.r.inside in
    let r : Rounds = record { memory = i.memory; printed = i.printed; ending = i.ending; rounds = i.rounds; span = i.span } in
    let first = c.in_ok-enter.ensures ∙ ap (entered x) c.none-n.ensures in
    let each =
    c.in_ok-count_each.ensures ∙ ap (λ rs. with_rounds rs c.enter.new.self) c.as_slice.ensures ∙ ap (with_rounds i.rounds) first in
    c.in_ok-count_steps.ensures ∙ ap (with_steps i.span) each ∙ counted x r ∙ ap (counts_of_rounds x) c.r.view_is
