use Rattle.std.proofs.Common.{ap, ◌∙◌}
use Rattle.al_engine.specs.Counting.{with_rounds}
use Rattle.al_engine.specs.Executions.{counts_of}
use Rattle.al_engine.proofs.Entering.{counted_at}
use Rattle.al_engine.proofs.counts.Counts.of_rounds.Goals as goal

pub returns : goal.returns
returns c =
    counted_at c.args.x.now c.requires c.args.r.now c.chunks.result c.chunks.ensures _ _ _ _ c.none-n.ensures c.in_ok-enter.ensures
    (c.in_ok-count_each.ensures ∙ ap (λ rs. with_rounds rs (counts_of c.enter.new.self)) c.as_slice.ensures) c.in_ok-count_steps.ensures
