use Rattle.std.proofs.Common.{subst}
use Rattle.al_snap.specs.Changes.{IsOutcome}
use Rattle.al_chunk.specs.Loops.{execution_of}
use Rattle.al_chunk.proofs.Chunks.{chunk_starts, chunk_gives}
use Rattle.al_chunk.proofs.Footprints.{change_depends_on_reads}
use Rattle.al_chunk.proofs.chunk.run_chunk.Goals as goal

pub returns-clause-exact : goal.returns-clause-exact
returns-clause-exact g c typed l s =
    let x = execution_of typed l c.args.input.now c.args.env.now in
    let reds = c.args.choice.now.reds in
    let m = g.S.Store.memory c.args.base.now in
    let first = c.range-first.ensures.first in
    let start = chunk_starts x reds _ m c.args.chunk _ c.iteration-names.result _ c.iteration-names.ensures first c.as_slice.ensures c.in_ok-snap.ensures in
    subst (IsOutcome c.into_change.result)
    (chunk_gives x reds m c.args.chunk _ _ _ _ start first c.range-first.ensures.count (c.in_ok-run.ensures.exact typed l s))
    c.into_change.ensures

pub returns-clause-footprint : goal.returns-clause-footprint
returns-clause-footprint g c typed l s =
    change_depends_on_reads c.into_change.result (execution_of typed l c.args.input.now c.args.env.now) c.args.choice.now.reds
    (g.S.Store.memory c.args.base.now) c.args.chunk (returns-clause-exact g c typed l s)
