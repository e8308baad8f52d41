use Rattle.std.proofs.Common.{ap, ◌∙◌}
use Rattle.std.specs.Prelude as prelude
use Rattle.std.specs.FinMap as map
use Rattle.al_core.specs.Chunk.{sum_of}
use Rattle.al_core.specs.Applied.{with_writes, with_made, without_freed, with_sums, applied}
use Rattle.al_heap.specs.Stores.{objects_in}
use Rattle.al_commit.proofs.Freed.{applied_told}
use Rattle.al_commit.proofs.commits.commit.Goals as goal

pub add_made-requires : goal.add_made-requires
add_made-requires g c o h = c.lay.ensures.kept o (c.in_ok-prepare_in.ensures.ready o h)

pub returns-clause-ok : goal.returns-clause-ok
returns-clause-ok g c o is =
    let change = c.args.change in
    let reds = c.args.reds.now in
    let laid = c.lay.ensures.memory ∙ ap (with_writes (map.entries change.writes)) c.prepare_in.ensures.memory in
    let added = c.add_made.ensures ∙ ap (with_made (map.entries (objects_in change.made))) laid in
    let out = c.take_out.ensures ∙ (λ t. without_freed (c.as_slice.ensures t) (added t)) in
    c.reduce.ensures
    ∙ (λ t. with_sums reds (prelude.map sum_of (c.as_slice-2.ensures t)) (out t))
    ∙ applied_told reds (g.S.Store.memory c.args.store.now) change
    ∙ ap (applied reds (g.S.Store.memory c.args.store.now)) is
