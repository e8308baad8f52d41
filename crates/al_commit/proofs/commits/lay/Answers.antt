use Rattle.std.proofs.Common.{◌<◌, sym, ap, subst, ◌∙◌}
use Rattle.std.specs.FinMap as map
use Rattle.al_core.specs.Applied.{with_writes}
use Rattle.al_laws.proofs.Orders.{addr_total}
use Rattle.al_heap.proofs.Kept.{fewer}
use Rattle.al_commit.proofs.Laid.{one_written, none_written}
use Rattle.al_commit.proofs.commits.lay.Goals as goal

pub writes-preserved : goal.writes-preserved
writes-preserved g c =
    let popped = c.in-Some.ensures.some in
    record {
      laid = (λ t. with_writes (map.entries (popped.1 t)) (c.put.ensures.memory t))
          ∙ one_written c.writes.writes (g.S.Store.memory c.writes.store) c.in-Some.write.0 c.in-Some.write.1 popped.0
          ∙ c.writes.invariant.laid;
      kept = λ o h. c.put.ensures.kept o (c.writes.invariant.kept o h);
    }

pub writes-smaller : goal.writes-smaller
writes-smaller g c =
    let popped = c.in-Some.ensures.some in
    subst (λ w. map.len w < map.len c.writes.writes) (sym popped.1)
    (fewer addr_total c.writes.writes c.in-Some.write.0 c.in-Some.write.1 popped.0)

pub returns-clause-memory : goal.returns-clause-memory
returns-clause-memory g c =
    let m = g.S.Store.memory c.writes.store in
    sym (ap (λ w. with_writes (map.entries w) m) c.in_default.ensures.none.0 ∙ none_written m) ∙ c.writes.invariant.laid
