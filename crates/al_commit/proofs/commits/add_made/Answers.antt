use Rattle.std.proofs.Common.{◌≡◌, ◌<◌, true, is_some, sym, ap, subst, ◌∙◌}
use Rattle.std.specs.FinMap as map
use Rattle.al_core.specs.Applied.{with_made}
use Rattle.al_laws.proofs.Orders.{obj_total}
use Rattle.al_heap.specs.Stores.{objects_in}
use Rattle.al_heap.proofs.Kept.{fewer}
use Rattle.al_commit.proofs.Laid.{one_added, none_added}
use Rattle.al_commit.proofs.Taken.{left_was_there}
use Rattle.al_commit.proofs.commits.add_made.Goals as goal

pub add-requires : goal.add-requires
add-requires g c = c.made.invariant.ready c.in-Some.obj (ap is_some c.in-Some.ensures.some.0)

pub made-preserved : goal.made-preserved
made-preserved g c =
    let m = g.S.Store.memory c.made.store in
    let popped = c.in-Some.ensures.some in
    record {
      added = (λ i. with_made (map.entries (popped.1 i)) (c.add.ensures.memory i))
          ∙ one_added (objects_in c.made.made) m c.in-Some.obj c.in-Some.words popped.0
          ∙ c.made.invariant.added;
      ready = λ q h. c.add.ensures.kept q (c.made.invariant.ready q
          (left_was_there (objects_in c.made.made) c.in-Some.obj q
          (subst (λ w. map.contains_key w q ≡ true) popped.1 h)));
    }

pub made-smaller : goal.made-smaller
made-smaller g c =
    let popped = c.in-Some.ensures.some in
    subst (λ w. map.len w < map.len (objects_in c.made.made)) (sym popped.1)
    (fewer obj_total (objects_in c.made.made) c.in-Some.obj c.in-Some.words popped.0)

pub returns : goal.returns
returns g c =
    let m = g.S.Store.memory c.made.store in
    sym (ap (λ w. with_made (map.entries w) m) c.in_default.ensures.none.0 ∙ none_added m) ∙ c.made.invariant.added
