use Rattle.std.proofs.Common.{◌≡◌, rules, subst}
use Rattle.std.specs.List.Sorted.{IsStrictlySortedBy}
use Rattle.al_core.specs.Orders.{obj_cmp}
use Rattle.al_plain.proofs.DerivedOrders.{obj_order}
use Rattle.al_plain.proofs.names.Names.items.Goals as goal

pub returns-clause-sorted : goal.returns-clause-sorted
returns-clause-sorted c =
    let e : c.self.inside.all.keys ≡ c.loop-o.all = search rules in
    subst (IsStrictlySortedBy obj_cmp) e (subst (λ r. IsStrictlySortedBy r c.self.inside.all.keys) obj_order c.into_iter-o-iterator.ensures.into_iter_gives.4)
