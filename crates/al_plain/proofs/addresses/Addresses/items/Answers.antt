use Rattle.std.proofs.Common.{◌≡◌, rules, subst}
use Rattle.std.specs.List.Sorted.{IsStrictlySortedBy}
use Rattle.al_core.specs.Orders.{addr_cmp}
use Rattle.al_plain.proofs.DerivedOrders.{addr_order}
use Rattle.al_plain.proofs.addresses.Addresses.items.Goals as goal

pub returns-clause-sorted : goal.returns-clause-sorted
returns-clause-sorted c =
    let e : c.self.inside.all.keys ≡ c.loop-a.all = search rules in
    subst (IsStrictlySortedBy addr_cmp) e (subst (λ r. IsStrictlySortedBy r c.self.inside.all.keys) addr_order c.into_iter-a-iterator.ensures.into_iter_gives.4)
