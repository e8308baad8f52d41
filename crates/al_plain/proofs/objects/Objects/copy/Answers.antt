use Rattle.std.proofs.Common.{◌≡◌, rules, [], subst, ◌∙◌}
use Rattle.std.specs.FinMap as map
use Rattle.std.specs.List.Sorted.{IsStrictlySortedBy}
use Rattle.std.specs.Map.{keys_of}
use Rattle.al_core.specs.Applied.{with_made}
use Rattle.al_laws.proofs.Orders.{obj_total, obj_apart}
use Rattle.al_plain.proofs.DerivedOrders.{obj_order}
use Rattle.al_plain.proofs.Kept.{rises}
use Rattle.al_plain.proofs.Replaced.{added_to_none}
use Rattle.al_plain.proofs.objects.Objects.copy.Goals as goal

pub returns : goal.returns
returns c =
    let es = c.self.inside.words.entries in
    let e : c.loop-o.all ≡ (with_made es (record { objects = map.empty; locals = [] })).objects = search rules in
    e ∙ added_to_none es (rises obj_total obj_apart es (subst (λ r. IsStrictlySortedBy r (keys_of es)) obj_order
    c.into_iter-o-iterator.ensures.into_iter_gives.5)) ∙ c.self.view_is
