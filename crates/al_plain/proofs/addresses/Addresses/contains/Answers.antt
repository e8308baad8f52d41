use Rattle.std.proofs.Common.{ap, ◌∙◌}
use Rattle.std.specs.FinSet as set
use Rattle.al_core.specs.Orders.{addr_cmp}
use Rattle.al_laws.proofs.Orders.{addr_total, addr_apart}
use Rattle.al_plain.proofs.DerivedOrders.{addr_derived, addr_order}
use Rattle.al_plain.proofs.Kept.{set_contains}
use Rattle.al_plain.proofs.addresses.Addresses.contains.Goals as goal

pub returns : goal.returns
returns c =
    c.contains.ensures ∙ set_contains addr_derived addr_cmp addr_order addr_total addr_apart c.self.inside.all c.args.a
    ∙ ap (λ s. set.contains s c.args.a) c.self.view_is
