use Rattle.std.proofs.Common.{ap, ◌∙◌}
use Rattle.std.specs.FinSet as set
use Rattle.al_core.specs.Orders.{obj_cmp}
use Rattle.al_laws.proofs.Orders.{obj_total, obj_apart}
use Rattle.al_plain.proofs.DerivedOrders.{obj_derived, obj_order}
use Rattle.al_plain.proofs.Kept.{set_contains}
use Rattle.al_plain.proofs.names.Names.contains.Goals as goal

pub returns : goal.returns
returns c =
    c.contains.ensures ∙ set_contains obj_derived obj_cmp obj_order obj_total obj_apart c.self.inside.all c.args.o
    ∙ ap (λ s. set.contains s c.args.o) c.self.view_is
