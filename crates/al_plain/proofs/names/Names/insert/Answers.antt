use Rattle.std.proofs.Common.{ap, ◌∙◌}
use Rattle.std.specs.FinSet as set
use Rattle.al_core.specs.Orders.{obj_cmp}
use Rattle.al_laws.proofs.Orders.{obj_total, obj_apart}
use Rattle.al_plain.proofs.DerivedOrders.{obj_derived, obj_order}
use Rattle.al_plain.proofs.Kept.{set_insert}
use Rattle.al_plain.proofs.names.Names.insert.Goals as goal

pub returns : goal.returns
returns c =
    set_insert obj_derived obj_cmp obj_order obj_total obj_apart c.self.inside.all c.insert.new.self c.args.o c.in_ok-insert.ensures.updates.0
    ∙ ap (λ s. set.insert s c.args.o) c.self.view_is
