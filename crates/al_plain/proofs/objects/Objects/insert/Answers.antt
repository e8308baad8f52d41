use Rattle.std.proofs.Common.{ap, ◌∙◌}
use Rattle.std.specs.FinMap as map
use Rattle.al_core.specs.Orders.{obj_cmp}
use Rattle.al_laws.proofs.Orders.{obj_total, obj_apart}
use Rattle.al_plain.proofs.DerivedOrders.{obj_derived, obj_order}
use Rattle.al_plain.proofs.Kept.{map_insert}
use Rattle.al_plain.proofs.objects.Objects.insert.Goals as goal

pub returns : goal.returns
returns c =
    map_insert obj_derived obj_cmp obj_order obj_total obj_apart c.self.inside.words c.insert.new.self c.args.o c.args.words c.in_ok-insert.ensures.updates.0
    ∙ ap (λ m. map.insert m c.args.o c.args.words) c.self.view_is
