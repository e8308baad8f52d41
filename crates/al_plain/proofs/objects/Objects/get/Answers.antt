use Rattle.std.proofs.Common.{ap, ◌∙◌}
use Rattle.std.specs.FinMap as map
use Rattle.al_core.specs.Orders.{obj_cmp}
use Rattle.al_laws.proofs.Orders.{obj_total, obj_apart}
use Rattle.al_plain.proofs.DerivedOrders.{obj_derived, obj_order}
use Rattle.al_plain.proofs.Kept.{map_get}
use Rattle.al_plain.proofs.objects.Objects.get.Goals as goal

pub returns : goal.returns
returns c =
    c.get.ensures.value ∙ map_get obj_derived obj_cmp obj_order obj_total obj_apart c.self.inside.words c.args.o ∙ ap (λ m. map.get m c.args.o) c.self.view_is
