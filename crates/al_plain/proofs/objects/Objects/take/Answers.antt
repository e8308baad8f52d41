use Rattle.std.proofs.Common.{ap, ◌∙◌}
use Rattle.std.specs.FinMap as map
use Rattle.al_core.specs.Orders.{obj_cmp}
use Rattle.al_laws.proofs.Orders.{obj_total, obj_apart}
use Rattle.al_plain.proofs.DerivedOrders.{obj_derived, obj_order}
use Rattle.al_plain.proofs.Kept.{map_get, map_remove}
use Rattle.al_plain.proofs.objects.Objects.take.Goals as goal

pub returns-clause-taken : goal.returns-clause-taken
returns-clause-taken c =
    c.remove.ensures.value ∙ map_get obj_derived obj_cmp obj_order obj_total obj_apart c.self.inside.words c.args.o
    ∙ ap (λ m. map.get m c.args.o) c.self.view_is

pub returns-clause-rest : goal.returns-clause-rest
returns-clause-rest c =
    map_remove obj_derived obj_cmp obj_order obj_total obj_apart c.self.inside.words c.remove.new.self c.args.o c.remove.ensures.updates.0
    ∙ ap (λ m. map.remove m c.args.o) c.self.view_is
