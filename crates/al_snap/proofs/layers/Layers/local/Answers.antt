use Rattle.std.proofs.Common.{refl, sym, ap, ◌∙◌}
use Rattle.al_core.specs.declared.values.Addr.TheVariants.{Local}
use Rattle.al_core.specs.declared.values.Trap.TheVariants as trap
use Rattle.al_snap.specs.declared.layers.Sight.{Sight}
use Rattle.al_snap.specs.Layers.{Layers, option_ok_or}
use Rattle.al_snap.proofs.Reading.{local_read, if_ok, if_missing, below_written}
use Rattle.al_snap.proofs.layers.Layers.local.Goals as goal

pub returns-in-Some-clause-value : goal.returns-in-Some-clause-value
returns-in-Some-clause-value g c =
    c.below.ensures.value
    ∙ ap (option_ok_or trap.Missing)
    (local_read c.args.self.now.writes _ c.args.self.now.base (ap (λ (l : Layers). l.base) c.self.view_is) c.args.k _
    (sym c.in-Some.is ∙ c.local.ensures))

pub returns-in-Some-clause-written : goal.returns-in-Some-clause-written
returns-in-Some-clause-written g c =
    if_ok c.below.result.value _
    (below_written _ c.args.self.now c.self.view_is c.self.invariant (Local c.args.k) refl c.below.result.written
    c.below.ensures.written)

pub returns-in-None-clause-value : goal.returns-in-None-clause-value
returns-in-None-clause-value g c =
    ap (λ (s : Sight). s.value) c.nothing.ensures
    ∙ ap (option_ok_or trap.Missing)
    (local_read c.args.self.now.writes _ c.args.self.now.base (ap (λ (l : Layers). l.base) c.self.view_is) c.args.k _
    (sym c.in-None.is ∙ c.local.ensures))

pub returns-in-None-clause-written : goal.returns-in-None-clause-written
returns-in-None-clause-written g c = if_missing c.nothing.result.value trap.Missing _ (ap (λ (s : Sight). s.value) c.nothing.ensures)
