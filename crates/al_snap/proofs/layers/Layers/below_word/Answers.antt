use Rattle.std.proofs.Common.{false, refl, sym, ap, ◌∙◌}
use Rattle.al_core.specs.declared.values.Addr.TheVariants.{Word}
use Rattle.al_snap.specs.declared.layers.Sight.{Sight}
use Rattle.al_snap.specs.Layers.{Layers}
use Rattle.al_snap.proofs.Reading.{below_read, if_ok, if_missing, below_written}
use Rattle.al_snap.proofs.layers.Layers.below_word.Goals as goal

pub returns-in-Ok-clause-value : goal.returns-in-Ok-clause-value
returns-in-Ok-clause-value g c =
    c.below.ensures.value
    ∙ below_read c.args.self.now.writes _ c.args.self.now.base (ap (λ (l : Layers). l.base) c.self.view_is) c.args.obj c.args.w _
    (sym c.in-Ok.is ∙ c.read.ensures)

pub returns-in-Ok-clause-written : goal.returns-in-Ok-clause-written
returns-in-Ok-clause-written g c =
    if_ok c.below.result.value _
    (below_written _ c.args.self.now c.self.view_is c.self.invariant (Word c.args.obj c.args.w) refl c.below.result.written
    c.below.ensures.written)

pub returns-in-Err-clause-value : goal.returns-in-Err-clause-value
returns-in-Err-clause-value g c =
    ap (λ (s : Sight). s.value) c.nothing.ensures
    ∙ below_read c.args.self.now.writes _ c.args.self.now.base (ap (λ (l : Layers). l.base) c.self.view_is) c.args.obj c.args.w _
    (sym c.in-Err.is ∙ c.read.ensures)

pub returns-in-Err-clause-written : goal.returns-in-Err-clause-written
returns-in-Err-clause-written g c = if_missing c.nothing.result.value c.in-Err.t _ (ap (λ (s : Sight). s.value) c.nothing.ensures)
