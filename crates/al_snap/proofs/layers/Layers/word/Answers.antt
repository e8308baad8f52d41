use Rattle.std.proofs.Common.{ap, sym, ◌∙◌}
use Rattle.std.specs.FinMap as map
use Rattle.std.proofs.Math.Bool.{true≢false}
use Rattle.al_core.specs.declared.values.Trap.TheVariants as trap
use Rattle.al_snap.specs.declared.layers.Sight.{Sight}
use Rattle.al_snap.specs.Layers.{Layers}
use Rattle.al_snap.proofs.Changing.{own_by}
use Rattle.al_snap.proofs.Reading.{own_read, freed_read, below_there, if_missing}
use Rattle.al_snap.proofs.layers.Layers.word.Goals as goal

pub returns-then-has-clause-value : goal.returns-then-has-clause-value
returns-then-has-clause-value g c =
    c.own_word.ensures
    ∙ own_read c.args.self.now c.args.obj c.args.w
    (c.if-has.ensures ∙ ap (λ (l : Layers). map.contains_key l.own c.args.obj) c.self.view_is)

pub returns-then-has-clause-own : goal.returns-then-has-clause-own
returns-then-has-clause-own g c = c.if-has.ensures ∙ own_by _ c.args.self.now c.self.view_is c.args.obj

pub returns-then-has-clause-written : goal.returns-then-has-clause-written
returns-then-has-clause-written g c h = absurd (true≢false h)

pub returns-then-is_freed-clause-value : goal.returns-then-is_freed-clause-value
returns-then-is_freed-clause-value g c =
    ap (λ (s : Sight). s.value) c.nothing.ensures
    ∙ freed_read c.args.self.now c.args.obj c.args.w
    (c.if-has.ensures ∙ ap (λ (l : Layers). map.contains_key l.own c.args.obj) c.self.view_is) c.if-is_freed.ensures

pub returns-then-is_freed-clause-own : goal.returns-then-is_freed-clause-own
returns-then-is_freed-clause-own g c =
    ap (λ (s : Sight). s.own) c.nothing.ensures
    ∙ c.if-has.ensures
    ∙ own_by _ c.args.self.now c.self.view_is c.args.obj

pub returns-then-is_freed-clause-written : goal.returns-then-is_freed-clause-written
returns-then-is_freed-clause-written g c h =
    if_missing c.nothing.result.value trap.Missing _ (ap (λ (s : Sight). s.value) c.nothing.ensures)

pub returns-else-is_freed-clause-value : goal.returns-else-is_freed-clause-value
returns-else-is_freed-clause-value g c =
    c.below_word.ensures.value
    ∙ below_there c.args.self.now c.args.obj c.args.w
    (c.if-has.ensures ∙ ap (λ (l : Layers). map.contains_key l.own c.args.obj) c.self.view_is) c.if-is_freed.ensures

pub returns-else-is_freed-clause-own : goal.returns-else-is_freed-clause-own
returns-else-is_freed-clause-own g c =
    c.below_word.ensures.own
    ∙ c.if-has.ensures
    ∙ own_by _ c.args.self.now c.self.view_is c.args.obj

pub returns-else-is_freed-clause-written : goal.returns-else-is_freed-clause-written
returns-else-is_freed-clause-written g c h = c.below_word.ensures.written
