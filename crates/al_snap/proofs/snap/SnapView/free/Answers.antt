use Rattle.std.proofs.Common.{List, ap, sym, ◌∙◌}
use Rattle.al_core.specs.declared.choices.Red.{Red}
use Rattle.al_core.specs.declared.values.Val.{Val}
use Rattle.al_core.specs.Access.{AccessRecord}
use Rattle.al_snap.specs.declared.marks.Marks.{Marks}
use Rattle.al_snap.specs.Layers.{Layers, seen, touched_unless}
use Rattle.al_core.specs.declared.values.Addr.TheVariants.{Head}
use Rattle.al_snap.specs.Marks.{marked, with_freed}
use Rattle.al_snap.specs.Snaps.{chunk_record}
use Rattle.al_snap.proofs.Doing.{freed_after, free_missing, free_done}
use Rattle.al_snap.proofs.snap.SnapView.free.Goals as goal

pub returns-then-not-there : goal.returns-then-not-there
returns-then-not-there g c =
    let l : Layers = c.args.self.now.layers in
    let reds : List Red = c.args.self.now.reds in
    let accumulators : List Val = c.args.self.now.accumulators in
    let marks : Marks = c.args.self.now.marks in
    let rest : AccessRecord = chunk_record l reds accumulators in
    let x : AccessRecord = marked rest marks in
    free_missing (seen l) c.args.self.now.names c.args.self.now.printed x
    c.args.obj c.args.at (sym c.is_freeable.ensures ∙ c.if-not-is_freeable.false) c.is_own-own.result c.is_own-own.ensures
    c.has_object-there.result c.has_object-there.ensures c.if-not-there.true _
    (c.in_ok-free.ensures rest ∙ ap (with_freed x c.is_own-own.result c.args.obj) (sym c.if-not-there.true))

pub returns : goal.returns
returns g c =
    let l : Layers = c.args.self.now.layers in
    let reds : List Red = c.args.self.now.reds in
    let accumulators : List Val = c.args.self.now.accumulators in
    let marks : Marks = c.args.self.now.marks in
    let rest : AccessRecord = chunk_record l reds accumulators in
    let x : AccessRecord = marked rest marks in
    free_done (seen l) c.args.self.now.names c.args.self.now.printed x
    c.args.obj c.args.at (sym c.is_freeable.ensures ∙ c.if-not-is_freeable.false) c.is_own-own.result c.is_own-own.ensures
    c.has_object-there.result c.has_object-there.ensures c.if-not-there.false
    c.remove.new.self.freed c.in_ok-remove.ensures.freed _
    (freed_after c.remove.new.self l reds accumulators marks c.free.new.self c.is_own-own.result c.args.obj
    c.in_ok-remove.ensures.made
    (c.in_ok-remove.ensures.touched ∙ ap (λ b. touched_unless b l.touched (Head c.args.obj)) (sym c.is_own-own.ensures))
    c.in_ok-free.ensures
    ∙ ap (with_freed (record x { freed = c.remove.new.self.freed }) c.is_own-own.result c.args.obj) (sym c.if-not-there.false))
    (seen c.remove.new.self) c.in_ok-remove.ensures.seen
