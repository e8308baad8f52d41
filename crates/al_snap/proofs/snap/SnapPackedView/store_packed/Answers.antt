use Rattle.std.proofs.Common.{◌≡◌, List, None, is_ok, ap, sym, ◌∙◌}
use Rattle.al_core.specs.declared.choices.Red.{Red}
use Rattle.al_core.specs.declared.values.Val.{Val}
use Rattle.al_core.specs.Access.{AccessRecord, red_index}
use Rattle.al_core.specs.Memory.{put}
use Rattle.al_snap.specs.declared.marks.Marks.{Marks}
use Rattle.al_snap.specs.Layers.{Layers, seen, own_has, touched_unless}
use Rattle.al_snap.specs.Marks.{marked, with_stored}
use Rattle.al_snap.specs.Snaps.{chunk_record}
use Rattle.al_snap.proofs.Doing.{own_is, stored_after, store_missing, store_there}
use Rattle.al_snap.proofs.snap.SnapPackedView.store_packed.Goals as goal

pub returns-in_ok-put-in-Ok : goal.returns-in_ok-put-in-Ok
returns-in_ok-put-in-Ok g c =
    let l : Layers = c.args.self.now.layers in
    let reds : List Red = c.args.self.now.reds in
    let accumulators : List Val = c.args.self.now.accumulators in
    let marks : Marks = c.args.self.now.marks in
    let rest : AccessRecord = chunk_record l reds accumulators in
    let x : AccessRecord = marked rest marks in
    let found : None ≡ red_index reds c.args.at =
    c.in_default.ensures ∙ ap (λ r. red_index r c.args.at) c.as_slice.ensures in
    let none : red_index reds c.args.at ≡ None = sym found in
    let own : c.look-sight.result.own ≡ own_has l c.args.at = c.look-sight.ensures.own in
    store_there (seen l) c.args.self.now.names c.args.self.now.printed x
    c.args.at c.args.value none c.look-sight.result.value c.look-sight.ensures.value c.look-sight.result.own
    (c.look-sight.ensures.own ∙ own_is l reds accumulators marks c.args.at)
    _ (stored_after c.put.new.self l reds accumulators marks c.store.new.self c.look-sight.result.own c.args.at
    c.in_ok-put-in-Ok.ensures.made c.in_ok-put-in-Ok.ensures.freed
    (c.in_ok-put-in-Ok.ensures.touched ∙ ap (λ b. touched_unless b l.touched c.args.at) (sym own)) c.in_ok-store.ensures
    ∙ ap (λ r. with_stored x c.look-sight.result.own c.args.at (is_ok r)) (sym c.in-Ok.is))
    c.in-Ok.field-0 c.in-Ok.is (seen c.put.new.self)
    c.in_ok-put-in-Ok.ensures.seen

pub returns-in-Err : goal.returns-in-Err
returns-in-Err g c =
    let l : Layers = c.args.self.now.layers in
    let reds : List Red = c.args.self.now.reds in
    let accumulators : List Val = c.args.self.now.accumulators in
    let marks : Marks = c.args.self.now.marks in
    let rest : AccessRecord = chunk_record l reds accumulators in
    let x : AccessRecord = marked rest marks in
    let found : None ≡ red_index reds c.args.at =
    c.in_default.ensures ∙ ap (λ r. red_index r c.args.at) c.as_slice.ensures in
    let none : red_index reds c.args.at ≡ None = sym found in
    let recorded : marked rest c.store.new.self ≡ with_stored x c.look-sight.result.own c.args.at (is_ok c.look-sight.result.value) =
    c.in_ok-store.ensures rest ∙ ap (λ r. with_stored x c.look-sight.result.own c.args.at (is_ok r)) (sym c.in-Err.is) in
    store_missing (seen l) c.args.self.now.names c.args.self.now.printed x
    c.args.at c.args.value none c.look-sight.result.value c.look-sight.ensures.value c.look-sight.result.own
    (c.look-sight.ensures.own ∙ own_is l reds accumulators marks c.args.at)
    _ recorded c.in-Err.t c.in-Err.is
