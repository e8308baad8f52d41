use Rattle.std.proofs.Common.{◌≡◌, [], drop, map, arith, sym, ap, ◌∙◌}
use Rattle.std.proofs.lemmas.Grind.{common_steps}
use Rattle.std.proofs.lemmas.Result.{err_from_is_err_and}
use Rattle.al_core.specs.LoopsInPlace.{placed_of}
use Rattle.al_core.specs.Loops.{program_loops}
use Rattle.al_loop_notes.specs.Entries.{noted_from}
use Rattle.al_loop_notes.proofs.Noted.{notes_are, noted_next, noted_stops, fails_whole}
use Rattle.al_loop_notes.proofs.entries.notes.Goals as goal

pub loop-place-init : goal.loop-place-init
loop-place-init c =
    ap (λ items. noted_from c.args.typed.now c.new-infos.result 0 (map placed_of items)) c.as_slice-l-items.ensures
    ∙ ap (noted_from c.args.typed.now c.new-infos.result 0) (c.in_ok-loops.ensures)
    ∙ ap (λ infos. noted_from c.args.typed.now infos 0 (program_loops c.args.typed.now)) c.new-infos.ensures

pub returns-in_err-add_entry : goal.returns-in_err-add_entry
returns-in_err-add_entry c =
    let p = err_from_is_err_and c.from_residual-in_err-add_entry.result c.from_residual-in_err-add_entry.ensures.1 in
    rw (p.1, p.2) (fails_whole _ _ _
    (λ e is. notes_are c.args.typed.now ∙ sym c.loop-place.invariant
    ∙ noted_stops c.args.typed.now c.loop-place.infos c.as_slice-l-items.result.now c.loop-place.place c.l-item.result c.loop-place-test.true c.l-item.is e is)
    c.in_err-add_entry.ensures)

pub loop-place-preserved : goal.loop-place-preserved
loop-place-preserved c =
    sym (noted_next c.args.typed.now c.loop-place.infos c.as_slice-l-items.result.now c.loop-place.place c.l-item.result
    c.loop-place-test.true c.l-item.is c.add_entry.new.infos c.in_ok-add_entry.ensures)
    ∙ c.loop-place.invariant

pub returns : goal.returns
returns c =
    let end : drop c.loop-place.place (map placed_of c.as_slice-l-items.result.now) ≡ [] = grind (arith, common_steps) in
    notes_are c.args.typed.now ∙ sym c.loop-place.invariant
    ∙ ap (noted_from c.args.typed.now c.loop-place.infos c.loop-place.place) end
