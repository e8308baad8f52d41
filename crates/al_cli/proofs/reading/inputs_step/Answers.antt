use Rattle.std.proofs.Common.{◌∷◌, [], ℕ, List, ap, sym, map, drop, ◌+◌, string_bytes, subst, length, arith}
use Rattle.std.proofs.lemmas.List.{length-append}
use Rattle.al_answers.specs.Seen.{FilesSeen, files_seen}
use Rattle.al_words.specs.Words.{word_at}
use Rattle.al_cli.proofs.Onward.{Onward}
use Rattle.al_cli.proofs.Comings.{on_any_err, inputs_begin, inputs_go, inputs_stop, next_named}
use Rattle.al_cli.proofs.reading.inputs_step.Goals as goal

pub loop-place-init : goal.loop-place-init
loop-place-init g c = record { onward = inputs_begin _ _ _ c.new-all.ensures; counted = ap length c.new-all.ensures }

pub returns-in_err-push-in-Numbers-clause-err : goal.returns-in_err-push-in-Numbers-clause-err
returns-in_err-push-in-Numbers-clause-err g c =
    let words : List (List ℕ) = map string_bytes c.args.words.now in
    let names : List (List ℕ) = map (word_at words) c.args.places.now in
    let others : List (List ℕ) = map (word_at words) (drop (c.loop-place.place-index + 1) c.args.places.now) in
    let first : FilesSeen = files_seen g.F.Files.contents g.F.Files.calls g.F.Files.faults c.args.files.now in
    let before : FilesSeen = files_seen g.F.Files.contents g.F.Files.calls g.F.Files.faults c.loop-place.files in
    let after : FilesSeen = files_seen g.F.Files.contents g.F.Files.calls g.F.Files.faults c.numbers_of.new.files in
    let left = next_named words c.args.places.now c.loop-place.place-index c.from.result _ c.word_at.result.now c.loop-place-test.true c.from.ensures
    c.word_at.ensures in
    let so_far = subst (λ left. Onward names first left before c.loop-place.all) left c.loop-place.invariant.onward in
    on_any_err c.from_residual-in_err-push-in-Numbers.result _
    (inputs_stop names first others after _
    (inputs_go names first c.word_at.result.now others before after c.loop-place.all c.in_ok-numbers.field-0 so_far c.in_ok-numbers.ensures.ok
    c.in-Numbers.numbers c.in-Numbers.is))

pub loop-place-preserved : goal.loop-place-preserved
loop-place-preserved g c =
    let words : List (List ℕ) = map string_bytes c.args.words.now in
    let names : List (List ℕ) = map (word_at words) c.args.places.now in
    let others : List (List ℕ) = map (word_at words) (drop (c.loop-place.place-index + 1) c.args.places.now) in
    let first : FilesSeen = files_seen g.F.Files.contents g.F.Files.calls g.F.Files.faults c.args.files.now in
    let before : FilesSeen = files_seen g.F.Files.contents g.F.Files.calls g.F.Files.faults c.loop-place.files in
    let after : FilesSeen = files_seen g.F.Files.contents g.F.Files.calls g.F.Files.faults c.numbers_of.new.files in
    let left = next_named words c.args.places.now c.loop-place.place-index c.from.result _ c.word_at.result.now c.loop-place-test.true c.from.ensures
    c.word_at.ensures in
    let so_far = subst (λ left. Onward names first left before c.loop-place.all) left c.loop-place.invariant.onward in
    let pushed = c.in_ok-push-in-Numbers.ensures.ok in
    let counted = c.loop-place.invariant.counted in
    let on = inputs_go names first c.word_at.result.now others before after c.loop-place.all c.in_ok-numbers.field-0 so_far c.in_ok-numbers.ensures.ok
    c.in-Numbers.numbers c.in-Numbers.is in
    record {
      onward = subst (Onward names first others after) (sym pushed) on;
      counted = rw (pushed, length-append c.loop-place.all (c.in-Numbers.numbers ∷ [])) (omega arith);
    }
