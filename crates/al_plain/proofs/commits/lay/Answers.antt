use Rattle.std.proofs.Common.{◌≡◌, arith, ap, ◌∙◌}
use Rattle.std.specs.Prelude.{filter_map}
use Rattle.std.proofs.lemmas.Grind.{common_steps}
use Rattle.al_core.specs.Applied.{with_writes}
use Rattle.al_plain.proofs.Committed.{written, written_entries}
use Rattle.al_plain.proofs.commits.lay.Goals as goal

pub returns : goal.returns
returns c =
    let m = c.args.from.now in
    let ks = c.in_ok-items.field-0 in
    let e : c.loop-a.onto ≡ with_writes (filter_map (written m) ks) c.args.onto.now = grind (arith, common_steps) in
    e ∙ ap (λ es. with_writes es c.args.onto.now) (written_entries m ks c.args.touched.now c.in_ok-items.ensures.same c.in_ok-items.ensures.sorted)
