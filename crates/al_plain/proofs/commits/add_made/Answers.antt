use Rattle.std.proofs.Common.{◌≡◌, arith, ap, ◌∙◌}
use Rattle.std.specs.Prelude.{filter_map}
use Rattle.std.proofs.lemmas.Grind.{common_steps}
use Rattle.al_core.specs.Applied.{with_made}
use Rattle.al_plain.proofs.Committed.{made_at, made_entries}
use Rattle.al_plain.proofs.commits.add_made.Goals as goal

pub returns : goal.returns
returns c =
    let m = c.args.from.now in
    let ks = c.in_ok-items.field-0 in
    let e : c.loop-o.onto ≡ with_made (filter_map (made_at m) ks) c.args.onto.now = grind (arith, common_steps) in
    e ∙ ap (λ es. with_made es c.args.onto.now) (made_entries m ks c.args.made.now c.in_ok-items.ensures.same c.in_ok-items.ensures.sorted)
