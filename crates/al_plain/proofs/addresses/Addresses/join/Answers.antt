use Rattle.std.proofs.Common.{◌≡◌, arith, ◌∙◌}
use Rattle.std.proofs.lemmas.Grind.{common_steps}
use Rattle.al_plain.proofs.Kept.{with_all}
use Rattle.al_plain.proofs.AddressSets.{joined_by}
use Rattle.al_plain.proofs.addresses.Addresses.join.Goals as goal

pub returns : goal.returns
returns c =
    let e : c.loop-a.self ≡ with_all c.args.self.now c.in_ok-items.field-0 = grind (arith, common_steps) in
    e ∙ joined_by _ _ _ c.in_ok-items.ensures.same
