use Rattle.std.proofs.Common.{◌<◌, ◌-◌, length, ap, ◌∙◌, arith}
use Rattle.std.specs.Prelude.{slice_set}
use Rattle.std.proofs.lemmas.List.{length-reverse}
use Rattle.al_code_laws.specs.Planned.{planned}
use Rattle.al_lower.proofs.Backwards.{set_backwards}
use Rattle.al_lower.proofs.backward.Backward.replace.Goals as goal

pub returns : goal.returns
returns c =
    let within : c.args.after < length c.self.inside.items.items =
    omega (arith, c.requires, ap length c.self.view_is, length-reverse c.self.inside.items.items) in
    let p = planned c.args.op c.args.line c.args.height in
    set_backwards c.self.inside.items.items c.args.after p within ∙ ap (λ l. slice_set l (length l - 1 - c.args.after) p) c.self.view_is
