use Rattle.std.proofs.Common.{rules, w64, ◌∙◌, ap, Ok}
use Rattle.std.proofs.lemmas.Int.{to_z-of_z}
use mir.Val.{SFits}
use Rattle.al_core.specs.Values.{number}
use Rattle.al_exec.proofs.Numbers.{known_number}
use Rattle.al_exec.proofs.values.number_in.Goals as goal

pub returns-in-Some : goal.returns-in-Some
returns-in-Some c =
    let fits : SFits w64 c.in-Some.n = search rules in
    ap Ok (to_z-of_z w64 c.in-Some.n fits) ∙ ap number (known_number c.args.v c.in-Some.n c.in-Some.ensures)
