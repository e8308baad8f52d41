use Rattle.std.proofs.Common.{rules, w64, ◌∙◌, ap}
use Rattle.std.proofs.lemmas.Int.{to_z-of_z}
use mir.Val.{SFits}
use Rattle.al_core.specs.declared.values.Val.TheVariants.{Int}
use Rattle.al_core.specs.Values.{truth}
use Rattle.al_exec.proofs.Numbers.{known_number, known_pointer}
use Rattle.al_exec.proofs.values.holds.Goals as goal

pub returns-in-Some : goal.returns-in-Some
returns-in-Some c =
    let fits : SFits w64 c.in-Some.n = search rules in
    c.truth.ensures ∙ ap (λ m. truth (Int m)) (to_z-of_z w64 c.in-Some.n fits)
    ∙ ap truth (known_number c.args.v c.in-Some.n c.in-Some.ensures)

pub returns-in-None : goal.returns-in-None
returns-in-None c = known_pointer c.args.v c.in-None.ensures
