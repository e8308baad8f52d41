use Rattle.std.proofs.Common.{rules, w64, sym, ap, ◌∙◌, Ok}
use Rattle.std.proofs.lemmas.Int.{to_z-of_z}
use mir.Val.{SFits, to_z, of_z}
use Rattle.al_exec.proofs.Numbers.{element_found}
use Rattle.al_exec.proofs.values.element_offset.Goals as goal

pub returns-in-Ok : goal.returns-in-Ok
returns-in-Ok c =
    let fits : SFits w64 c.in-Ok.n = search rules in
    element_found c.args.v c.args.size c.args.index (to_z w64 (of_z w64 c.in-Ok.n)) c.offset_in.result c.offset_behind.result
    (ap Ok (to_z-of_z w64 c.in-Ok.n fits) ∙ sym c.in-Ok.is ∙ c.number_in.ensures) c.offset_in.ensures c.offset_behind.ensures
