use Rattle.std.proofs.Common.{◌≤◌, length, Some, sym, ap, ◌∙◌, arith}
use Rattle.std.specs.Option.{option_copied}
use Rattle.al_exec.proofs.Acting.{is_missing}
use Rattle.al_exec.proofs.active.Active.print_text.Goals as goal

pub returns-in-Some : goal.returns-in-Some
returns-in-Some g c input =
    c.print.ensures input c.args.code.now (sym c.get.ensures.value ∙ ap option_copied c.in-Some.is ∙ ap Some (sym c.as_slice.ensures))

pub returns-in-None : goal.returns-in-None
returns-in-None g c =
    let past : length c.args.code.now.texts ≤ c.args.k = is_missing c.args.code.now.texts c.args.k (sym c.get.ensures.value ∙ ap option_copied c.in-None.is) in
    absurd (omega (arith, past, c.requires.number))
