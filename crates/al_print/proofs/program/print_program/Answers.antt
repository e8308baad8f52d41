use Rattle.std.proofs.Common.{◌≡◌, sym, subst}
use Rattle.al_print.specs.Text.{text_of}
use Rattle.al_print.specs.Tokens.{tokens_of}
use Rattle.al_print.specs.ReadingBack.{ReadsBack}
use Rattle.al_print.proofs.TextLemmas.{text_written}
use Rattle.al_print.proofs.ReadBack.{reads_back}
use Rattle.al_print.proofs.program.print_program.Goals as goal

pub returns-clause-read_back : goal.returns-clause-read_back
returns-clause-read_back c =
    let text : c.items.new.w.text ≡ text_of (tokens_of c.args.program.now) = rw (c.in_ok-items.ensures, c.new-w.ensures, c.as_slice.ensures)
    (text_written (tokens_of c.args.program.now)) in
    λ h. subst (ReadsBack c.args.program.now) (sym text) (reads_back c.args.program.now h)
