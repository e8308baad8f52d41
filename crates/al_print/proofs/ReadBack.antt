-- The text of a program that has a source is read back.
use Rattle.std.proofs.Common.{List, ap}
use Rattle.al_source.specs.declared.source_tree.Item.{Item}
use Rattle.al_source.specs.declared.source_tree.Program.{Program}
use Rattle.al_print.specs.Text.{text_of}
use Rattle.al_print.specs.Tokens.{tokens_of}
use Rattle.al_print.specs.ReadingBack.{HasSource, ReadsBack}
use Rattle.al_print.proofs.Writable.{writable}
use Rattle.al_print.proofs.PrintedProgram.{program}
use Rattle.al_print.proofs.SpelledText.{spelled_text}

pub reads_back : (p : Program) → HasSource p → ReadsBack p (text_of (tokens_of p))
reads_back p h =
    let w = program h.3 (writable h.0 h.1 h.2) in
    let s = spelled_text (tokens_of p) w.tidy in
    let (js, d, same) = w.reads s.tokens s.has in
    (s.tokens, record { items = js }, s.spells, d, ap (λ (is : List Item). record { items = is }) same)
