-- What a writer holds after tokens is their text.
use Rattle.std.proofs.Common.{◌≡◌, ℕ, List, [], ◌∷◌, ◌++◌, append_assoc, true, sym, ◌∙◌}
use Rattle.std.proofs.lemmas.List.{append-nil}
use Rattle.al_source.specs.declared.tokens.TokenKind.{TokenKind}
use Rattle.al_print.specs.declared.writer.Writer.{Writer}
use Rattle.al_print.specs.Text.{spelling, ends_line, end_text, front_text, text_from, text_of}
use Rattle.al_print.specs.Writing.{written, all_written}

parts : (a b c d e : List ℕ) → (a ++ (b ++ c ++ d)) ++ e ≡ a ++ (b ++ c ++ d ++ e)
parts a b c d e = append_assoc a (b ++ c ++ d) e

pub text_after : (w : Writer) (ks : List TokenKind) → (all_written w ks).text ≡ w.text ++ text_from w.begins ks
unfolding written
text_after w [] = sym (append-nil w.text)
text_after w (k ∷ ks) = text_after (written w k) ks ∙ parts w.text (front_text k w.begins) (spelling k) (end_text (ends_line k)) (text_from (ends_line k) ks)

pub text_written : (ks : List TokenKind) → (all_written (record { text = []; begins = true }) ks).text ≡ text_of ks
unfolding text_of
text_written ks = text_after (record { text = []; begins = true }) ks
