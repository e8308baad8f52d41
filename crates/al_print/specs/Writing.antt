-- What a writer holds after bytes and after tokens.
use Rattle.std.specs.Prelude.{List, ◌++◌, fold}
use Rattle.al_source.specs.declared.tokens.TokenKind.{TokenKind}
use Rattle.al_grammar.specs.Characters.{Bytes}
use Rattle.al_print.specs.declared.writer.Writer.{Writer}
use Rattle.al_print.specs.Text.{spelling, ends_line, end_text, front_text}

abbrev pub appended : Writer → Bytes → Writer
appended w z = record { text = w.text ++ z; begins = w.begins }

unfoldable pub written : Writer → TokenKind → Writer
written w k =
    record { text = w.text ++ (front_text k w.begins ++ spelling k ++ end_text (ends_line k)); begins = ends_line k }

abbrev pub all_written : Writer → List TokenKind → Writer
all_written = fold written
