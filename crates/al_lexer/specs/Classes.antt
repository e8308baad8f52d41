-- The classes of bytes of which the lexer takes the longest run.
use Rattle.std.specs.Prelude.{ℕ, Bool}
use Rattle.std.specs.Char.{is_ascii_digit, is_ascii_hexdigit}
use Rattle.al_lexer.specs.declared.scan.Class.{Class}
use Rattle.al_lexer.specs.declared.scan.Class.TheVariants as class
use Rattle.al_grammar.specs.Characters.{is_word, is_on_line}

abbrev pub is_in : Class → ℕ → Bool
is_in class.Word = is_word
is_in class.Digit = is_ascii_digit
is_in class.Hexadecimal = is_ascii_hexdigit
is_in class.Line = is_on_line
