-- A mark with the length of its bytes.
use Rattle.std.specs.Prelude.{ℕ, length, Option, option_map}
use Rattle.al_source.specs.declared.tokens.Mark.{Mark}
use Rattle.al_grammar.specs.Words.{mark_text}

abbrev pub with_len : Option Mark → Option (Mark × ℕ)
with_len = option_map (λ m. (m, length (mark_text m)))
