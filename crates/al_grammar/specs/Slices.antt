-- Where the tokens of a source lie in it, and what their bytes are.
use Rattle.std.specs.Prelude.{◌≡◌, ◌≤◌, ℕ, ◌+◌, ◌-◌, List, [], ◌∷◌, ◌++◌, length, take, slice_range, pos, codes}
use Rattle.al_source.specs.declared.tokens.Token.{Token}
use Rattle.al_source.specs.declared.tokens.TokenKind.{TokenKind}
use Rattle.al_source.specs.declared.tokens.TokenKind.TheVariants as kind
use Rattle.al_grammar.specs.Characters.{Bytes, line_feeds}
use Rattle.al_grammar.specs.Words.{key_text, mark_text}
use Rattle.al_grammar.specs.Lexemes.{number_value, format_of}

-- the bytes that a token spans
abbrev pub slice : Bytes → Token → Bytes
slice source t = slice_range source t.start t.end

-- What the bytes of a token are, by its kind. A text's format is that of what stands between its quotes.
abbrev pub IsSpelledBy : TokenKind → Bytes → Type 0
IsSpelledBy (kind.Word name) z = z ≡ name
IsSpelledBy (kind.Key key) z = z ≡ key_text key
IsSpelledBy (kind.Number n) z = n ≡ pos (number_value z)
IsSpelledBy (kind.Text format) z = format ≡ format_of (slice_range z 1 (length z - 1))
IsSpelledBy (kind.Mark mark) z = z ≡ mark_text mark
IsSpelledBy kind.Alter z = (middle : Bytes) × (z ≡ codes "#" ++ middle ++ codes "alter")
IsSpelledBy kind.EndAlter z = z ≡ []

abbrev pub EachIsItsSlice : Bytes → List Token → Type 0
EachIsItsSlice source [] = Unit {0}
EachIsItsSlice source (t ∷ ts) = IsSpelledBy t.kind (slice source t) × EachIsItsSlice source ts

-- from a place on each span begins where the one before it ends, or later, and the last ends by another place
abbrev pub InOrder : ℕ → ℕ → List Token → Type 0
InOrder from to [] = from ≤ to
InOrder from to (t ∷ ts) = (from ≤ t.start) × (t.start ≤ t.end) × InOrder t.end to ts

-- the line of a place, from 1
abbrev pub line_at : Bytes → ℕ → ℕ
line_at source at = 1 + line_feeds (take at source)

-- each token has the line of its first byte
abbrev pub EachOnItsLine : Bytes → List Token → Type 0
EachOnItsLine source [] = Unit {0}
EachOnItsLine source (t ∷ ts) = (t.line ≡ line_at source t.start) × EachOnItsLine source ts
