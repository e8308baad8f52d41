-- The canonical text of tokens.
use Rattle.std.specs.Prelude.{ℕ, Bool, true, false, if◌then◌else◌, ◌==◌, List, [], ◌∷◌, ◌++◌, codes}
use Rattle.std.specs.Fmt.{signed_decimal}
use Rattle.al_source.specs.declared.texts.Piece.{Piece}
use Rattle.al_source.specs.declared.texts.Piece.TheVariants as piece
use Rattle.al_source.specs.declared.tokens.Mark.TheVariants as m
use Rattle.al_source.specs.declared.tokens.TokenKind.{TokenKind}
use Rattle.al_source.specs.declared.tokens.TokenKind.TheVariants as kind
use Rattle.al_grammar.specs.Characters.{Bytes}
use Rattle.al_grammar.specs.Words.{key_text, mark_text}

-- ---- texts

-- A line feed, a tab, `\` and `"` are escaped, and `%` is doubled.
abbrev pub byte_text : ℕ → Bytes
byte_text b =
    if b == 10 then codes "\\n" else
    if b == 9 then codes "\\t" else
    if b == 92 then codes "\\\\" else
    if b == 34 then codes "\\\"" else
    if b == 37 then codes "%%" else
    b ∷ []

abbrev pub bytes_text : Bytes → Bytes
bytes_text [] = []
bytes_text (b ∷ bs) = byte_text b ++ bytes_text bs

abbrev pub piece_text : Piece → Bytes
piece_text (piece.Plain bs) = bytes_text bs
piece_text piece.Number = codes "%ld"

abbrev pub format_text : List Piece → Bytes
format_text [] = []
format_text (p ∷ ps) = piece_text p ++ format_text ps

-- ---- tokens

-- the bytes of a token
abbrev pub spelling : TokenKind → Bytes
spelling (kind.Word w) = w
spelling (kind.Key key) = key_text key
spelling (kind.Number v) = signed_decimal v
spelling (kind.Text f) = codes "\"" ++ format_text f ++ codes "\""
spelling (kind.Mark mark) = mark_text mark
spelling kind.Alter = codes "#pragma alter"
spelling kind.EndAlter = []

-- whether a line feed follows the token, and no blank
abbrev pub ends_line : TokenKind → Bool
ends_line (kind.Mark m.Semicolon) = true
ends_line (kind.Mark m.LeftBrace) = true
ends_line (kind.Mark m.RightBrace) = true
ends_line kind.EndAlter = true
ends_line _ = false

abbrev pub end_text : Bool → Bytes
end_text true = 10 ∷ []
end_text false = 32 ∷ []

-- The front of an annotation begins a line: where none begins, a line feed stands before it.
abbrev pub front_text : TokenKind → Bool → Bytes
front_text kind.Alter false = 10 ∷ []
front_text _ _ = []

-- the text of tokens, where a line begins before them or not
abbrev pub text_from : Bool → List TokenKind → Bytes
text_from begins [] = []
text_from begins (k ∷ ks) = front_text k begins ++ spelling k ++ end_text (ends_line k) ++ text_from (ends_line k) ks

unfoldable pub text_of : List TokenKind → Bytes
text_of = text_from true
