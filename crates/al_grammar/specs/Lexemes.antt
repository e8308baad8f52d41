-- What may stand at the front of a text: comments, names, numbers, texts and marks, each with its length in bytes.
use Rattle.std.specs.Prelude.{ℕ, zero, suc, ◌+◌, ◌-◌, Bool, not, ◌&&◌, ◌||◌, if◌then◌else◌, ◌==◌, nat_lt, nat_le, List, [], ◌∷◌, take, drop, length, slice_index, slice_range, Option, Some, None, option_map, option_and_then, Result, Ok, Err, ℤ, pos}
use Rattle.std.specs.List.{prefix_len}
use Rattle.std.specs.Char.{is_ascii_digit, is_ascii_hexdigit}
use Rattle.al_source.specs.declared.texts.Piece.{Piece}
use Rattle.al_source.specs.declared.texts.Piece.TheVariants as piece
use Rattle.al_source.specs.declared.tokens.Key.{Key}
use Rattle.al_source.specs.declared.tokens.Mark.{Mark}
use Rattle.al_source.specs.declared.tokens.TokenKind.{TokenKind}
use Rattle.al_source.specs.declared.tokens.TokenKind.TheVariants as kind
use Rattle.al_source.specs.declared.faults.LexFault.{LexFault}
use Rattle.al_source.specs.declared.faults.LexFault.TheVariants.{BadByte, BadNumber, BadText}
use Rattle.al_grammar.specs.Characters.{Bytes, is_letter, is_word, is_on_line, is_plain, value_in}
use Rattle.al_grammar.specs.Words.{key_of, mark_text, mark_at}

-- ---- comments

-- the length up to and with the next `*/`
abbrev pub block_len : Bytes → Option ℕ
block_len [] = None
block_len (b ∷ z) = if b == 42 && slice_index z 0 == 47 then Some 2 else option_map suc (block_len z)

abbrev pub begins_line_comment : Bytes → Bool
begins_line_comment z = slice_index z 0 == 47 && slice_index z 1 == 47

abbrev pub begins_block_comment : Bytes → Bool
begins_block_comment z = slice_index z 0 == 47 && slice_index z 1 == 42

-- `//` and what follows on its line
abbrev pub line_comment_len : Bytes → ℕ
line_comment_len z = 2 + prefix_len is_on_line (drop 2 z)

-- `/*` up to the next `*/` after it, if there is one
abbrev pub block_comment_len : Bytes → Option ℕ
block_comment_len z = option_map (λ n. 2 + n) (block_len (drop 2 z))

-- ---- names

-- the longest name
abbrev pub name_len : Bytes → ℕ
name_len z = prefix_len is_word z

-- a name that is no reserved word is a word
abbrev pub named : Bytes → Option Key → TokenKind
named word None = kind.Word word
named word (Some key) = kind.Key key

abbrev pub name_kind : Bytes → TokenKind
name_kind word = named word (key_of word)

-- ---- numbers

abbrev pub is_hexadecimal : Bytes → Bool
is_hexadecimal z = slice_index z 0 == 48 && (slice_index z 1 == 120 || slice_index z 1 == 88)

-- where the digits end
abbrev pub digits_end : Bytes → ℕ
digits_end z = if is_hexadecimal z then 2 + prefix_len is_ascii_hexdigit (drop 2 z) else prefix_len is_ascii_digit z

-- `l`, `L`, `ll`, `LL` or nothing
abbrev pub suffix_len : ℕ → ℕ → ℕ
suffix_len first second = if first == 108 || first == 76 then (if second == first then 2 else 1) else 0

abbrev pub number_len : Bytes → ℕ
number_len z = let end = digits_end z in end + suffix_len (slice_index z end) (slice_index z (end + 1))

-- the value of a number's bytes
abbrev pub number_value : Bytes → ℕ
number_value z =
    if is_hexadecimal z
    then value_in 16 (slice_range z 2 (digits_end z))
    else value_in 10 (slice_range z 0 (digits_end z))

-- `0x` with a digit, or decimal digits of which the first is 0 only where it is the last
abbrev pub has_digits : Bytes → Bool
has_digits z = if is_hexadecimal z then nat_lt 2 (digits_end z) else (not (slice_index z 0 == 48) || digits_end z == 1)

-- a letter, a digit, `_` or `.` may not follow a number at once
abbrev pub spoils_number : ℕ → Bool
spoils_number b = is_word b || b == 46

abbrev pub is_number : Bytes → Bool
is_number z =
    has_digits z
    && not (spoils_number (slice_index z (number_len z)))
    && nat_le (number_value (take (number_len z) z)) 9223372036854775807

-- the number at the front, if it is one of the language, and its length
unfoldable pub number_at : Bytes → Option (ℤ × ℕ)
number_at z = if is_number z then Some (pos (number_value (take (number_len z) z)), number_len z) else None

-- ---- texts

abbrev pub escaped : ℕ → Option ℕ
escaped b =
    if b == 110 then Some 10 else
    if b == 116 then Some 9 else
    if b == 92 then Some 92 else
    if b == 34 then Some 34 else
    None

-- What stands at the front of a text's inside: its length, and the byte that it means, or None where an argument is
-- printed.
abbrev pub TextUnit : Type 0
TextUnit = ℕ × Option ℕ

-- `%%`, `%d`, `%ld` or `%lld`, by the three bytes after the `%`
abbrev pub conversion : ℕ → ℕ → ℕ → Option TextUnit
conversion a b c =
    if a == 37 then Some (2, Some 37) else
    if a == 100 then Some (2, None) else
    if a == 108 && b == 100 then Some (3, None) else
    if a == 108 && b == 108 && c == 100 then Some (4, None) else
    None

abbrev pub escape_unit : Option ℕ → Option TextUnit
escape_unit None = None
escape_unit (Some b) = Some (2, Some b)

unfoldable pub unit_at : Bytes → Option TextUnit
unit_at z =
    let b = slice_index z 0 in
    if b == 92 then escape_unit (escaped (slice_index z 1)) else
    if b == 37 then conversion (slice_index z 1) (slice_index z 2) (slice_index z 3) else
    if is_plain b then Some (1, Some b) else
    None

-- The length of a text's inside, up to the closing quote. The number counts the bytes that are left of a unit.
abbrev pub inside_from : ℕ → Bytes → Option ℕ
inside_from left [] = None
inside_from (suc left) (b ∷ z) = option_map suc (inside_from left z)
inside_from zero (b ∷ z) =
    if b == 34 then Some 0 else option_and_then (λ u. option_map suc (inside_from (u.0 - 1) z)) (unit_at (b ∷ z))

unfoldable pub inside_len : Bytes → Option ℕ
inside_len = inside_from 0

-- a byte before a format joins the bytes that it begins with
abbrev pub before_byte : ℕ → List Piece → List Piece
before_byte b [] = piece.Plain (b ∷ []) ∷ []
before_byte b (piece.Plain bs ∷ ps) = piece.Plain (b ∷ bs) ∷ ps
before_byte b (piece.Number ∷ ps) = piece.Plain (b ∷ []) ∷ piece.Number ∷ ps

abbrev pub before_unit : Option ℕ → List Piece → List Piece
before_unit None ps = piece.Number ∷ ps
before_unit (Some b) ps = before_byte b ps

-- The format of a text's inside. A byte that begins no unit adds nothing.
abbrev pub format_from : ℕ → Bytes → List Piece
format_from left [] = []
format_from (suc left) (b ∷ z) = format_from left z
format_from zero (b ∷ z) =
    elim (unit_at (b ∷ z)) [
      | None ↦ format_from 0 z
      | Some u ↦ before_unit u.1 (format_from (u.0 - 1) z)
    ]

unfoldable pub format_of : Bytes → List Piece
format_of = format_from 0

-- ---- the token at the front

-- a kind, and a length in bytes
abbrev pub Lexeme : Type 0
Lexeme = TokenKind × ℕ

abbrev pub name : Bytes → Lexeme
name z = (name_kind (take (name_len z) z), name_len z)

abbrev pub number_token : ℕ → Option (ℤ × ℕ) → Result Lexeme LexFault
number_token line None = Err (BadNumber line)
number_token line (Some n) = Ok (kind.Number n.0, n.1)

abbrev pub number : ℕ → Bytes → Result Lexeme LexFault
number line z = number_token line (number_at z)

abbrev pub quoted : ℕ → Bytes → Option ℕ → Result Lexeme LexFault
quoted line z None = Err (BadText line)
quoted line z (Some len) = Ok (kind.Text (format_of (slice_range z 1 (len + 1))), len + 2)

abbrev pub text : ℕ → Bytes → Result Lexeme LexFault
text line z = quoted line z (inside_len (drop 1 z))

abbrev pub marked : ℕ → Option Mark → Result Lexeme LexFault
marked line None = Err (BadByte line)
marked line (Some m) = Ok (kind.Mark m, length (mark_text m))

-- the token at the front, or the fault, on a line
unfoldable pub lexeme : ℕ → Bytes → Result Lexeme LexFault
lexeme line z =
    let b = slice_index z 0 in
    if is_letter b then Ok (name z) else
    if is_ascii_digit b then number line z else
    if b == 34 then text line z else
    marked line (mark_at z)
