-- The numbers of a source's tokens have 64 bits, and there are hardly more tokens than bytes.
use Rattle.std.proofs.Common.{◌≡◌, ℕ, zero, suc, ◌-◌, ◌≤◌, ◌&&◌, ◌==◌, Bool, true, false, not, if◌then◌else◌, [], ◌∷◌, length, take, Option, Some, None, Result, Ok, Err, refl, subst, arith, nat_le}
use Rattle.std.specs.Prelude.{pos, slice_index, option_to_list, codes}
use Rattle.std.specs.List.{AllByRecursion}
use Rattle.std.specs.Char.{is_ascii_digit}
use Rattle.std.specs.Str.{bytes_eq}
use Rattle.al_source.specs.declared.tokens.Key.{Key}
use Rattle.al_source.specs.declared.tokens.Mark.{Mark}
use Rattle.al_source.specs.declared.tokens.Token.{Token}
use Rattle.al_source.specs.declared.tokens.TokenKind.{TokenKind}
use Rattle.al_source.specs.declared.tokens.TokenKind.TheVariants as kind
use Rattle.al_source.specs.declared.faults.LexFault.{LexFault}
use Rattle.al_grammar.specs.declared.place.Place.{Place}
use Rattle.al_grammar.specs.declared.place.Place.TheVariants.{Fresh, Inside, Hash, Pragma, Skipped, Note}
use Rattle.al_grammar.specs.declared.place.Spot.{Spot}
use Rattle.al_grammar.specs.declared.place.Next.{Next}
use Rattle.al_grammar.specs.Characters.{Bytes, is_letter, is_blank}
use Rattle.al_grammar.specs.Phrases.{Tokens}
use Rattle.al_grammar.specs.Words.{key_of, mark_at}
use Rattle.al_grammar.specs.Lexemes.{Lexeme, named, name, number_value, number_len, has_digits, spoils_number, is_number, number_at, number_token, number, quoted, text, marked, inside_len, lexeme, begins_line_comment, begins_block_comment, block_comment_len, name_len}
use Rattle.al_grammar.specs.Spelling.{end_at, line_end_at, closed, token_at, matter_at, next, spot_after, first_spot}
use Rattle.al_grammar.specs.Reading.{with_front, reading_from, reading}
use Rattle.al_rules_laws.proofs.Logic.{and_parts}
use Rattle.al_graded_laws.specs.InRange.{has_64_bits}

abbrev pub KindSized : TokenKind → Type 0
KindSized (kind.Number n) = has_64_bits n ≡ true
KindSized _ = Unit {0}

abbrev pub TokenSized : Token → Type 0
TokenSized t = KindSized t.kind

abbrev AnySized : Option Token → Type 0
AnySized (Some t) = TokenSized t
AnySized None = Unit {0}

abbrev LexemeSized : Result Lexeme LexFault → Type 0
LexemeSized (Ok l) = KindSized l.0
LexemeSized (Err f) = Unit {0}

abbrev NextSized : Result Next LexFault → Type 0
NextSized (Ok n) = AnySized n.token
NextSized (Err f) = Unit {0}

-- ---- the token at the front

small : (n : ℕ) → nat_le n 9223372036854775807 ≡ true → has_64_bits (pos n) ≡ true
small n e = grind arith

number_by : (b : Bool) (line n len : ℕ) → (b ≡ true → has_64_bits (pos n) ≡ true) → LexemeSized (number_token line (if b then Some (pos n, len) else None))
number_by true line n len h = h refl
number_by false line n len h = tt

number_sized : (line : ℕ) (z : Bytes) → LexemeSized (number line z)
unfolding number_at
number_sized line z =
    number_by (is_number z) line (number_value (take (number_len z) z)) (number_len z)
    (λ e. small (number_value (take (number_len z) z))
    (and_parts (has_digits z && not (spoils_number (slice_index z (number_len z))))
    (nat_le (number_value (take (number_len z) z)) 9223372036854775807) e).1)

named_sized : (word : Bytes) (key : Option Key) → KindSized (named word key)
named_sized word None = tt
named_sized word (Some key) = tt

quoted_sized : (line : ℕ) (z : Bytes) (len : Option ℕ) → LexemeSized (quoted line z len)
quoted_sized line z None = tt
quoted_sized line z (Some len) = tt

marked_sized : (line : ℕ) (mark : Option Mark) → LexemeSized (marked line mark)
marked_sized line None = tt
marked_sized line (Some mark) = tt

lexeme_by : (line : ℕ) (z : Bytes) (a b c : Bool)
    → LexemeSized (if a then Ok (name z) else (if b then number line z else (if c then text line z else marked line (mark_at z))))
lexeme_by line z true b c = named_sized (take (name_len z) z) (key_of (take (name_len z) z))
lexeme_by line z false true c = number_sized line z
lexeme_by line z false false true = quoted_sized line z (inside_len _)
lexeme_by line z false false false = marked_sized line (mark_at z)

lexeme_sized : (line : ℕ) (z : Bytes) → LexemeSized (lexeme line z)
unfolding lexeme
lexeme_sized line z = lexeme_by line z (is_letter (slice_index z 0)) (is_ascii_digit (slice_index z 0)) (slice_index z 0 == 34)

-- ---- what stands next

choose : (b : Bool) (r s : Result Next LexFault) → NextSized r → NextSized s → NextSized (if b then r else s)
choose true r s h k = h
choose false r s h k = k

token_sized : (s : Spot) (place : Place) (r : Result Lexeme LexFault) → LexemeSized r → NextSized (token_at s place r)
token_sized s place (Ok t) h = h
token_sized s place (Err f) h = tt

directive_by : (a b : Bool) (r s : Next) → AnySized r.token → AnySized s.token → (f : LexFault)
    → NextSized (if a then Ok r else (if b then Ok s else Err f))
directive_by true b r s h k f = h
directive_by false true r s h k f = k
directive_by false false r s h k f = tt

pragma_by : (b : Bool) (r s : Next) → AnySized r.token → AnySized s.token → NextSized (if b then Ok r else Ok s)
pragma_by true r s h k = h
pragma_by false r s h k = k

matter_sized : (place : Place) (s : Spot) (z : Bytes) → NextSized (matter_at place s z)
matter_sized Fresh s z =
    choose (slice_index z 0 == 35) _ (token_at s Inside (lexeme s.line z)) tt (token_sized s Inside (lexeme s.line z) (lexeme_sized s.line z))
matter_sized Inside s z = token_sized s Inside (lexeme s.line z) (lexeme_sized s.line z)
matter_sized (Hash start line) s z =
    directive_by (bytes_eq (take (name_len z) z) (codes "include")) (bytes_eq (take (name_len z) z) (codes "pragma")) _ _ tt tt _
matter_sized (Pragma start line) s z = pragma_by (bytes_eq (take (name_len z) z) (codes "alter")) _ _ tt tt
matter_sized Skipped s z = tt
matter_sized Note s z = token_sized s Note (lexeme s.line z) (lexeme_sized s.line z)

closed_sized : (s : Spot) (len : Option ℕ) → NextSized (closed s len)
closed_sized s None = tt
closed_sized s (Some len) = tt

line_end_sized : (place : Place) (s : Spot) → NextSized (line_end_at place s)
line_end_sized (Hash start line) s = tt
line_end_sized Note s = tt
line_end_sized Fresh s = tt
line_end_sized Inside s = tt
line_end_sized (Pragma start line) s = tt
line_end_sized Skipped s = tt

next_by : (a b c d : Bool) (q r s t u : Result Next LexFault) → NextSized q → NextSized r → NextSized s → NextSized t → NextSized u
    → NextSized (if a then q else (if b then r else (if c then s else (if d then t else u))))
next_by true b c d q r s t u h i j k l = h
next_by false true c d q r s t u h i j k l = i
next_by false false true d q r s t u h i j k l = j
next_by false false false true q r s t u h i j k l = k
next_by false false false false q r s t u h i j k l = l

next_sized : (s : Spot) (z : Bytes) → NextSized (next s z)
unfolding next
next_sized s z =
    next_by (slice_index z 0 == 10) (is_blank (slice_index z 0)) (begins_line_comment z) (begins_block_comment z) _ _ _ _ _ (line_end_sized s.place s) tt tt
    (closed_sized s (block_comment_len z)) (matter_sized s.place s z)

-- ---- the whole

-- what was read has sized numbers, and one token for each byte at most, and one more
abbrev ReadSized : ℕ → Result Tokens LexFault → Type 0
ReadSized n (Ok ts) = AllByRecursion TokenSized ts × (length ts ≤ suc n)
ReadSized n (Err f) = Unit {0}

wider : (n : ℕ) (r : Result Tokens LexFault) → ReadSized n r → ReadSized (suc n) r
wider n (Ok ts) h = (h.0, omega (arith, h.1))
wider n (Err f) h = tt

front_sized : (t : Option Token) (n : ℕ) (r : Result Tokens LexFault) → AnySized t → ReadSized n r → ReadSized (suc n) (with_front (option_to_list t) r)
front_sized None n (Ok ts) h k = (k.0, omega (arith, k.1))
front_sized (Some t) n (Ok ts) h k = ((h, k.0), omega (arith, k.1))
front_sized None n (Err f) h k = tt
front_sized (Some t) n (Err f) h k = tt

end_sized : (n : ℕ) (place : Place) (s : Spot) → ReadSized n (end_at place s)
end_sized n (Hash start line) s = tt
end_sized n Note s = ((tt, tt), omega arith)
end_sized n Fresh s = (tt, omega arith)
end_sized n Inside s = (tt, omega arith)
end_sized n (Pragma start line) s = (tt, omega arith)
end_sized n Skipped s = (tt, omega arith)

abbrev after : Spot → ℕ → Bytes → Result Next LexFault → Result Tokens LexFault
after s b z (Err fault) = Err fault
after s b z (Ok n) = with_front (option_to_list n.token) (reading_from (n.len - 1) (spot_after s (b ∷ z) n) z)

after_sized : (s : Spot) (b : ℕ) (z : Bytes) (r : Result Next LexFault) → NextSized r → ((left : ℕ) (t : Spot) → ReadSized (length z) (reading_from left t z))
    → ReadSized (suc (length z)) (after s b z r)
after_sized s b z (Err f) h k = tt
after_sized s b z (Ok n) h k =
    front_sized n.token (length z) (reading_from (n.len - 1) (spot_after s (b ∷ z) n) z) h (k (n.len - 1) (spot_after s (b ∷ z) n))

from_sized : (left : ℕ) (s : Spot) (z : Bytes) → ReadSized (length z) (reading_from left s z)
from_sized left s [] = end_sized 0 s.place s
from_sized (suc left) s (b ∷ z) = wider (length z) (reading_from left s z) (from_sized left s z)
from_sized zero s (b ∷ z) = after_sized s b z (next s (b ∷ z)) (next_sized s (b ∷ z)) (λ left t. from_sized left t z)

pub reading_sized : (source : Bytes) (ts : Tokens) → reading source ≡ Ok ts → AllByRecursion TokenSized ts × (length ts ≤ suc (length source))
unfolding reading
reading_sized source ts e = by (reading_from 0 first_spot source) (from_sized 0 first_spot source) e
  where
    by : (r : Result Tokens LexFault) → ReadSized (length source) r → r ≡ Ok ts → AllByRecursion TokenSized ts × (length ts ≤ suc (length source))
    by (Ok us) h e = subst (λ (us : Tokens). AllByRecursion TokenSized us × (length us ≤ suc (length source))) (same us e) h
      where
        same : (us : Tokens) → ◌≡◌ {A = Result Tokens LexFault} (Ok us) (Ok ts) → us ≡ ts
        same us e = cc
    by (Err f) h e = absurd cc
