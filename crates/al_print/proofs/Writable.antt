-- The tokens of a source can be written.
use Rattle.std.proofs.Common.{◌≡◌, ℕ, zero, suc, ◌+◌, ◌-◌, ◌≤◌, Bool, true, false, cond, List, [], ◌∷◌, ◌++◌, take, drop, length, slice_index, Option, Some, None, Result, Ok, Err, refl, sym, ap, subst, ◌∙◌, ℤ, pos, arith}
use Rattle.std.specs.Prelude.{◌==◌, ◌||◌, ◌&&◌, nat_le, option_to_list, codes}
use Rattle.std.specs.List.{prefix_len}
use Rattle.std.specs.Str.{bytes_eq}
use Rattle.std.specs.Char.{is_ascii_digit}
use Rattle.std.proofs.lemmas.Bool.{leb-true}
use Rattle.al_source.specs.declared.texts.Piece.{Piece}
use Rattle.al_source.specs.declared.texts.Piece.TheVariants as piece
use Rattle.al_source.specs.declared.tokens.Token.{Token}
use Rattle.al_source.specs.declared.tokens.Key.{Key}
use Rattle.al_source.specs.declared.tokens.Mark.{Mark}
use Rattle.al_source.specs.declared.faults.LexFault.{LexFault}
use Rattle.al_grammar.specs.declared.place.Place.{Place}
use Rattle.al_grammar.specs.declared.place.Place.TheVariants.{Fresh, Inside, Hash, Pragma, Skipped, Note}
use Rattle.al_grammar.specs.declared.place.Spot.{Spot}
use Rattle.al_grammar.specs.declared.place.Next.{Next}
use Rattle.al_grammar.specs.Characters.{Bytes, is_blank, is_letter, is_word, is_plain}
use Rattle.al_grammar.specs.Words.{key_of, mark_at}
use Rattle.al_grammar.specs.Lexemes.{begins_line_comment, begins_block_comment, block_comment_len, name_len, named, number_len, number_value, has_digits, is_number, number_at, number_token, TextUnit, escape_unit, unit_at, inside_len, before_byte, before_unit, format_from, format_of, quoted, marked, Lexeme, lexeme}
use Rattle.al_grammar.specs.Spelling.{end_at, line_end_at, closed, token_at, matter_at, next, SpellsFrom, ends, goes, Spells}
use Rattle.al_grammar.specs.Phrases.{Tokens}
use Rattle.al_print.proofs.Plain.{IsNumber, is_meant, IsFormat, IsWritable, AllWritable}

-- ---- names

prefix_step : (p : ℕ → Bool) (b : ℕ) (z : Bytes) (t : Bool) → p b ≡ t → prefix_len p (take (prefix_len p z) z) ≡ length (take (prefix_len p z) z)
    → prefix_len p (take (cond t (1 + prefix_len p z) 0) (b ∷ z)) ≡ length (take (cond t (1 + prefix_len p z) 0) (b ∷ z))
prefix_step p b z true e h =
    let one : 1 + prefix_len p z ≡ suc (prefix_len p z) = omega arith in
    subst (λ (n : ℕ). prefix_len p (take n (b ∷ z)) ≡ length (take n (b ∷ z))) (sym one)
    (ap (λ (t : Bool). cond t (1 + prefix_len p (take (prefix_len p z) z)) 0) e ∙ ap (λ (n : ℕ). 1 + n) h ∙ omega arith)
prefix_step p b z false e h = refl

-- what is taken while a test holds passes it
prefix_taken : (p : ℕ → Bool) (z : Bytes) → prefix_len p (take (prefix_len p z) z) ≡ length (take (prefix_len p z) z)
prefix_taken p [] = refl
prefix_taken p (b ∷ z) = prefix_step p b z (p b) refl (prefix_taken p z)

or_true : (a b : Bool) → a ≡ true → (a || b) ≡ true
or_true true b e = refl
or_true false b e = absurd cc

first_at : (b : ℕ) (z : Bytes) (t : Bool) → t ≡ true → is_letter b ≡ true → is_letter (slice_index (take (cond t (1 + name_len z) 0) (b ∷ z)) 0) ≡ true
first_at b z false d e = absurd cc
first_at b z true d e =
    let one : 1 + name_len z ≡ suc (name_len z) = omega arith in
    subst (λ (n : ℕ). is_letter (slice_index (take n (b ∷ z)) 0) ≡ true) (sym one) e

first_taken : (z : Bytes) → is_letter (slice_index z 0) ≡ true → is_letter (slice_index (take (name_len z) z) 0) ≡ true
first_taken [] e = e
first_taken (b ∷ z) e = first_at b z (is_word b) (or_true (is_letter b) (is_ascii_digit b) e) e

name_writable : (z : Bytes) (o : Option Key)
    → is_letter (slice_index z 0) ≡ true → key_of (take (name_len z) z) ≡ o → IsWritable (named (take (name_len z) z) o)
name_writable z None e d = record { letter = first_taken z e; whole = prefix_taken is_word z; free = d }
name_writable z (Some k) e d = tt

-- ---- numbers

last_true : (a b c : Bool) → ((a && b) && c) ≡ true → c ≡ true
last_true true true c e = e
last_true true false c e = absurd cc
last_true false b c e = absurd cc

number_small : (z : Bytes) → is_number z ≡ true → number_value (take (number_len z) z) ≤ 9223372036854775807
number_small z e = leb-true _ _ (last_true (has_digits z) _ (nat_le (number_value (take (number_len z) z)) 9223372036854775807) e)

abbrev IsSmall : Option (ℤ × ℕ) → Type 0
IsSmall None = Unit {0}
IsSmall (Some n) = IsNumber n.0

small_at : (z : Bytes) (t : Bool) → is_number z ≡ t → IsSmall (cond t (Some (pos (number_value (take (number_len z) z)), number_len z)) None)
small_at z true e = number_small z e
small_at z false e = tt

small : (z : Bytes) → IsSmall (number_at z)
unfolding number_at
small z = small_at z (is_number z) refl

-- ---- texts

abbrev IsMeant : Option ℕ → Type 0
IsMeant None = Unit {0}
IsMeant (Some b) = is_meant b ≡ true

abbrev Means : Option TextUnit → Type 0
Means None = Unit {0}
Means (Some u) = IsMeant u.1

meant_escape : (a b c d : Bool) → Means (escape_unit (cond a (Some 10) (cond b (Some 9) (cond c (Some 92) (cond d (Some 34) None)))))
meant_escape true b c d = refl
meant_escape false true c d = refl
meant_escape false false true d = refl
meant_escape false false false true = refl
meant_escape false false false false = tt

meant_conversion : (a b c d : Bool) → Means (cond a (Some (2, Some 37)) (cond b (Some (2, None)) (cond c (Some (3, None)) (cond d (Some (4, None)) None))))
meant_conversion true b c d = refl
meant_conversion false true c d = tt
meant_conversion false false true d = tt
meant_conversion false false false true = tt
meant_conversion false false false false = tt

meant_plain : (b : ℕ) (t : Bool) → is_plain b ≡ t → Means (cond t (Some (1, Some b)) None)
meant_plain b true e = or_true (is_plain b) _ e
meant_plain b false e = tt

either_unit : (t : Bool) (x y : Option TextUnit) → Means x → Means y → Means (cond t x y)
either_unit true x y h k = h
either_unit false x y h k = k

unit_means : (z : Bytes) → Means (unit_at z)
unfolding unit_at
unit_means z =
    let a = slice_index z 1 in let b = slice_index z 2 in let c = slice_index z 3 in
    either_unit (slice_index z 0 == 92) _ _ (meant_escape (a == 110) (a == 116) (a == 92) (a == 34))
    (either_unit (slice_index z 0 == 37) _ _ (meant_conversion (a == 37) (a == 100) (a == 108 && b == 100) (a == 108 && b == 108 && c == 100))
    (meant_plain (slice_index z 0) (is_plain (slice_index z 0)) refl))

byte_before : (b : ℕ) (ps : List Piece) → is_meant b ≡ true → IsFormat false ps → IsFormat false (before_byte b ps)
byte_before b [] e h = (e, tt, tt)
byte_before b (piece.Plain [] ∷ ps) e h = absurd h
byte_before b (piece.Plain (c ∷ cs) ∷ ps) e h = (e, (h.0, h.1), h.2)
byte_before b (piece.Number ∷ ps) e h = (e, tt, h)

unit_before : (o : Option ℕ) (ps : List Piece) → IsMeant o → IsFormat false ps → IsFormat false (before_unit o ps)
unit_before None ps e h = h
unit_before (Some b) ps e h = byte_before b ps e h

abbrev from_unit : Bytes → Option TextUnit → List Piece
from_unit z None = format_from 0 z
from_unit z (Some u) = before_unit u.1 (format_from (u.0 - 1) z)

format_next : (z : Bytes) → ((left : ℕ) → IsFormat false (format_from left z)) → (o : Option TextUnit) → Means o → IsFormat false (from_unit z o)
format_next z h None e = h 0
format_next z h (Some u) e = unit_before u.1 (format_from (u.0 - 1) z) e (h (u.0 - 1))

is_format : (left : ℕ) (z : Bytes) → IsFormat false (format_from left z)
is_format left [] = tt
is_format (suc left) (b ∷ z) = is_format left z
is_format zero (b ∷ z) = format_next z (λ left. is_format left z) (unit_at (b ∷ z)) (unit_means (b ∷ z))

formats : (z : Bytes) → IsFormat false (format_of z)
unfolding format_of
formats z = is_format 0 z

-- ---- the token at the front

abbrev IsGood : Result Lexeme LexFault → Type 0
IsGood (Err fault) = Unit {0}
IsGood (Ok t) = IsWritable t.0

good_number : (line : ℕ) (o : Option (ℤ × ℕ)) → IsSmall o → IsGood (number_token line o)
good_number line None h = tt
good_number line (Some n) h = h

good_text : (line : ℕ) (z : Bytes) (o : Option ℕ) → IsGood (quoted line z o)
good_text line z None = tt
good_text line z (Some n) = formats _

good_mark : (line : ℕ) (o : Option Mark) → IsGood (marked line o)
good_mark line None = tt
good_mark line (Some m) = tt

good_name : (z : Bytes) (t : Bool) (x : Result Lexeme LexFault)
    → is_letter (slice_index z 0) ≡ t → IsGood x → IsGood (cond t (Ok (named (take (name_len z) z) (key_of (take (name_len z) z)), name_len z)) x)
good_name z true x e h = name_writable z (key_of (take (name_len z) z)) e refl
good_name z false x e h = h

either : (t : Bool) (x y : Result Lexeme LexFault) → IsGood x → IsGood y → IsGood (cond t x y)
either true x y h k = h
either false x y h k = k

good_lexeme : (line : ℕ) (z : Bytes) → IsGood (lexeme line z)
unfolding lexeme
good_lexeme line z =
    good_name z (is_letter (slice_index z 0)) _ refl
    (either (is_ascii_digit (slice_index z 0)) _ _ (good_number line (number_at z) (small z))
    (either (slice_index z 0 == 34) _ _ (good_text line z (inside_len (drop 1 z))) (good_mark line (mark_at z))))

-- ---- what stands next

abbrev IsGoodToken : Option Token → Type 0
IsGoodToken None = Unit {0}
IsGoodToken (Some t) = IsWritable t.kind

abbrev IsGoodNext : Result Next LexFault → Type 0
IsGoodNext (Err fault) = Unit {0}
IsGoodNext (Ok n) = IsGoodToken n.token

either_next : (t : Bool) (x y : Result Next LexFault) → IsGoodNext x → IsGoodNext y → IsGoodNext (cond t x y)
either_next true x y h k = h
either_next false x y h k = k

good_token : (s : Spot) (place : Place) (r : Result Lexeme LexFault) → IsGood r → IsGoodNext (token_at s place r)
good_token s place (Err fault) h = tt
good_token s place (Ok t) h = h

good_closed : (s : Spot) (o : Option ℕ) → IsGoodNext (closed s o)
good_closed s None = tt
good_closed s (Some n) = tt

good_line_end : (p : Place) (s : Spot) → IsGoodNext (line_end_at p s)
good_line_end Fresh s = tt
good_line_end Inside s = tt
good_line_end (Hash start line) s = tt
good_line_end (Pragma start line) s = tt
good_line_end Skipped s = tt
good_line_end Note s = tt

good_matter : (p : Place) (s : Spot) (z : Bytes) → IsGoodNext (matter_at p s z)
good_matter Fresh s z = either_next (slice_index z 0 == 35) _ _ tt (good_token s Inside (lexeme s.line z) (good_lexeme s.line z))
good_matter Inside s z = good_token s Inside (lexeme s.line z) (good_lexeme s.line z)
good_matter (Hash start line) s z =
    either_next (bytes_eq (take (name_len z) z) (codes "include")) _ _ tt (either_next (bytes_eq (take (name_len z) z) (codes "pragma")) _ _ tt tt)
good_matter (Pragma start line) s z = either_next (bytes_eq (take (name_len z) z) (codes "alter")) _ _ tt tt
good_matter Skipped s z = tt
good_matter Note s z = good_token s Note (lexeme s.line z) (good_lexeme s.line z)

good_next : (s : Spot) (z : Bytes) → IsGoodNext (next s z)
unfolding next
good_next s z =
    either_next (slice_index z 0 == 10) _ _ (good_line_end s.place s)
    (either_next (is_blank (slice_index z 0)) _ _ tt
    (either_next (begins_line_comment z) _ _ tt
    (either_next (begins_block_comment z) _ _ (good_closed s (block_comment_len z)) (good_matter s.place s z))))

-- ---- the whole

abbrev IsGoodEnd : Result Tokens LexFault → Type 0
IsGoodEnd (Err fault) = Unit {0}
IsGoodEnd (Ok ts) = AllWritable ts

good_end : (p : Place) (s : Spot) → IsGoodEnd (end_at p s)
good_end Fresh s = tt
good_end Inside s = tt
good_end (Hash start line) s = tt
good_end (Pragma start line) s = tt
good_end Skipped s = tt
good_end Note s = (tt, tt)

add_token : (o : Option Token) (ts : Tokens) → IsGoodToken o → AllWritable ts → AllWritable (option_to_list o ++ ts)
add_token None ts h k = k
add_token (Some t) ts h k = (h, k)

all_writable : {s : Spot} {z : Bytes} {ts : Tokens} → SpellsFrom s z ts → AllWritable ts
all_writable (ends {s = s} e) = subst IsGoodEnd e (good_end s.place s)
all_writable (goes {s = s} {b = b} {z = z} {n = n} {ts = ts} e rest) = add_token n.token ts (subst IsGoodNext e (good_next s (b ∷ z))) (all_writable rest)

pub writable : (source : Bytes) (ts : Tokens) → Spells source ts → AllWritable ts
writable source ts h = all_writable h
