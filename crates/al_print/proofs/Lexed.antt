-- What is printed of a token, before a blank, is that token at the front.
use Rattle.std.proofs.Common.{◌≡◌, ℕ, zero, suc, ◌+◌, ◌-◌, ◌*◌, ◌^◌, ◌<◌, ◌≤◌, Bool, true, false, cond, not, [], ◌∷◌, ◌++◌, take, length, slice_index, slice_range, Option, Some, Ok, refl, sym, ap, subst, ◌∙◌, pos, arith, fold}
use Rattle.std.specs.Prelude.{◌==◌, ◌||◌, ◌&&◌, nat_le, nat_eq}
use Rattle.std.specs.List.{prefix_len}
use Rattle.std.specs.Int.{IsInRange}
use Rattle.std.specs.Char.{is_ascii_digit}
use Rattle.std.specs.Fmt.{decimal}
use Rattle.std.specs.Str.Parse.{AllDigits}
use Rattle.std.proofs.Math.Seq.{take-append_seam, get_or-append_seam, take-length}
use Rattle.std.proofs.lemmas.List.{append-nil}
use Rattle.std.proofs.lemmas.Bool.{le-leb, lt-leb, eqb-true, eq-eqb, ne_eqb}
use Rattle.std.proofs.lemmas.List.Folds.{prefix_len-append}
use Rattle.std.proofs.lemmas.Str.Parse.{IsNumeralModel, tells_digits, numerals_by_fold}
use Rattle.std.proofs.lemmas.Fmt.{digits_decimal, digits_value-decimal, decimal_nonempty, decimal_digit, first_decimal}
use Rattle.al_source.specs.declared.tokens.Key.{Key}
use Rattle.al_source.specs.declared.tokens.Key.TheVariants as key
use Rattle.al_source.specs.declared.tokens.TokenKind.TheVariants as kind
use Rattle.al_grammar.specs.Characters.{Bytes, is_letter, is_word, digit_value, value_in}
use Rattle.al_grammar.specs.Words.{key_text, key_of}
use Rattle.al_grammar.specs.Lexemes.{name_len, name, name_kind, named, is_hexadecimal, digits_end, suffix_len, number_len, number_value, has_digits, spoils_number, is_number, number_at, number_token, Lexeme, lexeme}

pub pick : {A : Type 0} (t : Bool) (x y : A) → t ≡ true → cond t x y ≡ x
pick true x y e = refl
pick false x y e = absurd cc

pub skip : {A : Type 0} (t : Bool) (x y : A) → t ≡ false → cond t x y ≡ y
skip true x y e = absurd cc
skip false x y e = refl

-- ---- names and reserved words

-- a list that passes a test, before something that does not
prefix_whole : (p : ℕ → Bool) (w : Bytes) (c : ℕ) (z : Bytes) → prefix_len p w ≡ length w → p c ≡ false → prefix_len p (w ++ c ∷ z) ≡ length w
prefix_whole p w c z whole stop =
    let none : prefix_len p (c ∷ z) ≡ 0 = ap (λ (b : Bool). cond b (1 + prefix_len p z) 0) stop in
    let all : nat_eq (prefix_len p w) (length w) ≡ true = eq-eqb _ _ whole in
    prefix_len-append p w (c ∷ z) ∙ ap (λ (b : Bool). cond b (length w + prefix_len p (c ∷ z)) (prefix_len p w)) all ∙ ap (λ (n : ℕ). length w + n) none
    ∙ omega arith

name_long : (w z : Bytes) → prefix_len is_word w ≡ length w → ◌≡◌ {A = Lexeme} (name (w ++ 32 ∷ z)) (named w (key_of w), length w)
name_long w z whole =
    let len : name_len (w ++ 32 ∷ z) ≡ length w = prefix_whole is_word w 32 z whole refl in
    ap {B = Lexeme} (λ (n : ℕ). (name_kind (take n (w ++ 32 ∷ z)), n)) len
    ∙ ap {B = Lexeme} (λ (v : Bytes). (name_kind v, length w)) (take-append_seam w (32 ∷ z))

pub word_lexeme : (line : ℕ) (w z : Bytes)
    → is_letter (slice_index w 0) ≡ true → prefix_len is_word w ≡ length w → lexeme line (w ++ 32 ∷ z) ≡ Ok (named w (key_of w), length w)
unfolding lexeme
word_lexeme line [] z letter whole = absurd cc
word_lexeme line (b ∷ w) z letter whole = pick (is_letter b) _ _ letter ∙ ap Ok (name_long (b ∷ w) z whole)

pub key_letter : (k : Key) → is_letter (slice_index (key_text k) 0) ≡ true
key_letter key.Auto = refl
key_letter _ = refl

key_whole : (k : Key) → prefix_len is_word (key_text k) ≡ length (key_text k)
key_whole key.Auto = refl
key_whole _ = refl

key_known : (k : Key) → key_of (key_text k) ≡ Some k
unfolding key_of
key_known key.Auto = refl
key_known _ = refl

pub key_lexeme : (line : ℕ) (k : Key) (z : Bytes) → lexeme line (key_text k ++ 32 ∷ z) ≡ Ok (kind.Key k, length (key_text k))
key_lexeme line k z =
    word_lexeme line (key_text k) z (key_letter k) (key_whole k) ∙ ap (λ (o : Option Key). Ok (named (key_text k) o, length (key_text k))) (key_known k)

-- ---- numbers

digit_same : (c : ℕ) → IsInRange 48 57 c → digit_value c ≡ c - 48
digit_same c h = let small : nat_le c 57 ≡ true = le-leb _ _ h.1 in ap (λ (b : Bool). cond b (c - 48) (cond (nat_le c 70) (c - 55) (c - 87))) small

own : IsNumeralModel (AllDigits 10) (value_in 10)
own = numerals_by_fold (AllDigits 10) tells_digits (λ n ds. fold (λ n b. n * 10 + digit_value b) n ds) (record {
  empty = λ n. refl;
  more = λ n c cs h. ap (λ (d : ℕ). fold (λ n b. n * 10 + digit_value b) (n * 10 + d) cs) (digit_same c h);
})

is_digit : (c : ℕ) → IsInRange 48 57 c → is_ascii_digit c ≡ true
is_digit c h = let low : nat_le 48 c ≡ true = le-leb _ _ h.0 in let high : nat_le c 57 ≡ true = le-leb _ _ h.1 in rw (low, high)

no_letter : (c : ℕ) → IsInRange 48 57 c → is_letter c ≡ false
no_letter c h =
    let top = h.1 in
    let a : nat_le 65 c ≡ false = lt-leb 65 c (omega arith) in
    let b : nat_le 97 c ≡ false = lt-leb 97 c (omega arith) in
    let d : nat_eq c 95 ≡ false = ne_eqb c 95 (λ e. omega arith) in
    rw (a, b, d)

digits_whole : (ds : Bytes) → AllDigits 10 ds → prefix_len is_ascii_digit ds ≡ length ds
digits_whole [] h = refl
digits_whole (c ∷ cs) h =
    let parts = tells_digits.parts c cs h in
    ap (λ (b : Bool). cond b (1 + prefix_len is_ascii_digit cs) 0) (is_digit c parts.0) ∙ ap (λ (n : ℕ). 1 + n) (digits_whole cs parts.1) ∙ omega arith

-- Digits, the first of which is 0 only where it is the last, are no hexadecimal number, whatever follows that is no `x`.
not_hexadecimal : (c : ℕ) (cs y : Bytes)
    → (c ≡ 48 → cs ≡ []) → (slice_index y 0 == 120) ≡ false → (slice_index y 0 == 88) ≡ false → (b : Bool) → nat_eq c 48 ≡ b
    → is_hexadecimal (c ∷ cs ++ y) ≡ false
not_hexadecimal c cs y alone e f true d =
    let none : cs ≡ [] = alone (eqb-true _ _ d) in
    subst (λ (ds : Bytes). is_hexadecimal (c ∷ ds ++ y) ≡ false) (sym none) (rw (d, e, f))
not_hexadecimal c cs y alone e f false d = rw d

has_one : (c : ℕ) (cs : Bytes) (end : ℕ) → (c ≡ 48 → cs ≡ []) → end ≡ length (c ∷ cs) → (b : Bool) → nat_eq c 48 ≡ b → (not (c == 48) || end == 1) ≡ true
has_one c cs end alone e true d =
    let none : cs ≡ [] = alone (eqb-true _ _ d) in
    let one : end ≡ 1 = e ∙ ap (λ (ds : Bytes). length (c ∷ ds)) none in
    rw d (eq-eqb _ _ one)
has_one c cs end alone e false d = rw d

-- Where the digits end is where the number ends, before a blank.
number_ends : (d z : Bytes) → is_hexadecimal (d ++ 32 ∷ z) ≡ false → prefix_len is_ascii_digit d ≡ length d → number_len (d ++ 32 ∷ z) ≡ length d
number_ends d z hex whole =
    let y : Bytes = d ++ 32 ∷ z in
    let end : digits_end y ≡ length d = skip (is_hexadecimal y) _ _ hex ∙ prefix_whole is_ascii_digit d 32 z whole refl in
    let blank : slice_index y (length d) ≡ 32 = get_or-append_seam d 32 z 0 in
    ap (λ (e : ℕ). e + suffix_len (slice_index y e) (slice_index y (e + 1))) end
    ∙ ap (λ (b : ℕ). length d + suffix_len b (slice_index y (length d + 1))) blank ∙ omega arith

-- The value of digits is that of the whole of them.
value_whole : (d : Bytes) → is_hexadecimal d ≡ false → prefix_len is_ascii_digit d ≡ length d → number_value d ≡ value_in 10 d
value_whole d hex whole =
    let end : digits_end d ≡ length d = skip (is_hexadecimal d) _ _ hex ∙ whole in
    let bare : length d - 0 ≡ length d = omega arith in
    let range : slice_range d 0 (length d) ≡ d = ap (λ (k : ℕ). take k d) bare ∙ take-length d in
    skip (is_hexadecimal d) _ _ hex ∙ ap (λ (e : ℕ). value_in 10 (slice_range d 0 e)) end ∙ ap (value_in 10) range

all_three : (a b c : Bool) → a ≡ true → b ≡ false → c ≡ true → ((a && not b) && c) ≡ true
all_three true false true d e f = refl
all_three false b c d e f = absurd cc
all_three true true c d e f = absurd cc
all_three true false false d e f = absurd cc

read_number : (y : Bytes) (n l : ℕ) → is_number y ≡ true → number_value (take (number_len y) y) ≡ n → number_len y ≡ l → number_at y ≡ Some (pos n, l)
unfolding number_at
read_number y n l good value len =
    pick (is_number y) _ _ good ∙ ap (λ (v : ℕ). Some (pos v, number_len y)) value ∙ ap (λ (k : ℕ). Some (pos n, k)) len

number_long : (c : ℕ) (cs z : Bytes) (n : ℕ)
    → AllDigits 10 (c ∷ cs) → (c ≡ 48 → cs ≡ []) → value_in 10 (c ∷ cs) ≡ n → n ≤ 9223372036854775807
    → number_at (c ∷ cs ++ 32 ∷ z) ≡ Some (pos n, length (c ∷ cs))
number_long c cs z n all alone value small =
    let d : Bytes = c ∷ cs in
    let y : Bytes = d ++ 32 ∷ z in
    let whole = digits_whole d all in
    let hex : is_hexadecimal y ≡ false = not_hexadecimal c cs (32 ∷ z) alone refl refl (nat_eq c 48) refl in
    let bare_hex : is_hexadecimal d ≡ false = subst (λ (ds : Bytes). is_hexadecimal ds ≡ false) (append-nil d)
    (not_hexadecimal c cs [] alone refl refl (nat_eq c 48) refl) in
    let len : number_len y ≡ length d = number_ends d z hex whole in
    let taken : take (number_len y) y ≡ d = ap (λ (k : ℕ). take k y) len ∙ take-append_seam d (32 ∷ z) in
    let read : number_value (take (number_len y) y) ≡ n = ap number_value taken ∙ value_whole d bare_hex whole ∙ value in
    let end : digits_end y ≡ length d = skip (is_hexadecimal y) _ _ hex ∙ prefix_whole is_ascii_digit d 32 z whole refl in
    let shaped : has_digits y ≡ true = skip (is_hexadecimal y) _ _ hex ∙ has_one c cs (digits_end y) alone end (nat_eq c 48) refl in
    let stops : spoils_number (slice_index y (number_len y)) ≡ false = ap (λ (k : ℕ). spoils_number (slice_index y k)) len
    ∙ ap spoils_number (get_or-append_seam d 32 z 0) in
    let fits : nat_le (number_value (take (number_len y) y)) 9223372036854775807 ≡ true = ap (λ (v : ℕ). nat_le v 9223372036854775807) read
    ∙ le-leb _ _ small in
    read_number y n (length d) (all_three (has_digits y) _ _ shaped stops fits) read len

digits_lexeme : (line c : ℕ) (cs z : Bytes) (n : ℕ)
    → AllDigits 10 (c ∷ cs) → (c ≡ 48 → cs ≡ []) → value_in 10 (c ∷ cs) ≡ n → n ≤ 9223372036854775807
    → lexeme line (c ∷ cs ++ 32 ∷ z) ≡ Ok (kind.Number (pos n), length (c ∷ cs))
unfolding lexeme
digits_lexeme line c cs z n all alone value small =
    let range = (tells_digits.parts c cs all).0 in
    skip (is_letter c) _ _ (no_letter c range) ∙ pick (is_ascii_digit c) _ _ (is_digit c range)
    ∙ ap (number_token line) (number_long c cs z n all alone value small)

-- the digits of a number, taken apart
of_digits : (line n : ℕ) (z : Bytes)
    → n < 2 ^ 64 → n ≤ 9223372036854775807 → (d : Bytes) → decimal n ≡ d → lexeme line (d ++ 32 ∷ z) ≡ Ok (kind.Number (pos n), length d)
of_digits line n z short small [] e = let some = decimal_nonempty n short in let none : length (decimal n) ≡ 0 = ap length e in absurd (omega arith)
of_digits line zero z short small (c ∷ cs) e =
    let same : 48 ∷ [] ≡ c ∷ cs = sym (decimal_digit 0 (omega arith)) ∙ e in
    digits_lexeme line c cs z 0 (subst (AllDigits 10) e (digits_decimal own 0 short)) (λ _. cc) (ap (value_in 10) (sym e) ∙ digits_value-decimal own 0 short)
    small
of_digits line (suc n) z short small (c ∷ cs) e =
    let more = first_decimal (suc n) (omega arith) short in
    let first : slice_index (decimal (suc n)) 0 ≡ c = ap (λ (d : Bytes). slice_index d 0) e in
    digits_lexeme line c cs z (suc n) (subst (AllDigits 10) e (digits_decimal own (suc n) short)) (λ is. absurd (omega arith))
    (ap (value_in 10) (sym e) ∙ digits_value-decimal own (suc n) short) small

pub number_lexeme : (line n : ℕ) (z : Bytes) → n ≤ 9223372036854775807 → lexeme line (decimal n ++ 32 ∷ z) ≡ Ok (kind.Number (pos n), length (decimal n))
number_lexeme line n z small = of_digits line n z (omega arith) small (decimal n) refl

-- digits begin with no byte below that of 0
high_at : (d : Bytes) → AllDigits 10 d → 0 < length d → 48 ≤ slice_index d 0
high_at [] all full = absurd (omega arith)
high_at (c ∷ cs) all full = let range = (tells_digits.parts c cs all).0 in omega (arith, range.0)

pub decimal_high : (n : ℕ) → n ≤ 9223372036854775807 → 48 ≤ slice_index (decimal n) 0
decimal_high n small = high_at (decimal n) (digits_decimal own n (omega arith)) (decimal_nonempty n (omega arith))
