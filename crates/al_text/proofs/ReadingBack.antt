-- What is read of the decimal text of one number is that number.
use Rattle.std.proofs.Common.{◌≡◌, ℕ, suc, ◌^◌, ◌<◌, ◌≤◌, Bool, true, false, not, List, [], ◌∷◌, ◌++◌, length, Some, Ok, ℤ, pos, negsuc, arith, refl, ap, ◌∙◌}
use Rattle.std.specs.Char.{is_ascii_digit}
use Rattle.std.specs.Fmt.{decimal, signed_decimal}
use Rattle.std.specs.Int.{w64}
use Rattle.std.specs.Prelude.{FitsSigned, nat_lt, nat_le}
use Rattle.std.specs.Str.Parse.{digits_value, starts_with_minus}
use Rattle.std.specs.List.{list_all}
use Rattle.std.proofs.lemmas.Fmt.{decimal_nonempty, length-decimal-le}
use Rattle.std.proofs.lemmas.Int.{ints}
use Rattle.std.proofs.lemmas.List.{append-nil, append_assoc}
use Rattle.al_source.specs.declared.limits.TheConstants.{INPUT_BYTES}
use Rattle.al_text.proofs.DecimalLemmas.{all_digits, value_back}
use Rattle.al_text.specs.Digits.{is_digits, is_number, signed_value_of}
use Rattle.al_text.specs.Numbers.{is_blank, word_of, words_from, words_of, numbers_onto, numbers_of}

-- what may stand in a word
abbrev is_solid : ℕ → Bool
is_solid b = not (is_blank b)

-- bytes that are no blanks go on a word
solid_words : (line : ℕ) (word text : List ℕ) → list_all is_solid text ≡ true → words_from line word text ≡ word_of line (word ++ text)
solid_words line word [] solid = rw (append-nil word) refl
solid_words line word (b ∷ bs) solid =
    let plain : is_blank b ≡ false = grind arith in
    let rest : list_all is_solid bs ≡ true = grind arith in
    rw plain (solid_words line (word ++ b ∷ []) bs rest ∙ ap (λ w. word_of line w) (append_assoc word (b ∷ []) bs))

solid_digits : (ds : List ℕ) → list_all is_ascii_digit ds ≡ true → list_all is_solid ds ≡ true
solid_digits [] digits = refl
solid_digits (b ∷ bs) digits =
    let rest : list_all is_ascii_digit bs ≡ true = grind arith in
    let more : list_all is_solid bs ≡ true = solid_digits bs rest in
    grind arith

of_word : (text : List ℕ) (n : ℤ) → is_number text ≡ true → signed_value_of text ≡ Some n → numbers_onto [] (word_of 1 text) ≡ Ok (n ∷ [])
of_word [] n number value = absurd (grind arith)
of_word (b ∷ bs) n number value = rw (number, value) refl

digits_of : (n : ℕ) → n < 2 ^ 64 → is_digits (decimal n) ≡ true
digits_of n small =
    let all = all_digits n small in
    let some = decimal_nonempty n small in
    grind arith

-- digits are a number, which is their value
no_minus : (ds : List ℕ) → is_digits ds ≡ true → starts_with_minus ds ≡ false
no_minus [] digits = refl
no_minus (b ∷ bs) digits = grind arith

plain_number : (ds : List ℕ) → is_digits ds ≡ true → is_number ds ≡ true
plain_number ds digits = rw (no_minus ds digits) digits

plain_value : (ds : List ℕ) (n : ℕ) → is_digits ds ≡ true → digits_value 10 ds ≡ n → n < 2 ^ 63 → signed_value_of ds ≡ Some (pos n)
plain_value ds n digits back small =
    let fits : nat_lt n (2 ^ 63) ≡ true = grind arith in
    rw (no_minus ds digits, back, fits) refl

minus_value : (ds : List ℕ) (n : ℕ) → digits_value 10 ds ≡ suc n → suc n ≤ 2 ^ 63 → signed_value_of (45 ∷ ds) ≡ Some (negsuc n)
minus_value ds n back small =
    let fits : nat_le (suc n) (2 ^ 63) ≡ true = grind arith in
    rw (back, fits) refl

-- a text that is one word which is a number lists that number
one_number : (text : List ℕ) (n : ℤ) → list_all is_solid text ≡ true → length text ≤ 21 → is_number text ≡ true → signed_value_of text ≡ Some n
    → numbers_of text ≡ Ok (n ∷ [])
one_number text n solid short number value =
    let one : words_of text ≡ word_of 1 text = solid_words 1 [] text solid in
    let few : nat_le (length text) INPUT_BYTES ≡ true = grind arith in
    rw (few, one) (of_word text n number value)

pub reads_back : (n : ℤ) → FitsSigned w64 n → numbers_of (signed_decimal n) ≡ Ok (n ∷ [])
reads_back (pos n) fits =
    let small : n < 2 ^ 63 = omega (arith, ints) in
    let digits : is_digits (decimal n) ≡ true = digits_of n (omega arith) in
    let back : digits_value 10 (decimal n) ≡ n = value_back n (omega arith) in
    let short = length-decimal-le 20 n (omega arith) (omega arith) (omega arith) in
    one_number (decimal n) (pos n) (solid_digits (decimal n) (all_digits n (omega arith))) (omega arith) (plain_number (decimal n) digits)
    (plain_value (decimal n) n digits back small)
reads_back (negsuc n) fits =
    let small : suc n ≤ 2 ^ 63 = omega (arith, ints) in
    let digits : is_digits (decimal (suc n)) ≡ true = digits_of (suc n) (omega arith) in
    let back : digits_value 10 (decimal (suc n)) ≡ suc n = value_back (suc n) (omega arith) in
    let short = length-decimal-le 20 (suc n) (omega arith) (omega arith) (omega arith) in
    one_number (45 ∷ decimal (suc n)) (negsuc n) (solid_digits (decimal (suc n)) (all_digits (suc n) (omega arith))) (omega arith) digits
    (minus_value (decimal (suc n)) n back small)
