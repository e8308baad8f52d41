-- Lemmas on the decimal text of a number: what is read of it.
use Rattle.std.proofs.Common.{◌≡◌, ℕ, zero, suc, ◌^◌, ◌<◌, true, List, length, Some, arith, rules, sym, ap}
use Rattle.std.specs.Char.{is_ascii_digit}
use Rattle.std.specs.Fmt.{decimal}
use Rattle.std.specs.List.{list_all}
use Rattle.std.specs.Str.Parse.{digits_value}
use Rattle.std.proofs.lemmas.Fmt.{decimal-digits_value, digits_decimal, digits_value-decimal, decimal_nonempty, first_decimal, decimal_digit}
use Rattle.std.proofs.lemmas.Str.Parse.{IsNumeralModel, numerals_by_value}
use Rattle.al_text.specs.Digits.{is_numeral, numeral}

-- the words for digits here are those of the lemmas on decimal texts
own : IsNumeralModel (λ ds. list_all is_ascii_digit ds ≡ true) (digits_value 10)
own = numerals_by_value _ (search rules)

pub all_digits : (n : ℕ) → n < 2 ^ 64 → list_all is_ascii_digit (decimal n) ≡ true
all_digits n small = digits_decimal own n small

pub value_back : (n : ℕ) → n < 2 ^ 64 → digits_value 10 (decimal n) ≡ n
value_back n small = digits_value-decimal own n small

-- digits without a leading zero are the decimal text of their value
written_numeral : (text : List ℕ) → is_numeral text ≡ true → digits_value 10 text < 2 ^ 64 → text ≡ decimal (digits_value 10 text)
written_numeral text plain small = sym (decimal-digits_value own text (grind arith) (grind arith) (λ e. grind arith) small)

pub numeral_written : (text : List ℕ) (n : ℕ) → numeral text ≡ Some n → text ≡ decimal n
numeral_written text n is = grind (arith, written_numeral)

one_digit : length (decimal 0) ≡ 1
one_digit = ap length (decimal_digit 0 (omega arith))

-- the one decimal text that begins with 0 is `0`
not_padded : (n : ℕ) → n < 2 ^ 64 → is_numeral (decimal n) ≡ true
not_padded zero small =
    let all = all_digits 0 small in
    let some = decimal_nonempty 0 small in
    let one = one_digit in
    grind arith
not_padded (suc n) small =
    let all = all_digits (suc n) small in
    let some = decimal_nonempty (suc n) small in
    let first = first_decimal (suc n) (omega arith) small in
    grind arith

pub numeral_found : (n : ℕ) → n < 2 ^ 64 → numeral (decimal n) ≡ Some n
numeral_found n small =
    let plain = not_padded n small in
    let back = value_back n small in
    grind arith
