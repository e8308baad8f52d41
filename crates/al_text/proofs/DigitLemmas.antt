-- Lemmas on digits and the numbers that they write.
use Rattle.std.proofs.Common.{◌≡◌, ℕ, ◌+◌, ◌-◌, ◌*◌, ◌^◌, ◌<◌, ◌≤◌, true, List, length, take, get_or, Some, None, arith, ap, ◌∙◌}
use Rattle.std.specs.Char.{is_ascii_digit, digit_value}
use Rattle.std.specs.List.{list_all}
use Rattle.std.specs.Str.Parse.{digits_value}
use Rattle.std.proofs.lemmas.Grind.{common_steps}
use Rattle.std.proofs.lemmas.Int.Digits.{digits_value_more}
use Rattle.std.proofs.lemmas.Str.Parse.{digits_value-take-le}
use Rattle.al_text.specs.Digits.{value_of}

-- a digit is worth its distance from `0`
pub digit_worth : (b : ℕ) → is_ascii_digit b ≡ true → digit_value b ≡ b - 48
digit_worth b h = grind arith

pub digit_at : (ds : List ℕ) (i : ℕ) → list_all is_ascii_digit ds ≡ true → i < length ds → digit_value (get_or ds i 0) ≡ get_or ds i 0 - 48
digit_at ds i all within = grind (arith, common_steps, digit_worth)

-- the value of one digit more
pub value_more : (ds : List ℕ) (i : ℕ) → list_all is_ascii_digit ds ≡ true → i < length ds
    → digits_value 10 (take (i + 1) ds) ≡ digits_value 10 (take i ds) * 10 + (get_or ds i 0 - 48)
value_more ds i all within = digits_value_more 10 ds i within ∙ ap (λ d. digits_value 10 (take i ds) * 10 + d) (digit_at ds i all within)

-- once digits are worth too much, all of them are
pub too_large : (ds : List ℕ) (i n : ℕ) → list_all is_ascii_digit ds ≡ true → i < length ds → n ≡ digits_value 10 (take i ds)
    → 2 ^ 64 ≤ n * 10 + (get_or ds i 0 - 48) → value_of ds ≡ None
too_large ds i n all within is large =
    let e = value_more ds i all within in
    let m = digits_value-take-le 10 ds (i + 1) (omega arith) in
    grind arith

pub small_enough : (ds : List ℕ) (i n : ℕ) → length ds ≤ i → n ≡ digits_value 10 (take i ds) → n < 2 ^ 64 → value_of ds ≡ Some n
small_enough ds i n all is small = grind (arith, common_steps)
