-- Decimal digits and the numbers that they write. Bytes are numbers: 48 is `0`, and 45 is `-`.
use Rattle.std.specs.Prelude.{ℕ, ◌^◌, Bool, true, false, ◌&&◌, ◌||◌, not, if◌then◌else◌, ◌==◌, nat_lt, nat_le, List, length, drop, slice_index, Option, Some, None, ℤ, pos, neg_ℤ}
use Rattle.std.specs.Char.{is_ascii_digit}
use Rattle.std.specs.List.{list_all}
use Rattle.std.specs.Str.Parse.{digits_value, starts_with_minus}

-- one or more digits
abbrev pub is_digits : List ℕ → Bool
is_digits text = nat_lt 0 (length text) && list_all is_ascii_digit text

-- the number that digits write, where it has at most 64 bits
abbrev pub value_of : List ℕ → Option ℕ
value_of digits = if nat_lt (digits_value 10 digits) (2 ^ 64) then Some (digits_value 10 digits) else None

-- digits without a leading zero, or the one digit 0
abbrev pub is_numeral : List ℕ → Bool
is_numeral text = is_digits text && (not (slice_index text 0 == 48) || length text == 1)

abbrev pub numeral : List ℕ → Option ℕ
numeral text = if is_numeral text then value_of text else None

-- ---- with a sign

-- the text without its `-`, if it begins with one
abbrev pub without_minus : List ℕ → List ℕ
without_minus text = if starts_with_minus text then drop 1 text else text

-- an optional `-`, and one or more digits
abbrev pub is_number : List ℕ → Bool
is_number text = is_digits (without_minus text)

-- a number, or its negative, where it lies from -2^63 to below 2^63
abbrev pub signed : Bool → ℕ → Option ℤ
signed false n = if nat_lt n (2 ^ 63) then Some (pos n) else None
signed true n = if nat_le n (2 ^ 63) then Some (neg_ℤ (pos n)) else None

-- the number that an optional `-` and digits write, where it has 64 bits
abbrev pub signed_value_of : List ℕ → Option ℤ
signed_value_of text = signed (starts_with_minus text) (digits_value 10 (without_minus text))
