-- Bytes and what they may be part of. A text reads as 0 past its end.
use Rattle.std.specs.Prelude.{ℕ, ◌+◌, ◌-◌, ◌*◌, Bool, not, ◌&&◌, ◌||◌, if◌then◌else◌, ◌==◌, nat_le, List, fold, count_by}
use Rattle.std.specs.Char.{is_ascii_digit, is_ascii_alphabetic}

abbrev pub Bytes : Type 0
Bytes = List ℕ

-- a tab, line feed, vertical tab, form feed, carriage return or space
abbrev pub is_blank : ℕ → Bool
is_blank b = b == 32 || (nat_le 9 b && nat_le b 13)

-- what a name may begin with
abbrev pub is_letter : ℕ → Bool
is_letter b = is_ascii_alphabetic b || b == 95

-- what a name may go on with
abbrev pub is_word : ℕ → Bool
is_word b = is_letter b || is_ascii_digit b

-- what may stand on the line of a `//` comment
abbrev pub is_on_line : ℕ → Bool
is_on_line b = not (b == 10)

-- what stands for itself in a text
abbrev pub is_plain : ℕ → Bool
is_plain b = (b == 9 || (nat_le 32 b && nat_le b 126) || nat_le 128 b) && not (b == 34 || b == 37 || b == 92)

-- how many lines end in a text
abbrev pub line_feeds : Bytes → ℕ
line_feeds = count_by (λ b. b == 10)

-- the number that a digit of a base up to 16 stands for
abbrev pub digit_value : ℕ → ℕ
digit_value b = if nat_le b 57 then b - 48 else (if nat_le b 70 then b - 55 else b - 87)

-- the number that digits of a base stand for, the first digit being the highest
abbrev pub value_in : ℕ → Bytes → ℕ
value_in base = fold (λ n b. n * base + digit_value b) 0
