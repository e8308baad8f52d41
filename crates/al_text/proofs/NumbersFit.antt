-- The numbers that a text lists have 64 bits, and are not too many.
use Rattle.std.proofs.Common.{◌≡◌, ℕ, zero, suc, ◌^◌, ◌<◌, ◌≤◌, Bool, true, false, nat_lt, nat_le, if◌then◌else◌, List, [], ◌∷◌, ◌++◌, length, Option, Some, None, Result, Ok, Err, slice_get, refl, subst, arith, length-append, w64, FitsSigned}
use Rattle.std.specs.Prelude.{ℤ, pos, neg_ℤ}
use Rattle.std.specs.Str.Parse.{digits_value, starts_with_minus}
use Rattle.al_source.specs.Steps.{and_then}
use Rattle.al_source.specs.declared.limits.TheConstants.{INPUT_NUMBERS, INPUT_BYTES}
use Rattle.al_text.specs.declared.faults.InputCause.{InputCause}
use Rattle.al_text.specs.declared.faults.InputCause.TheVariants.{TooLong, NotNumber, TooMany}
use Rattle.al_text.specs.Digits.{is_number, without_minus, signed, signed_value_of}
use Rattle.al_text.specs.Numbers.{Word, in_range, number_of, numbers_onto, numbers_of, words_of}

some_is : {A : Type 0} {a b : A} → ◌≡◌ {A = Option A} (Some a) (Some b) → a ≡ b
some_is e = cc

abbrev pub Fit : List ℤ → Type 0
Fit [] = Unit {0}
Fit (n ∷ ns) = FitsSigned w64 n × Fit ns

-- so many as a text can list, each of 64 bits
abbrev pub AreNumbers : List ℤ → Type 0
AreNumbers ns = Fit ns × (length ns ≤ INPUT_NUMBERS)

fit_one_more : (ns : List ℤ) (n : ℤ) → Fit ns → FitsSigned w64 n → Fit (ns ++ n ∷ [])
fit_one_more [] n f h = (h, tt)
fit_one_more (m ∷ ns) n f h = (f.0, fit_one_more ns n f.1 h)

pub fit_at : (ns : List ℤ) (i : ℕ) (n : ℤ) → Fit ns → slice_get ns i ≡ Some n → FitsSigned w64 n
fit_at [] i n f e = absurd cc
fit_at (m ∷ ns) zero n f e = subst (FitsSigned w64) (some_is e) f.0
fit_at (m ∷ ns) (suc i) n f e = fit_at ns i n f.1 e

-- ---- one number

input_is : {A : Type 0} {a b : A} → ◌≡◌ {A = Result A InputCause} (Ok a) (Ok b) → a ≡ b
input_is e = cc

small_fits : (v : ℕ) → v < 2 ^ 63 → FitsSigned w64 (pos v)
small_fits v l = grind arith

negative_fits : (v : ℕ) → v ≤ 2 ^ 63 → FitsSigned w64 (neg_ℤ (pos v))
negative_fits zero l = grind arith
negative_fits (suc v) l = grind arith

less : (a b : ℕ) → nat_lt a b ≡ true → a < b
less a b e = grind arith

at_most : (a b : ℕ) → nat_le a b ≡ true → a ≤ b
at_most a b e = grind arith

plus_fits : (line v : ℕ) (n : ℤ) (b : Bool) → nat_lt v (2 ^ 63) ≡ b → in_range line (if b then Some (pos v) else None) ≡ Ok n → FitsSigned w64 n
plus_fits line v n true is e = subst (FitsSigned w64) (input_is e) (small_fits v (less v (2 ^ 63) is))
plus_fits line v n false is e = absurd cc

minus_fits : (line v : ℕ) (n : ℤ) (b : Bool) → nat_le v (2 ^ 63) ≡ b → in_range line (if b then Some (neg_ℤ (pos v)) else None) ≡ Ok n
    → FitsSigned w64 n
minus_fits line v n true is e = subst (FitsSigned w64) (input_is e) (negative_fits v (at_most v (2 ^ 63) is))
minus_fits line v n false is e = absurd cc

signed_fits : (line v : ℕ) (n : ℤ) (minus : Bool) → in_range line (signed minus v) ≡ Ok n → FitsSigned w64 n
signed_fits line v n false e = plus_fits line v n (nat_lt v (2 ^ 63)) refl e
signed_fits line v n true e = minus_fits line v n (nat_le v (2 ^ 63)) refl e

word_fits : (w : Word) (n : ℤ) (b : Bool) → (if b then in_range w.line (signed_value_of w.bytes) else Err (NotNumber w.line)) ≡ Ok n → FitsSigned w64 n
word_fits w n true e = signed_fits w.line (digits_value 10 (without_minus w.bytes)) n (starts_with_minus w.bytes) e
word_fits w n false e = absurd cc

number_fits : (w : Word) (n : ℤ) → number_of w ≡ Ok n → FitsSigned w64 n
number_fits w n e = word_fits w n (is_number w.bytes) e

-- ---- all of them

then_input : {A B : Type 0} (r : Result A InputCause) (f : A → Result B InputCause) (b : B) → and_then r f ≡ Ok b → (a : A) × (r ≡ Ok a) × (f a ≡ Ok b)
then_input (Ok a) f b e = (a, refl, e)
then_input (Err c) f b e = absurd cc

one_more : (ns : List ℤ) (w : Word) (ws : List Word) (all : List ℤ) (b : Bool) → nat_lt (length ns) INPUT_NUMBERS ≡ b
    → ((n : ℤ) → number_of w ≡ Ok n → length ns < INPUT_NUMBERS → numbers_onto (ns ++ n ∷ []) ws ≡ Ok all → AreNumbers all)
    → (if b then and_then (number_of w) (λ n. numbers_onto (ns ++ n ∷ []) ws) else Err TooMany) ≡ Ok all → AreNumbers all
one_more ns w ws all true is next e =
    let n = then_input (number_of w) (λ n. numbers_onto (ns ++ n ∷ []) ws) all e in next n.0 n.1 (less (length ns) INPUT_NUMBERS is) n.2
one_more ns w ws all false is next e = absurd cc

numbers_fit : (ns : List ℤ) (ws : List Word) (all : List ℤ) → AreNumbers ns → numbers_onto ns ws ≡ Ok all → AreNumbers all
numbers_fit ns [] all h e = subst AreNumbers (input_is e) h
numbers_fit ns (w ∷ ws) all h e =
    one_more ns w ws all (nat_lt (length ns) INPUT_NUMBERS) refl
    (λ n is less e.
    numbers_fit (ns ++ n ∷ []) ws all (fit_one_more ns n h.0 (number_fits w n is), omega (arith, length-append ns (n ∷ []), less)) e) e

-- what a text lists
checked_numbers : (text : List ℕ) (all : List ℤ) (b : Bool) → (if b then numbers_onto [] (words_of text) else Err TooLong) ≡ Ok all → AreNumbers all
checked_numbers text all true e = numbers_fit [] (words_of text) all (tt, omega arith) e
checked_numbers text all false e = absurd cc

pub numbers_fit_in : (text : List ℕ) (all : List ℤ) → numbers_of text ≡ Ok all → AreNumbers all
numbers_fit_in text all e = checked_numbers text all (nat_le (length text) INPUT_BYTES) e
