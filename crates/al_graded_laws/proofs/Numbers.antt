-- What is computed of numbers of 64 bits has 64 bits.
use Rattle.std.proofs.Common.{◌≡◌, ℕ, suc, ◌+◌, ◌<◌, ◌≤◌, ◌^◌, ◌%◌, ◌/◌, ◌*◌, ◌-◌, Bool, true, false, refl, arith, w64, to_z, of_z, FitsSigned, Ok, Err, List, length}
use Rattle.std.specs.Prelude.{ℤ, pos, negsuc, ◌+ℤ◌, if◌then◌else◌, nat_lt, int_lt}
use Rattle.std.specs.Int.{int_max}
use Rattle.std.specs.Ordering.{int_eq}
use Rattle.std.proofs.Math.Facts.{sfits_to_z, Fits-of_z, Fits-lt-pow}
use Rattle.std.proofs.lemmas.Int.{rem_below}
use Rattle.std.proofs.Math.Nat.{div-le_self}
use Rattle.std.specs.Int.Signed.{shr_z}
use Rattle.std.specs.Int.{int_bit_not, bit_not}
use Rattle.std.specs.Prelude.{unsigned_abs, int_rem, int_div}
use Rattle.al_source.specs.declared.operators.BinOp.{BinOp}
use Rattle.al_source.specs.declared.operators.BinOp.TheVariants as binary
use Rattle.al_source.specs.declared.operators.UnOp.{UnOp}
use Rattle.al_source.specs.declared.operators.UnOp.TheVariants.{Neg, BitNot, Not}
use Rattle.al_core.specs.Arithmetic.{truth_value, operated, unary}
use Rattle.al_core.specs.Values.{trip_count, trips}
use Rattle.std.specs.Prelude.{int_le, Result}
use Rattle.al_source.specs.declared.operators.RedOp.TheVariants as red
use Rattle.al_core.specs.declared.values.Trap.{Trap}
use Rattle.al_core.specs.declared.values.Trap.TheVariants as trap
use Rattle.al_core.specs.Arithmetic.{shift_count}
use Rattle.al_core.specs.Reductions.{red_apply}
use Rattle.al_core.specs.Values.{input_at}
use Rattle.al_laws.proofs.Joining.{stays_in_range}
use Rattle.al_graded_laws.proofs.Graded.{Fineness, Fine, FineNumbers, OkIs}
use Rattle.al_graded_laws.specs.Rules.{Rules}
use Rattle.al_source.specs.declared.limits.TheConstants.{LOOP_TRIPS}

tested : (b : Bool) → FitsSigned w64 (truth_value b)
tested true = grind arith
tested false = grind arith

wrapped_sub : (x y : ℤ) → FitsSigned w64 (to_z w64 ((of_z w64 x + (2 ^ 64 - of_z w64 y)) % 2 ^ 64))
wrapped_sub x y = sfits_to_z {w = w64} (record { fits = omega arith })

greater : (x y : ℤ) → FitsSigned w64 x → FitsSigned w64 y → FitsSigned w64 (int_max x y)
greater x y f g = grind arith

counted : (lo hi : ℤ) (j : ℕ) → FitsSigned w64 lo → FitsSigned w64 hi → j < trip_count lo hi → FitsSigned w64 (lo +ℤ pos j)
counted lo hi j f g l = grind arith

counter_if : (lo hi : ℤ) (b : Bool) → FitsSigned w64 lo → FitsSigned w64 hi
    → OkIs (λ n. (j : ℕ) → j < n → FitsSigned w64 (lo +ℤ pos j)) (if b then Err trap.Trips else Ok (trip_count lo hi))
counter_if lo hi true f g = tt
counter_if lo hi false f g = λ j l. counted lo hi j f g l

of_z_small : (x : ℤ) → FitsSigned w64 x → of_z w64 x < 2 ^ 64
of_z_small x f = Fits-lt-pow (Fits-of_z {w = w64} {z = x} f)

bits_fit : (n : ℕ) → n < 2 ^ 64 → FitsSigned w64 (to_z w64 n)
bits_fit n h = sfits_to_z {w = w64} (record { fits = h })

remainder_fits : (x y : ℤ) → FitsSigned w64 x → FitsSigned w64 y → 0 < unsigned_abs y → FitsSigned w64 (int_rem x y)
remainder_fits x y f g h = let b = rem_below x y h in grind arith

neg_fits : (x : ℤ) → FitsSigned w64 (to_z w64 ((2 ^ 64 - of_z w64 x) % 2 ^ 64))
neg_fits x = bits_fit ((2 ^ 64 - of_z w64 x) % 2 ^ 64) (omega arith)

shl_fits : (x : ℤ) (k : ℕ) → FitsSigned w64 (to_z w64 ((of_z w64 x * 2 ^ k) % 2 ^ 64))
shl_fits x k = bits_fit ((of_z w64 x * 2 ^ k) % 2 ^ 64) (omega arith)

nonzero : (y : ℤ) → int_eq y (pos 0) ≡ false → 0 < unsigned_abs y
nonzero y e = grind arith

div_self : (a m : ℕ) → a / m ≤ a
div_self a m = div-le_self a m

shr_fits : (x : ℤ) (m : ℕ) → FitsSigned w64 x → FitsSigned w64 (shr_z x m)
shr_fits (pos a) m f = let d = div_self a m in grind arith
shr_fits (negsuc a) m f = let d = div_self a m in grind arith

not_fits : (x : ℤ) → FitsSigned w64 (int_bit_not w64 x)
not_fits x = bits_fit (bit_not w64 (of_z w64 x)) (omega arith)

if_fits : (b : Bool) → FitsSigned w64 (if b then pos 0 else pos 1)
if_fits true = tested false
if_fits false = tested true

div_small : (x y : ℤ) → FitsSigned w64 x → of_z w64 (int_div x y) < 2 ^ 64
div_small (pos a) (pos b) f = let d = div_self a b in grind arith
div_small (pos a) (negsuc b) f = let d = div_self a (suc b) in grind arith
div_small (negsuc a) (pos b) f = let d = div_self (suc a) b in grind arith
div_small (negsuc a) (negsuc b) f = let d = div_self (suc a) (suc b) in grind arith

divided_fits : (b : Bool) (q : ℤ) → FitsSigned w64 q → OkIs (λ n. FitsSigned w64 n) (if b then Err trap.Divide else Ok q)
divided_fits true q f = tt
divided_fits false q f = f

-- a remainder, where the divisor is not 0
rem_fits : (x y : ℤ) (b : Bool) → int_eq y (pos 0) ≡ b → FitsSigned w64 x → FitsSigned w64 y
    → OkIs (λ n. FitsSigned w64 n) (if b then Err trap.Divide else Ok (int_rem x y))
rem_fits x y true e f g = tt
rem_fits x y false e f g = remainder_fits x y f g (nonzero y e)

pub operated_fits : (op : BinOp) (x y : ℤ) → FitsSigned w64 x → FitsSigned w64 y → OkIs (λ n. FitsSigned w64 n) (operated op x y)
operated_fits binary.Add x y f g = stays_in_range red.Add x y f g
operated_fits binary.Sub x y f g = wrapped_sub x y
operated_fits binary.Mul x y f g = stays_in_range red.Mul x y f g
operated_fits binary.Div x y f g = divided_fits (int_eq y (pos 0)) _ (bits_fit (of_z w64 (int_div x y)) (div_small x y f))
operated_fits binary.Rem x y f g = rem_fits x y (int_eq y (pos 0)) refl f g
operated_fits binary.Shl x y f g = shl_fits x (shift_count y)
operated_fits binary.Shr x y f g = shr_fits x (2 ^ shift_count y) f
operated_fits binary.Lt x y f g = tested (int_lt x y)
operated_fits binary.Le x y f g = tested (int_le x y)
operated_fits binary.Gt x y f g = tested (int_lt y x)
operated_fits binary.Ge x y f g = tested (int_le y x)
operated_fits binary.Eq x y f g = tested (int_eq x y)
operated_fits binary.Ne x y f g = if_fits (int_eq x y)
operated_fits binary.BitAnd x y f g = stays_in_range red.BitAnd x y f g
operated_fits binary.BitXor x y f g = stays_in_range red.BitXor x y f g
operated_fits binary.BitOr x y f g = stays_in_range red.BitOr x y f g

pub unary_fits : (op : UnOp) (x : ℤ) → FitsSigned w64 x → FitsSigned w64 (unary op x)
unary_fits Neg x f = neg_fits x
unary_fits BitNot x f = not_fits x
unary_fits Not x f = tested (int_eq x (pos 0))

over_ok : {A : Type 0} (e : Result A Trap) (P Q : A → Type 0) → ((a : A) → P a → Q a) → OkIs P e → OkIs Q e
over_ok (Ok a) P Q f h = f a h
over_ok (Err t) P Q f h = tt

counter_fits : (lo hi : ℤ) → FitsSigned w64 lo → FitsSigned w64 hi → OkIs (λ n. (j : ℕ) → j < n → FitsSigned w64 (lo +ℤ pos j)) (trips lo hi)
unfolding trips
counter_fits lo hi f g = counter_if lo hi (nat_lt LOOP_TRIPS (trip_count lo hi)) f g

-- Numbers of 64 bits are fine, in any fineness that says so of them.
pub fine_numbers : (F : Fineness) → ((n : ℤ) → FitsSigned w64 n → F.num n) → ((n : ℤ) → F.num n → FitsSigned w64 n) → (r : Rules) (input : List ℤ)
    → ((n : ℤ) → r.literal n ≡ true → FitsSigned w64 n) → ((i : ℤ) → OkIs (Fine F) (input_at input i)) → FitsSigned w64 (pos (length input))
    → FineNumbers F r input
fine_numbers F to from r input literal read count = record {
  tested = λ b. to (truth_value b) (tested b);
  literal = λ n o. to n (literal n o);
  operated = λ op x y f g. over_ok (operated op x y) (λ n. FitsSigned w64 n) F.num to (operated_fits op x y (from x f) (from y g));
  unary = λ op x f. to (unary op x) (unary_fits op x (from x f));
  chosen = λ op x y f g. to (red_apply op x y) (stays_in_range op x y (from x f) (from y g));
  read = read;
  count = to (pos (length input)) count;
  counter =
      λ lo hi f g. over_ok (trips lo hi) (λ n. (j : ℕ) → j < n → FitsSigned w64 (lo +ℤ pos j)) (λ n. (j : ℕ) → j < n → F.num (lo +ℤ pos j))
      (λ n h j l. to (lo +ℤ pos j) (h j l)) (counter_fits lo hi (from lo f) (from hi g));
  greater = λ lo hi f g. to (int_max lo hi) (greater lo hi (from lo f) (from hi g));
}
