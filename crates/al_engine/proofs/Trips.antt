-- The trips of an annotated loop.
use Rattle.std.proofs.Common.{◌≡◌, ℕ, ◌≤◌, Result, Ok, Err, Bool, true, false, refl, sym, subst, arith}
use Rattle.std.specs.Prelude.{ℤ, pos, negsuc, ◌+ℤ◌, ◌-ℤ◌, FitsSigned, if◌then◌else◌, nat_lt}
use Rattle.std.specs.Int.{w64}
use Rattle.std.proofs.lemmas.Bool.{ltb-false}
use Rattle.std.proofs.lemmas.Int.{ints}
use Rattle.al_source.specs.declared.limits.TheConstants.{LOOP_TRIPS}
use Rattle.al_core.specs.declared.values.Trap.{Trap}
use Rattle.al_core.specs.declared.values.Trap.TheVariants as trap
use Rattle.al_core.specs.Values.{trips, trip_count, not_negative}

abbrev or_zero : Result ℕ Trap → ℕ
or_zero (Ok n) = n
or_zero (Err t) = 0

few : (m : ℕ) (b : Bool) → nat_lt LOOP_TRIPS m ≡ b → or_zero (if b then Err trap.Trips else Ok m) ≤ LOOP_TRIPS
few m true e = omega arith
few m false e = ltb-false LOOP_TRIPS m e

pub trips_few : (lo hi : ℤ) (n : ℕ) → Ok n ≡ trips lo hi → n ≤ LOOP_TRIPS
unfolding trips
trips_few lo hi n e = subst (λ r. or_zero r ≤ LOOP_TRIPS) (sym e) (few (trip_count lo hi) (nat_lt LOOP_TRIPS (trip_count lo hi)) refl)

by_sign : (d lo hi : ℤ) → hi -ℤ lo ≡ d → FitsSigned w64 lo → FitsSigned w64 hi → FitsSigned w64 (lo +ℤ pos (not_negative d))
by_sign (pos k) lo hi e f g = let s : hi ≡ lo +ℤ pos k = omega (arith, ints) in subst (FitsSigned w64) s g
by_sign (negsuc k) lo hi e f g = let s : lo ≡ lo +ℤ pos 0 = omega (arith, ints) in subst (FitsSigned w64) s f

the_count : (n m : ℕ) (b : Bool) → Ok n ≡ (if b then Err trap.Trips else Ok m) → m ≡ n
the_count n m true e = cc
the_count n m false e = cc

-- the counter fits in every trip, and after the last
pub trips_fit : (lo hi : ℤ) (n : ℕ) → Ok n ≡ trips lo hi → FitsSigned w64 lo → FitsSigned w64 hi → FitsSigned w64 (lo +ℤ pos n)
unfolding trips
trips_fit lo hi n e f g =
    subst (λ n. FitsSigned w64 (lo +ℤ pos n)) (the_count n (trip_count lo hi) (nat_lt LOOP_TRIPS (trip_count lo hi)) e) (by_sign (hi -ℤ lo) lo hi refl f g)
