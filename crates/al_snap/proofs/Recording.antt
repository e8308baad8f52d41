-- What is recorded, by whether something was found.
use Rattle.std.proofs.Common.{◌≡◌, ℕ, suc, ◌+◌, Option, Some, None, is_some, Result, Ok, Err, refl, ap, arith}
use Rattle.std.specs.Prelude.{option_map, OnOk}
use Rattle.al_core.specs.declared.values.Addr.{Addr}
use Rattle.al_core.specs.declared.values.Val.{Val}
use Rattle.al_core.specs.Access.{AccessRecord, record_load}
use Rattle.al_snap.specs.Marks.{with_found_load}

pub on_ok : {A E : Type 0} (r : Result A E) (P Q : Type 0) → (P → Q) → OnOk r P → OnOk r Q
on_ok (Ok a) P Q f h = f h
on_ok (Err e) P Q f h = h

pub found_load : (x : AccessRecord) (a : Addr) (v : Option Val) → with_found_load x a (is_some v) ≡ record_load x a v
found_load x a (Some v) = refl
found_load x a None = refl

-- ---- where an address stands among reductions

pub one_later : (i : ℕ) (x : Option ℕ) → option_map (λ n. i + n) (option_map suc x) ≡ option_map (λ n. (i + 1) + n) x
one_later i None = refl
one_later i (Some n) = let e : i + suc n ≡ (i + 1) + n = omega arith in ap (λ n. Some n) e

pub from_none : (x : Option ℕ) → option_map (λ n. 0 + n) x ≡ x
from_none None = refl
from_none (Some n) = let e : 0 + n ≡ n = omega arith in ap (λ n. Some n) e
