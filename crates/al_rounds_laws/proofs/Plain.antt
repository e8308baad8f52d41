-- All chunks one after another are all iterations.
use Rattle.std.proofs.Common.{◌≡◌, ℕ, zero, suc, ◌+◌, ◌-◌, ◌*◌, ◌≤◌, ◌<◌, refl, sym, ap, ◌∙◌, arith, inl, inr}
use Rattle.std.specs.Prelude.{min}
use Rattle.std.proofs.Math.Nat.{min-le_left, min-le_right, le-min, mul-le-mul_right}
use Rattle.std.proofs.lemmas.Grind.{div_ceil_times}
use Rattle.std.proofs.lemmas.Bool.{cases_lt}
use Rattle.al_core.specs.Memory.{Memory}
use Rattle.al_core.specs.Access.{Content}
use Rattle.al_core.specs.Iteration.{Execution, then_runs, iterations}
use Rattle.al_core.specs.Chunk.{chunk_count, chunk_runs}
use Rattle.al_core.specs.Lockstep.{up_from, all_chunks}
use Rattle.al_core.specs.Serial.{direct, chunks_run, serial, plain_loop}
use Rattle.al_rounds_laws.proofs.Parts.{iterations_of_both}

min_of : (u t : ℕ) → u ≤ t → min u t ≡ u
min_of u t h = omega (arith, min-le_left u t, le-min {k = u} {a = u} {b = t} (omega arith) h)

min_of_other : (u t : ℕ) → t ≤ u → min u t ≡ t
min_of_other u t h = omega (arith, min-le_right u t, le-min {k = t} {a = u} {b = t} h (omega arith))

none_left : (x : Execution) (b k l : ℕ) → b ≡ 0 → iterations x b k ≡ iterations x b l
none_left x b k l e = ap (λ z. iterations x z k) e ∙ sym (ap (λ z. iterations x z l) e)

-- a chunk of the iterations from s to below t, which ends at u or at t
cut : (x : Execution) (s u t : ℕ) (c : Content) → s ≤ u → s ≤ t
    → iterations x (t - s) s c ≡ then_runs (iterations x (min u t - s) s c) (iterations x (t - u) u)
cut x s u t c h g =
    elim (cases_lt t u) as (λ _. iterations x (t - s) s c ≡ then_runs (iterations x (min u t - s) s c) (iterations x (t - u) u)) [
      | inr l ↦ iterations_of_both x (min u t - s) (t - u) (t - s) s u c (omega (arith, min_of u t l)) (omega (arith, min_of u t l))
      | inl l ↦
          iterations_of_both x (min u t - s) (t - u) (t - s) s (s + (min u t - s)) c (omega (arith, min_of_other u t (omega arith))) refl
          ∙ ap (then_runs (iterations x (min u t - s) s c)) (none_left x (t - u) (s + (min u t - s)) u (omega arith))
    ]

-- the chunks from chunk k on are the iterations from its first on
chunks_from : (x : Execution) (n k : ℕ) (c : Content) → 0 < x.factor → k + n ≡ chunk_count x
    → chunks_run x (up_from n k) c ≡ iterations x (x.trips - k * x.factor) (k * x.factor) c
chunks_from x zero k c p e =
    let le : x.trips ≤ k * x.factor = omega (arith, (div_ceil_times x.trips x.factor p).0, ap (λ z. z * x.factor) e) in
    let none : 0 ≡ x.trips - k * x.factor = omega (arith, le) in
    ap (λ z. iterations x z (k * x.factor) c) none
chunks_from x (suc n) k c p e =
    let s = k * x.factor in
    let u = (k + 1) * x.factor in
    let more : u ≡ s + x.factor = omega arith in
    let le : u ≤ chunk_count x * x.factor = mul-le-mul_right {m = k + 1} {n = chunk_count x} x.factor (omega (arith, e)) in
    let below : s ≤ x.trips = omega (arith, (div_ceil_times x.trips x.factor p).1, le, more) in
    let one : suc k ≡ k + 1 = omega arith in
    let rest : chunks_run x (up_from n (suc k)) ≡ iterations x (x.trips - u) u =
    λ i d. (chunks_from x n (suc k) d p (omega (arith, e)) ∙ ap (λ z. iterations x (x.trips - z * x.factor) (z * x.factor) d) one) i in
    ap (then_runs (chunk_runs x k c)) rest ∙ sym (cut x s u x.trips c (omega (arith, more)) below)

no_less : (n : ℕ) → n - 0 ≡ n
no_less n = omega arith

no_times : (n : ℕ) → 0 * n ≡ 0
no_times n = omega arith

pub plain_is_serial : (x : Execution) (m : Memory) → 0 < x.factor → serial x (all_chunks x) m ≡ plain_loop x m
unfolding serial plain_loop
plain_is_serial x m p =
    chunks_from x (chunk_count x) 0 (direct x m) p (omega arith)
    ∙ ap (λ z. iterations x (x.trips - z) z (direct x m)) (no_times x.factor)
    ∙ ap (λ z. iterations x z 0 (direct x m)) (no_less x.trips)
