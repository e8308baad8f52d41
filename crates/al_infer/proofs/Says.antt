-- What tables say.
use Rattle.std.proofs.Common.{ℕ, zero, suc, ◌≡◌, ◌≢◌, ◌+◌, ◌*◌, ◌<◌, ◌≤◌, nat_lt, ◌&&◌, not, Bool, true, false, if◌then◌else◌, Option, Some, None, List, [], ◌∷◌, slice_get, refl, sym, ap, subst, ◌∙◌, arith, ◌⊎◌, inl, inr}
use Rattle.std.specs.Str.{bytes_eq}
use Rattle.std.proofs.lemmas.Slice.Eq.{bytes_eq-Decides}
use Rattle.std.proofs.Math.Nat.{eq-or-lt_of_le, le_trans}
use Rattle.al_core.specs.declared.reports.Ending.{Ending}
use Rattle.al_core.specs.declared.values.Trap.{Trap}
use Rattle.al_infer.specs.declared.outcomes.Outcome.{Outcome}
use Rattle.al_infer.specs.declared.tables.Why.{Why}
use Rattle.al_infer.specs.declared.tables.Why.TheVariants.{Output, Conflicts, Steps}
use Rattle.al_infer.specs.declared.tables.Found.{Found}
use Rattle.al_infer.specs.declared.tables.Found.TheVariants.{Accepted, Refused}
use Rattle.al_infer.specs.Endings.{trap_number, is_same_ending}
use Rattle.al_infer.specs.Findings.{is_same_run, reason, reason_at, or_here, refused_or, first_refusal, span_sum, earlier, best_from, number_of}
use Rattle.al_infer.specs.Laws.{IsFaithful, AcceptedIsFaithful, RefusedAtFirst, IsLeast, BestIsLeast, NoneIsAccepted}

same_bytes : (xs ys : List ℕ) → bytes_eq xs ys ≡ true → xs ≡ ys
same_bytes xs ys h = (bytes_eq-Decides xs ys).0 h

same_trap : (t u : Trap) → trap_number t ≡ trap_number u → t ≡ u
same_trap = grind arith

same_ending : (a b : Ending) → is_same_ending a b ≡ true → b ≡ a
same_ending = grind arith

-- the reason of a test, by what it looks at
no_reason : (same aborts longer : Bool)
    → (if not same then Some Output else if aborts then Some Conflicts else if longer then Some Steps else None) ≡ None
    → (same ≡ true) × (aborts ≡ false) × (longer ≡ false)
no_reason = grind arith

both : (a b : Bool) → (a && b) ≡ true → (a ≡ true) × (b ≡ true)
both = grind arith

not_less : (a b : ℕ) → nat_lt a b ≡ false → b ≤ a
not_less = grind arith

faithful : (plain tried : Outcome) → reason plain tried ≡ None → IsFaithful plain tried
faithful plain tried h =
    let r = no_reason (is_same_run plain tried) (nat_lt tried.attempts (2 * tried.aborted)) (nat_lt (10 * plain.span) tried.span) h in
    let s = both (bytes_eq plain.output tried.output) (is_same_ending plain.ending tried.ending) r.0 in
    record {
      output = sym (same_bytes plain.output tried.output s.0);
      ending = same_ending plain.ending tried.ending s.1;
      kept = not_less tried.attempts (2 * tried.aborted) r.1;
      span = not_less (10 * plain.span) tried.span r.2;
    }

-- nothing refuses a candidate before, nor at this test
not_here : (r : Option (ℕ × Why)) (here : Option Why) (t : ℕ) → or_here t r here ≡ None → (r ≡ None) × (here ≡ None)
not_here = grind arith

unrefused : (r : Option (ℕ × Why)) (s sum : ℕ) → refused_or r s ≡ Accepted sum → r ≡ None
unrefused = grind arith

nothing_there : (x : ℕ × Why) (r : Option (ℕ × Why)) → r ≡ None → r ≡ Some x → ⊥
nothing_there = grind arith

the_same : (n u : ℕ) (w why : Why) → ◌≡◌ {A = Option (ℕ × Why)} (Some (n, w)) (Some (u, why)) → (u ≡ n) × (w ≡ why)
the_same = grind arith

module _ (told : Option ℕ → ℕ → Outcome) (k : ℕ) where
  abbrev IsNever : ℕ → Type 0
  IsNever t = reason_at told k t ≡ None

  below_or_last : (n t : ℕ) → ((t : ℕ) → t < n → IsNever t) → IsNever n → (t ≡ n) ⊎ (t < n) → IsNever t
  below_or_last n t before here (inl e) = subst IsNever (sym e) here
  below_or_last n t before here (inr l) = before t l

  never : (tests : ℕ) → first_refusal told k tests ≡ None → (t : ℕ) → t < tests → IsNever t
  never zero h t l = absurd (omega (arith, l))
  never (suc n) h t l =
      let p = not_here (first_refusal told k n) (reason_at told k n) n h in
      below_or_last n t (never n p.0) p.1 (eq-or-lt_of_le (omega (arith, l)))

  abbrev IsFirst : ℕ → ℕ → Why → Type 0
  IsFirst n u why = (u < n) × (reason_at told k u ≡ Some why) × ((t : ℕ) → t < u → IsNever t)

  later : (n u : ℕ) (why : Why) → IsFirst n u why → IsFirst (suc n) u why
  later n u why h = (omega (arith, h.0), h.1, h.2)

  first_of : (n u : ℕ) (why : Why) (r : Option (ℕ × Why)) (here : Option Why) → first_refusal told k n ≡ r → reason_at told k n ≡ here
      → (r ≡ Some (u, why) → IsFirst n u why) → or_here n r here ≡ Some (u, why) → IsFirst (suc n) u why
  first_of n u why (Some before) here a b more e = later n u why (more e)
  first_of n u why None (Some w) a b more e =
      let p = the_same n u w why e in
      let here = b ∙ ap (λ w. Some w) p.1 in
      subst (λ m. (m < suc n) × (reason_at told k m ≡ Some why) × ((t : ℕ) → t < m → IsNever t)) (sym p.0)
      (omega arith, here, never n a)
  first_of n u why None None a b more e = absurd (nothing_there _ None refl e)

  is_first : (n u : ℕ) (why : Why) → first_refusal told k n ≡ Some (u, why) → IsFirst n u why
  is_first zero u why e = absurd (nothing_there _ None refl e)
  is_first (suc n) u why e = first_of n u why (first_refusal told k n) (reason_at told k n) refl refl (is_first n u why) e

pub accepted_is_faithful : AcceptedIsFaithful
accepted_is_faithful told k tests sum h t l =
    faithful (told None t) (told (Some k) t) (never told k tests (unrefused (first_refusal told k tests) (span_sum told k tests) sum h) t l)

refusal_of : (r : Option (ℕ × Why)) (s u : ℕ) (why : Why) → refused_or r s ≡ Refused u why → r ≡ Some (u, why)
refusal_of = grind arith

pub refused_at_first : RefusedAtFirst
refused_at_first told k tests u why h = is_first told k tests u why (refusal_of (first_refusal told k tests) (span_sum told k tests) u why h)

is_less : (a b : ℕ) → nat_lt a b ≡ true → a < b
is_less = grind arith

no_number : (k : ℕ) → None ≡ Some k → ⊥
no_number = grind arith

one_number : (j k : ℕ) → Some j ≡ Some k → j ≡ k
one_number = grind arith

nothing_listed : (i other : ℕ) → slice_get [] i ≡ Some (Accepted other) → ⊥
nothing_listed = grind arith

-- the best of the rows from a number on is the least of them, the earliest of equal ones
record IsBestFrom (k : ℕ) (rows : List Found) (j sum : ℕ) : Type 0 where
  place : ℕ
  is_at : j ≡ k + place
  accepted : slice_get rows place ≡ Some (Accepted sum)
  least : (i other : ℕ) → slice_get rows i ≡ Some (Accepted other) → sum ≤ other
  earliest : (i other : ℕ) → slice_get rows i ≡ Some (Accepted other) → i < place → sum < other

abbrev Tells : ℕ → List Found → Option (ℕ × ℕ) → Type 0
Tells k rows None = (i other : ℕ) → slice_get rows i ≢ Some (Accepted other)
Tells k rows (Some best) = IsBestFrom k rows best.0 best.1

other_kind : (t other : ℕ) (w : Why) → Some (Refused t w) ≡ Some (Accepted other) → ⊥
other_kind = grind arith

same_sum : (s other : ℕ) → Some (Accepted s) ≡ Some (Accepted other) → other ≡ s
same_sum = grind arith

module _ (k t : ℕ) (w : Why) (rows : List Found) where
  none_refused : Tells (k + 1) rows None → (i other : ℕ) → slice_get (Refused t w ∷ rows) i ≢ Some (Accepted other)
  none_refused h zero other e = other_kind t other w e
  none_refused h (suc i) other e = h i other e

  module _ (j sum : ℕ) (h : IsBestFrom (k + 1) rows j sum) where
    least_refused : (i other : ℕ) → slice_get (Refused t w ∷ rows) i ≡ Some (Accepted other) → sum ≤ other
    least_refused zero other e = absurd (other_kind t other w e)
    least_refused (suc i) other e = h.least i other e

    earliest_refused : (i other : ℕ) → slice_get (Refused t w ∷ rows) i ≡ Some (Accepted other) → i < suc h.place → sum < other
    earliest_refused zero other e l = absurd (other_kind t other w e)
    earliest_refused (suc i) other e l = h.earliest i other e (omega (arith, l))

  past_refused : (r : Option (ℕ × ℕ)) → Tells (k + 1) rows r → Tells k (Refused t w ∷ rows) r
  past_refused None h = none_refused h
  past_refused (Some best) h = record {
    place = suc h.place;
    is_at = omega (arith, h.is_at);
    accepted = h.accepted;
    least = least_refused best.0 best.1 h;
    earliest = earliest_refused best.0 best.1 h;
  }

module _ (k s : ℕ) (rows : List Found) where
  -- the first one is the best where each later one has as much
  first_best : ((i other : ℕ) → slice_get rows i ≡ Some (Accepted other) → s ≤ other) → IsBestFrom k (Accepted s ∷ rows) k s
  first_best more = record {
    place = 0;
    is_at = omega arith;
    accepted = refl;
    least = least_first;
    earliest = λ i other e l. absurd (omega (arith, l));
  } where
    least_first : (i other : ℕ) → slice_get (Accepted s ∷ rows) i ≡ Some (Accepted other) → s ≤ other
    least_first zero other e = subst (λ n. s ≤ n) (sym (same_sum s other e)) (omega arith)
    least_first (suc i) other e = more i other e

  module _ (j sum : ℕ) (h : IsBestFrom (k + 1) rows j sum) (less : sum < s) where
    least_later : (i other : ℕ) → slice_get (Accepted s ∷ rows) i ≡ Some (Accepted other) → sum ≤ other
    least_later zero other e = omega (arith, less, same_sum s other e)
    least_later (suc i) other e = h.least i other e

    earliest_later : (i other : ℕ) → slice_get (Accepted s ∷ rows) i ≡ Some (Accepted other) → i < suc h.place → sum < other
    earliest_later zero other e l = omega (arith, less, same_sum s other e)
    earliest_later (suc i) other e l = h.earliest i other e (omega (arith, l))

    later_best : IsBestFrom k (Accepted s ∷ rows) j sum
    later_best = record {
      place = suc h.place;
      is_at = omega (arith, h.is_at);
      accepted = h.accepted;
      least = least_later;
      earliest = earliest_later;
    }

  by_sum : (best : ℕ × ℕ) (b : Bool) → nat_lt best.1 s ≡ b → IsBestFrom (k + 1) rows best.0 best.1
      → Tells k (Accepted s ∷ rows) (if b then Some best else Some (k, s))
  by_sum best true e h = later_best best.0 best.1 h (is_less best.1 s e)
  by_sum best false e h = first_best (λ i other e'. le_trans (not_less best.1 s e) (h.least i other e'))

  past_accepted : (r : Option (ℕ × ℕ)) → Tells (k + 1) rows r → Tells k (Accepted s ∷ rows) (earlier k (Accepted s) r)
  past_accepted None h = first_best (λ i other e. absurd (h i other e))
  past_accepted (Some best) h = by_sum best (nat_lt best.1 s) refl h

tells : (k : ℕ) (rows : List Found) → Tells k rows (best_from k rows)
tells k [] = λ i other e. nothing_listed i other e
tells k (Refused t w ∷ rows) = past_refused k t w rows (best_from (k + 1) rows) (tells (k + 1) rows)
tells k (Accepted s ∷ rows) = past_accepted k s rows (best_from (k + 1) rows) (tells (k + 1) rows)

best_number : (rows : List Found) (r : Option (ℕ × ℕ)) → Tells 0 rows r → (k : ℕ) → number_of r ≡ Some k → IsLeast rows k
best_number rows None h k e = absurd (no_number k e)
best_number rows (Some best) h k e =
    let at : h.place ≡ k = omega (arith, h.is_at, one_number best.0 k e) in
    record {
      sum = best.1;
      accepted = subst (λ p. slice_get rows p ≡ Some (Accepted best.1)) at h.accepted;
      least = h.least;
      earliest = λ j other e l. h.earliest j other e (omega (arith, l, at));
    }

pub best_is_least : BestIsLeast
best_is_least rows k e = best_number rows (best_from 0 rows) (tells 0 rows) k e

no_best : (rows : List Found) (r : Option (ℕ × ℕ)) → Tells 0 rows r → number_of r ≡ None → (k sum : ℕ) → slice_get rows k ≢ Some (Accepted sum)
no_best rows None h e = h
no_best rows (Some best) h e = absurd (no_number best.0 (sym e))

pub none_is_accepted : NoneIsAccepted
none_is_accepted rows e k sum = no_best rows (best_from 0 rows) (tells 0 rows) e k sum
