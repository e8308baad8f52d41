-- The checks of code decide whether it is valid.
use Rattle.std.proofs.Common.{◌≡◌, ℕ, zero, suc, ◌+◌, ◌-◌, ◌<◌, ◌≤◌, Bool, true, false, ◌&&◌, ◌||◌, ◌==◌, nat_lt, nat_le, List, [], ◌∷◌, length, Option, Some, None, cond, refl, sym, ap, ◌∙◌, subst, ⊎_elim, arith}
use Rattle.std.specs.Prelude.{slice_get, count_by}
use Rattle.std.specs.List.{list_all, AllByRecursion}
use Rattle.std.proofs.lemmas.Bool.{ltb-true, lt-ltb, leb-true, le-leb, eqb-true, eq-eqb, cases_lt}
use Rattle.std.proofs.lemmas.Option.{slice_get_within}
use Rattle.std.proofs.lemmas.List.Sums.{sum_by-cons}
use Rattle.al_core.specs.declared.choices.Bound.{Bound}
use Rattle.al_core.specs.declared.choices.Bound.TheVariants as bound
use Rattle.al_core.specs.declared.choices.LoopInfo.{LoopInfo}
use Rattle.al_code.specs.declared.instructions.Instr.{Instr}
use Rattle.al_code.specs.declared.instructions.Instr.TheVariants as i
use Rattle.al_code.specs.declared.lowered.Entry.{Entry}
use Rattle.al_code.specs.declared.lowered.Body.{Body}
use Rattle.al_code.specs.declared.lowered.Code.{Code}
use Rattle.al_code.specs.declared.checks.Want.TheVariants.{Height, Inside}
use Rattle.al_code.specs.Valid.{takes, puts, places_after, jumps, NumberInRange, LocalInRange, BoundInRange, IsSound, IsIn, IsFunction, IsBody, EndsOneBody, IsValid}
use Rattle.al_code.specs.Checks.{all_below, all_from, is_height, is_inside, holds_at, after_holds, number_in_range, local_in_range, bound_in_range, is_step, lands_at, lands, is_sound, is_start, ends_at, is_placed, is_right, is_right_at, stays, stays_at, is_function, is_function_in, is_function_at, is_loop, is_iteration_end, is_home, is_body, is_body_in, is_body_at, is_valid}

-- ---- tests

and_parts : (a b : Bool) → (a && b) ≡ true → (a ≡ true) × (b ≡ true)
and_parts true true e = (refl, refl)
and_parts true false e = absurd cc
and_parts false b e = absurd cc

and_both : {a b : Bool} → a ≡ true → b ≡ true → (a && b) ≡ true
and_both p q = rw (p, q) refl

some_is : {A : Type 0} {x y : A} → Some x ≡ Some y → x ≡ y
some_is e = cc

below_true : (n : ℕ) (t : ℕ → Bool) → all_below n t ≡ true → (k : ℕ) → k < n → t k ≡ true
below_true zero t e k lt = absurd (omega arith)
below_true (suc n) t e k lt =
    let q = and_parts (all_below n t) (t n) e in
    ⊎_elim (λ lt. below_true n t q.0 k lt) (λ le. let same : n ≡ k = omega arith in subst (λ k. t k ≡ true) same q.1) (cases_lt k n)

true_below : (n : ℕ) (t : ℕ → Bool) → ((k : ℕ) → k < n → t k ≡ true) → all_below n t ≡ true
true_below zero t h = refl
true_below (suc n) t h = and_both (true_below n t (λ k lt. h k (omega arith))) (h n (omega arith))

from_true : (start n : ℕ) (t : ℕ → Bool) → all_from start n t ≡ true → (k : ℕ) → start ≤ k → k < start + n → t k ≡ true
from_true start zero t e k le lt = absurd (omega arith)
from_true start (suc n) t e k le lt =
    let q = and_parts (all_from start n t) (t (start + n)) e in
    ⊎_elim (λ lt. from_true start n t q.0 k le lt) (λ le. let same : start + n ≡ k = omega arith in subst (λ k. t k ≡ true) same q.1) (cases_lt k (start + n))

true_from : (start n : ℕ) (t : ℕ → Bool) → ((k : ℕ) → start ≤ k → k < start + n → t k ≡ true) → all_from start n t ≡ true
true_from start zero t h = refl
true_from start (suc n) t h = and_both (true_from start n t (λ k le lt. h k le (omega arith))) (h (start + n) (omega arith) (omega arith))

list_true : {P : ℕ → Type 0} (t : ℕ → Bool) → ((q : ℕ) → t q ≡ true → P q) → (qs : List ℕ) → list_all t qs ≡ true → AllByRecursion P qs
list_true t h [] e = tt
list_true t h (q ∷ qs) e = let p = and_parts (t q) (list_all t qs) e in (h q p.0, list_true t h qs p.1)

true_list : {P : ℕ → Type 0} (t : ℕ → Bool) → ((q : ℕ) → P q → t q ≡ true) → (qs : List ℕ) → AllByRecursion P qs → list_all t qs ≡ true
true_list t h [] all = refl
true_list t h (q ∷ qs) all = and_both (h q all.0) (true_list t h qs all.1)

height_is : (o : Option ℕ) (h : ℕ) → is_height o h ≡ true → o ≡ Some h
height_is (Some k) h e = ap Some (eqb-true k h e)
height_is None h e = absurd cc

is_the_height : (o : Option ℕ) (h : ℕ) → o ≡ Some h → is_height o h ≡ true
is_the_height (Some k) h e = eq-eqb k h (some_is e)
is_the_height None h e = absurd cc

inside_is : (e : Entry) (q : ℕ) → is_inside e q ≡ true → IsIn e q
inside_is e q t = let p = and_parts (nat_le e.start q) (nat_lt q e.end) t in (leb-true e.start q p.0, ltb-true q e.end p.1)

is_the_inside : (e : Entry) (q : ℕ) → IsIn e q → is_inside e q ≡ true
is_the_inside e q h = and_both (le-leb e.start q h.0) (lt-ltb q e.end h.1)

step_is : (o : Option Instr) → is_step o ≡ true → o ≡ Some i.Step
step_is (Some i.Step) e = refl
step_is (Some _) e = absurd cc
step_is None e = absurd cc

loop_is : (k : ℕ) (o : Option Instr) → is_loop k o ≡ true → o ≡ Some (i.Loop k)
loop_is k (Some (i.Loop j)) e = ap (λ j. Some (i.Loop j)) (eqb-true j k e)
loop_is k (Some _) e = absurd cc
loop_is k None e = absurd cc

end_is : (o : Option Instr) → is_iteration_end o ≡ true → o ≡ Some i.EndIteration
end_is (Some i.EndIteration) e = refl
end_is (Some _) e = absurd cc
end_is None e = absurd cc

-- ---- numbers

module _ (code : Code) where
  number_true : (x : Instr) → number_in_range code x ≡ true → NumberInRange code x
  number_true (i.Global k) e = ltb-true k (length code.globals) e
  number_true (i.Call f) e = ltb-true f (length code.funcs) e
  number_true (i.Print k) e = ltb-true k (length code.texts) e
  number_true (i.Loop k) e = ltb-true k (length code.loops) e
  number_true _ e = tt

  true_number : (x : Instr) → NumberInRange code x → number_in_range code x ≡ true
  true_number (i.Global k) h = lt-ltb k (length code.globals) h
  true_number (i.Call f) h = lt-ltb f (length code.funcs) h
  true_number (i.Print k) h = lt-ltb k (length code.texts) h
  true_number (i.Loop k) h = lt-ltb k (length code.loops) h
  true_number _ h = refl

  local_true : (locals : ℕ) (x : Instr) → local_in_range locals x ≡ true → LocalInRange locals x
  local_true locals (i.GetLocal k) e = ltb-true k locals e
  local_true locals (i.SetLocal k) e = ltb-true k locals e
  local_true locals _ e = tt

  true_local : (locals : ℕ) (x : Instr) → LocalInRange locals x → local_in_range locals x ≡ true
  true_local locals (i.GetLocal k) h = lt-ltb k locals h
  true_local locals (i.SetLocal k) h = lt-ltb k locals h
  true_local locals _ h = refl

  bound_true : (locals : ℕ) (b : Bound) → bound_in_range locals b ≡ true → BoundInRange locals b
  bound_true locals (bound.Number n) e = tt
  bound_true locals (bound.Local k) e = ltb-true k locals e

  true_bound : (locals : ℕ) (b : Bound) → BoundInRange locals b → bound_in_range locals b ≡ true
  true_bound locals (bound.Number n) h = refl
  true_bound locals (bound.Local k) h = lt-ltb k locals h

  -- ---- jumps

  lands_true : (place q : ℕ) → lands_at code place q ≡ true → q ≤ place → slice_get code.instrs q ≡ Some i.Step
  lands_true place q e le = by (nat_lt place q) refl e
    where
      by : (b : Bool) → nat_lt place q ≡ b → (b || is_step (slice_get code.instrs q)) ≡ true → slice_get code.instrs q ≡ Some i.Step
      by true is e = let lt = ltb-true place q is in absurd (omega arith)
      by false is e = step_is (slice_get code.instrs q) e

  true_lands : (place q : ℕ) → (q ≤ place → slice_get code.instrs q ≡ Some i.Step) → lands_at code place q ≡ true
  true_lands place q h =
      ⊎_elim
      (λ lt. ap (λ b. b || is_step (slice_get code.instrs q)) (lt-ltb place q lt))
      (λ le. by (nat_lt place q) (ap is_step (h le)))
      (cases_lt place q)
    where
      by : (b : Bool) → is_step (slice_get code.instrs q) ≡ true → (b || is_step (slice_get code.instrs q)) ≡ true
      by true e = refl
      by false e = e

  back_true : (place : ℕ) (x : Instr) → lands code place x ≡ true → AllByRecursion (λ q. q ≤ place → slice_get code.instrs q ≡ Some i.Step) (jumps x)
  back_true place (i.Jump to) e = (lands_true place to e, tt)
  back_true place (i.JumpIf b to) e = (lands_true place to e, tt)
  back_true place _ e = tt

  true_back : (place : ℕ) (x : Instr) → AllByRecursion (λ q. q ≤ place → slice_get code.instrs q ≡ Some i.Step) (jumps x) → lands code place x ≡ true
  true_back place (i.Jump to) h = true_lands place to h.0
  true_back place (i.JumpIf b to) h = true_lands place to h.0
  true_back place _ h = refl

  -- ---- an instruction

  sound_true : (place : ℕ) (x : Instr) (h : ℕ) → is_sound code place x h ≡ true → IsSound code place x h
  unfolding is_sound after_holds
  sound_true place x h e =
      let left = h - takes code x + puts x in
      let d = and_parts (nat_le (takes code x) h && number_in_range code x && after_holds code place x (Height left)) (lands code place x) e in
      let c = and_parts (nat_le (takes code x) h && number_in_range code x) (after_holds code place x (Height left)) d.0 in
      let b = and_parts (nat_le (takes code x) h) (number_in_range code x) c.0 in
      record {
        operands = leb-true (takes code x) h b.0;
        number = number_true x b.1;
        heights = list_true (holds_at code (Height left)) (λ q t. height_is (slice_get code.heights q) left t) (places_after code place x) c.1;
        back = back_true place x d.1;
      }

  true_sound : (place : ℕ) (x : Instr) (h : ℕ) → IsSound code place x h → is_sound code place x h ≡ true
  unfolding is_sound after_holds
  true_sound place x h s =
      let left = h - takes code x + puts x in
      and_both (and_both (and_both (le-leb (takes code x) h s.operands) (true_number x s.number))
      (true_list (holds_at code (Height left)) (λ q p. is_the_height (slice_get code.heights q) left p) (places_after code place x) s.heights))
      (true_back place x s.back)

-- ---- one of a list

module _ {A : Type 0} (p : A → Bool) where
  counts : (x : A) (xs : List A) → count_by p (x ∷ xs) ≡ cond (p x) 1 0 + count_by p xs
  counts x xs = sum_by-cons (λ x. cond (p x) 1 0) x xs

  count_zero : (xs : List A) → count_by p xs ≡ 0 → (k : ℕ) (x : A) → slice_get xs k ≡ Some x → p x ≡ true → ⊥
  count_zero [] e k x at t = absurd cc
  count_zero (y ∷ xs) e zero x at t =
      let yes : p y ≡ true = ap p (some_is at) ∙ t in
      let c : count_by p (y ∷ xs) ≡ 1 + count_by p xs = counts y xs ∙ ap (λ b. cond b 1 0 + count_by p xs) yes in
      absurd (omega arith)
  count_zero (y ∷ xs) e (suc k) x at t = let c = counts y xs in count_zero xs (omega arith) k x at t

  zero_count : (xs : List A) → ((k : ℕ) (x : A) → slice_get xs k ≡ Some x → p x ≡ true → ⊥) → count_by p xs ≡ 0
  zero_count [] h = refl
  zero_count (y ∷ xs) h = by (p y) refl (zero_count xs (λ k x at t. h (suc k) x at t))
    where
      by : (b : Bool) → p y ≡ b → count_by p xs ≡ 0 → count_by p (y ∷ xs) ≡ 0
      by true is rest = absurd (h 0 y refl is)
      by false is rest =
          let c : count_by p (y ∷ xs) ≡ 0 + count_by p xs = counts y xs ∙ ap (λ b. cond b 1 0 + count_by p xs) is in
          omega arith

  record One (xs : List A) : Type 0 where
    at : ℕ
    one : A
    has : slice_get xs at ≡ Some one
    is : p one ≡ true
    only : (k : ℕ) (x : A) → slice_get xs k ≡ Some x → p x ≡ true → k ≡ at

  count_one : (xs : List A) → count_by p xs ≡ 1 → One xs
  count_one [] e = absurd (omega arith)
  count_one (y ∷ xs) e = by (p y) refl (count_one xs)
    where
      by : (b : Bool) → p y ≡ b → (count_by p xs ≡ 1 → One xs) → One (y ∷ xs)
      by true is more =
          let c : count_by p (y ∷ xs) ≡ 1 + count_by p xs = counts y xs ∙ ap (λ b. cond b 1 0 + count_by p xs) is in
          let none : count_by p xs ≡ 0 = omega arith in
          record { at = 0; one = y; has = refl; is = is; only = first none }
        where
          first : count_by p xs ≡ 0 → (k : ℕ) (x : A) → slice_get (y ∷ xs) k ≡ Some x → p x ≡ true → k ≡ 0
          first none zero x at t = refl
          first none (suc k) x at t = absurd (count_zero xs none k x at t)
      by false is more =
          let c : count_by p (y ∷ xs) ≡ 0 + count_by p xs = counts y xs ∙ ap (λ b. cond b 1 0 + count_by p xs) is in
          let r = more (omega arith) in
          record { at = suc r.at; one = r.one; has = r.has; is = r.is; only = later r }
        where
          no : true ≡ false → ⊥
          no e = absurd cc

          later : (r : One xs) (k : ℕ) (x : A) → slice_get (y ∷ xs) k ≡ Some x → p x ≡ true → k ≡ suc r.at
          later r zero x at t = absurd (no (sym t ∙ ap p (sym (some_is at)) ∙ is))
          later r (suc k) x at t = ap suc (r.only k x at t)

  one_count : (xs : List A) (at : ℕ) (one : A) → slice_get xs at ≡ Some one → p one ≡ true
      → ((k : ℕ) (x : A) → slice_get xs k ≡ Some x → p x ≡ true → k ≡ at) → count_by p xs ≡ 1
  one_count [] at one has is only = absurd cc
  one_count (y ∷ xs) zero one has is only =
      let yes : p y ≡ true = ap p (some_is has) ∙ is in
      let c : count_by p (y ∷ xs) ≡ 1 + count_by p xs = counts y xs ∙ ap (λ b. cond b 1 0 + count_by p xs) yes in
      let rest : count_by p xs ≡ 0 = zero_count xs (λ k x at t. let e = only (suc k) x at t in absurd (omega arith)) in
      omega arith
  one_count (y ∷ xs) (suc n) one has is only = by (p y) refl (one_count xs n one has is (λ k x at t. let e = only (suc k) x at t in omega arith))
    where
      by : (b : Bool) → p y ≡ b → count_by p xs ≡ 1 → count_by p (y ∷ xs) ≡ 1
      by true t rest = let e = only 0 y refl t in absurd (omega arith)
      by false t rest =
          let c : count_by p (y ∷ xs) ≡ 0 + count_by p xs = counts y xs ∙ ap (λ b. cond b 1 0 + count_by p xs) t in
          omega arith

module _ (code : Code) where
  one_ends : (place : ℕ) → ends_at code (suc place) ≡ true → EndsOneBody code place
  unfolding ends_at
  one_ends place e =
      let o = count_one (λ (b : Body). b.end == suc place) code.bodies (eqb-true (count_by (λ (b : Body). b.end == suc place) code.bodies) 1 e) in
      record {
        loop = o.at;
        body = o.one;
        has = o.has;
        is = eqb-true o.one.end (suc place) o.is;
        only = λ k b has is. o.only k b has (eq-eqb b.end (suc place) is);
      }

  ends_one : (place : ℕ) → EndsOneBody code place → ends_at code (suc place) ≡ true
  unfolding ends_at
  ends_one place h =
      eq-eqb (count_by (λ (b : Body). b.end == suc place) code.bodies) 1
      (one_count (λ (b : Body). b.end == suc place) code.bodies h.loop h.body h.has (eq-eqb h.body.end (suc place) h.is)
      (λ k b has t. h.only k b has (eqb-true b.end (suc place) t)))

  -- ---- functions

  stays_true : (e : Entry) (place : ℕ) (x : Instr) → slice_get code.instrs place ≡ Some x → stays_at code e place ≡ true
      → AllByRecursion (IsIn e) (places_after code place x) × LocalInRange e.locals x
  unfolding stays_at after_holds
  stays_true e place x at t =
      let s : stays code e place (Some x) ≡ true = ap (stays code e place) (sym at) ∙ t in
      let p = and_parts (after_holds code place x (Inside e)) (local_in_range e.locals x) s in
      (list_true (holds_at code (Inside e)) (λ q t. inside_is e q t) (places_after code place x) p.0, local_true code e.locals x p.1)

  true_stays : (e : Entry) (place : ℕ)
      → ((x : Instr) → slice_get code.instrs place ≡ Some x → AllByRecursion (IsIn e) (places_after code place x) × LocalInRange e.locals x)
      → stays_at code e place ≡ true
  unfolding stays_at after_holds
  true_stays e place h = by (slice_get code.instrs place) refl
    where
      by : (o : Option Instr) → slice_get code.instrs place ≡ o → stays code e place o ≡ true
      by None is = refl
      by (Some x) is =
          let p = h x is in
          and_both (true_list (holds_at code (Inside e)) (λ q t. is_the_inside e q t) (places_after code place x) p.0) (true_local code e.locals x p.1)

  function_true : (e : Entry) → is_function code e ≡ true → IsFunction code e
  unfolding is_function
  function_true e t =
      let h = is_height (slice_get code.heights e.start) 0 in
      let all = all_from e.start (e.end - e.start) (stays_at code e) in
      let d = and_parts (nat_lt e.start e.end && nat_le e.end (length code.instrs) && nat_le e.params e.locals && h) all t in
      let c = and_parts (nat_lt e.start e.end && nat_le e.end (length code.instrs) && nat_le e.params e.locals) h d.0 in
      let b = and_parts (nat_lt e.start e.end && nat_le e.end (length code.instrs)) (nat_le e.params e.locals) c.0 in
      let a = and_parts (nat_lt e.start e.end) (nat_le e.end (length code.instrs)) b.0 in
      let begins = ltb-true e.start e.end a.0 in
      record {
        begins = begins;
        within = leb-true e.end (length code.instrs) a.1;
        params = leb-true e.params e.locals b.1;
        height = height_is (slice_get code.heights e.start) 0 c.1;
        stays = λ place x is at.
            let hi = is.1 in
            stays_true e place x at (from_true e.start (e.end - e.start) (stays_at code e) d.1 place is.0 (omega arith));
      }

  true_function : (e : Entry) → IsFunction code e → is_function code e ≡ true
  unfolding is_function
  true_function e f =
      let begins = f.begins in
      and_both (and_both (and_both (and_both (lt-ltb e.start e.end f.begins) (le-leb e.end (length code.instrs) f.within))
      (le-leb e.params e.locals f.params))
      (is_the_height (slice_get code.heights e.start) 0 f.height))
      (true_from e.start (e.end - e.start) (stays_at code e) (λ place le lt. true_stays e place (λ x at. f.stays place x (le, omega arith) at)))

  -- ---- bodies

  module _ (k : ℕ) (info : LoopInfo) (b : Body) where
    home_true : (place : ℕ) (o : Option Entry) → is_home info place o ≡ true
        → (e : Entry) × (o ≡ Some e) × IsIn e place × (info.counter < e.locals) × BoundInRange e.locals info.bound
    home_true place None t = absurd cc
    home_true place (Some e) t =
        let c = and_parts (is_inside e place && nat_lt info.counter e.locals) (bound_in_range e.locals info.bound) t in
        let a = and_parts (is_inside e place) (nat_lt info.counter e.locals) c.0 in
        (e, refl, inside_is e place a.0, ltb-true info.counter e.locals a.1, bound_true code e.locals info.bound c.1)

    body_true : is_body code k info b ≡ true → ((q : ℕ) → slice_get code.instrs q ≡ Some (i.Loop k) → b.start ≡ suc q) → IsBody code k info b
    unfolding is_body
    body_true t once =
        let place = b.start - 1 in
        let h1 = is_height (slice_get code.heights b.start) 0 in
        let h2 = is_height (slice_get code.heights b.end) 0 in
        let l = is_loop k (slice_get code.instrs place) in
        let m = is_home info place (slice_get code.funcs info.func) in
        let n = is_iteration_end (slice_get code.instrs (b.end - 1)) in
        let f = and_parts (nat_lt 0 b.start && l && m && nat_lt b.start b.end && n && h1) h2 t in
        let e = and_parts (nat_lt 0 b.start && l && m && nat_lt b.start b.end && n) h1 f.0 in
        let d = and_parts (nat_lt 0 b.start && l && m && nat_lt b.start b.end) n e.0 in
        let c = and_parts (nat_lt 0 b.start && l && m) (nat_lt b.start b.end) d.0 in
        let a = and_parts (nat_lt 0 b.start && l) m c.0 in
        let z = and_parts (nat_lt 0 b.start) l a.0 in
        let some = ltb-true 0 b.start z.0 in
        let home = home_true place (slice_get code.funcs info.func) a.1 in
        record {
          place = place;
          stands = loop_is k (slice_get code.instrs place) z.1;
          once = λ q at. let s = once q at in omega arith;
          func = home.0;
          has_func = home.1;
          stays = home.2;
          counter = home.3;
          bound = home.4;
          starts = omega arith;
          begins = ltb-true b.start b.end c.1;
          last = end_is (slice_get code.instrs (b.end - 1)) d.1;
          start_height = height_is (slice_get code.heights b.start) 0 e.1;
          end_height = height_is (slice_get code.heights b.end) 0 f.1;
        }

    true_body : IsBody code k info b → is_body code k info b ≡ true
    unfolding is_body
    true_body h =
        let starts = h.starts in
        let before : b.start - 1 ≡ h.place = omega arith in
        let loop_here : is_loop k (slice_get code.instrs (b.start - 1)) ≡ true =
        ap (λ q. is_loop k (slice_get code.instrs q)) before ∙ ap (is_loop k) h.stands ∙ eq-eqb k k refl in
        let home_here : is_home info (b.start - 1) (slice_get code.funcs info.func) ≡ true =
        ap (λ q. is_home info q (slice_get code.funcs info.func)) before ∙ ap (is_home info h.place) h.has_func
        ∙ and_both (and_both (is_the_inside h.func h.place h.stays) (lt-ltb info.counter h.func.locals h.counter))
        (true_bound code h.func.locals info.bound h.bound) in
        and_both (and_both (and_both (and_both (and_both (and_both (lt-ltb 0 b.start (omega arith)) loop_here) home_here) (lt-ltb b.start b.end h.begins))
        (ap is_iteration_end h.last)) (is_the_height (slice_get code.heights b.start) 0 h.start_height))
        (is_the_height (slice_get code.heights b.end) 0 h.end_height)

  -- ---- the whole

  right_at : (place : ℕ) (x : Instr) (h : ℕ) → slice_get code.instrs place ≡ Some x → slice_get code.heights place ≡ Some h → is_right_at code place ≡ true
      → (is_sound code place x h ≡ true) × (is_placed code place x ≡ true)
  unfolding is_right_at
  right_at place x h at high t =
      let s : is_right code place (Some x) (Some h) ≡ true = (λ j. is_right code place (sym at j) (sym high j)) ∙ t in
      and_parts (is_sound code place x h) (is_placed code place x) s

  height_there : length code.heights ≡ length code.instrs → (place : ℕ) (x : Instr) → slice_get code.instrs place ≡ Some x
      → (h : ℕ) × (slice_get code.heights place ≡ Some h)
  height_there sizes place x at = let lt = slice_get_within code.instrs place x at in there code.heights place (omega arith)
    where
      there : (xs : List ℕ) (n : ℕ) → n < length xs → (h : ℕ) × (slice_get xs n ≡ Some h)
      there [] n lt = absurd (omega arith)
      there (x ∷ xs) zero lt = (x, refl)
      there (x ∷ xs) (suc n) lt = there xs n (omega arith)

  function_in : (n : ℕ) (x : Entry) → slice_get code.funcs n ≡ Some x → is_function_at code n ≡ true → is_function code x ≡ true
  unfolding is_function_at
  function_in n x at t = ap (is_function_in code) (sym at) ∙ t

  body_in : (k : ℕ) (info : LoopInfo) (b : Body) → slice_get code.loops k ≡ Some info → slice_get code.bodies k ≡ Some b → is_body_at code k ≡ true
      → is_body code k info b ≡ true
  unfolding is_body_at
  body_in k info b at bt t = (λ j. is_body_in code k (sym at j) (sym bt j)) ∙ t

  pub valid_true : is_valid code ≡ true → IsValid code
  unfolding is_valid
  valid_true t =
      let f1 = all_below (length code.funcs) (is_function_at code) in
      let f2 = all_below (length code.instrs) (is_right_at code) in
      let f3 = all_below (length code.loops) (is_body_at code) in
      let g = and_parts ((length code.lines == length code.instrs) && (length code.heights == length code.instrs)
      && (length code.bodies == length code.loops) && nat_lt code.main (length code.funcs) && f1 && f2) f3 t in
      let f = and_parts ((length code.lines == length code.instrs) && (length code.heights == length code.instrs)
      && (length code.bodies == length code.loops) && nat_lt code.main (length code.funcs) && f1) f2 g.0 in
      let e = and_parts ((length code.lines == length code.instrs) && (length code.heights == length code.instrs)
      && (length code.bodies == length code.loops) && nat_lt code.main (length code.funcs)) f1 f.0 in
      let d = and_parts ((length code.lines == length code.instrs) && (length code.heights == length code.instrs)
      && (length code.bodies == length code.loops)) (nat_lt code.main (length code.funcs)) e.0 in
      let c = and_parts ((length code.lines == length code.instrs) && (length code.heights == length code.instrs))
      (length code.bodies == length code.loops) d.0 in
      let b = and_parts (length code.lines == length code.instrs) (length code.heights == length code.instrs) c.0 in
      let heights = eqb-true (length code.heights) (length code.instrs) b.1 in
      record {
        lines = eqb-true (length code.lines) (length code.instrs) b.0;
        heights = heights;
        bodies = eqb-true (length code.bodies) (length code.loops) c.1;
        main = ltb-true code.main (length code.funcs) d.1;
        functions = λ n x at. function_true x (function_in n x at (below_true (length code.funcs) (is_function_at code) e.1 n
            (slice_get_within code.funcs n x at)));
        instrs = λ place x h at high.
            sound_true code place x h (right_at place x h at high (below_true (length code.instrs) (is_right_at code) f.1 place
            (slice_get_within code.instrs place x at))).0;
        loops = λ k info b has has_body.
            body_true k info b
            (body_in k info b has has_body (below_true (length code.loops) (is_body_at code) g.1 k (slice_get_within code.loops k info has)))
            (λ q at.
            let high = height_there heights q (i.Loop k) at in
            starts_so k b q has_body
            (right_at q (i.Loop k) high.0 at high.1 (below_true (length code.instrs) (is_right_at code) f.1 q (slice_get_within code.instrs q
            (i.Loop k) at))).1);
        ends = λ place at.
            let high = height_there heights place i.EndIteration at in
            one_ends place
            (right_at place i.EndIteration high.0 at high.1
            (below_true (length code.instrs) (is_right_at code) f.1 place (slice_get_within code.instrs place i.EndIteration at))).1;
      }
    where
      starts_so : (k : ℕ) (b : Body) (q : ℕ) → slice_get code.bodies k ≡ Some b → is_placed code q (i.Loop k) ≡ true → b.start ≡ suc q
      starts_so k b q at t = eqb-true b.start (suc q) (ap (λ o. is_start o (suc q)) (sym at) ∙ t)

  true_right : IsValid code → (place : ℕ) → is_right_at code place ≡ true
  unfolding is_right_at
  true_right v place = by (slice_get code.instrs place) (slice_get code.heights place) refl refl
    where
      placed : (x : Instr) → slice_get code.instrs place ≡ Some x → is_placed code place x ≡ true
      placed (i.Loop k) at = body_at (slice_get code.bodies k) refl
        where
          body_at : (o : Option Body) → slice_get code.bodies k ≡ o → is_start o (suc place) ≡ true
          body_at None is = refl
          body_at (Some b) is =
              let within = slice_get_within code.bodies k b is in
              let sizes = v.bodies in
              let info = there code.loops k (omega arith) in
              let h = v.loops k info.0 b info.1 is in
              let same = h.once place at in
              let starts = h.starts in
              eq-eqb b.start (suc place) (omega arith)
            where
              there : (xs : List LoopInfo) (n : ℕ) → n < length xs → (x : LoopInfo) × (slice_get xs n ≡ Some x)
              there [] n lt = absurd (omega arith)
              there (x ∷ xs) zero lt = (x, refl)
              there (x ∷ xs) (suc n) lt = there xs n (omega arith)
      placed i.EndIteration at = ends_one place (v.ends place at)
      placed _ at = refl

      by : (o : Option Instr) (h : Option ℕ) → slice_get code.instrs place ≡ o → slice_get code.heights place ≡ h → is_right code place o h ≡ true
      by (Some x) (Some h) at high = and_both (true_sound code place x h (v.instrs place x h at high)) (placed x at)
      by (Some x) None at high = refl
      by None h at high = refl

  true_function_at : IsValid code → (n : ℕ) → is_function_at code n ≡ true
  unfolding is_function_at
  true_function_at v n = by (slice_get code.funcs n) refl
    where
      by : (o : Option Entry) → slice_get code.funcs n ≡ o → is_function_in code o ≡ true
      by None at = refl
      by (Some e) at = true_function e (v.functions n e at)

  true_body_at : IsValid code → (k : ℕ) → is_body_at code k ≡ true
  unfolding is_body_at
  true_body_at v k = by (slice_get code.loops k) (slice_get code.bodies k) refl refl
    where
      by : (o : Option LoopInfo) (b : Option Body) → slice_get code.loops k ≡ o → slice_get code.bodies k ≡ b → is_body_in code k o b ≡ true
      by (Some info) (Some b) at bt = true_body k info b (v.loops k info b at bt)
      by (Some info) None at bt = refl
      by None b at bt = refl

  pub true_valid : IsValid code → is_valid code ≡ true
  unfolding is_valid
  true_valid v =
      and_both (and_both (and_both (and_both (and_both (and_both (eq-eqb (length code.lines) (length code.instrs) v.lines)
      (eq-eqb (length code.heights) (length code.instrs) v.heights)) (eq-eqb (length code.bodies) (length code.loops) v.bodies))
      (lt-ltb code.main (length code.funcs) v.main)) (true_below (length code.funcs) (is_function_at code) (λ n lt. true_function_at v n)))
      (true_below (length code.instrs) (is_right_at code) (λ n lt. true_right v n)))
      (true_below (length code.loops) (is_body_at code) (λ n lt. true_body_at v n))
