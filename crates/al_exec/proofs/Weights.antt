-- Where an instruction goes, and that what may still be done becomes less.
use Rattle.std.proofs.Common.{◌≡◌, ℕ, suc, ◌+◌, ◌-◌, ◌*◌, ◌<◌, ◌≤◌, Bool, true, false, length, Some, sym, ap, ◌∙◌, subst, ⊎_elim, arith, add-one}
use Rattle.std.specs.Prelude.{slice_get}
use Rattle.std.proofs.lemmas.Bool.{cases_lt}
use Rattle.std.proofs.Math.Nat.{mul-le-mul_left}
use Rattle.std.specs.List.{AllByRecursion}
use Rattle.al_code.specs.declared.instructions.Instr.{Instr}
use Rattle.al_code.specs.declared.instructions.Instr.TheVariants as i
use Rattle.al_code.specs.declared.lowered.Code.{Code}
use Rattle.al_code.specs.Checks.{is_step}
use Rattle.al_code.specs.Valid.{places_after, jumps}
use Rattle.al_exec.specs.Meets.{GoesTo, Spends}
use Rattle.al_exec.specs.Running.{rest, weight}

module _ (code : Code) (place p : ℕ) (P : ℕ → Type 0) where
  after_this : P (suc place) → p ≡ place + 1 → P p
  after_this h e = subst P (sym (e ∙ add-one place)) h

  -- it goes to a place that may come next
  pub lands_on : (x : Instr) → AllByRecursion P (places_after code place x) → GoesTo place x p → P p
  lands_on (i.Push n) all e = after_this all.0 e
  lands_on (i.GetLocal k) all e = after_this all.0 e
  lands_on (i.SetLocal k) all e = after_this all.0 e
  lands_on (i.Global k) all e = after_this all.0 e
  lands_on i.NotNull all e = after_this all.0 e
  lands_on (i.Plus n) all e = after_this all.0 e
  lands_on (i.Elem n) all e = after_this all.0 e
  lands_on (i.Load want) all e = after_this all.0 e
  lands_on i.Store all e = after_this all.0 e
  lands_on i.Dup all e = after_this all.0 e
  lands_on i.Drop all e = after_this all.0 e
  lands_on (i.Unary op) all e = after_this all.0 e
  lands_on i.Truth all e = after_this all.0 e
  lands_on (i.Binary op) all e = after_this all.0 e
  lands_on (i.Same b) all e = after_this all.0 e
  lands_on (i.Choose op) all e = after_this all.0 e
  lands_on (i.Jump to) all e = subst P (sym e) all.0
  lands_on (i.JumpIf b to) all e = ⊎_elim (λ e. subst P (sym e) all.0) (after_this all.1.0) e
  lands_on (i.Call f) all e = absurd e
  lands_on i.Return all e = absurd e
  lands_on i.Input all e = after_this all.0 e
  lands_on i.Inputs all e = after_this all.0 e
  lands_on (i.Calloc n) all e = after_this all.0 e
  lands_on i.Free all e = after_this all.0 e
  lands_on (i.Print k) all e = after_this all.0 e
  lands_on i.Step all e = after_this all.0 e
  lands_on (i.Loop k) all e = absurd e
  lands_on i.EndIteration all e = absurd e

-- ---- what may still be done

rest_within : (b : Bool) (n p : ℕ) → rest b n p ≤ suc n
rest_within true n p = omega arith
rest_within false n p = omega arith

rest_forward : (b : Bool) (n place p : ℕ) → place < n → place < p → rest b n p < suc (n - place)
rest_forward true n place p within h = omega arith
rest_forward false n place p within h = omega arith

-- with less to spend
lighter : (n steps left x y : ℕ) → left < steps → x ≤ suc n → left * (n + 2) + x < steps * (n + 2) + y
lighter n steps left x y less le =
    let m : suc left * (n + 2) ≤ steps * (n + 2) = grind (arith, mul-le-mul_left) in
    let e : suc left * (n + 2) ≡ left * (n + 2) + (n + 2) = omega arith in
    omega (arith, m, e, le)

-- with as much to spend
nearer : (n steps left x y : ℕ) → left ≡ steps → x < y → left * (n + 2) + x < steps * (n + 2) + y
nearer n steps left x y is h =
    let e : left * (n + 2) ≡ steps * (n + 2) = ap (λ k. k * (n + 2)) is in
    omega (arith, h, e)

-- with less to spend it is less, wherever that is
pub spent : (code : Code) (place p steps left : ℕ) → left < steps → weight code left p < weight code steps place
spent code place p steps left less =
    lighter (length code.instrs) steps left _ _ less (rest_within (is_step (slice_get code.instrs p)) (length code.instrs) p)

module _ (code : Code) (place p n m e : ℕ) where
  abbrev steps : ℕ
  steps = 2 * n + e

  abbrev left : ℕ
  left = 2 * m + e

  same : m ≡ n → left ≡ steps
  same is = ap (λ k. 2 * k + e) is

  abbrev size : ℕ
  size = length code.instrs

  forward : place < size → place < p → m ≡ n → weight code left p < steps * (size + 2) + suc (size - place)
  forward within h is =
      nearer size steps left (rest (is_step (slice_get code.instrs p)) size p) (suc (size - place)) (same is)
      (rest_forward (is_step (slice_get code.instrs p)) size place p within h)

  to_step : slice_get code.instrs p ≡ Some i.Step → m ≡ n → weight code left p < steps * (size + 2) + suc (size - place)
  to_step at is =
      nearer size steps left (rest (is_step (slice_get code.instrs p)) size p) (suc (size - place)) (same is)
      (let f : rest (is_step (slice_get code.instrs p)) size p ≡ 0 = ap (λ o. rest (is_step o) size p) at in omega (arith, f))

  jumped : (to : ℕ) → place < size → (to ≤ place → slice_get code.instrs to ≡ Some i.Step) → p ≡ to → m ≡ n
      → weight code left p < steps * (size + 2) + suc (size - place)
  jumped to within back g is =
      ⊎_elim (λ h. forward within (omega (arith, h, g)) is) (λ h. to_step (ap (slice_get code.instrs) g ∙ back h) is) (cases_lt place to)

  onward : place < size → p ≡ place + 1 → m ≡ n → weight code left p < steps * (size + 2) + suc (size - place)
  onward within g is = forward within (omega (arith, g)) is

  falls_at : (x : Instr) → place < size → AllByRecursion (λ q. q ≤ place → slice_get code.instrs q ≡ Some i.Step) (jumps x)
      → GoesTo place x p → Spends x n m
      → weight code left p < steps * (size + 2) + rest (is_step (Some x)) size place
  falls_at (i.Push n) within back g is = onward within g is
  falls_at (i.GetLocal k) within back g is = onward within g is
  falls_at (i.SetLocal k) within back g is = onward within g is
  falls_at (i.Global k) within back g is = onward within g is
  falls_at i.NotNull within back g is = onward within g is
  falls_at (i.Plus n) within back g is = onward within g is
  falls_at (i.Elem n) within back g is = onward within g is
  falls_at (i.Load want) within back g is = onward within g is
  falls_at i.Store within back g is = onward within g is
  falls_at i.Dup within back g is = onward within g is
  falls_at i.Drop within back g is = onward within g is
  falls_at (i.Unary op) within back g is = onward within g is
  falls_at i.Truth within back g is = onward within g is
  falls_at (i.Binary op) within back g is = onward within g is
  falls_at (i.Same b) within back g is = onward within g is
  falls_at (i.Choose op) within back g is = onward within g is
  falls_at (i.Jump to) within back g is = jumped to within back.0 g is
  falls_at (i.JumpIf b to) within back g is = ⊎_elim (λ g. jumped to within back.0 g is) (λ g. onward within g is) g
  falls_at (i.Call f) within back g is = absurd g
  falls_at i.Return within back g is = absurd g
  falls_at i.Input within back g is = onward within g is
  falls_at i.Inputs within back g is = onward within g is
  falls_at (i.Calloc n) within back g is = onward within g is
  falls_at i.Free within back g is = onward within g is
  falls_at (i.Print k) within back g is = onward within g is
  falls_at i.Step within back g is = lighter size steps left _ _ (omega (arith, is)) (rest_within (is_step (slice_get code.instrs p)) size p)
  falls_at (i.Loop k) within back g is = absurd g
  falls_at i.EndIteration within back g is = absurd g

  pub falls : (x : Instr) → slice_get code.instrs place ≡ Some x → place < size
      → AllByRecursion (λ q. q ≤ place → slice_get code.instrs q ≡ Some i.Step) (jumps x)
      → GoesTo place x p → Spends x n m → weight code left p < weight code steps place
  falls x at within back g is =
      subst (λ o. weight code left p < steps * (size + 2) + rest (is_step o) size place) (sym at) (falls_at x within back g is)

  -- forward from an instruction that is no step
  pub goes_forward : place < size → place < p → is_step (slice_get code.instrs place) ≡ false → m ≡ n → weight code left p < weight code steps place
  goes_forward within h plain is =
      subst (λ b. weight code left p < steps * (size + 2) + rest b size place) (sym plain) (forward within h is)
