-- Steps that are left after an answer and after a step.
use Rattle.std.proofs.Common.{◌≡◌, ℕ, zero, suc, ◌≤◌, Ok, arith}
use Rattle.al_core.specs.Action.{State, pure, spend, spend_from}
use Rattle.al_laws.specs.Budgets.{NeverAdds}

module _ {S : Type 0} where
  pub pure_never_adds : {A : Type 0} (a : A) → NeverAdds {S = S} (pure a)
  unfolding pure
  pure_never_adds a = λ s. omega arith

  spends_at : (line n : ℕ) (s : State S) (u : Unit {0}) → n ≤ s.budget → (spend_from line n s).0 ≡ Ok u → suc (spend_from line n s).1.budget ≤ s.budget
  spends_at line zero s u h e = absurd (cc)
  spends_at line (suc n) s u h e = omega arith

  -- a step is paid for
  pub step_paid : (line : ℕ) (s : State S) (u : Unit {0}) → (spend line s).0 ≡ Ok u → suc (spend line s).1.budget ≤ s.budget
  unfolding spend
  step_paid line s u e = spends_at line s.budget s u (omega arith) e
