-- What comes before the first instruction.
use Rattle.std.proofs.Common.{◌≡◌, ℕ, suc, Option, Err, sym, ap, ◌∙◌}
use Rattle.std.specs.Prelude.{ℤ}
use Rattle.al_core.specs.declared.values.Val.TheVariants.{Int}
use Rattle.al_core.specs.declared.values.Trap.TheVariants as trap
use Rattle.al_core.specs.Action.{State, Answer, Act, after, bind, spend, spend_from, set_local, ◌>>◌}
use Rattle.al_core.specs.Access.{Content, in_iteration}
use Rattle.al_code.specs.Runs.{Stop}
use Rattle.al_exec.specs.declared.machine.Machine.{Machine}
use Rattle.al_exec.specs.declared.machine.Start.TheVariants as start
use Rattle.al_exec.specs.Active.{Active}
use Rattle.al_exec.specs.Machines.{state_in}
use Rattle.al_exec.specs.Going.{begin_with}

module _ (m : Machine) (w : Content) (run : ℕ → Act Content (Option Stop)) (n : ℕ) where
  unpaid_act : (line : ℕ) (next : Act Content (Option Stop)) → m.active.budget ≡ 0
      → (spend line >> next) (state_in m w) ≡ (Err (trap.Steps, line), state_in m w)
  unfolding bind spend
  unpaid_act line next none =
      ap (λ k. after (spend_from line k (state_in m w)).0 (spend_from line k (state_in m w)).1 (λ u. next)) none

  paid_act : (line left : ℕ) (next : Act Content (Option Stop)) → m.active.budget ≡ suc left
      → (spend line >> next) (state_in m w) ≡ next (record (state_in m w) { budget = left })
  unfolding bind spend
  paid_act line left next some =
      ap (λ k. after (spend_from line k (state_in m w)).0 (spend_from line k (state_in m w)).1 (λ u. next)) some

  pub function_unpaid : (line : ℕ) → m.start ≡ start.Function line → m.active.budget ≡ 0
      → begin_with m.start run n (state_in m w) ≡ (Err (trap.Steps, line), state_in m w)
  function_unpaid line is none = ap (λ s. begin_with s run n (state_in m w)) is ∙ unpaid_act line (run n) none

  pub function_paid : (line left : ℕ) → m.start ≡ start.Function line → m.active.budget ≡ suc left
      → begin_with m.start run n (state_in m w) ≡ run n (record (state_in m w) { budget = left })
  function_paid line left is some = ap (λ s. begin_with s run n (state_in m w)) is ∙ paid_act line left (run n) some

  pub iteration_unpaid : (line counter : ℕ) (v : ℤ) → m.start ≡ start.Iteration line counter v → m.active.budget ≡ 0
      → begin_with m.start run n (state_in m w) ≡ (Err (trap.Steps, line), state_in m w)
  iteration_unpaid line counter v is none = ap (λ s. begin_with s run n (state_in m w)) is ∙ unpaid_act line _ none

  pub iteration_goes : (line counter : ℕ) (v : ℤ) (left : ℕ) (r : Answer (Unit {0}) × State Content) → m.start ≡ start.Iteration line counter v
      → m.active.budget ≡ suc left → set_local in_iteration counter (Int v) line (record (state_in m w) { budget = left }) ≡ r
      → begin_with m.start run n (state_in m w) ≡ after r.0 r.1 (λ u. run n)
  unfolding bind
  iteration_goes line counter v left r is some did =
      ap (λ s. begin_with s run n (state_in m w)) is ∙ paid_act line left _ some
      ∙ ap (λ (r : Answer (Unit {0}) × State Content). after r.0 r.1 (λ u. run n)) did

-- only locals and steps were changed
pub changed : (s s1 s2 : Active) → s1 ≡ record s { budget = s1.budget } → s2 ≡ record s1 { locals = s2.locals }
    → s2 ≡ record s { locals = s2.locals; budget = s2.budget }
changed s s1 s2 spent kept =
    let steps : s2.budget ≡ s1.budget = ap (λ (s : Active). s.budget) kept in
    kept ∙ ap (λ (s : Active). record s { locals = s2.locals }) spent ∙ (λ j. record s { locals = s2.locals; budget = sym steps j })
