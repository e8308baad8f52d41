-- A loop is one turn, and then the loop again: its bound on turns is never reached.
use Rattle.std.proofs.Common.{◌≡◌, ℕ, zero, suc, ◌<◌, ◌≤◌, Bool, true, false, Ok, Err, refl, sym, ap, ◌∙◌, arith}
use Rattle.std.specs.Prelude.{if◌then◌else◌}
use Rattle.al_core.specs.declared.values.Trap.TheVariants as trap
use Rattle.al_core.specs.declared.values.Val.{Val}
use Rattle.al_core.specs.Values.{truth}
use Rattle.al_core.specs.Action.{State, Answer, Act, after, bind, pure, lift, spend, spend_from, get_budget, ◌>>=◌, ◌>>◌}
use Rattle.al_core.specs.Meaning.{Flow, Next, Broke, Continued, Returned, then_flow, turn_end, turns_to, turns}
use Rattle.al_laws.specs.Budgets.{NeverAdds}
use Rattle.al_laws.specs.Turns.{one_turn, turns_before, LoopsGoOn, TurnsAreEnough}

module _ {S : Type 0} where
  -- the same from each state with so many steps at the most
  pub record Alike {A : Type 0} (b : ℕ) (p q : Act S A) : Type 0 where
    pub by : (s : State S) → s.budget ≤ b → p s ≡ q s

  alike_after : {A B : Type 0} (b : ℕ) (r : Answer A) (f g : A → Act S B) → ((a : A) → Alike b (f a) (g a)) → (s : State S) → s.budget ≤ b
      → after r s f ≡ after r s g
  alike_after b (Ok a) f g h s l = (h a).by s l
  alike_after b (Err e) f g h s l = refl

  alike_bind : {A B : Type 0} (b : ℕ) (p : Act S A) (f g : A → Act S B) → NeverAdds p → ((a : A) → Alike b (f a) (g a)) → Alike b (p >>= f) (p >>= g)
  unfolding bind
  alike_bind b p f g never h = record { by = λ s l. alike_after b (p s).0 f g h (p s).1 (omega (arith, never s, l)) }

  alike_itself : {A : Type 0} (b : ℕ) (p : Act S A) → Alike b p p
  alike_itself b p = record { by = λ s l. refl }

  -- a step is spent before
  spent : (line b n : ℕ) (p q : Act S Flow) (s : State S) → n ≤ suc b → Alike b p q
      → after (spend_from line n s).0 (spend_from line n s).1 (λ _. p) ≡ after (spend_from line n s).0 (spend_from line n s).1 (λ _. q)
  spent line b zero p q s l h = refl
  spent line b (suc n) p q s l h = h.by (record s { budget = n }) (omega (arith, l))

  alike_spend : (line b : ℕ) (p q : Act S Flow) → Alike b p q → Alike (suc b) (spend line >> p) (spend line >> q)
  unfolding bind spend
  alike_spend line b p q h = record { by = λ s l. spent line b s.budget p q s l h }

  not_spent : (line n : ℕ) (p q : Act S Flow) (s : State S) → n ≤ 0
      → after (spend_from line n s).0 (spend_from line n s).1 (λ _. p) ≡ after (spend_from line n s).0 (spend_from line n s).1 (λ _. q)
  not_spent line zero p q s l = refl
  not_spent line (suc n) p q s l = absurd (omega (arith, l))

  -- with no step left nothing comes after
  alike_without : (line : ℕ) (p q : Act S Flow) → Alike 0 (spend line >> p) (spend line >> q)
  unfolding bind spend
  alike_without line p q = record { by = λ s l. not_spent line s.budget p q s l }

  alike_then : (b : ℕ) (p q : Act S Flow) → Alike b p q → (f : Flow) → Alike b (then_flow p f) (then_flow q f)
  alike_then b p q h Next = h
  alike_then b p q h Broke = alike_itself b (pure Broke)
  alike_then b p q h Continued = alike_itself b (pure Continued)
  alike_then b p q h (Returned v) = alike_itself b (pure (Returned v))

  alike_turn_end : (b : ℕ) (p q : Act S Flow) → Alike b p q → (f : Flow) → Alike b (turn_end p f) (turn_end q f)
  alike_turn_end b p q h Next = h
  alike_turn_end b p q h Broke = alike_itself b (pure Next)
  alike_turn_end b p q h Continued = h
  alike_turn_end b p q h (Returned v) = alike_itself b (pure (Returned v))

  alike_if : (b : ℕ) (c : Bool) (p q r : Act S Flow) → Alike b p q → Alike b (if c then p else r) (if c then q else r)
  alike_if b true p q r h = h
  alike_if b false p q r h = alike_itself b r

module _ {S : Type 0} (line : ℕ) (test : Act S Val) (body third : Act S Flow) (t : NeverAdds test) (d : NeverAdds body) (h : NeverAdds third) where
  abbrev turn : Act S Flow → Act S Flow
  turn = one_turn line test body third

  abbrev before : ℕ → Act S Flow → Act S Flow
  before = turns_before line test body third

  turn_again : (b : ℕ) (p q : Act S Flow) → Alike b p q → Alike (suc b) (turn p) (turn q)
  turn_again b p q same =
      alike_spend line b _ _ (alike_bind b test _ _ t (λ v.
      alike_if b (truth v) _ _ _ (alike_bind b body _ _ d (alike_turn_end b _ _ (alike_bind b third _ _ h (alike_then b p q same))))))

  -- with so few steps that what comes after the turns is never met
  turns_alike : (b n k : ℕ) (rest other : Act S Flow) → b < n → b < k → Alike b (before n rest) (before k other)
  turns_alike b zero k rest other l m = absurd (omega (arith, l))
  turns_alike b (suc n) zero rest other l m = absurd (omega (arith, m))
  turns_alike zero (suc n) (suc k) rest other l m = alike_without line _ _
  turns_alike (suc b) (suc n) (suc k) rest other l m =
      turn_again b (before n rest) (before k other) (turns_alike b n k rest other (omega (arith, l)) (omega (arith, m)))

  abbrev stop : Act S Flow
  stop = lift line (Err trap.Steps)

  same_turns : (n : ℕ) → turns_to n line test body third ≡ before n stop
  same_turns zero = refl
  same_turns (suc n) = ap turn (same_turns n)

  turns_are : (s : State S) → turns line test body third s ≡ before (suc s.budget) stop s
  unfolding bind get_budget
  turns_are s = ap (λ p. p s) (same_turns (suc s.budget))

  pub never_reached : (n : ℕ) (rest : Act S Flow) (s : State S) → s.budget < n → before n rest s ≡ turns line test body third s
  never_reached n rest s l = (turns_alike s.budget n (suc s.budget) rest stop l (omega arith)).by s (omega arith) ∙ sym (turns_are s)

  goes_on_from : (s : State S) (n : ℕ) → n ≡ s.budget → turn (before n stop) s ≡ turn (turns line test body third) s
  goes_on_from s zero e = (alike_without line _ _).by s (omega (arith, e))
  goes_on_from s (suc b) e =
      (turn_again b (before (suc b) stop) (turns line test body third) (record { by = λ q l. never_reached (suc b) stop q (omega (arith, l)) })).by s
      (omega (arith, e))

  pub loop_goes_on : turns line test body third ≡ turn (turns line test body third)
  loop_goes_on = λ i s. (turns_are s ∙ goes_on_from s s.budget refl) i

pub loops_go_on : {S : Type 0} → LoopsGoOn S
loops_go_on line test body third t d h = loop_goes_on line test body third t d h

pub turns_are_enough : {S : Type 0} → TurnsAreEnough S
turns_are_enough line test body third t d h = never_reached line test body third t d h
