-- Running to a stop, being answered there, and going on is the whole run.
use Rattle.std.proofs.Common.{◌≡◌, ℕ, zero, suc, List, Option, Ok, Err, refl}
use Rattle.std.specs.Prelude.{ℤ}
use Rattle.al_core.specs.declared.values.Val.{Val}
use Rattle.al_core.specs.declared.values.Val.TheVariants.{Int}
use Rattle.al_core.specs.World.{World}
use Rattle.al_core.specs.Action.{State, Answer, Act, after, bind, ◌>>◌, pure, spend, set_local}
use Rattle.al_core.specs.Meaning.{Where}
use Rattle.al_core.specs.Iteration.{calls_within}
use Rattle.al_code.specs.declared.lowered.Code.{Code}
use Rattle.al_code.specs.Machine.{Spot, Move, Goes, Stops, Ends, at_start}
use Rattle.al_code.specs.Runs.{Stop, does_at, moved, exec, moved_to_stop, exec_to_stop, entry_line}
use Rattle.al_code_laws.specs.Stops.{IsOver, Run, resumed, GoesOn, StopsGoOn}

module _ {S : Type 0} (world : World S) (here : Where) (input : List ℤ) (code : Code) where
  abbrev to_stop : ℕ → Spot → Act S (Option Stop)
  to_stop = exec_to_stop world here input code

  abbrev run : ℕ → Spot → Act S (Option Val)
  run = exec world here input code

  abbrev On : Run S Stop → Run S Val → Type 0
  On = GoesOn world here input code

  abbrev Resumes : ℕ → Type 0
  Resumes n = (c : Spot) (s : State S) → IsOver (to_stop n c s).0 → (m : ℕ) → (j : ℕ) × (run j c s ≡ resumed world here input code m (to_stop n c s))

  step : (n : ℕ) → Resumes n → (r : Answer Move) (t : State S) → IsOver (after r t (moved_to_stop world here input code (to_stop n))).0 → (m : ℕ)
      → (j : ℕ) × (after r t (moved world here input code (run j))
      ≡ resumed world here input code m (after r t (moved_to_stop world here input code (to_stop n))))
  unfolding pure
  step n h (Err e) t o m = (0, refl)
  step n h (Ok (Goes d)) t o m = h d t o m
  step n h (Ok (Stops k lo hi d)) t o m = (m, refl)
  step n h (Ok (Ends v)) t o m = (0, refl)

  resumes : (n : ℕ) → Resumes n
  unfolding bind pure
  resumes zero c s o m = absurd o
  resumes (suc n) c s o m =
      let h = step n (resumes n) (does_at world here input code c s).0 (does_at world here input code c s).1 o m in
      (suc h.0, h.1)

  -- after something else
  on_after : {A : Type 0} (r : Answer A) (t : State S) (p : Run S Stop) (q : Run S Val) → On p q → (n : ℕ)
      → IsOver (after r t (λ u. p n)).0 → (m : ℕ)
      → (j : ℕ) × (after r t (λ u. q j) ≡ resumed world here input code m (after r t (λ u. p n)))
  on_after (Ok a) t p q h n o m = h n t o m
  on_after (Err e) t p q h n o m = (0, refl)

  on_then : {A : Type 0} (a : Act S A) (p : Run S Stop) (q : Run S Val) → On p q → On (λ n. a >> p n) (λ n. a >> q n)
  unfolding bind
  on_then a p q h n s o m = on_after (a s).0 (a s).1 p q h n o m

  from_spot : (c : Spot) → On (λ n. to_stop n c) (λ n. run n c)
  from_spot c n s o m = resumes n c s o m

pub stops_go_on : {S : Type 0} → StopsGoOn S
stops_go_on world here input code = (
  from_spot world here input code,
  λ e room. on_then world here input code (spend (entry_line code e)) _ _ (from_spot world here input code (at_start e.start room)),
  λ info b counter.
      on_then world here input code (spend info.line) _ _
      (on_then world here input code (set_local world info.counter (Int counter) info.line) _ _
      (from_spot world here input code (at_start b.start calls_within))),
)
