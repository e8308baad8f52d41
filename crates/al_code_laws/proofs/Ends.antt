-- A run has one end, and one next stop.
use Rattle.std.proofs.Common.{◌≡◌, ℕ, zero, suc, ◌+◌, List, Option, Ok, Err, refl, sym, ap, ◌∙◌, subst, arith}
use Rattle.std.specs.Prelude.{ℤ}
use Rattle.al_core.specs.declared.values.Val.{Val}
use Rattle.al_core.specs.World.{World}
use Rattle.al_core.specs.Action.{State, Answer, Act, after, bind, pure, visit}
use Rattle.al_core.specs.Meaning.{Where}
use Rattle.al_code.specs.declared.lowered.Code.{Code}
use Rattle.al_code.specs.Machine.{Spot, Move, Goes, Stops, Ends}
use Rattle.al_code.specs.Runs.{Stop, does_at, moved, exec, moved_to_stop, exec_to_stop}
use Rattle.al_code_laws.specs.Stops.{IsOver, Run, EndsOnce, RunsEndOnce, StopsAreOnce}

-- one instruction more changes nothing once a run is over
abbrev Stays : {S A : Type 0} → Run S A → Type 0
Stays run = (n : ℕ) (s : State _) → IsOver (run n s).0 → run (suc n) s ≡ run n s

module _ {S A : Type 0} (run : Run S A) (stays : Stays run) where
  more : (k n : ℕ) (s : State S) (r : Answer (Option A) × State S) → run n s ≡ r → IsOver r.0 → run (k + n) s ≡ r
  more zero n s r is o = let e : zero + n ≡ n = omega arith in ap (λ m. run m s) e ∙ is
  more (suc k) n s r is o =
      let e : suc k + n ≡ suc (k + n) = omega arith in
      let h = more k n s r is o in
      ap (λ m. run m s) e ∙ stays (k + n) s (subst (λ q. IsOver q.0) (sym h) o) ∙ h

  ends_once : EndsOnce run
  ends_once n m s o p =
      let e : m + n ≡ n + m = omega arith in
      sym (more m n s (run n s) refl o) ∙ ap (λ k. run k s) e ∙ more n m s (run m s) refl p

module _ {S : Type 0} (world : World S) (here : Where) (input : List ℤ) (code : Code) where
  abbrev run : ℕ → Spot → Act S (Option Val)
  run = exec world here input code

  abbrev to_stop : ℕ → Spot → Act S (Option Stop)
  to_stop = exec_to_stop world here input code

  after_visit : (f g : Spot → Act S (Option Val)) (d : Spot) → ((t : State S) → IsOver (g d t).0 → f d t ≡ g d t)
      → (r : Answer (Unit {0})) (t : State S) → IsOver (after r t (λ u. g d)).0 → after r t (λ u. f d) ≡ after r t (λ u. g d)
  after_visit f g d h (Ok u) t o = h t o
  after_visit f g d h (Err e) t o = refl

  move_more : (n : ℕ) → ((c : Spot) (s : State S) → IsOver (run n c s).0 → run (suc n) c s ≡ run n c s)
      → (r : Answer Move) (t : State S) → IsOver (after r t (moved world here input code (run n))).0
      → after r t (moved world here input code (run (suc n))) ≡ after r t (moved world here input code (run n))
  unfolding bind
  move_more n h (Err e) t o = refl
  move_more n h (Ok (Goes d)) t o = h d t o
  move_more n h (Ok (Stops k lo hi d)) t o =
      after_visit (run (suc n)) (run n) d (h d) (visit world k lo hi t).0 (visit world k lo hi t).1 o
  move_more n h (Ok (Ends v)) t o = refl

  one_more : (n : ℕ) (c : Spot) (s : State S) → IsOver (run n c s).0 → run (suc n) c s ≡ run n c s
  unfolding bind pure
  one_more zero c s o = absurd o
  one_more (suc n) c s o = move_more n (one_more n) (does_at world here input code c s).0 (does_at world here input code c s).1 o

  stop_more : (n : ℕ) → ((c : Spot) (s : State S) → IsOver (to_stop n c s).0 → to_stop (suc n) c s ≡ to_stop n c s)
      → (r : Answer Move) (t : State S) → IsOver (after r t (moved_to_stop world here input code (to_stop n))).0
      → after r t (moved_to_stop world here input code (to_stop (suc n))) ≡ after r t (moved_to_stop world here input code (to_stop n))
  unfolding bind
  stop_more n h (Err e) t o = refl
  stop_more n h (Ok (Goes d)) t o = h d t o
  stop_more n h (Ok (Stops k lo hi d)) t o = refl
  stop_more n h (Ok (Ends v)) t o = refl

  one_more_to_stop : (n : ℕ) (c : Spot) (s : State S) → IsOver (to_stop n c s).0 → to_stop (suc n) c s ≡ to_stop n c s
  unfolding bind pure
  one_more_to_stop zero c s o = absurd o
  one_more_to_stop (suc n) c s o =
      stop_more n (one_more_to_stop n) (does_at world here input code c s).0 (does_at world here input code c s).1 o

pub runs_end_once : {S : Type 0} → RunsEndOnce S
runs_end_once world here input code c = ends_once (λ n. exec world here input code n c) (λ n s o. one_more world here input code n c s o)

pub stops_are_once : {S : Type 0} → StopsAreOnce S
stops_are_once world here input code c =
    ends_once (λ n. exec_to_stop world here input code n c) (λ n s o. one_more_to_stop world here input code n c s o)
