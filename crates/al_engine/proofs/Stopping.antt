-- From stop to stop: what follows a machine's stop is what follows in the whole run.
use Rattle.std.proofs.Common.{◌≡◌, ℕ, zero, suc, List, Option, Ok, Err, refl, sym, ap, ◌∙◌, subst}
use Rattle.std.specs.Prelude.{ℤ}
use Rattle.al_core.specs.declared.values.Trap.{Trap}
use Rattle.al_core.specs.declared.values.Val.{Val}
use Rattle.al_core.specs.Action.{State, Answer, Act, after, bind, spend, spend_from, get_frame, set_frame, hands_on, with_locals, ◌>>◌, visit}
use Rattle.al_core.specs.Access.{Content, in_iteration}
use Rattle.al_core.specs.Meaning.{Outside}
use Rattle.al_core.specs.Run.{Whole}
use Rattle.al_code.specs.declared.lowered.Code.{Code}
use Rattle.al_code.specs.Answerers.{Answerer, answered}
use Rattle.al_code.specs.Machine.{Spot}
use Rattle.al_code.specs.Runs.{Stop, exec_to_stop, ComesTo}
use Rattle.al_code_laws.specs.Stops.{IsOver, Run, raise, Lifts, GoesOn, resumed}
use Rattle.al_code_laws.proofs.Resumed.{stops_go_on}
use Rattle.al_code_laws.proofs.Carried.{stops_lift}
use Rattle.al_engine.specs.Rests.{Beginning, Nothing, Step, begun, rest}

module _ (answer : Answerer) (input : List ℤ) (code : Code) where
  -- ---- after a step

  lift_spent : (line n : ℕ) (p : Act Content (Option Stop)) (q : Act Whole (Option Stop)) → Lifts p q → (s : State Content) (w : Whole)
      → after (spend_from line n (raise s w)).0 (spend_from line n (raise s w)).1 (λ u. q)
      ≡ (
        (after (spend_from line n s).0 (spend_from line n s).1 (λ u. p)).0,
        raise (after (spend_from line n s).0 (spend_from line n s).1 (λ u. p)).1 w,
      )
  lift_spent line zero p q h s w = refl
  lift_spent line (suc n) p q h s w = h.by (record s { budget = n }) w

  lift_step : (line : ℕ) (p : Act Content (Option Stop)) (q : Act Whole (Option Stop)) → Lifts p q → Lifts (spend line >> p) (spend line >> q)
  unfolding bind spend
  lift_step line p q h = record { by = λ s w. lift_spent line s.budget p q h s w }

  on_after : (r : Answer (Unit {0})) (t : State Whole) (p : Run Whole Stop) (q : Run Whole Val) → GoesOn (answered answer) Outside input code p q
      → (n : ℕ) → IsOver (after r t (λ u. p n)).0 → (m : ℕ)
      → (j : ℕ) × (after r t (λ u. q j) ≡ resumed (answered answer) Outside input code m (after r t (λ u. p n)))
  on_after (Ok a) t p q h n o m = h n t o m
  on_after (Err e) t p q h n o m = (0, refl)

  on_step : (line : ℕ) (p : Run Whole Stop) (q : Run Whole Val) → GoesOn (answered answer) Outside input code p q
      → GoesOn (answered answer) Outside input code (λ n. spend line >> p n) (λ n. spend line >> q n)
  unfolding bind
  on_step line p q h n s o m = on_after (spend line s).0 (spend line s).1 p q h n o m

  -- ---- to the next stop

  abbrev pub to_stop : Beginning → Spot → ℕ → Act Content (Option Stop)
  to_stop b c n = begun b (exec_to_stop in_iteration Outside input code n c)

  abbrev to_stop_whole : Beginning → Spot → ℕ → Act Whole (Option Stop)
  to_stop_whole b c n = begun b (exec_to_stop (answered answer) Outside input code n c)

  lifts : (b : Beginning) (c : Spot) (n : ℕ) → Lifts (to_stop b c n) (to_stop_whole b c n)
  lifts Nothing c n = (stops_lift answer Outside input code).0 n c
  lifts (Step line) c n = lift_step line _ _ ((stops_lift answer Outside input code).0 n c)

  goes : (b : Beginning) (c : Spot) → GoesOn (answered answer) Outside input code (to_stop_whole b c) (λ n. rest answer input code b c n)
  goes Nothing c = (stops_go_on (answered answer) Outside input code).0 c
  goes (Step line) c = on_step line _ _ ((stops_go_on (answered answer) Outside input code).0 c)

  -- the whole run goes on after the stop as after what came to it
  pub reaches : (b : Beginning) (c : Spot) (s t : State Content) (w : Whole) (r : Answer (Option Stop)) → ComesTo (to_stop b c) s (r, t) → IsOver r
      → (m : ℕ) → (j : ℕ) × (rest answer input code b c j (raise s w) ≡ resumed (answered answer) Outside input code m (r, raise t w))
  reaches b c s t w r h over m =
      let n = h.0 in
      let there : to_stop_whole b c n (raise s w) ≡ (r, raise t w) =
      (lifts b c n).by s w ∙ ap (λ (q : Answer (Option Stop) × State Content). (q.0, raise q.1 w)) h.1 in
      let on = goes b c n (raise s w) (subst (λ (q : Answer (Option Stop) × State Whole). IsOver q.0) (sym there) over) m in
      (on.0, on.1 ∙ ap (resumed (answered answer) Outside input code m) there)

  -- ---- at a loop

  by_answer : (f : List Val → Act Whole (Unit {0})) (run : Act Whole (Option Val)) (t : State Whole) (r : Answer (List Val)) (w : Whole)
      → Answer (Option Val) × State Whole
  by_answer f run t r w = after (after r (record t { world = w }) f).0 (after r (record t { world = w }) f).1 (λ u. run)

  -- an answer with locals sets them
  pub visited : (loop : ℕ) (lo hi : ℤ) (t : State Whole) (locals : List Val) (w : Whole) (run : Act Whole (Option Val))
      → answer loop lo hi t.frame.locals t.world ≡ (Ok locals, w)
      → (visit (answered answer) loop lo hi >> run) t ≡ run (record t { frame = with_locals t.frame locals; world = w })
  unfolding bind get_frame set_frame hands_on by_answer
  visited loop lo hi t locals w run e =
      ap (λ (q : Answer (List Val) × Whole). by_answer (λ locals. set_frame (with_locals t.frame locals)) run t q.0 q.1) e

  -- an answer with a trap ends the run
  pub visit_traps : (loop : ℕ) (lo hi : ℤ) (t : State Whole) (e : Trap × ℕ) (w : Whole) (run : Act Whole (Option Val))
      → answer loop lo hi t.frame.locals t.world ≡ (Err e, w)
      → (visit (answered answer) loop lo hi >> run) t ≡ (Err e, record t { world = w })
  unfolding bind get_frame set_frame hands_on by_answer
  visit_traps loop lo hi t e w run is =
      ap (λ (q : Answer (List Val) × Whole). by_answer (λ locals. set_frame (with_locals t.frame locals)) run t q.0 q.1) is
