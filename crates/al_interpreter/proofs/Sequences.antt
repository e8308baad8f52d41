-- Statements in order, as the code does them.
use Rattle.std.proofs.Common.{◌≡◌, ℕ, ◌+◌, ◌<◌, List, ◌∷◌, length, drop, get_or, Result, Ok, Err, refl, sym, ap, subst, ◌∙◌, arith}
use Rattle.std.specs.Prelude.{ℤ, IsErrAnd}
use Rattle.std.proofs.lemmas.List.{drop_more, drop_all}
use Rattle.al_core.specs.declared.values.Val.{Val}
use Rattle.al_core.specs.declared.typed_tree.TStmt.{TStmt}
use Rattle.al_core.specs.World.{World}
use Rattle.al_core.specs.Action.{State, Answer, Act, At, after, bind, pure, ◌>>=◌}
use Rattle.al_core.specs.Meaning.{Flow, Next, Where, then_flow, turn_end, execute, execute_all}
use Rattle.al_interpreter.specs.declared.fault.Fault.{Fault}
use Rattle.al_interpreter.specs.declared.flow.Flow.{Flow as Kept}
use Rattle.al_interpreter.specs.declared.flow.Flow.TheVariants as kept
use Rattle.al_interpreter.specs.declared.flow.Turn.{Turn}
use Rattle.al_interpreter.specs.declared.flow.Turn.TheVariants as turn
use Rattle.al_source.specs.Answers.{Does}
use Rattle.al_interpreter.specs.Faults.{stopped}
use Rattle.al_interpreter.specs.Flows.{flow_of, flowed}
use Rattle.al_interpreter.specs.Turns.{in_sequence, in_loop}
use Rattle.al_interpreter.proofs.Chains.{flow_stops}

-- what comes again, or nothing more
abbrev pub by_turn : {S : Type 0} → Act S Flow → Turn → Act S Flow
by_turn again turn.Again = again
by_turn again (turn.Over f) = pure (flow_of f)

module _ {S : Type 0} where
  pub in_order : (again : Act S Flow) (f : Kept) → then_flow again (flow_of f) ≡ by_turn again (in_sequence f)
  in_order again kept.Next = refl
  in_order again kept.Broke = refl
  in_order again kept.Continued = refl
  in_order again (kept.Returned v) = refl

  pub in_turns : (again : Act S Flow) (f : Kept) → turn_end again (flow_of f) ≡ by_turn again (in_loop f)
  in_turns again kept.Next = refl
  in_turns again kept.Broke = refl
  in_turns again kept.Continued = refl
  in_turns again (kept.Returned v) = refl

  -- what is told after an action that ends so
  pub after_in_order : (p again : Act S Flow) (f : Kept) (d : Turn) (s t : State S) → p s ≡ (Ok (flow_of f), t) → in_sequence f ≡ d
      → (p >>= then_flow again) s ≡ by_turn again d t
  unfolding bind
  after_in_order p again f d s t did is =
      ap (λ (r : Answer Flow × State S). after r.0 r.1 (then_flow again)) did ∙ ap (λ (q : Act S Flow). q t) (in_order again f ∙ ap (by_turn again) is)

  pub after_in_turns : (p again : Act S Flow) (f : Kept) (d : Turn) (s t : State S) → p s ≡ (Ok (flow_of f), t) → in_loop f ≡ d
      → (p >>= turn_end again) s ≡ by_turn again d t
  unfolding bind
  after_in_turns p again f d s t did is =
      ap (λ (r : Answer Flow × State S). after r.0 r.1 (turn_end again)) did ∙ ap (λ (q : Act S Flow). q t) (in_turns again f ∙ ap (by_turn again) is)

  pub then_turn : (again : Act S Flow) (f : Kept) (d : Turn) (r : Result Flow Fault) (s t : State S) → in_sequence f ≡ d
      → Does {A = Flow} stopped (by_turn again d s) r t → Does {A = Flow} stopped (then_flow again (flow_of f) s) r t
  then_turn again f d r s t is did =
      subst (λ (q : Act S Flow). Does {A = Flow} stopped (q s) r t) (sym (in_order again f ∙ ap (by_turn again) is)) did

  pub then_over : (again : Act S Flow) (f g : Kept) (s : State S) → in_sequence f ≡ turn.Over g → then_flow again (flow_of f) s ≡ (Ok (flow_of g), s)
  unfolding pure
  then_over again f g s is = ap (λ (q : Act S Flow). q s) (in_order again f ∙ ap (by_turn again) is)

module _ {S : Type 0} (world : World S) (here : Where) (input : List ℤ) (call : ℕ → List Val → At S Val) where
  first_of_rest : (ss : List TStmt) (i : ℕ) (s : TStmt) → i < length ss → s ≡ get_or ss i s → drop i ss ≡ s ∷ drop (i + 1) ss
  first_of_rest ss i s within is = drop_more ss i s within ∙ ap (λ x. x ∷ drop (i + 1) ss) (sym is)

  begins : (told : Answer Flow × State S) (ss : List TStmt) (i : ℕ) (s : TStmt) (st : State S) → told ≡ execute_all world here input call (drop i ss) st
      → i < length ss → s ≡ get_or ss i s → told ≡ (execute world here input call s >>= then_flow (execute_all world here input call (drop (i + 1) ss))) st
  begins told ss i s st so within is = so ∙ ap (λ l. execute_all world here input call l st) (first_of_rest ss i s within is)

  -- a statement that ends in a flow
  pub flows : (told : Answer Flow × State S) (ss : List TStmt) (i : ℕ) (s : TStmt) (st t : State S) (f : Kept) (d : Turn)
      → told ≡ execute_all world here input call (drop i ss) st → i < length ss → s ≡ get_or ss i s → execute world here input call s st ≡ (Ok (flow_of f), t)
      → in_sequence f ≡ d → told ≡ by_turn (execute_all world here input call (drop (i + 1) ss)) d t
  flows told ss i s st t f d so within is did ends =
      begins told ss i s st so within is
      ∙ after_in_order (execute world here input call s) (execute_all world here input call (drop (i + 1) ss)) f d st t did ends

  -- a statement that ends in a fault
  pub faults : (told : Answer Flow × State S) (ss : List TStmt) (i : ℕ) (s : TStmt) (st t : State S) (e : Fault) (r : Result Kept Fault)
      → told ≡ execute_all world here input call (drop i ss) st → i < length ss → s ≡ get_or ss i s → IsErrAnd r (λ x. x ≡ e)
      → Does {A = Flow} stopped (execute world here input call s st) (Err e) t → Does {A = Flow} stopped told (flowed r) t
  faults told ss i s st t e r so within is ends did =
      subst (λ (x : Answer Flow × State S). Does {A = Flow} stopped x (flowed r) t) (sym (begins told ss i s st so within is))
      (flow_stops (execute world here input call s) (then_flow (execute_all world here input call (drop (i + 1) ss))) st t e r ends did)

  -- after the last statement
  pub all_done : (told : Answer Flow × State S) (ss : List TStmt) (i : ℕ) (st : State S) → told ≡ execute_all world here input call (drop i ss) st
      → length ss ≡ i → told ≡ (Ok Next, st)
  unfolding pure
  all_done told ss i st so end = so ∙ ap (λ l. execute_all world here input call l st) (drop_all i ss (omega arith))
