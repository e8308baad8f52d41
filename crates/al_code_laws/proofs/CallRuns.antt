-- The code of a program does what the program means.
use Rattle.std.proofs.Common.{◌≡◌, ℕ, zero, suc, ◌+◌, List, [], ◌∷◌, ◌++◌, length, Option, Some, None, Ok, Err, refl, sym, ap, ◌∙◌, subst, arith}
use Rattle.std.specs.Prelude.{slice_get, ℤ, pos, take, drop, reverse, replicate, ◌-◌}
use Rattle.al_core.specs.declared.values.Val.{Val}
use Rattle.al_core.specs.declared.values.Val.TheVariants.{Int}
use Rattle.al_core.specs.declared.values.Trap.TheVariants as trap
use Rattle.al_core.specs.declared.typed_tree.TFunc.{TFunc}
use Rattle.al_core.specs.World.{World}
use Rattle.al_core.specs.Action.{AllPrivate, Frame, State, Answer, Act, At, after, bind, ◌>>=◌, ◌>>◌, pure, lift, spend, set_frame, enter, leave}
use Rattle.al_core.specs.Meaning.{Flow, Next, Broke, Continued, Returned, returned, Where, execute_all, frame_of, body_of, call_to}
use Rattle.al_code.specs.declared.lowered.Entry.{Entry}
use Rattle.al_code.specs.declared.instructions.Instr.TheVariants as i
use Rattle.al_code.specs.declared.lowered.Code.{Code}
use Rattle.al_code.specs.Machine.{InnerLoop, Caller, Goes, at_start, call_in, call_at}
use Rattle.al_code.specs.Runs.{exec, or_no_line, entry_line, from_function}
use Rattle.al_code_laws.specs.declared.plan.Op.TheVariants.{As, CallOf}
use Rattle.al_code_laws.specs.Planned.{planned, Plan, place_of, Shows, Has}
use Rattle.al_code_laws.specs.Tree.{stmts_code}
use Rattle.al_code.specs.Stands.{function_does, FunctionsStand}
use Rattle.al_code_laws.specs.Laid.{Lies, LiesAt}
use Rattle.al_code_laws.proofs.Args.{push_all, args_back, rest_back}
use Rattle.al_laws.proofs.Falls.{call_never_adds}
use Rattle.al_code_laws.proofs.Leads.{Target, To, Back, has_front, has_back, Leads, leads_pure, leads_bind, leads_trap, leads_return, leads_onward, leads_move, leads_seam, spot, at, next_place}
use Rattle.al_code_laws.proofs.Moves.{moves_at, moves_goes, moves_bind}
use Rattle.al_code_laws.proofs.ExprRuns.{CallsRun}
use Rattle.al_code_laws.proofs.StmtRuns.{flow_to}
use Rattle.al_code_laws.proofs.TreeRuns.{stmts_run}

module _ {S : Type 0} where
  pub after_each : {A B : Type 0} (r : Answer A) (t : State S) (f : ℕ → Act S B) (g : Act S B) → ((t : State S) → (n : ℕ) × (f n t ≡ g t))
      → (n : ℕ) × (after r t (λ u. f n) ≡ after r t (λ u. g))
  after_each (Ok a) t f g h = h t
  after_each (Err e) t f g h = (0, refl)

module _ {S : Type 0} (world : World S) (here : Where) (input : List ℤ) (code : Code) (funcs : List TFunc) (laid : (f : ℕ)
    → LiesAt code (slice_get funcs f) (slice_get code.funcs f)) where
  abbrev calls : ℕ → ℕ → List Val → At S Val
  calls room = call_to world here funcs input room

  abbrev Gets : {A : Type 0} → State S → Target → Act S A → (A → Target) → Type 0
  Gets = Leads world here input code

  -- a function's body, from its entry to its return
  module _ (callers : List Caller) (room : ℕ) (runs : CallsRun world here input code callers room (calls room)) (f : TFunc) (e : Entry)
      (l : Lies code f e) where
    abbrev end : ℕ
    end = suc (suc l.after)

    abbrev tail : Plan
    tail = planned (As (i.Push (pos 0))) f.line 0 ∷ planned (As i.Return) f.line 1 ∷ []

    abbrev work : Plan
    work = stmts_code f.body (Some end) end end

    has_tail : Has code l.after tail
    has_tail = has_back code l.after work tail l.has

    out : (flow : Flow) (t : State S) → returned flow ≡ Int (pos 0)
        → Gets t (at code callers room [] end []) (pure flow) (λ flow. Back callers room (returned flow))
    out flow t is =
        leads_move callers room has_tail.0 (λ pc. refl)
        (leads_return f.line (Int (pos 0)) (has_tail.1.0.op, has_tail.1.0.at_line) refl flow (ap (Back callers room) (sym is)))

    body_end : (flow : Flow) (t : State S) → Gets t (flow_to world here input code callers room [] (Some end) end end flow) (pure flow)
        (λ flow. Back callers room (returned flow))
    body_end Next t = out Next t refl
    body_end Broke t = out Broke t refl
    body_end Continued t = out Continued t refl
    body_end (Returned v) t = leads_pure t _ (Returned v) refl

    body_run : (s : State S) → Gets s (To (spot callers room [] e.start [])) (execute_all world here input (calls room) f.body) (λ flow. Back callers room
        (returned flow))
    body_run s =
        subst (λ n. Gets s (To (spot callers room [] n [])) (execute_all world here input (calls room) f.body) (λ flow. Back callers room (returned flow)))
        (sym l.starts)
        (leads_seam callers room work tail l.after
        (leads_onward (stmts_run world here input code callers room (calls room) runs (call_never_adds world here funcs input room) f.body (Some end) end end
        (has_front code l.after work tail l.has) [] s) body_end))

  -- out of a function, to its caller
  back_run : (callers : List Caller) (room pc r : ℕ) (inner : List InnerLoop) (st : List Val) (old : Frame) (v : Val) (s : State S) → pc ≡ place_of code r
      → Gets s (Back (record { place = pc; stack = st; inner = inner; frame = old } ∷ callers) room v) (leave old v)
      (λ v. at code callers (suc room) inner r (v ∷ st))
  unfolding bind pure set_frame
  back_run callers room pc r inner st old v s is = record {
    by = λ k. (k, ap (λ n. exec world here input code k (spot callers (suc room) inner n (v ∷ st)) (record s { frame = old })) is);
    real = λ r a e. tt;
  }

  -- the instruction, with its arguments on the stack
  call_same : (callers : List Caller) (room pc line : ℕ) (inner : List InnerLoop) (st vs : List Val) (f : ℕ) (fn : TFunc) (e : Entry)
      → slice_get code.funcs f ≡ Some e → e.params ≡ length vs → e.locals ≡ length fn.locals
      → call_at {S = S} (spot callers (suc room) inner pc (push_all vs st)) line (slice_get code.funcs f)
      ≡ (spend line >> (enter (frame_of (Some fn) vs) >>= (λ old. pure
      (Goes (spot (record { place = pc + 1; stack = st; inner = inner; frame = old } ∷ callers) room [] e.start [])))))
  call_same callers room pc line inner st vs f fn e has takes locals =
      let c = spot callers (suc room) inner pc (push_all vs st) in
      ap (λ o. call_at c line o) has
      ∙ ap (λ n. call_in c line e (reverse (take n (push_all vs st))) (drop n (push_all vs st)) room) takes
      ∙ (λ j. call_in c line e (args_back vs st j) (rest_back vs st j) room)
      ∙ ap (λ n. spend line >> (enter (record { locals = vs ++ replicate (n - length vs) (Int (pos 0)); own = AllPrivate }) >>= (λ old. pure
      (Goes (spot (record { place = pc + 1; stack = st; inner = inner; frame = old } ∷ callers) room [] e.start []))))) locals

  call_run : (room : ℕ) (callers : List Caller) → ((callers : List Caller) → CallsRun world here input code callers room (calls room))
      → (f : ℕ) (vs : List Val) (line r : ℕ) (inner : List InnerLoop) (st : List Val) (s : State S) (h : ℕ)
      → Shows code r (planned (CallOf f (length vs)) line h) → (e : Entry) → slice_get code.funcs f ≡ Some e → e.params ≡ length vs
      → (fn : Option TFunc) (o : Option Entry) → o ≡ Some e → LiesAt code fn o
      → Gets s (at code callers (suc room) inner (suc r) (push_all vs st))
      (spend line >> (enter (frame_of fn vs) >>= (λ old. execute_all world here input (calls room) (body_of fn) >>= (λ flow. leave old (returned flow)))))
      (λ v. at code callers (suc room) inner r (v ∷ st))
  call_run room callers runs f vs line r inner st s h shown e has takes None None is l = absurd (cc)
  call_run room callers runs f vs line r inner st s h shown e has takes None (Some o) is l = absurd l
  call_run room callers runs f vs line r inner st s h shown e has takes (Some fn) None is l = absurd l
  call_run room callers runs f vs line r inner st s h shown e has takes (Some fn) (Some o) is l =
      let same : o ≡ e = cc in
      let lies = subst (λ o. Lies code fn o) same l in
      let pc = place_of code (suc r) in
      moves_at (i.Call f) line _ (shown.op.instr, shown.at_line) (call_same callers room pc line inner st vs f fn e has takes lies.locals)
      (moves_bind (spend line) (λ u _.
      moves_bind (enter (frame_of (Some fn) vs)) (λ old _.
      moves_goes (leads_bind (body_run (record { place = pc + 1; stack = st; inner = inner; frame = old } ∷ callers) room (runs _) fn e lies _) (λ flow _.
      back_run callers room (pc + 1) r inner st old (returned flow) _ (next_place code r shown.within))))))

  no_room : (callers : List Caller) (pc line : ℕ) (inner : List InnerLoop) (st : List Val) (f : ℕ) (e : Entry) → slice_get code.funcs f ≡ Some e
      → call_at {S = S} (spot callers zero inner pc st) line (slice_get code.funcs f) ≡ lift line (Err trap.Depth)
  no_room callers pc line inner st f e has = ap (λ o. call_at (spot callers zero inner pc st) line o) has

  pub calls_run : (room : ℕ) (callers : List Caller) → CallsRun world here input code callers room (calls room)
  calls_run zero callers f vs line r inner st s h shown =
      leads_trap (i.Call f) line trap.Depth (shown.op.instr, shown.at_line)
      (no_room callers (place_of code (suc r)) line inner (push_all vs st) f shown.op.entry shown.op.has_entry)
  calls_run (suc room) callers f vs line r inner st s h shown =
      call_run room callers (calls_run room) f vs line r inner st s h shown shown.op.entry shown.op.has_entry shown.op.takes (slice_get funcs f)
      (slice_get code.funcs f) shown.op.has_entry (laid f)

  -- the line of the last instruction
  last_line : (f : TFunc) (e : Entry) → Lies code f e → entry_line code e ≡ f.line
  last_line f e l =
      let end = suc (suc l.after) in
      let work = stmts_code f.body (Some end) end end in
      let tail = planned (As (i.Push (pos 0))) f.line 0 ∷ planned (As i.Return) f.line 1 ∷ [] in
      let shown = (has_back code l.after work tail l.has).1.0 in
      let place : e.end - 1 ≡ place_of code (suc l.after) = omega (arith, l.ends, shown.within) in
      ap (λ p. or_no_line (slice_get code.lines p)) place ∙ ap or_no_line shown.at_line

  body_over : (room : ℕ) (f : TFunc) (e : Entry) → Lies code f e → (s : State S)
      → (n : ℕ) × (exec world here input code n (at_start e.start room) s
      ≡ (execute_all world here input (calls room) f.body >>= (λ flow. pure (Some (returned flow)))) s)
  unfolding bind pure
  body_over room f e l s = (body_run [] room (calls_run room []) f e l s).by 0

  function_over : (room : ℕ) (f : TFunc) (e : Entry) → Lies code f e → (s : State S)
      → (n : ℕ) × (from_function world code e room (exec world here input code n) s ≡ function_does world here input funcs room f s)
  unfolding bind
  function_over room f e l s =
      let h = after_each (spend f.line s).0 (spend f.line s).1 (λ n. exec world here input code n (at_start e.start room))
      (execute_all world here input (calls room) f.body >>= (λ flow. pure (Some (returned flow)))) (body_over room f e l) in (
        h.0,
        ap (λ line. (spend line >> exec world here input code h.0 (at_start e.start room)) s) (last_line f e l) ∙ h.1,
      )

  at_entry : (f : ℕ) (fn : TFunc) (e : Entry) (o : Option TFunc) (q : Option Entry) → o ≡ Some fn → q ≡ Some e → LiesAt code o q → Lies code fn e
  at_entry f fn e None q is so l = absurd (cc)
  at_entry f fn e (Some o) None is so l = absurd (cc)
  at_entry f fn e (Some o) (Some q) is so l =
      let same : o ≡ fn = cc in
      let and : q ≡ e = cc in
      subst (λ q. Lies code fn q) and (subst (λ o. Lies code o q) same l)

  pub functions_stand : FunctionsStand world here input code funcs
  functions_stand f fn e has has_entry room s =
      function_over room fn e (at_entry f fn e (slice_get funcs f) (slice_get code.funcs f) has has_entry (laid f)) s
