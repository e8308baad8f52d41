-- The code of a loop's body, as an iteration runs it.
use Rattle.std.proofs.Common.{◌≡◌, ℕ, suc, List, [], ◌∷◌, ◌++◌, Option, Some, None, Ok, Err, refl, sym, ap, ◌∙◌, subst}
use Rattle.std.specs.Prelude.{slice_get, ℤ, pos}
use Rattle.al_core.specs.declared.values.Val.{Val}
use Rattle.al_core.specs.declared.values.Val.TheVariants.{Int}
use Rattle.al_core.specs.declared.typed_tree.TFunc.{TFunc}
use Rattle.al_core.specs.declared.typed_tree.TStmt.{TStmt}
use Rattle.al_core.specs.World.{World}
use Rattle.al_core.specs.Action.{State, Answer, Act, after, bind, ◌>>=◌, ◌>>◌, pure, spend, set_local}
use Rattle.al_core.specs.Iteration.{calls_within}
use Rattle.al_core.specs.Loops.{Loop}
use Rattle.al_core.specs.Meaning.{Flow, Next, Broke, Continued, Returned, returned, Where, execute, call_to}
use Rattle.al_code.specs.declared.instructions.Instr.TheVariants as i
use Rattle.al_code.specs.declared.lowered.Code.{Code}
use Rattle.al_code_laws.specs.declared.plan.Op.TheVariants.{EndOf}
use Rattle.al_code.specs.Machine.{Ends, at_start}
use Rattle.al_code.specs.Runs.{exec}
use Rattle.al_code_laws.specs.Planned.{planned, Plan, past, place_of, Shows}
use Rattle.al_code_laws.specs.Tree.{stmt_code}
use Rattle.al_code.specs.Stands.{IterationsStand}
use Rattle.al_code_laws.specs.Laid.{LiesAt, BodyLies}
use Rattle.al_laws.proofs.Falls.{call_never_adds}
use Rattle.al_code_laws.proofs.Leads.{Real, Leads, has_front, has_back, leads_seam, spot, at, opened, arrive}
use Rattle.al_code_laws.proofs.StmtRuns.{flow_to}
use Rattle.al_code_laws.proofs.TreeRuns.{stmt_runs}
use Rattle.al_code_laws.proofs.CallRuns.{calls_run, after_each}

module _ {S : Type 0} (world : World S) (here : Where) (input : List ℤ) (code : Code) (funcs : List TFunc) (laid : (f : ℕ)
    → LiesAt code (slice_get funcs f) (slice_get code.funcs f)) (k : ℕ) (body : TStmt) (l : BodyLies code k body) where
  abbrev end_op : Plan
  end_op = planned (EndOf k) l.line 0 ∷ []

  abbrev inside : Plan
  inside = stmt_code body None (suc l.after) (suc l.after)

  has_end : Shows code l.after (planned (EndOf k) l.line 0)
  has_end = (has_back code l.after inside end_op l.has.1).0

  -- at the body's end the iteration is over
  over : (room : ℕ) (t : State S) → exec world here input code 1 (spot [] room [] (place_of code (suc l.after)) []) t ≡ (Ok (Some (Int (pos 0))), t)
  unfolding bind pure
  over room t = opened world here input code (spot [] room [] (place_of code (suc l.after)) []) i.EndIteration l.line 0 t (pure (Ends (Int (pos 0))))
      (has_end.op, has_end.at_line) refl

  ends : (room : ℕ) (r : Answer Flow) (t : State S) → ((f : Flow) → r ≡ Ok f → f ≡ Broke → ⊥)
      → after r t (λ f. arrive world here input code 1 (flow_to world here input code [] room [] None (suc l.after) (suc l.after) f))
      ≡ after r t (λ flow. pure (Some (returned flow)))
  unfolding bind pure
  ends room (Ok Next) t h = over room t
  ends room (Ok Broke) t h = absurd (h Broke refl refl)
  ends room (Ok Continued) t h = over room t
  ends room (Ok (Returned v)) t h = refl
  ends room (Err e) t h = refl

  abbrev ran : ℕ → State S → Type 0
  ran room s = Leads world here input code s (at code [] room [] (past (inside ++ end_op) l.after) [])
      (execute world here input (call_to world here funcs input room) body) (flow_to world here input code [] room [] None (suc l.after) (suc l.after))

  run : (room : ℕ) (s : State S) → ran room s
  run room s =
      leads_seam [] room inside end_op l.after
      (stmt_runs world here input code [] room (call_to world here funcs input room) (calls_run world here input code funcs laid room [])
      (call_never_adds world here funcs input room) body None (suc l.after) (suc l.after) (has_front code l.after inside end_op l.has.1) [] s)

  abbrev body_does : ℕ → Act S (Option Val)
  body_does room = execute world here input (call_to world here funcs input room) body >>= (λ flow. pure (Some (returned flow)))

  from_start : (room : ℕ) (s : State S)
      → (n : ℕ) × (exec world here input code n (at_start l.has.0.op.body.start room) s ≡ body_does room s)
  unfolding bind
  from_start room s =
      let h = run room s in
      let p = h.by 1 in
      let r = execute world here input (call_to world here funcs input room) body s in (
        p.0,
        ap (λ n. exec world here input code p.0 (at_start n room) s) l.has.0.op.starts
            ∙ p.1
            ∙ ends room r.0 r.1
            (λ f so broke. subst (λ f. Real (flow_to world here input code [] room [] None (suc l.after) (suc l.after) f)) broke (h.real tt f so)),
      )

  -- the step, the counter and the body
  pub iterations_stand : (loop : Loop) → loop.body ≡ body → IterationsStand world here input code funcs loop l.has.0.op.body
  unfolding bind
  iterations_stand loop is counter s =
      let line = loop.info.line in
      let set = set_local world loop.info.counter (Int counter) line in
      let b = l.has.0.op.body in
      let inner = λ (t : State S). after_each (set t).0 (set t).1 (λ n. exec world here input code n (at_start b.start calls_within))
      (body_does calls_within) (from_start calls_within) in
      let outer = after_each (spend line s).0 (spend line s).1 (λ n. set >> exec world here input code n (at_start b.start calls_within))
      (set >> body_does calls_within) inner in (
        outer.0,
        outer.1
            ∙ ap (λ body. (spend line >> (set >>
            (execute world here input (call_to world here funcs input calls_within) body >>= (λ flow. pure (Some (returned flow)))))) s) (sym is),
      )
