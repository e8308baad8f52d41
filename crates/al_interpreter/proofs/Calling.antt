-- A call, as the code does it.
use Rattle.std.proofs.Common.{◌≡◌, ℕ, suc, ◌-◌, ◌<◌, List, Option, Result, Ok, sym, ap, subst, ◌∙◌, arith}
use Rattle.std.specs.Prelude.{ℤ, slice_get}
use Rattle.al_source.specs.Answers.{Does}
use Rattle.al_core.specs.declared.values.Val.{Val}
use Rattle.al_core.specs.declared.typed_tree.TFunc.{TFunc}
use Rattle.al_core.specs.declared.typed_tree.TStmt.{TStmt}
use Rattle.al_core.specs.World.{World}
use Rattle.al_core.specs.Action.{Frame, State, Act, spend, enter, leave, ◌>>=◌, ◌>>◌}
use Rattle.al_core.specs.Meaning.{Where, call_to, execute_all, frame_of, body_of, returned}
use Rattle.al_interpreter.specs.declared.fault.Fault.{Fault}
use Rattle.al_interpreter.specs.Faults.{stopped}
use Rattle.al_interpreter.proofs.Chains.{goes}

module _ {S : Type 0} (world : World S) (here : Where) (funcs : List TFunc) (input : List ℤ) (room f line : ℕ) (args : List Val) where
  abbrev called : Act S Val
  called = call_to world here funcs input room f args line

  -- the body of a function, and then the frame of its caller again
  abbrev does_body : List TStmt → Frame → Act S Val
  does_body body old = execute_all world here input (call_to world here funcs input (room - 1)) body >>= (λ flow. leave old (returned flow))

  abbrev enters : Option TFunc → Act S Val
  enters o = enter (frame_of o args) >>= does_body (body_of o)

  module _ (s v : State S) (r : Result Val Fault) where
    pub begun : 0 < room → Does {A = Val} stopped ((spend line >> enters (slice_get funcs f)) s) r v → Does {A = Val} stopped (called s) r v
    begun some did =
        let more : room ≡ suc (room - 1) = omega arith in
        subst (λ (p : Act S Val). Does {A = Val} stopped (p s) r v) (sym (ap (λ n. call_to world here funcs input n f args line) more)) did

    pub entered : (o : Option TFunc) (body : List TStmt) (frame old : Frame) (x : Unit {0}) (t u : State S) → 0 < room → spend line s ≡ (Ok x, t)
        → o ≡ slice_get funcs f → frame ≡ frame_of o args → enter frame t ≡ (Ok old, u) → body ≡ body_of o
        → Does {A = Val} stopped (does_body body old u) r v → Does {A = Val} stopped (called s) r v
    entered o body frame old x t u some spent found fresh went is did =
        begun some (goes (spend line) (λ x. enters (slice_get funcs f)) s t v x r spent
        (subst (λ (o : Option TFunc). Does {A = Val} stopped (enters o t) r v) found
        (goes (enter (frame_of o args)) (does_body (body_of o)) t u v old r (ap (λ (frame : Frame). enter frame t) (sym fresh) ∙ went)
        (subst (λ (body : List TStmt). Does {A = Val} stopped (does_body body old u) r v) is did))))
