-- One action after another, as a function with `?` does them.
use Rattle.std.proofs.Common.{◌≡◌, Result, Ok, Err, ap, sym, subst, ◌∙◌}
use Rattle.std.specs.Prelude.{IsErrAnd}
use Rattle.al_source.specs.Answers.{Does}
use Rattle.al_core.specs.Action.{State, Answer, Act, after, bind}
use Rattle.al_core.specs.Meaning.{Flow}
use Rattle.al_interpreter.specs.declared.fault.Fault.{Fault}
use Rattle.al_interpreter.specs.declared.fault.Fault.TheVariants as fault
use Rattle.al_interpreter.specs.declared.flow.Flow.{Flow as Kept}
use Rattle.al_interpreter.specs.Faults.{stopped}
use Rattle.al_interpreter.specs.Flows.{flowed}

module _ {A B S : Type 0} where
  -- an action that answers, and then what comes next
  pub goes : (p : Act S A) (f : A → Act S B) (s t u : State S) (a : A) (r : Result B Fault) → p s ≡ (Ok a, t) → Does {A = B} stopped (f a t) r u
      → Does {A = B} stopped (bind p f s) r u
  unfolding bind
  goes p f s t u a r is did = subst (λ (x : Answer A × State S). Does {A = B} stopped (after x.0 x.1 f) r u) (sym is) did

  pub goes_to : (p : Act S A) (f : A → Act S B) (s t : State S) (a : A) (r : Answer B × State S) → p s ≡ (Ok a, t) → f a t ≡ r → bind p f s ≡ r
  unfolding bind
  goes_to p f s t a r is did = ap (λ (x : Answer A × State S). after x.0 x.1 f) is ∙ did

  -- an action that has none, whatever comes next
  pub ends : (p : Act S A) (f : A → Act S B) (s t : State S) (e : Fault) → Does {A = A} stopped (p s) (Err e) t
      → Does {A = B} stopped (bind p f s) (Err e) t
  unfolding bind
  ends p f s t (fault.Trap c line) did = ap (λ (r : Answer A × State S). after r.0 r.1 f) did
  ends p f s t fault.Memory did = did

  pub stops : (p : Act S A) (f : A → Act S B) (s t : State S) (e : Fault) (r : Result B Fault) → IsErrAnd r (λ x. x ≡ e)
      → Does {A = A} stopped (p s) (Err e) t → Does {A = B} stopped (bind p f s) r t
  stops p f s t e (Err x) is did = subst (λ (x : Fault). Does {A = B} stopped (bind p f s) (Err x) t) (sym is) (ends p f s t e did)
  stops p f s t e (Ok b) is did = absurd is

module _ {S : Type 0} where
  -- the fault that `?` hands on, where a flow is answered
  pub as_flow : (told : Answer Flow × State S) (t : State S) (e : Fault) (r : Result Kept Fault) → IsErrAnd r (λ x. x ≡ e)
      → Does {A = Flow} stopped told (Err e) t → Does {A = Flow} stopped told (flowed r) t
  as_flow told t e (Err x) is did = subst (λ (x : Fault). Does {A = Flow} stopped told (Err x) t) (sym is) did
  as_flow told t e (Ok b) is did = absurd is

module _ {A S : Type 0} where
  pub flow_stops : (p : Act S A) (f : A → Act S Flow) (s t : State S) (e : Fault) (r : Result Kept Fault) → IsErrAnd r (λ x. x ≡ e)
      → Does {A = A} stopped (p s) (Err e) t → Does {A = Flow} stopped (bind p f s) (flowed r) t
  flow_stops p f s t e r is did = as_flow (bind p f s) t e r is (ends p f s t e did)
