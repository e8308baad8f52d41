use Rattle.std.proofs.Common.{rules, ◌≡◌, w64, Ok, Err, sym, ap, ◌∙◌, subst, refl}
use Rattle.std.proofs.lemmas.Int.{to_z-of_z}
use mir.Val.{SFits}
use Rattle.al_core.specs.declared.values.Val.TheVariants.{Int}
use Rattle.al_core.specs.declared.values.Trap.TheVariants as trap
use Rattle.al_core.specs.Action.{set_local}
use Rattle.al_core.specs.Access.{in_iteration}
use Rattle.al_exec.specs.declared.machine.Machine.{Machine}
use Rattle.al_exec.specs.declared.machine.Start.TheVariants as start
use Rattle.al_core.specs.declared.view.ViewFault.TheVariants as fault
use Rattle.al_exec.specs.Meets.{Answers}
use Rattle.al_exec.specs.Active.{Active, state_of}
use Rattle.al_exec.proofs.Beginning.{function_unpaid, function_paid, iteration_unpaid, iteration_goes, changed}
use Rattle.al_exec.proofs.machine.Machine.begin_run.Goals as goal

pub returns-then-not-spend-clause-begins : goal.returns-then-not-spend-clause-begins
returns-then-not-spend-clause-begins g c run n =
    let out = c.if-not-spend.ensures.out refl in
    function_unpaid c.args.self.now (g.V.View.content c.args.view.now) run n c.in-Function.line c.in-Function.is out.0
    ∙ (λ j. (Err (trap.Steps, c.in-Function.line), state_of (sym out.1 j) (g.V.View.content c.args.view.now)))

pub returns-then-not-spend-2-clause-begins : goal.returns-then-not-spend-2-clause-begins
returns-then-not-spend-2-clause-begins g c run n =
    let out = c.if-not-spend-2.ensures.out refl in
    iteration_unpaid c.args.self.now (g.V.View.content c.args.view.now) run n
    c.in-Iteration.line c.in-Iteration.counter c.in-Iteration.n c.in-Iteration.is out.0
    ∙ (λ j. (Err (trap.Steps, c.in-Iteration.line), state_of (sym out.1 j) (g.V.View.content c.args.view.now)))

pub returns-else-not-spend-clause-begins : goal.returns-else-not-spend-clause-begins
returns-else-not-spend-clause-begins g c =
    let m : Machine = c.args.self.now in
    let paid = c.if-not-spend.ensures.paid refl in
    let s1 : Active = c.spend.new.self in
    let same : s1 ≡ record m.active { locals = s1.locals; budget = s1.budget } = changed m.active s1 s1 paid.1 refl in
    record {
      did = λ run n.
          function_paid m (g.V.View.content c.args.view.now) run n c.in-Function.line s1.budget c.in-Function.is paid.0
          ∙ (λ j. run n (state_of (sym paid.1 j) (g.V.View.content c.args.view.now)));
      same = ap (λ (s : Active). record m { active = s; start = start.Running }) same;
    }

pub returns-in-Ok-clause-begins : goal.returns-in-Ok-clause-begins
returns-in-Ok-clause-begins g c =
    let m : Machine = c.args.self.now in
    let paid = c.if-not-spend-2.ensures.paid refl in
    let s1 : Active = c.spend-in-Iteration.new.self in
    let s2 : Active = c.set_counter.new.self in
    let fits : SFits w64 c.in-Iteration.n = search rules in
    let v : c.from_int.result ≡ Int c.in-Iteration.n = c.from_int.ensures ∙ ap Int (to_z-of_z w64 c.in-Iteration.n fits) in
    let same : s2 ≡ record m.active { locals = s2.locals; budget = s2.budget } = changed m.active s1 s2 paid.1 c.set_counter.ensures.kept in
    record {
      did = λ run n.
          iteration_goes m (g.V.View.content c.args.view.now) run n c.in-Iteration.line c.in-Iteration.counter c.in-Iteration.n s1.budget
          (Ok tt, state_of s2 (g.V.View.content c.set_counter.new.view)) c.in-Iteration.is paid.0
          ((λ j. set_local in_iteration c.in-Iteration.counter (sym v j) c.in-Iteration.line (state_of (sym paid.1 j) (g.V.View.content c.args.view.now)))
          ∙ c.in-Ok.ensures.did c.in-Iteration.line);
      same = ap (λ (s : Active). record m { active = s; start = start.Running }) same;
    }

pub returns-in-Err-Trap-clause-begins : goal.returns-in-Err-Trap-clause-begins
returns-in-Err-Trap-clause-begins g c run n =
    let m : Machine = c.args.self.now in
    let paid = c.if-not-spend-2.ensures.paid refl in
    let s1 : Active = c.spend-in-Iteration.new.self in
    let s2 : Active = c.set_counter.new.self in
    let fits : SFits w64 c.in-Iteration.n = search rules in
    let v : c.from_int.result ≡ Int c.in-Iteration.n = c.from_int.ensures ∙ ap Int (to_z-of_z w64 c.in-Iteration.n fits) in
    let did : Answers (set_local in_iteration c.in-Iteration.counter c.from_int.result) s1
    (g.V.View.content c.args.view.now) (Err (fault.Trap c.in-Err-Trap.t)) s2 (g.V.View.content c.set_counter.new.view) =
    subst (λ r. Answers (set_local in_iteration c.in-Iteration.counter c.from_int.result) s1
    (g.V.View.content c.args.view.now) r s2 (g.V.View.content c.set_counter.new.view))
    (c.in-Err-Trap.is ∙ ap Err c.in-Err-Trap.field-0-is) c.set_counter.ensures.did in
    iteration_goes m (g.V.View.content c.args.view.now) run n c.in-Iteration.line c.in-Iteration.counter c.in-Iteration.n s1.budget
    (Err (c.in-Err-Trap.t, c.in-Iteration.line), state_of s2 (g.V.View.content c.set_counter.new.view)) c.in-Iteration.is paid.0
    ((λ j. set_local in_iteration c.in-Iteration.counter (sym v j) c.in-Iteration.line (state_of (sym paid.1 j) (g.V.View.content c.args.view.now)))
    ∙ did c.in-Iteration.line)
