use Rattle.std.proofs.Common.{◌≡◌, ◌-◌, suc, Err, sym, ap, ◌∙◌, arith, refl}
use Rattle.al_core.specs.declared.values.Trap.TheVariants as trap
use Rattle.al_exec.specs.declared.machine.Machine.{Machine}
use Rattle.al_exec.specs.Active.{Active, state_of}
use Rattle.al_exec.proofs.Looping.{unpaid, over, over_fault, body_fault, in_the_body}
use Rattle.al_exec.proofs.machine.Machine.trip.Goals as goal

pub returns-then-not-spend-clause-trips : goal.returns-then-not-spend-clause-trips
returns-then-not-spend-clause-trips g c line inner =
    let x = c.args.x in
    let m = c.args.self.now in
    let w = g.V.View.content c.args.view.now in
    let out = c.if-not-spend.ensures.out refl in
    let some : x.left ≡ suc (x.left - 1) = omega (arith, c.if-left-eq0.false, c.left.ensures) in
    unpaid c.args.counter c.args.body x m w line inner (x.left - 1) some out.0
    ∙ (λ j. (Err (trap.Steps, line), state_of (sym out.1 j) w))

pub returns-in-Err-clause-trips : goal.returns-in-Err-clause-trips
returns-in-Err-clause-trips g c =
    let m : Machine = c.args.self.now in
    let m' : Machine = record m { active = c.set_counter.new.self } in
    over_fault c.args.counter c.args.body c.args.x m m' (g.V.View.content c.args.view.now) (g.V.View.content c.set_counter.new.view)
    c.set_counter.new.self c.end.result c.in-Err.e (sym c.left.ensures ∙ c.if-left-eq0.true) c.end.ensures c.in-Err.ensures.did refl

pub returns-then-left-eq0-clause-trips : goal.returns-then-left-eq0-clause-trips
returns-then-left-eq0-clause-trips g c =
    let m : Machine = c.args.self.now in
    let m' : Machine = record m { active = c.goto.new.self } in
    over c.args.counter c.args.body c.args.x m m' (g.V.View.content c.args.view.now) (g.V.View.content c.set_counter.new.view)
    c.set_counter.new.self c.end.result (sym c.left.ensures ∙ c.if-left-eq0.true) c.end.ensures c.in_default.ensures.did c.set_counter.ensures.kept
    (ap (λ (s : Active). record m { active = s }) c.goto.ensures)

pub returns-in-Err-set_counter-clause-trips : goal.returns-in-Err-set_counter-clause-trips
returns-in-Err-set_counter-clause-trips g c =
    let m : Machine = c.args.self.now in
    let m' : Machine = record m { active = c.set_counter-2.new.self } in
    let some : c.args.x.left ≡ suc (c.args.x.left - 1) = omega (arith, c.if-left-eq0.false, c.left.ensures) in
    let paid = c.if-not-spend.ensures.paid refl in
    body_fault c.args.counter c.args.body c.args.x m m' (g.V.View.content c.args.view.now) (g.V.View.content c.set_counter-2.new.view)
    c.set_counter-2.new.self c.counter.result c.spend.new.self (c.args.x.left - 1) some paid.0 paid.1 c.counter.ensures
    c.in-Err-set_counter.e c.in-Err-set_counter.ensures.did refl

pub returns-clause-trips : goal.returns-clause-trips
returns-clause-trips g c =
    let m : Machine = c.args.self.now in
    let m2 : Machine = record m { active = c.goto-2.new.self } in
    let some : c.args.x.left ≡ suc (c.args.x.left - 1) = omega (arith, c.if-left-eq0.false, c.left.ensures) in
    let paid = c.if-not-spend.ensures.paid refl in
    in_the_body c.args.counter c.args.body c.args.x m c.begin.new.self (g.V.View.content c.args.view.now) (g.V.View.content c.set_counter-2.new.view)
    c.set_counter-2.new.self c.counter.result c.spend.new.self (c.args.x.left - 1) some paid.0 paid.1 c.counter.ensures
    c.in_default-set_counter.ensures.did c.set_counter-2.ensures.kept m2 (ap (λ (s : Active). record m { active = s }) c.goto-2.ensures)
    c.turn.result c.turn.ensures c.in_ok-begin.ensures.ok
