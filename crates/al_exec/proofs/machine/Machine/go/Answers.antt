use Rattle.std.proofs.Common.{◌≡◌, sym, ap, ◌∙◌, subst, refl, arith}
use Rattle.al_exec.specs.declared.machine.Machine.{Machine}
use Rattle.al_exec.specs.declared.machine.Start.TheVariants as start
use Rattle.al_exec.specs.declared.stop.Stop.{Stop}
use Rattle.al_exec.specs.Active.{Active}
use Rattle.al_exec.specs.Machines.{state_in}
use Rattle.al_exec.specs.Going.{run_of, state_with, StopsAs}
use Rattle.al_exec.proofs.Starting.{given_back}
use Rattle.al_exec.proofs.Beginnings.{room_kept}
use Rattle.al_exec.proofs.machine.Machine.go.Goals as goal

pub returns-clause-stops : goal.returns-clause-stops
returns-clause-stops g c =
    let code = c.args.code.now in
    let input = c.args.input.now in
    let m : Machine = c.args.self.now in
    let w = g.V.View.content c.args.view.now in
    let after : Machine = c.run_from_start.new.self in
    let w' = g.V.View.content c.run_from_start.new.view in
    let stop : Stop = c.in_ok-stop.stop in
    let m' : Machine = record after { start = start.Running } in
    let budgeted : c.set_budget.new.self ≡ record m.active { budget = c.args.budget.now } =
    c.set_budget.ensures ∙ ap (λ k. record m.active { budget = k }) c.left.ensures in
    let stopped : StopsAs code m.inside (run_of input code m) (state_with m c.args.budget.now w) stop after after.active.budget w' =
    subst
    (λ (s : Active).
    StopsAs code m.inside (run_of input code (record m { active = s })) (state_in (record m { active = s }) w) stop after after.active.budget w')
    budgeted c.in_ok-stop.ensures.stops in
    subst
    (λ n. StopsAs code m.inside (run_of input code m) (state_with m c.args.budget.now w) stop m' n w')
    (sym (c.new.ensures ∙ c.budget.ensures))
    (given_back code m.inside (run_of input code m) (state_with m c.args.budget.now w) stop after m' w' refl stopped)

pub returns-clause-room : goal.returns-clause-room
returns-clause-room g c info room =
    let m : Machine = c.args.self.now in
    let m' : Machine = record c.run_from_start.new.self { start = start.Running } in
    let same = ap (λ (s : Active). s.size) c.set_budget.ensures in
    let kept = c.in_ok-stop.ensures.kept in
    room_kept c.args.code.now info m m' (record { cells = omega (arith, same, kept.cells); tallest = kept.tallest }) room
