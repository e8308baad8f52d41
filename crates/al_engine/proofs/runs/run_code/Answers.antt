use Rattle.std.proofs.Common.{ℕ, None, sym, subst}
use Rattle.al_core.specs.declared.typed_tree.Typed.{Typed}
use Rattle.al_core.specs.Run.{Whole, whole_run}
use Rattle.al_engine.specs.Ends.{EndsAs}
use Rattle.al_engine.specs.Jobs.{IsCodeOf, setting_of}
use Rattle.al_engine.specs.Rests.{IsNext}
use Rattle.al_engine.specs.Worlds.{whole_of}
use Rattle.al_engine.proofs.Nexts.{at_main}
use Rattle.al_engine.proofs.runs.run_code.Goals as goal

pub loop-stop-init : goal.loop-stop-init
loop-stop-init g c =
    let j = c.args.job.now in
    let m = c.in_ok-m.ensures in
    at_main j c.in_ok-m.m c.new-budget.result _ c.requires.may.valid m.0 m.1 m.2 c.new-budget.ensures (λ typed is. c.in_ok-world.ensures j typed is)

pub returns-in-Some : goal.returns-in-Some
returns-in-Some g c =
    let j = c.args.job.now in
    let n = c.in_ok-after.after in
    let w : Whole = whole_of
    (record { memory = g.S.Store.memory n.seen.store; allocations = n.seen.names; printed = n.seen.printed; accesses = None }) n.executions n.counts in
    subst (λ (left : ℕ). (typed : Typed) → IsCodeOf typed j.code.now → EndsAs (whole_run (setting_of j typed)) c.in-Some.ending w left) (sym c.left.ensures)
    (subst (IsNext j c.go_to_stop.new.m c.go_to_stop.new.budget w) c.in-Some.is c.in_ok-after.ensures)
