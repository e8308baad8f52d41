use Rattle.std.proofs.Common.{None}
use Rattle.std.specs.Int.{w64}
use Rattle.std.proofs.lemmas.Int.{to_z-of_z}
use Rattle.al_core.specs.declared.reports.Ending.TheVariants as ending
use Rattle.al_core.specs.Run.{Whole}
use Rattle.al_engine.specs.Worlds.{whole_of}
use Rattle.al_engine.proofs.Nexts.{told, answered_on, answered_trap}
use Rattle.al_engine.proofs.runs.answer_stop.Goals as goal

pub returns-in_ok-go_on-in-Done : goal.returns-in_ok-go_on-in-Done
returns-in_ok-go_on-in-Done g c =
    let a = c.args in
    let s = a.world in
    let d = c.in_ok-done.done in
    let n = d.world in
    let w : Whole = whole_of
    (record { memory = g.S.Store.memory s.seen.store; allocations = s.seen.names; printed = s.seen.printed; accesses = None }) s.executions s.counts in
    let v : Whole = whole_of
    (record { memory = g.S.Store.memory n.seen.store; allocations = n.seen.names; printed = n.seen.printed; accesses = None }) n.executions n.counts in
    answered_on a.job.now c.requires.may.valid a.number a.lo a.hi a.m.now a.left w c.requires.stopped v d.locals
    (told a.job.now c.requires.may.valid a.number a.lo a.hi a.m.now a.left w c.requires.stopped v d.locals d.ending ending.Done c.in-Done.is
    c.locals.result.now c.locals.ensures _ _ (to_z-of_z w64 a.lo c.ranges.lo) (to_z-of_z w64 a.hi c.ranges.hi) c.in_ok-done.ensures.did)
    c.go_on.new.m c.in_ok-go_on-in-Done.ensures.set (c.in_ok-go_on-in-Done.ensures.stands a.job.now.code.now c.requires.stopped.stands)

pub returns-in-Trap : goal.returns-in-Trap
returns-in-Trap g c =
    let a = c.args in
    let s = a.world in
    let d = c.in_ok-done.done in
    let n = d.world in
    let w : Whole = whole_of
    (record { memory = g.S.Store.memory s.seen.store; allocations = s.seen.names; printed = s.seen.printed; accesses = None }) s.executions s.counts in
    let v : Whole = whole_of
    (record { memory = g.S.Store.memory n.seen.store; allocations = n.seen.names; printed = n.seen.printed; accesses = None }) n.executions n.counts in
    answered_trap a.job.now c.requires.may.valid a.number a.lo a.hi a.m.now a.left w c.requires.stopped v c.in-Trap.t c.in-Trap.line d.locals
    (told a.job.now c.requires.may.valid a.number a.lo a.hi a.m.now a.left w c.requires.stopped v d.locals d.ending
    (ending.Trap c.in-Trap.t c.in-Trap.line) c.in-Trap.is
    c.locals.result.now c.locals.ensures _ _ (to_z-of_z w64 a.lo c.ranges.lo) (to_z-of_z w64 a.hi c.ranges.hi) c.in_ok-done.ensures.did)
    a.m.now
