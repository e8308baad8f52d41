use Rattle.std.proofs.Common.{None, sym, ap, refl, ◌∙◌}
use Rattle.std.proofs.lemmas.Result.{IfOk-weaker}
use Rattle.al_core.specs.Memory.{Memory}
use Rattle.al_core.specs.Run.{Whole}
use Rattle.al_engine.specs.Executions.{loop_result}
use Rattle.al_engine.specs.Worlds.{whole_of}
use Rattle.al_engine.proofs.Entering.{run_loop_is}
use Rattle.al_engine.proofs.world.World.run_loop.Goals as goal

pub returns-clause-did : goal.returns-clause-did
returns-clause-did g c =
    let s = c.args.self in
    let d = c.in_ok-done.done in
    let seen = c.finish-store.ensures in
    let w : Whole = whole_of
    (record { memory = g.S.Store.memory s.seen.store; allocations = s.seen.names; printed = s.seen.printed; accesses = None }) s.executions s.counts in
    IfOk-weaker c.come_back.result _ _
    (λ r told typed l h.
    run_loop_is c.args.x.now c.requires.may w c.args.locals (g.S.Store.memory c.set_locals.new.self)
    (c.set_locals.ensures.memory ∙ ap (λ (m : Memory). record m { locals = c.args.locals }) seen.store)
    (loop_result (g.S.Store.memory d.store) d.printed d.ending d.counts) c.in_ok-done.ensures typed l h
    ∙ told c.args.locals w (record {
      allocations = sym seen.names;
      printed = sym seen.printed;
      accesses = refl;
      executions = refl;
      counts = refl;
    }) typed l h)
    c.come_back.ensures.did
