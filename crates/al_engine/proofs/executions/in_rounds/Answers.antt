use Rattle.al_chunk.specs.Loops.{execution_of}
use Rattle.al_engine.proofs.Entering.{rounds_result}
use Rattle.al_engine.proofs.executions.in_rounds.Goals as goal

pub returns : goal.returns
returns g c = λ typed l h.
    rounds_result (execution_of typed l c.args.x.now.job.input.now c.args.x.now.env) (g.S.Store.memory c.lockstep.new.store) c.in_ok-r.r _
    c.in_ok-counts.counts (c.in_ok-r.ensures typed l h) (c.in_ok-counts.ensures (g.S.Store.memory c.lockstep.new.store) typed l h)
