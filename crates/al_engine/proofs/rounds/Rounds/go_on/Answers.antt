use Rattle.std.proofs.Common.{◌≤◌, ◌<◌, ℕ, List, length, sym, ap, ◌∙◌, subst}
use Rattle.std.specs.Prelude.{All}
use Rattle.std.specs.Int.{div_ceil}
use Rattle.al_chunk.specs.Loops.{execution_of}
use Rattle.al_engine.specs.Executions.{rounds_of}
use Rattle.al_engine.specs.Pending.{ArePending}
use Rattle.al_engine.proofs.PendingChunks.{first_some, first_there, stay, stay_pending, goes_on}
use Rattle.al_engine.proofs.rounds.Rounds.go_on.Goals as goal

pub round-requires-clause-chunks : goal.round-requires-clause-chunks
round-requires-clause-chunks g c κs within =
    let x = c.args.x.now in
    let range = c.requires.may.job.range in
    subst (λ (cs : List ℕ). (1 ≤ length cs) × (length cs ≤ 64)) (sym c.next_chunks-n.ensures.chunks)
    (first_some x.job.knobs.lanes c.args.plan.now c.requires.some range.lanes.0 range.lanes.1)

pub round-requires-clause-may : goal.round-requires-clause-may
round-requires-clause-may g c κs within =
    let x = c.args.x.now in
    let may = c.requires.may in
    let count = div_ceil x.env.trips x.env.chunk in
    record {
      valid = may.job.valid;
      one = may.one;
      bounded = may.bounded;
      there = subst (λ (cs : List ℕ). All (λ c. c < count) cs) (sym c.next_chunks-n.ensures.chunks)
          (first_there count x.job.knobs.lanes c.args.plan.now c.requires.pending);
    }

pub returns-clause-round : goal.returns-clause-round
returns-clause-round g c = λ typed l h.
    let x = c.args.x.now in
    let m = g.S.Store.memory c.args.store.now in
    let n = g.S.Store.memory c.round.new.store in
    goes_on (execution_of typed l x.job.input.now x.env) c.args.choice.now x.job.knobs.lanes c.args.plan.now _ m n c.in_ok-report.report
    (rounds_of m c.args.self.now) (rounds_of n c.add.new.self) c.settle.new.self c.next_chunks-n.ensures.chunks (c.in_ok-report.ensures.exact typed l h).each
    (c.in_ok-report.ensures.exact typed l h) (c.in_ok-add.ensures m n) (c.settle.ensures ∙ ap (stay c.args.plan.now) c.as_slice.ensures)

pub returns-clause-pending : goal.returns-clause-pending
returns-clause-pending g c =
    let x = c.args.x.now in
    let count = div_ceil x.env.trips x.env.chunk in
    subst (ArePending count) (sym c.settle.ensures) (stay_pending count c.args.plan.now c.as_slice.result.now c.requires.pending)
