use Rattle.std.proofs.Common.{◌≡◌, IfOk, Some, [], subst, ap, ◌∙◌}
use Rattle.al_core.specs.Access.{InIteration}
use Rattle.al_core.specs.Iteration.{Finished, iterations}
use Rattle.al_core.specs.Chunk.{outcome, outcome_of}
use Rattle.al_plain.specs.Executions.{execution_of}
use Rattle.al_plain.proofs.ChunkRuns.{from_iteration, same_outcome}
use Rattle.al_plain.proofs.outcomes.Outcome.run.Goals as goal

pub returns : goal.returns
returns c =
    let x = execution_of c.args.x.now in
    let first = c.range-first.result.0 in
    let count = c.range-first.result.1 in
    let content : c.recording-content.result ≡ from_iteration x c.args.reds.now c.args.memory.now first =
    c.recording-content.ensures
    ∙ (λ t. record {
      memory = c.in_ok-copy.ensures t;
      allocations = record { allocator = InIteration x.number first; next = 0; words = 0 };
      printed = [];
      accesses = Some (c.in_ok-accesses.ensures t);
    }) in
    let e : outcome_of c.in_ok-iterations.field-0 c.in_ok-iterations.field-0.content.accesses ≡ outcome x c.args.reds.now c.args.memory.now c.args.c =
    ap (λ (r : Finished). outcome_of r r.content.accesses) (c.in_ok-iterations.ensures.exact ∙ ap (iterations x count first) content)
    ∙ same_outcome x c.args.reds.now c.args.memory.now c.args.c count first c.range-first.ensures.count c.range-first.ensures.first in
    subst (λ told. IfOk c.of.result (λ o. o ≡ told)) e c.of.ensures
