-- Where a chunk and a plain loop start, and what comes of them.
use Rattle.std.proofs.Common.{◌≡◌, ℕ, List, [], Some, None, sym, ap, ◌∙◌}
use Rattle.al_core.specs.declared.choices.Red.{Red}
use Rattle.al_core.specs.Memory.{Memory}
use Rattle.al_core.specs.Access.{Allocations, Content, nothing_made}
use Rattle.al_core.specs.Chunk.{chunk_start, chunk_trips, fresh_accesses, chunk_from, gathered_from, outcome}
use Rattle.al_core.specs.Iteration.{Execution, Finished, iterations}
use Rattle.al_core.specs.Serial.{plain_loop}

pub chunk_starts : (x : Execution) (reds given : List Red) (m : Memory) (c first : ℕ) (names : Allocations) (w : Content)
    → names ≡ nothing_made x.number first → first ≡ chunk_start x c → given ≡ reds
    → w ≡ record { memory = m; allocations = names; printed = []; accesses = Some (fresh_accesses given) } → w ≡ chunk_from x reds m c
chunk_starts x reds given m c first names w en ef eg e =
    e ∙ (λ t. record {
      memory = m;
      allocations = (en ∙ ap (nothing_made x.number) ef) t;
      printed = [];
      accesses = Some (fresh_accesses (eg t));
    })

pub chunk_gives : (x : Execution) (reds : List Red) (m : Memory) (c first count : ℕ) (w : Content) (r : Finished)
    → w ≡ chunk_from x reds m c → first ≡ chunk_start x c → count ≡ chunk_trips x c → iterations x count first w ≡ r
    → gathered_from r ≡ outcome x reds m c
unfolding outcome
chunk_gives x reds m c first count w r ew ef ec e = ap gathered_from (sym e ∙ (λ t. iterations x (ec t) (ef t) (ew t)))

pub loop_gives : (x : Execution) (m : Memory) (names : Allocations) (w : Content) (r : Finished) → names ≡ nothing_made x.number 0
    → w ≡ record { memory = m; allocations = names; printed = []; accesses = None } → iterations x x.trips 0 w ≡ r → plain_loop x m ≡ r
unfolding plain_loop
loop_gives x m names w r en ew e =
    let start : w ≡ record { memory = m; allocations = nothing_made x.number 0; printed = []; accesses = None } =
    ew ∙ (λ t. record { memory = m; allocations = en t; printed = []; accesses = None }) in
    sym (ap (iterations x x.trips 0) start) ∙ e
