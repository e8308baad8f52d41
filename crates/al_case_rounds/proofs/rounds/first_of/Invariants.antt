use Rattle.std.proofs.Common.{◌<◌, ◌≤◌, length}
use Rattle.std.specs.Prelude.{All}
use Rattle.std.specs.Int.{div_ceil}
use Rattle.al_case_rounds.proofs.rounds.first_of.Given as goal

abbrev pub invariant-loop-chunk : goal.invariant-loop-chunk
invariant-loop-chunk l =
    (All (λ c. c < div_ceil l.env.trips l.env.chunk) l.chunks.items) × (length l.chunks.items ≤ 64)
