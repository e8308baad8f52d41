-- What the laws of chunks and rounds ask is met by the first loop.
use Rattle.std.proofs.Common.{ℕ, List, [], ◌∷◌, refl, arith}
use Rattle.std.specs.Prelude.{pos}
use Rattle.std.proofs.lemmas.List.Sorted.{IsPermutation-reverse}
use Rattle.al_core.specs.Chunk.{chunk_start, chunk_end}
use Rattle.al_core.specs.Readiness.{IsFresh}
use Rattle.al_rounds_laws.specs.Loops.{Each, AreDistinct}
use Rattle.al_premises_laws.specs.Executions.{first, at_first}
use Rattle.al_premises_laws.specs.Met.{LoopsStand, FirstIsAtStart, FirstIsUnnamed, FirstChunksAreFresh, FirstRoundIsMet, FirstLockstepIsMet, FirstInOrderIsMet, ChunksAscend, FirstInAnyOrderIsMet}
use Rattle.al_premises_laws.proofs.Memories.{is_unnamed}
use Rattle.al_premises_laws.proofs.Stands.{first_stands, second_stands}

pub loops_stand : LoopsStand
loops_stand = (first_stands, second_stands)

pub first_is_at_start : FirstIsAtStart
first_is_at_start = refl

-- ---- chunks

-- what each number has, those of a list have
pub each : (P : ℕ → Type 0) → ((c : ℕ) → P c) → (cs : List ℕ) → Each P cs
each P h [] = tt
each P h (c ∷ cs) = (h c, each P h cs)

pub three_differ : AreDistinct (0 ∷ 1 ∷ 2 ∷ [])
three_differ =
    (((λ e. absurd (omega (arith, e))), ((λ e. absurd (omega (arith, e))), tt)), (((λ e. absurd (omega (arith, e))), tt), (tt, tt)))

pub first_is_unnamed : FirstIsUnnamed
first_is_unnamed = is_unnamed (pos 0) (pos 0) (pos 0) (pos 0) 0 0 3

pub fresh : (c : ℕ) → IsFresh first at_first c
fresh c = is_unnamed (pos 0) (pos 0) (pos 0) (pos 0) 0 (chunk_start first c) (chunk_end first c)

all_fresh : (cs : List ℕ) → Each (IsFresh first at_first) cs
all_fresh = each (IsFresh first at_first) fresh

pub first_chunks_are_fresh : FirstChunksAreFresh
first_chunks_are_fresh = ((λ e. absurd (omega (arith, e))), fresh 0, fresh 1)

pub chunks_ascend : ChunksAscend
chunks_ascend = ((omega arith, (omega arith, tt)), ((omega arith, tt), (tt, tt)))

-- ---- rounds

pub first_round_is_met : FirstRoundIsMet
first_round_is_met = (refl, refl, three_differ, all_fresh (0 ∷ 1 ∷ 2 ∷ []))

pub first_lockstep_is_met : FirstLockstepIsMet
first_lockstep_is_met = (refl, refl, all_fresh (0 ∷ 1 ∷ 2 ∷ []))

pub first_in_order_is_met : FirstInOrderIsMet
first_in_order_is_met = (refl, refl, refl, omega arith, omega arith, all_fresh (0 ∷ 1 ∷ 2 ∷ []))

pub first_in_any_order_is_met : FirstInAnyOrderIsMet
first_in_any_order_is_met = (refl, refl, three_differ, all_fresh (0 ∷ 1 ∷ 2 ∷ []), IsPermutation-reverse _)
