-- The committed chunks of each round ascend.
use Rattle.std.proofs.Common.{ℕ, zero, suc, ◌<◌, List, [], ◌∷◌, sym, subst}
use Rattle.al_core.specs.declared.choices.Choice.{Choice}
use Rattle.al_core.specs.declared.reports.Ending.{Ending}
use Rattle.al_core.specs.declared.reports.Ending.TheVariants as ending
use Rattle.al_core.specs.declared.reports.Judged.{Judged}
use Rattle.al_core.specs.Iteration.{Execution}
use Rattle.al_core.specs.Chunk.{chunk_count}
use Rattle.al_core.specs.Lockstep.{Rounds, commits, with_round, still_pending, all_chunks, no_rounds, lockstep}
use Rattle.al_laws.proofs.Commits.{next_round}
use Rattle.al_rounds_laws.specs.InOrder.{Ascend, EachRound, RoundAscends, RoundsAscend}
use Rattle.al_rounds_laws.proofs.AllRounds.{unless_last, more_rounds, all_rounds, round_pairwise, pending_pairwise, up_ascends}

abbrev Ascends : List Judged → Type 0
Ascends js = Ascend (commits js)

unless_ascend : (rs : List (List Judged)) → EachRound Ascends rs → (e : Ending) → EachRound Ascends (unless_last e rs)
unless_ascend rs h ending.Done = h
unless_ascend rs h (ending.Trap t line) = tt

rounds_from_ascend : (n : ℕ) (x : Execution) (choice : Choice) (lanes : ℕ) (pending : List ℕ) (s : Rounds) → Ascend pending
    → EachRound Ascends (more_rounds n x choice lanes pending s)
rounds_from_ascend zero x choice lanes pending s h = tt
rounds_from_ascend (suc n) x choice lanes [] s h = tt
rounds_from_ascend (suc n) x choice lanes (c ∷ cs) s h =
    let r = next_round x choice lanes (c ∷ cs) s in
    let next = still_pending lanes (c ∷ cs) r in
    let both = pending_pairwise x choice s.memory (λ c d. c < d) lanes (c ∷ cs) h in
    (both.0, unless_ascend (more_rounds n x choice lanes next (with_round r s)) (rounds_from_ascend n x choice lanes next (with_round r s) both.1) r.ending)

pub round_ascends : RoundAscends
round_ascends x choice m cs h = round_pairwise x choice m (λ c d. c < d) cs h

pub rounds_ascend : RoundsAscend
unfolding lockstep
rounds_ascend x choice lanes m =
    let n = chunk_count x in
    subst (EachRound Ascends) (sym (all_rounds n x choice lanes (all_chunks x) (no_rounds m)))
    (rounds_from_ascend n x choice lanes (all_chunks x) (no_rounds m) (up_ascends n 0))
