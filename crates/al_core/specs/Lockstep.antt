-- An annotated loop in rounds, until nothing is pending or a trap was committed.
use Rattle.std.specs.Prelude.{ℕ, zero, suc, ◌+◌, not, List, [], ◌∷◌, ◌++◌, take, drop}
use Rattle.al_core.specs.declared.choices.Choice.{Choice}
use Rattle.al_core.specs.declared.reports.Ending.{Ending}
use Rattle.al_core.specs.declared.reports.Ending.TheVariants as ending
use Rattle.al_core.specs.declared.reports.Judged.{Judged}
use Rattle.al_core.specs.Memory.{Memory}
use Rattle.al_core.specs.Iteration.{Execution}
use Rattle.al_core.specs.Chunk.{chunk_count}
use Rattle.al_core.specs.Verdicts.{is_committed, cons_if}
use Rattle.al_core.specs.Round.{Round, round}

-- the chunks of a round that stay pending, and those that were committed
abbrev pub not_committed : List Judged → List ℕ
not_committed [] = []
not_committed (j ∷ js) = cons_if (not (is_committed j.verdict)) j.chunk (not_committed js)

abbrev pub commits : List Judged → List ℕ
commits [] = []
commits (j ∷ js) = cons_if (is_committed j.verdict) j.chunk (commits js)

-- what the rounds have come to
pub record Rounds : Type 0 where
  pub memory : Memory
  pub printed : List ℕ
  pub ending : Ending
  -- the verdicts of each round
  pub rounds : List (List Judged)
  -- for each round the steps of its longest chunk, added up
  pub span : ℕ

abbrev pub with_round : Round → Rounds → Rounds
with_round r so_far = record {
  memory = r.memory;
  printed = so_far.printed ++ r.printed;
  ending = r.ending;
  rounds = so_far.rounds ++ r.verdicts ∷ [];
  span = so_far.span + r.longest;
}

-- the committed chunks are taken away
abbrev pub still_pending : ℕ → List ℕ → Round → List ℕ
still_pending lanes pending r = not_committed r.verdicts ++ drop lanes pending

-- a committed trap ends the execution
abbrev pub unless_trapped : Ending → Rounds → Rounds → Rounds
unless_trapped ending.Done ended more = more
unless_trapped (ending.Trap t line) ended more = ended

-- At most so many rounds more. The first chunk of a round meets nothing and commits, so as many as there are pending
-- chunks are enough.
abbrev pub rounds_from : ℕ → Execution → Choice → ℕ → List ℕ → Rounds → Rounds
rounds_from zero x choice lanes pending so_far = so_far
rounds_from (suc n) x choice lanes [] so_far = so_far
rounds_from (suc n) x choice lanes (c ∷ cs) so_far =
    let r = round x choice (take lanes (c ∷ cs)) so_far.memory in
    unless_trapped r.ending (with_round r so_far)
    (rounds_from n x choice lanes (still_pending lanes (c ∷ cs) r) (with_round r so_far))

abbrev pub up_from : ℕ → ℕ → List ℕ
up_from zero c = []
up_from (suc n) c = c ∷ up_from n (suc c)

-- all chunks, in ascending order
abbrev pub all_chunks : Execution → List ℕ
all_chunks x = up_from (chunk_count x) 0

abbrev pub no_rounds : Memory → Rounds
no_rounds m = record { memory = m; printed = []; ending = ending.Done; rounds = []; span = 0 }

unfoldable pub lockstep : Execution → Choice → ℕ → Memory → Rounds
lockstep x choice lanes m = rounds_from (chunk_count x) x choice lanes (all_chunks x) (no_rounds m)

-- the chunks that were committed, round after round
abbrev pub commits_of : List (List Judged) → List ℕ
commits_of [] = []
commits_of (r ∷ rs) = commits r ++ commits_of rs
