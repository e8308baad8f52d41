-- A round: some chunks run on the memory at its start, and are judged and committed in order.
use Rattle.std.specs.Prelude.{ℕ, max, List, [], ◌∷◌, ◌++◌, map}
use Rattle.al_core.specs.declared.choices.Choice.{Choice}
use Rattle.al_core.specs.declared.choices.Red.{Red}
use Rattle.al_core.specs.declared.reports.Ending.{Ending}
use Rattle.al_core.specs.declared.reports.Ending.TheVariants as ending
use Rattle.al_core.specs.declared.reports.Verdict.{Verdict}
use Rattle.al_core.specs.declared.reports.Judged.{Judged}
use Rattle.al_core.specs.Memory.{Memory}
use Rattle.al_core.specs.Iteration.{Execution}
use Rattle.al_core.specs.Chunk.{Outcome, outcome}
use Rattle.al_core.specs.Verdicts.{verdicts, committed}
use Rattle.al_core.specs.Applied.{all_applied}

pub record Round : Type 0 where
  -- each chunk with its verdict
  pub verdicts : List Judged
  pub memory : Memory
  pub printed : List ℕ
  pub ending : Ending
  -- the most steps of a chunk
  pub longest : ℕ

-- each chunk with its verdict
abbrev pub with_chunks : List ℕ → List Verdict → List Judged
with_chunks [] vs = []
with_chunks (c ∷ cs) [] = []
with_chunks (c ∷ cs) (v ∷ vs) = record { chunk = c; verdict = v } ∷ with_chunks cs vs

-- bytes, and what the outcomes printed after them
abbrev pub all_printed : List Outcome → List ℕ → List ℕ
all_printed [] bytes = bytes
all_printed (o ∷ os) bytes = all_printed os (bytes ++ o.printed)

-- the ending of the last outcome, or one from before where there is none
abbrev pub last_ending : List Outcome → Ending → Ending
last_ending [] before = before
last_ending (o ∷ os) before = last_ending os o.ending

-- the most steps of an outcome, and at least so many
abbrev pub most_steps : List Outcome → ℕ → ℕ
most_steps [] n = n
most_steps (o ∷ os) n = most_steps os (max n o.steps)

-- every chunk runs on the memory at the round's start, whatever was committed before it
abbrev pub outcomes : Execution → List Red → Memory → List ℕ → List Outcome
outcomes x reds m chunks = map (outcome x reds m) chunks

-- Of the outcomes that are committed the round keeps the memory, the bytes and the ending. The longest is that of all.
abbrev pub round_of : Choice → List ℕ → Memory → List Outcome → List Verdict → Round
round_of choice chunks m os vs = record {
  verdicts = with_chunks chunks vs;
  memory = all_applied choice.reds (committed os vs) m;
  printed = all_printed (committed os vs) [];
  ending = last_ending (committed os vs) ending.Done;
  longest = most_steps os 0;
}

unfoldable pub round : Execution → Choice → List ℕ → Memory → Round
round x choice chunks m =
    let os = outcomes x choice.reds m chunks in
    round_of choice chunks m os (verdicts choice os)
