-- The counts of an execution in rounds, round after round.
use Rattle.std.specs.Prelude.{ℕ, ◌+◌, List, [], ◌∷◌, ◌++◌, length}
use Rattle.al_core.specs.declared.reports.Event.{Event}
use Rattle.al_core.specs.declared.reports.Event.TheVariants as event
use Rattle.al_core.specs.declared.reports.Judged.{Judged}
use Rattle.al_core.specs.Lockstep.{not_committed}
use Rattle.al_core.specs.Run.{Counts}

abbrev pub entered : Event → Counts → Counts
entered enter n = record n { loops = n.loops + 1; events = n.events ++ enter ∷ [] }

abbrev pub with_round : List Judged → Counts → Counts
with_round r n = record n {
  rounds = n.rounds + 1;
  attempts = n.attempts + length r;
  aborted = n.aborted + length (not_committed r);
  events = n.events ++ event.Round r ∷ [];
}

abbrev pub with_rounds : List (List Judged) → Counts → Counts
with_rounds [] n = n
with_rounds (r ∷ rs) n = with_rounds rs (with_round r n)

abbrev pub with_steps : ℕ → Counts → Counts
with_steps steps n = record n { span = n.span + steps }
