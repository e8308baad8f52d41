-- Verdicts on pieces, one after another.
use Rattle.std.specs.Prelude.{◌≡◌, ℕ, Bool, true, false, ◌&&◌, ◌||◌, if◌then◌else◌, List, [], ◌∷◌, map}
use Rattle.al_source.specs.declared.annotations.CommitOrder.{CommitOrder}
use Rattle.al_core.specs.declared.choices.Choice.{Choice}
use Rattle.al_core.specs.declared.reports.Ending.{Ending}
use Rattle.al_core.specs.declared.reports.Ending.TheVariants as ending
use Rattle.al_core.specs.declared.reports.Verdict.{Verdict}
use Rattle.al_core.specs.declared.reports.Verdict.TheVariants as verdict
use Rattle.al_core.specs.Chunk.{Outcome}
use Rattle.al_core.specs.Clash.{clashes}
use Rattle.al_core.specs.Verdicts.{Judging, nothing_judged, is_in_order, verdict_of, judged, verdicts}
use Rattle.al_board.specs.Core.{Event, IsHistory, played, first_pieces}
use Rattle.al_board.specs.Verdicts as board

abbrev pub ends_in_trap : Ending → Bool
ends_in_trap ending.Done = false
ends_in_trap (ending.Trap t line) = true

-- a choice without its reductions, on which no verdict depends
abbrev pub unreduced : Choice → Choice
unreduced choice = record choice { reds = [] }

-- what later verdicts depend on, after these outcomes
abbrev pub judging_after : Choice → Judging → List Outcome → Judging
judging_after choice earlier [] = earlier
judging_after choice earlier (o ∷ os) = judging_after choice (judged choice earlier o) os

-- an outcome clashes with what one of these touched
abbrev pub clashes_with_one : Choice → Outcome → List Outcome → Bool
clashes_with_one choice o [] = false
clashes_with_one choice o (e ∷ es) =
    clashes choice.policy choice.line o e.touched || clashes_with_one choice o es

-- the verdict, where it is known whether one failed, whether a trap was committed, whether the outcome clashes and
-- whether it ends in a trap
abbrev pub verdict_by : CommitOrder → (failed trapped met trap : Bool) → Verdict
verdict_by order failed trapped met trap =
    if (is_in_order order && failed) || trapped then verdict.After
    else if met then verdict.Fail
    else if trap then verdict.CommitTrap
    else verdict.Commit

-- whether one has failed, after this verdict
abbrev pub failed_after : Verdict → Bool → Bool
failed_after verdict.Commit failed = failed
failed_after verdict.CommitTrap failed = failed
failed_after verdict.Fail failed = true
failed_after verdict.After failed = failed

-- whether a trap was committed, after this verdict
abbrev pub trapped_after : Verdict → Bool → Bool
trapped_after verdict.Commit trapped = trapped
trapped_after verdict.CommitTrap trapped = true
trapped_after verdict.Fail trapped = trapped
trapped_after verdict.After trapped = trapped

module _ {T : Type 0} (outcome : T → Outcome) (choice : Choice) where
  -- the verdict on a piece, judged after those before it
  abbrev pub verdict_after : List T → T → Verdict
  verdict_after before piece =
      verdict_of choice (judging_after choice nothing_judged (map outcome before)) (outcome piece)

  -- the verdicts on pieces: those on their outcomes, in order
  abbrev pub verdicts_on : List T → List Verdict
  verdicts_on pieces = verdicts choice (map outcome pieces)

  -- after any legal history of a board's events the verdicts are those on the pieces that were judged, in the order of
  -- their lanes, whatever the order of the events
  abbrev pub HistoriesAreJudged : (ℕ → T → Type 0) → ℕ → Type 0
  HistoriesAreJudged fits lanes = (history : List (Event T)) → IsHistory fits lanes history
      → board.verdicts verdict_after lanes history
      ≡ verdicts_on (first_pieces (played lanes history).judged (played lanes history).pieces)
