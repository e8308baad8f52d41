-- What is said of a run: why it trapped, what happened in its rounds, and its totals.
use Rattle.std.specs.Prelude.{ℕ, ◌+◌, List, [], ◌∷◌, ◌++◌, codes}
use Rattle.std.specs.Fmt.{decimal}
use Rattle.std.specs.List.{flat_map}
use Rattle.al_core.specs.declared.values.Trap.{Trap}
use Rattle.al_core.specs.declared.values.Trap.TheVariants.{Null, Missing, Bounds, Kind, Divide, Input, Trips, Steps, Alloc, Depth, BadFree, Freed}
use Rattle.al_core.specs.declared.reports.Ending.{Ending}
use Rattle.al_core.specs.declared.reports.Ending.TheVariants as ending
use Rattle.al_core.specs.declared.reports.Verdict.{Verdict}
use Rattle.al_core.specs.declared.reports.Verdict.TheVariants.{Commit, CommitTrap, Fail, After}
use Rattle.al_core.specs.declared.reports.Judged.{Judged}
use Rattle.al_core.specs.declared.reports.Event.{Event}
use Rattle.al_core.specs.declared.reports.Event.TheVariants as event
use Rattle.al_core.specs.declared.reports.Report.{Report}
use Rattle.al_report.specs.Lines.{of_line}

-- ---- traps

abbrev pub trap_name : Trap → List ℕ
trap_name Null = codes "null pointer"
trap_name Missing = codes "missing object"
trap_name Bounds = codes "out of bounds"
trap_name Kind = codes "word of the other kind"
trap_name Divide = codes "divide by zero"
trap_name Input = codes "no such input"
trap_name Trips = codes "too many trips"
trap_name Steps = codes "step budget spent"
trap_name Alloc = codes "too many words allocated"
trap_name Depth = codes "calls nested too deep"
trap_name BadFree = codes "not an allocated object"
trap_name Freed = codes "freed already"

abbrev pub trap_text : List ℕ → Trap → ℕ → List ℕ
trap_text name trap line = of_line name line (codes "trap: " ++ trap_name trap)

-- ---- rounds

-- a number after its label
unfoldable pub labelled : List ℕ → ℕ → List ℕ
labelled label n = label ++ decimal n

abbrev pub verdict_name : Verdict → List ℕ
verdict_name Commit = codes "commit"
verdict_name CommitTrap = codes "trap"
verdict_name Fail = codes "fail"
verdict_name After = codes "after"

-- a chunk by its number, with its verdict
abbrev pub judged_text : Judged → List ℕ
judged_text j = decimal j.chunk ++ codes " " ++ verdict_name j.verdict

abbrev pub joined : List Judged → List ℕ
joined [] = []
joined (j ∷ js) = judged_text j ++ flat_map (λ more. codes ", " ++ judged_text more) js

abbrev pub round_line : ℕ → List Judged → List ℕ
round_line round chunks = labelled (codes "round ") round ++ codes ": " ++ joined chunks ++ codes "\n"

abbrev pub loop_line : ℕ → ℕ → ℕ → ℕ → ℕ → List ℕ
loop_line number execution line trips chunks =
    labelled (codes "loop ") number ++ labelled (codes " execution ") execution ++ labelled (codes " line ") line
    ++ labelled (codes " trips ") trips ++ labelled (codes " chunks ") chunks ++ codes "\n"

-- Each execution's rounds are counted from 0. The number is that of the next round.
abbrev pub event_lines : ℕ → List Event → List ℕ
event_lines round [] = []
event_lines round (event.Enter number execution line trips chunks ∷ es) =
    loop_line number execution line trips chunks ++ event_lines 0 es
event_lines round (event.Round chunks ∷ es) = round_line round chunks ++ event_lines (round + 1) es

-- ---- the whole

abbrev pub ending_line : Ending → List ℕ
ending_line ending.Done = codes "end done\n"
ending_line (ending.Trap trap line) = labelled (codes "end trap ") line ++ codes " " ++ trap_name trap ++ codes "\n"

abbrev pub totals_text : Report → List ℕ
totals_text r =
    labelled (codes "loops ") r.loops ++ labelled (codes " rounds ") r.rounds
    ++ labelled (codes " attempts ") r.attempts ++ labelled (codes " aborted ") r.aborted
    ++ labelled (codes " span ") r.span ++ codes "\n"

abbrev pub trace_text : Report → List ℕ
trace_text r = event_lines 0 r.events ++ ending_line r.ending ++ totals_text r
