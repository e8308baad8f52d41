-- Reports of runs whose loops have choices.
use Rattle.std.specs.Prelude.{◌≡◌, ℕ, ◌<◌, true, List, [], Option, Some, slice_get, ℤ}
use Rattle.al_core.specs.declared.choices.Choice.{Choice}
use Rattle.al_core.specs.declared.reports.Report.{Report}
use Rattle.al_core.specs.declared.typed_tree.Typed.{Typed}
use Rattle.al_core.specs.Accepted.{IsAccepted}
use Rattle.al_core.specs.Loops.{Loop, loop_at}
use Rattle.al_core.specs.Verdicts.{is_in_order}
use Rattle.al_core.specs.Run.{Sizes}
use Rattle.al_core.specs.Report.{report, OutputAndEnding, serial_run}
use Rattle.al_rounds_laws.specs.Loops.{LooksAtReads}
use Rattle.al_kinds_laws.specs.Programs.{IsProgram}

-- Each choice of a loop looks at reads, as RAW and FULL do, and its reductions are accepted for the loop.
abbrev pub ChoicesAreSerializable : Typed → List (Option Choice) → Type 0
ChoicesAreSerializable typed choices =
    (number : ℕ) (l : Loop) (choice : Choice) → loop_at typed number ≡ Some l
    → slice_get choices number ≡ Some (Some choice) → LooksAtReads choice.policy × IsAccepted typed l choice.reds

-- Each commits in order.
abbrev pub ChoicesAreOrdered : List (Option Choice) → Type 0
ChoicesAreOrdered choices =
    (number : ℕ) (choice : Choice) → slice_get choices number ≡ Some (Some choice) → is_in_order choice.order ≡ true

abbrev pub output_and_ending : Report → OutputAndEnding
output_and_ending r = record { output = r.output; ending = r.ending }

-- The output and the ending that are reported are those of the serial run by the reported events.
abbrev pub ReportsAreSerial : Type 0
ReportsAreSerial =
    (typed : Typed) (input : List ℤ) (sizes : Sizes) (choices : List (Option Choice)) → IsProgram typed input
    → 0 < sizes.factor → ChoicesAreSerializable typed choices
    → output_and_ending (report typed input sizes choices)
    ≡ serial_run typed input sizes (report typed input sizes choices).events

-- In order they are those that are reported where every loop runs plain.
abbrev pub ReportsInOrderArePlain : Type 0
ReportsInOrderArePlain =
    (typed : Typed) (input : List ℤ) (sizes : Sizes) (choices : List (Option Choice)) → IsProgram typed input
    → 0 < sizes.factor → 0 < sizes.lanes → ChoicesAreSerializable typed choices → ChoicesAreOrdered choices
    → output_and_ending (report typed input sizes choices) ≡ output_and_ending (report typed input sizes [])
