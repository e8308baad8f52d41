-- Reports of programs as they are written: their trees are those of sources, and the reductions of their loops those
-- that annotations name or that are tried.
use Rattle.std.specs.Prelude.{◌≡◌, ℕ, ◌<◌, ◌⊎◌, List, [], Option, Some, None, slice_get, ℤ, FitsSigned, Contains}
use Rattle.std.specs.Int.{w64}
use Rattle.al_source.specs.declared.source_tree.Program.{Program}
use Rattle.al_core.specs.declared.choices.Choice.{Choice}
use Rattle.al_core.specs.declared.choices.LoopInfo.{LoopInfo}
use Rattle.al_core.specs.declared.typed_tree.TGlobal.{TGlobal}
use Rattle.al_core.specs.declared.typed_tree.Typed.{Typed}
use Rattle.al_core.specs.Run.{Sizes}
use Rattle.al_core.specs.Report.{report, serial_run}
use Rattle.al_rules.specs.Candidates.{choices}
use Rattle.al_rules.specs.Notes.{note_fault, infos}
use Rattle.al_rules.specs.Programs.{Resolved}
use Rattle.al_rounds_laws.specs.Loops.{LooksAtReads}
use Rattle.al_graded_laws.specs.InRange.{IsInRange}
use Rattle.al_runs_laws.specs.Reports.{ChoicesAreOrdered, output_and_ending}

-- The typed tree of a source without a fault. The numbers of it and of the input have their sizes.
pub record IsSource (p : Program) (typed : Typed) (input : List ℤ) : Type 0 where
  pub resolved : Resolved p typed
  pub annotated : note_fault typed ≡ None
  pub numbers : IsInRange typed input
  pub starts : (k : ℕ) (g : TGlobal) → slice_get typed.globals k ≡ Some g → FitsSigned w64 g.start

-- The reductions of a choice are those that the loop's annotation names, or the choice is one that is tried for it.
abbrev pub IsOwnChoice : Typed → LoopInfo → Choice → Type 0
IsOwnChoice typed info choice = (choice.reds ≡ info.own.reds) ⊎ Contains (choices typed info) choice

-- Each choice looks at reads, as RAW and FULL do, and is one of its loop.
abbrev pub ChoicesAreOwn : Typed → List (Option Choice) → Type 0
ChoicesAreOwn typed chosen =
    (n : ℕ) (info : LoopInfo) (choice : Choice) → slice_get (infos typed) n ≡ Some info
    → slice_get chosen n ≡ Some (Some choice) → LooksAtReads choice.policy × IsOwnChoice typed info choice

abbrev pub SourcesAreSerial : Type 0
SourcesAreSerial =
    (p : Program) (typed : Typed) (input : List ℤ) (sizes : Sizes) (chosen : List (Option Choice))
    → IsSource p typed input → 0 < sizes.factor → ChoicesAreOwn typed chosen
    → output_and_ending (report typed input sizes chosen)
    ≡ serial_run typed input sizes (report typed input sizes chosen).events

abbrev pub SourcesInOrderArePlain : Type 0
SourcesInOrderArePlain =
    (p : Program) (typed : Typed) (input : List ℤ) (sizes : Sizes) (chosen : List (Option Choice))
    → IsSource p typed input → 0 < sizes.factor → 0 < sizes.lanes → ChoicesAreOwn typed chosen
    → ChoicesAreOrdered chosen
    → output_and_ending (report typed input sizes chosen) ≡ output_and_ending (report typed input sizes [])
