-- Reports of accepted sources, each annotated loop by its own annotation.
use Rattle.std.specs.Prelude.{◌≡◌, ℕ, ◌<◌, true, List, map, length, Option, Some, None, Ok, slice_get, ℤ, pos, FitsSigned}
use Rattle.std.specs.Int.{w64}
use Rattle.al_grammar.specs.Characters.{Bytes}
use Rattle.al_core.specs.declared.choices.Choice.{Choice}
use Rattle.al_core.specs.declared.choices.LoopInfo.{LoopInfo}
use Rattle.al_core.specs.declared.typed_tree.TGlobal.{TGlobal}
use Rattle.al_core.specs.declared.typed_tree.Typed.{Typed}
use Rattle.al_core.specs.Lines.{with_line}
use Rattle.al_core.specs.Meaning.{body_of}
use Rattle.al_core.specs.Report.{report, serial_run}
use Rattle.al_core.specs.Run.{Sizes}
use Rattle.al_core.specs.Verdicts.{is_in_order}
use Rattle.al_rules.specs.Refusals.{accepted}
use Rattle.al_rounds_laws.specs.Loops.{LooksAtReads}
use Rattle.al_graded_laws.specs.InRange.{in_range}
use Rattle.al_graded_laws.specs.Rules.{stmts_obey}
use Rattle.al_runs_laws.specs.Reports.{output_and_ending}

-- The numbers in a tree, and the starts of its globals, have their sizes.
pub record IsSized (typed : Typed) : Type 0 where
  pub code : (f : ℕ) → stmts_obey in_range (body_of (slice_get typed.funcs f)) ≡ true
  pub starts : (k : ℕ) (g : TGlobal) → slice_get typed.globals k ≡ Some g → FitsSigned w64 g.start

-- the numbers of an input have 64 bits, and so has their count
pub record IsInput (input : List ℤ) : Type 0 where
  pub numbers : (i : ℕ) (n : ℤ) → slice_get input i ≡ Some n → FitsSigned w64 n
  pub count : FitsSigned w64 (pos (length input))

-- each annotation is RAW or FULL
abbrev pub LookAtReads : List LoopInfo → Type 0
LookAtReads infos = (n : ℕ) (info : LoopInfo) → slice_get infos n ≡ Some info → LooksAtReads info.own.policy

-- each commits in order
abbrev pub AreInOrder : List LoopInfo → Type 0
AreInOrder infos =
    (n : ℕ) (info : LoopInfo) → slice_get infos n ≡ Some info → is_in_order info.own.order ≡ true

-- each loop in rounds by its own annotation, with lines of so many words
abbrev pub annotated : ℕ → List LoopInfo → List (Option Choice)
annotated line infos = map (λ (info : LoopInfo). Some (with_line line info.own)) infos

-- each loop plain
abbrev pub unannotated : List LoopInfo → List (Option Choice)
unannotated infos = map (λ (info : LoopInfo). None) infos

-- The output and the ending that are reported are those of the serial run by the reported events.
abbrev pub AcceptedAreSerial : Type 0
AcceptedAreSerial =
    (source : Bytes) (typed : Typed) (infos : List LoopInfo) (line : ℕ) (input : List ℤ) (sizes : Sizes)
    → accepted source ≡ Ok (typed, infos) → IsSized typed → IsInput input → 0 < sizes.factor → LookAtReads infos
    → output_and_ending (report typed input sizes (annotated line infos))
    ≡ serial_run typed input sizes (report typed input sizes (annotated line infos)).events

-- In order they are those that are reported where every loop runs plain.
abbrev pub AcceptedInOrderArePlain : Type 0
AcceptedInOrderArePlain =
    (source : Bytes) (typed : Typed) (infos : List LoopInfo) (line : ℕ) (input : List ℤ) (sizes : Sizes)
    → accepted source ≡ Ok (typed, infos) → IsSized typed → IsInput input → 0 < sizes.factor → 0 < sizes.lanes
    → LookAtReads infos → AreInOrder infos
    → output_and_ending (report typed input sizes (annotated line infos))
    ≡ output_and_ending (report typed input sizes (unannotated infos))
