-- An accepted source is one whose runs are serial.
use Rattle.std.proofs.Common.{◌≡◌, ℕ, true, List, [], Option, Some, None, Ok, slice_get, option_map, refl, sym, ap, subst, ◌∙◌, inl}
use Rattle.std.specs.Prelude.{ℤ}
use Rattle.std.proofs.lemmas.Option.{slice_get-map}
use Rattle.al_source.specs.declared.source_tree.Program.{Program}
use Rattle.al_grammar.specs.Characters.{Bytes}
use Rattle.al_core.specs.declared.choices.Choice.{Choice}
use Rattle.al_core.specs.declared.choices.LoopInfo.{LoopInfo}
use Rattle.al_core.specs.declared.typed_tree.Typed.{Typed}
use Rattle.al_core.specs.Lines.{with_line}
use Rattle.al_core.specs.Report.{report_of, mode_of, by_choices, report}
use Rattle.al_core.specs.Run.{Sizes, Plainly, whole_run}
use Rattle.al_core.specs.Verdicts.{is_in_order}
use Rattle.al_laws.proofs.Words.{same_some, some_none}
use Rattle.al_rules.specs.Layouts.{fault_of}
use Rattle.al_rules.specs.Notes.{notes_of, or_no_infos}
use Rattle.al_rules.specs.Notes as notes
use Rattle.al_rules.specs.Programs.{typed_with, Resolved}
use Rattle.al_rules.specs.Refusals.{accepted}
use Rattle.al_rules_laws.proofs.LayoutFacts.{layout_is_sizes}
use Rattle.al_rounds_laws.specs.Loops.{LooksAtReads}
use Rattle.al_runs_laws.specs.Reports.{ChoicesAreOrdered, output_and_ending}
use Rattle.al_runs_laws.specs.Sources.{IsSource, IsOwnChoice, ChoicesAreOwn}
use Rattle.al_runs_laws.specs.Accepted.{IsSized, IsInput, LookAtReads, AreInOrder, annotated, unannotated, AcceptedAreSerial, AcceptedInOrderArePlain}
use Rattle.al_runs_laws.proofs.AcceptedParts.{IsTreeOf, accepted_as}
use Rattle.al_runs_laws.proofs.Sourced.{sources_are_serial, sources_in_order_are_plain}

-- ---- the program of a source

-- the program whose tree this is
record IsProgram (typed : Typed) (infos : List LoopInfo) : Type 0 where
  program : Program
  resolved : Resolved program typed
  entries : notes_of typed ≡ Ok infos

resolved_of : (p : Program) (typed : Typed) → IsTreeOf p typed → Resolved p typed
resolved_of p typed t = record {
  laid_out = ap fault_of t.laid_out;
  is_typed = ap (λ layout. typed_with layout p) (layout_is_sizes p t.layout t.laid_out) ∙ t.is_typed;
}

program_of : (source : Bytes) (typed : Typed) (infos : List LoopInfo) → accepted source ≡ Ok (typed, infos) → IsProgram typed infos
program_of source typed infos e =
    let a = accepted_as source typed infos e in
    record { program = a.program; resolved = resolved_of a.program typed a.tree; entries = a.entries }

-- ---- choices

module _ (typed : Typed) (infos : List LoopInfo) (t : IsProgram typed infos) (line : ℕ) where
  abbrev own : LoopInfo → Option Choice
  own info = Some (with_line line info.own)

  -- what runs by an entry runs by its annotation
  chosen : (n : ℕ) (info : LoopInfo) (choice : Choice) → slice_get infos n ≡ Some info → slice_get (annotated line infos) n ≡ Some (Some choice)
      → with_line line info.own ≡ choice
  chosen n info choice at is =
      let found : Some (own info) ≡ Some (Some choice) = sym (ap (option_map own) at) ∙ sym (slice_get-map own infos n) ∙ is in
      same_some (with_line line info.own) choice (same_some (own info) (Some choice) found)

  entries_are : notes.infos typed ≡ infos
  entries_are = ap or_no_infos t.entries

  annotations_are_own : LookAtReads infos → ChoicesAreOwn typed (annotated line infos)
  annotations_are_own look n info choice at is =
      let there : slice_get infos n ≡ Some info = ap (λ (z : List LoopInfo). slice_get z n) (sym entries_are) ∙ at in
      subst (λ (c : Choice). LooksAtReads c.policy × IsOwnChoice typed info c) (chosen n info choice there is) (look n info there, inl refl)

  annotations_are_ordered : AreInOrder infos → ChoicesAreOrdered (annotated line infos)
  annotations_are_ordered ordered n choice is = by (slice_get infos n) refl
    where
      by : (x : Option LoopInfo) → slice_get infos n ≡ x → is_in_order choice.order ≡ true
      by (Some info) at = subst (λ (c : Choice). is_in_order c.order ≡ true) (chosen n info choice at is) (ordered n info at)
      by None at = absurd (some_none (Some choice) (sym is ∙ slice_get-map own infos n ∙ ap (option_map own) at))

-- ---- plain loops

plain_entry : (x : Option LoopInfo) → mode_of (option_map (λ (info : LoopInfo). None) x) ≡ Plainly
plain_entry (Some info) = refl
plain_entry None = refl

no_entry : (n : ℕ) → mode_of (slice_get [] n) ≡ Plainly
no_entry n = refl

plain_modes : (infos : List LoopInfo) → by_choices (unannotated infos) ≡ by_choices []
plain_modes infos =
    let each = λ (n : ℕ). ap mode_of (slice_get-map (λ (info : LoopInfo). None) infos n) ∙ plain_entry (slice_get infos n) ∙ sym (no_entry n) in
    λ i n e. each n i

pub plain_report : (typed : Typed) (infos : List LoopInfo) (input : List ℤ) (sizes : Sizes)
    → report typed input sizes (unannotated infos) ≡ report typed input sizes []
unfolding report
plain_report typed infos input sizes =
    ap (λ modes. report_of sizes.serial_steps (whole_run (record { typed = typed; input = input; sizes = sizes; modes = modes }))) (plain_modes infos)

-- ---- the laws

source_of : (typed : Typed) (infos : List LoopInfo) (input : List ℤ) (t : IsProgram typed infos) → IsSized typed → IsInput input
    → IsSource t.program typed input
source_of typed infos input t s i = record {
  resolved = t.resolved;
  annotated = ap fault_of t.entries;
  numbers = record { code = s.code; input_numbers = i.numbers; input_length = i.count };
  starts = s.starts;
}

pub accepted_are_serial : AcceptedAreSerial
accepted_are_serial source typed infos line input sizes is sized fit full look =
    let t = program_of source typed infos is in
    sources_are_serial t.program typed input sizes (annotated line infos) (source_of typed infos input t sized fit) full
    (annotations_are_own typed infos t line look)

pub accepted_in_order_are_plain : AcceptedInOrderArePlain
accepted_in_order_are_plain source typed infos line input sizes is sized fit full some look ordered =
    let t = program_of source typed infos is in
    sources_in_order_are_plain t.program typed input sizes (annotated line infos) (source_of typed infos input t sized fit) full some
    (annotations_are_own typed infos t line look) (annotations_are_ordered typed infos t line ordered)
    ∙ ap output_and_ending (sym (plain_report typed infos input sizes))
