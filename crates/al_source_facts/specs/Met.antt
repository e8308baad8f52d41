-- What the laws of sources ask is met: by a small source whose first loop commits out of order, by the same source with
-- both loops in order, and by the generated program.
use Rattle.std.specs.Prelude.{◌≡◌, ◌<◌, List, [], ◌∷◌, Option, Some, Ok, ℤ, pos, negsuc}
use Rattle.al_source.specs.declared.annotations.CommitOrder.{CommitOrder}
use Rattle.al_source.specs.declared.annotations.CommitOrder.TheVariants.{InOrder, OutOfOrder}
use Rattle.al_core.specs.declared.choices.Choice.{Choice}
use Rattle.al_core.specs.Run.{Sizes}
use Rattle.al_gen.specs.Generated.{source as made_source}
use Rattle.al_rules.specs.Refusals.{accepted}
use Rattle.al_runs_laws.specs.Accepted.{IsSized, IsInput, LookAtReads, AreInOrder}
use Rattle.al_runs_laws.specs.Reports.{ChoicesAreOrdered}
use Rattle.al_runs_laws.specs.Small.{second_choice}
use Rattle.al_runs_laws.specs.Sources.{IsSource, ChoicesAreOwn}
use Rattle.al_source_facts.specs.Texts.{source, ordered_source}
use Rattle.al_source_facts.specs.Trees.{program}
use Rattle.al_source_facts.specs.Tree.{tree, entries, first_own}
use Rattle.al_source_facts.specs.GeneratedTree.{tree as made_tree, entries as made_entries}

-- ---- sources that are accepted

abbrev pub SourceIsAccepted : Type 0
SourceIsAccepted = accepted source ≡ Ok (tree OutOfOrder, entries OutOfOrder)

abbrev pub OrderedSourceIsAccepted : Type 0
OrderedSourceIsAccepted = accepted ordered_source ≡ Ok (tree InOrder, entries InOrder)

abbrev pub GeneratedIsAccepted : Type 0
GeneratedIsAccepted = accepted made_source ≡ Ok (made_tree, made_entries)

-- ---- what is asked of reports of sources

abbrev pub input : List ℤ
input = pos 12 ∷ negsuc 6 ∷ []

abbrev pub sizes : Sizes
sizes = record { lanes = 2; factor = 2; iter_steps = 100; serial_steps = 100 }

-- each loop by its own annotation
abbrev pub chosen : CommitOrder → List (Option Choice)
chosen o = Some (first_own o) ∷ Some second_choice ∷ []

abbrev pub ReportIsMet : Type 0
ReportIsMet =
    IsSource (program OutOfOrder) (tree OutOfOrder) input × (0 < sizes.factor)
    × ChoicesAreOwn (tree OutOfOrder) (chosen OutOfOrder)

abbrev pub ReportInOrderIsMet : Type 0
ReportInOrderIsMet =
    IsSource (program InOrder) (tree InOrder) input × (0 < sizes.factor) × (0 < sizes.lanes)
    × ChoicesAreOwn (tree InOrder) (chosen InOrder) × ChoicesAreOrdered (chosen InOrder)

-- ---- what is asked of accepted sources

abbrev pub AcceptedIsMet : Type 0
AcceptedIsMet =
    SourceIsAccepted × IsSized (tree OutOfOrder) × IsInput input × (0 < sizes.factor)
    × LookAtReads (entries OutOfOrder)

abbrev pub AcceptedInOrderIsMet : Type 0
AcceptedInOrderIsMet =
    OrderedSourceIsAccepted × IsSized (tree InOrder) × IsInput input × (0 < sizes.factor) × (0 < sizes.lanes)
    × LookAtReads (entries InOrder) × AreInOrder (entries InOrder)
