-- The entries of a program's annotated loops, or its first note fault: loops in source order, and for each the kinds of
-- fault in their order.
use Rattle.std.specs.Prelude.{ℕ, ◌+◌, Bool, false, ◌||◌, if◌then◌else◌, List, [], ◌∷◌, Option, Some, None, Result, Ok, Err}
use Rattle.std.specs.List.{list_any}
use Rattle.al_source.specs.Steps.{and_then}
use Rattle.al_core.specs.declared.choices.Bound.{Bound}
use Rattle.al_core.specs.declared.choices.LoopInfo.{LoopInfo}
use Rattle.al_core.specs.declared.choices.Red.{Red}
use Rattle.al_core.specs.declared.typed_tree.TStmt.{TStmt}
use Rattle.al_core.specs.declared.typed_tree.TNote.{TNote}
use Rattle.al_core.specs.declared.typed_tree.Typed.{Typed}
use Rattle.al_core.specs.declared.values.Addr.TheVariants.{Local}
use Rattle.al_core.specs.declared.values.Addr.{Addr}
use Rattle.al_core.specs.Orders.{addr_eq}
use Rattle.al_core.specs.Accepted.{is_local, is_bound}
use Rattle.al_core.specs.Loops.{PlacedLoop, program_loops}
use Rattle.al_rules.specs.declared.faults.NoteKind.{NoteKind}
use Rattle.al_rules.specs.declared.faults.NoteKind.TheVariants.{Form, IndexChanges, BoundChanges, Leaves, ReductionName, ReductionAddress, ReductionUsed}
use Rattle.al_rules.specs.declared.faults.NoteCause.{NoteCause}
use Rattle.al_rules.specs.Layouts.{fault_of}
use Rattle.al_rules.specs.ForLoops.{form_of}
use Rattle.al_rules.specs.Bodies.{assigns, assigns_bound, has_return, has_break, is_taken, is_misused}

-- ---- the reductions of an annotation

abbrev pub stand_twice : List Red → Bool
stand_twice [] = false
stand_twice (r ∷ rs) = list_any (λ q. addr_eq r.at q.at) rs || stand_twice rs

abbrev pub is_bound_at : Bound → Addr → Bool
is_bound_at bound (Local n) = is_bound bound n
is_bound_at bound _ = false

abbrev pub is_counter_or_bound : LoopInfo → Addr → Bool
is_counter_or_bound info a = is_local a info.counter || is_bound_at info.bound a

-- ---- one loop

-- the kind of the first test that holds
abbrev pub first_kind : List (Bool × NoteKind) → Option NoteKind
first_kind [] = None
first_kind (t ∷ ts) = if t.0 then Some t.1 else first_kind ts

-- what is wrong with a loop of the right form and this body
abbrev pub wrong_in : Typed → LoopInfo → TStmt → Option NoteKind
wrong_in typed info body = first_kind (
    (assigns info.counter body, IndexChanges)
    ∷ (assigns_bound info.bound body, BoundChanges)
    ∷ (has_return body || has_break body, Leaves)
    ∷ (stand_twice info.own.reds || list_any (λ r. is_counter_or_bound info r.at) info.own.reds, ReductionName)
    ∷ (list_any (λ r. is_taken typed r.at) info.own.reds, ReductionAddress)
    ∷ (list_any (λ r. is_misused typed body r.op r.at) info.own.reds, ReductionUsed)
    ∷ [])

-- the entry of the loop of this number, which has this counter and bound
abbrev pub info_of : ℕ → TNote → ℕ × Bound → LoopInfo
info_of n note form = record {
  number = n;
  func = note.func;
  line = note.line;
  counter = form.0;
  bound = form.1;
  first = note.first;
  last = note.last;
  own = note.own;
}

abbrev pub unless_wrong : LoopInfo → Option NoteKind → Result LoopInfo NoteCause
unless_wrong info None = Ok info
unless_wrong info (Some kind) = Err (record { kind = kind; line = info.line })

abbrev pub formed : Typed → TStmt → ℕ → TNote → Option (ℕ × Bound) → Result LoopInfo NoteCause
formed typed body n note None = Err (record { kind = Form; line = note.line })
formed typed body n note (Some form) = unless_wrong (info_of n note form) (wrong_in typed (info_of n note form) body)

-- the entry of the loop of this number, with its note
abbrev pub entry_of : Typed → ℕ → PlacedLoop → TNote → Result LoopInfo NoteCause
entry_of typed n l note = formed typed l.loop.body n note (form_of l.func.locals l.loop)

-- ---- all loops

-- loops from this number on, each with the note at its place
abbrev pub entries : Typed → ℕ → List PlacedLoop → List TNote → Result (List LoopInfo) NoteCause
entries typed n (l ∷ ls) (note ∷ notes) =
    and_then (entry_of typed n l note) (λ info. and_then (entries typed (n + 1) ls notes) (λ infos. Ok (info ∷ infos)))
entries typed n _ _ = Ok []

unfoldable pub notes_of : Typed → Result (List LoopInfo) NoteCause
notes_of typed = entries typed 0 (program_loops typed) typed.loops

abbrev pub note_fault : Typed → Option NoteCause
note_fault typed = fault_of (notes_of typed)

abbrev pub or_no_infos : Result (List LoopInfo) NoteCause → List LoopInfo
or_no_infos (Ok infos) = infos
or_no_infos (Err fault) = []

-- The entries of the annotated loops, where there is no note fault.
abbrev pub infos : Typed → List LoopInfo
infos typed = or_no_infos (notes_of typed)
