-- What holds of the entries of a program's annotated loops, where there is no note fault.
use Rattle.std.specs.Prelude.{◌≡◌, ℕ, List, length, All, Some, None, slice_get}
use Rattle.al_source.specs.declared.source_tree.Program.{Program}
use Rattle.al_core.specs.declared.choices.LoopInfo.{LoopInfo}
use Rattle.al_core.specs.declared.choices.Red.{Red}
use Rattle.al_core.specs.declared.typed_tree.Typed.{Typed}
use Rattle.al_core.specs.Loops.{Loop, loop_at}
use Rattle.al_core.specs.Accepted.{IsAccepted}
use Rattle.al_rules.specs.Programs.{Resolved}
use Rattle.al_rules.specs.Notes.{note_fault, infos}
use Rattle.al_rules.specs.Candidates.{choices}

-- There is one for each loop, at the place of its number.
abbrev pub EntriesAreTheLoops : Type 0
EntriesAreTheLoops =
    (p : Program) (typed : Typed) → Resolved p typed → note_fault typed ≡ None
    → (length (infos typed) ≡ length typed.loops)
    × ((n : ℕ) (info : LoopInfo) → slice_get (infos typed) n ≡ Some info → info.number ≡ n)

-- The loop of this number stands in the tree with this entry, and the reductions are accepted for it.
pub record IsAcceptedFor (typed : Typed) (info : LoopInfo) (reds : List Red) : Type 0 where
  pub loop : Loop
  pub stands : loop_at typed info.number ≡ Some loop
  pub entry : loop.info ≡ info
  pub accepted : IsAccepted typed loop reds

-- those that the loop's annotation names
abbrev pub OwnReductionsAreAccepted : Type 0
OwnReductionsAreAccepted =
    (p : Program) (typed : Typed) → Resolved p typed → note_fault typed ≡ None
    → All (λ info. IsAcceptedFor typed info info.own.reds) (infos typed)

-- those of each choice that is tried for it
abbrev pub ChoicesAreAccepted : Type 0
ChoicesAreAccepted =
    (p : Program) (typed : Typed) → Resolved p typed → note_fault typed ≡ None
    → All (λ info. All (λ c. IsAcceptedFor typed info c.reds) (choices typed info)) (infos typed)
