-- The entries of loops, after those that are there.
use Rattle.std.specs.Prelude.{ℕ, ◌+◌, List, [], ◌∷◌, ◌++◌, Option, Some, None, Result, Ok, slice_get}
use Rattle.al_source.specs.Steps.{and_then}
use Rattle.al_core.specs.declared.choices.LoopInfo.{LoopInfo}
use Rattle.al_core.specs.declared.typed_tree.TNote.{TNote}
use Rattle.al_core.specs.declared.typed_tree.Typed.{Typed}
use Rattle.al_core.specs.Loops.{PlacedLoop}
use Rattle.al_rules.specs.declared.faults.NoteCause.{NoteCause}
use Rattle.al_rules.specs.Notes.{entry_of}

abbrev pub Noted : Type 0
Noted = Result (List LoopInfo) NoteCause

abbrev pub noted_by : Typed → List LoopInfo → ℕ → PlacedLoop → Option TNote → Noted
noted_by typed done n l None = Ok done
noted_by typed done n l (Some note) = and_then (entry_of typed n l note) (λ info. Ok (done ++ info ∷ []))

-- the loop at this place, where it has a note
unfoldable pub noted_one : Typed → List LoopInfo → ℕ → PlacedLoop → Noted
noted_one typed done n l = noted_by typed done n l (slice_get typed.loops n)

-- loops from this place on
abbrev pub noted_from : Typed → List LoopInfo → ℕ → List PlacedLoop → Noted
noted_from typed done n [] = Ok done
noted_from typed done n (l ∷ ls) = and_then (noted_one typed done n l) (λ more. noted_from typed more (n + 1) ls)
