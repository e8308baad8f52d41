-- The function that a loop names is the one in which it stands.
use Rattle.std.proofs.Common.{◌≡◌, ℕ, zero, suc, ◌+◌, List, [], ◌∷◌, length, Option, Some, None, refl, sym, ap, ◌∙◌, subst}
use Rattle.std.specs.Prelude.{slice_get}
use Rattle.al_core.specs.declared.typed_tree.TFunc.{TFunc}
use Rattle.al_core.specs.declared.typed_tree.TNote.{TNote}
use Rattle.al_core.specs.declared.typed_tree.Typed.{Typed}
use Rattle.al_core.specs.Loops.{PlacedLoop, program_loops, Start, start_of, Loop, started_loop, noted_loop}
use Rattle.al_laws.proofs.Words.{same_some, some_none}
use Rattle.al_rules.specs.WellFormed.{IsWellFormed, notes_from}
use Rattle.al_rules_laws.proofs.TreeLoops.{StandIn, nothing, one, program_stands}
use Rattle.al_loop_laws.specs.Locals.{LoopsHaveTheirLocals}

module _ (typed : Typed) (formed : IsWellFormed typed) where
  note_names : (n : ℕ) (notes : List TNote) (ls : List PlacedLoop) → StandIn typed (notes_from n notes) ls → (k : ℕ) (note : TNote) (l : PlacedLoop)
      → slice_get notes k ≡ Some note → slice_get ls k ≡ Some l → slice_get typed.funcs note.func ≡ Some l.func
  note_names n [] _ nothing k note l e i = absurd (some_none note (sym e))
  note_names n (a ∷ notes) _ (one {l = b} {ls = ls} m at s) zero note l e i =
      ap (λ z. slice_get typed.funcs z.func) (sym (same_some a note e)) ∙ at ∙ ap (λ z. Some z.func) (same_some b l i)
  note_names n (a ∷ notes) _ (one {l = b} {ls = ls} m at s) (suc k) note l e i = note_names (n + 1) notes ls s k note l e i

  -- the note at a loop's place names its function
  names_function : (k : ℕ) (note : TNote) (l : PlacedLoop) → slice_get typed.loops k ≡ Some note → slice_get (program_loops typed) k ≡ Some l
      → slice_get typed.funcs note.func ≡ Some l.func
  names_function =
      note_names 0 typed.loops (program_loops typed) (subst (λ sts. StandIn typed sts (program_loops typed)) formed.loops (program_stands typed))

  abbrev HasLocals : Loop → Type 0
  HasLocals l = (f : TFunc) → slice_get typed.funcs l.info.func ≡ Some f → l.locals ≡ length f.locals

  by_start : (n : ℕ) (note : TNote) (q : PlacedLoop) (l : Loop) → slice_get typed.funcs note.func ≡ Some q.func
      → (s : Option Start) → started_loop n note q s ≡ Some l → HasLocals l
  by_start n note q l named (Some s) e =
      subst HasLocals (same_some _ l e) (λ f h. ap (λ (g : TFunc). length g.locals) (same_some q.func f (sym named ∙ h)))
  by_start n note q l named None e = absurd (some_none l (sym e))

  by_parts : (n : ℕ) (note : Option TNote) (q : Option PlacedLoop) (l : Loop) → slice_get typed.loops n ≡ note → slice_get (program_loops typed) n ≡ q
      → noted_loop n note q ≡ Some l → HasLocals l
  by_parts n (Some note) (Some q) l i j e = by_start n note q l (names_function n note q i j) (start_of q.loop.first) e
  by_parts n (Some note) None l i j e = absurd (some_none l (sym e))
  by_parts n None (Some q) l i j e = absurd (some_none l (sym e))
  by_parts n None None l i j e = absurd (some_none l (sym e))

pub loops_have_their_locals : LoopsHaveTheirLocals
loops_have_their_locals typed formed n l e =
    by_parts typed formed n (slice_get typed.loops n) (slice_get (program_loops typed) n) l refl refl e
