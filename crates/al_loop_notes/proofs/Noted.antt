-- The entries of all loops, one after another.
use Rattle.std.proofs.Common.{◌≡◌, ◌<◌, ◌+◌, ℕ, zero, suc, List, [], ◌∷◌, ◌++◌, length, drop, get_or, map, Option, Some, None, Result, Ok, Err, refl, sym, ap, subst, ◌∙◌, append_assoc, arith}
use Rattle.std.proofs.lemmas.List.{append-nil, drop_more, length-map, get_or-map}
use Rattle.std.specs.Prelude.{slice_get}
use Rattle.al_source.specs.Steps.{and_then}
use Rattle.al_source.specs.Answers.{Fails}
use Rattle.al_core.specs.declared.choices.LoopInfo.{LoopInfo}
use Rattle.al_core.specs.declared.for_loops.PlacedLoop.{PlacedLoop as Found}
use Rattle.al_core.specs.declared.typed_tree.TNote.{TNote}
use Rattle.al_core.specs.declared.typed_tree.Typed.{Typed}
use Rattle.al_core.specs.Loops.{PlacedLoop, program_loops}
use Rattle.al_core.specs.LoopsInPlace.{placed_of}
use Rattle.al_rules.specs.declared.faults.NoteCause.{NoteCause}
use Rattle.al_rules.specs.Notes.{entry_of, entries, notes_of}
use Rattle.al_loop_notes.specs.Entries.{Noted, noted_by, noted_one, noted_from}

-- ---- entries after those that are there

abbrev onto : List LoopInfo → Noted → Noted
onto done told = and_then told (λ more. Ok (done ++ more))

onto_none : (told : Noted) → onto [] told ≡ told
onto_none (Ok infos) = refl
onto_none (Err fault) = refl

onto_one : (done : List LoopInfo) (info : LoopInfo) (rest : Noted)
    → onto (done ++ info ∷ []) rest ≡ onto done (and_then rest (λ infos. Ok (info ∷ infos)))
onto_one done info (Ok infos) = ap Ok (append_assoc done (info ∷ []) infos)
onto_one done info (Err fault) = refl

-- ---- the notes from a place on

none_left : (n : ℕ) (notes : List TNote) → slice_get notes n ≡ None → drop n notes ≡ []
none_left zero [] e = refl
none_left zero (note ∷ notes) e = absurd cc
none_left (suc n) [] e = refl
none_left (suc n) (note ∷ notes) e = none_left n notes e

one_left : (n : ℕ) (notes : List TNote) (note : TNote) → slice_get notes n ≡ Some note → drop n notes ≡ note ∷ drop (suc n) notes
one_left zero [] note e = absurd cc
one_left zero (x ∷ notes) note e = ap (λ y. y ∷ notes) (same e)
  where
    same : Some x ≡ Some note → x ≡ note
    same e = cc
one_left (suc n) [] note e = absurd cc
one_left (suc n) (x ∷ notes) note e = one_left n notes note e

no_more : (n : ℕ) (notes : List TNote) → drop n notes ≡ [] → drop (suc n) notes ≡ []
no_more zero [] e = refl
no_more zero (x ∷ notes) e = absurd cc
no_more (suc n) [] e = refl
no_more (suc n) (x ∷ notes) e = no_more n notes e

one_more : (n : ℕ) (notes : List TNote) → drop (suc n) notes ≡ drop (n + 1) notes
one_more n notes = ap (λ k. drop k notes) (next n)
  where
    next : (n : ℕ) → suc n ≡ n + 1
    next n = omega arith

-- ---- the same entries

no_entries : (typed : Typed) (n : ℕ) (ls : List PlacedLoop) → entries typed n ls [] ≡ Ok []
no_entries typed n [] = refl
no_entries typed n (l ∷ ls) = refl

abbrev Same : Typed → ℕ → List PlacedLoop → Type 0
Same typed n ls = (done : List LoopInfo) → noted_from typed done n ls ≡ onto done (entries typed n ls (drop n typed.loops))

module _ (typed : Typed) (n : ℕ) (l : PlacedLoop) (ls : List PlacedLoop) (later : Same typed (n + 1) ls) where
  with_note : (done : List LoopInfo) (note : TNote) (entry : Result LoopInfo NoteCause)
      → and_then (and_then entry (λ info. Ok (done ++ info ∷ []))) (λ more. noted_from typed more (n + 1) ls)
      ≡ onto done (and_then entry (λ info. and_then (entries typed (n + 1) ls (drop (n + 1) typed.loops)) (λ infos. Ok (info ∷ infos))))
  with_note done note (Ok info) =
      later (done ++ info ∷ []) ∙ onto_one done info (entries typed (n + 1) ls (drop (n + 1) typed.loops))
  with_note done note (Err fault) = refl

  by_note : (done : List LoopInfo) (m : Option TNote) → slice_get typed.loops n ≡ m
      → and_then (noted_by typed done n l m) (λ more. noted_from typed more (n + 1) ls)
      ≡ onto done (entries typed n (l ∷ ls) (drop n typed.loops))
  by_note done None at =
      let end = none_left n typed.loops at in
      later done
      ∙ ap (λ notes. onto done (entries typed (n + 1) ls notes)) (sym (one_more n typed.loops) ∙ no_more n typed.loops end)
      ∙ ap (onto done) (no_entries typed (n + 1) ls)
      ∙ ap (λ notes. onto done (entries typed n (l ∷ ls) notes)) (sym end)
  by_note done (Some note) at =
      with_note done note (entry_of typed n l note)
      ∙ ap (λ notes. onto done (entries typed n (l ∷ ls) notes)) (sym (one_left n typed.loops note at ∙ ap (λ notes. note ∷ notes) (one_more n typed.loops)))

same_entries : (typed : Typed) (ls : List PlacedLoop) (n : ℕ) → Same typed n ls
unfolding noted_one
same_entries typed [] n done = ap Ok (sym (append-nil done))
same_entries typed (l ∷ ls) n done =
    by_note typed n l ls (same_entries typed ls (n + 1)) done (slice_get typed.loops n) refl

-- the program's
pub notes_are : (typed : Typed) → notes_of typed ≡ noted_from typed [] 0 (program_loops typed)
unfolding notes_of
notes_are typed =
    sym (same_entries typed (program_loops typed) 0 [] ∙ onto_none (entries typed 0 (program_loops typed) (drop 0 typed.loops)))

-- ---- steps of the loop

module _ (typed : Typed) (done : List LoopInfo) (items : List Found) (i : ℕ) (l : Found) (within : i < length items)
    (is : l ≡ get_or items i l) where
  next_loop : drop i (map placed_of items) ≡ placed_of l ∷ drop (i + 1) (map placed_of items)
  next_loop =
      drop_more (map placed_of items) i (placed_of l) (subst (λ (n : ℕ). i < n) (sym (length-map items placed_of)) within)
      ∙ ap (λ (x : PlacedLoop). x ∷ drop (i + 1) (map placed_of items))
      (get_or-map placed_of items i l (placed_of l) within ∙ ap placed_of (sym is))

  pub noted_next : (more : List LoopInfo) → noted_one typed done i (placed_of l) ≡ Ok more
      → noted_from typed done i (drop i (map placed_of items)) ≡ noted_from typed more (i + 1) (drop (i + 1) (map placed_of items))
  noted_next more one = rw (next_loop, one) refl

  pub noted_stops : (fault : NoteCause) → noted_one typed done i (placed_of l) ≡ Err fault
      → noted_from typed done i (drop i (map placed_of items)) ≡ Err fault
  noted_stops fault one = rw (next_loop, one) refl

-- a fault of a part is that of the whole
pub fails_whole : (part whole : Noted) (fault : Option NoteCause) → ((e : NoteCause) → part ≡ Err e → whole ≡ Err e) → Fails part fault → Fails whole fault
fails_whole part whole (Some e) h is = h e is
fails_whole part whole None h is = is
