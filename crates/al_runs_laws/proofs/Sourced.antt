-- The trees of sources are programs, and the choices of their loops are accepted.
use Rattle.std.proofs.Common.{◌≡◌, ℕ, zero, suc, ◌<◌, List, [], ◌∷◌, length, Option, Some, None, slice_get, refl, sym, ap, subst, ◌∙◌, arith, All, inl, inr}
use Rattle.std.specs.Prelude.{ℤ, Contains}
use Rattle.std.proofs.lemmas.Option.{slice_get_within}
use Rattle.al_source.specs.declared.source_tree.Program.{Program}
use Rattle.al_core.specs.declared.choices.Choice.{Choice}
use Rattle.al_core.specs.declared.choices.LoopInfo.{LoopInfo}
use Rattle.al_core.specs.declared.choices.Red.{Red}
use Rattle.al_core.specs.declared.typed_tree.TNote.{TNote}
use Rattle.al_core.specs.declared.typed_tree.Typed.{Typed}
use Rattle.al_core.specs.Accepted.{IsAccepted}
use Rattle.al_core.specs.Loops.{Loop, PlacedLoop, program_loops, noted_loop, loop_at}
use Rattle.al_laws.proofs.Words.{same_some, some_none}
use Rattle.al_rules.specs.Candidates.{choices}
use Rattle.al_rules.specs.Notes.{infos}
use Rattle.al_rules_laws.specs.ReductionLaws.{IsAcceptedFor}
use Rattle.al_rules_laws.proofs.AcceptedReductions.{as_many_entries, entry_at, own_reductions_are_accepted, choices_are_accepted}
use Rattle.al_rules_laws.proofs.FormedPrograms.{resolved_is_well_formed}
use Rattle.al_reductions_laws.proofs.AcceptedReds.{all_at}
use Rattle.al_kinds_laws.specs.Programs.{IsProgram}
use Rattle.al_runs_laws.specs.Reports.{ChoicesAreSerializable}
use Rattle.al_runs_laws.specs.Sources.{IsSource, IsOwnChoice, ChoicesAreOwn, SourcesAreSerial, SourcesInOrderArePlain}
use Rattle.al_runs_laws.proofs.WholePlaces.{scalars_are_whole}
use Rattle.al_runs_laws.proofs.Reporting.{reports_are_serial, reports_in_order_are_plain}

-- what each element has one has that is among them
among : {X : Type 0} (P : X → Type 0) (xs : List X) (x : X) → All P xs → Contains xs x → P x
among P xs x h c = subst P c.2 (h c.0 x c.1)

there : {X : Type 0} (xs : List X) (n : ℕ) → n < length xs → slice_get xs n ≡ None → ⊥
there [] n l e = omega (arith, l)
there (x ∷ xs) zero l e = some_none x e
there (x ∷ xs) (suc n) l e = there xs n (omega (arith, l)) e

module _ (p : Program) (typed : Typed) (input : List ℤ) (h : IsSource p typed input) where
  is_program : IsProgram typed input
  is_program = record {
    formed = resolved_is_well_formed p typed h.resolved;
    numbers = h.numbers;
    starts = h.starts;
    whole = scalars_are_whole p typed h.resolved;
  }

  -- a loop has a note
  with_note : (n : ℕ) (l : Loop) (x : Option TNote) (y : Option PlacedLoop) → noted_loop n x y ≡ Some l → (note : TNote) × (x ≡ Some note)
  with_note n l (Some note) y e = (note, refl)
  with_note n l None y e = absurd (some_none l (sym e))

  -- and so an entry
  entry : (n : ℕ) (l : Loop) → loop_at typed n ≡ Some l → (info : LoopInfo) × (slice_get (infos typed) n ≡ Some info)
  entry n l at =
      let note = with_note n l (slice_get typed.loops n) (slice_get (program_loops typed) n) at in
      by_value (slice_get (infos typed) n) refl
      (omega (arith, slice_get_within typed.loops n note.0 note.1, as_many_entries p typed h.resolved h.annotated))
    where
      by_value : (x : Option LoopInfo) → slice_get (infos typed) n ≡ x → n < length (infos typed) → (info : LoopInfo) × (slice_get (infos typed) n ≡ Some info)
      by_value (Some info) e l = (info, e)
      by_value None e l = absurd (there (infos typed) n l e)

  same_loop : (n : ℕ) (l : Loop) (info : LoopInfo) (reds : List Red) → loop_at typed n ≡ Some l → slice_get (infos typed) n ≡ Some info
      → IsAcceptedFor typed info reds → IsAccepted typed l reds
  same_loop n l info reds at is a =
      let same = entry_at p typed h.resolved h.annotated n info is in
      subst (λ z. IsAccepted typed z reds) (same_some a.loop l (sym a.stands ∙ ap (loop_at typed) same ∙ at)) a.accepted

  accepted : (n : ℕ) (l : Loop) (info : LoopInfo) (choice : Choice) → loop_at typed n ≡ Some l → slice_get (infos typed) n ≡ Some info
      → IsOwnChoice typed info choice → IsAccepted typed l choice.reds
  accepted n l info choice at is (inl e) =
      let own = all_at (λ i. IsAcceptedFor typed i i.own.reds) (infos typed) n info (own_reductions_are_accepted p typed h.resolved h.annotated) is in
      subst (IsAccepted typed l) (sym e) (same_loop n l info info.own.reds at is own)
  accepted n l info choice at is (inr c) =
      let tried = all_at (λ i. All (λ c. IsAcceptedFor typed i c.reds) (choices typed i)) (infos typed) n info
      (choices_are_accepted p typed h.resolved h.annotated) is in
      same_loop n l info choice.reds at is (among (λ c. IsAcceptedFor typed info c.reds) (choices typed info) choice tried c)

  serializable : (chosen : List (Option Choice)) → ChoicesAreOwn typed chosen → ChoicesAreSerializable typed chosen
  serializable chosen own n l choice at is =
      let e = entry n l at in
      let o = own n e.0 choice e.1 is in
      (o.0, accepted n l e.0 choice at e.1 o.1)

pub sources_are_serial : SourcesAreSerial
sources_are_serial p typed input sizes chosen h full own =
    reports_are_serial typed input sizes chosen (is_program p typed input h) full (serializable p typed input h chosen own)

pub sources_in_order_are_plain : SourcesInOrderArePlain
sources_in_order_are_plain p typed input sizes chosen h full some own ordered =
    reports_in_order_are_plain typed input sizes chosen (is_program p typed input h) full some (serializable p typed input h chosen own) ordered
