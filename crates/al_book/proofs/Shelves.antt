-- A shelf stays sound.
use Rattle.std.proofs.Common.{◌≡◌, ℕ, ◌≤◌, List, [], ◌∷◌, ◌++◌, Bool, false, length, refl, sym, ap, ◌∙◌, subst, ⊎_elim, arith, length-append}
use Rattle.std.specs.Prelude.{map, vec_capacity}
use mathlib.Core.Option.{some-ne-none}
use mathlib.Core.List.{map-append}
use Rattle.al_core.specs.declared.choices.Choice.{Choice}
use Rattle.al_core.specs.declared.reports.Verdict.{Verdict}
use Rattle.al_core.specs.Chunk.{Outcome}
use Rattle.al_core.specs.Lines.{is_line_size, IsLineSize}
use Rattle.al_core.specs.Verdicts.{Judging, nothing_judged, verdict_of, verdicts, committed}
use Rattle.al_count.proofs.Totals.{at_end}
use Rattle.al_board.specs.Fits.{AreFit}
use Rattle.al_book.specs.declared.shelf.Bookshelf.{Bookshelf}
use Rattle.al_book.specs.Judging.{unreduced, ends_in_trap, judging_after, clashes_with_one, verdict_by, failed_after, trapped_after, verdicts_on}
use Rattle.al_book.specs.Shelves.{pieces_on, IsMadeFor, IsMadeAs, IsSound, IsShelfFor}
use Rattle.al_book.proofs.Verdicts.{judging_next, verdicts_more, failed_next, trapped_next, met_known, verdict_known}

no_verdicts : (choice : Choice) → verdicts choice [] ≡ []
unfolding verdicts
no_verdicts choice = refl

module _ {T : Type 0} (outcome : T → Outcome) where
  pub sound_new : (s : Bookshelf T) → IsLineSize s.choice.line → s.lanes ≤ vec_capacity s.pieces → s.lanes ≤ vec_capacity s.verdicts
      → s.pieces.items ≡ [] → s.verdicts.items ≡ [] → s.failed ≡ false → s.trapped ≡ false → IsSound outcome s
  sound_new s line room wide none unjudged failed trapped = record {
    line = line;
    room = (room, wide);
    each = ap length unjudged ∙ sym (ap length none);
    verdicts = unjudged ∙ sym (no_verdicts s.choice) ∙ ap (verdicts_on outcome s.choice) (sym none);
    failed = failed ∙ ap (λ ps. (judging_after s.choice nothing_judged (map outcome ps)).failed) (sym none);
    trapped = trapped ∙ ap (λ ps. (judging_after s.choice nothing_judged (map outcome ps)).trapped) (sym none);
  }

  -- an empty shelf
  pub shelf_starts : (fits : ℕ → T → Type 0) (made by : Choice) (lanes n : ℕ) (s : Bookshelf T) → made ≡ by → n ≡ lanes
      → IsSound outcome s → IsMadeFor made lanes s → pieces_on s ≡ [] → IsShelfFor fits outcome by n s
  shelf_starts fits made by lanes n s e f sound for none = record {
    sound = sound;
    made = record { choice_is = for.choice_is ∙ ap unreduced e; lanes_are = for.lanes_are ∙ sym f };
    fit = λ lane piece at. absurd (some-ne-none piece (sym at ∙ ap (λ (z : List T). lib.ListN.get_elem? z lane) none));
  }

  -- a shelf for a task that grows by a piece that fits stays one
  pub shelf_grows : (fits : ℕ → T → Type 0) (by : Choice) (lanes : ℕ) (s t : Bookshelf T) (piece : T)
      → IsShelfFor fits outcome by lanes s → fits (length (pieces_on s)) piece → IsSound outcome t
      → pieces_on t ≡ pieces_on s ++ piece ∷ [] → IsMadeAs s t → IsShelfFor fits outcome by lanes t
  shelf_grows fits by lanes s t piece h one sound laid same = record {
    sound = sound;
    made = record { choice_is = same.choice_is ∙ h.made.choice_is; lanes_are = same.lanes_are ∙ h.made.lanes_are };
    fit = subst (AreFit fits) (sym laid) (λ lane x e.
        ⊎_elim
        (λ was. h.fit lane x was)
        (λ (z : (lane ≡ length (pieces_on s)) × (piece ≡ x)). subst (λ (w : ℕ × T). fits w.0 w.1) (λ i. (sym z.0 i, z.1 i)) one)
        (at_end (pieces_on s) piece x lane e));
  }

  module _ (s : Bookshelf T) (piece : T) (sound : IsSound outcome s) where
    verdict_is : (v : Verdict)
        → v ≡ verdict_by s.choice.order s.failed s.trapped
        (clashes_with_one s.choice (outcome piece) (committed (map outcome s.pieces.items) s.verdicts.items)) (ends_in_trap (outcome piece).ending)
        → v ≡ verdict_of s.choice (judging_after s.choice nothing_judged (map outcome s.pieces.items)) (outcome piece)
    verdict_is v e =
        e ∙ verdict_known s.choice (judging_after s.choice nothing_judged (map outcome s.pieces.items)) (outcome piece) s.failed s.trapped _
        sound.failed sound.trapped
        (met_known s.choice (outcome piece) (map outcome s.pieces.items) s.verdicts.items sound.verdicts)

    -- the outcomes with the one that is laid
    outcomes_are : (items : List T) → items ≡ s.pieces.items ++ piece ∷ []
        → map outcome items ≡ map outcome s.pieces.items ++ outcome piece ∷ []
    outcomes_are items e = ap (map outcome) e ∙ map-append outcome s.pieces.items (piece ∷ [])

    judging_is : (choice : Choice) (items : List T) → choice ≡ s.choice → items ≡ s.pieces.items ++ piece ∷ []
        → judging_after choice nothing_judged (map outcome items)
        ≡ Rattle.al_core.specs.Verdicts.judged s.choice (judging_after s.choice nothing_judged (map outcome s.pieces.items)) (outcome piece)
    judging_is choice items c e =
        (λ i. judging_after (c i) nothing_judged (outcomes_are items e i))
        ∙ judging_next s.choice nothing_judged (map outcome s.pieces.items) (outcome piece)

    pub sound_next : (t : Bookshelf T) (v : Verdict)
        → v ≡ verdict_by s.choice.order s.failed s.trapped
        (clashes_with_one s.choice (outcome piece) (committed (map outcome s.pieces.items) s.verdicts.items)) (ends_in_trap (outcome piece).ending)
        → t.choice ≡ s.choice → t.lanes ≡ s.lanes → vec_capacity t.pieces ≡ vec_capacity s.pieces → vec_capacity t.verdicts ≡ vec_capacity s.verdicts
        → t.pieces.items ≡ s.pieces.items ++ piece ∷ [] → t.verdicts.items ≡ s.verdicts.items ++ v ∷ []
        → t.failed ≡ failed_after v s.failed → t.trapped ≡ trapped_after v s.trapped → IsSound outcome t
    sound_next t v e c l room wide ps vs f r =
        let is = verdict_is v e in
        let j = judging_after s.choice nothing_judged (map outcome s.pieces.items) in
        let later = judging_is t.choice t.pieces.items c ps in
        let old = sound.room in
        record {
          line = ap (λ (k : Choice). is_line_size k.line) c ∙ sound.line;
          room = (omega arith, omega arith);
          each = let n = sound.each in
              omega (arith, ap length ps, ap length vs, length-append s.pieces.items (piece ∷ []), length-append s.verdicts.items (v ∷ []));
          verdicts =
              vs ∙ (λ i. sound.verdicts i ++ is i ∷ []) ∙ sym (verdicts_more s.choice (map outcome s.pieces.items) (outcome piece))
              ∙ (λ i. verdicts (sym c i) (sym (outcomes_are t.pieces.items ps) i));
          failed = f ∙ (λ i. failed_after (is i) (sound.failed i)) ∙ sym (failed_next s.choice j (outcome piece)) ∙ ap (λ (z : Judging). z.failed) (sym later);
          trapped =
              r ∙ (λ i. trapped_after (is i) (sound.trapped i)) ∙ sym (trapped_next s.choice j (outcome piece))
              ∙ ap (λ (z : Judging). z.trapped) (sym later);
        }
