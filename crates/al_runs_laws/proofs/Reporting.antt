-- Reports of runs whose loops have choices.
use Rattle.std.proofs.Common.{◌≡◌, ℕ, List, Option, Some, None, refl, sym, ap, subst}
use Rattle.std.specs.Prelude.{slice_get, ℤ}
use Rattle.al_core.specs.declared.choices.Choice.{Choice}
use Rattle.al_core.specs.declared.typed_tree.TNote.{TNote}
use Rattle.al_core.specs.declared.typed_tree.Typed.{Typed}
use Rattle.al_core.specs.Loops.{Loop, PlacedLoop, program_loops, Start, start_of, started_loop, noted_loop, loop_at}
use Rattle.al_core.specs.Run.{Setting, Sizes}
use Rattle.al_core.specs.Report.{mode_of, by_choices, report}
use Rattle.al_laws.proofs.Words.{same_some, some_none}
use Rattle.al_runs_laws.specs.Modes.{IsSerializable, AreSerializable, IsOrdered, AreOrdered}
use Rattle.al_runs_laws.specs.Reports.{ChoicesAreSerializable, ChoicesAreOrdered, ReportsAreSerial, ReportsInOrderArePlain}
use Rattle.al_runs_laws.proofs.InCommitOrder.{runs_are_serial, runs_in_order_are_plain}

-- a loop has the number at which it is found
number_of : (typed : Typed) (n : ℕ) (l : Loop) → loop_at typed n ≡ Some l → l.info.number ≡ n
number_of typed n l e = by_note (slice_get typed.loops n) (slice_get (program_loops typed) n) e
  where
    by_start : (note : TNote) (p : PlacedLoop) (s : Option Start) → started_loop n note p s ≡ Some l → l.info.number ≡ n
    by_start note p (Some s) e = ap (λ z. z.info.number) (sym (same_some _ l e))
    by_start note p None e = absurd (some_none l (sym e))

    by_note : (note : Option TNote) (p : Option PlacedLoop) → noted_loop n note p ≡ Some l → l.info.number ≡ n
    by_note (Some note) (Some p) e = by_start note p (start_of p.loop.first) e
    by_note (Some note) None e = absurd (some_none l (sym e))
    by_note None None e = absurd (some_none l (sym e))
    by_note None (Some p) e = absurd (some_none l (sym e))

module _ (typed : Typed) (input : List ℤ) (sizes : Sizes) (choices : List (Option Choice)) where
  abbrev setting : Setting
  setting = record { typed = typed; input = input; sizes = sizes; modes = by_choices choices }

  by_entry : (number : ℕ) (l : Loop) → loop_at typed number ≡ Some l → ChoicesAreSerializable typed choices → (x : Option (Option Choice))
      → slice_get choices number ≡ x → IsSerializable typed l (mode_of x)
  by_entry number l at h (Some (Some choice)) e = h number l choice at e
  by_entry number l at h (Some None) e = tt
  by_entry number l at h None e = tt

  serializable : ChoicesAreSerializable typed choices → AreSerializable setting
  serializable h number l e at =
      subst (λ k. IsSerializable typed l (mode_of (slice_get choices k))) (sym (number_of typed number l at))
      (by_entry number l at h (slice_get choices number) refl)

  by_order : (number : ℕ) → ChoicesAreOrdered choices → (x : Option (Option Choice)) → slice_get choices number ≡ x → IsOrdered (mode_of x)
  by_order number h (Some (Some choice)) e = h number choice e
  by_order number h (Some None) e = tt
  by_order number h None e = tt

  ordered : ChoicesAreOrdered choices → AreOrdered setting
  ordered h number l e at = by_order l.info.number h (slice_get choices l.info.number) refl

pub reports_are_serial : ReportsAreSerial
unfolding report
reports_are_serial typed input sizes choices p full fits =
    runs_are_serial (setting typed input sizes choices) p full (serializable typed input sizes choices fits)

pub reports_in_order_are_plain : ReportsInOrderArePlain
unfolding report
reports_in_order_are_plain typed input sizes choices p full some fits o =
    runs_in_order_are_plain (setting typed input sizes choices) p full some (serializable typed input sizes choices fits)
    (ordered typed input sizes choices o)
