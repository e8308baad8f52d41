-- No execution of a run has more rounds than chunks.
use Rattle.std.proofs.Common.{◌≡◌, ℕ, ◌≤◌, List, [], ◌∷◌, ◌++◌, length, Option, Some, None, Result, Ok, Err, refl, sym, ap, subst, append-nil}
use Rattle.std.specs.Prelude.{ℤ, map, slice_get}
use Rattle.al_source.specs.declared.limits.TheConstants.{ACTIVE_CALLS}
use Rattle.al_core.specs.declared.reports.Event.{Event}
use Rattle.al_core.specs.declared.reports.Event.TheVariants as event
use Rattle.al_core.specs.declared.reports.Judged.{Judged}
use Rattle.al_core.specs.declared.values.Val.{Val}
use Rattle.al_core.specs.declared.values.Trap.{Trap}
use Rattle.al_core.specs.Values.{trips}
use Rattle.al_core.specs.Memory.{Memory}
use Rattle.al_core.specs.Loops.{Loop, loop_at}
use Rattle.al_core.specs.Meaning.{Outside}
use Rattle.al_core.specs.Iteration.{Execution}
use Rattle.al_core.specs.Lockstep.{lockstep}
use Rattle.al_core.specs.Run.{Mode, Plainly, InRounds, InChunks, Setting, Whole, by_mode, execution, at_loop, if_trips, visit_loop, outside, line_of, start, whole_run}
use Rattle.al_core.specs.Report.{report, by_choices, rounds_until}
use Rattle.al_laws.proofs.Abstraction.{of_call}
use Rattle.al_laws.proofs.Commits.{rounds_at_most_chunks}
use Rattle.al_laws.proofs.Keeps.{Keeps, KeepsWorld, keeps_closed}
use Rattle.al_laws.specs.Rounds.{RoundsFit, RoundsFitInReports}

abbrev told : List (List Judged) → List Event
told rs = map (λ r. event.Round r) rs

rounds_told : (rs : List (List Judged)) → rounds_until (told rs) ≡ rs
rounds_told [] = refl
rounds_told (r ∷ rs) = ap (λ rs. r ∷ rs) (rounds_told rs)

told_fit : (rs : List (List Judged)) → RoundsFit (told rs)
told_fit [] = tt
told_fit (r ∷ rs) = told_fit rs

module _ (number execution line trips chunks : ℕ) (rs : List (List Judged)) where
  abbrev more : List Event
  more = event.Enter number execution line trips chunks ∷ told rs

  before_more : (es : List Event) → rounds_until (es ++ more) ≡ rounds_until es
  before_more [] = refl
  before_more (event.Enter n e l t c ∷ es) = refl
  before_more (event.Round r ∷ es) = ap (λ rs. r ∷ rs) (before_more es)

  more_fit : (es : List Event) → length rs ≤ chunks → RoundsFit es → RoundsFit (es ++ more)
  more_fit [] h f = (subst (λ rs. length rs ≤ chunks) (sym (rounds_told rs)) h, told_fit rs)
  more_fit (event.Enter n e l t c ∷ es) h f = (subst (λ rs. length rs ≤ c) (sym (before_more es)) f.0, more_fit es h f.1)
  more_fit (event.Round r ∷ es) h f = more_fit es h f

abbrev Holds : Whole → Type 0
Holds w = RoundsFit w.counts.events

by_mode_fits : (x : Execution) (lanes : ℕ) (m : Memory) (mode : Mode) (es : List Event) → RoundsFit es
    → RoundsFit (es ++ (by_mode x lanes m mode).counts.events)
by_mode_fits x lanes m Plainly es f = subst RoundsFit (sym (append-nil es)) f
by_mode_fits x lanes m (InRounds choice) es f =
    more_fit _ _ _ _ _ (lockstep x choice lanes m).rounds es (rounds_at_most_chunks x choice lanes m) f
by_mode_fits x lanes m (InChunks cs) es f = subst RoundsFit (sym (append-nil es)) f

module _ (g : Setting) where
  trips_fit : (l : Loop) (lo hi : ℤ) (locals : List Val) (w : Whole) (r : Result ℕ Trap) → Holds w → Holds (if_trips g l lo hi locals w r).1
  trips_fit l lo hi locals w (Err t) f = f
  trips_fit l lo hi locals w (Ok n) f =
      by_mode_fits (execution g l w.executions lo n) g.sizes.lanes (at_loop w.content locals) (g.modes l.info.number w.executions)
      w.counts.events f

  visit_fits : (lo hi : ℤ) (locals : List Val) (w : Whole) (l : Option Loop) → Holds w → Holds (visit_loop g lo hi locals w l).1
  visit_fits lo hi locals w (Some l) f = trips_fit l lo hi locals w (trips lo hi) f
  visit_fits lo hi locals w None f = f

  world_fits : KeepsWorld Holds (outside g)
  world_fits = record {
    load = λ a want. record { by = λ w f. f };
    store = λ a v. record { by = λ w f. f };
    make = λ words. record { by = λ w f. f };
    free = λ o at. record { by = λ w f. f };
    print = λ bytes. record { by = λ w f. f };
    visit = λ loop lo hi locals. record { by = λ w f. visit_fits lo hi locals w (loop_at g.typed loop) f };
  }

  run_fits : RoundsFit (whole_run g).1.world.counts.events
  unfolding whole_run
  run_fits =
      (of_call (outside g) (outside g) (λ A. Keeps Holds {A = A}) (keeps_closed Holds (outside g) world_fits) Outside g.typed.funcs g.input ACTIVE_CALLS
      g.typed.main [] (line_of (slice_get g.typed.funcs g.typed.main))).by (start g) tt

pub rounds_fit : RoundsFitInReports
unfolding report
rounds_fit typed input sizes choices = run_fits (record { typed = typed; input = input; sizes = sizes; modes = by_choices choices })
