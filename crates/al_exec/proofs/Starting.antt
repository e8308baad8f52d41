-- From what comes first to the run.
use Rattle.std.proofs.Common.{◌≡◌, ℕ, Bool, List, Option, Some, Ok, Err, sym, ap, ◌∙◌, subst}
use Rattle.std.specs.Prelude.{ℤ}
use Rattle.al_core.specs.Action.{State, Answer, Act}
use Rattle.al_core.specs.Access.{Content, in_iteration}
use Rattle.al_code.specs.declared.lowered.Code.{Code}
use Rattle.al_code.specs.Runs.{Stop, Ended, exec_to_stop, ComesTo}
use Rattle.al_exec.specs.declared.machine.Machine.{Machine}
use Rattle.al_exec.specs.declared.machine.Start.TheVariants as start
use Rattle.al_exec.specs.declared.stop.Stop.{Stop as Stopped}
use Rattle.al_exec.specs.declared.stop.Stop.TheVariants as stopped
use Rattle.al_exec.specs.Machines.{where_of, spot_in, state_in, Stands}
use Rattle.al_exec.specs.Going.{run_in, run_of, state_with, Began, StopsAtLoop, StopsAs}

module _ (input : List ℤ) (code : Code) (m m1 : Machine) (w w1 : Content) (began : Began m w m1 w1) where
  abbrev new : Machine
  new = record m { active = record m.active { locals = m1.active.locals; budget = m1.active.budget }; start = start.Running }

  pub began_stands : Stands code m → Stands code m1
  began_stands stands =
      subst (Stands code) (sym began.same)
      (record { fits = record { height = stands.fits.height; room = stands.fits.room }; callers = stands.callers; tall = stands.tall; calls = stands.calls })

  from_start : (r : Answer (Option Stop) × State Content) → ComesTo (run_in input code m1) (state_in m1 w1) r → ComesTo (run_of input code m) (state_in m w) r
  from_start r h = (
    h.0,
    began.did (run_in input code m) h.0
        ∙ (λ j. exec_to_stop in_iteration (where_of (sym began.same j).inside) input code h.0 (spot_in (sym began.same j)) (state_in m1 w1)) ∙ h.1,
  )

  pub started : (stop : Stopped) (m' : Machine) (n : ℕ) (w' : Content) → StopsAs code m1.inside (run_in input code m1) (state_in m1 w1) stop m' n w'
      → StopsAs code m.inside (run_of input code m) (state_in m w) stop m' n w'
  started (stopped.Ended v) m' n w' h = from_start _ h
  started (stopped.AtLoop k lo hi) m' n w' h = record {
    comes = from_start _ h.comes;
    stands = h.stands;
    here = h.here ∙ ap (λ (m : Machine). m.inside) began.same;
    counter = h.counter;
  }
  started (stopped.Trapped t line) m' n w' h = from_start _ h

-- the machine after a stop, with its steps given back
pub given_back : (code : Code) (inside : Bool) (run : ℕ → Act Content (Option Stop)) (s : State Content) (stop : Stopped) (m m' : Machine) (w : Content)
    → m' ≡ record m { start = start.Running }
    → StopsAs code inside run s stop m m.active.budget w → StopsAs code inside run s stop m' m.active.budget w
given_back code inside run s (stopped.Ended v) m m' w new h =
    (h.0, h.1 ∙ (λ j. (Ok (Some (Ended v)), state_with (sym new j) m.active.budget w)))
given_back code inside run s (stopped.AtLoop k lo hi) m m' w new h =
    subst (λ (x : Machine). StopsAtLoop code inside run s k lo hi x m.active.budget w) (sym new)
    (record {
      comes = h.comes;
      stands = record { fits = h.stands.fits; callers = h.stands.callers; tall = h.stands.tall; calls = h.stands.calls };
      here = h.here;
      counter = h.counter;
    })
given_back code inside run s (stopped.Trapped t line) m m' w new h =
    (h.0, h.1 ∙ (λ j. (Err (t, line), state_with (sym new j) m.active.budget w)))
