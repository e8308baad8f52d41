-- Where a whole run stands, and what is left of it.
use Rattle.std.specs.Prelude.{◌≡◌, ℕ, List, [], Option, Some, None, false, ℤ, slice_get}
use Rattle.al_core.specs.declared.choices.LoopInfo.{LoopInfo}
use Rattle.al_core.specs.declared.reports.Ending.{Ending}
use Rattle.al_core.specs.declared.typed_tree.Typed.{Typed}
use Rattle.al_core.specs.declared.values.Val.{Val}
use Rattle.al_core.specs.Action.{State, Act, spend, ◌>>◌, visit}
use Rattle.al_core.specs.Iteration.{calls_within}
use Rattle.al_core.specs.Loops.{loop_at}
use Rattle.al_core.specs.Meaning.{Outside}
use Rattle.al_core.specs.Run.{Setting, Whole, outside, start, visit_loop, whole_run}
use Rattle.al_code.specs.declared.lowered.Code.{Code}
use Rattle.al_code.specs.declared.lowered.Entry.{Entry}
use Rattle.al_code.specs.Answerers.{Answerer, answered}
use Rattle.al_code.specs.Machine.{Spot, frame_at}
use Rattle.al_code.specs.Runs.{exec, from_function}
use Rattle.al_exec.specs.declared.machine.Machine.{Machine}
use Rattle.al_exec.specs.declared.machine.Start.{Start}
use Rattle.al_exec.specs.declared.machine.Start.TheVariants as begin
use Rattle.al_exec.specs.Machines.{spot_in, Stands}
use Rattle.al_exec.specs.Starts.{frame_in}
use Rattle.al_engine.specs.declared.job.Job.{Job}
use Rattle.al_engine.specs.Ends.{EndsAs}
use Rattle.al_engine.specs.Jobs.{IsCodeOf, setting_of}

-- ---- what is left

-- what comes before the first instruction: nothing, or the step of a call, at its line
pub data Beginning : Type 0 where
  Nothing : Beginning
  Step : ℕ → Beginning

abbrev pub begun : {S A : Type 0} → Beginning → Act S A → Act S A
begun Nothing run = run
begun (Step line) run = spend line >> run

-- so many instructions from a spot on
abbrev pub rest : Answerer → List ℤ → Code → Beginning → Spot → ℕ → Act Whole (Option Val)
rest answer input code b c n = begun b (exec (answered answer) Outside input code n c)

-- loops are answered as the meaning of the run says
abbrev pub answerer : Setting → Answerer
answerer g loop lo hi locals w = visit_loop g lo hi locals w (loop_at g.typed loop)

-- the whole run's state at the start of `main`
abbrev pub begins : Setting → Entry → State Whole
begins g e = record (start g) { frame = frame_at e [] }

-- The whole run comes to what so many instructions from here on come to, however many.
abbrev pub ComesBy : Setting → Code → Entry → (ℕ → Act Whole (Option Val)) → State Whole → Type 0
ComesBy g code e run s =
    (k : ℕ)
    → (j : ℕ)
    × (from_function (outside g) code e calls_within (exec (outside g) Outside g.input code j) (begins g e) ≡ run k s)

-- so it is for every tree for which the code stands
abbrev pub Leads : Job → (Setting → ℕ → Act Whole (Option Val)) → State Whole → Type 0
Leads j run s =
    (typed : Typed) → IsCodeOf typed j.code.now
    → (e : Entry) → slice_get j.code.now.funcs j.code.now.main ≡ Some e
    → ComesBy (setting_of j typed) j.code.now e (run (setting_of j typed)) s

-- ---- where the machine stands

abbrev pub beginning_of : Start → Beginning
beginning_of begin.Running = Nothing
beginning_of (begin.Function line) = Step line
beginning_of (begin.Iteration line counter n) = Nothing

abbrev pub IsBeginning : Start → Type 0
IsBeginning begin.Running = Unit {0}
IsBeginning (begin.Function line) = Unit {0}
IsBeginning (begin.Iteration line counter n) = ⊥

abbrev pub state_at : Machine → ℕ → Whole → State Whole
state_at m budget w = record { frame = frame_in m; budget = budget; world = w }

-- it goes on from here
pub record IsAt (j : Job) (m : Machine) (budget : ℕ) (w : Whole) : Type 0 where
  pub stands : Stands j.code.now m
  pub outside : m.inside ≡ false
  pub begins : IsBeginning m.start
  pub leads : Leads j
      (λ g. rest (answerer g) j.input.now j.code.now (beginning_of m.start) (spot_in m)) (state_at m budget w)

-- it stands at a loop
pub record IsStopped (j : Job) (loop : ℕ) (lo hi : ℤ) (m : Machine) (budget : ℕ) (w : Whole) : Type 0 where
  pub stands : Stands j.code.now m
  pub outside : m.inside ≡ false
  pub running : m.start ≡ begin.Running
  pub counter : (info : LoopInfo) → slice_get j.code.now.loops loop ≡ Some info → m.counter ≡ info.counter
  pub leads : Leads j
      (λ g k. visit (answered (answerer g)) loop lo hi
      >> exec (answered (answerer g)) Outside j.input.now j.code.now k (spot_in m)) (state_at m budget w)

-- it goes on, or the run ended
abbrev pub IsNext : Job → Machine → ℕ → Whole → Option Ending → Type 0
IsNext j m budget w None = IsAt j m budget w
IsNext j m budget w (Some ending) =
    (typed : Typed) → IsCodeOf typed j.code.now → EndsAs (whole_run (setting_of j typed)) ending w budget
