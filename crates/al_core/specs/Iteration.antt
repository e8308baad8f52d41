-- An iteration of an annotated loop, and iterations one after another.
use Rattle.std.specs.Prelude.{ℕ, zero, suc, ◌+◌, ◌-◌, List, replicate, Ok, Err, ℤ, pos, ◌+ℤ◌}
use Rattle.al_source.specs.declared.limits.TheConstants.{ACTIVE_CALLS}
use Rattle.al_core.specs.declared.reports.Ending.{Ending}
use Rattle.al_core.specs.declared.reports.Ending.TheVariants as ending
use Rattle.al_core.specs.declared.typed_tree.Typed.{Typed}
use Rattle.al_core.specs.declared.values.Val.TheVariants.{Int}
use Rattle.al_core.specs.Action.{Own, State, Answer, Act, pure, spend, ◌>>=◌, ◌>>◌, set_local}
use Rattle.al_core.specs.Access.{Content, nothing_made, in_iteration}
use Rattle.al_core.specs.Loops.{Loop}
use Rattle.al_core.specs.Meaning.{Flow, Inside, execute, call_to}

-- an execution of an annotated loop: its number, the loop's start and trips, and the steps that an iteration may spend
pub record Execution : Type 0 where
  pub typed : Typed
  pub input : List ℤ
  pub loop : Loop
  pub number : ℕ
  pub lo : ℤ
  pub trips : ℕ
  -- the chunk factor: the iterations of a chunk
  pub factor : ℕ
  pub iter_steps : ℕ

-- how code ended, the steps that it spent, and what it left
pub record Finished : Type 0 where
  pub ending : Ending
  pub steps : ℕ
  pub content : Content

-- In an iteration one call is active, so so many more may be.
abbrev pub calls_within : ℕ
calls_within = ACTIVE_CALLS - 1

-- what the loop's body does in an iteration
abbrev pub body_does : Execution → Act Content Flow
body_does x =
    execute in_iteration Inside x.input (call_to in_iteration Inside x.typed.funcs x.input calls_within) x.loop.body

-- An iteration spends a step, sets its counter and does the loop's body.
abbrev pub iteration_does : Execution → ℕ → Act Content (Unit {0})
iteration_does x j =
    spend x.loop.info.line
    >> (set_local in_iteration x.loop.info.counter (Int (x.lo +ℤ pos j)) x.loop.info.line
    >> (body_does x >>= (λ flow. pure tt)))

-- It begins with a budget of its own, allocates by names of its own, and its private locals are 0.
abbrev pub iteration_from : Execution → ℕ → Content → State Content
iteration_from x j c = record {
  frame = record {
    locals = replicate x.loop.locals (Int (pos 0));
    own = Own x.loop.info.counter x.loop.info.first x.loop.info.last;
  };
  budget = x.iter_steps;
  world = record c { allocations = nothing_made x.number j };
}

abbrev pub ending_of : {A : Type 0} → Answer A → Ending
ending_of (Ok a) = ending.Done
ending_of (Err e) = ending.Trap e.0 e.1

abbrev pub finished : ℕ → Answer (Unit {0}) × State Content → Finished
finished budget r = record { ending = ending_of r.0; steps = budget - r.1.budget; content = r.1.world }

unfoldable pub iteration : Execution → ℕ → Content → Finished
iteration x j c = finished x.iter_steps (iteration_does x j (iteration_from x j c))

-- ---- one after another

-- nothing was run
abbrev pub nothing_run : Content → Finished
nothing_run c = record { ending = ending.Done; steps = 0; content = c }

abbrev pub add_steps : ℕ → Finished → Finished
add_steps n r = record r { steps = n + r.steps }

-- what comes next runs only where there was no trap
abbrev pub then_by : Ending → Finished → (Content → Finished) → Finished
then_by ending.Done r next = add_steps r.steps (next r.content)
then_by (ending.Trap t line) r next = r

abbrev pub then_runs : Finished → (Content → Finished) → Finished
then_runs r next = then_by r.ending r next

-- so many iterations from iteration j on, up to the first trap
abbrev pub iterations : Execution → ℕ → ℕ → Content → Finished
iterations x zero j c = nothing_run c
iterations x (suc n) j c = then_runs (iteration x j c) (iterations x n (suc j))
