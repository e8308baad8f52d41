-- A whole run: code outside the iterations of annotated loops, and how each such loop is answered.
use Rattle.std.specs.Prelude.{ℕ, ◌+◌, List, [], ◌∷◌, ◌++◌, map, length, replicate, Option, Some, None, Result, Ok, Err, slice_get, slice_set, ℤ, pos}
use Rattle.std.specs.Int.{int_max}
use Rattle.std.specs.FinMap as map
use Rattle.std.specs.FinMap.{FinMap}
use Rattle.al_source.specs.declared.limits.TheConstants.{ACTIVE_CALLS}
use Rattle.al_core.specs.declared.choices.Choice.{Choice}
use Rattle.al_core.specs.declared.choices.Knobs.{Knobs}
use Rattle.al_core.specs.declared.reports.Ending.{Ending}
use Rattle.al_core.specs.declared.reports.Ending.TheVariants as ending
use Rattle.al_core.specs.declared.reports.Event.{Event}
use Rattle.al_core.specs.declared.reports.Event.TheVariants as event
use Rattle.al_core.specs.declared.reports.Judged.{Judged}
use Rattle.al_core.specs.declared.typed_tree.TGlobal.{TGlobal}
use Rattle.al_core.specs.declared.typed_tree.TFunc.{TFunc}
use Rattle.al_core.specs.declared.typed_tree.Typed.{Typed}
use Rattle.al_core.specs.declared.values.Obj.TheVariants.{Global}
use Rattle.al_core.specs.declared.values.Val.TheVariants.{Int}
use Rattle.al_core.specs.Orders.{obj_cmp}
use Rattle.al_core.specs.World.{Val, Trap, World}
use Rattle.al_core.specs.Values.{trips}
use Rattle.al_core.specs.Action.{AllPrivate, State, Answer}
use Rattle.al_core.specs.Memory.{Memory}
use Rattle.al_core.specs.Access.{Outer, Content, load, store, make, free, print}
use Rattle.al_core.specs.Loops.{Loop, loop_at}
use Rattle.al_core.specs.Meaning.{Outside, call_to}
use Rattle.al_core.specs.Iteration.{Execution, Finished}
use Rattle.al_core.specs.Chunk.{chunk_count}
use Rattle.al_core.specs.Lockstep.{Rounds, not_committed, all_chunks, lockstep}
use Rattle.al_core.specs.Serial.{plain_loop, serial}

-- how an execution of an annotated loop runs: plain, in rounds, or chunk after chunk, of a list or, where there is
-- none, all of them
pub data Mode : Type 0 where
  Plainly : Mode
  InRounds : Choice → Mode
  InChunks : Option (List ℕ) → Mode

-- the numbers on which a run's meaning depends; how many threads there are is none of them
pub record Sizes : Type 0 where
  -- the chunks of a round, and the iterations of a chunk
  pub lanes : ℕ
  pub factor : ℕ
  -- the steps of one iteration, and of all code outside iterations
  pub iter_steps : ℕ
  pub serial_steps : ℕ

abbrev pub sizes_of : Knobs → Sizes
sizes_of k =
    record { lanes = k.lanes; factor = k.chunk; iter_steps = k.iter_steps; serial_steps = k.serial_steps }

-- what a run is given, and the way of each execution, from its loop's number and its own
pub record Setting : Type 0 where
  pub typed : Typed
  pub input : List ℤ
  pub sizes : Sizes
  pub modes : ℕ → ℕ → Mode

-- ---- counts

pub record Counts : Type 0 where
  -- the executions of annotated loops that ran in rounds
  pub loops : ℕ
  pub rounds : ℕ
  -- the runs of chunks
  pub attempts : ℕ
  -- the verdicts `Fail` and `After`
  pub aborted : ℕ
  -- the steps of all iterations that ran outside rounds, and for each round those of its longest chunk
  pub span : ℕ
  pub events : List Event

abbrev pub attempts_of : List (List Judged) → ℕ
attempts_of [] = 0
attempts_of (r ∷ rs) = length r + attempts_of rs

abbrev pub aborted_of : List (List Judged) → ℕ
aborted_of [] = 0
aborted_of (r ∷ rs) = length (not_committed r) + aborted_of rs

abbrev pub enter_event : Execution → Event
enter_event x = event.Enter x.loop.info.number x.number x.loop.info.line x.trips (chunk_count x)

abbrev pub no_counts : Counts
no_counts = record { loops = 0; rounds = 0; attempts = 0; aborted = 0; span = 0; events = [] }

-- the counts of an execution in rounds, and of one that spent so many steps outside rounds
abbrev pub counts_of_rounds : Execution → Rounds → Counts
counts_of_rounds x r = record {
  loops = 1;
  rounds = length r.rounds;
  attempts = attempts_of r.rounds;
  aborted = aborted_of r.rounds;
  span = r.span;
  events = enter_event x ∷ map (λ round. event.Round round) r.rounds;
}

abbrev pub counts_of_steps : ℕ → Counts
counts_of_steps steps = record no_counts { span = steps }

-- the counts so far, and those of what came next
abbrev pub counts_with : Counts → Counts → Counts
counts_with n k = record {
  loops = n.loops + k.loops;
  rounds = n.rounds + k.rounds;
  attempts = n.attempts + k.attempts;
  aborted = n.aborted + k.aborted;
  span = n.span + k.span;
  events = n.events ++ k.events;
}

-- ---- the world outside iterations

-- what the code sees, how many executions there were (entries of annotated loops outside iterations, those of 0 trips
-- too), and the counts
pub record Whole : Type 0 where
  pub content : Content
  pub executions : ℕ
  pub counts : Counts

abbrev pub on_content : {A : Type 0} → (Content → A × Content) → Whole → A × Whole
on_content f w = ((f w.content).0, record w { content = (f w.content).1 })

-- what an execution comes to: the memory, what it printed, how it ended, and its counts
pub record LoopResult : Type 0 where
  pub memory : Memory
  pub printed : List ℕ
  pub ending : Ending
  pub counts : Counts

abbrev pub result_of_steps : Finished → LoopResult
result_of_steps r = record {
  memory = r.content.memory;
  printed = r.content.printed;
  ending = r.ending;
  counts = counts_of_steps r.steps;
}

abbrev pub result_of_rounds : Execution → Rounds → LoopResult
result_of_rounds x r =
    record { memory = r.memory; printed = r.printed; ending = r.ending; counts = counts_of_rounds x r }

abbrev pub list_or_all : Execution → Option (List ℕ) → List ℕ
list_or_all x (Some cs) = cs
list_or_all x None = all_chunks x

abbrev pub by_mode : Execution → ℕ → Memory → Mode → LoopResult
by_mode x lanes m Plainly = result_of_steps (plain_loop x m)
by_mode x lanes m (InRounds choice) = result_of_rounds x (lockstep x choice lanes m)
by_mode x lanes m (InChunks cs) = result_of_steps (serial x (list_or_all x cs) m)

-- after the loop its counter holds the greater of its start and its bound
abbrev pub after_loop : Execution → ℤ → Ending → List Val → Answer (List Val)
after_loop x hi ending.Done locals = Ok (slice_set locals x.loop.info.counter (Int (int_max x.lo hi)))
after_loop x hi (ending.Trap t line) locals = Err (t, line)

-- the world after an execution: its memory but for the locals, its bytes and its counts
abbrev pub world_after : Whole → LoopResult → Whole
world_after w r = record {
  content = record w.content {
    memory = record { objects = r.memory.objects; locals = [] };
    printed = w.content.printed ++ r.printed;
  };
  executions = w.executions + 1;
  counts = counts_with w.counts r.counts;
}

-- its locals are the frame's again
abbrev pub come_back : Execution → ℤ → Whole → LoopResult → Answer (List Val) × Whole
come_back x hi w r = (after_loop x hi r.ending r.memory.locals, world_after w r)

abbrev pub execution : Setting → Loop → ℕ → ℤ → ℕ → Execution
execution g l e lo n = record {
  typed = g.typed;
  input = g.input;
  loop = l;
  number = e;
  lo = lo;
  trips = n;
  factor = g.sizes.factor;
  iter_steps = g.sizes.iter_steps;
}

-- the frame's locals are the memory's while the loop runs
abbrev pub at_loop : Content → List Val → Memory
at_loop c locals = record { objects = c.memory.objects; locals = locals }

abbrev pub run_loop : Setting → Execution → ℤ → List Val → Whole → Answer (List Val) × Whole
run_loop g x hi locals w =
    come_back x hi w (by_mode x g.sizes.lanes (at_loop w.content locals) (g.modes x.loop.info.number x.number))

-- too many trips trap at the loop's own line, and are no execution
abbrev pub if_trips : Setting → Loop → ℤ → ℤ → List Val → Whole → Result ℕ Trap → Answer (List Val) × Whole
if_trips g l lo hi locals w (Err t) = (Err (t, l.info.line), w)
if_trips g l lo hi locals w (Ok n) = run_loop g (execution g l w.executions lo n) hi locals w

abbrev pub visit_loop : Setting → ℤ → ℤ → List Val → Whole → Option Loop → Answer (List Val) × Whole
visit_loop g lo hi locals w (Some l) = if_trips g l lo hi locals w (trips lo hi)
visit_loop g lo hi locals w None = (Ok locals, w)

abbrev pub outside : Setting → World Whole
outside g = record {
  load = λ a want. on_content (load a want);
  store = λ a v. on_content (store a v);
  make = λ words. on_content (make words);
  free = λ o at. on_content (free o at);
  print = λ bytes w. record w { content = print bytes w.content };
  visit = λ loop lo hi locals w. visit_loop g lo hi locals w (loop_at g.typed loop);
}

-- ---- the start and the end

-- a global is zeroed, or its first word is at its written start
abbrev pub start_words : TGlobal → List Val
start_words g = slice_set (replicate g.words (Int (pos 0))) 0 (Int g.start)

abbrev pub globals_from : ℕ → List TGlobal → FinMap obj_cmp (List Val)
globals_from k [] = map.empty
globals_from k (g ∷ gs) = map.insert (globals_from (k + 1) gs) (Global k) (start_words g)

abbrev pub start : Setting → State Whole
start g = record {
  frame = record { locals = []; own = AllPrivate };
  budget = g.sizes.serial_steps;
  world = record {
    content = record {
      memory = record { objects = globals_from 0 g.typed.globals; locals = [] };
      allocations = record { allocator = Outer; next = 0; words = 0 };
      printed = [];
      accesses = None;
    };
    executions = 0;
    counts = no_counts;
  };
}

abbrev pub line_of : Option TFunc → ℕ
line_of (Some f) = f.line
line_of None = 0

-- `main` is called from nowhere, at the line of its definition
unfoldable pub whole_run : Setting → Answer Val × State Whole
whole_run g =
    call_to (outside g) Outside g.typed.funcs g.input ACTIVE_CALLS g.typed.main []
    (line_of (slice_get g.typed.funcs g.typed.main)) (start g)
