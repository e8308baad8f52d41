-- A chunk of iterations on a private copy of a memory, and what comes of it.
use Rattle.std.specs.Prelude.{ℕ, ◌+◌, ◌-◌, ◌*◌, min, List, [], map, Option, Some, None, filter_map, ℤ, pos}
use Rattle.std.specs.Int.{div_ceil}
use Rattle.std.specs.FinMap as map
use Rattle.std.specs.FinMap.{FinMap}
use Rattle.std.specs.FinSet as set
use Rattle.std.specs.FinSet.{FinSet}
use Rattle.al_core.specs.declared.choices.Red.{Red}
use Rattle.al_core.specs.declared.reports.Ending.{Ending}
use Rattle.al_core.specs.declared.values.Val.TheVariants.{Int, Ptr}
use Rattle.al_core.specs.World.{Obj, Val}
use Rattle.al_core.specs.Orders.{obj_cmp, addr_cmp}
use Rattle.al_core.specs.Reductions.{red_identity}
use Rattle.al_core.specs.Memory.{Memory, value_at}
use Rattle.al_core.specs.Access.{AccessRecord, Content, nothing_made}
use Rattle.al_core.specs.Iteration.{Execution, Finished, iterations}

-- ---- which iterations

abbrev pub chunk_count : Execution → ℕ
chunk_count x = div_ceil x.trips x.factor

abbrev pub chunk_start : Execution → ℕ → ℕ
chunk_start x c = c * x.factor

abbrev pub chunk_end : Execution → ℕ → ℕ
chunk_end x c = min ((c + 1) * x.factor) x.trips

abbrev pub chunk_trips : Execution → ℕ → ℕ
chunk_trips x c = chunk_end x c - chunk_start x c

-- the iterations of a chunk, in ascending order, up to the first trap
abbrev pub chunk_runs : Execution → ℕ → Content → Finished
chunk_runs x c = iterations x (chunk_trips x c) (chunk_start x c)

-- ---- the outcome

pub record Outcome : Type 0 where
  pub reads : FinSet addr_cmp
  pub touched : FinSet addr_cmp
  -- each word that was written, with its last value
  pub writes : FinMap addr_cmp Val
  -- each object that was made and is still there, with its words
  pub made : FinMap obj_cmp (List Val)
  -- the objects that were freed and not made, in order
  pub freed : List Obj
  -- what each reduction gathered
  pub accumulators : List ℤ
  pub printed : List ℕ
  pub ending : Ending
  pub steps : ℕ

-- A chunk starts with nothing recorded and with the identity in each accumulator.
abbrev pub fresh_accesses : List Red → AccessRecord
fresh_accesses reds = record {
  reads = set.empty;
  touched = set.empty;
  made = set.empty;
  freed = [];
  reds = reds;
  accumulators = map (λ r. Int (red_identity r.op)) reds;
}

abbrev pub chunk_from : Execution → List Red → Memory → ℕ → Content
chunk_from x reds m c = record {
  memory = m;
  allocations = nothing_made x.number (chunk_start x c);
  printed = [];
  accesses = Some (fresh_accesses reds);
}

abbrev pub with_present : {K X : Type 0} → K → Option X → Option (K × X)
with_present k (Some x) = Some (k, x)
with_present k None = None

-- the last value of each touched word that is still there
unfoldable pub writes_of : Memory → FinSet addr_cmp → FinMap addr_cmp Val
writes_of m touched = map.from_entries (filter_map (λ a. with_present a (value_at m a)) (set.items touched))

unfoldable pub made_objects : Memory → FinSet obj_cmp → FinMap obj_cmp (List Val)
made_objects m made = map.from_entries (filter_map (λ o. with_present o (map.get m.objects o)) (set.items made))

abbrev pub sum_of : Val → ℤ
sum_of (Int n) = n
sum_of (Ptr o w) = pos 0

abbrev pub outcome_of : Finished → Option AccessRecord → Outcome
outcome_of r (Some accesses) = record {
  reads = accesses.reads;
  touched = accesses.touched;
  writes = writes_of r.content.memory accesses.touched;
  made = made_objects r.content.memory accesses.made;
  freed = accesses.freed;
  accumulators = map sum_of accesses.accumulators;
  printed = r.content.printed;
  ending = r.ending;
  steps = r.steps;
}
outcome_of r None = record {
  reads = set.empty;
  touched = set.empty;
  writes = map.empty;
  made = map.empty;
  freed = [];
  accumulators = [];
  printed = r.content.printed;
  ending = r.ending;
  steps = r.steps;
}

-- an outcome from what running came to
abbrev pub gathered_from : Finished → Outcome
gathered_from r = outcome_of r r.content.accesses

unfoldable pub outcome : Execution → List Red → Memory → ℕ → Outcome
outcome x reds m c = gathered_from (chunk_runs x c (chunk_from x reds m c))
