-- What a change says of the outcome of a chunk.
use Rattle.std.specs.Prelude.{◌≡◌, Bool, false, not, List, map}
use Rattle.std.specs.FinMap as finmap
use Rattle.std.specs.FinMap.{FinMap}
use Rattle.al_core.specs.declared.values.Obj.{Obj}
use Rattle.al_core.specs.declared.values.Val.{Val}
use Rattle.al_core.specs.declared.values.Addr.{Addr}
use Rattle.al_core.specs.declared.values.Addr.TheVariants.{Word, Head, Local}
use Rattle.al_core.specs.Orders.{addr_cmp}
use Rattle.al_core.specs.Chunk.{Outcome, sum_of}
use Rattle.al_heap.specs.Stores.{objects_in}
use Rattle.al_snap.specs.Layers.{is_among}
use Rattle.al_snap.specs.declared.change.Change.{Change}

-- a word of one of these objects
abbrev pub is_word_of : List Obj → Addr → Bool
is_word_of os (Word o w) = is_among os o
is_word_of os (Head o) = false
is_word_of os (Local k) = false

-- the writes but for those to objects that were freed
abbrev pub writes_left : FinMap addr_cmp Val → List Obj → FinMap addr_cmp Val
writes_left writes freed = finmap.retain_keys writes (λ a. not (is_word_of freed a))

-- the outcome of which a change tells
unfoldable pub told : Change → Outcome
told c = record {
  reads = c.reads.members;
  touched = c.touched.members;
  writes = writes_left c.writes c.freed;
  made = objects_in c.made;
  freed = c.freed;
  accumulators = map sum_of c.accumulators;
  printed = c.printed;
  ending = c.ending;
  steps = c.steps;
}

abbrev pub IsOutcome : Change → Outcome → Type 0
IsOutcome c o = told c ≡ o
