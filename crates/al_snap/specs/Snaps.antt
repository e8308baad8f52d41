-- The access record of a chunk, from its layers.
use Rattle.std.specs.Prelude.{List}
use Rattle.std.specs.FinSet as set
use Rattle.al_core.specs.declared.choices.Red.{Red}
use Rattle.al_core.specs.declared.values.Val.{Val}
use Rattle.al_core.specs.Access.{AccessRecord}
use Rattle.al_snap.specs.Layers.{Layers, made_by}

-- the record but for what was read
abbrev pub chunk_record : Layers → List Red → List Val → AccessRecord
chunk_record l reds accumulators = record {
  reads = set.empty;
  touched = l.touched;
  made = made_by l.own;
  freed = l.freed;
  reds = reds;
  accumulators = accumulators;
}
