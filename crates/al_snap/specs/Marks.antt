-- What a chunk's sets say of its access record.
use Rattle.std.specs.Prelude.{Bool, true, false, if◌then◌else◌}
use Rattle.std.specs.FinSet as set
use Rattle.al_core.specs.declared.values.Addr.{Addr}
use Rattle.al_core.specs.declared.values.Addr.TheVariants.{Head}
use Rattle.al_core.specs.declared.values.Obj.{Obj}
use Rattle.al_core.specs.Access.{AccessRecord, with_read, with_head, with_load, with_touched}
use Rattle.al_snap.specs.declared.marks.Marks.{Marks}

-- the record with these reads
abbrev pub marked : AccessRecord → Marks → AccessRecord
marked x m = record x { reads = m.reads.members }

abbrev pub no_marks : AccessRecord → AccessRecord
no_marks x = record x { reads = set.empty }

-- a load that found a value or not
abbrev pub with_found_load : AccessRecord → Addr → Bool → AccessRecord
with_found_load x a found = if found then with_load (with_head x a) a else with_head x a

-- what is recorded of a store, which found a value or not; of a word of an own object nothing is
abbrev pub with_stored : AccessRecord → Bool → Addr → Bool → AccessRecord
with_stored x true a found = x
with_stored x false a true = with_touched (with_head x a) a
with_stored x false a false = with_head x a

-- what is recorded of freeing an object, which was there or not; of an own object nothing is
abbrev pub with_freed : AccessRecord → Bool → Obj → Bool → AccessRecord
with_freed x true o there = x
with_freed x false o true = with_touched (with_read x (Head o)) (Head o)
with_freed x false o false = with_read x (Head o)
