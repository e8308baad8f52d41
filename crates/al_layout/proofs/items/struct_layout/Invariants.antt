use Rattle.std.proofs.Common.{◌≡◌, ◌+◌, ◌++◌, ◌≤◌, length}
use Rattle.al_source.specs.declared.limits.TheConstants.{OBJECT_WORDS}
use Rattle.al_rules.specs.Layouts.{offsets_from, words_of_fields}
use Rattle.al_layout.proofs.items.struct_layout.Given as goal

abbrev pub invariant-loop-fields : goal.invariant-loop-fields
invariant-loop-fields l = record {
  few : l.at ≤ OBJECT_WORDS;
  placed : offsets_from l.structs 0 l.s.fields ≡ l.offsets ++ offsets_from l.structs l.at l.fields;
  counted : words_of_fields l.structs l.s.fields ≡ l.at + words_of_fields l.structs l.fields;
}

abbrev pub decreases-loop-fields : goal.decreases-loop-fields
decreases-loop-fields l = length l.fields
