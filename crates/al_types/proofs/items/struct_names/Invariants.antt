use Rattle.std.proofs.Common.{◌≡◌, ◌||◌, length}
use Rattle.al_rules.specs.Names.{Name}
use Rattle.al_rules.specs.Scopes.{is_struct, structs_in}
use Rattle.al_type_names.specs.NameLists.{named_in}
use Rattle.al_types.proofs.items.struct_names.Given as goal

abbrev pub invariant-loop-items : goal.invariant-loop-items
invariant-loop-items l = (q : Name) → (named_in l.names q || is_struct (structs_in l.items) q) ≡ is_struct (structs_in l.fn.items) q

abbrev pub decreases-loop-items : goal.decreases-loop-items
decreases-loop-items l = length l.items
