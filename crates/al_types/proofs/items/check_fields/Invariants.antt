use Rattle.std.proofs.Common.{◌≡◌, [], length}
use Rattle.al_rules.specs.Scopes.{is_struct}
use Rattle.al_type_names.specs.Definitions.{fields_by}
use Rattle.al_type_names.specs.NameLists.{named_in}
use Rattle.al_type_names.specs.Roles.{allowed_for}
use Rattle.al_types.proofs.items.check_fields.Given as goal

abbrev pub invariant-loop-fields : goal.invariant-loop-fields
invariant-loop-fields l =
    fields_by (is_struct l.known.structs) (named_in l.anywhere) (allowed_for l.role) [] l.fn.fields
    ≡ fields_by (is_struct l.known.structs) (named_in l.anywhere) (allowed_for l.role) l.names l.fields

abbrev pub decreases-loop-fields : goal.decreases-loop-fields
decreases-loop-fields l = length l.fields
