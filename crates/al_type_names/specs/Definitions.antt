-- Items behind those that are known, where some structs stand anywhere.
use Rattle.std.specs.Prelude.{Bool, not, ◌||◌, List, [], ◌∷◌, ◌++◌, is_some, Result, Ok}
use Rattle.al_source.specs.declared.source_tree.Field.{Field}
use Rattle.al_source.specs.declared.source_tree.StructDef.{StructDef}
use Rattle.al_source.specs.declared.source_tree.GlobalDef.{GlobalDef}
use Rattle.al_source.specs.declared.source_tree.Func.{Func}
use Rattle.al_source.specs.declared.source_tree.Item.{Item}
use Rattle.al_source.specs.declared.source_tree.Item.TheVariants as item
use Rattle.al_rules.specs.declared.faults.TypeKind.TheVariants.{Twice, Shape, Mismatch}
use Rattle.al_rules.specs.declared.faults.TypeCause.{TypeCause}
use Rattle.al_rules.specs.Names.{Name, any_named}
use Rattle.al_source.specs.Steps.{and_then}
use Rattle.al_rules.specs.Checks.{Checked, ensure, ◌>>◌}
use Rattle.al_rules.specs.Types.{Form, type_checked, is_held, is_scalar, is_result}
use Rattle.al_rules.specs.Scopes.{Known, is_struct, built_in}
use Rattle.al_rules.specs.Walks.{at_line}
use Rattle.al_rules.specs.Programs.{is_empty, may_start}

-- a field behind those of these names
abbrev pub field_by : (Name → Bool) → (Name → Bool) → (Form → Bool) → List Name → Field → Checked (Unit {0})
field_by known anywhere allowed earlier f =
    ensure (not (any_named (λ n. n) f.name earlier)) Twice >> type_checked known anywhere allowed f.ty

abbrev pub fields_by : (Name → Bool) → (Name → Bool) → (Form → Bool) → List Name → List Field → Checked (Unit {0})
fields_by known anywhere allowed earlier [] = Ok tt
fields_by known anywhere allowed earlier (f ∷ fs) =
    field_by known anywhere allowed earlier f >> fields_by known anywhere allowed (earlier ++ f.name ∷ []) fs

abbrev pub is_taken_in : Known → Name → Bool
is_taken_in known name =
    is_some (built_in name) || any_named (λ g. g.name) name known.globals || any_named (λ f. f.name) name known.funcs

abbrev pub struct_by : Known → (Name → Bool) → StructDef → Checked (Unit {0})
struct_by known anywhere s =
    ensure (not (is_struct known.structs s.name)) Twice >> ensure (not (is_empty s.fields)) Shape
    >> fields_by (is_struct known.structs) anywhere is_held [] s.fields

abbrev pub global_by : Known → (Name → Bool) → GlobalDef → Checked (Unit {0})
global_by known anywhere g =
    ensure (not (is_taken_in known g.name)) Twice >> type_checked (is_struct known.structs) anywhere is_held g.ty
    >> ensure (may_start g.start g.ty) Mismatch

abbrev pub func_by : Known → (Name → Bool) → Func → Checked (Unit {0})
func_by known anywhere f =
    ensure (not (is_taken_in known f.name)) Twice >> type_checked (is_struct known.structs) anywhere is_result f.result
    >> fields_by (is_struct known.structs) anywhere is_scalar [] f.params

abbrev pub item_by : Known → (Name → Bool) → Item → Result (Unit {0}) TypeCause
item_by known anywhere (item.Struct s) = at_line s.line (struct_by known anywhere s)
item_by known anywhere (item.Global g) = at_line g.line (global_by known anywhere g)
item_by known anywhere (item.Func f) = at_line f.line (func_by known anywhere f)

-- with the definition of an item
abbrev pub with_definition : Known → Item → Known
with_definition known (item.Struct s) = record known { structs = known.structs ++ s ∷ [] }
with_definition known (item.Global g) = record known { globals = known.globals ++ g ∷ [] }
with_definition known (item.Func f) = record known { funcs = known.funcs ++ f ∷ [] }

-- with those of items in order, or the first fault
abbrev pub items_by : Known → (Name → Bool) → List Item → Result Known TypeCause
items_by known anywhere [] = Ok known
items_by known anywhere (i ∷ is) =
    and_then (item_by known anywhere i) (λ _. items_by (with_definition known i) anywhere is)
