-- What names mean: the locals in scope, and the structs, globals and functions of a program.
use Rattle.std.specs.Prelude.{ℕ, Bool, ◌&&◌, if◌then◌else◌, List, [], ◌∷◌, ◌++◌, codes, Option, Some, None, is_none, option_map, option_and_then, Err, slice_get, slice_index}
use Rattle.std.specs.List.{find}
use Rattle.std.specs.Str.{bytes_eq}
use Rattle.al_source.specs.declared.operators.RedOp.{RedOp}
use Rattle.al_source.specs.declared.operators.RedOp.TheVariants.{Min, Max}
use Rattle.al_source.specs.declared.source_tree.CType.{CType}
use Rattle.al_source.specs.declared.source_tree.StructDef.{StructDef}
use Rattle.al_source.specs.declared.source_tree.GlobalDef.{GlobalDef}
use Rattle.al_source.specs.declared.source_tree.Func.{Func}
use Rattle.al_source.specs.declared.source_tree.Item.{Item}
use Rattle.al_source.specs.declared.source_tree.Item.TheVariants as item
use Rattle.al_rules.specs.declared.layout.Layout.{Layout}
use Rattle.al_rules.specs.declared.layout.StructLayout.{StructLayout}
use Rattle.al_rules.specs.declared.faults.TypeKind.TheVariants.{Unknown, Mismatch}
use Rattle.al_rules.specs.Names.{Name, place_named, any_named}
use Rattle.al_rules.specs.Layouts.{words_of}
use Rattle.al_rules.specs.Checks.{Checked, some_or}

-- ---- locals

-- a name that is declared, the number of its local and its type
pub record Binding : Type 0 where
  pub name : Name
  pub number : ℕ
  pub ty : CType

-- the names of the innermost scope, and those of the scopes around it, inner ones first
pub record Scope : Type 0 where
  pub inner : List Binding
  pub outer : List Binding

abbrev pub no_scope : Scope
no_scope = record { inner = []; outer = [] }

-- an inner name hides an outer one
abbrev pub in_scope : Scope → List Binding
in_scope s = s.inner ++ s.outer

abbrev pub is_declared : Name → Scope → Bool
is_declared name s = any_named (λ b. b.name) name s.inner

abbrev pub with_binding : Binding → Scope → Scope
with_binding b s = record { inner = b ∷ s.inner; outer = s.outer }

-- a scope within a scope
abbrev pub nested : Scope → Scope
nested s = record { inner = []; outer = in_scope s }

-- ---- what a program defines

pub record Known : Type 0 where
  pub structs : List StructDef
  pub globals : List GlobalDef
  pub funcs : List Func
  pub layout : Layout

abbrev pub structs_in : List Item → List StructDef
structs_in [] = []
structs_in (item.Struct s ∷ is) = s ∷ structs_in is
structs_in (item.Global g ∷ is) = structs_in is
structs_in (item.Func f ∷ is) = structs_in is

abbrev pub globals_in : List Item → List GlobalDef
globals_in [] = []
globals_in (item.Struct s ∷ is) = globals_in is
globals_in (item.Global g ∷ is) = g ∷ globals_in is
globals_in (item.Func f ∷ is) = globals_in is

abbrev pub funcs_in : List Item → List Func
funcs_in [] = []
funcs_in (item.Struct s ∷ is) = funcs_in is
funcs_in (item.Global g ∷ is) = funcs_in is
funcs_in (item.Func f ∷ is) = f ∷ funcs_in is

abbrev pub known_of : Layout → List Item → Known
known_of layout is = record { structs = structs_in is; globals = globals_in is; funcs = funcs_in is; layout = layout }

abbrev pub is_struct : List StructDef → Name → Bool
is_struct structs name = any_named (λ s. s.name) name structs

-- the words of a type
abbrev pub size : Known → CType → ℕ
size known a = words_of known.layout.structs a

-- ---- fields

abbrev pub offset_at : Option StructLayout → ℕ → ℕ
offset_at None at = 0
offset_at (Some l) at = slice_index l.offsets at

-- the type and the offset of a field, from its place among the fields
abbrev pub field_at : StructDef → Option StructLayout → ℕ → Option (CType × ℕ)
field_at s l at = option_map (λ f. (f.ty, offset_at l at)) (slice_get s.fields at)

abbrev pub field_in : Name → Option StructLayout → StructDef → Option (CType × ℕ)
field_in field l s = option_and_then (field_at s l) (place_named (λ f. f.name) field s.fields)

-- a field of the struct of this name
abbrev pub field_of : Known → Name → Name → Option (CType × ℕ)
field_of known name field =
    option_and_then (field_in field (find (λ l. bytes_eq l.name name) known.layout.structs))
    (find (λ s. bytes_eq s.name name) known.structs)

-- ---- variables and functions

pub data Variable : Type 0 where
  Local : ℕ → CType → Variable
  Global : ℕ → CType → Variable

abbrev pub local_named : Name → List Binding → Option Variable
local_named name bs = option_map (λ b. Local b.number b.ty) (find (λ b. bytes_eq b.name name) bs)

abbrev pub global_named : Name → List GlobalDef → Option Variable
global_named name gs =
    option_and_then (λ k. option_map (λ g. Global k g.ty) (slice_get gs k)) (place_named (λ g. g.name) name gs)

abbrev pub first_some : {A : Type 0} → Option A → Option A → Option A
first_some (Some a) other = Some a
first_some None other = other

abbrev pub variable_named : Known → List Binding → Name → Option Variable
variable_named known scope name = first_some (local_named name scope) (global_named name known.globals)

-- what may be called: a function of the program, or one that is built in
pub data Callee : Type 0 where
  Function : ℕ → Func → Callee
  Input : Callee
  Inputs : Callee
  Choose : RedOp → Callee

abbrev pub built_in : Name → Option Callee
built_in name =
    if bytes_eq name (codes "input") then Some Input
    else (if bytes_eq name (codes "inputs") then Some Inputs
    else (if bytes_eq name (codes "min") then Some (Choose Min)
    else (if bytes_eq name (codes "max") then Some (Choose Max) else None)))

abbrev pub function_named : Name → List Func → Option Callee
function_named name fs =
    option_and_then (λ k. option_map (λ f. Function k f) (slice_get fs k)) (place_named (λ f. f.name) name fs)

abbrev pub callee_by : Known → Name → Option Variable → Checked Callee
callee_by known name (Some v) = Err Mismatch
callee_by known name None = some_or (first_some (function_named name known.funcs) (built_in name)) Unknown

-- A call of this name is no expression. As a statement it frees an object, where nothing else has the name.
abbrev pub is_free : Name → Bool
is_free name = bytes_eq name (codes "free")

abbrev pub frees : Known → List Binding → Name → Bool
frees known scope name =
    is_free name && is_none (variable_named known scope name) && is_none (function_named name known.funcs)

-- a variable may not be called
abbrev pub callee_named : Known → List Binding → Name → Checked Callee
callee_named known scope name = callee_by known name (variable_named known scope name)
