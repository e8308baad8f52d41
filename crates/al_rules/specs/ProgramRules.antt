-- Typing as a relation: which items and programs are well typed.
use Rattle.std.specs.Prelude.{◌≡◌, ◌≤◌, false, List, [], ◌∷◌, ◌++◌, codes, Some, None, pos, ℤ}
use Rattle.std.specs.List.{sum}
use Rattle.al_source.specs.declared.limits.TheConstants.{OBJECT_WORDS}
use Rattle.al_source.specs.declared.source_tree.CType.{CType}
use Rattle.al_source.specs.declared.source_tree.CType.TheVariants as type
use Rattle.al_source.specs.declared.source_tree.Start.{Start}
use Rattle.al_source.specs.declared.source_tree.Start.TheVariants as start
use Rattle.al_source.specs.declared.source_tree.Field.{Field}
use Rattle.al_source.specs.declared.source_tree.GlobalDef.{GlobalDef}
use Rattle.al_source.specs.declared.source_tree.Func.{Func}
use Rattle.al_source.specs.declared.source_tree.Item.{Item}
use Rattle.al_source.specs.declared.source_tree.Item.TheVariants as item
use Rattle.al_source.specs.declared.source_tree.StructDef.{StructDef}
use Rattle.al_source.specs.declared.source_tree.Program.{Program}
use Rattle.al_rules.specs.Names.{Name, AllOf}
use Rattle.al_rules.specs.Layouts.{no_layout, with_items, words_of_fields, sizes}
use Rattle.al_rules.specs.Scopes.{built_in, is_struct, structs_in, globals_in, funcs_in}
use Rattle.al_rules.specs.ExpressionRules.{Names, named, Scalar, Held, Result}
use Rattle.al_rules.specs.StatementRules.{Block, no_block, Setting, Statements}

-- ---- items

-- the fields of a struct or the parameters of a function: their names differ, and each type may stand there
pub data Fields (Allowed : CType → Type 0) : List Field → List Field → Type 0 where
  none : {before : List Field} → Fields Allowed before []
  next : {before : List Field} {f : Field} {fs : List Field}
      → named (λ g. g.name) f.name before ≡ None → Allowed f.ty
      → Fields Allowed (before ++ f ∷ []) fs → Fields Allowed before (f ∷ fs)

-- neither built in, nor a global or function before
pub record IsFree (before : List Item) (name : Name) : Type 0 where
  pub no_built_in : built_in name ≡ None
  pub no_global : named (λ g. g.name) name (globals_in before) ≡ None
  pub no_function : named (λ f. f.name) name (funcs_in before) ≡ None

-- what a global holds at the start
pub data Holds : Start → CType → Type 0 where
  zeroed : {a : CType} → Holds start.Zero a
  number : {n : ℤ} → Holds (start.Number n) type.Int
  null : (a : CType) → Holds start.Null (type.Ptr a)
  zero_pointer : (a : CType) → Holds (start.Number (pos 0)) (type.Ptr a)

-- An item of these items, behind those before it. A struct by value is known from there on, and one behind a pointer
-- everywhere.
pub data ItemTyped (items before : List Item) : Item → Type 0 where
  structure : {s : StructDef} {f : Field} {fs : List Field}
      → named (λ t. t.name) s.name (structs_in before) ≡ None
      → s.fields ≡ f ∷ fs
      → Fields (Held (is_struct (structs_in before)) (is_struct (structs_in items))) [] s.fields
      → words_of_fields (with_items no_layout before).structs s.fields ≤ OBJECT_WORDS
      → ItemTyped items before (item.Struct s)
  global : {g : GlobalDef}
      → IsFree before g.name
      → Held (is_struct (structs_in before)) (is_struct (structs_in items)) g.ty
      → Holds g.start g.ty
      → ItemTyped items before (item.Global g)
  function : {f : Func}
      → IsFree before f.name
      → Result (is_struct (structs_in items)) f.result
      → Fields (Scalar (is_struct (structs_in items))) [] f.params
      → ItemTyped items before (item.Func f)

pub data ItemsTyped (items : List Item) : List Item → List Item → Type 0 where
  none : {before : List Item} → ItemsTyped items before []
  next : {before : List Item} {i : Item} {is : List Item}
      → ItemTyped items before i → ItemsTyped items (before ++ i ∷ []) is → ItemsTyped items before (i ∷ is)

-- ---- functions

abbrev pub names_of : List Item → List Field → Names
names_of items locals = record {
  locals = locals;
  structs = structs_in items;
  globals = globals_in items;
  funcs = funcs_in items;
}

-- The parameters are one scope with the outermost declarations of the body. The later one is found first.
abbrev pub params_of : List Field → Block → Block
params_of [] b = b
params_of (f ∷ fs) b = params_of fs (record { inner = f ∷ b.inner; outer = b.outer })

abbrev pub setting_of : List Item → Func → Setting
setting_of items f = record { names = names_of items; result = f.result }

pub record BodyTyped (items : List Item) (f : Func) : Type 0 where
  pub after : Block
  pub statements : Statements (setting_of items f) false (params_of f.params no_block) f.body after

-- ---- programs

-- the function `main` has no parameters and gives an integer
pub record HasMain (funcs : List Func) : Type 0 where
  pub main : Func
  pub first : named (λ f. f.name) (codes "main") funcs ≡ Some main
  pub no_params : main.params ≡ []
  pub gives_int : main.result ≡ type.Int

pub record WellTyped (p : Program) : Type 0 where
  pub items : ItemsTyped p.items [] p.items
  pub small : sum (sizes p).globals ≤ OBJECT_WORDS
  pub main : HasMain (funcs_in p.items)
  pub bodies : AllOf (BodyTyped p.items) (funcs_in p.items)
