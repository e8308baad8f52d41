-- The typed tree of a program, or its first type fault: the names and types of all items, then `main`, then the bodies
-- of the functions.
use Rattle.std.specs.Prelude.{◌≡◌, ℕ, ◌+◌, Bool, true, false, not, ◌&&◌, ◌||◌, if◌then◌else◌, List, [], ◌∷◌, ◌++◌, length, codes, Option, Some, None, is_some, Result, Ok, Err, slice_get, ℤ, pos}
use Rattle.std.specs.Ordering.{int_eq}
use Rattle.al_source.specs.Steps.{and_then}
use Rattle.al_source.specs.declared.source_tree.CType.{CType}
use Rattle.al_source.specs.declared.source_tree.Start.{Start}
use Rattle.al_source.specs.declared.source_tree.Start.TheVariants as start
use Rattle.al_source.specs.declared.source_tree.Field.{Field}
use Rattle.al_source.specs.declared.source_tree.StructDef.{StructDef}
use Rattle.al_source.specs.declared.source_tree.GlobalDef.{GlobalDef}
use Rattle.al_source.specs.declared.source_tree.Func.{Func}
use Rattle.al_source.specs.declared.source_tree.Item.{Item}
use Rattle.al_source.specs.declared.source_tree.Item.TheVariants as item
use Rattle.al_source.specs.declared.source_tree.Program.{Program}
use Rattle.al_ast.specs.Nodes.{capped, program_nodes}
use Rattle.al_core.specs.declared.typed_tree.TGlobal.{TGlobal}
use Rattle.al_core.specs.declared.typed_tree.TFunc.{TFunc}
use Rattle.al_core.specs.declared.typed_tree.TNote.{TNote}
use Rattle.al_core.specs.declared.typed_tree.Typed.{Typed}
use Rattle.al_rules.specs.declared.layout.Layout.{Layout}
use Rattle.al_rules.specs.declared.faults.TypeKind.TheVariants.{Twice, Shape, Mismatch, Main}
use Rattle.al_rules.specs.declared.faults.TypeCause.{TypeCause}
use Rattle.al_rules.specs.Names.{Name, place_named, any_named}
use Rattle.al_rules.specs.Layouts.{sizes, layout_fault, fault_of}
use Rattle.al_rules.specs.Checks.{Checked, ensure, ◌>>◌}
use Rattle.al_rules.specs.Types.{is_int, pointee, kind_of, type_checked, is_held, is_scalar, is_result, Form}
use Rattle.al_rules.specs.Scopes.{Known, structs_in, globals_in, funcs_in, known_of, built_in, is_struct, size, no_scope, with_binding}
use Rattle.al_rules.specs.Walks.{Progress, at_line, local_of}
use Rattle.al_rules.specs.Statements.{statements}

-- ---- items

-- The forms of items that no tokens derive and that are `Shape`: a struct without fields, and a type that is
-- malformed or stands where its form may not.

-- In the types of items a struct by value is known where an earlier item defines it, and one behind a pointer where any
-- item does.
abbrev pub item_type : List Item → List Item → (Form → Bool) → CType → Checked (Unit {0})
item_type items before = type_checked (is_struct (structs_in before)) (is_struct (structs_in items))

-- each name is new among those before it, and then its type is looked at
abbrev pub fields_checked : List Item → List Item → (Form → Bool) → List Field → List Field → Checked (Unit {0})
fields_checked items before allowed earlier [] = Ok tt
fields_checked items before allowed earlier (f ∷ fs) =
    ensure (not (any_named (λ g. g.name) f.name earlier)) Twice
    >> item_type items before allowed f.ty
    >> fields_checked items before allowed (earlier ++ f ∷ []) fs

-- a global or function has the name, or it is built in
abbrev pub is_taken : List Item → Name → Bool
is_taken before name =
    is_some (built_in name)
    || any_named (λ g. g.name) name (globals_in before)
    || any_named (λ f. f.name) name (funcs_in before)

-- a number starts an integer, and null a pointer; the number 0 is null too
abbrev pub may_start : Start → CType → Bool
may_start start.Zero a = true
may_start (start.Number n) a = is_int a || (is_some (pointee a) && int_eq n (pos 0))
may_start start.Null a = is_some (pointee a)

abbrev pub is_empty : {A : Type 0} → List A → Bool
is_empty [] = true
is_empty (a ∷ as') = false

abbrev pub struct_checked : List Item → List Item → StructDef → Checked (Unit {0})
struct_checked items before s =
    ensure (not (is_struct (structs_in before) s.name)) Twice
    >> ensure (not (is_empty s.fields)) Shape
    >> fields_checked items before is_held [] s.fields

abbrev pub global_checked : List Item → List Item → GlobalDef → Checked (Unit {0})
global_checked items before g =
    ensure (not (is_taken before g.name)) Twice
    >> item_type items before is_held g.ty
    >> ensure (may_start g.start g.ty) Mismatch

abbrev pub func_checked : List Item → List Item → Func → Checked (Unit {0})
func_checked items before f =
    ensure (not (is_taken before f.name)) Twice
    >> item_type items before is_result f.result
    >> fields_checked items before is_scalar [] f.params

-- an item behind the items before it
abbrev pub item_checked : List Item → List Item → Item → Result (Unit {0}) TypeCause
item_checked items before (item.Struct s) = at_line s.line (struct_checked items before s)
item_checked items before (item.Global g) = at_line g.line (global_checked items before g)
item_checked items before (item.Func f) = at_line f.line (func_checked items before f)

abbrev pub items_checked : List Item → List Item → List Item → Result (Unit {0}) TypeCause
items_checked items before [] = Ok tt
items_checked items before (i ∷ is) =
    and_then (item_checked items before i) (λ _. items_checked items (before ++ i ∷ []) is)

-- ---- main

abbrev pub main_by : ℕ → Option Func → Result ℕ TypeCause
main_by k None = Err (record { kind = Main; line = 1 })
main_by k (Some f) = if is_empty f.params && is_int f.result then Ok k else Err (record { kind = Main; line = f.line })

abbrev pub main_at : List Func → Option ℕ → Result ℕ TypeCause
main_at fs None = Err (record { kind = Main; line = 1 })
main_at fs (Some k) = main_by k (slice_get fs k)

-- the function `main` has no parameters and gives an integer
abbrev pub main_of : List Func → Result ℕ TypeCause
main_of fs = main_at fs (place_named (λ f. f.name) (codes "main") fs)

-- ---- functions

abbrev pub with_params : Progress → List Field → Progress
with_params s [] = s
with_params s (f ∷ fs) = with_params (record s {
  scope = with_binding (record { name = f.name; number = length s.locals; ty = f.ty }) s.scope;
  locals = s.locals ++ local_of f.name f.ty ∷ [];
}) fs

-- The parameters are the first locals, and one scope with the outermost declarations of the body.
abbrev pub begun : List Field → List TNote → Progress
begun params loops = with_params (record { scope = no_scope; locals = []; loops = loops }) params

-- the typed function of this number, and the loops of the program so far
abbrev pub func_typed : Known → ℕ → Func → List TNote → Result (TFunc × List TNote) TypeCause
func_typed known n f loops =
    and_then (statements known n f.result false f.body (begun f.params loops)) (λ r.
    Ok (record { params = length f.params; locals = r.1.locals; body = r.0; line = f.line }, r.1.loops))

-- functions from a number on
abbrev pub funcs_typed : Known → ℕ → List Func → List TNote → Result (List TFunc × List TNote) TypeCause
funcs_typed known n [] loops = Ok ([], loops)
funcs_typed known n (f ∷ fs) loops =
    and_then (func_typed known n f loops) (λ t.
    and_then (funcs_typed known (n + 1) fs t.1) (λ ts. Ok (t.0 ∷ ts.0, ts.1)))

-- ---- the whole

abbrev pub start_of : Start → ℤ
start_of start.Zero = pos 0
start_of (start.Number n) = n
start_of start.Null = pos 0

abbrev pub global_typed : Known → GlobalDef → TGlobal
global_typed known g = record {
  name = g.name;
  words = size known g.ty;
  scalar = kind_of g.ty;
  start = start_of g.start;
}

abbrev pub globals_typed : Known → List GlobalDef → List TGlobal
globals_typed known [] = []
globals_typed known (g ∷ gs) = global_typed known g ∷ globals_typed known gs

-- with the sizes of a layout
unfoldable pub typed_with : Layout → Program → Result Typed TypeCause
typed_with layout p =
    and_then (items_checked p.items [] p.items) (λ _.
    and_then (main_of (funcs_in p.items)) (λ main.
    and_then (funcs_typed (known_of layout p.items) 0 (funcs_in p.items) []) (λ fs.
    Ok (record {
      globals = globals_typed (known_of layout p.items) (globals_in p.items);
      funcs = fs.0;
      main = main;
      loops = fs.1;
      nodes = capped (program_nodes p);
    }))))

abbrev pub typed_of : Program → Result Typed TypeCause
typed_of p = typed_with (sizes p) p

abbrev pub type_fault : Program → Option TypeCause
type_fault p = fault_of (typed_of p)

-- The typed tree of a program that has neither a layout fault nor a type fault.
pub record Resolved (p : Program) (typed : Typed) : Type 0 where
  pub laid_out : layout_fault p ≡ None
  pub is_typed : typed_of p ≡ Ok typed
