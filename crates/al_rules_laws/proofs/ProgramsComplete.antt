-- A program that is well typed by the rules has no fault.
use Rattle.std.proofs.Common.{◌≡◌, ℕ, ◌+◌, ◌≤◌, Bool, true, false, not, ◌&&◌, ◌||◌, nat_lt, List, [], ◌∷◌, ◌++◌, length, if◌then◌else◌, Some, None, Result, Ok, codes, bytes_eq, is_some, sum, refl, sym, ap, ◌∙◌, subst, arith, le_trans, le_of_eq, le-add_right, ltb-true}
use Rattle.std.specs.List.{list_any}
use Rattle.std.proofs.lemmas.Slice.Eq.{bytes_eq-Decides}
use Rattle.al_source.specs.declared.limits.TheConstants.{OBJECT_WORDS}
use Rattle.al_source.specs.Steps.{and_then}
use Rattle.al_source.specs.declared.source_tree.CType.{CType}
use Rattle.al_source.specs.declared.source_tree.CType.TheVariants as t
use Rattle.al_source.specs.declared.source_tree.Field.{Field}
use Rattle.al_source.specs.declared.source_tree.Start.{Start}
use Rattle.al_source.specs.declared.source_tree.Func.{Func}
use Rattle.al_source.specs.declared.source_tree.Item.{Item}
use Rattle.al_source.specs.declared.source_tree.Item.TheVariants as item
use Rattle.al_source.specs.declared.source_tree.Program.{Program}
use Rattle.al_core.specs.declared.typed_tree.TNote.{TNote}
use Rattle.al_core.specs.declared.typed_tree.TFunc.{TFunc}
use Rattle.al_core.specs.declared.typed_tree.Typed.{Typed}
use Rattle.al_ast.specs.Nodes.{capped, program_nodes}
use Rattle.al_rules.specs.declared.faults.TypeCause.{TypeCause}
use Rattle.al_rules.specs.declared.faults.LayoutCause.TheVariants.{SelfHolding, TooLarge}
use Rattle.al_rules.specs.declared.layout.Layout.{Layout}
use Rattle.al_rules.specs.Names.{Name, AllOf, none, more, any_named}
use Rattle.al_rules.specs.Layouts.{too_large, holds, words_of, words_of_fields, no_layout, with_item, with_items, layout_fault_at, unless, laid_out, layout_of, sizes}
use Rattle.al_rules.specs.Types.{Form, is_held, is_scalar, is_int}
use Rattle.al_rules.specs.Scopes.{no_scope, built_in, is_struct, structs_in, globals_in, funcs_in, known_of}
use Rattle.al_rules.specs.Programs.{item_type, fields_checked, is_taken, may_start, is_empty, item_checked, items_checked, main_by, main_at, main_of, begun, globals_typed, func_typed, funcs_typed, typed_with, typed_of}
use Rattle.al_rules.specs.ExpressionRules as r
use Rattle.al_rules.specs.ProgramRules as p
use Rattle.al_rules.proofs.LayoutNodes.{holds-Int, holds-Struct, holds-Ptr, holds-Array}
use Rattle.al_rules.proofs.TypeNodes.{int-Int, pointee-Ptr}
use Rattle.al_rules_laws.proofs.TypeFacts.{scalar_complete, held_complete, result_complete}
use Rattle.al_rules_laws.proofs.NameFacts.{new_name_back, place_found}
use Rattle.al_rules_laws.proofs.StatementsComplete as complete
use Rattle.al_rules_laws.proofs.ProgramsSound.{with_more, sum_more, params_are}

-- ---- words

grows_item : (l : Layout) (i : Item) → sum l.globals ≤ sum (with_item l i).globals
grows_item l (item.Struct s) = le_of_eq refl
grows_item l (item.Func f) = le_of_eq refl
grows_item l (item.Global g) =
    subst (λ n. sum l.globals ≤ n) (sym (sum_more l.globals (words_of l.structs g.ty))) (le-add_right (sum l.globals) (words_of l.structs g.ty))

grows : (l : Layout) (is : List Item) → sum l.globals ≤ sum (with_items l is).globals
grows l [] = le_of_eq refl
grows l (i ∷ is) = le_trans (grows_item l i) (grows (with_item l i) is)

small_back : (words line : ℕ) → words ≤ OBJECT_WORDS → too_large words line ≡ None
small_back words line le = by (nat_lt OBJECT_WORDS words) refl
  where
    by : (b : Bool) → nat_lt OBJECT_WORDS words ≡ b → (if b then Some (TooLarge line) else None) ≡ None
    by true is = let lt = ltb-true OBJECT_WORDS words is in absurd (omega arith)
    by false is = refl

-- no type that may stand in a struct holds that struct
scalar_holds : {known : Name → Bool} {a : CType} (name : Name) → r.Scalar known a → holds name a ≡ false
scalar_holds name r.int = holds-Int name
scalar_holds name (r.pointer {a = a} d) = holds-Ptr name a
scalar_holds name (r.to_struct {name = other} k) = holds-Ptr name (t.Struct other)

held_holds : {before known : Name → Bool} {a : CType} (name : Name) → before name ≡ false → r.Held before known a → holds name a ≡ false
held_holds name new (r.scalar d) = scalar_holds name d
held_holds {before = before} name new (r.structure {name = other} k) = holds-Struct name other ∙ by (bytes_eq other name) refl
  where
    by : (b : Bool) → bytes_eq other name ≡ b → b ≡ false
    by false is = refl
    by true is = let d : true ≡ false = sym k ∙ ap before ((bytes_eq-Decides other name).0 is) ∙ new in absurd cc
held_holds name new (r.array {a = a} {n = n} le d) = holds-Array name a n ∙ held_holds name new d

no_holder : {before known : Name → Bool} (name : Name) (earlier fs : List Field) → before name ≡ false → p.Fields (r.Held before known) earlier fs
    → list_any (λ f. holds name f.ty) fs ≡ false
no_holder name earlier [] new d = refl
no_holder name earlier (f ∷ fs) new (p.next {before = before} n h d) = rw (held_holds name new h) (no_holder name (before ++ f ∷ []) fs new d)

not_there : (before : List Item) (name : Name) → r.named (λ s. s.name) name (structs_in before) ≡ None → is_struct (structs_in before) name ≡ false
not_there before name is = by (is_struct (structs_in before) name) (new_name_back (λ s. bytes_eq s.name name) (structs_in before) is)
  where
    by : (b : Bool) → not b ≡ true → b ≡ false
    by false e = refl
    by true e = absurd cc

item_laid : (items before : List Item) (i : Item) → p.ItemTyped items before i → sum (with_item (with_items no_layout before) i).globals ≤ OBJECT_WORDS
    → layout_fault_at (with_items no_layout before) i ≡ None
item_laid items before (item.Struct s) (p.structure new some fs words) le =
    ap (λ b. if b then Some (SelfHolding s.line) else too_large (words_of_fields (with_items no_layout before).structs s.fields) s.line)
    (no_holder s.name [] s.fields (not_there before s.name new) fs)
    ∙ small_back (words_of_fields (with_items no_layout before).structs s.fields) s.line words
item_laid items before (item.Global g) d le =
    let l = with_items no_layout before in
    small_back (sum l.globals + words_of l.structs g.ty) g.line (subst (λ n. n ≤ OBJECT_WORDS) (sum_more l.globals (words_of l.structs g.ty)) le)
item_laid items before (item.Func f) d le = refl

laid : (items before is : List Item) → p.ItemsTyped items before is → sum (with_items (with_items no_layout before) is).globals ≤ OBJECT_WORDS
    → laid_out (with_items no_layout before) is ≡ Ok (with_items (with_items no_layout before) is)
laid items before [] d le = refl
laid items before (i ∷ is) (p.next h d) le =
    let l = with_items no_layout before in
    let same = with_more no_layout before i in
    ap (λ m. unless m (laid_out (with_item l i) is)) (item_laid items before i h (le_trans (grows (with_item l i) is) le))
    ∙ ap (λ (k : Layout). laid_out k is) (sym same)
    ∙ laid items (before ++ i ∷ []) is d (subst (λ (k : Layout). sum (with_items k is).globals ≤ OBJECT_WORDS) (sym same) le)
    ∙ ap (λ (k : Layout). Ok (with_items k is)) same

-- ---- items

fields_ok : (items before : List Item) (allowed : Form → Bool) (Allowed : CType → Type 0) → ((a : CType) → Allowed a → item_type items before allowed a ≡ Ok tt)
    → (earlier fs : List Field) → p.Fields Allowed earlier fs → fields_checked items before allowed earlier fs ≡ Ok tt
fields_ok items before allowed Allowed by earlier [] d = refl
fields_ok items before allowed Allowed by earlier (f ∷ fs) (p.next new h d) =
    rw (new_name_back (λ g. bytes_eq g.name f.name) earlier new, by f.ty h) (fields_ok items before allowed Allowed by (earlier ++ f ∷ []) fs d)

both_none : (a b : Bool) → not a ≡ true → not b ≡ true → not (a || b) ≡ true
both_none false b p q = q
both_none true b p q = absurd cc

free_ok : (before : List Item) (name : Name) → p.IsFree before name → not (is_taken before name) ≡ true
free_ok before name h =
    both_none (is_some (built_in name) || any_named (λ g. g.name) name (globals_in before)) (any_named (λ f. f.name) name (funcs_in before))
    (both_none (is_some (built_in name)) (any_named (λ g. g.name) name (globals_in before)) (ap (λ m. not (is_some m)) h.no_built_in)
    (new_name_back (λ g. bytes_eq g.name name) (globals_in before) h.no_global))
    (new_name_back (λ f. bytes_eq f.name name) (funcs_in before) h.no_function)

start_ok : (s : Start) (a : CType) → p.Holds s a → may_start s a ≡ true
start_ok _ a p.zeroed = refl
start_ok _ _ (p.number {n = n}) = rw int-Int refl
start_ok _ _ (p.null a) = ap is_some (pointee-Ptr a)
start_ok _ _ (p.zero_pointer a) = by (is_int (t.Ptr a)) (ap is_some (pointee-Ptr a))
  where
    by : (b : Bool) {c : Bool} → c ≡ true → (b || (c && true)) ≡ true
    by true e = refl
    by false e = rw e refl

item_ok : (items before : List Item) (i : Item) → p.ItemTyped items before i → item_checked items before i ≡ Ok tt
item_ok items before (item.Struct s) (p.structure new some fs words) =
    let known = is_struct (structs_in items) in
    let there = is_struct (structs_in before) in
    rw (
      new_name_back (λ t. bytes_eq t.name s.name) (structs_in before) new,
      ap (λ hs. not (is_empty hs)) some,
      fields_ok items before is_held
          (r.Held there known) (λ a d. held_complete there known d) [] s.fields fs,
    ) refl
item_ok items before (item.Global g) (p.global free h start) =
    rw (free_ok before g.name free, held_complete (is_struct (structs_in before)) (is_struct (structs_in items)) h, start_ok g.start g.ty start) refl
item_ok items before (item.Func f) (p.function free result params) =
    let known = is_struct (structs_in items) in
    let there = is_struct (structs_in before) in
    rw (
      free_ok before f.name free,
      result_complete there known result,
      fields_ok items before is_scalar (r.Scalar known)
          (λ a d. scalar_complete there known d) [] f.params params,
    ) refl

items_ok : (items before is : List Item) → p.ItemsTyped items before is → items_checked items before is ≡ Ok tt
items_ok items before [] d = refl
items_ok items before (i ∷ is) (p.next h d) = rw (item_ok items before i h) (items_ok items (before ++ i ∷ []) is d)

-- ---- main

main_ok : (fs : List Func) → p.HasMain fs → (k : ℕ) × (main_of fs ≡ Ok k)
main_ok fs h =
    let q = place_found (λ f. bytes_eq f.name (codes "main")) fs h.main h.first in (
      q.0,
      ap (main_at fs) q.1
          ∙ ap (main_by q.0) q.2
          ∙ rw (ap is_empty h.no_params, ap is_int h.gives_int ∙ int-Int) refl,
    )

-- ---- functions

body_ok : (items : List Item) (layout : Layout) (n : ℕ) (f : Func) (loops : List TNote) → p.BodyTyped items f
    → (z : TFunc × List TNote) × (func_typed (known_of layout items) n f loops ≡ Ok z)
body_ok items layout n f loops d =
    let h = complete.statements (known_of layout items) n f.result d.statements (begun f.params loops)
    (params_are f.params (record { scope = no_scope; locals = []; loops = loops })) in
    let z : TFunc × List TNote = (record { params = length f.params; locals = h.end.1.locals; body = h.end.0; line = f.line }, h.end.1.loops) in (
      z,
      ap (λ (q : Result _ TypeCause). and_then q
          (λ r. Ok (record { params = length f.params; locals = r.1.locals; body = r.0; line = f.line }, r.1.loops))) h.ends,
    )

bodies_ok : (items : List Item) (layout : Layout) (n : ℕ) (fs : List Func) (loops : List TNote) → AllOf (p.BodyTyped items) fs
    → (z : List TFunc × List TNote) × (funcs_typed (known_of layout items) n fs loops ≡ Ok z)
bodies_ok items layout n [] loops none = (([], loops), refl)
bodies_ok items layout n (f ∷ fs) loops (more d ds) =
    let a = body_ok items layout n f loops d in
    let b = bodies_ok items layout (n + 1) fs a.0.1 ds in
    ((a.0.0 ∷ b.0.0, b.0.1), rw (a.1, b.1) refl)

-- ---- the whole

pub layout_there : (q : Program) → p.WellTyped q → layout_of q ≡ Ok (sizes q)
unfolding layout_of sizes
layout_there q d = laid q.items [] q.items d.items d.small

pub typed_there : (q : Program) → p.WellTyped q → (typed : Typed) × (typed_of q ≡ Ok typed)
unfolding typed_with
typed_there q d =
    let m = main_ok (funcs_in q.items) d.main in
    let b = bodies_ok q.items (sizes q) 0 (funcs_in q.items) [] d.bodies in
    let typed : Typed = record {
      globals = globals_typed (known_of (sizes q) q.items) (globals_in q.items);
      funcs = b.0.0;
      main = m.0;
      loops = b.0.1;
      nodes = capped (program_nodes q);
    } in
    (typed, rw (items_ok q.items [] q.items d.items, m.1, b.1) refl)
