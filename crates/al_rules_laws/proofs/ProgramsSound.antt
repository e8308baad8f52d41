-- A program without faults is well typed by the rules.
use Rattle.std.proofs.Common.{◌≡◌, ℕ, ◌+◌, ◌≤◌, Bool, true, false, not, ◌&&◌, ◌||◌, nat_lt, List, [], ◌∷◌, ◌++◌, length, if◌then◌else◌, Option, Some, None, Result, Ok, Err, option_and_then, codes, bytes_eq, slice_get, position, is_some, pos, int_eq, sum, refl, sym, ap, ◌∙◌, subst, ◌⊎◌, inl, inr, ⊎_elim, fold, ltb-false, zero-le}
use Rattle.std.specs.List.{list_any}
use Rattle.std.proofs.lemmas.Bool.Decides.{Decides-int_eq}
use Rattle.al_source.specs.declared.limits.TheConstants.{OBJECT_WORDS}
use Rattle.al_source.specs.Steps.{and_then}
use Rattle.al_source.specs.declared.source_tree.CType.{CType, out-CType}
use Rattle.al_source.specs.declared.source_tree.CType.TheVariants as t
use Rattle.al_source.specs.declared.source_tree.CType.TheOpen.{CType-F}
use Rattle.al_source.specs.declared.source_tree.Field.{Field}
use Rattle.al_source.specs.declared.source_tree.Start.{Start}
use Rattle.al_source.specs.declared.source_tree.Start.TheVariants as start
use Rattle.al_source.specs.declared.source_tree.StructDef.{StructDef}
use Rattle.al_source.specs.declared.source_tree.Func.{Func}
use Rattle.al_source.specs.declared.source_tree.Item.{Item}
use Rattle.al_source.specs.declared.source_tree.Item.TheVariants as item
use Rattle.al_source.specs.declared.source_tree.Program.{Program}
use Rattle.al_core.specs.declared.typed_tree.TNote.{TNote}
use Rattle.al_core.specs.declared.typed_tree.TFunc.{TFunc}
use Rattle.al_core.specs.declared.typed_tree.Typed.{Typed}
use Rattle.al_rules.specs.declared.faults.TypeKind.TheVariants.{Twice, Shape, Mismatch, Main}
use Rattle.al_rules.specs.declared.faults.TypeCause.{TypeCause}
use Rattle.al_rules.specs.declared.faults.LayoutCause.{LayoutCause}
use Rattle.al_rules.specs.declared.faults.LayoutCause.TheVariants.{SelfHolding, TooLarge}
use Rattle.al_rules.specs.declared.layout.Layout.{Layout}
use Rattle.al_rules.specs.Names.{Name, AllOf, none, more, any_named, place_named}
use Rattle.al_rules.specs.Checks.{Checked, ensure, ◌>>◌}
use Rattle.al_rules.specs.Layouts.{too_large, holds, words_of, words_of_fields, no_layout, with_item, with_items, layout_fault_at, laid_out, layout_of, fault_of, sizes}
use Rattle.al_rules.specs.Types.{Form, is_held, is_scalar, is_result, is_int, pointee, pointee_case}
use Rattle.al_rules.specs.Scopes.{no_scope, with_binding, built_in, is_struct, structs_in, globals_in, funcs_in, known_of}
use Rattle.al_rules.specs.Walks.{Progress, at_line, local_of}
use Rattle.al_rules.specs.Statements as w
use Rattle.al_rules.specs.Programs.{item_type, fields_checked, is_taken, may_start, is_empty, struct_checked, global_checked, func_checked, item_checked, items_checked, main_by, main_at, main_of, with_params, begun, func_typed, funcs_typed, typed_with, typed_of}
use Rattle.al_rules.specs.ExpressionRules as r
use Rattle.al_rules.specs.StatementRules as st
use Rattle.al_rules.specs.ProgramRules as p
use Rattle.al_rules_laws.proofs.Logic.{then_ok, ensure_ok, not_true, or_none, and_parts}
use Rattle.al_rules_laws.proofs.LayoutFacts.{unless_ok, layout_is_sizes}
use Rattle.al_rules_laws.proofs.TypeFacts.{is_pointer_type, scalar_sound, held_sound, result_sound}
use Rattle.al_rules_laws.proofs.NameFacts.{new_name, find_place}
use Rattle.al_rules_laws.proofs.WalkFacts.{block}
use Rattle.al_rules_laws.proofs.StatementsSound.{int_true, statements_are}

-- ---- lists of items

pub with_more : (l : Layout) (before : List Item) (i : Item) → with_items l (before ++ i ∷ []) ≡ with_item (with_items l before) i
with_more l [] i = refl
with_more l (b ∷ before) i = with_more (with_item l b) before i

pub sum_more : (xs : List ℕ) (n : ℕ) → sum (xs ++ n ∷ []) ≡ sum xs + n
sum_more xs n = sum_from 0 xs
  where
    sum_from : (a : ℕ) (xs : List ℕ) → fold (λ a x. a + x) a (xs ++ n ∷ []) ≡ fold (λ a x. a + x) a xs + n
    sum_from a [] = refl
    sum_from a (x ∷ xs) = sum_from (a + x) xs

-- ---- answers

pub at_line_ok : {A : Type 0} (line : ℕ) (c : Checked A) (a : A) → at_line line c ≡ Ok a → c ≡ Ok a
at_line_ok {A = A} line (Ok b) a e = ap of_fault e
  where
    of_fault : Result A TypeCause → Checked A
    of_fault (Ok b) = Ok b
    of_fault (Err x) = Ok b
at_line_ok line (Err k) a e = absurd cc

pub no_fault : {A F : Type 0} (r : Result A F) → fault_of r ≡ None → (a : A) × (r ≡ Ok a)
no_fault (Ok a) e = (a, refl)
no_fault (Err x) e = absurd cc

-- ---- words

pub small_by : (words line : ℕ) → too_large words line ≡ None → words ≤ OBJECT_WORDS
small_by words line e = by (nat_lt OBJECT_WORDS words) refl e
  where
    by : (b : Bool) → nat_lt OBJECT_WORDS words ≡ b → (if b then Some (TooLarge line) else None) ≡ None → words ≤ OBJECT_WORDS
    by true is e = absurd cc
    by false is e = ltb-false OBJECT_WORDS words is

if_none : {A : Type 0} (b : Bool) (a : A) (m : Option A) → (if b then Some a else m) ≡ None → m ≡ None
if_none true a m e = absurd cc
if_none false a m e = e

struct_words : (l : Layout) (s : StructDef) → layout_fault_at l (item.Struct s) ≡ None → words_of_fields l.structs s.fields ≤ OBJECT_WORDS
struct_words l s e =
    small_by (words_of_fields l.structs s.fields) s.line
    (if_none (list_any (λ f. holds s.name f.ty) s.fields) (SelfHolding s.line) (too_large (words_of_fields l.structs s.fields) s.line) e)

globals_small : (l : Layout) (is : List Item) (m : Layout) → sum l.globals ≤ OBJECT_WORDS → laid_out l is ≡ Ok m → sum m.globals ≤ OBJECT_WORDS
globals_small l [] m le e = subst (λ (k : Layout). sum k.globals ≤ OBJECT_WORDS) (same e) le
  where
    same : ◌≡◌ {A = Result Layout LayoutCause} (Ok l) (Ok m) → l ≡ m
    same e = cc
globals_small l (i ∷ is) m le e =
    let u = unless_ok (layout_fault_at l i) (laid_out (with_item l i) is) m e in
    globals_small (with_item l i) is m (by i u.0) u.1
  where
    by : (i : Item) → layout_fault_at l i ≡ None → sum (with_item l i).globals ≤ OBJECT_WORDS
    by (item.Struct s) e = le
    by (item.Func f) e = le
    by (item.Global g) e =
        subst (λ n. n ≤ OBJECT_WORDS) (sym (sum_more l.globals (words_of l.structs g.ty))) (small_by (sum l.globals + words_of l.structs g.ty) g.line e)

-- ---- items

fields_are : (items before : List Item) (allowed : Form → Bool) (Allowed : CType → Type 0)
    → ((a : CType) (u : Unit {0}) → item_type items before allowed a ≡ Ok u → Allowed a)
    → (earlier fs : List Field) (u : Unit {0}) → fields_checked items before allowed earlier fs ≡ Ok u → p.Fields Allowed earlier fs
fields_are items before allowed Allowed sound earlier [] u e = p.none
fields_are items before allowed Allowed sound earlier (f ∷ fs) u e =
    let new = ensure (not (any_named (λ g. g.name) f.name earlier)) Twice in
    let a = then_ok (new >> item_type items before allowed f.ty) (λ _. fields_checked items before allowed (earlier ++ f ∷ []) fs) u e in
    let b = then_ok new (λ _. item_type items before allowed f.ty) a.0 a.1 in
    p.next (new_name (λ g. bytes_eq g.name f.name) earlier (ensure_ok (not (any_named (λ g. g.name) f.name earlier)) Twice b.0 b.1))
    (sound f.ty a.0 b.2)
    (fields_are items before allowed Allowed sound (earlier ++ f ∷ []) fs u a.2)

not_some : {A : Type 0} (o : Option A) → is_some o ≡ false → o ≡ None
not_some None e = refl
not_some (Some a) e = absurd cc

is_free : (before : List Item) (name : Name) → not (is_taken before name) ≡ true → p.IsFree before name
is_free before name e =
    let a = or_none (is_some (built_in name)
    || any_named (λ g. g.name) name (globals_in before)) (any_named (λ f. f.name) name (funcs_in before)) (not_true (is_taken before name) e) in
    let b = or_none (is_some (built_in name)) (any_named (λ g. g.name) name (globals_in before)) a.0 in
    record {
      no_built_in = not_some (built_in name) b.0;
      no_global = new_name (λ g. bytes_eq g.name name) (globals_in before) (ap not b.1);
      no_function = new_name (λ f. bytes_eq f.name name) (funcs_in before) (ap not a.1);
    }

pointer_by : (a : CType) (y : CType-F CType) → out-CType a ≡ y → is_some (pointee_case y) ≡ true → (b : CType) × (a ≡ t.Ptr b)
pointer_by a (CType-F.Ptr b) is e = (b, is_pointer_type a b is)
pointer_by a CType-F.Int is e = absurd cc
pointer_by a CType-F.Void is e = absurd cc
pointer_by a (CType-F.Struct name) is e = absurd cc
pointer_by a (CType-F.Array b n) is e = absurd cc

is_pointer : (a : CType) → is_some (pointee a) ≡ true → (b : CType) × (a ≡ t.Ptr b)
unfolding pointee
is_pointer a e = pointer_by a (out-CType a) refl e

or_parts : (a b : Bool) → (a || b) ≡ true → (a ≡ true) ⊎ (b ≡ true)
or_parts true b e = inl refl
or_parts false b e = inr e

holds_start : (s : Start) (a : CType) → may_start s a ≡ true → p.Holds s a
holds_start start.Zero a e = p.zeroed
holds_start (start.Number n) a e = ⊎_elim
    (λ is. subst (p.Holds (start.Number n)) (sym (int_true a is)) p.number)
    (λ both.
    let q = and_parts (is_some (pointee a)) (int_eq n (pos 0)) both in
    let b = is_pointer a q.0 in
    subst (p.Holds (start.Number n)) (sym b.1)
    (subst (λ m. p.Holds (start.Number m) (t.Ptr b.0)) (sym ((Decides-int_eq n (pos 0)).0 q.1)) (p.zero_pointer b.0)))
    (or_parts (is_int a) (is_some (pointee a) && int_eq n (pos 0)) e)
holds_start start.Null a e = let b = is_pointer a e in subst (p.Holds start.Null) (sym b.1) (p.null b.0)

not_empty : (fs : List Field) → not (is_empty fs) ≡ true → (f : Field) × ((hs : List Field) × (fs ≡ f ∷ hs))
not_empty [] e = absurd cc
not_empty (f ∷ fs) e = (f, (fs, refl))

item_is : (items before : List Item) (i : Item) (u : Unit {0}) → item_checked items before i ≡ Ok u → layout_fault_at (with_items no_layout before) i ≡ None
    → p.ItemTyped items before i
item_is items before (item.Struct s) u e clear =
    let known = is_struct (structs_in items) in
    let there = is_struct (structs_in before) in
    let new = ensure (not (is_struct (structs_in before) s.name)) Twice in
    let a = then_ok (new
    >> ensure (not (is_empty s.fields)) Shape) (λ _. fields_checked items before is_held [] s.fields) u
    (at_line_ok s.line (struct_checked items before s) u e) in
    let b = then_ok new (λ _. ensure (not (is_empty s.fields)) Shape) a.0 a.1 in
    let fs = not_empty s.fields (ensure_ok (not (is_empty s.fields)) Shape a.0 b.2) in
    p.structure
    (new_name (λ t. bytes_eq t.name s.name) (structs_in before) (ensure_ok (not (is_struct (structs_in before) s.name)) Twice b.0 b.1))
    fs.1.1
    (fields_are items before is_held (r.Held there known) (held_sound there known) [] s.fields u a.2)
    (struct_words (with_items no_layout before) s clear)
item_is items before (item.Global g) u e clear =
    let new = ensure (not (is_taken before g.name)) Twice in
    let a = then_ok (new
    >> item_type items before is_held g.ty) (λ _. ensure (may_start g.start g.ty) Mismatch) u (at_line_ok g.line (global_checked items before g) u e) in
    let b = then_ok new (λ _. item_type items before is_held g.ty) a.0 a.1 in
    p.global (is_free before g.name (ensure_ok (not (is_taken before g.name)) Twice b.0 b.1))
    (held_sound (is_struct (structs_in before)) (is_struct (structs_in items)) g.ty a.0 b.2)
    (holds_start g.start g.ty (ensure_ok (may_start g.start g.ty) Mismatch u a.2))
item_is items before (item.Func f) u e clear =
    let known = is_struct (structs_in items) in
    let there = is_struct (structs_in before) in
    let new = ensure (not (is_taken before f.name)) Twice in
    let a = then_ok (new
    >> item_type items before is_result f.result) (λ _. fields_checked items before is_scalar [] f.params) u
    (at_line_ok f.line (func_checked items before f) u e) in
    let b = then_ok new (λ _. item_type items before is_result f.result) a.0 a.1 in
    p.function (is_free before f.name (ensure_ok (not (is_taken before f.name)) Twice b.0 b.1))
    (result_sound there known f.result a.0 b.2)
    (fields_are items before is_scalar (r.Scalar known) (scalar_sound there known) [] f.params u a.2)

pub items_are : (items before is : List Item) (u : Unit {0}) (m : Layout) → items_checked items before is ≡ Ok u
    → laid_out (with_items no_layout before) is ≡ Ok m → p.ItemsTyped items before is
items_are items before [] u m e l = p.none
items_are items before (i ∷ is) u m e l =
    let a = then_ok (item_checked items before i) (λ _. items_checked items (before ++ i ∷ []) is) u e in
    let b = unless_ok (layout_fault_at (with_items no_layout before) i) (laid_out (with_item (with_items no_layout before) i) is) m l in
    p.next (item_is items before i a.0 a.1 b.0)
    (items_are items (before ++ i ∷ []) is u m a.2 (ap (λ (k : Layout). laid_out k is) (with_more no_layout before i) ∙ b.1))

-- ---- main

abbrev no_main : Func → Result ℕ TypeCause
no_main f = Err (record { kind = Main; line = f.line })

main_found : (fs : List Func) (o : Option ℕ) (k : ℕ) → position (λ f. bytes_eq f.name (codes "main")) fs ≡ o → main_at fs o ≡ Ok k → p.HasMain fs
main_found fs None k is e = absurd cc
main_found fs (Some n) k is e = by (slice_get fs n) refl e
  where
    by : (m : Option Func) → slice_get fs n ≡ m → main_by n m ≡ Ok k → p.HasMain fs
    by None s e = absurd cc
    by (Some f) s e = of (is_empty f.params && is_int f.result) refl e
      where
        of : (b : Bool) → (is_empty f.params && is_int f.result) ≡ b → (if b then Ok n else no_main f) ≡ Ok k → p.HasMain fs
        of true both e =
            let q = and_parts (is_empty f.params) (is_int f.result) both in
            record {
              main = f;
              first = find_place (λ f. bytes_eq f.name (codes "main")) fs ∙ ap (option_and_then (slice_get fs)) is ∙ s;
              no_params = empty_list f.params q.0;
              gives_int = int_true f.result q.1;
            }
          where
            empty_list : (hs : List Field) → is_empty hs ≡ true → hs ≡ []
            empty_list [] e = refl
            empty_list (h ∷ hs) e = absurd cc
        of false both e = absurd cc

-- ---- functions

pub params_are : (fs : List Field) (s : Progress) → block (with_params s fs).scope ≡ p.params_of fs (block s.scope)
params_are [] s = refl
params_are (f ∷ fs) s = params_are fs (record s {
  scope = with_binding (record { name = f.name; number = length s.locals; ty = f.ty }) s.scope;
  locals = s.locals ++ local_of f.name f.ty ∷ [];
})

body_is : (items : List Item) (layout : Layout) (n : ℕ) (f : Func) (loops : List TNote) (z : TFunc × List TNote)
    → func_typed (known_of layout items) n f loops ≡ Ok z → p.BodyTyped items f
body_is items layout n f loops z e =
    let q = then_ok (w.statements (known_of layout items) n f.result false f.body (begun f.params loops))
    (λ r. Ok (record { params = length f.params; locals = r.1.locals; body = r.0; line = f.line }, r.1.loops)) z e in
    let d = statements_are (known_of layout items) n f.result f.body false (begun f.params loops) q.0 q.1 in
    record {
      after = block q.0.1.scope;
      statements =
          subst (λ b. st.Statements (record { names = p.names_of items; result = f.result }) false b f.body (block q.0.1.scope))
          (params_are f.params (record { scope = no_scope; locals = []; loops = loops })) d;
    }

bodies_are : (items : List Item) (layout : Layout) (n : ℕ) (fs : List Func) (loops : List TNote) (z : List TFunc × List TNote)
    → funcs_typed (known_of layout items) n fs loops ≡ Ok z → AllOf (p.BodyTyped items) fs
bodies_are items layout n [] loops z e = none
bodies_are items layout n (f ∷ fs) loops z e =
    let a = then_ok (func_typed (known_of layout items) n f loops)
    (λ t. and_then (funcs_typed (known_of layout items) (n + 1) fs t.1) (λ ts. Ok (t.0 ∷ ts.0, ts.1))) z e in
    let b = then_ok (funcs_typed (known_of layout items) (n + 1) fs a.0.1) (λ ts. Ok (a.0.0 ∷ ts.0, ts.1)) z a.2 in
    more (body_is items layout n f loops a.0 a.1) (bodies_are items layout (n + 1) fs a.0.1 b.0 b.1)

-- ---- the whole

pub well_typed : (q : Program) (l : Layout) (typed : Typed) → layout_of q ≡ Ok l → typed_of q ≡ Ok typed → p.WellTyped q
unfolding typed_with layout_of
well_typed q l typed laid e =
    let known = known_of (sizes q) q.items in
    let a = then_ok (items_checked q.items [] q.items)
    (λ _. and_then (main_of (funcs_in q.items)) (λ main. and_then (funcs_typed known 0 (funcs_in q.items) []) (λ fs. _))) typed e in
    let b = then_ok (main_of (funcs_in q.items)) (λ main. and_then (funcs_typed known 0 (funcs_in q.items) []) (λ fs. _)) typed a.2 in
    let c = then_ok (funcs_typed known 0 (funcs_in q.items) []) (λ fs. _) typed b.2 in
    record {
      items = items_are q.items [] q.items a.0 l a.1 laid;
      small = subst (λ (k : Layout). sum k.globals ≤ OBJECT_WORDS) (sym (layout_is_sizes q l laid)) (globals_small no_layout q.items l zero-le laid);
      main = main_found (funcs_in q.items) (place_named (λ f. f.name) (codes "main") (funcs_in q.items)) b.0 refl b.1;
      bodies = bodies_are q.items (sizes q) 0 (funcs_in q.items) [] c.0 c.1;
    }
