-- Items behind those before them, and behind what those define.
use Rattle.std.proofs.Common.{◌≡◌, ℕ, ◌≤◌, true≢false, Bool, true, false, not, ◌||◌, List, [], ◌∷◌, ◌++◌, map, length, get_or, Option, Some, None, Result, Ok, Err, refl, sym, ap, ap₂, ◌∙◌, append_assoc, append-nil, arith, if◌then◌else◌}
use Rattle.std.specs.Str.{bytes_eq}
use Rattle.std.proofs.lemmas.List.{map_push}
use Rattle.std.proofs.lemmas.List.Folds.{list_any-append}
use Rattle.std.proofs.lemmas.Slice.Eq.{bytes_eq-Decides}
use Rattle.al_source.specs.declared.source_tree.Field.{Field}
use Rattle.al_source.specs.declared.source_tree.StructDef.{StructDef}
use Rattle.al_source.specs.declared.source_tree.GlobalDef.{GlobalDef}
use Rattle.al_source.specs.declared.source_tree.Func.{Func}
use Rattle.al_source.specs.declared.source_tree.Item.{Item}
use Rattle.al_source.specs.declared.source_tree.Item.TheVariants as item
use Rattle.al_rules.specs.declared.faults.TypeKind.TheVariants.{Twice, Shape}
use Rattle.al_rules.specs.declared.faults.TypeKind.{TypeKind}
use Rattle.al_rules.specs.declared.faults.TypeCause.{TypeCause}
use Rattle.al_rules.specs.declared.layout.Layout.{Layout}
use Rattle.al_rules.specs.Names.{Name, any_named}
use Rattle.al_source.specs.Steps.{and_then}
use Rattle.al_rules.specs.Checks.{Checked, ensure}
use Rattle.al_rules.specs.Types.{Form, type_checked, is_held, is_scalar, is_result}
use Rattle.al_rules.specs.Scopes.{Known, is_struct, structs_in, globals_in, funcs_in, known_of}
use Rattle.al_rules.specs.Walks.{at_line}
use Rattle.al_rules.specs.Programs.{fields_checked, item_checked, items_checked, is_empty, is_taken}
use Rattle.al_type_names.specs.NameLists.{named_in, with_name}
use Rattle.al_source.specs.Answers.{Fails}
use Rattle.al_type_names.specs.Definitions.{field_by, fields_by, item_by, items_by, with_definition}
use Rattle.al_type_names.proofs.NameLookups.{any_of_names}

-- ---- fields

-- the first fault of fields is that of their first one
pub fields_stop : (known anywhere : Name → Bool) (allowed : Form → Bool) (names : List Name) (fs : List Field) (f : Field) → 1 ≤ length fs
    → f ≡ get_or fs 0 f → (fault : Option TypeKind) → Fails (field_by known anywhere allowed names f) fault
    → Fails (fields_by known anywhere allowed names fs) fault
fields_stop known anywhere allowed names [] f some is fault h = absurd (omega arith)
fields_stop known anywhere allowed names (g ∷ fs) f some is (Some kind) h =
    ap (λ (r : Checked (Unit {0})). and_then r (λ _. fields_by known anywhere allowed (names ++ g.name ∷ []) fs))
    (ap (field_by known anywhere allowed names) (sym is) ∙ h)
fields_stop known anywhere allowed names (g ∷ fs) f some is None h = tt

fields_as : (items before : List Item) (allowed : Form → Bool) (earlier fs : List Field)
    → fields_by (is_struct (structs_in before)) (is_struct (structs_in items)) allowed (map (λ f. f.name) earlier) fs
    ≡ fields_checked items before allowed earlier fs
fields_as items before allowed earlier [] = refl
fields_as items before allowed earlier (f ∷ fs) =
    ap₂ (λ (taken : Bool) (names : List Name). and_then
    (and_then (ensure (not taken) Twice) (λ _. type_checked (is_struct (structs_in before)) (is_struct (structs_in items)) allowed f.ty))
    (λ _. fields_by (is_struct (structs_in before)) (is_struct (structs_in items)) allowed names fs))
    (sym (any_of_names (λ (g : Field). g.name) f.name earlier)) (sym (map_push (λ (g : Field). g.name) earlier f))
    ∙ ap (λ (r : Checked (Unit {0})). and_then
    (and_then (ensure (not (any_named (λ (g : Field). g.name) f.name earlier)) Twice)
    (λ _. type_checked (is_struct (structs_in before)) (is_struct (structs_in items)) allowed f.ty))
    (λ _. r))
    (fields_as items before allowed (earlier ++ f ∷ []) fs)

-- ---- items

item_as : (layout : Layout) (items before : List Item) (i : Item)
    → item_by (known_of layout before) (is_struct (structs_in items)) i ≡ item_checked items before i
item_as layout items before (item.Struct s) =
    ap (λ (r : Checked (Unit {0})). at_line s.line (and_then
    (and_then (ensure (not (is_struct (structs_in before) s.name)) Twice) (λ _. ensure (not (is_empty s.fields)) Shape))
    (λ _. r)))
    (fields_as items before is_held [] s.fields)
item_as layout items before (item.Global g) = refl
item_as layout items before (item.Func f) =
    ap (λ (r : Checked (Unit {0})). at_line f.line (and_then
    (and_then (ensure (not (is_taken before f.name)) Twice)
    (λ _. type_checked (is_struct (structs_in before)) (is_struct (structs_in items)) is_result f.result))
    (λ _. r)))
    (fields_as items before is_scalar [] f.params)

structs_append : (xs ys : List Item) → structs_in (xs ++ ys) ≡ structs_in xs ++ structs_in ys
structs_append [] ys = refl
structs_append (item.Struct s ∷ xs) ys = ap (λ l. s ∷ l) (structs_append xs ys)
structs_append (item.Global g ∷ xs) ys = structs_append xs ys
structs_append (item.Func f ∷ xs) ys = structs_append xs ys

globals_append : (xs ys : List Item) → globals_in (xs ++ ys) ≡ globals_in xs ++ globals_in ys
globals_append [] ys = refl
globals_append (item.Struct s ∷ xs) ys = globals_append xs ys
globals_append (item.Global g ∷ xs) ys = ap (λ l. g ∷ l) (globals_append xs ys)
globals_append (item.Func f ∷ xs) ys = globals_append xs ys

funcs_append : (xs ys : List Item) → funcs_in (xs ++ ys) ≡ funcs_in xs ++ funcs_in ys
funcs_append [] ys = refl
funcs_append (item.Struct s ∷ xs) ys = funcs_append xs ys
funcs_append (item.Global g ∷ xs) ys = funcs_append xs ys
funcs_append (item.Func f ∷ xs) ys = ap (λ l. f ∷ l) (funcs_append xs ys)

known_by : (layout : Layout) (s t : List StructDef) (g h : List GlobalDef) (f k : List Func) → s ≡ t → g ≡ h → f ≡ k
    → ◌≡◌ {A = Known} (record { structs = s; globals = g; funcs = f; layout = layout }) (record { structs = t; globals = h; funcs = k; layout = layout })
known_by layout s t g h f k p q r = λ i. record { structs = p i; globals = q i; funcs = r i; layout = layout }

known_more : (layout : Layout) (before : List Item) (i : Item) → with_definition (known_of layout before) i ≡ known_of layout (before ++ i ∷ [])
known_more layout before (item.Struct s) =
    known_by layout _ _ _ _ _ _
    (sym (structs_append before (item.Struct s ∷ [])))
    (sym (globals_append before (item.Struct s ∷ []) ∙ append-nil (globals_in before)))
    (sym (funcs_append before (item.Struct s ∷ []) ∙ append-nil (funcs_in before)))
known_more layout before (item.Global g) =
    known_by layout _ _ _ _ _ _
    (sym (structs_append before (item.Global g ∷ []) ∙ append-nil (structs_in before)))
    (sym (globals_append before (item.Global g ∷ [])))
    (sym (funcs_append before (item.Global g ∷ []) ∙ append-nil (funcs_in before)))
known_more layout before (item.Func f) =
    known_by layout _ _ _ _ _ _
    (sym (structs_append before (item.Func f ∷ []) ∙ append-nil (structs_in before)))
    (sym (globals_append before (item.Func f ∷ []) ∙ append-nil (globals_in before)))
    (sym (funcs_append before (item.Func f ∷ [])))

after : {A B F : Type 0} (r : Result A F) (p q : Result B F) → p ≡ q → and_then r (λ _. p) ≡ and_then r (λ _. q)
after r p q is = ap (λ x. and_then r (λ _. x)) is

twice : {A B C F : Type 0} (r : Result A F) (p : Result B F) (f : B → Result C F) → and_then r (λ _. and_then p f) ≡ and_then (and_then r (λ _. p)) f
twice (Ok a) p f = refl
twice (Err e) p f = refl

-- all items behind some
items_as : (layout : Layout) (all before is : List Item)
    → items_by (known_of layout before) (is_struct (structs_in all)) is
    ≡ and_then (items_checked all before is) (λ _. Ok (known_of layout (before ++ is)))
items_as layout all before [] = ap (λ l. Ok (known_of layout l)) (sym (append-nil before))
items_as layout all before (i ∷ is) =
    ap₂ (λ (r : Result (Unit {0}) TypeCause) (k : Known). and_then r (λ _. items_by k (is_struct (structs_in all)) is))
    (item_as layout all before i) (known_more layout before i)
    ∙ after (item_checked all before i) _ _ (items_as layout all (before ++ i ∷ []) is)
    ∙ twice (item_checked all before i) (items_checked all (before ++ i ∷ []) is) (λ _. Ok (known_of layout ((before ++ i ∷ []) ++ is)))
    ∙ ap (λ l. and_then (items_checked all before (i ∷ is)) (λ _. Ok (known_of layout l))) (append_assoc before (i ∷ []) is)

pub definitions_as : (layout : Layout) (all : List Item) (anywhere : Name → Bool) → ((q : Name) → anywhere q ≡ is_struct (structs_in all) q)
    → items_by (known_of layout []) anywhere all ≡ and_then (items_checked all [] all) (λ _. Ok (known_of layout all))
definitions_as layout all anywhere same =
    ap (λ (a : Name → Bool). items_by (known_of layout []) a all) (λ i q. same q i) ∙ items_as layout all [] all

-- an item whose check passes has a new name
pub is_new : (taken : Bool) (p q : Checked (Unit {0})) (line : ℕ) (u : Unit {0})
    → at_line line (and_then (and_then (ensure (not taken) Twice) (λ _. p)) (λ _. q)) ≡ Ok u → taken ≡ false
is_new true p q line u is = absurd (cc)
is_new false p q line u is = refl

-- ---- the names of structs

or_left : (a b r : Bool) → ((a || b) || r) ≡ (a || (b || r))
or_left true b r = refl
or_left false b r = refl

same_text : (n q : Name) (ns : List Name) → bytes_eq n q ≡ true → named_in ns n ≡ true → named_in ns q ≡ true
same_text n q ns same there = sym (ap (λ n. named_in ns n) ((bytes_eq-Decides n q).0 same)) ∙ there

covered : (b c a r : Bool) → (c ≡ true → a ≡ true) → b ≡ c → (a || r) ≡ (a || (b || r))
covered true c true r there is = refl
covered true c false r there is = absurd (true≢false (sym (there (sym is))))
covered false c a r there is = refl

with_by : (known : Bool) (n q : Name) (ns : List Name) (r : Bool) → any_named (λ m. m) n ns ≡ known
    → (named_in (if known then ns else ns ++ n ∷ []) q || r) ≡ (named_in ns q || (bytes_eq n q || r))
with_by true n q ns r is = covered (bytes_eq n q) (bytes_eq n q) (named_in ns q) r (λ same. same_text n q ns same is) refl
with_by false n q ns r is =
    ap (λ b. b || r) (list_any-append (λ m. bytes_eq m q) ns (n ∷ []))
    ∙ or_left (named_in ns q) (bytes_eq n q || false) r ∙ ap (λ b. named_in ns q || b) (or_left (bytes_eq n q) false r)

-- with one name more
pub with_name_or : (n q : Name) (ns : List Name) (r : Bool) → (named_in (with_name n ns) q || r) ≡ (named_in ns q || (bytes_eq n q || r))
with_name_or n q ns r = with_by (any_named (λ m. m) n ns) n q ns r refl

pub nothing_more : (b c : Bool) → (b || false) ≡ c → b ≡ c
nothing_more true c is = is
nothing_more false c is = is
