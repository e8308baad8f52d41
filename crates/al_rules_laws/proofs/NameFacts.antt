-- Names by their look-ups, as the walk has them and as the rules have them.
use Rattle.std.proofs.Common.{◌≡◌, ℕ, zero, suc, ◌+◌, Bool, true, false, not, cond, nat_lt, List, [], ◌∷◌, map, length, Option, Some, None, Ok, option_map, option_and_then, slice_get, find, position, bytes_eq, is_none, refl, sym, ap, ◌∙◌, subst, ◌&&◌, ◌||◌, ◌≤◌, codes, arith, lt-ltb, ltb-true, ltb-false}
use Rattle.std.specs.List.{list_any, position_or_len}
use Rattle.std.proofs.lemmas.Slice.Eq.{bytes_eq-Decides}
use Rattle.al_source.specs.declared.source_tree.CType.{CType}
use Rattle.al_source.specs.declared.source_tree.Field.{Field}
use Rattle.al_source.specs.declared.source_tree.GlobalDef.{GlobalDef}
use Rattle.al_source.specs.declared.source_tree.StructDef.{StructDef}
use Rattle.al_source.specs.declared.source_tree.Func.{Func}
use Rattle.al_rules.specs.declared.faults.TypeKind.TheVariants.{Unknown}
use Rattle.al_rules.specs.declared.layout.StructLayout.{StructLayout}
use Rattle.al_rules.specs.Names.{Name}
use Rattle.al_rules.specs.Scopes.{Binding, Known, Variable, Local, Global, Callee, Function, global_named, function_named, variable_named, first_some, built_in, callee_by, callee_named, is_free, frees, field_at, offset_at, field_in, field_of}
use Rattle.al_rules.specs.Checks.{some_or}
use Rattle.al_rules.specs.ExpressionRules as r
use Rattle.al_rules.specs.StatementRules.{Frees}
use Rattle.al_rules_laws.proofs.Logic.{and_parts, and_false}

-- ---- lists

abbrev at_cons : ℕ → ℕ → Option ℕ
at_cons k n = cond (nat_lt k n) (Some k) None

here : (n : ℕ) → at_cons 0 (suc n) ≡ Some 0
here n = ap (λ b. cond b (Some 0) None) (lt-ltb 0 (suc n) (omega arith))

later_by : (k n : ℕ) (b c : Bool) → nat_lt k n ≡ b → nat_lt (1 + k) (suc n) ≡ c → cond c (Some (1 + k)) None ≡ option_map suc (cond b (Some k) None)
later_by k n true true d e = ap Some (omega arith)
later_by k n false false d e = refl
later_by k n true false d e = let a = ltb-true k n d in let b = ltb-false (1 + k) (suc n) e in absurd (omega arith)
later_by k n false true d e = let a = ltb-false k n d in let b = ltb-true (1 + k) (suc n) e in absurd (omega arith)

abbrev place_by : {A : Type 0} → (A → Bool) → A → List A → Bool → Option ℕ
place_by p x xs b = at_cons (cond (not b) (1 + position_or_len p xs) 0) (suc (length xs))

place_cons : {A : Type 0} (p : A → Bool) (x : A) (xs : List A) (b : Bool) → place_by p x xs b ≡ cond b (Some 0) (option_map suc (position p xs))
place_cons p x xs true = here (length xs)
place_cons p x xs false =
    later_by (position_or_len p xs) (length xs) (nat_lt (position_or_len p xs) (length xs)) (nat_lt (1 + position_or_len p xs) (suc (length xs))) refl refl

pub position_cons : {A : Type 0} (p : A → Bool) (x : A) (xs : List A) → position p (x ∷ xs) ≡ cond (p x) (Some 0) (option_map suc (position p xs))
position_cons p x xs = place_cons p x xs (p x)

get_suc : {A : Type 0} (x : A) (xs : List A) (o : Option ℕ) → option_and_then (slice_get (x ∷ xs)) (option_map suc o) ≡ option_and_then (slice_get xs) o
get_suc x xs None = refl
get_suc x xs (Some k) = refl

find_by : {A : Type 0} (x : A) (xs : List A) (f : Option A) (o : Option ℕ) (b : Bool) → f ≡ option_and_then (slice_get xs) o
    → cond b (Some x) f ≡ option_and_then (slice_get (x ∷ xs)) (cond b (Some 0) (option_map suc o))
find_by x xs f o true e = refl
find_by x xs f o false e = e ∙ sym (get_suc x xs o)

-- what is found stands at the first place that passes
pub find_place : {A : Type 0} (p : A → Bool) (xs : List A) → find p xs ≡ option_and_then (slice_get xs) (position p xs)
find_place p [] = refl
find_place p (x ∷ xs) =
    find_by x xs (find p xs) (position p xs) (p x) (find_place p xs) ∙ ap (option_and_then (slice_get (x ∷ xs))) (sym (position_cons p x xs))

-- where one passes, it is found, and the list has an element that passes
any_by : {A : Type 0} (x : A) (f : Option A) (b c : Bool) → is_none f ≡ not c → is_none (cond b (Some x) f) ≡ not (b || c)
any_by x f true c e = refl
any_by x f false c e = e

pub find_none : {A : Type 0} (p : A → Bool) (xs : List A) → is_none (find p xs) ≡ not (list_any p xs)
find_none p [] = refl
find_none p (x ∷ xs) = any_by x (find p xs) (p x) (list_any p xs) (find_none p xs)

pub none_of : {A : Type 0} (o : Option A) → is_none o ≡ true → o ≡ None
none_of None e = refl
none_of (Some a) e = absurd cc

-- a name is new exactly where nothing of it is found
pub new_name : {A : Type 0} (p : A → Bool) (xs : List A) → not (list_any p xs) ≡ true → find p xs ≡ None
new_name p xs e = none_of (find p xs) (find_none p xs ∙ e)

pub new_name_back : {A : Type 0} (p : A → Bool) (xs : List A) → find p xs ≡ None → not (list_any p xs) ≡ true
new_name_back p xs e = sym (find_none p xs) ∙ ap is_none e

find_map_by : {A B : Type 0} (f : A → B) (x : A) (o : Option A) (b : Bool) → cond b (Some (f x)) (option_map f o) ≡ option_map f (cond b (Some x) o)
find_map_by f x o true = refl
find_map_by f x o false = refl

pub find_map : {A B : Type 0} (f : A → B) (p : B → Bool) (xs : List A) → find p (map f xs) ≡ option_map f (find (λ a. p (f a)) xs)
find_map f p [] = refl
find_map f p (x ∷ xs) = ap (λ o. cond (p (f x)) (Some (f x)) o) (find_map f p xs) ∙ find_map_by f x (find (λ a. p (f a)) xs) (p (f x))

-- the place of what is found
pub place_found : {A : Type 0} (p : A → Bool) (xs : List A) (x : A) → find p xs ≡ Some x → (k : ℕ) × (position p xs ≡ Some k) × (slice_get xs k ≡ Some x)
place_found p xs x e = by (position p xs) refl (sym (find_place p xs) ∙ e)
  where
    by : (o : Option ℕ) → position p xs ≡ o → option_and_then (slice_get xs) o ≡ Some x → (k : ℕ) × (position p xs ≡ Some k) × (slice_get xs k ≡ Some x)
    by None is g = absurd cc
    by (Some k) is g = (k, is, g)

get_within : {A : Type 0} (xs : List A) (k : ℕ) → slice_get xs k ≡ None → length xs ≤ k
get_within [] k e = omega arith
get_within (x ∷ xs) zero e = absurd cc
get_within (x ∷ xs) (suc k) e = let h = get_within xs k e in omega arith

pub no_place : {A : Type 0} (p : A → Bool) (xs : List A) → find p xs ≡ None → position p xs ≡ None
no_place p [] e = refl
no_place p (x ∷ xs) e = position_cons p x xs ∙ by (p x) e (no_place p xs)
  where
    by : (b : Bool) → cond b (Some x) (find p xs) ≡ None → (find p xs ≡ None → position p xs ≡ None) → cond b (Some 0) (option_map suc (position p xs)) ≡ None
    by true g h = absurd cc
    by false g h = ap (option_map suc) (h g)

-- ---- names by their look-ups

abbrev pub field_of_binding : Binding → Field
field_of_binding b = record { name = b.name; ty = b.ty }

-- the names that the rules see of what the walk knows
abbrev pub names : Known → List Binding → r.Names
names known scope = record { locals = map field_of_binding scope; structs = known.structs; globals = known.globals; funcs = known.funcs }

pub local_found : (name : Name) (bs : List Binding)
    → r.named (λ f. f.name) name (map field_of_binding bs) ≡ option_map field_of_binding (find (λ b. bytes_eq b.name name) bs)
local_found name bs = find_map field_of_binding (λ f. bytes_eq f.name name) bs

-- ---- variables

abbrev local_by : Option Binding → Option Variable
local_by o = option_map (λ b. Local b.number b.ty) o

-- what a name is, of the three that it may be
pub data VariableIs (known : Known) (scope : List Binding) (name : Name) : Option Variable → Type 0 where
  is_local : (b : Binding) → r.named (λ f. f.name) name (map field_of_binding scope) ≡ Some (field_of_binding b)
      → VariableIs known scope name (Some (Local b.number b.ty))
  is_global : (k : ℕ) (x : GlobalDef) → r.named (λ f. f.name) name (map field_of_binding scope) ≡ None → r.named (λ x. x.name) name known.globals ≡ Some x
      → VariableIs known scope name (Some (Global k x.ty))
  is_no_variable : r.IsNoVariable (names known scope) name → VariableIs known scope name None

module _ (known : Known) (scope : List Binding) (name : Name) where
  locals_of : (o : Option Binding) → find (λ b. bytes_eq b.name name) scope ≡ o
      → r.named (λ f. f.name) name (map field_of_binding scope) ≡ option_map field_of_binding o
  locals_of o e = local_found name scope ∙ ap (option_map field_of_binding) e

  global_by : (o : Option GlobalDef) → find (λ x. bytes_eq x.name name) known.globals ≡ o → r.named (λ f. f.name) name (map field_of_binding scope) ≡ None
      → VariableIs known scope name (global_named name known.globals)
  global_by None e l =
      subst (λ p. VariableIs known scope name (option_and_then (λ k. option_map (λ g. Global k g.ty) (slice_get known.globals k)) p))
      (sym (no_place (λ x. bytes_eq x.name name) known.globals e))
      (is_no_variable (record { no_local = l; no_global = e }))
  global_by (Some x) e l =
      let p = place_found (λ x. bytes_eq x.name name) known.globals x e in
      subst (λ q. VariableIs known scope name (option_and_then (λ k. option_map (λ g. Global k g.ty) (slice_get known.globals k)) q)) (sym p.1)
      (subst (λ q. VariableIs known scope name (option_map (λ g. Global p.0 g.ty) q)) (sym p.2) (is_global p.0 x l e))

  variable_by : (o : Option Binding) → find (λ b. bytes_eq b.name name) scope ≡ o
      → VariableIs known scope name (first_some (local_by o) (global_named name known.globals))
  variable_by (Some b) e = is_local b (locals_of (Some b) e)
  variable_by None e = global_by (find (λ x. bytes_eq x.name name) known.globals) refl (locals_of None e)

  pub variable_is : VariableIs known scope name (variable_named known scope name)
  variable_is = variable_by (find (λ b. bytes_eq b.name name) scope) refl

-- ---- what may be called

pub data CalleeIs (known : Known) (scope : List Binding) (name : Name) : Callee → Type 0 where
  is_function : (k : ℕ) (f : Func) → r.IsNoVariable (names known scope) name → r.named (λ f. f.name) name known.funcs ≡ Some f
      → CalleeIs known scope name (Function k f)
  is_built_in : {c : Callee} → r.IsNoVariable (names known scope) name → r.IsBuiltIn (names known scope) name c → CalleeIs known scope name c

module _ (known : Known) (scope : List Binding) (name : Name) where
  abbrev function_by : Option ℕ → Option Callee
  function_by p = option_and_then (λ k. option_map (λ f. Function k f) (slice_get known.funcs k)) p

  function_none : find (λ f. bytes_eq f.name name) known.funcs ≡ None → function_named name known.funcs ≡ None
  function_none e = ap function_by (no_place (λ f. bytes_eq f.name name) known.funcs e)

  function_some : (f : Func) → find (λ f. bytes_eq f.name name) known.funcs ≡ Some f → (k : ℕ) × (function_named name known.funcs ≡ Some (Function k f))
  function_some f e =
      let p = place_found (λ f. bytes_eq f.name name) known.funcs f e in
      (p.0, ap function_by p.1 ∙ ap (option_map (λ f. Function p.0 f)) p.2)

  found_callee : r.IsNoVariable (names known scope) name → (o : Option Func) → find (λ f. bytes_eq f.name name) known.funcs ≡ o → (c : Callee)
      → some_or (first_some (function_named name known.funcs) (built_in name)) Unknown ≡ Ok c → CalleeIs known scope name c
  found_callee h (Some f) e c g =
      let p = function_some f e in
      let q : Ok (Function p.0 f) ≡ Ok c = sym (ap (λ o. some_or (first_some o (built_in name)) Unknown) p.1) ∙ g in
      subst (CalleeIs known scope name) (cc) (is_function p.0 f h e)
  found_callee h None e c g =
      is_built_in h (record {
        no_function = e;
        means = some_is (built_in name) (sym (ap (λ o. some_or (first_some o (built_in name)) Unknown) (function_none e))
            ∙ g);
      })
    where
      some_is : (o : Option Callee) → some_or o Unknown ≡ Ok c → o ≡ Some c
      some_is (Some d) g = cc
      some_is None g = absurd cc

  callee_by_variable : (o : Option Variable) → VariableIs known scope name o → (c : Callee) → callee_by known name o ≡ Ok c → CalleeIs known scope name c
  callee_by_variable (Some v) h c e = absurd cc
  callee_by_variable None (is_no_variable h) c e = found_callee h (find (λ f. bytes_eq f.name name) known.funcs) refl c e

  pub callee_is : (c : Callee) → callee_named known scope name ≡ Ok c → CalleeIs known scope name c
  callee_is = callee_by_variable (variable_named known scope name) (variable_is known scope name)

  no_variable_by : (o : Option Variable) → VariableIs known scope name o → r.IsNoVariable (names known scope) name → o ≡ None
  no_variable_by _ (is_no_variable h) n = refl
  no_variable_by _ (is_local b e) n = let d : Some (field_of_binding b) ≡ None = sym e ∙ n.no_local in absurd cc
  no_variable_by _ (is_global k x l e) n = let d : Some x ≡ None = sym e ∙ n.no_global in absurd cc

  pub no_variable : r.IsNoVariable (names known scope) name → variable_named known scope name ≡ None
  no_variable = no_variable_by (variable_named known scope name) (variable_is known scope name)

  pub callee_function : (f : Func) → r.IsNoVariable (names known scope) name → r.named (λ f. f.name) name known.funcs ≡ Some f
      → (k : ℕ) × (callee_named known scope name ≡ Ok (Function k f))
  callee_function f n e =
      let p = function_some f e in
      (p.0, ap (callee_by known name) (no_variable n) ∙ ap (λ o. some_or (first_some o (built_in name)) Unknown) p.1)

  pub callee_built_in : (c : Callee) → r.IsNoVariable (names known scope) name → r.IsBuiltIn (names known scope) name c → callee_named known scope name ≡ Ok c
  callee_built_in c n b =
      ap (callee_by known name) (no_variable n) ∙ ap (λ o. some_or (first_some o (built_in name)) Unknown) (function_none b.no_function)
      ∙ ap (λ o. some_or o Unknown) b.means

  nothing_named : (o : Option Variable) → VariableIs known scope name o → o ≡ None → r.IsNoVariable (names known scope) name
  nothing_named _ (is_no_variable h) e = h
  nothing_named _ (is_local b d) e = absurd cc
  nothing_named _ (is_global k x l d) e = absurd cc

  -- ---- what frees an object

  no_function_by : (o : Option Func) → find (λ f. bytes_eq f.name name) known.funcs ≡ o → is_none (function_named name known.funcs) ≡ true → o ≡ None
  no_function_by None e n = refl
  no_function_by (Some f) e n = let there : false ≡ true = sym (ap is_none (function_some f e).1) ∙ n in absurd cc

  pub frees_sound : frees known scope name ≡ true → Frees (names known scope) name
  frees_sound e =
      let p = and_parts (is_free name && is_none (variable_named known scope name)) (is_none (function_named name known.funcs)) e in
      let q = and_parts (is_free name) (is_none (variable_named known scope name)) p.0 in
      record {
        no_variable = nothing_named (variable_named known scope name) variable_there (none_of (variable_named known scope name) q.1);
        no_function = no_function_by (find (λ f. bytes_eq f.name name) known.funcs) refl p.1;
        is_free = q.0;
      }
    where
      variable_there : VariableIs known scope name (variable_named known scope name)
      variable_there = variable_is known scope name

  pub frees_complete : Frees (names known scope) name → frees known scope name ≡ true
  frees_complete h = rw (h.is_free, no_variable h.no_variable, function_none h.no_function) refl

  -- the name is not built in
  free_not_built_in : {c : Callee} → built_in name ≡ Some c → is_free name ≡ false
  free_not_built_in {c = c} e = by (is_free name) refl
    where
      by : (b : Bool) → is_free name ≡ b → b ≡ false
      by false is = refl
      by true is =
          let none : built_in (codes "free") ≡ Some c = sym (ap built_in ((bytes_eq-Decides name (codes "free")).0 is)) ∙ e in
          absurd cc

  -- what may be called frees nothing
  pub called_frees_nothing : (c : Callee) → callee_named known scope name ≡ Ok c → frees known scope name ≡ false
  called_frees_nothing c e = by (callee_is c e)
    where
      by : {c : Callee} → CalleeIs known scope name c → frees known scope name ≡ false
      by (is_function k f nv found) = rw (function_some f found).1 (and_false (is_free name && is_none (variable_named known scope name)))
      by (is_built_in nv b) = rw (free_not_built_in b.means) refl

-- ---- fields

module _ (known : Known) (scope : List Binding) (structure field : Name) where
  abbrev layout_named : Option StructLayout
  layout_named = find (λ l. bytes_eq l.name structure) known.layout.structs

  field_some : (s : StructDef) (o : Option Field) → find (λ f. bytes_eq f.name field) s.fields ≡ o → (p : CType × ℕ) → field_in field layout_named s ≡ Some p
      → (f : Field) × (find (λ f. bytes_eq f.name field) s.fields ≡ Some f) × (f.ty ≡ p.0)
  field_some s None e p g =
      let d : None ≡ Some p = sym (ap (option_and_then (field_at s layout_named)) (no_place (λ f. bytes_eq f.name field) s.fields e)) ∙ g in absurd cc
  field_some s (Some f) e p g =
      let q = place_found (λ f. bytes_eq f.name field) s.fields f e in
      let d : Some (f.ty, offset_at layout_named q.0) ≡ Some p =
      sym (ap (option_and_then (field_at s layout_named)) q.1 ∙ ap (option_map (λ f. (f.ty, offset_at layout_named q.0))) q.2) ∙ g in
      (f, e, ap (λ (o : Option (CType × ℕ)). type_of o) d)
    where
      type_of : Option (CType × ℕ) → CType
      type_of (Some t) = t.0
      type_of None = f.ty

  has_field_by : (o : Option StructDef) → find (λ s. bytes_eq s.name structure) known.structs ≡ o → (p : CType × ℕ)
      → option_and_then (field_in field layout_named) o ≡ Some p → r.HasField (names known scope) structure field p.0
  has_field_by None e p g = absurd cc
  has_field_by (Some s) e p g = record { definition = s; defined = e; field_type = field_some s (find (λ f. bytes_eq f.name field) s.fields) refl p g }

  pub has_field : (p : CType × ℕ) → field_of known structure field ≡ Some p → r.HasField (names known scope) structure field p.0
  has_field = has_field_by (find (λ s. bytes_eq s.name structure) known.structs) refl

  pub field_there : {a : CType} → r.HasField (names known scope) structure field a → (n : ℕ) × (field_of known structure field ≡ Some (a, n))
  field_there {a = a} h =
      let f = h.field_type.0 in
      let q = place_found (λ f. bytes_eq f.name field) h.definition.fields f h.field_type.1 in (
        offset_at layout_named q.0,
        ap (option_and_then (field_in field layout_named)) h.defined
            ∙ ap (option_and_then (field_at h.definition layout_named)) q.1
            ∙ ap (option_map (λ f. (f.ty, offset_at layout_named q.0))) q.2
            ∙ ap (λ b. Some (b, offset_at layout_named q.0)) h.field_type.2,
      )
