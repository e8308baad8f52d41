-- What the walk makes of an expression fits the kind that is wanted.
use Rattle.std.proofs.Common.{suc, arith, ◌*◌, bytes_eq, ◌≡◌, ℕ, Bool, true, false, ◌||◌, List, [], ◌∷◌, map, length, ◌==◌, if◌then◌else◌, Option, Some, None, option_map, option_and_then, Ok, Err, slice_get, find, is_none, int_eq, pos, refl, sym, ap, ◌∙◌, subst, ⊎_elim, eqb-true}
use Rattle.al_source.specs.Steps.{and_then}
use Rattle.al_source.specs.declared.operators.UnOp.{UnOp}
use Rattle.al_source.specs.declared.operators.UnOp.TheVariants.{Neg, BitNot, Not}
use Rattle.al_source.specs.declared.operators.BinOp.{BinOp}
use Rattle.al_source.specs.declared.operators.BinOp.TheVariants.{Eq, Ne}
use Rattle.al_source.specs.declared.source_tree.CType.{CType, out-CType}
use Rattle.al_source.specs.declared.source_tree.CType.TheVariants as t
use Rattle.al_source.specs.declared.source_tree.CType.TheOpen.{CType-F}
use Rattle.al_source.specs.declared.source_tree.Field.{Field}
use Rattle.al_source.specs.declared.source_tree.GlobalDef.{GlobalDef}
use Rattle.al_source.specs.declared.source_tree.Func.{Func}
use Rattle.al_source.specs.declared.source_tree.Expr.{Expr}
use Rattle.al_core.specs.declared.values.Kind.{Kind}
use Rattle.al_core.specs.declared.values.Kind.TheVariants as kind
use Rattle.al_core.specs.declared.typed_tree.TExpr.{TExpr, out-TExpr}
use Rattle.al_core.specs.declared.typed_tree.TExpr.TheOpen.{TExpr-F}
use Rattle.al_core.specs.declared.typed_tree.TExpr.TheVariants as te
use Rattle.al_core.specs.declared.typed_tree.TPlace.{TPlace}
use Rattle.al_core.specs.declared.typed_tree.TPlace.TheVariants as tp
use Rattle.al_core.specs.declared.typed_tree.TLocal.{TLocal}
use Rattle.al_core.specs.declared.typed_tree.TGlobal.{TGlobal}
use Rattle.al_core.specs.declared.typed_tree.TFunc.{TFunc}
use Rattle.al_core.specs.declared.typed_tree.Typed.{Typed}
use Rattle.al_rules.specs.declared.faults.TypeKind.TheVariants.{Unknown, Mismatch, Count}
use Rattle.al_rules.specs.declared.operands.Operand.{Operand}
use Rattle.al_rules.specs.declared.operands.Operand.TheVariants.{Literal, Null, Value, Variable, Place}
use Rattle.al_rules.specs.declared.operands.Value.{Value as Used}
use Rattle.al_rules.specs.declared.operands.Value.TheVariants.{Int, Pointer, Useless}
use Rattle.al_rules.specs.Names.{Name, AllOf, place_named}
use Rattle.al_rules.specs.Names as n
use Rattle.al_rules.specs.Checks.{Checked, ◌>>=◌, ◌>>◌, ensure, some_or}
use Rattle.al_rules.specs.Types.{element, struct_name, kind_case, kind_of}
use Rattle.al_rules.specs.Scopes.{Binding, Known, Callee, built_in, size, Function, Input, Inputs, Choose, first_some, function_named, global_named, callee_by, field_of, variable_named, callee_named, frees}
use Rattle.al_rules.specs.Scopes.{Variable as Named, Local as named_local, Global as named_global}
use Rattle.al_rules.specs.Operands as o
use Rattle.al_rules.specs.Walks.{or_integer}
use Rattle.al_rules.specs.Expressions.{operand, operands, call, call_alone, sized}
use Rattle.al_rules.specs.WellFormed.{PlaceKind, is_one, local_kind, is_some_kind, may_want, fits_either, fit_all, param_kinds, fit_params, global_kind, fits, place_kind, call_formed}
use Rattle.al_rules.proofs.ExpressionNodes.{operand-Number, operand-Null, operand-Var, operand-Unary, operand-Binary, operand-And, operand-Or, operand-Index, operand-Dot, operand-Arrow, operand-Deref, operand-Address, operand-Call, operand-SizeOf, operand-Calloc}
use Rattle.al_rules.proofs.TypeNodes.{kind-Int, kind-Ptr}
use Rattle.al_rules.proofs.WellFormedNodes.{fits-Number, fits-Null, fits-Local, fits-Load, fits-Addr, fits-Unary, fits-Binary, fits-Same, fits-And, fits-Or, fits-Call, fits-Input, fits-Inputs, fits-Choose, fits-Calloc, place-Global, place-At, place-Plus, place-Elem}
use Rattle.al_rules_laws.proofs.Logic.{then_ok, ensure_ok, some_ok, or_ok, ok_is, some_is}
use Rattle.al_rules_laws.proofs.SourceInduction.{ExprCases, expr_induct}
use Rattle.al_rules_laws.proofs.ExpressionsSound.{no_function_built_in}

-- what was found in a list is in it
found_by : {A : Type 0} (P : A → Type 0) (y x : A) (o : Option A) (b : Bool) → P y → (o ≡ Some x → P x) → (if b then Some y else o) ≡ Some x → P x
found_by P y x o true h i e = subst P (some_is e) h
found_by P y x o false h i e = i e

pub found_in : {A : Type 0} {P : A → Type 0} (p : A → Bool) (xs : List A) (x : A) → AllOf P xs → find p xs ≡ Some x → P x
found_in {P = P} p (y ∷ ys) x (n.more h hs) e = found_by P y x (find p ys) (p y) h (found_in p ys x hs) e
found_in p [] x h e = absurd cc

-- a name that is in scope stands for a local of its kind
pub record Placed (locals : List TLocal) (b : Binding) : Type 0 where
  pub local : TLocal
  pub stands : slice_get locals b.number ≡ Some local
  pub kind : kind_of b.ty ≡ Some local.kind

-- what the typed tree has of a function of the source
pub record FuncOf (typed : Typed) (results : List (Option Kind)) (k : ℕ) (f : Func) : Type 0 where
  pub func : TFunc
  pub stands : slice_get typed.funcs k ≡ Some func
  pub params : param_kinds func ≡ map (λ p. or_integer (kind_of p.ty)) f.params
  pub gives : slice_get results k ≡ Some (kind_of f.result)
  pub scalars : AllOf (λ p. (k : Kind) × (kind_of p.ty ≡ Some k)) f.params

pub record GlobalOf (typed : Typed) (k : ℕ) (x : GlobalDef) : Type 0 where
  pub global : TGlobal
  pub stands : slice_get typed.globals k ≡ Some global
  pub scalar : global.scalar ≡ kind_of x.ty

pub record Context (typed : Typed) (results : List (Option Kind)) (known : Known) : Type 0 where
  pub globals : (k : ℕ) (x : GlobalDef) → slice_get known.globals k ≡ Some x → GlobalOf typed k x
  pub funcs : (k : ℕ) (f : Func) → slice_get known.funcs k ≡ Some f → FuncOf typed results k f

pub one_refl : (k : Kind) → is_one k k ≡ true
one_refl kind.Int = refl
one_refl kind.Ptr = refl

module _ (typed : Typed) (results : List (Option Kind)) (locals : List TLocal) (known : Known) (scope : List Binding) (cx : Context typed results known)
    (placed : AllOf (Placed locals) scope) where
  abbrev Fit : TExpr → Kind → Type 0
  Fit v k = fits typed results locals v k ≡ true

  -- what an operand is good for
  abbrev pub Good : Operand → Type 0
  Good (Literal n) = Unit {0}
  Good Null = Unit {0}
  Good (Value a v) = (k : Kind) → kind_of a ≡ Some k → Fit v k
  Good (Variable n a) = (v : TLocal) × (slice_get locals n ≡ Some v) × (kind_of a ≡ Some v.kind)
  Good (Place a q) =
      ((place_kind typed results locals q).formed ≡ true) × ((k : Kind) → (place_kind typed results locals q).wants ≡ Some k → kind_of a ≡ Some k)

  pub yields : {p q : Operand} → Good p → ◌≡◌ {A = Checked Operand} (Ok p) (Ok q) → Good q
  yields d same = subst Good (ok_is same) d

  int_kind : (a : CType) → out-CType a ≡ CType-F.Int → kind_of a ≡ Some kind.Int
  unfolding kind_of
  int_kind a is = ap kind_case is

  pointer_kind : (a b : CType) → out-CType a ≡ CType-F.Ptr b → kind_of a ≡ Some kind.Ptr
  unfolding kind_of
  pointer_kind a b is = ap kind_case is

  -- ---- what an operand is where a value is wanted

  abbrev UsedWell : Used → Type 0
  UsedWell (Int v) = Fit v kind.Int
  UsedWell (Pointer m v) = Fit v kind.Ptr
  UsedWell Useless = Unit {0}

  typed_well : (a : CType) (v : TExpr) → ((k : Kind) → kind_of a ≡ Some k → Fit v k) → (y : CType-F CType) → out-CType a ≡ y → UsedWell (o.typed_case y v)
  typed_well a v h CType-F.Int is = h kind.Int (int_kind a is)
  typed_well a v h (CType-F.Ptr b) is = h kind.Ptr (pointer_kind a b is)
  typed_well a v h CType-F.Void is = tt
  typed_well a v h (CType-F.Struct name) is = tt
  typed_well a v h (CType-F.Array b m) is = tt

  pub local_fits : (m : ℕ) (a : CType) (v : TLocal) → slice_get locals m ≡ Some v → kind_of a ≡ Some v.kind → (k : Kind) → kind_of a ≡ Some k
      → Fit (te.Local m) k
  local_fits m a v stands is k e =
      fits-Local typed results locals m k ∙ ap (λ w. is_some_kind (local_kind w) k) stands ∙ ap (λ j. is_one j k) (some_is (sym is ∙ e)) ∙ one_refl k

  pub may_load : (w : Option Kind) (k : Kind) → ((j : Kind) → w ≡ Some j → j ≡ k) → may_want w k ≡ true
  may_load None k h = refl
  may_load (Some j) k h = ap (λ i. is_one i k) (h j refl) ∙ one_refl k

  load_fits : (a : CType) (q : TPlace) (k : Kind) → (place_kind typed results locals q).formed ≡ true
      → ((j : Kind) → (place_kind typed results locals q).wants ≡ Some j → kind_of a ≡ Some j) → kind_of a ≡ Some k → Fit (te.Load k q) k
  load_fits a q k f h is =
      fits-Load typed results locals k q k ∙ rw (one_refl k, f, may_load (place_kind typed results locals q).wants k (λ j e. some_is (sym (h j e) ∙ is))) refl

  addr_fits : (q : TPlace) → (place_kind typed results locals q).formed ≡ true → Fit (te.Addr q) kind.Ptr
  addr_fits q f = fits-Addr typed results locals q kind.Ptr ∙ f

  read_well : (a : CType) (q : TPlace) → Good (Place a q) → (y : CType-F CType) → out-CType a ≡ y → UsedWell (o.read_case y q)
  read_well a q h CType-F.Int is = load_fits a q kind.Int h.0 h.1 (int_kind a is)
  read_well a q h (CType-F.Ptr b) is = load_fits a q kind.Ptr h.0 h.1 (pointer_kind a b is)
  read_well a q h (CType-F.Array b m) is = by (is_none (element b))
    where
      by : (c : Bool) → UsedWell (if c then Pointer (Some b) (te.Addr q) else Useless)
      by true = addr_fits q h.0
      by false = tt
  read_well a q h CType-F.Void is = tt
  read_well a q h (CType-F.Struct name) is = tt

  used_well : (p : Operand) → Good p → UsedWell (o.used p)
  unfolding o.used
  used_well (Literal m) h = fits-Number typed results locals m
  used_well Null h = fits-Null typed results locals (pos 0)
  used_well (Value a v) h = typed_well a v h (out-CType a) refl
  used_well (Variable m a) h = typed_well a (te.Local m) (local_fits m a h.0 h.1 h.2) (out-CType a) refl
  used_well (Place a q) h = read_well a q h (out-CType a) refl

  -- ---- what is wanted

  integer_by : (u : Used) (v : TExpr) → UsedWell u → o.as_integer u ≡ Ok v → Fit v kind.Int
  integer_by (Int w) v h is = subst (λ x. Fit x kind.Int) (ok_is is) h
  integer_by (Pointer m w) v h is = absurd cc
  integer_by Useless v h is = absurd cc

  pub integer_fits : (p : Operand) (v : TExpr) → Good p → o.integer p ≡ Ok v → Fit v kind.Int
  unfolding o.integer
  integer_fits p v h is = integer_by (o.used p) v (used_well p h) is

  pub either_int : (v : TExpr) → Fit v kind.Int → fits_either (fits typed results locals v) ≡ true
  either_int v h = rw h refl

  pub either_pointer : (v : TExpr) → Fit v kind.Ptr → fits_either (fits typed results locals v) ≡ true
  either_pointer v h = by (fits typed results locals v kind.Int) h
    where
      by : (b : Bool) {c : Bool} → c ≡ true → (b || c) ≡ true
      by true e = refl
      by false e = e

  scalar_by : (u : Used) (v : TExpr) → UsedWell u → o.as_scalar u ≡ Ok v → fits_either (fits typed results locals v) ≡ true
  scalar_by (Int w) v h is = either_int v (subst (λ x. Fit x kind.Int) (ok_is is) h)
  scalar_by (Pointer m w) v h is = either_pointer v (subst (λ x. Fit x kind.Ptr) (ok_is is) h)
  scalar_by Useless v h is = absurd cc

  pub scalar_fits : (p : Operand) (v : TExpr) → Good p → o.scalar p ≡ Ok v → fits_either (fits typed results locals v) ≡ true
  unfolding o.scalar
  scalar_fits p v h is = scalar_by (o.used p) v (used_well p h) is

  target_by : (u : Used) (q : CType × TExpr) → UsedWell u → o.as_target u ≡ Ok q → Fit q.1 kind.Ptr
  target_by (Pointer (Some a) w) q h is = subst (λ (p : CType × TExpr). Fit p.1 kind.Ptr) (ok_is is) h
  target_by (Pointer None w) q h is = absurd cc
  target_by (Int w) q h is = absurd cc
  target_by Useless q h is = absurd cc

  target_fits : (p : Operand) (q : CType × TExpr) → Good p → o.target p ≡ Ok q → Fit q.1 kind.Ptr
  unfolding o.target
  target_fits p q h is = target_by (o.used p) q (used_well p h) is

  pointer_by : (u : Used) (q : Option CType × TExpr) → UsedWell u → o.as_pointer u ≡ Ok q → Fit q.1 kind.Ptr
  pointer_by (Pointer m w) q h is = subst (λ (p : Option CType × TExpr). Fit p.1 kind.Ptr) (ok_is is) h
  pointer_by (Int w) q h is = absurd cc
  pointer_by Useless q h is = absurd cc

  literal_by : (c : Bool) (q : Option CType × TExpr) → (if c then Ok (None, te.Number (pos 0)) else Err Mismatch) ≡ Ok q → Fit q.1 kind.Ptr
  literal_by true q is = subst (λ (p : Option CType × TExpr). Fit p.1 kind.Ptr) (ok_is is) (fits-Null typed results locals (pos 0))
  literal_by false q is = absurd cc

  pointer_fits : (p : Operand) (q : Option CType × TExpr) → Good p → o.pointer p ≡ Ok q → Fit q.1 kind.Ptr
  unfolding o.pointer
  pointer_fits (Literal m) q h is = literal_by (int_eq m (pos 0)) q is
  pointer_fits Null q h is = pointer_by (o.used Null) q (used_well Null h) is
  pointer_fits (Value a v) q h is = pointer_by (o.used (Value a v)) q (used_well (Value a v) h) is
  pointer_fits (Variable k a) q h is = pointer_by (o.used (Variable k a)) q (used_well (Variable k a) h) is
  pointer_fits (Place a w) q h is = pointer_by (o.used (Place a w)) q (used_well (Place a w) h) is

  fitting_by : (p : Operand) (a : CType) (v : TExpr) → Good p → (y : CType-F CType) → out-CType a ≡ y → o.fitting_case y p ≡ Ok v → (k : Kind)
      → kind_of a ≡ Some k → Fit v k
  fitting_by p a v h CType-F.Int is f k e = subst (Fit v) (some_is (sym (int_kind a is) ∙ e)) (integer_fits p v h f)
  fitting_by p a v h (CType-F.Ptr b) is f k e =
      let q = then_ok (o.pointer p) (λ q. ensure (o.fits b q.0) Mismatch >> Ok q.1) v f in
      let w = then_ok (ensure (o.fits b q.0.0) Mismatch) (λ _. Ok q.0.1) v q.2 in
      subst (Fit v) (some_is (sym (pointer_kind a b is) ∙ e)) (subst (λ x. Fit x kind.Ptr) (ok_is w.2) (pointer_fits p q.0 h q.1))
  fitting_by p a v h CType-F.Void is f k e = absurd cc
  fitting_by p a v h (CType-F.Struct name) is f k e = absurd cc
  fitting_by p a v h (CType-F.Array b m) is f k e = absurd cc

  pub fitting_fits : (p : Operand) (a : CType) (v : TExpr) → Good p → o.fitting a p ≡ Ok v → (k : Kind) → kind_of a ≡ Some k → Fit v k
  unfolding o.fitting
  fitting_fits p a v h f = fitting_by p a v h (out-CType a) refl f

  kind_by : (p : Operand) (a : CType) (v : TExpr) (y : CType-F CType) → out-CType a ≡ y → o.fitting_case y p ≡ Ok v → (k : Kind) × (kind_of a ≡ Some k)
  kind_by p a v CType-F.Int is f = (kind.Int, int_kind a is)
  kind_by p a v (CType-F.Ptr b) is f = (kind.Ptr, pointer_kind a b is)
  kind_by p a v CType-F.Void is f = absurd cc
  kind_by p a v (CType-F.Struct name) is f = absurd cc
  kind_by p a v (CType-F.Array b m) is f = absurd cc

  -- only an integer or a pointer is fitted
  pub fitting_kind : (p : Operand) (a : CType) (v : TExpr) → o.fitting a p ≡ Ok v → (k : Kind) × (kind_of a ≡ Some k)
  unfolding o.fitting
  fitting_kind p a v f = kind_by p a v (out-CType a) refl f

  -- ---- operators

  -- a number, from what it fits
  number_good : (v : TExpr) → Fit v kind.Int → Good (o.number v)
  number_good v h k e = subst (Fit v) (some_is (sym kind-Int ∙ e)) h

  unary_good : (op : UnOp) (p q : Operand) → Good p → o.unary op p ≡ Ok q → Good q
  unfolding o.unary
  unary_good Neg p q h f =
      let v = then_ok (o.integer p) (λ a. Ok (o.number (te.Unary Neg a))) q f in yields
      (number_good (te.Unary Neg v.0) (fits-Unary typed results locals Neg v.0 kind.Int ∙ integer_fits p v.0 h v.1)) v.2
  unary_good BitNot p q h f =
      let v = then_ok (o.integer p) (λ a. Ok (o.number (te.Unary BitNot a))) q f in yields
      (number_good (te.Unary BitNot v.0) (fits-Unary typed results locals BitNot v.0 kind.Int ∙ integer_fits p v.0 h v.1)) v.2
  unary_good Not p q h f =
      let v = then_ok (o.scalar p) (λ a. Ok (o.number (te.Unary Not a))) q f in yields
      (number_good (te.Unary Not v.0) (fits-Unary typed results locals Not v.0 kind.Int ∙ scalar_fits p v.0 h v.1)) v.2

  integers_good : (op : BinOp) (p q s : Operand) → Good p → Good q → o.of_integers op p q ≡ Ok s → Good s
  integers_good op p q s h i f =
      let v = then_ok (o.integer p) (λ a. o.integer q >>= (λ b. Ok (o.number (te.Binary op a b)))) s f in
      let w = then_ok (o.integer q) (λ b. Ok (o.number (te.Binary op v.0 b))) s v.2 in
      yields (number_good (te.Binary op v.0 w.0) (fits-Binary typed results locals op v.0 w.0 kind.Int
      ∙ rw (integer_fits p v.0 h v.1, integer_fits q w.0 i w.1) refl)) w.2

  pointers_good : (equal : Bool) (p q s : Operand) → Good p → Good q → o.of_pointers equal p q ≡ Ok s → Good s
  pointers_good equal p q s h i f =
      let v = then_ok (o.pointer p) (λ a. o.pointer q >>= (λ b. ensure (o.are_one_type a.0 b.0) Mismatch >> Ok (o.number (te.Same equal a.1 b.1)))) s f in
      let w = then_ok (o.pointer q) (λ b. ensure (o.are_one_type v.0.0 b.0) Mismatch >> Ok (o.number (te.Same equal v.0.1 b.1))) s v.2 in
      let z = then_ok (ensure (o.are_one_type v.0.0 w.0.0) Mismatch) (λ _. Ok (o.number (te.Same equal v.0.1 w.0.1))) s w.2 in
      yields (number_good (te.Same equal v.0.1 w.0.1) (fits-Same typed results locals equal v.0.1 w.0.1 kind.Int
      ∙ rw (pointer_fits p v.0 h v.1, pointer_fits q w.0 i w.1) refl)) z.2

  binary_good : (op : BinOp) (p q s : Operand) → Good p → Good q → o.binary op p q ≡ Ok s → Good s
  unfolding o.binary
  binary_good Eq p q s h i f = ⊎_elim (integers_good Eq p q s h i) (pointers_good true p q s h i) (or_ok (o.of_integers Eq p q) (o.of_pointers true p q) s f)
  binary_good Ne p q s h i f = ⊎_elim (integers_good Ne p q s h i) (pointers_good false p q s h i) (or_ok (o.of_integers Ne p q) (o.of_pointers false p q) s f)
  binary_good op p q s h i f = integers_good op p q s h i f

  and_good : (p q s : Operand) → Good p → Good q → o.of_scalars te.And p q ≡ Ok s → Good s
  and_good p q s h i f =
      let v = then_ok (o.scalar p) (λ a. o.scalar q >>= (λ b. Ok (o.number (te.And a b)))) s f in
      let w = then_ok (o.scalar q) (λ b. Ok (o.number (te.And v.0 b))) s v.2 in
      yields (number_good (te.And v.0 w.0) (fits-And typed results locals v.0 w.0 kind.Int ∙ rw (scalar_fits p v.0 h v.1, scalar_fits q w.0 i w.1) refl)) w.2

  or_good : (p q s : Operand) → Good p → Good q → o.of_scalars te.Or p q ≡ Ok s → Good s
  or_good p q s h i f =
      let v = then_ok (o.scalar p) (λ a. o.scalar q >>= (λ b. Ok (o.number (te.Or a b)))) s f in
      let w = then_ok (o.scalar q) (λ b. Ok (o.number (te.Or v.0 b))) s v.2 in
      yields (number_good (te.Or v.0 w.0) (fits-Or typed results locals v.0 w.0 kind.Int ∙ rw (scalar_fits p v.0 h v.1, scalar_fits q w.0 i w.1) refl)) w.2

  -- ---- places

  -- a place that is no global says nothing of what it wants
  open_place : (a : CType) (q : TPlace) {f : Bool} → place_kind typed results locals q ≡ record { formed = f; wants = None } → f ≡ true → Good (Place a q)
  open_place a q is f = (ap (λ (k : PlaceKind). k.formed) is ∙ f, λ k e. let d : None ≡ Some k = sym (ap (λ (k : PlaceKind). k.wants) is) ∙ e in absurd cc)

  element_good : (a : CType) (w : TPlace) (q s : Operand) → (place_kind typed results locals w).formed ≡ true → Good q → o.element_place known a w q ≡ Ok s
      → Good s
  element_good a w q s h i f =
      let v = then_ok (o.integer q) (λ m. Ok (Place a (tp.Elem w m (size known a)))) s f in
      yields (open_place a (tp.Elem w v.0 (size known a)) (place-Elem typed results locals w v.0 (size known a)) (rw h (integer_fits q v.0 i v.1))) v.2

  array_good : (p : Operand) (q : CType × TPlace) → Good p → o.array_in p ≡ Some q → (place_kind typed results locals q.1).formed ≡ true
  array_good (Place a w) q h f = by (element a) f
    where
      by : (m : Option CType) → option_map (λ b. (b, w)) m ≡ Some q → (place_kind typed results locals q.1).formed ≡ true
      by (Some b) same = subst (λ (p : CType × TPlace). (place_kind typed results locals p.1).formed ≡ true) (some_is same) h.0
      by None same = absurd cc
  array_good (Literal m) q h f = absurd cc
  array_good Null q h f = absurd cc
  array_good (Value a v) q h f = absurd cc
  array_good (Variable k a) q h f = absurd cc

  at_formed : (v : TExpr) → Fit v kind.Ptr → (place_kind typed results locals (tp.At v)).formed ≡ true
  at_formed v h = ap (λ (k : PlaceKind). k.formed) (place-At typed results locals v) ∙ h

  indexed_good : (p q s : Operand) → Good p → Good q → o.indexed known p q ≡ Ok s → Good s
  unfolding o.indexed
  indexed_good p q s h i f = by (o.array_in p) refl f
    where
      by : (m : Option (CType × TPlace)) → o.array_in p ≡ m → o.indexed_by known m p q ≡ Ok s → Good s
      by (Some a) is b = element_good a.0 a.1 q s (array_good p a h is) i b
      by None is b =
          let a = then_ok (o.target p) (λ a. o.element_place known a.0 (tp.At a.1) q) s b in
          element_good a.0.0 (tp.At a.0.1) q s (at_formed a.0.1 (target_fits p a.0 h a.1)) i a.2

  field_good : (a : CType) (q : TPlace) (field : Name) (s : Operand) → (place_kind typed results locals q).formed ≡ true → o.field_place known a q field ≡ Ok s
      → Good s
  field_good a q field s h f =
      let m = then_ok (some_or (struct_name a) Mismatch) (λ name. some_or (field_of known name field) Unknown >>= (λ f. Ok (Place f.0 (tp.Plus q f.1)))) s f in
      let g = then_ok (some_or (field_of known m.0 field) Unknown) (λ f. Ok (Place f.0 (tp.Plus q f.1))) s m.2 in
      yields (open_place g.0.0 (tp.Plus q g.0.1) (place-Plus typed results locals q g.0.1) h) g.2

  member_good : (field : Name) (p s : Operand) → Good p → o.member known p field ≡ Ok s → Good s
  unfolding o.member
  member_good field (Place a q) s h f = field_good a q field s h.0 f
  member_good field (Literal m) s h f = absurd cc
  member_good field Null s h f = absurd cc
  member_good field (Value a v) s h f = absurd cc
  member_good field (Variable k a) s h f = absurd cc

  member_behind_good : (field : Name) (p s : Operand) → Good p → o.member_behind known p field ≡ Ok s → Good s
  unfolding o.member_behind
  member_behind_good field p s h f =
      let a = then_ok (o.target p) (λ a. o.field_place known a.0 (tp.At a.1) field) s f in
      field_good a.0.0 (tp.At a.0.1) field s (at_formed a.0.1 (target_fits p a.0 h a.1)) a.2

  followed_good : (p s : Operand) → Good p → o.followed p ≡ Ok s → Good s
  unfolding o.followed
  followed_good p s h f =
      let a = then_ok (o.target p) (λ a. Ok (Place a.0 (tp.At a.1))) s f in
      yields (open_place a.0.0 (tp.At a.0.1) (place-At typed results locals a.0.1) (target_fits p a.0 h a.1)) a.2

  address_good : (p s : Operand) → Good p → o.address p ≡ Ok s → Good s
  unfolding o.address
  address_good (Place a q) s h f =
      let v = then_ok (ensure (is_none (element a)) Mismatch) (λ _. Ok (Value (t.Ptr a) (te.Addr q))) s f in
      yields {p = Value (t.Ptr a) (te.Addr q)} (λ k e. subst (Fit (te.Addr q)) (some_is (sym (kind-Ptr a) ∙ e)) (addr_fits q h.0)) v.2
  address_good (Literal m) s h f = absurd cc
  address_good Null s h f = absurd cc
  address_good (Value a v) s h f = absurd cc
  address_good (Variable k a) s h f = absurd cc

  -- ---- variables

  local_placed : (name : Name) (m : Option Binding) → find (λ b. bytes_eq b.name name) scope ≡ m → (k : ℕ) (a : CType)
      → option_map (λ b. named_local b.number b.ty) m ≡ Some (named_local k a) → Good (Variable k a)
  local_placed name (Some b) is k a e =
      let h = found_in (λ b. bytes_eq b.name name) scope b placed is in
      let d : Variable b.number b.ty ≡ Variable k a = ap (operand_of b) e in
      subst Good d (h.local, h.stands, h.kind)
    where
      operand_of : Binding → Option Named → Operand
      operand_of b (Some (named_local k a)) = Variable k a
      operand_of b (Some (named_global k a)) = Variable b.number b.ty
      operand_of b None = Variable b.number b.ty
  local_placed name None is k a e = absurd cc

  global_kinds : (k : ℕ) (x : GlobalDef) → slice_get known.globals k ≡ Some x → Good (Place x.ty (tp.Global k))
  global_kinds k x is =
      let h = cx.globals k x is in
      let p = place-Global typed results locals k ∙ ap global_kind h.stands in
      (ap (λ (q : PlaceKind). q.formed) p, λ j e. sym h.scalar ∙ sym (ap (λ (q : PlaceKind). q.wants) p) ∙ e)

  global_placed : (name : Name) (m : Option ℕ) (k : ℕ) (a : CType)
      → option_and_then (λ k. option_map (λ x. named_global k x.ty) (slice_get known.globals k)) m ≡ Some (named_global k a) → Good (Place a (tp.Global k))
  global_placed name None k a e = absurd cc
  global_placed name (Some j) k a e = by (slice_get known.globals j) refl e
    where
      operand_of : Option Named → Operand
      operand_of (Some (named_local k a)) = Null
      operand_of (Some (named_global k a)) = Place a (tp.Global k)
      operand_of None = Null

      by : (x : Option GlobalDef) → slice_get known.globals j ≡ x → option_map (λ x. named_global j x.ty) x ≡ Some (named_global k a)
          → Good (Place a (tp.Global k))
      by (Some x) is e = subst Good (ap operand_of e) (global_kinds j x is)
      by None is e = absurd cc

  variable_good : (name : Name) (v : Named) → variable_named known scope name ≡ Some v → Good (o.of_variable v)
  variable_good name (named_local k a) e = by (find (λ b. bytes_eq b.name name) scope) refl e
    where
      no_global : (m : Option ℕ) → option_and_then (λ k. option_map (λ x. named_global k x.ty) (slice_get known.globals k)) m ≡ Some (named_local k a) → ⊥
      no_global None e = cc
      no_global (Some j) e = of (slice_get known.globals j) e
        where
          of : (x : Option GlobalDef) → option_map (λ x. named_global j x.ty) x ≡ Some (named_local k a) → ⊥
          of (Some x) e = cc
          of None e = cc

      by : (m : Option Binding) → find (λ b. bytes_eq b.name name) scope ≡ m
          → first_some (option_map (λ b. named_local b.number b.ty) m) (global_named name known.globals) ≡ Some (named_local k a) → Good (Variable k a)
      by (Some b) is e = local_placed name (Some b) is k a e
      by None is e = absurd (no_global (place_named (λ x. x.name) name known.globals) e)
  variable_good name (named_global k a) e = by (find (λ b. bytes_eq b.name name) scope) refl e
    where
      by : (m : Option Binding) → find (λ b. bytes_eq b.name name) scope ≡ m
          → first_some (option_map (λ b. named_local b.number b.ty) m) (global_named name known.globals) ≡ Some (named_global k a)
          → Good (Place a (tp.Global k))
      by (Some b) is e = absurd cc
      by None is e = global_placed name (place_named (λ x. x.name) name known.globals) k a e

  -- ---- calls

  pub data AllGood : List Operand → Type 0 where
    none : AllGood []
    more : {p : Operand} {ps : List Operand} → Good p → AllGood ps → AllGood (p ∷ ps)

  args_fit : (fs : List Field) (ps : List Operand) (vs : List TExpr) → AllOf (λ p. (k : Kind) × (kind_of p.ty ≡ Some k)) fs → AllGood ps → length ps ≡ length fs
      → o.fitting_all fs ps ≡ Ok vs → fit_all (map (fits typed results locals) vs) (map (λ p. or_integer (kind_of p.ty)) fs) ≡ true
  args_fit [] ps vs hs ds l f = subst (λ us. fit_all (map (fits typed results locals) us) [] ≡ true) (ok_is f) refl
  args_fit (h ∷ hs) [] vs ks ds l f = absurd (no_length (length hs) l)
    where
      no_length : (m : ℕ) → 0 ≡ suc m → ⊥
      no_length m e = omega arith
  args_fit (h ∷ hs) (p ∷ ps) vs (n.more k ks) (more d ds) l f =
      let a = then_ok (o.fitting h.ty p) (λ a. o.fitting_all hs ps >>= (λ as'. Ok (a ∷ as'))) vs f in
      let b = then_ok (o.fitting_all hs ps) (λ as'. Ok (a.0 ∷ as')) vs a.2 in
      let first : Fit a.0 (or_integer (kind_of h.ty)) = subst (λ j. Fit a.0 (or_integer j)) (sym k.1) (fitting_fits p h.ty a.0 d a.1 k.0 k.1) in
      subst (λ us. fit_all (map (fits typed results locals) us) (map (λ p. or_integer (kind_of p.ty)) (h ∷ hs)) ≡ true) (ok_is b.2)
      (rw first (args_fit hs ps b.0 ks ds (suc_is (length ps) (length hs) l) b.1))
    where
      suc_is : (m n : ℕ) → suc m ≡ suc n → m ≡ n
      suc_is m n e = omega arith

  -- what a call comes to, as an expression and as a statement
  pub record GoodCall (c : CType × TExpr) : Type 0 where
    pub value : (k : Kind) → kind_of c.0 ≡ Some k → Fit c.1 k
    pub done : call_formed typed results locals (out-TExpr c.1) c.1 ≡ true

  integer_call : (v : TExpr) (y : TExpr-F TExpr TPlace) → out-TExpr v ≡ y → Fit v kind.Int
      → call_formed typed results locals y v ≡ fits_either (fits typed results locals v) → GoodCall (t.Int, v)
  integer_call v y is h same =
      record { value = λ k e. subst (Fit v) (some_is (sym kind-Int ∙ e)) h; done = ap (λ z. call_formed typed results locals z v) is ∙ same ∙ either_int v h }

  call_yields : {c d : CType × TExpr} → GoodCall c → ◌≡◌ {A = Checked (CType × TExpr)} (Ok c) (Ok d) → GoodCall d
  call_yields h same = subst GoodCall (ok_is same) h

  function_good : (k : ℕ) (f : Func) (ps : List Operand) (c : CType × TExpr) → slice_get known.funcs k ≡ Some f → AllGood ps → o.called (Function k f) ps ≡ Ok c
      → GoodCall c
  unfolding o.called
  function_good k f ps c stands ds is =
      let h = cx.funcs k f stands in
      let vs = then_ok (ensure (length ps == length f.params) Count >> o.fitting_all f.params ps) (λ args. Ok (f.result, te.Call k args)) c is in
      let u = then_ok (ensure (length ps == length f.params) Count) (λ _. o.fitting_all f.params ps) vs.0 vs.1 in
      let l = eqb-true (length ps) (length f.params) (ensure_ok (length ps == length f.params) Count u.0 u.1) in
      let args : fit_params (map (fits typed results locals) vs.0) (slice_get typed.funcs k) ≡ true =
      ap (fit_params (map (fits typed results locals) vs.0)) h.stands ∙ ap (fit_all (map (fits typed results locals) vs.0)) h.params
      ∙ args_fit f.params ps vs.0 h.scalars ds l u.2 in
      call_yields (record {
        value = λ j e. fits-Call typed results locals k vs.0 j ∙ rw (h.gives, e, one_refl j) args;
        done = ap (λ y. call_formed typed results locals y (te.Call k vs.0)) (te.outs-Call k vs.0) ∙ args;
      }) vs.2

  built_in_good : (g : Callee) (ps : List Operand) (c : CType × TExpr) → ((k : ℕ) (f : Func) → g ≡ Function k f → ⊥) → AllGood ps → o.called g ps ≡ Ok c
      → GoodCall c
  unfolding o.called
  built_in_good (Function k f) ps c other ds is = absurd (other k f refl)
  built_in_good Input (p ∷ []) c other (more d none) is =
      let v = then_ok (o.integer p) (λ a. Ok (t.Int, te.Input a)) c is in
      call_yields (integer_call (te.Input v.0) (TExpr-F.Input v.0) (te.outs-Input v.0) (fits-Input typed results locals v.0 kind.Int
      ∙ integer_fits p v.0 d v.1) refl) v.2
  built_in_good Input [] c other ds is = absurd cc
  built_in_good Input (p ∷ q ∷ ps) c other ds is = absurd cc
  built_in_good Inputs [] c other ds is = call_yields (integer_call te.Inputs TExpr-F.Inputs te.outs-Inputs (fits-Inputs typed results locals kind.Int) refl) is
  built_in_good Inputs (p ∷ ps) c other ds is = absurd cc
  built_in_good (Choose op) (p ∷ q ∷ []) c other (more d (more h none)) is =
      let v = then_ok (o.integer p) (λ a. o.integer q >>= (λ b. Ok (t.Int, te.Choose op a b))) c is in
      let w = then_ok (o.integer q) (λ b. Ok (t.Int, te.Choose op v.0 b)) c v.2 in
      call_yields
      (integer_call (te.Choose op v.0 w.0) (TExpr-F.Choose op v.0 w.0) (te.outs-Choose op v.0 w.0) (fits-Choose typed results locals op v.0 w.0 kind.Int
      ∙ rw (integer_fits p v.0 d v.1, integer_fits q w.0 h w.1) refl) refl) w.2
  built_in_good (Choose op) [] c other ds is = absurd cc
  built_in_good (Choose op) (p ∷ []) c other ds is = absurd cc
  built_in_good (Choose op) (p ∷ q ∷ r ∷ ps) c other ds is = absurd cc

  -- which function of the program is called
  function_there : (name : Name) (m : Option ℕ) (k : ℕ) (f : Func)
      → option_and_then (λ k. option_map (λ f. Function k f) (slice_get known.funcs k)) m ≡ Some (Function k f) → slice_get known.funcs k ≡ Some f
  function_there name None k f e = absurd cc
  function_there name (Some j) k f e = by (slice_get known.funcs j) refl e
    where
      number_of : Option Callee → ℕ
      number_of (Some (Function k f)) = k
      number_of _ = j

      func_of : Func → Option Callee → Func
      func_of g (Some (Function k f)) = f
      func_of g _ = g

      by : (x : Option Func) → slice_get known.funcs j ≡ x → option_map (λ f. Function j f) x ≡ Some (Function k f) → slice_get known.funcs k ≡ Some f
      by (Some g) is e = subst (λ n. slice_get known.funcs n ≡ Some f) (ap number_of e) (is ∙ ap Some (ap (func_of g) e))
      by None is e = absurd cc

  only_functions : (m : Option ℕ) (g : Callee) → option_and_then (λ k. option_map (λ f. Function k f) (slice_get known.funcs k)) m ≡ Some g
      → ((k : ℕ) (f : Func) → Function k f ≡ g → ⊥) → ⊥
  only_functions None g is never = cc
  only_functions (Some j) g is never = by (slice_get known.funcs j) is
    where
      by : (x : Option Func) → option_map (λ f. Function j f) x ≡ Some g → ⊥
      by (Some f) e = never j f (some_is e)
      by None e = cc

  callee_by_name : (name : Name) (m : Option ℕ) → (o' : Option Callee) → option_and_then (λ k. option_map (λ f. Function k f) (slice_get known.funcs k)) m ≡ o'
      → (g : Callee) (ps : List Operand) (c : CType × TExpr) → first_some o' (built_in name) ≡ Some g → AllGood ps → o.called g ps ≡ Ok c → GoodCall c
  callee_by_name name m (Some (Function j h)) is g ps c e ds run =
      function_good j h ps c (function_there name m j h is) ds (ap (λ g. o.called g ps) (some_is e) ∙ run)
  callee_by_name name m None is g ps c e ds run = built_in_good g ps c (λ k f same. no_function_built_in known scope name k f (e ∙ ap Some same)) ds run
  callee_by_name name m (Some Input) is g ps c e ds run = absurd (only_functions m Input is (λ k f d. cc))
  callee_by_name name m (Some Inputs) is g ps c e ds run = absurd (only_functions m Inputs is (λ k f d. cc))
  callee_by_name name m (Some (Choose op)) is g ps c e ds run = absurd (only_functions m (Choose op) is (λ k f d. cc))

  each_good : {xs : List Expr} → AllOf (λ x. (p : Operand) → operand known scope x ≡ Ok p → Good p) xs → (ps : List Operand) → operands known scope xs ≡ Ok ps
      → AllGood ps
  each_good n.none ps f = subst AllGood (ok_is f) none
  each_good (n.more {a = x} {rest = xs} h hs) ps f =
      let p = then_ok (operand known scope x) (λ b. operands known scope xs >>= (λ bs. Ok (b ∷ bs))) ps f in
      let q = then_ok (operands known scope xs) (λ bs. Ok (p.0 ∷ bs)) ps p.2 in
      subst AllGood (ok_is q.2) (more (h p.0 p.1) (each_good hs q.0 q.1))

  call_good : (name : Name) (xs : List Expr) (c : CType × TExpr) → AllOf (λ x. (p : Operand) → operand known scope x ≡ Ok p → Good p) xs
      → call known scope name (operands known scope xs) ≡ Ok c → GoodCall c
  call_good name xs c hs is =
      let ps = then_ok (operands known scope xs) (λ ps. callee_named known scope name >>= (λ f. o.called f ps)) c is in
      let g = then_ok (callee_named known scope name) (λ f. o.called f ps.0) c ps.2 in
      by (variable_named known scope name) g.0 ps.0 (each_good hs ps.0 ps.1) g.1 g.2
    where
      by : (v : Option Named) (g : Callee) (ps : List Operand) → AllGood ps → callee_by known name v ≡ Ok g → o.called g ps ≡ Ok c → GoodCall c
      by (Some v) g ps ds e run = absurd cc
      by None g ps ds e run =
          callee_by_name name (place_named (λ f. f.name) name known.funcs) (function_named name known.funcs) refl g ps c
          (some_ok (first_some (function_named name known.funcs) (built_in name)) Unknown g e) ds run

  freed_formed : (ps : List Operand) (v : TExpr) → AllGood ps → o.freed ps ≡ Ok v → call_formed typed results locals (out-TExpr v) v ≡ true
  unfolding o.freed
  freed_formed (p ∷ []) v (more d none) is =
      let q = then_ok (o.pointer p) (λ a. Ok (te.Free a.1)) v is in
      subst (λ x. call_formed typed results locals (out-TExpr x) x ≡ true) (ok_is q.2)
      (ap (λ y. call_formed typed results locals y (te.Free q.0.1)) (te.outs-Free q.0.1) ∙ pointer_fits p q.0 d q.1)
  freed_formed [] v ds is = absurd cc
  freed_formed (p ∷ q ∷ ps) v ds is = absurd cc

  -- ---- each node

  abbrev Fine : Expr → Type 0
  Fine x = (p : Operand) → operand known scope x ≡ Ok p → Good p

  fine_cases : ExprCases Fine
  fine_cases = record {
    number = λ m p is. yields {p = Literal m} tt (sym (operand-Number known scope m) ∙ is);
    null = λ p is. yields {p = Null} tt (sym (operand-Null known scope) ∙ is);
    variable = λ name p is.
        let v = then_ok (some_or (variable_named known scope name) Unknown) (λ v. Ok (o.of_variable v)) p (sym (operand-Var known scope name) ∙ is) in
        yields (variable_good name v.0 (some_ok (variable_named known scope name) Unknown v.0 v.1)) v.2;
    unary = λ op x h p is.
        let a = then_ok (operand known scope x) (o.unary op) p (sym (operand-Unary known scope op x) ∙ is) in
        unary_good op a.0 p (h a.0 a.1) a.2;
    binary = λ op x y h i p is.
        let a = then_ok (operand known scope x) (λ a. operand known scope y >>= (λ b. o.binary op a b)) p (sym (operand-Binary known scope op x y) ∙ is) in
        let b = then_ok (operand known scope y) (λ b. o.binary op a.0 b) p a.2 in
        binary_good op a.0 b.0 p (h a.0 a.1) (i b.0 b.1) b.2;
    both = λ x y h i p is.
        let a = then_ok (operand known scope x) (λ a. operand known scope y >>= (λ b. o.of_scalars te.And a b)) p (sym (operand-And known scope x y) ∙ is) in
        let b = then_ok (operand known scope y) (λ b. o.of_scalars te.And a.0 b) p a.2 in
        and_good a.0 b.0 p (h a.0 a.1) (i b.0 b.1) b.2;
    either = λ x y h i p is.
        let a = then_ok (operand known scope x) (λ a. operand known scope y >>= (λ b. o.of_scalars te.Or a b)) p (sym (operand-Or known scope x y) ∙ is) in
        let b = then_ok (operand known scope y) (λ b. o.of_scalars te.Or a.0 b) p a.2 in
        or_good a.0 b.0 p (h a.0 a.1) (i b.0 b.1) b.2;
    index = λ x y h i p is.
        let a = then_ok (operand known scope x) (λ a. operand known scope y >>= (λ b. o.indexed known a b)) p (sym (operand-Index known scope x y) ∙ is) in
        let b = then_ok (operand known scope y) (λ b. o.indexed known a.0 b) p a.2 in
        indexed_good a.0 b.0 p (h a.0 a.1) (i b.0 b.1) b.2;
    dot = λ x field h p is.
        let a = then_ok (operand known scope x) (λ a. o.member known a field) p (sym (operand-Dot known scope x field) ∙ is) in
        member_good field a.0 p (h a.0 a.1) a.2;
    arrow = λ x field h p is.
        let a = then_ok (operand known scope x) (λ a. o.member_behind known a field) p (sym (operand-Arrow known scope x field) ∙ is) in
        member_behind_good field a.0 p (h a.0 a.1) a.2;
    deref = λ x h p is.
        let a = then_ok (operand known scope x) o.followed p (sym (operand-Deref known scope x) ∙ is) in
        followed_good a.0 p (h a.0 a.1) a.2;
    address = λ x h p is.
        let a = then_ok (operand known scope x) o.address p (sym (operand-Address known scope x) ∙ is) in
        address_good a.0 p (h a.0 a.1) a.2;
    call = λ name xs hs p is.
        let c = then_ok (call known scope name (operands known scope xs)) (λ c. Ok (Value c.0 c.1)) p (sym (operand-Call known scope name xs) ∙ is) in
        yields {p = Value c.0.0 c.0.1} ((call_good name xs c.0 hs c.1).value) c.2;
    size = λ a p is.
        let u = then_ok (sized known scope a) (λ _. Ok (Value t.Int (te.Number (pos (8 * size known a))))) p (sym (operand-SizeOf known scope a) ∙ is) in
        yields (number_good (te.Number (pos (8 * size known a))) (fits-Number typed results locals (pos (8 * size known a)))) u.2;
    allocation = λ x a h p is.
        let m = then_ok (operand known scope x
        >>= o.integer) (λ n. sized known scope a >> Ok (Value (t.Ptr a) (te.Calloc n (size known a)))) p (sym (operand-Calloc known scope x a) ∙ is) in
        let b = then_ok (operand known scope x) o.integer m.0 m.1 in
        let u = then_ok (sized known scope a) (λ _. Ok (Value (t.Ptr a) (te.Calloc m.0 (size known a)))) p m.2 in
        yields {p = Value (t.Ptr a) (te.Calloc m.0 (size known a))}
        (λ k e. subst (Fit (te.Calloc m.0 (size known a))) (some_is (sym (kind-Ptr a) ∙ e)) (fits-Calloc typed results locals m.0 (size known a) kind.Ptr
        ∙ integer_fits b.0 m.0 (h b.0 b.1) b.2)) u.2;
  }

  pub operand_good : (x : Expr) (p : Operand) → operand known scope x ≡ Ok p → Good p
  operand_good = expr_induct Fine fine_cases

  all_fine : (xs : List Expr) → AllOf Fine xs
  all_fine [] = n.none
  all_fine (x ∷ xs) = n.more (operand_good x) (all_fine xs)

  pub operands_good : (xs : List Expr) (ps : List Operand) → operands known scope xs ≡ Ok ps → AllGood ps
  operands_good xs = each_good (all_fine xs)

  pub called_good : (name : Name) (xs : List Expr) (c : CType × TExpr) → call known scope name (operands known scope xs) ≡ Ok c → GoodCall c
  called_good name xs c = call_good name xs c (all_fine xs)

  alone_by : (name : Name) (xs : List Expr) (v : TExpr) (b : Bool)
      → (if b then and_then (operands known scope xs) o.freed else and_then (call known scope name (operands known scope xs)) (λ c. Ok c.1)) ≡ Ok v
      → call_formed typed results locals (out-TExpr v) v ≡ true
  alone_by name xs v true is =
      let ps = then_ok (operands known scope xs) o.freed v is in freed_formed ps.0 v (operands_good xs ps.0 ps.1) ps.2
  alone_by name xs v false is =
      let c = then_ok (call known scope name (operands known scope xs)) (λ c. Ok c.1) v is in
      subst (λ x. call_formed typed results locals (out-TExpr x) x ≡ true) (ok_is c.2) (called_good name xs c.0 c.1).done

  -- a call that is a statement
  pub alone_good : (name : Name) (xs : List Expr) (v : TExpr) → call_alone known scope name (operands known scope xs) ≡ Ok v
      → call_formed typed results locals (out-TExpr v) v ≡ true
  alone_good name xs v = alone_by name xs v (frees known scope name)
