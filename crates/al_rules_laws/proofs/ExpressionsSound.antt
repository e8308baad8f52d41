-- What the walk answers of an expression, the rules say of it.
use Rattle.std.proofs.Common.{suc, arith, ◌*◌, bytes_eq, codes, ◌≡◌, ℕ, Bool, true, false, List, [], ◌∷◌, length, ◌==◌, if◌then◌else◌, Option, Some, None, option_map, Ok, Err, is_none, int_eq, ℤ, pos, refl, sym, ap, ◌∙◌, subst, ⊎_elim, eqb-true}
use Rattle.std.proofs.lemmas.Bool.Decides.{Decides-int_eq}
use Rattle.al_source.specs.declared.operators.RedOp.TheVariants.{Min, Max}
use Rattle.al_source.specs.declared.operators.UnOp.{UnOp}
use Rattle.al_source.specs.declared.operators.UnOp.TheVariants.{Neg, BitNot, Not}
use Rattle.al_source.specs.declared.operators.BinOp.{BinOp}
use Rattle.al_source.specs.declared.operators.BinOp.TheVariants.{Eq, Ne}
use Rattle.al_source.specs.declared.source_tree.CType.{CType, out-CType}
use Rattle.al_source.specs.declared.source_tree.CType.TheVariants as t
use Rattle.al_source.specs.declared.source_tree.CType.TheOpen.{CType-F}
use Rattle.al_source.specs.declared.source_tree.Field.{Field}
use Rattle.al_source.specs.declared.source_tree.Func.{Func}
use Rattle.al_source.specs.declared.source_tree.Expr.{Expr}
use Rattle.al_source.specs.declared.source_tree.Expr.TheVariants as e
use Rattle.al_core.specs.declared.typed_tree.TExpr.{TExpr}
use Rattle.al_core.specs.declared.typed_tree.TExpr.TheVariants as te
use Rattle.al_core.specs.declared.typed_tree.TPlace.{TPlace}
use Rattle.al_core.specs.declared.typed_tree.TPlace.TheVariants as tp
use Rattle.al_rules.specs.declared.faults.TypeKind.TheVariants.{Unknown, Mismatch, Count}
use Rattle.al_rules.specs.declared.operands.Operand.{Operand}
use Rattle.al_rules.specs.declared.operands.Operand.TheVariants.{Literal, Null, Value, Variable, Place}
use Rattle.al_rules.specs.declared.operands.Value.{Value as Used}
use Rattle.al_rules.specs.declared.operands.Value.TheVariants.{Int, Pointer, Useless}
use Rattle.al_rules.specs.Names.{Name, AllOf}
use Rattle.al_rules.specs.Names as n
use Rattle.al_rules.specs.Checks.{Checked, ◌>>=◌, ◌>>◌, ensure, some_or}
use Rattle.al_rules.specs.Types.{element, element_case, struct_name, struct_case}
use Rattle.al_rules.specs.Scopes.{Binding, Known, Callee, built_in, size, Function, Input, Inputs, Choose, is_struct, field_of, variable_named, callee_named}
use Rattle.al_rules.specs.Scopes.{Variable as Named}
use Rattle.al_rules.specs.Operands as o
use Rattle.al_rules.specs.Expressions.{operand, operands, call, sized}
use Rattle.al_rules.specs.ExpressionRules as r
use Rattle.al_rules.proofs.ExpressionNodes.{operand-Number, operand-Null, operand-Var, operand-Unary, operand-Binary, operand-And, operand-Or, operand-Index, operand-Dot, operand-Arrow, operand-Deref, operand-Address, operand-Call, operand-SizeOf, operand-Calloc}
use Rattle.al_rules_laws.proofs.Logic.{then_ok, ensure_ok, some_ok, or_ok, ok_is, some_is}
use Rattle.al_rules_laws.proofs.SourceInduction.{ExprCases, expr_induct}
use Rattle.al_rules_laws.proofs.TypeFacts.{is_int_type, is_struct_type, is_pointer_type, is_array_type, same_sound, sized_sound}
use Rattle.al_rules_laws.proofs.NameFacts.{names, none_of, VariableIs, is_local, is_global, variable_is, CalleeIs, is_function, is_built_in, callee_is, has_field}

module _ (known : Known) (scope : List Binding) where
  abbrev g : r.Names
  g = names known scope

  -- what an operand says of the expression that it was made of
  abbrev pub Describes : Expr → Operand → Type 0
  Describes x (Literal n) = x ≡ e.Number n
  Describes x Null = x ≡ e.Null
  Describes x (Value a v) = r.Has g x r.value a
  Describes x (Variable k a) = r.Has g x r.local a
  Describes x (Place a q) = r.Has g x r.place a

  pub yields : (x : Expr) {p q : Operand} → Describes x p → ◌≡◌ {A = Checked Operand} (Ok p) (Ok q) → Describes x q
  yields x d same = subst (Describes x) (ok_is same) d

  -- ---- what an operand is where a value is wanted

  abbrev UsedAs : Expr → Used → Type 0
  UsedAs x (Int v) = r.Has g x r.value t.Int
  UsedAs x (Pointer (Some a) v) = r.Has g x r.value (t.Ptr a)
  UsedAs x (Pointer None v) = x ≡ e.Null
  UsedAs x Useless = Unit {0}

  used_typed : (x : Expr) (a : CType) (v : TExpr) → r.Has g x r.value a → (y : CType-F CType) → out-CType a ≡ y → UsedAs x (o.typed_case y v)
  used_typed x a v d CType-F.Int is = subst (r.Has g x r.value) (is_int_type a is) d
  used_typed x a v d (CType-F.Ptr b) is = subst (r.Has g x r.value) (is_pointer_type a b is) d
  used_typed x a v d CType-F.Void is = tt
  used_typed x a v d (CType-F.Struct name) is = tt
  used_typed x a v d (CType-F.Array b n) is = tt

  used_array : (x : Expr) (b : CType) (n : ℕ) (q : TPlace) → r.Has g x r.place (t.Array b n) → (c : Bool) → is_none (element b) ≡ c
      → UsedAs x (if c then Pointer (Some b) (te.Addr q) else Useless)
  used_array x b n q d true is = r.of_array b n d (none_of (element b) is)
  used_array x b n q d false is = tt

  used_place : (x : Expr) (a : CType) (q : TPlace) → r.Has g x r.place a → (y : CType-F CType) → out-CType a ≡ y → UsedAs x (o.read_case y q)
  used_place x a q d CType-F.Int is = r.of_int (subst (r.Has g x r.place) (is_int_type a is) d)
  used_place x a q d (CType-F.Ptr b) is = r.of_pointer b (subst (r.Has g x r.place) (is_pointer_type a b is) d)
  used_place x a q d (CType-F.Array b n) is = used_array x b n q (subst (r.Has g x r.place) (is_array_type a b n is) d) (is_none (element b)) refl
  used_place x a q d CType-F.Void is = tt
  used_place x a q d (CType-F.Struct name) is = tt

  used_as : (x : Expr) (p : Operand) → Describes x p → UsedAs x (o.used p)
  unfolding o.used
  used_as x (Literal n) d = subst (λ y. r.Has g y r.value t.Int) (sym d) r.number
  used_as x Null d = d
  used_as x (Value a v) d = used_typed x a v d (out-CType a) refl
  used_as x (Variable k a) d = used_typed x a (te.Local k) (r.of_local d) (out-CType a) refl
  used_as x (Place a q) d = used_place x a q d (out-CType a) refl

  -- ---- what is wanted

  int_as : (x : Expr) (u : Used) (v : TExpr) → UsedAs x u → o.as_integer u ≡ Ok v → r.Has g x r.value t.Int
  int_as x (Int w) v d is = d
  int_as x (Pointer m w) v d is = absurd cc
  int_as x Useless v d is = absurd cc

  pub integer_is : (x : Expr) (p : Operand) (v : TExpr) → Describes x p → o.integer p ≡ Ok v → r.Has g x r.value t.Int
  unfolding o.integer
  integer_is x p v d is = int_as x (o.used p) v (used_as x p d) is

  scalar_as : (x : Expr) (u : Used) (v : TExpr) → UsedAs x u → o.as_scalar u ≡ Ok v → r.Condition g x
  scalar_as x (Int w) v d is = r.of_integer d
  scalar_as x (Pointer (Some a) w) v d is = r.of_pointers a (r.fits_pointer a d)
  scalar_as x (Pointer None w) v d is = subst (r.Condition g) (sym d) (r.of_pointers t.Int (r.null t.Int))
  scalar_as x Useless v d is = absurd cc

  pub scalar_is : (x : Expr) (p : Operand) (v : TExpr) → Describes x p → o.scalar p ≡ Ok v → r.Condition g x
  unfolding o.scalar
  scalar_is x p v d is = scalar_as x (o.used p) v (used_as x p d) is

  target_as : (x : Expr) (u : Used) (q : CType × TExpr) → UsedAs x u → o.as_target u ≡ Ok q → r.Has g x r.value (t.Ptr q.0)
  target_as x (Pointer (Some a) w) q d is = subst (λ (p : CType × TExpr). r.Has g x r.value (t.Ptr p.0)) (ok_is is) d
  target_as x (Pointer None w) q d is = absurd cc
  target_as x (Int w) q d is = absurd cc
  target_as x Useless q d is = absurd cc

  pub target_is : (x : Expr) (p : Operand) (q : CType × TExpr) → Describes x p → o.target p ≡ Ok q → r.Has g x r.value (t.Ptr q.0)
  unfolding o.target
  target_is x p q d is = target_as x (o.used p) q (used_as x p d) is

  -- a pointer of this type, or one that fits every pointer type
  abbrev PointerAs : Expr → Option CType → Type 0
  PointerAs x (Some a) = r.Has g x r.value (t.Ptr a)
  PointerAs x None = (b : CType) → r.Fits g x (t.Ptr b)

  pointer_as : (x : Expr) (u : Used) (q : Option CType × TExpr) → UsedAs x u → o.as_pointer u ≡ Ok q → PointerAs x q.0
  pointer_as x (Pointer (Some a) w) q d is = subst (λ (p : Option CType × TExpr). PointerAs x p.0) (ok_is is) d
  pointer_as x (Pointer None w) q d is =
      subst (λ (p : Option CType × TExpr). PointerAs x p.0) (ok_is is) (λ b. subst (λ y. r.Fits g y (t.Ptr b)) (sym d) (r.null b))
  pointer_as x (Int w) q d is = absurd cc
  pointer_as x Useless q d is = absurd cc

  literal_pointer : (x : Expr) (n : ℤ) (q : Option CType × TExpr) → x ≡ e.Number n → (c : Bool) → int_eq n (pos 0) ≡ c
      → (if c then Ok (None, te.Number (pos 0)) else Err Mismatch) ≡ Ok q → PointerAs x q.0
  literal_pointer x n q d true z is =
      subst (λ (p : Option CType × TExpr). PointerAs x p.0) (ok_is is)
      (λ b. subst (λ y. r.Fits g y (t.Ptr b)) (sym (d ∙ ap e.Number ((Decides-int_eq n (pos 0)).0 z))) (r.zero_literal b))
  literal_pointer x n q d false z is = absurd cc

  pointer_is : (x : Expr) (p : Operand) (q : Option CType × TExpr) → Describes x p → o.pointer p ≡ Ok q → PointerAs x q.0
  unfolding o.pointer
  pointer_is x (Literal n) q d is = literal_pointer x n q d (int_eq n (pos 0)) refl is
  pointer_is x Null q d is = pointer_as x (o.used Null) q (used_as x Null d) is
  pointer_is x (Value a v) q d is = pointer_as x (o.used (Value a v)) q (used_as x (Value a v) d) is
  pointer_is x (Variable k a) q d is = pointer_as x (o.used (Variable k a)) q (used_as x (Variable k a) d) is
  pointer_is x (Place a w) q d is = pointer_as x (o.used (Place a w)) q (used_as x (Place a w) d) is

  leads : (x : Expr) (m : Option CType) → PointerAs x m → (a : CType) × r.Fits g x (t.Ptr a)
  leads x (Some a) d = (a, r.fits_pointer a d)
  leads x None d = (t.Int, d t.Int)

  fits_as : (x : Expr) (a : CType) (m : Option CType) → PointerAs x m → o.fits a m ≡ true → r.Fits g x (t.Ptr a)
  fits_as x a (Some b) d is = r.fits_pointer a (subst (λ c. r.Has g x r.value (t.Ptr c)) (sym (same_sound a b is)) d)
  fits_as x a None d is = d a

  fitting_by : (x : Expr) (p : Operand) (a : CType) (v : TExpr) → Describes x p → (y : CType-F CType) → out-CType a ≡ y → o.fitting_case y p ≡ Ok v
      → r.Fits g x a
  fitting_by x p a v d CType-F.Int is f = subst (r.Fits g x) (sym (is_int_type a is)) (r.fits_int (integer_is x p v d f))
  fitting_by x p a v d (CType-F.Ptr b) is f =
      let q = then_ok (o.pointer p) (λ q. ensure (o.fits b q.0) Mismatch >> Ok q.1) v f in
      let w = then_ok (ensure (o.fits b q.0.0) Mismatch) (λ _. Ok q.0.1) v q.2 in
      subst (r.Fits g x) (sym (is_pointer_type a b is)) (fits_as x b q.0.0 (pointer_is x p q.0 d q.1) (ensure_ok (o.fits b q.0.0) Mismatch w.0 w.1))
  fitting_by x p a v d CType-F.Void is f = absurd cc
  fitting_by x p a v d (CType-F.Struct name) is f = absurd cc
  fitting_by x p a v d (CType-F.Array b n) is f = absurd cc

  pub fitting_is : (x : Expr) (p : Operand) (a : CType) (v : TExpr) → Describes x p → o.fitting a p ≡ Ok v → r.Fits g x a
  unfolding o.fitting
  fitting_is x p a v d f = fitting_by x p a v d (out-CType a) refl f

  -- ---- operators

  unary_is : (op : UnOp) (x : Expr) (p q : Operand) → Describes x p → o.unary op p ≡ Ok q → Describes (e.Unary op x) q
  unfolding o.unary
  unary_is Neg x p q d f =
      let v = then_ok (o.integer p) (λ a. Ok (o.number (te.Unary Neg a))) q f in yields (e.Unary Neg x) (r.negative (integer_is x p v.0 d v.1)) v.2
  unary_is BitNot x p q d f =
      let v = then_ok (o.integer p) (λ a. Ok (o.number (te.Unary BitNot a))) q f in yields (e.Unary BitNot x) (r.complement (integer_is x p v.0 d v.1)) v.2
  unary_is Not x p q d f =
      let v = then_ok (o.scalar p) (λ a. Ok (o.number (te.Unary Not a))) q f in yields (e.Unary Not x) (r.negation (scalar_is x p v.0 d v.1)) v.2

  integers_are : (op : BinOp) (x y : Expr) (p q s : Operand) → Describes x p → Describes y q → o.of_integers op p q ≡ Ok s → Describes (e.Binary op x y) s
  integers_are op x y p q s d h f =
      let v = then_ok (o.integer p) (λ a. o.integer q >>= (λ b. Ok (o.number (te.Binary op a b)))) s f in
      let w = then_ok (o.integer q) (λ b. Ok (o.number (te.Binary op v.0 b))) s v.2 in
      yields (e.Binary op x y) (r.binary (integer_is x p v.0 d v.1) (integer_is y q w.0 h w.1)) w.2

  -- two pointers of one type, as the rules have it
  pub record OneType (x y : Expr) : Type 0 where
    pub of : CType
    pub left : r.Fits g x (t.Ptr of)
    pub right : r.Fits g y (t.Ptr of)

  one_type : (x y : Expr) (m n : Option CType) → PointerAs x m → PointerAs y n → o.are_one_type m n ≡ true → OneType x y
  one_type x y (Some a) n d h is = record { of = a; left = r.fits_pointer a d; right = fits_as y a n h is }
  one_type x y None (Some b) d h is = record { of = b; left = d b; right = r.fits_pointer b h }
  one_type x y None None d h is = record { of = t.Int; left = d t.Int; right = h t.Int }

  pub record Compared (x y : Expr) (s : Operand) : Type 0 where
    pub types : OneType x y
    pub gives : (v : TExpr) × (◌≡◌ {A = Checked Operand} (Ok (o.number v)) (Ok s))

  pointers_are : (equal : Bool) (x y : Expr) (p q s : Operand) → Describes x p → Describes y q → o.of_pointers equal p q ≡ Ok s → Compared x y s
  pointers_are equal x y p q s d h f =
      let v = then_ok (o.pointer p) (λ a. o.pointer q >>= (λ b. ensure (o.are_one_type a.0 b.0) Mismatch >> Ok (o.number (te.Same equal a.1 b.1)))) s f in
      let w = then_ok (o.pointer q) (λ b. ensure (o.are_one_type v.0.0 b.0) Mismatch >> Ok (o.number (te.Same equal v.0.1 b.1))) s v.2 in
      let z = then_ok (ensure (o.are_one_type v.0.0 w.0.0) Mismatch) (λ _. Ok (o.number (te.Same equal v.0.1 w.0.1))) s w.2 in
      record {
        types = one_type x y v.0.0 w.0.0 (pointer_is x p v.0 d v.1) (pointer_is y q w.0 h w.1) (ensure_ok (o.are_one_type v.0.0 w.0.0) Mismatch z.0 z.1);
        gives = (te.Same equal v.0.1 w.0.1, z.2);
      }

  binary_is : (op : BinOp) (x y : Expr) (p q s : Operand) → Describes x p → Describes y q → o.binary op p q ≡ Ok s → Describes (e.Binary op x y) s
  unfolding o.binary
  binary_is Eq x y p q s d h f = ⊎_elim
      (λ is. integers_are Eq x y p q s d h is)
      (λ is. let c = pointers_are true x y p q s d h is in yields (e.Binary Eq x y) (r.equal c.types.of c.types.left c.types.right) c.gives.1)
      (or_ok (o.of_integers Eq p q) (o.of_pointers true p q) s f)
  binary_is Ne x y p q s d h f = ⊎_elim
      (λ is. integers_are Ne x y p q s d h is)
      (λ is. let c = pointers_are false x y p q s d h is in yields (e.Binary Ne x y) (r.unequal c.types.of c.types.left c.types.right) c.gives.1)
      (or_ok (o.of_integers Ne p q) (o.of_pointers false p q) s f)
  binary_is op x y p q s d h f = integers_are op x y p q s d h f

  -- ---- places

  array_as : (x : Expr) (a : CType) (q : TPlace) (b : CType) → r.Has g x r.place a → element a ≡ Some b → (n : ℕ) × r.Has g x r.place (t.Array b n)
  unfolding element
  array_as x a q b d is = by (out-CType a) refl is
    where
      by : (y : CType-F CType) → out-CType a ≡ y → element_case y ≡ Some b → (n : ℕ) × r.Has g x r.place (t.Array b n)
      by (CType-F.Array c n) out f =
          (n, subst (r.Has g x r.place) (is_array_type a c n out ∙ ap (λ d. t.Array d n) (some_is f)) d)
      by CType-F.Int out f = absurd cc
      by CType-F.Void out f = absurd cc
      by (CType-F.Struct name) out f = absurd cc
      by (CType-F.Ptr c) out f = absurd cc

  array_in_is : (x : Expr) (p : Operand) (q : CType × TPlace) → Describes x p → o.array_in p ≡ Some q → (n : ℕ) × r.Has g x r.place (t.Array q.0 n)
  array_in_is x (Place a w) q d f = by (element a) refl f
    where
      by : (m : Option CType) → element a ≡ m → option_map (λ b. (b, w)) m ≡ Some q → (n : ℕ) × r.Has g x r.place (t.Array q.0 n)
      by (Some b) is same =
          subst (λ (p : CType × TPlace). (n : ℕ) × r.Has g x r.place (t.Array p.0 n)) (some_is same) (array_as x a w b d is)
      by None is same = absurd cc
  array_in_is x (Literal n) q d f = absurd cc
  array_in_is x Null q d f = absurd cc
  array_in_is x (Value a v) q d f = absurd cc
  array_in_is x (Variable k a) q d f = absurd cc

  element_is : (x i : Expr) (a : CType) (w : TPlace) (q s : Operand) → (r.Has g i r.value t.Int → r.Has g (e.Index x i) r.place a) → Describes i q
      → o.element_place known a w q ≡ Ok s → Describes (e.Index x i) s
  element_is x i a w q s make h f =
      let v = then_ok (o.integer q) (λ n. Ok (Place a (tp.Elem w n _))) s f in
      yields (e.Index x i) (make (integer_is i q v.0 h v.1)) v.2

  indexed_is : (x i : Expr) (p q s : Operand) → Describes x p → Describes i q → o.indexed known p q ≡ Ok s → Describes (e.Index x i) s
  unfolding o.indexed
  indexed_is x i p q s d h f = by (o.array_in p) refl f
    where
      by : (m : Option (CType × TPlace)) → o.array_in p ≡ m → o.indexed_by known m p q ≡ Ok s → Describes (e.Index x i) s
      by (Some a) is b = let n = array_in_is x p a d is in element_is x i a.0 a.1 q s (λ v. r.of_elements n.0 n.1 v) h b
      by None is b =
          let a = then_ok (o.target p) (λ a. o.element_place known a.0 (tp.At a.1) q) s b in
          element_is x i a.0.0 (tp.At a.0.1) q s (λ v. r.of_pointed (target_is x p a.0 d a.1) v) h a.2

  struct_as : (a : CType) (name : Name) → struct_name a ≡ Some name → a ≡ t.Struct name
  unfolding struct_name
  struct_as a name is = by (out-CType a) refl is
    where
      by : (y : CType-F CType) → out-CType a ≡ y → struct_case y ≡ Some name → a ≡ t.Struct name
      by (CType-F.Struct other) out f = is_struct_type a other out ∙ ap t.Struct (some_is f)
      by CType-F.Int out f = absurd cc
      by CType-F.Void out f = absurd cc
      by (CType-F.Ptr c) out f = absurd cc
      by (CType-F.Array c n) out f = absurd cc

  -- the field of a struct, as the rules have it
  pub record FieldOf (a : CType) (field : Name) (s : Operand) : Type 0 where
    pub structure : Name
    pub is : a ≡ t.Struct structure
    pub found : CType × ℕ
    pub has : r.HasField g structure field found.0
    pub gives : (q : TPlace) × (◌≡◌ {A = Checked Operand} (Ok (Place found.0 q)) (Ok s))

  field_is : (a : CType) (q : TPlace) (field : Name) (s : Operand) → o.field_place known a q field ≡ Ok s → FieldOf a field s
  field_is a q field s f =
      let n = then_ok (some_or (struct_name a) Mismatch) (λ name. some_or (field_of known name field) Unknown >>= (λ f. Ok (Place f.0 (tp.Plus q f.1)))) s f in
      let m = then_ok (some_or (field_of known n.0 field) Unknown) (λ f. Ok (Place f.0 (tp.Plus q f.1))) s n.2 in
      record {
        structure = n.0;
        is = struct_as a n.0 (some_ok (struct_name a) Mismatch n.0 n.1);
        found = m.0;
        has = has_field known scope n.0 field m.0 (some_ok (field_of known n.0 field) Unknown m.0 m.1);
        gives = (tp.Plus q m.0.1, m.2);
      }

  member_is : (x : Expr) (field : Name) (p s : Operand) → Describes x p → o.member known p field ≡ Ok s → Describes (e.Dot x field) s
  unfolding o.member
  member_is x field (Place a q) s d f =
      let h = field_is a q field s f in
      yields (e.Dot x field) (r.field h.structure (subst (r.Has g x r.place) h.is d) h.has) h.gives.1
  member_is x field (Literal n) s d f = absurd cc
  member_is x field Null s d f = absurd cc
  member_is x field (Value a v) s d f = absurd cc
  member_is x field (Variable k a) s d f = absurd cc

  member_behind_is : (x : Expr) (field : Name) (p s : Operand) → Describes x p → o.member_behind known p field ≡ Ok s → Describes (e.Arrow x field) s
  unfolding o.member_behind
  member_behind_is x field p s d f =
      let a = then_ok (o.target p) (λ a. o.field_place known a.0 (tp.At a.1) field) s f in
      let h = field_is a.0.0 (tp.At a.0.1) field s a.2 in
      yields (e.Arrow x field) (r.field_behind h.structure (subst (λ c. r.Has g x r.value (t.Ptr c)) h.is (target_is x p a.0 d a.1)) h.has) h.gives.1

  followed_is : (x : Expr) (p s : Operand) → Describes x p → o.followed p ≡ Ok s → Describes (e.Deref x) s
  unfolding o.followed
  followed_is x p s d f = let a = then_ok (o.target p) (λ a. Ok (Place a.0 (tp.At a.1))) s f in yields (e.Deref x) (r.followed (target_is x p a.0 d a.1)) a.2

  address_is : (x : Expr) (p s : Operand) → Describes x p → o.address p ≡ Ok s → Describes (e.Address x) s
  unfolding o.address
  address_is x (Place a q) s d f =
      let v = then_ok (ensure (is_none (element a)) Mismatch) (λ _. Ok (Value (t.Ptr a) (te.Addr q))) s f in
      yields (e.Address x) (r.address d (none_of (element a) (ensure_ok (is_none (element a)) Mismatch v.0 v.1))) v.2
  address_is x (Literal n) s d f = absurd cc
  address_is x Null s d f = absurd cc
  address_is x (Value a v) s d f = absurd cc
  address_is x (Variable k a) s d f = absurd cc

  -- ---- calls

  pub data DescribeAll : List Expr → List Operand → Type 0 where
    none : DescribeAll [] []
    more : {x : Expr} {xs : List Expr} {p : Operand} {ps : List Operand} → Describes x p → DescribeAll xs ps → DescribeAll (x ∷ xs) (p ∷ ps)

  abbrev pub Reads : Expr → Type 0
  Reads x = (p : Operand) → operand known scope x ≡ Ok p → Describes x p

  all_described : {xs : List Expr} → AllOf Reads xs → (ps : List Operand) → operands known scope xs ≡ Ok ps → DescribeAll xs ps
  all_described n.none ps f = subst (DescribeAll []) (ok_is f) none
  all_described (n.more {a = x} {rest = xs} h hs) ps f =
      let p = then_ok (operand known scope x) (λ b. operands known scope xs >>= (λ bs. Ok (b ∷ bs))) ps f in
      let q = then_ok (operands known scope xs) (λ bs. Ok (p.0 ∷ bs)) ps p.2 in
      subst (DescribeAll (x ∷ xs)) (ok_is q.2) (more (h p.0 p.1) (all_described hs q.0 q.1))

  none_left : (n : ℕ) → suc n ≡ 0 → ⊥
  none_left n e = omega arith

  fit_all : {xs : List Expr} {ps : List Operand} (fs : List Field) (vs : List TExpr) → DescribeAll xs ps → length ps ≡ length fs → o.fitting_all fs ps ≡ Ok vs
      → r.FitAll g xs fs
  fit_all [] vs none l f = r.none
  fit_all [] vs (more {ps = ps} d ds) l f = absurd (none_left (length ps) l)
  fit_all (h ∷ hs) vs none l f = absurd (none_left (length hs) (sym l))
  fit_all (h ∷ hs) vs (more {x = x} {xs = xs} {p = p} {ps = ps} d ds) l f =
      let a = then_ok (o.fitting h.ty p) (λ a. o.fitting_all hs ps >>= (λ as'. Ok (a ∷ as'))) vs f in
      let b = then_ok (o.fitting_all hs ps) (λ as'. Ok (a.0 ∷ as')) vs a.2 in
      r.more (fitting_is x p h.ty a.0 d a.1) (fit_all hs b.0 ds (suc_is (length ps) (length hs) l) b.1)
    where
      suc_is : (m n : ℕ) → suc m ≡ suc n → m ≡ n
      suc_is m n e = omega arith

  function_called : (name : Name) (xs : List Expr) (ps : List Operand) (k : ℕ) (f : Func) (q : CType × TExpr) → r.IsNoVariable g name
      → r.named (λ f. f.name) name known.funcs ≡ Some f → DescribeAll xs ps → o.called (Function k f) ps ≡ Ok q → r.Has g (e.Call name xs) r.value q.0
  unfolding o.called
  function_called name xs ps k f q nv found d is =
      let vs = then_ok (ensure (length ps == length f.params) Count >> o.fitting_all f.params ps) (λ args. Ok (f.result, te.Call k args)) q is in
      let c = then_ok (ensure (length ps == length f.params) Count) (λ _. o.fitting_all f.params ps) vs.0 vs.1 in
      let l = eqb-true (length ps) (length f.params) (ensure_ok (length ps == length f.params) Count c.0 c.1) in
      subst (λ (p : CType × TExpr). r.Has g (e.Call name xs) r.value p.0) (ok_is vs.2) (r.call nv found (fit_all f.params vs.0 d l c.2))

  built_in_called : (name : Name) (c : Callee) (xs : List Expr) (ps : List Operand) (q : CType × TExpr) → r.IsNoVariable g name → r.IsBuiltIn g name c
      → DescribeAll xs ps → ((k : ℕ) (f : Func) → c ≡ Function k f → ⊥) → o.called c ps ≡ Ok q → r.Has g (e.Call name xs) r.value q.0
  unfolding o.called
  built_in_called name (Function k f) xs ps q nv b d other is = absurd (other k f refl)
  built_in_called name Input _ _ q nv b (more {x = x} {p = p} d none) other is =
      let v = then_ok (o.integer p) (λ a. Ok (t.Int, te.Input a)) q is in
      subst (λ (p : CType × TExpr). r.Has g (e.Call name (x ∷ [])) r.value p.0) (ok_is v.2) (r.call_input nv b (integer_is x p v.0 d v.1))
  built_in_called name Input _ _ q nv b none other is = absurd cc
  built_in_called name Input _ _ q nv b (more d (more h hs)) other is = absurd cc
  built_in_called name Inputs _ _ q nv b none other is = subst (λ (p : CType × TExpr). r.Has g (e.Call name []) r.value p.0) (ok_is is) (r.call_inputs nv b)
  built_in_called name Inputs _ _ q nv b (more d ds) other is = absurd cc
  built_in_called name (Choose op) _ _ q nv b (more {x = x} {p = p} d (more {x = y} {p = s} h none)) other is =
      let v = then_ok (o.integer p) (λ a. o.integer s >>= (λ b. Ok (t.Int, te.Choose op a b))) q is in
      let w = then_ok (o.integer s) (λ b. Ok (t.Int, te.Choose op v.0 b)) q v.2 in
      subst (λ (p : CType
      × TExpr). r.Has g (e.Call name (x ∷ y ∷ [])) r.value p.0) (ok_is w.2) (r.call_choose nv b (integer_is x p v.0 d v.1) (integer_is y s w.0 h w.1))
  built_in_called name (Choose op) _ _ q nv b none other is = absurd cc
  built_in_called name (Choose op) _ _ q nv b (more d none) other is = absurd cc
  built_in_called name (Choose op) _ _ q nv b (more d (more h (more i is'))) other is = absurd cc

  -- no built-in function is one of the program
  pub no_function_built_in : (name : Name) (k : ℕ) (f : Func) → built_in name ≡ Some (Function k f) → ⊥
  no_function_built_in name k f is =
      by (bytes_eq name (codes "input")) (bytes_eq name (codes "inputs")) (bytes_eq name (codes "min")) (bytes_eq name (codes "max")) is
    where
      by : (a b c d : Bool)
          → (if a then Some Input else (if b then Some Inputs else (if c then Some (Choose Min) else (if d then Some (Choose Max) else None))))
          ≡ Some (Function k f) → ⊥
      by true b c d e = cc
      by false true c d e = cc
      by false false true d e = cc
      by false false false true e = cc
      by false false false false e = cc

  called_is : (name : Name) (c : Callee) (xs : List Expr) (ps : List Operand) (q : CType × TExpr) → CalleeIs known scope name c → DescribeAll xs ps
      → o.called c ps ≡ Ok q → r.Has g (e.Call name xs) r.value q.0
  called_is name _ xs ps q (is_function k f nv found) d is = function_called name xs ps k f q nv found d is
  called_is name c xs ps q (is_built_in nv b) d is =
      built_in_called name c xs ps q nv b d (λ k f same. no_function_built_in name k f (b.means ∙ ap Some same)) is

  -- a statement that frees what a pointer leads to has one operand
  freed_by : {xs : List Expr} {ps : List Operand} (v : TExpr) → DescribeAll xs ps → o.freed ps ≡ Ok v
      → (x : Expr) × (xs ≡ x ∷ []) × ((a : CType) × r.Fits g x (t.Ptr a))
  unfolding o.freed
  freed_by v none is = absurd cc
  freed_by v (more {x = x} {p = p} d none) is =
      let q = then_ok (o.pointer p) (λ a. Ok (te.Free a.1)) v is in (x, refl, leads x q.0.0 (pointer_is x p q.0 d q.1))
  freed_by v (more d (more h hs)) is = absurd cc

  pub freed_is : (xs : List Expr) (v : TExpr) → AllOf Reads xs → (operands known scope xs >>= o.freed) ≡ Ok v
      → (x : Expr) × (xs ≡ x ∷ []) × ((a : CType) × r.Fits g x (t.Ptr a))
  freed_is xs v hs is = let ps = then_ok (operands known scope xs) o.freed v is in freed_by v (all_described hs ps.0 ps.1) ps.2

  pub call_is : (name : Name) (xs : List Expr) (q : CType × TExpr) → AllOf Reads xs → call known scope name (operands known scope xs) ≡ Ok q
      → r.Has g (e.Call name xs) r.value q.0
  call_is name xs q hs is =
      let ps = then_ok (operands known scope xs) (λ ps. callee_named known scope name >>= (λ f. o.called f ps)) q is in
      let c = then_ok (callee_named known scope name) (λ f. o.called f ps.0) q ps.2 in
      called_is name c.0 xs ps.0 q (callee_is known scope name c.0 c.1) (all_described hs ps.0 ps.1) c.2

  -- ---- each node

  variable_by : (name : Name) (m : Option Named) → VariableIs known scope name m → (p : Operand) → (some_or m Unknown >>= (λ v. Ok (o.of_variable v))) ≡ Ok p
      → Describes (e.Var name) p
  variable_by name _ (is_local b found) p is = yields (e.Var name) (r.local_variable found) is
  variable_by name _ (is_global k x l found) p is = yields (e.Var name) (r.global_variable l found) is
  variable_by name None h p is = absurd cc

  scalars_are : (join : TExpr → TExpr → TExpr) (whole : Expr → Expr → Expr) (make : (x y : Expr) → r.Condition g x → r.Condition g y
      → r.Has g (whole x y) r.value t.Int) (x y : Expr) (p q s : Operand) → Describes x p → Describes y q → o.of_scalars join p q ≡ Ok s
      → Describes (whole x y) s
  scalars_are join whole make x y p q s d h f =
      let v = then_ok (o.scalar p) (λ a. o.scalar q >>= (λ b. Ok (o.number (join a b)))) s f in
      let w = then_ok (o.scalar q) (λ b. Ok (o.number (join v.0 b))) s v.2 in
      yields (whole x y) (make x y (scalar_is x p v.0 d v.1) (scalar_is y q w.0 h w.1)) w.2

  cases : ExprCases Reads
  cases = record {
    number = λ n p is. yields (e.Number n) refl (sym (operand-Number known scope n) ∙ is);
    null = λ p is. yields e.Null refl (sym (operand-Null known scope) ∙ is);
    variable = λ name p is. variable_by name (variable_named known scope name) (variable_is known scope name) p (sym (operand-Var known scope name) ∙ is);
    unary = λ op x h p is.
        let a = then_ok (operand known scope x) (o.unary op) p (sym (operand-Unary known scope op x) ∙ is) in
        unary_is op x a.0 p (h a.0 a.1) a.2;
    binary = λ op x y h i p is.
        let a = then_ok (operand known scope x) (λ a. operand known scope y >>= (λ b. o.binary op a b)) p (sym (operand-Binary known scope op x y) ∙ is) in
        let b = then_ok (operand known scope y) (λ b. o.binary op a.0 b) p a.2 in
        binary_is op x y a.0 b.0 p (h a.0 a.1) (i b.0 b.1) b.2;
    both = λ x y h i p is.
        let a = then_ok (operand known scope x) (λ a. operand known scope y >>= (λ b. o.of_scalars te.And a b)) p (sym (operand-And known scope x y) ∙ is) in
        let b = then_ok (operand known scope y) (λ b. o.of_scalars te.And a.0 b) p a.2 in
        scalars_are te.And e.And (λ x y c d. r.both c d) x y a.0 b.0 p (h a.0 a.1) (i b.0 b.1) b.2;
    either = λ x y h i p is.
        let a = then_ok (operand known scope x) (λ a. operand known scope y >>= (λ b. o.of_scalars te.Or a b)) p (sym (operand-Or known scope x y) ∙ is) in
        let b = then_ok (operand known scope y) (λ b. o.of_scalars te.Or a.0 b) p a.2 in
        scalars_are te.Or e.Or (λ x y c d. r.either c d) x y a.0 b.0 p (h a.0 a.1) (i b.0 b.1) b.2;
    index = λ x y h i p is.
        let a = then_ok (operand known scope x) (λ a. operand known scope y >>= (λ b. o.indexed known a b)) p (sym (operand-Index known scope x y) ∙ is) in
        let b = then_ok (operand known scope y) (λ b. o.indexed known a.0 b) p a.2 in
        indexed_is x y a.0 b.0 p (h a.0 a.1) (i b.0 b.1) b.2;
    dot = λ x field h p is.
        let a = then_ok (operand known scope x) (λ a. o.member known a field) p (sym (operand-Dot known scope x field) ∙ is) in
        member_is x field a.0 p (h a.0 a.1) a.2;
    arrow = λ x field h p is.
        let a = then_ok (operand known scope x) (λ a. o.member_behind known a field) p (sym (operand-Arrow known scope x field) ∙ is) in
        member_behind_is x field a.0 p (h a.0 a.1) a.2;
    deref = λ x h p is.
        let a = then_ok (operand known scope x) o.followed p (sym (operand-Deref known scope x) ∙ is) in
        followed_is x a.0 p (h a.0 a.1) a.2;
    address = λ x h p is.
        let a = then_ok (operand known scope x) o.address p (sym (operand-Address known scope x) ∙ is) in
        address_is x a.0 p (h a.0 a.1) a.2;
    call = λ name xs hs p is.
        let c = then_ok (call known scope name (operands known scope xs)) (λ c. Ok (Value c.0 c.1)) p (sym (operand-Call known scope name xs) ∙ is) in
        yields (e.Call name xs) (call_is name xs c.0 hs c.1) c.2;
    size = λ a p is.
        let u = then_ok (sized known scope a) (λ _. Ok (Value t.Int (te.Number (pos (8 * size known a))))) p (sym (operand-SizeOf known scope a) ∙ is) in
        yields (e.SizeOf a) (r.size (sized_sound (is_struct known.structs) a u.0 u.1)) u.2;
    allocation = λ x a h p is.
        let n = then_ok (operand known scope x
        >>= o.integer) (λ n. sized known scope a >> Ok (Value (t.Ptr a) (te.Calloc n (size known a)))) p (sym (operand-Calloc known scope x a) ∙ is) in
        let b = then_ok (operand known scope x) o.integer n.0 n.1 in
        let u = then_ok (sized known scope a) (λ _. Ok (Value (t.Ptr a) (te.Calloc n.0 (size known a)))) p n.2 in
        yields (e.Calloc x a) (r.allocation (integer_is x b.0 n.0 (h b.0 b.1) b.2) (sized_sound (is_struct known.structs) a u.0 u.1)) u.2;
  }

  pub expression_is : (x : Expr) (p : Operand) → operand known scope x ≡ Ok p → Describes x p
  expression_is = expr_induct Reads cases

  pub each_reads : (xs : List Expr) → AllOf Reads xs
  each_reads [] = n.none
  each_reads (x ∷ xs) = n.more (expression_is x) (each_reads xs)

  pub expressions_are : (xs : List Expr) (ps : List Operand) → operands known scope xs ≡ Ok ps → DescribeAll xs ps
  expressions_are xs = all_described (each_reads xs)
