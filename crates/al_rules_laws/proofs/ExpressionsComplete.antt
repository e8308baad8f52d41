-- What the rules say of an expression, the walk answers.
use Rattle.std.proofs.Common.{suc, ◌*◌, ◌≡◌, ℕ, Bool, true, false, List, [], ◌∷◌, length, if◌then◌else◌, Option, Some, None, option_map, Ok, Err, is_none, pos, refl, sym, ap, ◌∙◌, subst, eq-eqb}
use Rattle.al_source.specs.declared.operators.UnOp.TheVariants.{Neg, BitNot, Not}
use Rattle.al_source.specs.declared.operators.BinOp.{BinOp}
use Rattle.al_source.specs.declared.operators.BinOp.TheVariants.{Eq, Ne}
use Rattle.al_source.specs.declared.source_tree.CType.{CType, out-CType}
use Rattle.al_source.specs.declared.source_tree.CType.TheVariants as t
use Rattle.al_source.specs.declared.source_tree.CType.TheOpen.{CType-F}
use Rattle.al_source.specs.declared.source_tree.Field.{Field}
use Rattle.al_source.specs.declared.source_tree.GlobalDef.{GlobalDef}
use Rattle.al_source.specs.declared.source_tree.Expr.{Expr}
use Rattle.al_core.specs.declared.typed_tree.TExpr.{TExpr}
use Rattle.al_core.specs.declared.typed_tree.TExpr.TheVariants as te
use Rattle.al_core.specs.declared.typed_tree.TPlace.{TPlace}
use Rattle.al_core.specs.declared.typed_tree.TPlace.TheVariants as tp
use Rattle.al_core.specs.declared.values.Kind.TheVariants as kind
use Rattle.al_rules.specs.declared.faults.TypeKind.TheVariants.{Unknown, Mismatch}
use Rattle.al_rules.specs.declared.operands.Operand.{Operand}
use Rattle.al_rules.specs.declared.operands.Operand.TheVariants.{Literal, Null, Value, Variable, Place}
use Rattle.al_rules.specs.declared.operands.Value.{Value as Used}
use Rattle.al_rules.specs.declared.operands.Value.TheVariants.{Int, Pointer, Useless}
use Rattle.al_rules.specs.Names.{Name}
use Rattle.al_rules.specs.Checks.{Checked, ◌>>=◌, ◌>>◌, ensure, some_or, or_else}
use Rattle.al_rules.specs.Types.{same_type, element, element_case}
use Rattle.al_rules.specs.Scopes.{Binding, Known, Input, Inputs, Choose, size, is_struct, field_of, variable_named}
use Rattle.al_rules.specs.Scopes.{Variable as Named, Local as named_local, Global as named_global}
use Rattle.al_rules.specs.Operands as o
use Rattle.al_rules.specs.Expressions.{operand, operands}
use Rattle.al_rules.specs.ExpressionRules as r
use Rattle.al_rules.proofs.ExpressionNodes.{operand-Number, operand-Null, operand-Var, operand-Unary, operand-Binary, operand-And, operand-Or, operand-Index, operand-Dot, operand-Arrow, operand-Deref, operand-Address, operand-Call, operand-SizeOf, operand-Calloc}
use Rattle.al_rules.proofs.TypeNodes.{element-Array, name-Struct}
use Rattle.al_rules_laws.proofs.Logic.{some_is}
use Rattle.al_rules_laws.proofs.TypeFacts.{same_sound, same_refl, sized_complete}
use Rattle.al_rules_laws.proofs.NameFacts.{names, VariableIs, is_local, is_global, is_no_variable, variable_is, callee_function, callee_built_in, field_there, field_of_binding}

-- ---- what kinds of types are not one

no_pointer_int : (a : CType) → t.Ptr a ≡ t.Int → ⊥
no_pointer_int a e = let d : CType-F.Ptr a ≡ CType-F.Int = sym (t.outs-Ptr a) ∙ ap out-CType e ∙ t.outs-Int in cc

pointee_of : Option CType → CType-F CType → Option CType
pointee_of m (CType-F.Ptr a) = Some a
pointee_of m _ = m

one_pointee : (a b : CType) → t.Ptr a ≡ t.Ptr b → a ≡ b
unfolding pointee_of
one_pointee a b e = some_is (ap (pointee_of None) (sym (t.outs-Ptr a) ∙ ap out-CType e ∙ t.outs-Ptr b))

-- ---- an operand as a value of a type

pub data ValueAt : Operand → CType → Type 0 where
  as_value : {a : CType} (v : TExpr) → ValueAt (Value a v) a
  as_local : {a : CType} (k : ℕ) → ValueAt (Variable k a) a
  as_int : {p : Operand} (v : TExpr) → o.used p ≡ Int v → ValueAt p t.Int
  as_pointer : {p : Operand} (a : CType) (v : TExpr) → o.used p ≡ Pointer (Some a) v → ValueAt p (t.Ptr a)

used_int : {p : Operand} {a : CType} → ValueAt p a → a ≡ t.Int → (v : TExpr) × (o.used p ≡ Int v)
unfolding o.used
used_int (as_value v) is = (v, ap (λ y. o.typed_case y v) (ap out-CType is ∙ t.outs-Int))
used_int (as_local k) is = (te.Local k, ap (λ y. o.typed_case y (te.Local k)) (ap out-CType is ∙ t.outs-Int))
used_int (as_int v u) is = (v, u)
used_int (as_pointer a v u) is = absurd (no_pointer_int a is)

used_pointer : {p : Operand} {a : CType} (b : CType) → ValueAt p a → a ≡ t.Ptr b → (v : TExpr) × (o.used p ≡ Pointer (Some b) v)
unfolding o.used
used_pointer b (as_value v) is = (v, ap (λ y. o.typed_case y v) (ap out-CType is ∙ t.outs-Ptr b))
used_pointer b (as_local k) is = (te.Local k, ap (λ y. o.typed_case y (te.Local k)) (ap out-CType is ∙ t.outs-Ptr b))
used_pointer b (as_int v u) is = absurd (no_pointer_int b (sym is))
used_pointer b (as_pointer a v u) is = (v, u ∙ ap (λ c. Pointer (Some c) v) (one_pointee a b is))

pub integer_at : {p : Operand} → ValueAt p t.Int → (v : TExpr) × (o.integer p ≡ Ok v)
unfolding o.integer
integer_at d = let u = used_int d refl in (u.0, ap o.as_integer u.1)

target_at : {p : Operand} (b : CType) → ValueAt p (t.Ptr b) → (v : TExpr) × (o.target p ≡ Ok (b, v))
unfolding o.target
target_at b d = let u = used_pointer b d refl in (u.0, ap o.as_target u.1)

pointer_by : (p : Operand) (b : CType) (v : TExpr) → o.used p ≡ Pointer (Some b) v → o.pointer p ≡ Ok (Some b, v)
unfolding o.pointer o.used
pointer_by (Literal n) b v u = let d : Int (te.Number n) ≡ Pointer (Some b) v = u in absurd cc
pointer_by Null b v u = ap o.as_pointer u
pointer_by (Value a w) b v u = ap o.as_pointer u
pointer_by (Variable k a) b v u = ap o.as_pointer u
pointer_by (Place a q) b v u = ap o.as_pointer u

-- ---- an operand that fits a type

pub data FitsAt : Operand → CType → Type 0 where
  at_int : {p : Operand} (v : TExpr) → o.integer p ≡ Ok v → FitsAt p t.Int
  at_pointer : {p : Operand} (a : CType) (q : Option CType × TExpr) → o.pointer p ≡ Ok q → o.fits a q.0 ≡ true → FitsAt p (t.Ptr a)

pub fitting_at : {p : Operand} {a : CType} → FitsAt p a → (v : TExpr) × (o.fitting a p ≡ Ok v)
unfolding o.fitting
fitting_at {p = p} (at_int v is) = (v, ap (λ y. o.fitting_case y p) t.outs-Int ∙ is)
fitting_at {p = p} (at_pointer a q is f) = (
  q.1,
  ap (λ y. o.fitting_case y p) (t.outs-Ptr a) ∙ ap (λ (c : Checked (Option CType × TExpr)). c >>= (λ q. ensure (o.fits a q.0) Mismatch >> Ok q.1)) is
      ∙ ap (λ b. ensure b Mismatch >> Ok q.1) f,
)

pub fits_pointer_at : {p : Operand} {a : CType} (b : CType) → FitsAt p a → a ≡ t.Ptr b
    → (q : Option CType × TExpr) × (o.pointer p ≡ Ok q) × (o.fits b q.0 ≡ true)
fits_pointer_at b (at_int v is) same = absurd (no_pointer_int b (sym same))
fits_pointer_at b (at_pointer a q is f) same = (q, is, ap (λ c. o.fits c q.0) (sym (one_pointee a b same)) ∙ f)

-- what fits one pointer type is of one type
one_type : (a : CType) (m n : Option CType) → o.fits a m ≡ true → o.fits a n ≡ true → o.are_one_type m n ≡ true
one_type a None n f h = refl
one_type a (Some b) None f h = refl
one_type a (Some b) (Some c) f h = subst (λ d. same_type d c ≡ true) (same_sound a b f) (subst (λ d. same_type a d ≡ true) (same_sound a c h) (same_refl a))

scalar_int : (p : Operand) (v : TExpr) → o.used p ≡ Int v → o.scalar p ≡ Ok v
unfolding o.scalar
scalar_int p v u = ap o.as_scalar u

-- an operand that is a pointer for every purpose is a scalar
scalar_pointer : (p : Operand) (q : Option CType × TExpr) → o.pointer p ≡ Ok q → (v : TExpr) × (o.scalar p ≡ Ok v)
unfolding o.pointer o.scalar o.used
scalar_pointer (Literal n) q is = (te.Number n, refl)
scalar_pointer Null q is = (te.Number (pos 0), refl)
scalar_pointer (Value a v) q is = by (o.used (Value a v)) refl is
  where
    by : (u : Used) → o.used (Value a v) ≡ u → o.as_pointer u ≡ Ok q → (v : TExpr) × (o.as_scalar u ≡ Ok v)
    by (Pointer m w) same f = (w, refl)
    by (Int w) same f = absurd cc
    by Useless same f = absurd cc
scalar_pointer (Variable k a) q is = by (o.used (Variable k a)) refl is
  where
    by : (u : Used) → o.used (Variable k a) ≡ u → o.as_pointer u ≡ Ok q → (v : TExpr) × (o.as_scalar u ≡ Ok v)
    by (Pointer m w) same f = (w, refl)
    by (Int w) same f = absurd cc
    by Useless same f = absurd cc
scalar_pointer (Place a r) q is = by (o.used (Place a r)) refl is
  where
    by : (u : Used) → o.used (Place a r) ≡ u → o.as_pointer u ≡ Ok q → (v : TExpr) × (o.as_scalar u ≡ Ok v)
    by (Pointer m w) same f = (w, refl)
    by (Int w) same f = absurd cc
    by Useless same f = absurd cc

null_pointer : o.pointer Null ≡ Ok (None, te.Number (pos 0))
unfolding o.pointer o.used
null_pointer = refl

zero_pointer : o.pointer (Literal (pos 0)) ≡ Ok (None, te.Number (pos 0))
unfolding o.pointer
zero_pointer = refl

-- ---- operators

integers_ok : (op : BinOp) (p q : Operand) (v w : TExpr) → o.integer p ≡ Ok v → o.integer q ≡ Ok w → o.of_integers op p q ≡ Ok (o.number (te.Binary op v w))
integers_ok op p q v w f h = rw (f, h) refl

binary_ok : (op : BinOp) (p q s : Operand) → o.of_integers op p q ≡ Ok s → o.binary op p q ≡ Ok s
unfolding o.binary
binary_ok Eq p q s is = ap (λ c. or_else c (o.of_pointers true p q)) is
binary_ok Ne p q s is = ap (λ c. or_else c (o.of_pointers false p q)) is
binary_ok op p q s is = is

pointers_ok : (equal : Bool) (a : CType) (p q : Operand) (m n : Option CType × TExpr) → o.pointer p ≡ Ok m → o.pointer q ≡ Ok n → o.fits a m.0 ≡ true
    → o.fits a n.0 ≡ true → o.of_pointers equal p q ≡ Ok (o.number (te.Same equal m.1 n.1))
pointers_ok equal a p q m n f h u w = rw (f, h, one_type a m.0 n.0 u w) refl

-- whichever of the two answers, it is an integer
either_number : (op : BinOp) (p q : Operand) (v : TExpr) (second : Checked Operand) → second ≡ Ok (o.number v)
    → (w : TExpr) × (or_else (o.of_integers op p q) second ≡ Ok (o.number w))
either_number op p q v second is = by (o.integer p) (o.integer q) refl refl
  where
    by : (c d : Checked TExpr) → o.integer p ≡ c → o.integer q ≡ d → (w : TExpr) × (or_else (o.of_integers op p q) second ≡ Ok (o.number w))
    by (Ok a) (Ok b) f h = (te.Binary op a b, rw (f, h) refl)
    by (Ok a) (Err k) f h = (v, rw (f, h) is)
    by (Err k) d f h = (v, rw f is)

equal_ok : (p q : Operand) (v : TExpr) → o.of_pointers true p q ≡ Ok (o.number v) → (w : TExpr) × (o.binary Eq p q ≡ Ok (o.number w))
unfolding o.binary
equal_ok p q v is = either_number Eq p q v (o.of_pointers true p q) is

unequal_ok : (p q : Operand) (v : TExpr) → o.of_pointers false p q ≡ Ok (o.number v) → (w : TExpr) × (o.binary Ne p q ≡ Ok (o.number w))
unfolding o.binary
unequal_ok p q v is = either_number Ne p q v (o.of_pointers false p q) is

-- ---- places

place_int : (q : TPlace) → o.used (Place t.Int q) ≡ Int (te.Load kind.Int q)
unfolding o.used
place_int q = ap (λ y. o.read_case y q) t.outs-Int

place_pointer : (a : CType) (q : TPlace) → o.used (Place (t.Ptr a) q) ≡ Pointer (Some a) (te.Load kind.Ptr q)
unfolding o.used
place_pointer a q = ap (λ y. o.read_case y q) (t.outs-Ptr a)

place_array : (a : CType) (n : ℕ) (q : TPlace) → element a ≡ None → o.used (Place (t.Array a n) q) ≡ Pointer (Some a) (te.Addr q)
unfolding o.used
place_array a n q is = ap (λ y. o.read_case y q) (t.outs-Array a n) ∙ ap (λ m. if is_none m then Pointer (Some a) (te.Addr q) else Useless) is

-- an array that is a pointer is one to its elements
pointee_by : (c a : CType) (w : TPlace) (b : CType × TPlace) (v : TExpr) (y : CType-F CType) → out-CType c ≡ y
    → option_map (λ d. (d, w)) (element_case y) ≡ Some b → o.read_case y w ≡ Pointer (Some a) v → b.0 ≡ a
pointee_by c a w b v (CType-F.Array d n) is f h = sym (ap (λ (p : CType × TPlace). p.0) (some_is f)) ∙ by (is_none (element d)) h
  where
    by : (m : Bool) → (if m then Pointer (Some d) (te.Addr w) else Useless) ≡ Pointer (Some a) v → d ≡ a
    by true e = cc
    by false e = absurd cc
pointee_by c a w b v CType-F.Int is f h = absurd cc
pointee_by c a w b v CType-F.Void is f h = absurd cc
pointee_by c a w b v (CType-F.Struct name) is f h = absurd cc
pointee_by c a w b v (CType-F.Ptr d) is f h = absurd cc

array_pointee : (p : Operand) (b : CType × TPlace) (a : CType) (v : TExpr) → o.array_in p ≡ Some b → o.used p ≡ Pointer (Some a) v → b.0 ≡ a
unfolding o.used element
array_pointee (Place c w) b a v f h = pointee_by c a w b v (out-CType c) refl f h
array_pointee (Literal n) b a v f h = absurd cc
array_pointee Null b a v f h = absurd cc
array_pointee (Value c x) b a v f h = absurd cc
array_pointee (Variable k c) b a v f h = absurd cc

module _ (known : Known) where
  array_indexed : (a : CType) (n : ℕ) (w : TPlace) (i : Operand) (v : TExpr) → o.integer i ≡ Ok v
      → o.indexed known (Place (t.Array a n) w) i ≡ Ok (Place a (tp.Elem w v (size known a)))
  unfolding o.indexed
  array_indexed a n w i v is =
      ap (λ m. o.indexed_by known (option_map (λ b. (b, w)) m) (Place (t.Array a n) w) i) (element-Array a n)
      ∙ ap (λ (c : Checked TExpr). c >>= (λ n. Ok (Place a (tp.Elem w n (size known a))))) is

  -- through a pointer, or the array that it was made of
  pointer_indexed : (p i : Operand) (a : CType) (u v : TExpr) → ValueAt p (t.Ptr a) → o.target p ≡ Ok (a, u) → o.integer i ≡ Ok v
      → (q : TPlace) × (o.indexed known p i ≡ Ok (Place a q))
  unfolding o.indexed
  pointer_indexed p i a u v d is f = by (o.array_in p) refl
    where
      by : (m : Option (CType × TPlace)) → o.array_in p ≡ m → (q : TPlace) × (o.indexed_by known (o.array_in p) p i ≡ Ok (Place a q))
      by None none = (tp.Elem (tp.At u) v (size known a), ap (λ m. o.indexed_by known m p i) none ∙ rw (is, f) refl)
      by (Some b) some =
          let w = used_pointer a d refl in
          let same = array_pointee p b a w.0 some w.1 in (
            tp.Elem b.1 v (size known b.0),
            ap (λ m. o.indexed_by known m p i) some
                ∙ ap (λ (c : Checked TExpr). c >>= (λ n. Ok (Place b.0 (tp.Elem b.1 n (size known b.0))))) f
                ∙ ap (λ c. Ok (Place c (tp.Elem b.1 v (size known b.0)))) same,
          )

  field_placed : (a : CType) (name field : Name) (q : TPlace) (n : ℕ) → field_of known name field ≡ Some (a, n)
      → o.field_place known (t.Struct name) q field ≡ Ok (Place a (tp.Plus q n))
  field_placed a name field q n is = rw (name-Struct name, is) refl

module _ (known : Known) (scope : List Binding) where
  abbrev g : r.Names
  g = names known scope

  -- what the walk answers of an expression that is a value, a local or a place of a type
  abbrev pub Answers : Expr → r.Status → CType → Type 0
  Answers x r.value a = (p : Operand) × (operand known scope x ≡ Ok p) × ValueAt p a
  Answers x r.local a = (k : ℕ) × (operand known scope x ≡ Ok (Variable k a))
  Answers x r.place a = (q : TPlace) × (operand known scope x ≡ Ok (Place a q))

  abbrev pub AnswersFit : Expr → CType → Type 0
  AnswersFit x a = (p : Operand) × (operand known scope x ≡ Ok p) × FitsAt p a

  abbrev pub AnswersCondition : Expr → Type 0
  AnswersCondition x = (p : Operand) × (operand known scope x ≡ Ok p) × ((v : TExpr) × (o.scalar p ≡ Ok v))

  pub record AnswersAll (xs : List Expr) (fs : List Field) : Type 0 where
    pub operands_of : List Operand
    pub are : operands known scope xs ≡ Ok operands_of
    pub as_many : length operands_of ≡ length fs
    pub terms : List TExpr
    pub fit : o.fitting_all fs operands_of ≡ Ok terms

  pub variable_local : (name : Name) (f : Field) (m : Option Named) → VariableIs known scope name m → r.named (λ f. f.name) name g.locals ≡ Some f
      → (k : ℕ) × (m ≡ Some (named_local k f.ty))
  variable_local name f _ (is_local b found) e = (b.number, ap (λ h. Some (named_local b.number h.ty)) (some_is (sym found ∙ e)))
  variable_local name f _ (is_global k x l found) e = let d : None ≡ Some f = sym l ∙ e in absurd cc
  variable_local name f _ (is_no_variable h) e = let d : None ≡ Some f = sym h.no_local ∙ e in absurd cc

  pub variable_global : (name : Name) (x : GlobalDef) (m : Option Named) → VariableIs known scope name m → r.named (λ f. f.name) name g.locals ≡ None
      → r.named (λ x. x.name) name g.globals ≡ Some x → (k : ℕ) × (m ≡ Some (named_global k x.ty))
  variable_global name x _ (is_local b found) l e = let d : Some (field_of_binding b) ≡ None = sym found ∙ l in absurd cc
  variable_global name x _ (is_global k y m found) l e = (k, ap (λ h. Some (named_global k h.ty)) (some_is (sym found ∙ e)))
  variable_global name x _ (is_no_variable h) l e = let d : None ≡ Some x = sym h.no_global ∙ e in absurd cc

  mutual
    unfolding o.used o.unary o.member o.member_behind o.followed o.address o.called

    pub has : {x : Expr} {st : r.Status} {a : CType} → r.Has g x st a → Answers x st a
    has (r.number {n = n}) = (Literal n, operand-Number known scope n, as_int (te.Number n) refl)
    has (r.local_variable {name = name} {f = f} e) =
        let v = variable_local name f (variable_named known scope name) (variable_is known scope name) e in
        (v.0, operand-Var known scope name ∙ ap (λ m. some_or m Unknown >>= (λ v. Ok (o.of_variable v))) v.1)
    has (r.global_variable {name = name} {x = x} l e) =
        let v = variable_global name x (variable_named known scope name) (variable_is known scope name) l e in
        (tp.Global v.0, operand-Var known scope name ∙ ap (λ m. some_or m Unknown >>= (λ v. Ok (o.of_variable v))) v.1)
    has (r.of_local {a = a} d) = let v = has d in (Variable v.0 a, v.1, as_local v.0)
    has (r.of_int d) = let q = has d in (Place t.Int q.0, q.1, as_int (te.Load kind.Int q.0) (place_int q.0))
    has (r.of_pointer a d) = let q = has d in (Place (t.Ptr a) q.0, q.1, as_pointer a (te.Load kind.Ptr q.0) (place_pointer a q.0))
    has (r.of_array a n d is) = let q = has d in (Place (t.Array a n) q.0, q.1, as_pointer a (te.Addr q.0) (place_array a n q.0 is))
    has (r.negative {x = x} d) =
        let p = has d in let v =
        integer_at p.2 in (o.number (te.Unary Neg v.0), rw (operand-Unary known scope Neg x, p.1, v.1) refl, as_value (te.Unary Neg v.0))
    has (r.complement {x = x} d) =
        let p = has d in let v =
        integer_at p.2 in (o.number (te.Unary BitNot v.0), rw (operand-Unary known scope BitNot x, p.1, v.1) refl, as_value (te.Unary BitNot v.0))
    has (r.negation {x = x} d) =
        let p = condition d in (o.number (te.Unary Not p.2.0), rw (operand-Unary known scope Not x, p.1, p.2.1) refl, as_value (te.Unary Not p.2.0))
    has (r.binary {op = op} {x = x} {y = y} d h) =
        let p = has d in let q = has h in let v = integer_at p.2 in let w = integer_at q.2 in (
          o.number (te.Binary op v.0 w.0),
          rw (operand-Binary known scope op x y, p.1, q.1) (binary_ok op p.0 q.0 (o.number (te.Binary op v.0 w.0)) (integers_ok op p.0 q.0 v.0 w.0 v.1 w.1)),
          as_value (te.Binary op v.0 w.0),
        )
    has (r.equal {x = x} {y = y} a d h) =
        let p = fits d in let q = fits h in
        let m = fits_pointer_at a p.2 refl in let n = fits_pointer_at a q.2 refl in
        let v = equal_ok p.0 q.0 (te.Same true m.0.1 n.0.1) (pointers_ok true a p.0 q.0 m.0 n.0 m.1 n.1 m.2 n.2) in
        (o.number v.0, rw (operand-Binary known scope Eq x y, p.1, q.1) v.1, as_value v.0)
    has (r.unequal {x = x} {y = y} a d h) =
        let p = fits d in let q = fits h in
        let m = fits_pointer_at a p.2 refl in let n = fits_pointer_at a q.2 refl in
        let v = unequal_ok p.0 q.0 (te.Same false m.0.1 n.0.1) (pointers_ok false a p.0 q.0 m.0 n.0 m.1 n.1 m.2 n.2) in
        (o.number v.0, rw (operand-Binary known scope Ne x y, p.1, q.1) v.1, as_value v.0)
    has (r.both {x = x} {y = y} d h) =
        let p = condition d in let q = condition h in
        (o.number (te.And p.2.0 q.2.0), rw (operand-And known scope x y, p.1, q.1, p.2.1, q.2.1) refl, as_value (te.And p.2.0 q.2.0))
    has (r.either {x = x} {y = y} d h) =
        let p = condition d in let q = condition h in
        (o.number (te.Or p.2.0 q.2.0), rw (operand-Or known scope x y, p.1, q.1, p.2.1, q.2.1) refl, as_value (te.Or p.2.0 q.2.0))
    has (r.of_elements {x = x} {i = i} {a = a} n d h) =
        let p = has d in let q = has h in let v = integer_at q.2 in
        (tp.Elem p.0 v.0 (size known a), rw (operand-Index known scope x i, p.1, q.1) (array_indexed known a n p.0 q.0 v.0 v.1))
    has (r.of_pointed {x = x} {i = i} {a = a} d h) =
        let p = has d in let q = has h in let u = target_at a p.2 in let v = integer_at q.2 in
        let z = pointer_indexed known p.0 q.0 a u.0 v.0 p.2 u.1 v.1 in
        (z.0, rw (operand-Index known scope x i, p.1, q.1) z.1)
    has (r.field {x = x} name {member = field} {a = a} d h) =
        let p = has d in let f = field_there known scope name field h in
        (tp.Plus p.0 f.0, rw (operand-Dot known scope x field, p.1) (field_placed known a name field p.0 f.0 f.1))
    has (r.field_behind {x = x} name {member = field} {a = a} d h) =
        let p = has d in let u = target_at (t.Struct name) p.2 in let f = field_there known scope name field h in
        (tp.Plus (tp.At u.0) f.0, rw (operand-Arrow known scope x field, p.1, u.1) (field_placed known a name field (tp.At u.0) f.0 f.1))
    has (r.followed {x = x} {a = a} d) =
        let p = has d in let u = target_at a p.2 in (tp.At u.0, rw (operand-Deref known scope x, p.1, u.1) refl)
    has (r.address {x = x} {a = a} d is) =
        let p = has d in (Value (t.Ptr a) (te.Addr p.0), rw (operand-Address known scope x, p.1, is) refl, as_value (te.Addr p.0))
    has (r.call {name = name} {xs = xs} {f = f} nv found d) =
        let h = fit_all d in let c = callee_function known scope name f nv found in (
          Value f.result (te.Call c.0 h.terms),
          rw (operand-Call known scope name xs, h.are, c.1, eq-eqb (length h.operands_of) (length f.params) h.as_many, h.fit) refl,
          as_value (te.Call c.0 h.terms),
        )
    has (r.call_input {name = name} {x = x} nv b d) =
        let p = has d in let v = integer_at p.2 in (
          o.number (te.Input v.0),
          rw (operand-Call known scope name (x ∷ []), p.1, callee_built_in known scope name Input nv b, v.1) refl,
          as_value
              (te.Input v.0),
        )
    has (r.call_inputs {name = name} nv b) =
        (o.number te.Inputs, rw (operand-Call known scope name [], callee_built_in known scope name Inputs nv b) refl, as_value te.Inputs)
    has (r.call_choose {name = name} {op = op} {x = x} {y = y} nv b d h) =
        let p = has d in let q = has h in let v = integer_at p.2 in let w = integer_at q.2 in (
          o.number (te.Choose op v.0 w.0),
          rw (operand-Call known scope name (x ∷ y ∷ []), p.1, q.1, callee_built_in known scope name (Choose op) nv b, v.1, w.1) refl,
          as_value (te.Choose op v.0 w.0),
        )
    has (r.size {a = a} d) = (
      o.number (te.Number (pos (8 * size known a))),
      rw (operand-SizeOf known scope a, sized_complete (is_struct known.structs) d) refl,
      as_value
          (te.Number (pos (8 * size known a))),
    )
    has (r.allocation {x = x} {a = a} d h) =
        let p = has d in let v = integer_at p.2 in (
          Value (t.Ptr a) (te.Calloc v.0 (size known a)),
          rw
              (operand-Calloc known scope x a, p.1, v.1, sized_complete (is_struct known.structs) h) refl,
          as_value (te.Calloc v.0 (size known a)),
        )

    pub fits : {x : Expr} {a : CType} → r.Fits g x a → AnswersFit x a
    fits (r.fits_int d) = let p = has d in let v = integer_at p.2 in (p.0, p.1, at_int v.0 v.1)
    fits (r.fits_pointer a d) =
        let p = has d in let u = used_pointer a p.2 refl in
        (p.0, p.1, at_pointer a (Some a, u.0) (pointer_by p.0 a u.0 u.1) (same_refl a))
    fits (r.null a) = (Null, operand-Null known scope, at_pointer a (None, te.Number (pos 0)) null_pointer refl)
    fits (r.zero_literal a) = (Literal (pos 0), operand-Number known scope (pos 0), at_pointer a (None, te.Number (pos 0)) zero_pointer refl)

    pub condition : {x : Expr} → r.Condition g x → AnswersCondition x
    condition (r.of_integer d) = let p = has d in let u = used_int p.2 refl in (p.0, p.1, (u.0, scalar_int p.0 u.0 u.1))
    condition (r.of_pointers a d) =
        let p = fits d in let q = fits_pointer_at a p.2 refl in (p.0, p.1, scalar_pointer p.0 q.0 q.1)

    pub fit_all : {xs : List Expr} {fs : List Field} → r.FitAll g xs fs → AnswersAll xs fs
    fit_all r.none = record { operands_of = []; are = refl; as_many = refl; terms = []; fit = refl }
    fit_all (r.more d ds) =
        let p = fits d in let v = fitting_at p.2 in let h = fit_all ds in
        record { operands_of = p.0 ∷ h.operands_of; are = rw (p.1, h.are) refl; as_many = ap suc h.as_many; terms = v.0 ∷ h.terms; fit = rw (v.1, h.fit) refl }
