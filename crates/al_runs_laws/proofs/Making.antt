-- What typing makes of an expression whose numbers are of a kind is made of a few operations: what they keep holds of it.
use Rattle.std.proofs.Common.{bytes_eq, ◌≡◌, ℕ, ◌*◌, Bool, true, false, List, [], ◌∷◌, length, ◌==◌, if◌then◌else◌, Option, Some, None, option_map, option_and_then, Ok, Err, slice_get, find, is_none, int_eq, pos, refl, sym, ◌∙◌, subst, ⊎_elim}
use Rattle.std.specs.Prelude.{ℤ}
use Rattle.al_source.specs.Steps.{and_then}
use Rattle.al_source.specs.declared.operators.UnOp.{UnOp}
use Rattle.al_source.specs.declared.operators.UnOp.TheVariants.{Neg, BitNot, Not}
use Rattle.al_source.specs.declared.operators.BinOp.{BinOp}
use Rattle.al_source.specs.declared.operators.BinOp.TheVariants.{Eq, Ne}
use Rattle.al_source.specs.declared.operators.RedOp.{RedOp}
use Rattle.al_source.specs.declared.source_tree.CType.{CType, out-CType}
use Rattle.al_source.specs.declared.source_tree.CType.TheVariants as t
use Rattle.al_source.specs.declared.source_tree.CType.TheOpen.{CType-F}
use Rattle.al_source.specs.declared.source_tree.Field.{Field}
use Rattle.al_source.specs.declared.source_tree.GlobalDef.{GlobalDef}
use Rattle.al_source.specs.declared.source_tree.Expr.{Expr}
use Rattle.al_core.specs.declared.values.Kind.{Kind}
use Rattle.al_core.specs.declared.values.Kind.TheVariants as kind
use Rattle.al_core.specs.declared.typed_tree.TExpr.{TExpr}
use Rattle.al_core.specs.declared.typed_tree.TExpr.TheVariants as te
use Rattle.al_core.specs.declared.typed_tree.TPlace.{TPlace}
use Rattle.al_core.specs.declared.typed_tree.TPlace.TheVariants as tp
use Rattle.al_rules.specs.declared.faults.TypeKind.TheVariants.{Unknown, Mismatch, Count}
use Rattle.al_rules.specs.declared.operands.Operand.{Operand}
use Rattle.al_rules.specs.declared.operands.Operand.TheVariants.{Literal, Null, Value, Variable, Place}
use Rattle.al_rules.specs.declared.operands.Value.{Value as Used}
use Rattle.al_rules.specs.declared.operands.Value.TheVariants.{Int, Pointer, Useless}
use Rattle.al_rules.specs.Names.{Name, AllOf, place_named}
use Rattle.al_rules.specs.Names as n
use Rattle.al_rules.specs.Checks.{Checked, ◌>>=◌, ◌>>◌, each, ensure, some_or}
use Rattle.al_rules.specs.Types.{element, struct_name}
use Rattle.al_rules.specs.Scopes.{Binding, Known, Callee, size, Function, Input, Inputs, Choose, first_some, global_named, field_of, variable_named, callee_named, frees}
use Rattle.al_rules.specs.Scopes.{Variable as Named, Local as named_local, Global as named_global}
use Rattle.al_rules.specs.Operands as o
use Rattle.al_rules.specs.Expressions.{operand, operands, call, call_alone, sized}
use Rattle.al_rules.proofs.ExpressionNodes.{operand-Number, operand-Null, operand-Var, operand-Unary, operand-Binary, operand-And, operand-Or, operand-Index, operand-Dot, operand-Arrow, operand-Deref, operand-Address, operand-Call, operand-SizeOf, operand-Calloc}
use Rattle.al_rules.specs.declared.faults.TypeKind.TheVariants.{Shape}
use Rattle.al_rules.specs.Types.{form, is_sized, are_known}
use Rattle.al_rules.specs.Scopes.{is_struct}
use Rattle.al_rules_laws.proofs.Logic.{then_ok, ensure_ok, some_ok, or_ok, ok_is, some_is}
use Rattle.al_runs_laws.proofs.NumberedTrees.{ExprCases}

-- ---- checks that give values of which something holds

abbrev pub Gives : {A : Type 0} → (A → Type 0) → Checked A → Type 0
Gives {A = A} P c = (a : A) → c ≡ Ok a → P a

pub gives_value : {A : Type 0} (P : A → Type 0) (a : A) → P a → Gives P (Ok a)
gives_value P a h b e = subst P (ok_is e) h

pub gives_then : {A B : Type 0} (P : A → Type 0) (Q : B → Type 0) (c : Checked A) (f : A → Checked B) → Gives P c → ((a : A) → P a → Gives Q (f a))
    → Gives Q (c >>= f)
gives_then P Q c f h k b e = let v = then_ok c f b e in k v.0 (h v.0 v.1) b v.2

pub gives_after : {A B : Type 0} (Q : B → Type 0) (c : Checked A) (d : Checked B) → Gives Q d → Gives Q (c >> d)
gives_after Q c d h b e = let v = then_ok c (λ _. d) b e in h b v.2

-- a global of the program, with its type
pub record GlobalAt (known : Known) (k : ℕ) (a : CType) : Type 0 where
  pub global : GlobalDef
  pub there : slice_get known.globals k ≡ Some global
  pub type : global.ty ≡ a

-- what holds of the expressions, of the places by their types, and of places in which others are formed
pub record Kept (N : ℤ → Type 0) (known : Known) (P : TExpr → Type 0) (Q : CType → TPlace → Type 0) (R : TPlace → Type 0) : Type 0 where
  pub number : (m : ℤ) → N m → P (te.Number m)
  -- what is null, and where a local begins
  pub zero : P (te.Number (pos 0))
  -- what `sizeof` gives
  pub sizes : (a : CType) → is_sized (form a) ≡ true → P (te.Number (pos (8 * size known a)))
  pub local : (k : ℕ) → P (te.Local k)
  pub load : (a : CType) (k : Kind) (q : TPlace) → Q a q → P (te.Load k q)
  pub addr : (a : CType) (q : TPlace) → Q a q → P (te.Addr q)
  pub unary : (op : UnOp) (v : TExpr) → P v → P (te.Unary op v)
  pub binary : (op : BinOp) (v w : TExpr) → P v → P w → P (te.Binary op v w)
  pub same : (equal : Bool) (v w : TExpr) → P v → P w → P (te.Same equal v w)
  pub both : (v w : TExpr) → P v → P w → P (te.And v w)
  pub either : (v w : TExpr) → P v → P w → P (te.Or v w)
  pub called : (f : ℕ) (vs : List TExpr) → AllOf P vs → P (te.Call f vs)
  pub input : (v : TExpr) → P v → P (te.Input v)
  pub inputs : P te.Inputs
  pub choose : (op : RedOp) (v w : TExpr) → P v → P w → P (te.Choose op v w)
  pub calloc : (v : TExpr) (words : ℕ) → P v → P (te.Calloc v words)
  pub free : (v : TExpr) → P v → P (te.Free v)
  pub global : (k : ℕ) (a : CType) → GlobalAt known k a → Q a (tp.Global k)
  pub at : (a : CType) (v : TExpr) → P v → Q a (tp.At v)
  pub plus : (a : CType) (q : TPlace) (m : ℕ) → R q → Q a (tp.Plus q m)
  pub elem : (a : CType) (q : TPlace) (v : TExpr) (words : ℕ) → R q → P v → Q a (tp.Elem q v words)
  pub of_struct : (a : CType) (q : TPlace) (name : Name) → struct_name a ≡ Some name → Q a q → R q
  pub of_array : (a b : CType) (q : TPlace) → element a ≡ Some b → Q a q → R q
  pub of_pointer : (v : TExpr) → P v → R (tp.At v)

module _ (N : ℤ → Type 0) (known : Known) (P : TExpr → Type 0) (Q : CType → TPlace → Type 0) (R : TPlace → Type 0) (c : Kept N known P Q R) where
  abbrev pub Good : Operand → Type 0
  Good (Literal m) = N m
  Good Null = Unit {0}
  Good (Value a v) = P v
  Good (Variable m a) = Unit {0}
  Good (Place a q) = Q a q

  abbrev pub GoodTarget : CType × TExpr → Type 0
  GoodTarget q = P q.1

  abbrev GoodPointer : Option CType × TExpr → Type 0
  GoodPointer q = P q.1

  -- ---- what an operand is where a value is wanted

  abbrev UsedWell : Used → Type 0
  UsedWell (Int v) = P v
  UsedWell (Pointer m v) = P v
  UsedWell Useless = Unit {0}

  typed_well : (v : TExpr) → P v → (y : CType-F CType) → UsedWell (o.typed_case y v)
  typed_well v h CType-F.Int = h
  typed_well v h (CType-F.Ptr b) = h
  typed_well v h CType-F.Void = tt
  typed_well v h (CType-F.Struct name) = tt
  typed_well v h (CType-F.Array b m) = tt

  read_well : (a : CType) (q : TPlace) → Q a q → (y : CType-F CType) → UsedWell (o.read_case y q)
  read_well a q h CType-F.Int = c.load a kind.Int q h
  read_well a q h (CType-F.Ptr b) = c.load a kind.Ptr q h
  read_well a q h (CType-F.Array b m) = by (is_none (element b))
    where
      by : (d : Bool) → UsedWell (if d then Pointer (Some b) (te.Addr q) else Useless)
      by true = c.addr a q h
      by false = tt
  read_well a q h CType-F.Void = tt
  read_well a q h (CType-F.Struct name) = tt

  used_well : (p : Operand) → Good p → UsedWell (o.used p)
  unfolding o.used
  used_well (Literal m) h = c.number m h
  used_well Null h = c.zero
  used_well (Value a v) h = typed_well v h (out-CType a)
  used_well (Variable m a) h = typed_well (te.Local m) (c.local m) (out-CType a)
  used_well (Place a q) h = read_well a q h (out-CType a)

  -- ---- what is wanted

  integer_by : (u : Used) → UsedWell u → Gives P (o.as_integer u)
  integer_by (Int w) h v is = subst P (ok_is is) h
  integer_by (Pointer m w) h v is = absurd cc
  integer_by Useless h v is = absurd cc

  pub integer_good : (p : Operand) → Good p → Gives P (o.integer p)
  unfolding o.integer
  integer_good p h v is = integer_by (o.used p) (used_well p h) v is

  scalar_by : (u : Used) → UsedWell u → Gives P (o.as_scalar u)
  scalar_by (Int w) h v is = subst P (ok_is is) h
  scalar_by (Pointer m w) h v is = subst P (ok_is is) h
  scalar_by Useless h v is = absurd cc

  pub scalar_good : (p : Operand) → Good p → Gives P (o.scalar p)
  unfolding o.scalar
  scalar_good p h v is = scalar_by (o.used p) (used_well p h) v is

  target_by : (u : Used) → UsedWell u → Gives GoodTarget (o.as_target u)
  target_by (Pointer (Some a) w) h q is = subst GoodTarget (ok_is is) h
  target_by (Pointer None w) h q is = absurd cc
  target_by (Int w) h q is = absurd cc
  target_by Useless h q is = absurd cc

  target_good : (p : Operand) → Good p → Gives GoodTarget (o.target p)
  unfolding o.target
  target_good p h q is = target_by (o.used p) (used_well p h) q is

  pointer_by : (u : Used) → UsedWell u → Gives GoodPointer (o.as_pointer u)
  pointer_by (Pointer m w) h q is = subst GoodPointer (ok_is is) h
  pointer_by (Int w) h q is = absurd cc
  pointer_by Useless h q is = absurd cc

  literal_by : (d : Bool) (q : Option CType × TExpr) → (if d then Ok (None, te.Number (pos 0)) else Err Mismatch) ≡ Ok q → GoodPointer q
  literal_by true q is = subst GoodPointer (ok_is is) (c.zero)
  literal_by false q is = absurd cc

  pointer_good : (p : Operand) → Good p → Gives GoodPointer (o.pointer p)
  unfolding o.pointer
  pointer_good (Literal m) h q is = literal_by (int_eq m (pos 0)) q is
  pointer_good Null h q is = pointer_by (o.used Null) (used_well Null h) q is
  pointer_good (Value a v) h q is = pointer_by (o.used (Value a v)) (used_well (Value a v) h) q is
  pointer_good (Variable k a) h q is = pointer_by (o.used (Variable k a)) (used_well (Variable k a) h) q is
  pointer_good (Place a w) h q is = pointer_by (o.used (Place a w)) (used_well (Place a w) h) q is

  fitting_by : (p : Operand) → Good p → (y : CType-F CType) → Gives P (o.fitting_case y p)
  fitting_by p h CType-F.Int v f = integer_good p h v f
  fitting_by p h (CType-F.Ptr b) v f =
      gives_then GoodPointer P (o.pointer p) (λ q. ensure (o.fits b q.0) Mismatch >> Ok q.1) (pointer_good p h)
      (λ q g. gives_after P (ensure (o.fits b q.0) Mismatch) (Ok q.1) (gives_value P q.1 g)) v f
  fitting_by p h CType-F.Void v f = absurd cc
  fitting_by p h (CType-F.Struct name) v f = absurd cc
  fitting_by p h (CType-F.Array b m) v f = absurd cc

  pub fitting_good : (p : Operand) (a : CType) → Good p → Gives P (o.fitting a p)
  unfolding o.fitting
  fitting_good p a h v f = fitting_by p h (out-CType a) v f

  -- ---- operators

  number_of : (v : TExpr) → P v → Gives Good (Ok (o.number v))
  number_of v h = gives_value Good (o.number v) h

  unary_good : (op : UnOp) (p : Operand) → Good p → Gives Good (o.unary op p)
  unfolding o.unary
  unary_good Neg p h s f =
      gives_then P Good (o.integer p) (λ a. Ok (o.number (te.Unary Neg a))) (integer_good p h) (λ a g. number_of (te.Unary Neg a) (c.unary Neg a g)) s f
  unary_good BitNot p h s f =
      gives_then P Good (o.integer p) (λ a. Ok (o.number (te.Unary BitNot a))) (integer_good p h)
      (λ a g. number_of (te.Unary BitNot a) (c.unary BitNot a g)) s f
  unary_good Not p h s f =
      gives_then P Good (o.scalar p) (λ a. Ok (o.number (te.Unary Not a))) (scalar_good p h) (λ a g. number_of (te.Unary Not a) (c.unary Not a g)) s f

  integers_good : (op : BinOp) (p q : Operand) → Good p → Good q → Gives Good (o.of_integers op p q)
  integers_good op p q h i =
      gives_then P Good (o.integer p) (λ a. o.integer q >>= (λ b. Ok (o.number (te.Binary op a b)))) (integer_good p h)
      (λ a g. gives_then P Good (o.integer q) (λ b. Ok (o.number (te.Binary op a b))) (integer_good q i)
      (λ b d. number_of (te.Binary op a b) (c.binary op a b g d)))

  pointers_good : (equal : Bool) (p q : Operand) → Good p → Good q → Gives Good (o.of_pointers equal p q)
  pointers_good equal p q h i =
      gives_then GoodPointer Good (o.pointer p)
      (λ a. o.pointer q >>= (λ b. ensure (o.are_one_type a.0 b.0) Mismatch >> Ok (o.number (te.Same equal a.1 b.1)))) (pointer_good p h)
      (λ a g. gives_then GoodPointer Good (o.pointer q) (λ b. ensure (o.are_one_type a.0 b.0) Mismatch >> Ok (o.number (te.Same equal a.1 b.1)))
      (pointer_good q i)
      (λ b d. gives_after Good (ensure (o.are_one_type a.0 b.0) Mismatch) (Ok (o.number (te.Same equal a.1 b.1)))
      (number_of (te.Same equal a.1 b.1) (c.same equal a.1 b.1 g d))))

  binary_good : (op : BinOp) (p q : Operand) → Good p → Good q → Gives Good (o.binary op p q)
  unfolding o.binary
  binary_good Eq p q h i s f = ⊎_elim (integers_good Eq p q h i s) (pointers_good true p q h i s) (or_ok (o.of_integers Eq p q) (o.of_pointers true p q) s f)
  binary_good Ne p q h i s f = ⊎_elim (integers_good Ne p q h i s) (pointers_good false p q h i s) (or_ok (o.of_integers Ne p q) (o.of_pointers false p q) s f)
  binary_good op p q h i s f = integers_good op p q h i s f

  and_good : (p q : Operand) → Good p → Good q → Gives Good (o.of_scalars te.And p q)
  and_good p q h i =
      gives_then P Good (o.scalar p) (λ a. o.scalar q >>= (λ b. Ok (o.number (te.And a b)))) (scalar_good p h)
      (λ a g. gives_then P Good (o.scalar q) (λ b. Ok (o.number (te.And a b))) (scalar_good q i) (λ b d. number_of (te.And a b) (c.both a b g d)))

  or_good : (p q : Operand) → Good p → Good q → Gives Good (o.of_scalars te.Or p q)
  or_good p q h i =
      gives_then P Good (o.scalar p) (λ a. o.scalar q >>= (λ b. Ok (o.number (te.Or a b)))) (scalar_good p h)
      (λ a g. gives_then P Good (o.scalar q) (λ b. Ok (o.number (te.Or a b))) (scalar_good q i) (λ b d. number_of (te.Or a b) (c.either a b g d)))

  -- ---- places

  element_good : (a : CType) (w : TPlace) (q : Operand) → R w → Good q → Gives Good (o.element_place known a w q)
  element_good a w q r i =
      gives_then P Good (o.integer q) (λ m. Ok (Place a (tp.Elem w m (size known a)))) (integer_good q i)
      (λ m g. gives_value Good (Place a (tp.Elem w m (size known a))) (c.elem a w m (size known a) r g))

  array_good : (p : Operand) (q : CType × TPlace) → Good p → o.array_in p ≡ Some q → R q.1
  array_good (Place a w) q h f = by (element a) refl f
    where
      by : (m : Option CType) → element a ≡ m → option_map (λ b. (b, w)) m ≡ Some q → R q.1
      by (Some b) is same = subst (λ (p : CType × TPlace). R p.1) (some_is same) (c.of_array a b w is h)
      by None is same = absurd cc
  array_good (Literal m) q h f = absurd cc
  array_good Null q h f = absurd cc
  array_good (Value a v) q h f = absurd cc
  array_good (Variable k a) q h f = absurd cc

  indexed_good : (p q : Operand) → Good p → Good q → Gives Good (o.indexed known p q)
  unfolding o.indexed
  indexed_good p q h i s f = by (o.array_in p) refl f
    where
      by : (m : Option (CType × TPlace)) → o.array_in p ≡ m → o.indexed_by known m p q ≡ Ok s → Good s
      by (Some a) is b = element_good a.0 a.1 q (array_good p a h is) i s b
      by None is b =
          gives_then GoodTarget Good (o.target p) (λ a. o.element_place known a.0 (tp.At a.1) q) (target_good p h)
          (λ a g. element_good a.0 (tp.At a.1) q (c.of_pointer a.1 g) i) s b

  field_good : (a : CType) (q : TPlace) (field : Name) → ((name : Name) → struct_name a ≡ Some name → R q) → Gives Good (o.field_place known a q field)
  field_good a q field r s f =
      let m = then_ok (some_or (struct_name a) Mismatch) (λ name. some_or (field_of known name field) Unknown >>= (λ f. Ok (Place f.0 (tp.Plus q f.1)))) s f in
      let g = then_ok (some_or (field_of known m.0 field) Unknown) (λ f. Ok (Place f.0 (tp.Plus q f.1))) s m.2 in
      gives_value Good (Place g.0.0 (tp.Plus q g.0.1)) (c.plus g.0.0 q g.0.1 (r m.0 (some_ok (struct_name a) Mismatch m.0 m.1))) s g.2

  member_good : (field : Name) (p : Operand) → Good p → Gives Good (o.member known p field)
  unfolding o.member
  member_good field (Place a q) h s f = field_good a q field (λ name is. c.of_struct a q name is h) s f
  member_good field (Literal m) h s f = absurd cc
  member_good field Null h s f = absurd cc
  member_good field (Value a v) h s f = absurd cc
  member_good field (Variable k a) h s f = absurd cc

  member_behind_good : (field : Name) (p : Operand) → Good p → Gives Good (o.member_behind known p field)
  unfolding o.member_behind
  member_behind_good field p h s f =
      gives_then GoodTarget Good (o.target p) (λ a. o.field_place known a.0 (tp.At a.1) field) (target_good p h)
      (λ a g. field_good a.0 (tp.At a.1) field (λ name is. c.of_pointer a.1 g)) s f

  followed_good : (p : Operand) → Good p → Gives Good (o.followed p)
  unfolding o.followed
  followed_good p h s f =
      gives_then GoodTarget Good (o.target p) (λ a. Ok (Place a.0 (tp.At a.1))) (target_good p h)
      (λ a g. gives_value Good (Place a.0 (tp.At a.1)) (c.at a.0 a.1 g)) s f

  address_good : (p : Operand) → Good p → Gives Good (o.address p)
  unfolding o.address
  address_good (Place a q) h s f =
      gives_after Good (ensure (is_none (element a)) Mismatch) (Ok (Value (t.Ptr a) (te.Addr q)))
      (gives_value Good (Value (t.Ptr a) (te.Addr q)) (c.addr a q h)) s f
  address_good (Literal m) h s f = absurd cc
  address_good Null h s f = absurd cc
  address_good (Value a v) h s f = absurd cc
  address_good (Variable k a) h s f = absurd cc

  -- ---- variables

  global_placed : (m : Option ℕ) (v : Named) → option_and_then (λ k. option_map (λ x. named_global k x.ty) (slice_get known.globals k)) m ≡ Some v
      → Good (o.of_variable v)
  global_placed None v e = absurd cc
  global_placed (Some j) v e = by (slice_get known.globals j) refl e
    where
      by : (x : Option GlobalDef) → slice_get known.globals j ≡ x → option_map (λ x. named_global j x.ty) x ≡ Some v → Good (o.of_variable v)
      by (Some x) is e =
          subst (λ (v : Named). Good (o.of_variable v)) (some_is e) (c.global j x.ty (record { global = x; there = is; type = refl }))
      by None is e = absurd cc

  variable_good : (scope : List Binding) (name : Name) (v : Named) → variable_named known scope name ≡ Some v → Good (o.of_variable v)
  variable_good scope name v e = by (find (λ b. bytes_eq b.name name) scope) e
    where
      by : (m : Option Binding) → first_some (option_map (λ b. named_local b.number b.ty) m) (global_named name known.globals) ≡ Some v
          → Good (o.of_variable v)
      by (Some b) e = subst (λ (v : Named). Good (o.of_variable v)) (some_is e) tt
      by None e = global_placed (place_named (λ x. x.name) name known.globals) v e

  -- ---- calls

  fitting_all_good : (fs : List Field) (ps : List Operand) → AllOf Good ps → Gives (AllOf P) (o.fitting_all fs ps)
  fitting_all_good [] ps ds = gives_value (AllOf P) [] n.none
  fitting_all_good (f ∷ fs) [] ds = gives_value (AllOf P) [] n.none
  fitting_all_good (f ∷ fs) (p ∷ ps) (n.more d ds) =
      gives_then P (AllOf P) (o.fitting f.ty p) (λ a. o.fitting_all fs ps >>= (λ as'. Ok (a ∷ as'))) (fitting_good p f.ty d)
      (λ a g. gives_then (AllOf P) (AllOf P) (o.fitting_all fs ps) (λ as'. Ok (a ∷ as')) (fitting_all_good fs ps ds)
      (λ as' gs. gives_value (AllOf P) (a ∷ as') (n.more g gs)))

  called_good : (g : Callee) (ps : List Operand) → AllOf Good ps → Gives GoodTarget (o.called g ps)
  unfolding o.called
  called_good (Function k f) ps ds s is =
      gives_then (AllOf P) GoodTarget (ensure (length ps == length f.params) Count >> o.fitting_all f.params ps) (λ args. Ok (f.result, te.Call k args))
      (gives_after (AllOf P) (ensure (length ps == length f.params) Count) (o.fitting_all f.params ps) (fitting_all_good f.params ps ds))
      (λ args gs. gives_value GoodTarget (f.result, te.Call k args) (c.called k args gs)) s is
  called_good Input (p ∷ []) (n.more d n.none) s is =
      gives_then P GoodTarget (o.integer p) (λ a. Ok (t.Int, te.Input a)) (integer_good p d)
      (λ a g. gives_value GoodTarget (t.Int, te.Input a) (c.input a g)) s is
  called_good Input [] ds s is = absurd cc
  called_good Input (p ∷ q ∷ ps) ds s is = absurd cc
  called_good Inputs [] ds s is = gives_value GoodTarget (t.Int, te.Inputs) c.inputs s is
  called_good Inputs (p ∷ ps) ds s is = absurd cc
  called_good (Choose op) (p ∷ q ∷ []) (n.more d (n.more h n.none)) s is =
      gives_then P GoodTarget (o.integer p) (λ a. o.integer q >>= (λ b. Ok (t.Int, te.Choose op a b))) (integer_good p d)
      (λ a g. gives_then P GoodTarget (o.integer q) (λ b. Ok (t.Int, te.Choose op a b)) (integer_good q h)
      (λ b i. gives_value GoodTarget (t.Int, te.Choose op a b) (c.choose op a b g i))) s is
  called_good (Choose op) [] ds s is = absurd cc
  called_good (Choose op) (p ∷ []) ds s is = absurd cc
  called_good (Choose op) (p ∷ q ∷ r ∷ ps) ds s is = absurd cc

  freed_good : (ps : List Operand) → AllOf Good ps → Gives P (o.freed ps)
  unfolding o.freed
  freed_good (p ∷ []) (n.more d n.none) s is =
      gives_then GoodPointer P (o.pointer p) (λ a. Ok (te.Free a.1)) (pointer_good p d) (λ a g. gives_value P (te.Free a.1) (c.free a.1 g)) s is
  freed_good [] ds s is = absurd cc
  freed_good (p ∷ q ∷ ps) ds s is = absurd cc

  -- ---- each node

  module _ (scope : List Binding) where
    abbrev pub Fine : Expr → Type 0
    Fine x = Gives Good (operand known scope x)

    each_good : {xs : List Expr} → AllOf Fine xs → Gives (AllOf Good) (operands known scope xs)
    each_good n.none ps f = subst (AllOf Good) (ok_is f) n.none
    each_good (n.more {a = x} {rest = xs} h hs) ps f =
        let p = then_ok (operand known scope x) (λ b. operands known scope xs >>= (λ bs. Ok (b ∷ bs))) ps f in
        let q = then_ok (operands known scope xs) (λ bs. Ok (p.0 ∷ bs)) ps p.2 in
        subst (AllOf Good) (ok_is q.2) (n.more (h p.0 p.1) (each_good hs q.0 q.1))

    call_good : (name : Name) (xs : List Expr) → AllOf Fine xs → Gives GoodTarget (call known scope name (operands known scope xs))
    call_good name xs hs =
        gives_then (AllOf Good) GoodTarget (operands known scope xs) (λ ps. callee_named known scope name >>= (λ f. o.called f ps)) (each_good hs)
        (λ ps ds. gives_then (λ (g : Callee). Unit {0}) GoodTarget (callee_named known scope name) (λ f. o.called f ps) (λ g e. tt)
        (λ g _. called_good g ps ds))

    -- a type that `sizeof` takes
    sized_form : (a : CType) → Gives (λ _. is_sized (form a) ≡ true) (sized known scope a)
    sized_form a u f =
        let q = then_ok (ensure (are_known (is_struct known.structs) (is_struct known.structs) a).0 Unknown) (λ _. ensure (is_sized (form a)) Shape) u f in
        ensure_ok (is_sized (form a)) Shape u q.2

    fine_cases : ExprCases N Fine
    fine_cases = record {
      number = λ m h p is. gives_value Good (Literal m) h p (sym (operand-Number known scope m) ∙ is);
      null = λ p is. gives_value Good Null tt p (sym (operand-Null known scope) ∙ is);
      variable = λ name p is.
          let v = then_ok (some_or (variable_named known scope name) Unknown) (λ v. Ok (o.of_variable v)) p (sym (operand-Var known scope name) ∙ is) in
          gives_value Good (o.of_variable v.0) (variable_good scope name v.0 (some_ok (variable_named known scope name) Unknown v.0 v.1)) p v.2;
      unary = λ op x h p is.
          gives_then Good Good (operand known scope x) (o.unary op) h (λ a g. unary_good op a g) p (sym (operand-Unary known scope op x) ∙ is);
      binary = λ op x y h i p is.
          gives_then Good Good (operand known scope x) (λ a. operand known scope y >>= (λ b. o.binary op a b)) h
          (λ a g. gives_then Good Good (operand known scope y) (λ b. o.binary op a b) i (λ b d. binary_good op a b g d)) p
          (sym (operand-Binary known scope op x y) ∙ is);
      both = λ x y h i p is.
          gives_then Good Good (operand known scope x) (λ a. operand known scope y >>= (λ b. o.of_scalars te.And a b)) h
          (λ a g. gives_then Good Good (operand known scope y) (λ b. o.of_scalars te.And a b) i (λ b d. and_good a b g d)) p
          (sym (operand-And known scope x y) ∙ is);
      either = λ x y h i p is.
          gives_then Good Good (operand known scope x) (λ a. operand known scope y >>= (λ b. o.of_scalars te.Or a b)) h
          (λ a g. gives_then Good Good (operand known scope y) (λ b. o.of_scalars te.Or a b) i (λ b d. or_good a b g d)) p
          (sym (operand-Or known scope x y) ∙ is);
      index = λ x y h i p is.
          gives_then Good Good (operand known scope x) (λ a. operand known scope y >>= (λ b. o.indexed known a b)) h
          (λ a g. gives_then Good Good (operand known scope y) (λ b. o.indexed known a b) i (λ b d. indexed_good a b g d)) p
          (sym (operand-Index known scope x y) ∙ is);
      dot = λ x field h p is.
          gives_then Good Good (operand known scope x) (λ a. o.member known a field) h (λ a g. member_good field a g) p
          (sym (operand-Dot known scope x field) ∙ is);
      arrow = λ x field h p is.
          gives_then Good Good (operand known scope x) (λ a. o.member_behind known a field) h (λ a g. member_behind_good field a g) p
          (sym (operand-Arrow known scope x field) ∙ is);
      deref = λ x h p is.
          gives_then Good Good (operand known scope x) o.followed h (λ a g. followed_good a g) p (sym (operand-Deref known scope x) ∙ is);
      address = λ x h p is.
          gives_then Good Good (operand known scope x) o.address h (λ a g. address_good a g) p (sym (operand-Address known scope x) ∙ is);
      call = λ name xs hs p is.
          gives_then GoodTarget Good (call known scope name (operands known scope xs)) (λ d. Ok (Value d.0 d.1)) (call_good name xs hs)
          (λ d g. gives_value Good (Value d.0 d.1) g) p (sym (operand-Call known scope name xs) ∙ is);
      size = λ a p is.
          gives_then (λ _. is_sized (form a) ≡ true) Good (sized known scope a) (λ _. Ok (Value t.Int (te.Number (pos (8 * size known a))))) (sized_form a)
          (λ _ h. gives_value Good (Value t.Int (te.Number (pos (8 * size known a)))) (c.sizes a h)) p
          (sym (operand-SizeOf known scope a) ∙ is);
      allocation = λ x a h p is.
          gives_then P Good (operand known scope x >>= o.integer) (λ m. sized known scope a >> Ok (Value (t.Ptr a) (te.Calloc m (size known a))))
          (gives_then Good P (operand known scope x) o.integer h (λ q g. integer_good q g))
          (λ m g. gives_after Good (sized known scope a) (Ok (Value (t.Ptr a) (te.Calloc m (size known a))))
          (gives_value Good (Value (t.Ptr a) (te.Calloc m (size known a))) (c.calloc m (size known a) g))) p
          (sym (operand-Calloc known scope x a) ∙ is);
    }

    pub operands_good : (xs : List Expr) → AllOf Fine xs → Gives (AllOf Good) (operands known scope xs)
    operands_good xs hs = each_good hs

    alone_by : (name : Name) (xs : List Expr) → AllOf Fine xs → (b : Bool)
        → Gives P (if b then and_then (operands known scope xs) o.freed else and_then (call known scope name (operands known scope xs)) (λ d. Ok d.1))
    alone_by name xs hs true = gives_then (AllOf Good) P (operands known scope xs) o.freed (operands_good xs hs) (λ ps ds. freed_good ps ds)
    alone_by name xs hs false =
        gives_then GoodTarget P (call known scope name (operands known scope xs)) (λ d. Ok d.1) (call_good name xs hs)
        (λ d g. gives_value P d.1 g)

    -- a call that is a statement
    pub alone_good : (name : Name) (xs : List Expr) → AllOf Fine xs → Gives P (call_alone known scope name (operands known scope xs))
    alone_good name xs hs = alone_by name xs hs (frees known scope name)

  -- a list of integers
  pub integers_each : (ps : List Operand) → AllOf Good ps → Gives (AllOf P) (each o.integer ps)
  integers_each [] ds = gives_value (AllOf P) [] n.none
  integers_each (p ∷ ps) (n.more d ds) =
      gives_then P (AllOf P) (o.integer p) (λ a. each o.integer ps >>= (λ as'. Ok (a ∷ as'))) (integer_good p d)
      (λ a g. gives_then (AllOf P) (AllOf P) (each o.integer ps) (λ as'. Ok (a ∷ as')) (integers_each ps ds)
      (λ as' gs. gives_value (AllOf P) (a ∷ as') (n.more g gs)))

  -- ---- in each scope

  abbrev pub FineAnywhere : Expr → Type 0
  FineAnywhere x = (scope : List Binding) → Fine scope x

  pub all_in : (scope : List Binding) {xs : List Expr} → AllOf FineAnywhere xs → AllOf (Fine scope) xs
  all_in scope n.none = n.none
  all_in scope (n.more h hs) = n.more (h scope) (all_in scope hs)

  pub fine_anywhere : ExprCases N FineAnywhere
  fine_anywhere = record {
    number = λ m h scope. (fine_cases scope).number m h;
    null = λ scope. (fine_cases scope).null;
    variable = λ name scope. (fine_cases scope).variable name;
    unary = λ op x h scope. (fine_cases scope).unary op x (h scope);
    binary = λ op x y h i scope. (fine_cases scope).binary op x y (h scope) (i scope);
    both = λ x y h i scope. (fine_cases scope).both x y (h scope) (i scope);
    either = λ x y h i scope. (fine_cases scope).either x y (h scope) (i scope);
    index = λ x y h i scope. (fine_cases scope).index x y (h scope) (i scope);
    dot = λ x field h scope. (fine_cases scope).dot x field (h scope);
    arrow = λ x field h scope. (fine_cases scope).arrow x field (h scope);
    deref = λ x h scope. (fine_cases scope).deref x (h scope);
    address = λ x h scope. (fine_cases scope).address x (h scope);
    call = λ name xs hs scope. (fine_cases scope).call name xs (all_in scope hs);
    size = λ a scope. (fine_cases scope).size a;
    allocation = λ x a h scope. (fine_cases scope).allocation x a (h scope);
  }
