-- Induction over the source tree, with one case a node.
use Rattle.std.proofs.Common.{ℕ, List, [], ◌∷◌, map, Option, Some, None, sym, subst}
use Rattle.std.specs.Prelude.{ℤ}
use Rattle.al_source.specs.declared.operators.UnOp.{UnOp}
use Rattle.al_source.specs.declared.operators.BinOp.{BinOp}
use Rattle.al_source.specs.declared.texts.Piece.{Piece}
use Rattle.al_source.specs.declared.annotations.LoopNote.{LoopNote}
use Rattle.al_source.specs.declared.source_tree.CType.{CType, ind-CType, map-CType, roll-CType}
use Rattle.al_source.specs.declared.source_tree.CType.TheOpen.{CType-F}
use Rattle.al_source.specs.declared.source_tree.CType.TheVariants as t
use Rattle.al_source.specs.declared.source_tree.Expr.{Expr, ind-Expr, map-Expr, roll-Expr}
use Rattle.al_source.specs.declared.source_tree.Expr.TheOpen.{Expr-F}
use Rattle.al_source.specs.declared.source_tree.Expr.TheVariants as e
use Rattle.al_source.specs.declared.source_tree.Stmt.{Stmt, ind-Stmt, map-Stmt, roll-Stmt}
use Rattle.al_source.specs.declared.source_tree.StmtKind.{StmtKind, map-StmtKind}
use Rattle.al_source.specs.declared.source_tree.StmtKind.TheViews.{roll-StmtKind}
use Rattle.al_source.specs.declared.source_tree.StmtKind.TheOpen.{Stmt-F, StmtKind-F}
use Rattle.al_source.specs.declared.source_tree.StmtKind.TheVariants as s
use Rattle.al_rules.specs.Names.{Name, AllOf, none, more}

-- a part, with a fact
abbrev pub With : (A : Type 0) → (A → Type 0) → Type 0
With A P = (a : A) × P a

all_parts : {A : Type 0} (P : A → Type 0) (xs : List (With A P)) → AllOf P (map (λ a. a.0) xs)
all_parts P [] = none
all_parts P (x ∷ xs) = more x.1 (all_parts P xs)

-- a fact of a part that may be absent
pub data IfAny {A : Type 0} (P : A → Type 0) : Option A → Type 0 where
  absent : IfAny P None
  present : {a : A} → P a → IfAny P (Some a)

-- ---- types

pub record TypeCases (P : CType → Type 0) : Type 0 where
  pub int : P t.Int
  pub void : P t.Void
  pub structure : (name : Name) → P (t.Struct name)
  pub pointer : (a : CType) → P a → P (t.Ptr a)
  pub array : (a : CType) (n : ℕ) → P a → P (t.Array a n)

module _ (P : CType → Type 0) (c : TypeCases P) where
  type_layer : (y : CType-F (With CType P)) → P (roll-CType (map-CType (With CType P) CType (λ a. a.0) y))
  type_layer CType-F.Int = subst P (sym t.rolls-Int) c.int
  type_layer CType-F.Void = subst P (sym t.rolls-Void) c.void
  type_layer (CType-F.Struct name) = subst P (sym (t.rolls-Struct name)) (c.structure name)
  type_layer (CType-F.Ptr a) = subst P (sym (t.rolls-Ptr a.0)) (c.pointer a.0 a.1)
  type_layer (CType-F.Array a n) = subst P (sym (t.rolls-Array a.0 n)) (c.array a.0 n a.1)

  pub type_induct : (d : CType) → P d
  type_induct = ind-CType P (λ x y is. subst (λ z. P (roll-CType z)) is (type_layer y))

-- ---- expressions

pub record ExprCases (P : Expr → Type 0) : Type 0 where
  pub number : (n : ℤ) → P (e.Number n)
  pub null : P e.Null
  pub variable : (name : Name) → P (e.Var name)
  pub unary : (op : UnOp) (x : Expr) → P x → P (e.Unary op x)
  pub binary : (op : BinOp) (x y : Expr) → P x → P y → P (e.Binary op x y)
  pub both : (x y : Expr) → P x → P y → P (e.And x y)
  pub either : (x y : Expr) → P x → P y → P (e.Or x y)
  pub index : (x i : Expr) → P x → P i → P (e.Index x i)
  pub dot : (x : Expr) (field : Name) → P x → P (e.Dot x field)
  pub arrow : (x : Expr) (field : Name) → P x → P (e.Arrow x field)
  pub deref : (x : Expr) → P x → P (e.Deref x)
  pub address : (x : Expr) → P x → P (e.Address x)
  pub call : (name : Name) (xs : List Expr) → AllOf P xs → P (e.Call name xs)
  pub size : (a : CType) → P (e.SizeOf a)
  pub allocation : (x : Expr) (a : CType) → P x → P (e.Calloc x a)

module _ (P : Expr → Type 0) (c : ExprCases P) where
  expr_layer : (y : Expr-F (With Expr P)) → P (roll-Expr (map-Expr (With Expr P) Expr (λ a. a.0) y))
  expr_layer (Expr-F.Number n) = subst P (sym (e.rolls-Number n)) (c.number n)
  expr_layer Expr-F.Null = subst P (sym e.rolls-Null) c.null
  expr_layer (Expr-F.Var name) = subst P (sym (e.rolls-Var name)) (c.variable name)
  expr_layer (Expr-F.Unary op x) = subst P (sym (e.rolls-Unary op x.0)) (c.unary op x.0 x.1)
  expr_layer (Expr-F.Binary op x y) = subst P (sym (e.rolls-Binary op x.0 y.0)) (c.binary op x.0 y.0 x.1 y.1)
  expr_layer (Expr-F.And x y) = subst P (sym (e.rolls-And x.0 y.0)) (c.both x.0 y.0 x.1 y.1)
  expr_layer (Expr-F.Or x y) = subst P (sym (e.rolls-Or x.0 y.0)) (c.either x.0 y.0 x.1 y.1)
  expr_layer (Expr-F.Index x i) = subst P (sym (e.rolls-Index x.0 i.0)) (c.index x.0 i.0 x.1 i.1)
  expr_layer (Expr-F.Dot x field) = subst P (sym (e.rolls-Dot x.0 field)) (c.dot x.0 field x.1)
  expr_layer (Expr-F.Arrow x field) = subst P (sym (e.rolls-Arrow x.0 field)) (c.arrow x.0 field x.1)
  expr_layer (Expr-F.Deref x) = subst P (sym (e.rolls-Deref x.0)) (c.deref x.0 x.1)
  expr_layer (Expr-F.Address x) = subst P (sym (e.rolls-Address x.0)) (c.address x.0 x.1)
  expr_layer (Expr-F.Call name xs) = subst P (sym (e.rolls-Call name (map (λ a. a.0) xs))) (c.call name (map (λ a. a.0) xs) (all_parts P xs))
  expr_layer (Expr-F.SizeOf a) = subst P (sym (e.rolls-SizeOf a)) (c.size a)
  expr_layer (Expr-F.Calloc x a) = subst P (sym (e.rolls-Calloc x.0 a)) (c.allocation x.0 a x.1)

  pub expr_induct : (d : Expr) → P d
  expr_induct = ind-Expr P (λ x y is. subst (λ z. P (roll-Expr z)) is (expr_layer y))

-- ---- statements

pub record StmtCases (P : Stmt → Type 0) (Q : StmtKind → Type 0) : Type 0 where
  pub stmt : (line : ℕ) (d : StmtKind) → Q d → P (roll-Stmt (record { line = line; kind = d }))
  pub empty : Q s.Empty
  pub declare : (a : CType) (name : Name) (v : Option Expr) → Q (s.Declare a name v)
  pub assign : (x y : Expr) → Q (s.Assign x y)
  pub update : (op : BinOp) (x y : Expr) → Q (s.Update op x y)
  pub call : (name : Name) (xs : List Expr) → Q (s.Call name xs)
  pub print : (f : List Piece) (xs : List Expr) → Q (s.Print f xs)
  pub choice : (x : Expr) (a : Stmt) (b : Option Stmt) → P a → IfAny P b → Q (s.If x a b)
  pub while_loop : (x : Expr) (a : Stmt) → P a → Q (s.While x a)
  pub for_loop : (first : Option Stmt) (test : Option Expr) (third : Option Stmt) (body : Stmt) (note : Option LoopNote)
      → IfAny P first → IfAny P third → P body → Q (s.For first test third body note)
  pub block : (ss : List Stmt) → AllOf P ss → Q (s.Block ss)
  pub returns : (v : Option Expr) → Q (s.Return v)
  pub breaks : Q s.Break
  pub continues : Q s.Continue

module _ (P : Stmt → Type 0) (Q : StmtKind → Type 0) (c : StmtCases P Q) where
  kind_layer : (y : StmtKind-F (With StmtKind Q) (With Stmt P))
      → Q (roll-StmtKind (map-StmtKind (With StmtKind Q) (With Stmt P) StmtKind Stmt (λ a. a.0) (λ a. a.0) y))
  kind_layer StmtKind-F.Empty = subst Q (sym s.rolls-Empty) c.empty
  kind_layer (StmtKind-F.Declare a name v) = subst Q (sym (s.rolls-Declare a name v)) (c.declare a name v)
  kind_layer (StmtKind-F.Assign x y) = subst Q (sym (s.rolls-Assign x y)) (c.assign x y)
  kind_layer (StmtKind-F.Update op x y) = subst Q (sym (s.rolls-Update op x y)) (c.update op x y)
  kind_layer (StmtKind-F.Call name xs) = subst Q (sym (s.rolls-Call name xs)) (c.call name xs)
  kind_layer (StmtKind-F.Print f xs) = subst Q (sym (s.rolls-Print f xs)) (c.print f xs)
  kind_layer (StmtKind-F.If x a (Some b)) = subst Q (sym (s.rolls-If x a.0 (Some b.0))) (c.choice x a.0 (Some b.0) a.1 (present b.1))
  kind_layer (StmtKind-F.If x a None) = subst Q (sym (s.rolls-If x a.0 None)) (c.choice x a.0 None a.1 absent)
  kind_layer (StmtKind-F.While x a) = subst Q (sym (s.rolls-While x a.0)) (c.while_loop x a.0 a.1)
  kind_layer (StmtKind-F.For (Some a) test (Some b) body note) =
      subst Q (sym (s.rolls-For (Some a.0) test (Some b.0) body.0 note)) (c.for_loop (Some a.0) test (Some b.0) body.0 note (present a.1) (present b.1) body.1)
  kind_layer (StmtKind-F.For (Some a) test None body note) =
      subst Q (sym (s.rolls-For (Some a.0) test None body.0 note)) (c.for_loop (Some a.0) test None body.0 note (present a.1) absent body.1)
  kind_layer (StmtKind-F.For None test (Some b) body note) =
      subst Q (sym (s.rolls-For None test (Some b.0) body.0 note)) (c.for_loop None test (Some b.0) body.0 note absent (present b.1) body.1)
  kind_layer (StmtKind-F.For None test None body note) =
      subst Q (sym (s.rolls-For None test None body.0 note)) (c.for_loop None test None body.0 note absent absent body.1)
  kind_layer (StmtKind-F.Block ss) = subst Q (sym (s.rolls-Block (map (λ a. a.0) ss))) (c.block (map (λ a. a.0) ss) (all_parts P ss))
  kind_layer (StmtKind-F.Return v) = subst Q (sym (s.rolls-Return v)) (c.returns v)
  kind_layer StmtKind-F.Break = subst Q (sym s.rolls-Break) c.breaks
  kind_layer StmtKind-F.Continue = subst Q (sym s.rolls-Continue) c.continues

  stmt_layer : (y : Stmt-F (With StmtKind Q) (With Stmt P)) → P (roll-Stmt (map-Stmt (With StmtKind Q) (With Stmt P) StmtKind Stmt (λ a. a.0) (λ a. a.0) y))
  stmt_layer y = c.stmt y.line y.kind.0 y.kind.1

  pub stmt_induct : (d : Stmt) → P d
  stmt_induct = ind-Stmt Q P (λ x y is. subst (λ z. Q (roll-StmtKind z)) is (kind_layer y)) (λ x y is. subst (λ z. P (roll-Stmt z)) is (stmt_layer y))
