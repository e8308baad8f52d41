-- Facts of each node of a source tree, where its numbers are of a kind: of whatever kind, they hold of each tree.
use Rattle.std.proofs.Common.{ℕ, List, [], ◌∷◌, Option, Some, None}
use Rattle.std.specs.Prelude.{ℤ}
use Rattle.al_source.specs.declared.operators.UnOp.{UnOp}
use Rattle.al_source.specs.declared.operators.BinOp.{BinOp}
use Rattle.al_source.specs.declared.texts.Piece.{Piece}
use Rattle.al_source.specs.declared.annotations.LoopNote.{LoopNote}
use Rattle.al_source.specs.declared.source_tree.CType.{CType}
use Rattle.al_source.specs.declared.source_tree.Expr.{Expr}
use Rattle.al_source.specs.declared.source_tree.Expr.TheVariants as e
use Rattle.al_source.specs.declared.source_tree.Stmt.{Stmt, roll-Stmt}
use Rattle.al_source.specs.declared.source_tree.StmtKind.{StmtKind}
use Rattle.al_source.specs.declared.source_tree.StmtKind.TheVariants as s
use Rattle.al_rules.specs.Names.{Name, AllOf}
use Rattle.al_rules.specs.Names as n
use Rattle.al_rules_laws.proofs.SourceInduction.{expr_induct, stmt_induct, IfAny, absent, present}

-- ---- expressions

-- a fact of each expression whose numbers are of a kind
pub record ExprCases (N : ℤ → Type 0) (P : Expr → Type 0) : Type 0 where
  pub number : (m : ℤ) → N m → P (e.Number m)
  pub null : P e.Null
  pub variable : (name : Name) → P (e.Var name)
  pub unary : (op : UnOp) (x : Expr) → P x → P (e.Unary op x)
  pub binary : (op : BinOp) (x y : Expr) → P x → P y → P (e.Binary op x y)
  pub both : (x y : Expr) → P x → P y → P (e.And x y)
  pub either : (x y : Expr) → P x → P y → P (e.Or x y)
  pub index : (x i : Expr) → P x → P i → P (e.Index x i)
  pub dot : (x : Expr) (field : Name) → P x → P (e.Dot x field)
  pub arrow : (x : Expr) (field : Name) → P x → P (e.Arrow x field)
  pub deref : (x : Expr) → P x → P (e.Deref x)
  pub address : (x : Expr) → P x → P (e.Address x)
  pub call : (name : Name) (xs : List Expr) → AllOf P xs → P (e.Call name xs)
  pub size : (a : CType) → P (e.SizeOf a)
  pub allocation : (x : Expr) (a : CType) → P x → P (e.Calloc x a)

abbrev pub AnyNumber : ℤ → Type 0
AnyNumber m = Unit {0}

pub every_expr : (P : Expr → Type 0) → ExprCases AnyNumber P → (x : Expr) → P x
every_expr P c = expr_induct P (record {
  number = λ m. c.number m tt;
  null = c.null;
  variable = c.variable;
  unary = c.unary;
  binary = c.binary;
  both = c.both;
  either = c.either;
  index = c.index;
  dot = c.dot;
  arrow = c.arrow;
  deref = c.deref;
  address = c.address;
  call = c.call;
  size = c.size;
  allocation = c.allocation;
})

-- ---- statements

-- a fact of each statement, by that of its expressions
pub record StmtCases (P : Expr → Type 0) (S : Stmt → Type 0) (K : StmtKind → Type 0) : Type 0 where
  pub stmt : (line : ℕ) (d : StmtKind) → K d → S (roll-Stmt (record { line = line; kind = d }))
  pub empty : K s.Empty
  pub declare : (a : CType) (name : Name) (v : Option Expr) → IfAny P v → K (s.Declare a name v)
  pub assign : (x y : Expr) → P x → P y → K (s.Assign x y)
  pub update : (op : BinOp) (x y : Expr) → P x → P y → K (s.Update op x y)
  pub call : (name : Name) (xs : List Expr) → AllOf P xs → K (s.Call name xs)
  pub print : (f : List Piece) (xs : List Expr) → AllOf P xs → K (s.Print f xs)
  pub choice : (x : Expr) (a : Stmt) (b : Option Stmt) → P x → S a → IfAny S b → K (s.If x a b)
  pub while_loop : (x : Expr) (a : Stmt) → P x → S a → K (s.While x a)
  pub for_loop : (first : Option Stmt) (test : Option Expr) (third : Option Stmt) (body : Stmt) (note : Option LoopNote)
      → IfAny S first → IfAny P test → IfAny S third → S body → K (s.For first test third body note)
  pub block : (ss : List Stmt) → AllOf S ss → K (s.Block ss)
  pub returns : (v : Option Expr) → IfAny P v → K (s.Return v)
  pub breaks : K s.Break
  pub continues : K s.Continue

module _ (P : Expr → Type 0) (each : (x : Expr) → P x) where
  any : (v : Option Expr) → IfAny P v
  any (Some x) = present (each x)
  any None = absent

  all : (xs : List Expr) → AllOf P xs
  all [] = n.none
  all (x ∷ xs) = n.more (each x) (all xs)

  pub every_stmt : (S : Stmt → Type 0) (K : StmtKind → Type 0) → StmtCases P S K → (b : Stmt) → S b
  every_stmt S K c = stmt_induct S K (record {
    stmt = c.stmt;
    empty = c.empty;
    declare = λ a name v. c.declare a name v (any v);
    assign = λ x y. c.assign x y (each x) (each y);
    update = λ op x y. c.update op x y (each x) (each y);
    call = λ name xs. c.call name xs (all xs);
    print = λ f xs. c.print f xs (all xs);
    choice = λ x a b. c.choice x a b (each x);
    while_loop = λ x a. c.while_loop x a (each x);
    for_loop = λ first test third body note h. c.for_loop first test third body note h (any test);
    block = c.block;
    returns = λ v. c.returns v (any v);
    breaks = c.breaks;
    continues = c.continues;
  })
