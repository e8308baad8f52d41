-- The nodes of each kind of node.
use Rattle.std.proofs.Common.{◌≡◌, ℕ, ◌+◌, List, [], ◌∷◌, map, Option, Some, None, refl, sym, ap, ◌∙◌, arith}
use Rattle.std.proofs.lemmas.Grind.{common_steps}
use Rattle.std.specs.Prelude.{ℤ}
use Rattle.al_source.specs.declared.texts.Piece.{Piece}
use Rattle.al_source.specs.declared.operators.UnOp.{UnOp}
use Rattle.al_source.specs.declared.operators.BinOp.{BinOp}
use Rattle.al_source.specs.declared.annotations.LoopNote.{LoopNote}
use Rattle.al_source.specs.declared.source_tree.CType.{CType}
use Rattle.al_source.specs.declared.source_tree.Expr.{Expr, roll-Expr, map-Expr, fold-Expr, fold-roll-Expr}
use Rattle.al_source.specs.declared.source_tree.Expr.TheOpen.{Expr-F}
use Rattle.al_source.specs.declared.source_tree.Expr.TheVariants as e
use Rattle.al_source.specs.declared.source_tree.Stmt.{Stmt, fold_out-Stmt}
use Rattle.al_source.specs.declared.source_tree.StmtKind.{StmtKind, map-StmtKind, fold-StmtKind, fold-roll-StmtKind}
use Rattle.al_source.specs.declared.source_tree.StmtKind.TheViews.{roll-StmtKind}
use Rattle.al_source.specs.declared.source_tree.StmtKind.TheOpen.{StmtKind-F}
use Rattle.al_source.specs.declared.source_tree.StmtKind.TheVariants as k
use Rattle.al_ast.specs.Nodes.{capped, total, expr_case, expr_nodes, exprs_nodes, value_nodes, kind_case, stmt_case, stmt_nodes, kind_nodes, stmts_nodes, part_nodes}

pub three : (a b c : ℕ) → capped (capped (capped a + capped b) + capped c) ≡ capped (a + b + c)
three a b c = grind (arith, common_steps)

pub four : (a b c d : ℕ) → capped (capped (capped (capped a + capped b) + capped c) + capped d) ≡ capped (a + b + c + d)
four a b c d = grind (arith, common_steps)

of_expr : (x : Expr-F Expr) (d : Expr) → roll-Expr x ≡ d → expr_nodes d ≡ expr_case (map-Expr Expr ℕ expr_nodes x)
unfolding expr_nodes
of_expr x d is = ap (λ d. fold-Expr ℕ expr_case d) (sym is) ∙ fold-roll-Expr ℕ expr_case x

total_exprs : (xs : List Expr) → total (map expr_nodes xs) ≡ exprs_nodes xs
total_exprs [] = refl
total_exprs (x ∷ xs) = ap (λ n. expr_nodes x + n) (total_exprs xs)

pub nodes-Number : (v : ℤ) → expr_nodes (e.Number v) ≡ 1
nodes-Number v = of_expr (Expr-F.Number v) _ (e.rolls-Number v)

pub nodes-Null : expr_nodes e.Null ≡ 1
nodes-Null = of_expr Expr-F.Null _ e.rolls-Null

pub nodes-Var : (w : List ℕ) → expr_nodes (e.Var w) ≡ 1
nodes-Var w = of_expr (Expr-F.Var w) _ (e.rolls-Var w)

pub nodes-Unary : (op : UnOp) (x : Expr) → expr_nodes (e.Unary op x) ≡ 1 + expr_nodes x
nodes-Unary op x = of_expr (Expr-F.Unary op x) _ (e.rolls-Unary op x)

pub nodes-Binary : (op : BinOp) (x y : Expr) → expr_nodes (e.Binary op x y) ≡ 1 + expr_nodes x + expr_nodes y
nodes-Binary op x y = of_expr (Expr-F.Binary op x y) _ (e.rolls-Binary op x y)

pub nodes-And : (x y : Expr) → expr_nodes (e.And x y) ≡ 1 + expr_nodes x + expr_nodes y
nodes-And x y = of_expr (Expr-F.And x y) _ (e.rolls-And x y)

pub nodes-Or : (x y : Expr) → expr_nodes (e.Or x y) ≡ 1 + expr_nodes x + expr_nodes y
nodes-Or x y = of_expr (Expr-F.Or x y) _ (e.rolls-Or x y)

pub nodes-Index : (x y : Expr) → expr_nodes (e.Index x y) ≡ 1 + expr_nodes x + expr_nodes y
nodes-Index x y = of_expr (Expr-F.Index x y) _ (e.rolls-Index x y)

pub nodes-Dot : (x : Expr) (w : List ℕ) → expr_nodes (e.Dot x w) ≡ 1 + expr_nodes x
nodes-Dot x w = of_expr (Expr-F.Dot x w) _ (e.rolls-Dot x w)

pub nodes-Arrow : (x : Expr) (w : List ℕ) → expr_nodes (e.Arrow x w) ≡ 1 + expr_nodes x
nodes-Arrow x w = of_expr (Expr-F.Arrow x w) _ (e.rolls-Arrow x w)

pub nodes-Deref : (x : Expr) → expr_nodes (e.Deref x) ≡ 1 + expr_nodes x
nodes-Deref x = of_expr (Expr-F.Deref x) _ (e.rolls-Deref x)

pub nodes-Address : (x : Expr) → expr_nodes (e.Address x) ≡ 1 + expr_nodes x
nodes-Address x = of_expr (Expr-F.Address x) _ (e.rolls-Address x)

pub nodes-SizeOf : (a : CType) → expr_nodes (e.SizeOf a) ≡ 1
nodes-SizeOf a = of_expr (Expr-F.SizeOf a) _ (e.rolls-SizeOf a)

pub nodes-Calloc : (x : Expr) (a : CType) → expr_nodes (e.Calloc x a) ≡ 1 + expr_nodes x
nodes-Calloc x a = of_expr (Expr-F.Calloc x a) _ (e.rolls-Calloc x a)

pub nodes-Call : (w : List ℕ) (xs : List Expr) → expr_nodes (e.Call w xs) ≡ 1 + exprs_nodes xs
nodes-Call w xs = of_expr (Expr-F.Call w xs) _ (e.rolls-Call w xs) ∙ ap (λ n. 1 + n) (total_exprs xs)

pub ruleset expr_counts = (
  nodes-Number,
  nodes-Null,
  nodes-Var,
  nodes-Unary,
  nodes-Binary,
  nodes-And,
  nodes-Or,
  nodes-Index,
  nodes-Dot,
  nodes-Arrow,
  nodes-Deref,
  nodes-Address,
  nodes-SizeOf,
  nodes-Calloc,
  nodes-Call,
)

of_kind : (x : StmtKind-F StmtKind Stmt) (d : StmtKind)
    → roll-StmtKind x ≡ d → kind_nodes d ≡ kind_case (map-StmtKind StmtKind Stmt ℕ ℕ kind_nodes stmt_nodes x)
unfolding kind_nodes stmt_nodes
of_kind x d is = ap (λ d. fold-StmtKind ℕ ℕ kind_case stmt_case d) (sym is) ∙ fold-roll-StmtKind ℕ ℕ kind_case stmt_case x

total_stmts : (ss : List Stmt) → total (map stmt_nodes ss) ≡ stmts_nodes ss
total_stmts [] = refl
total_stmts (s ∷ ss) = ap (λ n. stmt_nodes s + n) (total_stmts ss)

pub kind-Empty : kind_nodes k.Empty ≡ 0
kind-Empty = of_kind StmtKind-F.Empty _ k.rolls-Empty

pub kind-Declare : (a : CType) (w : List ℕ) (x : Option Expr) → kind_nodes (k.Declare a w x) ≡ value_nodes x
kind-Declare a w x = of_kind (StmtKind-F.Declare a w x) _ (k.rolls-Declare a w x)

pub kind-Assign : (x y : Expr) → kind_nodes (k.Assign x y) ≡ expr_nodes x + expr_nodes y
kind-Assign x y = of_kind (StmtKind-F.Assign x y) _ (k.rolls-Assign x y)

pub kind-Update : (op : BinOp) (x y : Expr) → kind_nodes (k.Update op x y) ≡ expr_nodes x + expr_nodes y
kind-Update op x y = of_kind (StmtKind-F.Update op x y) _ (k.rolls-Update op x y)

pub kind-Call : (w : List ℕ) (xs : List Expr) → kind_nodes (k.Call w xs) ≡ exprs_nodes xs
kind-Call w xs = of_kind (StmtKind-F.Call w xs) _ (k.rolls-Call w xs)

pub kind-Print : (f : List Piece) (xs : List Expr) → kind_nodes (k.Print f xs) ≡ exprs_nodes xs
kind-Print f xs = of_kind (StmtKind-F.Print f xs) _ (k.rolls-Print f xs)

pub kind-If : (c : Expr) (x : Stmt) (y : Option Stmt) → kind_nodes (k.If c x y) ≡ expr_nodes c + stmt_nodes x + part_nodes y
kind-If c x None = of_kind (StmtKind-F.If c x None) _ (k.rolls-If c x None)
kind-If c x (Some y) = of_kind (StmtKind-F.If c x (Some y)) _ (k.rolls-If c x (Some y))

pub kind-While : (c : Expr) (x : Stmt) → kind_nodes (k.While c x) ≡ expr_nodes c + stmt_nodes x
kind-While c x = of_kind (StmtKind-F.While c x) _ (k.rolls-While c x)

pub kind-For : (a : Option Stmt) (b : Option Expr) (c : Option Stmt) (x : Stmt) (n : Option LoopNote)
    → kind_nodes (k.For a b c x n) ≡ part_nodes a + value_nodes b + part_nodes c + stmt_nodes x
kind-For None b None x n = of_kind (StmtKind-F.For None b None x n) _ (k.rolls-For None b None x n)
kind-For None b (Some c) x n = of_kind (StmtKind-F.For None b (Some c) x n) _ (k.rolls-For None b (Some c) x n)
kind-For (Some a) b None x n = of_kind (StmtKind-F.For (Some a) b None x n) _ (k.rolls-For (Some a) b None x n)
kind-For (Some a) b (Some c) x n = of_kind (StmtKind-F.For (Some a) b (Some c) x n) _ (k.rolls-For (Some a) b (Some c) x n)

pub kind-Block : (ss : List Stmt) → kind_nodes (k.Block ss) ≡ stmts_nodes ss
kind-Block ss = of_kind (StmtKind-F.Block ss) _ (k.rolls-Block ss) ∙ total_stmts ss

pub kind-Return : (x : Option Expr) → kind_nodes (k.Return x) ≡ value_nodes x
kind-Return x = of_kind (StmtKind-F.Return x) _ (k.rolls-Return x)

pub kind-Break : kind_nodes k.Break ≡ 0
kind-Break = of_kind StmtKind-F.Break _ k.rolls-Break

pub kind-Continue : kind_nodes k.Continue ≡ 0
kind-Continue = of_kind StmtKind-F.Continue _ k.rolls-Continue

pub stmt_counts : (s : Stmt) → stmt_nodes s ≡ 1 + kind_nodes s.kind
unfolding kind_nodes stmt_nodes
stmt_counts s = fold_out-Stmt ℕ ℕ kind_case stmt_case s

pub ruleset kind_counts = (
  kind-Empty,
  kind-Declare,
  kind-Assign,
  kind-Update,
  kind-Call,
  kind-Print,
  kind-If,
  kind-While,
  kind-For,
  kind-Block,
  kind-Return,
  kind-Break,
  kind-Continue,
)
