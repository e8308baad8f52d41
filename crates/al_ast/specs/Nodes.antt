-- How many statements and expressions a program has.
use Rattle.std.specs.Prelude.{ℕ, ◌+◌, min, List, [], ◌∷◌, Option, Some, None}
use Rattle.al_source.specs.declared.source_tree.Expr.{Expr, fold-Expr}
use Rattle.al_source.specs.declared.source_tree.Expr.TheOpen.{Expr-F}
use Rattle.al_source.specs.declared.source_tree.Stmt.{Stmt, fold-Stmt}
use Rattle.al_source.specs.declared.source_tree.StmtKind.{StmtKind, fold-StmtKind}
use Rattle.al_source.specs.declared.source_tree.StmtKind.TheOpen.{Stmt-F, StmtKind-F}
use Rattle.al_source.specs.declared.source_tree.Item.{Item}
use Rattle.al_source.specs.declared.source_tree.Item.TheVariants as item
use Rattle.al_source.specs.declared.source_tree.Program.{Program}

-- a count that ends at the greatest number of 64 bits
abbrev pub capped : ℕ → ℕ
capped n = min n 18446744073709551615

-- the sum of a list
abbrev pub total : List ℕ → ℕ
total [] = 0
total (n ∷ ns) = n + total ns

-- a number that may be absent, and is then 0
abbrev pub or_none : Option ℕ → ℕ
or_none None = 0
or_none (Some n) = n

-- an expression is one node, with those of its parts
abbrev pub expr_case : Expr-F ℕ → ℕ
expr_case (Expr-F.Number v) = 1
expr_case Expr-F.Null = 1
expr_case (Expr-F.Var w) = 1
expr_case (Expr-F.Unary op x) = 1 + x
expr_case (Expr-F.Binary op x y) = 1 + x + y
expr_case (Expr-F.And x y) = 1 + x + y
expr_case (Expr-F.Or x y) = 1 + x + y
expr_case (Expr-F.Index x y) = 1 + x + y
expr_case (Expr-F.Dot x w) = 1 + x
expr_case (Expr-F.Arrow x w) = 1 + x
expr_case (Expr-F.Deref x) = 1 + x
expr_case (Expr-F.Address x) = 1 + x
expr_case (Expr-F.Call w xs) = 1 + total xs
expr_case (Expr-F.SizeOf a) = 1
expr_case (Expr-F.Calloc x a) = 1 + x

unfoldable pub expr_nodes : Expr → ℕ
expr_nodes = fold-Expr ℕ expr_case

abbrev pub exprs_nodes : List Expr → ℕ
exprs_nodes [] = 0
exprs_nodes (x ∷ xs) = expr_nodes x + exprs_nodes xs

abbrev pub value_nodes : Option Expr → ℕ
value_nodes None = 0
value_nodes (Some x) = expr_nodes x

-- the nodes of a statement's parts
abbrev pub kind_case : StmtKind-F ℕ ℕ → ℕ
kind_case StmtKind-F.Empty = 0
kind_case (StmtKind-F.Declare a w x) = value_nodes x
kind_case (StmtKind-F.Assign x y) = expr_nodes x + expr_nodes y
kind_case (StmtKind-F.Update op x y) = expr_nodes x + expr_nodes y
kind_case (StmtKind-F.Call w xs) = exprs_nodes xs
kind_case (StmtKind-F.Print f xs) = exprs_nodes xs
kind_case (StmtKind-F.If c x y) = expr_nodes c + x + or_none y
kind_case (StmtKind-F.While c x) = expr_nodes c + x
kind_case (StmtKind-F.For first test third x n) = or_none first + value_nodes test + or_none third + x
kind_case (StmtKind-F.Block ss) = total ss
kind_case (StmtKind-F.Return x) = value_nodes x
kind_case StmtKind-F.Break = 0
kind_case StmtKind-F.Continue = 0

-- a statement is one node, with those of its parts; the first and third part of a `for` are statements
abbrev pub stmt_case : Stmt-F ℕ ℕ → ℕ
stmt_case s = 1 + s.kind

unfoldable pub stmt_nodes : Stmt → ℕ
stmt_nodes = fold-Stmt ℕ ℕ kind_case stmt_case

unfoldable pub kind_nodes : StmtKind → ℕ
kind_nodes = fold-StmtKind ℕ ℕ kind_case stmt_case

abbrev pub stmts_nodes : List Stmt → ℕ
stmts_nodes [] = 0
stmts_nodes (s ∷ ss) = stmt_nodes s + stmts_nodes ss

abbrev pub part_nodes : Option Stmt → ℕ
part_nodes None = 0
part_nodes (Some s) = stmt_nodes s

abbrev pub item_nodes : Item → ℕ
item_nodes (item.Func f) = stmts_nodes f.body
item_nodes _ = 0

abbrev pub items_nodes : List Item → ℕ
items_nodes [] = 0
items_nodes (i ∷ is) = item_nodes i + items_nodes is

abbrev pub program_nodes : Program → ℕ
program_nodes p = items_nodes p.items
