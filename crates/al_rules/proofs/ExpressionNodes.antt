-- What each kind of expression is.
use Rattle.std.proofs.Common.{◌≡◌, ◌*◌, List, [], ◌∷◌, map, Ok, refl, sym, ap, ◌∙◌}
use Rattle.std.specs.Prelude.{ℤ, pos}
use Rattle.al_source.specs.declared.limits.TheConstants.{WORD_BYTES}
use Rattle.al_source.specs.declared.operators.UnOp.{UnOp}
use Rattle.al_source.specs.declared.operators.BinOp.{BinOp}
use Rattle.al_source.specs.declared.source_tree.CType.{CType}
use Rattle.al_source.specs.declared.source_tree.CType.TheVariants as type
use Rattle.al_source.specs.declared.source_tree.Expr.{Expr, roll-Expr, map-Expr, fold-Expr, fold-roll-Expr}
use Rattle.al_source.specs.declared.source_tree.Expr.TheOpen.{Expr-F}
use Rattle.al_source.specs.declared.source_tree.Expr.TheVariants as s
use Rattle.al_core.specs.declared.typed_tree.TExpr.TheVariants as e
use Rattle.al_rules.specs.declared.faults.TypeKind.TheVariants.{Unknown}
use Rattle.al_rules.specs.declared.operands.Operand.{Operand}
use Rattle.al_rules.specs.declared.operands.Operand.TheVariants.{Literal, Null, Value}
use Rattle.al_rules.specs.Names.{Name}
use Rattle.al_rules.specs.Scopes.{Binding, Known, size, variable_named}
use Rattle.al_rules.specs.Operands.{integer, unary, binary, of_scalars, of_variable, indexed, member, member_behind, followed, address}
use Rattle.al_rules.specs.Expressions.{sized, call, expr_case, operand, operands}
use Rattle.al_rules.specs.Checks.{Checked, ◌>>=◌, ◌>>◌, all, some_or}

module _ (known : Known) (scope : List Binding) where
  of_operand : (x : Expr-F Expr) (d : Expr) → roll-Expr x ≡ d
      → operand known scope d ≡ expr_case known scope (map-Expr Expr (Checked Operand) (operand known scope) x)
  unfolding operand
  of_operand x d is = ap (λ d. fold-Expr (Checked Operand) (expr_case known scope) d) (sym is) ∙ fold-roll-Expr (Checked Operand) (expr_case known scope) x

  all_each : (xs : List Expr) → all (map (operand known scope) xs) ≡ operands known scope xs
  all_each [] = refl
  all_each (x ∷ xs) = ap (λ (r : Checked (List Operand)). operand known scope x >>= (λ a. r >>= (λ as'. Ok (a ∷ as')))) (all_each xs)

  pub operand-Number : (n : ℤ) → operand known scope (s.Number n) ≡ Ok (Literal n)
  operand-Number n = of_operand (Expr-F.Number n) _ (s.rolls-Number n)

  pub operand-Null : operand known scope s.Null ≡ Ok Null
  operand-Null = of_operand Expr-F.Null _ s.rolls-Null

  pub operand-Var : (name : Name) → operand known scope (s.Var name) ≡ (some_or (variable_named known scope name) Unknown >>= (λ v. Ok (of_variable v)))
  operand-Var name = of_operand (Expr-F.Var name) _ (s.rolls-Var name)

  pub operand-Unary : (op : UnOp) (x : Expr) → operand known scope (s.Unary op x) ≡ (operand known scope x >>= unary op)
  operand-Unary op x = of_operand (Expr-F.Unary op x) _ (s.rolls-Unary op x)

  pub operand-Binary : (op : BinOp) (x y : Expr)
      → operand known scope (s.Binary op x y) ≡ (operand known scope x >>= (λ a. operand known scope y >>= (λ b. binary op a b)))
  operand-Binary op x y = of_operand (Expr-F.Binary op x y) _ (s.rolls-Binary op x y)

  pub operand-And : (x y : Expr) → operand known scope (s.And x y) ≡ (operand known scope x >>= (λ a. operand known scope y >>= (λ b. of_scalars e.And a b)))
  operand-And x y = of_operand (Expr-F.And x y) _ (s.rolls-And x y)

  pub operand-Or : (x y : Expr) → operand known scope (s.Or x y) ≡ (operand known scope x >>= (λ a. operand known scope y >>= (λ b. of_scalars e.Or a b)))
  operand-Or x y = of_operand (Expr-F.Or x y) _ (s.rolls-Or x y)

  pub operand-Index : (x i : Expr) → operand known scope (s.Index x i) ≡ (operand known scope x >>= (λ a. operand known scope i >>= (λ b. indexed known a b)))
  operand-Index x i = of_operand (Expr-F.Index x i) _ (s.rolls-Index x i)

  pub operand-Dot : (x : Expr) (field : Name) → operand known scope (s.Dot x field) ≡ (operand known scope x >>= (λ a. member known a field))
  operand-Dot x field = of_operand (Expr-F.Dot x field) _ (s.rolls-Dot x field)

  pub operand-Arrow : (x : Expr) (field : Name) → operand known scope (s.Arrow x field) ≡ (operand known scope x >>= (λ a. member_behind known a field))
  operand-Arrow x field = of_operand (Expr-F.Arrow x field) _ (s.rolls-Arrow x field)

  pub operand-Deref : (x : Expr) → operand known scope (s.Deref x) ≡ (operand known scope x >>= followed)
  operand-Deref x = of_operand (Expr-F.Deref x) _ (s.rolls-Deref x)

  pub operand-Address : (x : Expr) → operand known scope (s.Address x) ≡ (operand known scope x >>= address)
  operand-Address x = of_operand (Expr-F.Address x) _ (s.rolls-Address x)

  pub operand-Call : (name : Name) (xs : List Expr)
      → operand known scope (s.Call name xs) ≡ (call known scope name (operands known scope xs) >>= (λ c. Ok (Value c.0 c.1)))
  operand-Call name xs =
      of_operand (Expr-F.Call name xs) _ (s.rolls-Call name xs)
      ∙ ap (λ (args : Checked (List Operand)). call known scope name args >>= (λ c. Ok (Value c.0 c.1))) (all_each xs)

  pub operand-SizeOf : (a : CType)
      → operand known scope (s.SizeOf a) ≡ (sized known scope a >> Ok (Value type.Int (e.Number (pos (WORD_BYTES * size known a)))))
  operand-SizeOf a = of_operand (Expr-F.SizeOf a) _ (s.rolls-SizeOf a)

  pub operand-Calloc : (x : Expr) (a : CType)
      → operand known scope (s.Calloc x a)
      ≡ (operand known scope x >>= integer >>= (λ n. sized known scope a >> Ok (Value (type.Ptr a) (e.Calloc n (size known a)))))
  operand-Calloc x a = of_operand (Expr-F.Calloc x a) _ (s.rolls-Calloc x a)

pub ruleset operand_nodes = (
  operand-Number,
  operand-Null,
  operand-Var,
  operand-Unary,
  operand-Binary,
  operand-And,
  operand-Or,
  operand-Index,
  operand-Dot,
  operand-Arrow,
  operand-Deref,
  operand-Address,
  operand-Call,
  operand-SizeOf,
  operand-Calloc,
)
