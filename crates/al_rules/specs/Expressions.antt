-- What an expression is, or its first fault: its parts from left to right, and then the whole.
use Rattle.std.specs.Prelude.{◌*◌, if◌then◌else◌, List, Ok, pos}
use Rattle.al_source.specs.declared.limits.TheConstants.{WORD_BYTES}
use Rattle.al_source.specs.declared.source_tree.CType.{CType}
use Rattle.al_source.specs.declared.source_tree.CType.TheVariants as type
use Rattle.al_source.specs.declared.source_tree.Expr.{Expr, fold-Expr}
use Rattle.al_source.specs.declared.source_tree.Expr.TheOpen.{Expr-F}
use Rattle.al_core.specs.declared.typed_tree.TExpr.{TExpr}
use Rattle.al_core.specs.declared.typed_tree.TExpr.TheVariants as e
use Rattle.al_rules.specs.declared.faults.TypeKind.TheVariants.{Unknown}
use Rattle.al_rules.specs.declared.operands.Operand.{Operand}
use Rattle.al_rules.specs.declared.operands.Operand.TheVariants.{Literal, Null, Value}
use Rattle.al_rules.specs.Names.{Name}
use Rattle.al_rules.specs.Types.{type_checked, is_sized}
use Rattle.al_rules.specs.Scopes.{Binding, Known, is_struct, size, variable_named, callee_named, frees}
use Rattle.al_rules.specs.Operands.{integer, unary, binary, of_scalars, of_variable, indexed, member, member_behind, followed, address, called, freed}
use Rattle.al_rules.specs.Checks.{Checked, ◌>>=◌, ◌>>◌, all, each, some_or}

module _ (known : Known) (scope : List Binding) where
  -- a type that `sizeof` or `calloc` takes; in a function every struct of the file is known
  abbrev pub sized : CType → Checked (Unit {0})
  sized a = type_checked (is_struct known.structs) (is_struct known.structs) is_sized a

  -- The arguments come before the name.
  abbrev pub call : Name → Checked (List Operand) → Checked (CType × TExpr)
  call name args = args >>= (λ xs. callee_named known scope name >>= (λ f. called f xs))

  -- a call as a statement
  abbrev pub call_alone : Name → Checked (List Operand) → Checked TExpr
  call_alone name args =
      if frees known scope name then args >>= freed else call name args >>= (λ c. Ok c.1)

  abbrev pub expr_case : Expr-F (Checked Operand) → Checked Operand
  expr_case (Expr-F.Number n) = Ok (Literal n)
  expr_case Expr-F.Null = Ok Null
  expr_case (Expr-F.Var name) = some_or (variable_named known scope name) Unknown >>= (λ v. Ok (of_variable v))
  expr_case (Expr-F.Unary op x) = x >>= unary op
  expr_case (Expr-F.Binary op x y) = x >>= (λ a. y >>= (λ b. binary op a b))
  expr_case (Expr-F.And x y) = x >>= (λ a. y >>= (λ b. of_scalars e.And a b))
  expr_case (Expr-F.Or x y) = x >>= (λ a. y >>= (λ b. of_scalars e.Or a b))
  expr_case (Expr-F.Index x i) = x >>= (λ a. i >>= (λ b. indexed known a b))
  expr_case (Expr-F.Dot x field) = x >>= (λ a. member known a field)
  expr_case (Expr-F.Arrow x field) = x >>= (λ a. member_behind known a field)
  expr_case (Expr-F.Deref x) = x >>= followed
  expr_case (Expr-F.Address x) = x >>= address
  expr_case (Expr-F.Call name xs) = call name (all xs) >>= (λ c. Ok (Value c.0 c.1))
  expr_case (Expr-F.SizeOf a) = sized a >> Ok (Value type.Int (e.Number (pos (WORD_BYTES * size known a))))
  expr_case (Expr-F.Calloc x a) =
      x >>= integer >>= (λ n. sized a >> Ok (Value (type.Ptr a) (e.Calloc n (size known a))))

  unfoldable pub operand : Expr → Checked Operand
  operand = fold-Expr (Checked Operand) expr_case

  abbrev pub operands : List Expr → Checked (List Operand)
  operands = each operand
