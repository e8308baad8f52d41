-- What an expression is, from what its parts are.
use Rattle.std.proofs.Common.{◌≡◌, List, Ok, sym, ap, ◌∙◌}
use Rattle.al_source.specs.declared.source_tree.CType.{CType}
use Rattle.al_source.specs.declared.source_tree.CType.TheVariants as type
use Rattle.al_source.specs.declared.source_tree.Expr.{Expr}
use Rattle.al_source.specs.declared.source_tree.Expr.TheVariants as s
use Rattle.al_core.specs.declared.typed_tree.TExpr.TheVariants as e
use Rattle.al_rules.specs.declared.faults.TypeKind.TheVariants.{Unknown}
use Rattle.al_rules.specs.declared.operands.Operand.{Operand}
use Rattle.al_rules.specs.declared.operands.Operand.TheVariants.{Value}
use Rattle.al_rules.specs.Names.{Name}
use Rattle.al_rules.specs.Scopes.{Binding, Known, size, variable_named, callee_named}
use Rattle.al_rules.specs.Operands.{integer, of_variable, called}
use Rattle.al_rules.specs.Expressions.{sized, call, operand, operands}
use Rattle.al_source.specs.Steps.{and_then}
use Rattle.al_rules.specs.Checks.{Checked, some_or}
use Rattle.al_rules.proofs.ExpressionNodes.{operand-Var, operand-Call, operand-Calloc}

module _ (known : Known) (scope : List Binding) (x : Expr) where
  pub of_name : (name read : Name) → x ≡ s.Var name → read ≡ name
      → operand known scope x ≡ and_then (some_or (variable_named known scope read) Unknown) (λ v. Ok (of_variable v))
  of_name name read is same =
      ap (operand known scope) is ∙ operand-Var known scope name
      ∙ ap (λ (n : Name). and_then (some_or (variable_named known scope n) Unknown) (λ v. Ok (of_variable v))) (sym same)

  pub of_call : (name read : Name) (xs items : List Expr) (args : List Operand) → x ≡ s.Call name xs → read ≡ name → items ≡ xs
      → operands known scope items ≡ Ok args
      → operand known scope x ≡ and_then (and_then (callee_named known scope read) (λ f. called f args)) (λ c. Ok (Value c.0 c.1))
  of_call name read xs items args is same listed got =
      ap (operand known scope) is ∙ operand-Call known scope name xs
      ∙ ap (λ (r : Checked (List Operand)). and_then (call known scope name r) (λ c. Ok (Value c.0 c.1))) (ap (operands known scope) (sym listed) ∙ got)
      ∙ ap (λ (n : Name). and_then (and_then (callee_named known scope n) (λ f. called f args)) (λ c. Ok (Value c.0 c.1))) (sym same)

  pub of_calloc : (count read : Expr) (a : CType) (n : Operand) → x ≡ s.Calloc count a → read ≡ count → operand known scope read ≡ Ok n
      → operand known scope x ≡ and_then (integer n) (λ n. and_then (sized known scope a) (λ _. Ok (Value (type.Ptr a) (e.Calloc n (size known a)))))
  of_calloc count read a n is same got =
      ap (operand known scope) is ∙ operand-Calloc known scope count a
      ∙ ap (λ (r : Checked Operand). and_then (and_then r integer) (λ n.
      and_then (sized known scope a) (λ _. Ok (Value (type.Ptr a) (e.Calloc n (size known a))))))
      (ap (operand known scope) (sym same) ∙ got)
