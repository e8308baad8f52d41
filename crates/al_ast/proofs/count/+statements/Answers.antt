use Rattle.al_ast.proofs.Cases.{kind-If, kind-For, three, four}
use Rattle.al_ast.proofs.count.+statements.Goals as goal

pub of_kind-returns-in-If : goal.of_kind-returns-in-If
of_kind-returns-in-If t c =
    rw (c.sum-in-If-2.ensures, c.sum-in-If.ensures, c.of_expr-in-If.ensures, c.of_stmt.ensures, c.of_part.ensures, c.in-If.is, kind-If, ← c.get.ensures)
    (three _ _ _)

pub of_kind-returns-in-For : goal.of_kind-returns-in-For
of_kind-returns-in-For t c =
    rw (
      c.sum-in-For-2.ensures,
      c.sum-head.ensures,
      c.sum-in-For.ensures,
      c.of_part-in-For.ensures,
      c.of_value-in-For.ensures,
      c.of_part-in-For-2.ensures,
      c.of_stmt-in-For.ensures,
      c.in-For.is,
      kind-For,
      ← c.get-in-For.ensures,
    ) (four _ _ _ _)
