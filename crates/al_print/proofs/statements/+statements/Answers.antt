use Rattle.std.proofs.lemmas.Grind.{fold-append}
use Rattle.al_print.proofs.Cases.{kind-If, kind-For}
use Rattle.al_print.proofs.HeadWritten.{for_written}
use Rattle.al_print.proofs.statements.+statements.Goals as goal

pub statement_kind-returns-in_ok-statement-in-If : goal.statement_kind-returns-in_ok-statement-in-If
statement_kind-returns-in_ok-statement-in-If t c =
    rw (c.in-If.is, kind-If, fold-append, fold-append, ← c.in_ok-condition-in-If.ensures, ← c.get.ensures, ← c.in_ok-statement-in-If.ensures)
    c.otherwise.ensures

pub statement_kind-returns-in_ok-third_part-in-For : goal.statement_kind-returns-in_ok-third_part-in-For
statement_kind-returns-in_ok-third_part-in-For t c =
    rw (
      c.in-For.is,
      kind-For,
      for_written,
      ← c.in_ok-note-in-For.ensures,
      ← c.in_ok-first_part-in-For.ensures,
      ← c.in_ok-test_part-in-For.ensures,
      ← c.in_ok-third_part-in-For.ensures,
      ← c.get-in-For.ensures,
    ) c.statement-in-For.ensures
