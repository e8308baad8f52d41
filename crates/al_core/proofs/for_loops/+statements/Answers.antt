use Rattle.std.proofs.Common.{refl, append_assoc}
use Rattle.std.proofs.lemmas.List.{append-nil}
use Rattle.al_core.proofs.LoopNodes.{if_is, for_is, none_is}
use Rattle.al_core.proofs.for_loops.+statements.Goals as goal

pub in_stmt-returns-in_ok-in_part-in-If : goal.in_stmt-returns-in_ok-in_part-in-If
in_stmt-returns-in_ok-in_part-in-If t c =
    rw (if_is c.args.s.now _ _ _ c.in-If.is, c.in_ok-in_part-in-If.ensures, c.in_ok-in_stmt-in-If.ensures, c.get.ensures) (simp append_assoc)

pub in_stmt-returns-in_ok-in_stmt-in-For : goal.in_stmt-returns-in_ok-in_stmt-in-For
in_stmt-returns-in_ok-in_stmt-in-For t c =
    rw (for_is c.args.s.now _ _ _ _ _ c.in-For.is, c.in_ok-in_stmt-in-For.ensures, c.in_ok-in_part-in-For-2.ensures)
    (rw (c.in_ok-in_part-in-For.ensures, c.in_ok-add-in-For.ensures, c.get-in-For.ensures, c.get-in-For-2.ensures)
    (simp append_assoc))

pub in_stmt-returns-in_default : goal.in_stmt-returns-in_default
in_stmt-returns-in_default t c =
    rw (none_is c.args.s.now (c.in_default.not-If, c.in_default.not-While, c.in_default.not-For, c.in_default.not-Block), append-nil) refl
