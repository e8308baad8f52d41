use Rattle.std.proofs.Common.{◌-◌, cond, nat_eq, ap, ◌∙◌, arith}
use Rattle.al_sets.specs.Rows.{value_in_row}
use Rattle.al_sets.proofs.RowStart.{put_from, same_from}
use Rattle.al_sets.proofs.Truth.{on_any_err}
use Rattle.al_sets.proofs.rows.Row.put.Goals as goal

pub returns-in_ok-put_at-clause-ok : goal.returns-in_ok-put_at-clause-ok
returns-in_ok-put_at-clause-ok c n =
    let first = c.self.inside.first in
    put_from first (c.args.offset - first) c.args.offset c.self.inside.values.items c.put_at.new.values.items c.args.v
    (omega (arith, c.if-offset-self.false)) c.in_ok-put_at.ensures.ok n
    ∙ ap (λ r. cond (nat_eq n c.args.offset) c.args.v (value_in_row r n)) c.self.view_is

pub returns-in_err-put_at-clause-err : goal.returns-in_err-put_at-clause-err
returns-in_err-put_at-clause-err c =
    on_any_err c.from_residual-in_err-put_at.result _ (λ n.
    same_from c.self.inside.first c.self.inside.values.items c.put_at.new.values.items c.in_err-put_at.ensures.err n
    ∙ ap (λ r. value_in_row r n) c.self.view_is)
