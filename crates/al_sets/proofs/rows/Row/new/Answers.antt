use Rattle.std.proofs.Common.{◌/◌, ◌*◌, ◌∙◌}
use Rattle.al_sets.specs.Rows.{value_in_row, row_from}
use Rattle.al_sets.proofs.RowStart.{zeros_only}
use Rattle.al_sets.proofs.rows.Row.new.Goals as goal

pub returns : goal.returns
returns c n =
    (λ t. value_in_row (row_from (c.args.offset / 64 * 64) (c.new.ensures.items t)) n)
    ∙ zeros_only (c.args.offset / 64 * 64) n
