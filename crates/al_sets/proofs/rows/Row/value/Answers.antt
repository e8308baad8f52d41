use Rattle.std.proofs.Common.{◌-◌, sym, ap, ◌∙◌, arith}
use Rattle.al_sets.specs.Rows.{value_in_row}
use Rattle.al_sets.proofs.RowStart.{below_first, from_first}
use Rattle.al_sets.proofs.rows.Row.value.Goals as goal

pub returns-then-offset-self : goal.returns-then-offset-self
returns-then-offset-self c =
    c.zero.ensures
    ∙ sym (below_first c.self.inside.first c.args.offset c.self.inside.values.items (omega (arith, c.if-offset-self.true)))
    ∙ ap (λ r. value_in_row r c.args.offset) c.self.view_is

pub returns : goal.returns
returns c =
    c.value_at.ensures
    ∙ ap (λ l. value_in_row l (c.args.offset - c.self.inside.first)) c.as_slice.ensures.value
    ∙ sym (from_first c.self.inside.first (c.args.offset - c.self.inside.first) c.args.offset c.self.inside.values.items
    (omega (arith, c.if-offset-self.false)))
    ∙ ap (λ r. value_in_row r c.args.offset) c.self.view_is
