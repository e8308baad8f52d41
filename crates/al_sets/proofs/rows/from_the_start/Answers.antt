use Rattle.std.proofs.Common.{◌≡◌, ◌++◌, [], length, ap, ◌∙◌, arith}
use Rattle.al_sets.specs.Rows.{row_from}
use Rattle.al_sets.proofs.RowStart.{zeros_then}
use Rattle.al_sets.proofs.rows.from_the_start.Goals as goal

pub returns : goal.returns
returns c =
    let all : length c.zeros.all.items ≡ c.args.first = omega (arith, c.zeros.invariant.0, c.zeros-test.false) in
    c.in_ok-extend_from_slice.ensures.items
    ∙ ap (λ l. l ++ c.args.values.now) (c.zeros.invariant.1 ∙ ap (λ n. row_from n []) all)
    ∙ zeros_then c.args.first c.args.values.now
