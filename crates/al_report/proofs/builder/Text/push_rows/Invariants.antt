use Rattle.std.proofs.Common.{◌≡◌, ◌++◌, drop}
use Rattle.al_report.specs.Tables as spec
use Rattle.al_report.proofs.builder.Text.push_rows.Given as goal

abbrev pub invariant-loop-k : goal.invariant-loop-k
invariant-loop-k l =
    l.self ++ spec.rows_text l.typed l.func l.k (drop l.k l.choices) (drop l.k l.rows)
    ≡ l.initial.self ++ spec.rows_text l.typed l.func 0 l.choices l.rows
