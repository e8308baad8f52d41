use Rattle.std.proofs.Common.{◌≡◌, Ok, replicate}
use Rattle.al_infer.specs.declared.tables.Found.TheVariants.{Accepted}
use Rattle.al_infer.proofs.search.untried.Given as goal

abbrev pub invariant-loop-k : goal.invariant-loop-k
invariant-loop-k l = l.rows.items ≡ replicate l._k (Ok (Accepted 0))
