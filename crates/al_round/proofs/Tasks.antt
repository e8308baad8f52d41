-- Two tasks of one store and one plan.
use Rattle.std.proofs.Common.{◌≡◌, ap₂}
use Rattle.al_round.specs.declared.piece.Task.{Task}

pub same_task : {S : Type 0} (a b : Task S) → a.store.value ≡ b.store.value → a.plan ≡ b.plan → a ≡ b
same_task {S} a b e f = ap₂ (λ v p. record a { store = record a.store { value = v }; plan = p }) e f
