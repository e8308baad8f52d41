use Rattle.std.proofs.Common.{◌≡◌, drop}
use Rattle.al_plain.proofs.Kept.{with_all}
use Rattle.al_plain.proofs.addresses.Addresses.join.Given as goal

abbrev pub invariant-loop-a : goal.invariant-loop-a
invariant-loop-a l = with_all l.self (drop l.a-index l.a-items) ≡ with_all l.fn.self l.a-items
