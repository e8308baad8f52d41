use Rattle.std.proofs.Common.{◌≡◌, take, false}
use Rattle.std.specs.List.{list_any}
use Rattle.al_core.specs.Orders.{addr_eq}
use Rattle.al_loops.proofs.reductions.is_among.Given as goal

-- none so far is it
abbrev pub invariant-loop-b : goal.invariant-loop-b
invariant-loop-b l = list_any (addr_eq l.a) (take l.b-index l.seen) ≡ false
