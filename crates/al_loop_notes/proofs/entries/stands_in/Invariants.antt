use Rattle.std.proofs.Common.{◌≡◌, take, false}
use Rattle.std.specs.List.{list_any}
use Rattle.al_core.specs.Orders.{addr_eq}
use Rattle.al_loop_notes.proofs.entries.stands_in.Given as goal

-- none so far is it
abbrev pub invariant-loop-q : goal.invariant-loop-q
invariant-loop-q l = list_any (λ q. addr_eq l.a.at q.at) (take l.q-index l.reds) ≡ false
