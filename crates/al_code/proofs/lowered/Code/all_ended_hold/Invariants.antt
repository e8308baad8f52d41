use Rattle.std.proofs.Common.{◌≡◌, take}
use Rattle.std.specs.List.{list_all}
use Rattle.al_code.specs.Checks.{holds_at}
use Rattle.al_code.specs.Valid.{ended_places}
use Rattle.al_code.proofs.lowered.Code.all_ended_hold.Given as goal

abbrev pub invariant-loop-b : goal.invariant-loop-b
invariant-loop-b l = l.hold ≡ list_all (holds_at l.self l.want) (ended_places l.place (take l.b-index l.b-items))
