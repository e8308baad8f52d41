use Rattle.std.proofs.Common.{◌≡◌, drop}
use Rattle.al_plain.specs.Meeting.{any_meets}
use Rattle.al_plain.proofs.addresses.any_meets.Given as goal

abbrev pub invariant-loop-a : goal.invariant-loop-a
invariant-loop-a l = any_meets l.line (drop l.a-index l.here) l.there ≡ any_meets l.line l.here l.there
