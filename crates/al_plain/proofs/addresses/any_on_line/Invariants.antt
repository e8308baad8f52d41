use Rattle.std.proofs.Common.{◌≡◌, drop}
use Rattle.al_plain.specs.Meeting.{any_on_line}
use Rattle.al_plain.proofs.addresses.any_on_line.Given as goal

abbrev pub invariant-loop-b : goal.invariant-loop-b
invariant-loop-b l = any_on_line l.line (drop l.b-index l.all) l.a ≡ any_on_line l.line l.all l.a
