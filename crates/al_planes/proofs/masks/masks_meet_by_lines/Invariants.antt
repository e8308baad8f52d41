use Rattle.std.proofs.Common.{ℕ, ◌<◌, get_or}
use Rattle.al_planes.specs.Lines.{CommonBits, size}
use Rattle.al_planes.proofs.masks.masks_meet_by_lines.Given as goal

abbrev pub invariant-loop-i : goal.invariant-loop-i
invariant-loop-i l = (k : ℕ) → k < l.i → CommonBits (size l.line) (get_or l.a k 0) (get_or l.b k 0) → ⊥
