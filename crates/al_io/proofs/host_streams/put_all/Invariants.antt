-- The bytes before `rest` were written, and each turn takes some of `rest`.
use Rattle.std.proofs.Common.{◌≡◌, ℕ, take, drop, length}
use Rattle.std.specs.Io.KnownBytes.{Appends}
use Rattle.al_io.proofs.host_streams.put_all.Given as goal

abbrev pub invariant-loop-rest : goal.invariant-loop-rest
invariant-loop-rest g l =
    (n : ℕ) × (l.rest ≡ drop n l.bytes) × Appends (g.W.Write.contents l.initial.to) (g.W.Write.contents l.to) (take n l.bytes)

abbrev pub decreases-loop-rest : goal.decreases-loop-rest
decreases-loop-rest g l = length l.rest
