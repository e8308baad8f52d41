use Rattle.std.proofs.Common.{◌≡◌, ◌++◌, drop}
use Rattle.al_core.specs.Values.{text}
use Rattle.al_interpreter.proofs.printing.text.Given as goal

abbrev pub invariant-loop-piece : goal.invariant-loop-piece
invariant-loop-piece l = l.bytes.items ++ text (drop l.piece-index l.format) l.rest ≡ text l.format l.ns
