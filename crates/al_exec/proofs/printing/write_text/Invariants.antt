use Rattle.std.proofs.Common.{◌≡◌, ◌++◌, drop}
use Rattle.al_core.specs.Values.{text}
use Rattle.al_exec.specs.Printing.{ints}
use Rattle.al_exec.proofs.printing.write_text.Given as goal

abbrev pub invariant-loop-piece : goal.invariant-loop-piece
invariant-loop-piece l =
    l.bytes.items ++ text (drop l.piece-index l.format) (ints l.rest) ≡ l.initial.bytes.items ++ text l.format (ints l.vs)
