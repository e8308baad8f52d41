use Rattle.std.proofs.Common.{◌≡◌, take}
use Rattle.std.specs.List.{flat_map}
use Rattle.al_loop_notes.specs.Uses.{variable_of}
use Rattle.al_loops.proofs.reductions.variables.Given as goal

abbrev pub invariant-loop-u : goal.invariant-loop-u
invariant-loop-u l = l.names ≡ flat_map variable_of (take l.u-index l.uses)
