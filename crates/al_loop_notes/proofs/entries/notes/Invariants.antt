use Rattle.std.proofs.Common.{◌≡◌, [], drop, map}
use Rattle.al_core.specs.LoopsInPlace.{placed_of}
use Rattle.al_core.specs.Loops.{program_loops}
use Rattle.al_loop_notes.specs.Entries.{noted_from}
use Rattle.al_loop_notes.proofs.entries.notes.Given as goal

abbrev pub invariant-loop-place : goal.invariant-loop-place
invariant-loop-place l =
    noted_from l.typed l.infos l.place (drop l.place (map placed_of l.l-items)) ≡ noted_from l.typed [] 0 (program_loops l.typed)
