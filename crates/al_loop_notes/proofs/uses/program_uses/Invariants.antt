use Rattle.std.proofs.Common.{◌≡◌, map, take}
use Rattle.al_loop_notes.specs.Uses.{func_uses}
use Rattle.al_loop_notes.proofs.uses.program_uses.Given as goal

abbrev pub invariant-loop-f : goal.invariant-loop-f
invariant-loop-f l = l.all ≡ map func_uses (take l.f-index l.typed.funcs)
