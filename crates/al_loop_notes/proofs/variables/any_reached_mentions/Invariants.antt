use Rattle.std.proofs.Common.{◌≡◌, drop}
use Rattle.al_loop_notes.specs.Reach.{mentioned_from}
use Rattle.al_loop_notes.proofs.variables.any_reached_mentions.Given as goal

-- none so far does
abbrev pub invariant-loop-n : goal.invariant-loop-n
invariant-loop-n l =
    mentioned_from l.program.typed.now l.body l.a l.n (drop l.n l.program.uses.now) ≡ mentioned_from l.program.typed.now l.body l.a 0 l.program.uses.now
