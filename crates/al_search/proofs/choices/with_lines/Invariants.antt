use Rattle.std.proofs.Common.{◌≡◌, map, take}
use Rattle.al_core.specs.Lines.{with_line}
use Rattle.al_search.proofs.choices.with_lines.Given as goal

abbrev pub invariant-loop-choice : goal.invariant-loop-choice
invariant-loop-choice l = l.lined ≡ map (with_line l.line) (take l.choice-index l.list)
