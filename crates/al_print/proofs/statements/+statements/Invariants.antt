use Rattle.std.proofs.Common.{◌≡◌, drop}
use Rattle.al_print.specs.Tokens.{statements}
use Rattle.al_print.specs.Writing.{all_written}
use Rattle.al_print.proofs.statements.+statements.Given as goal

-- what is written and what is left give the whole
abbrev pub invariant-statements-loop-s : goal.invariant-statements-loop-s
invariant-statements-loop-s l = all_written l.w (statements (drop l.s-index l.ss)) ≡ all_written l.initial.w (statements l.ss)
