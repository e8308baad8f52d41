use Rattle.std.proofs.Common.{◌≡◌, ◌≤◌, length, drop}
use Rattle.std.specs.Prelude.{reverse}
use Rattle.al_lower.specs.Emits.{program_code}
use Rattle.al_lower.specs.Assembly.{entries_from_end}
use Rattle.al_lower.proofs.program.functions.Given as goal

abbrev pub invariant-loop-left : goal.invariant-loop-left
invariant-loop-left l = record {
  within : l.left ≤ length l.funcs;
  code : l.code ≡ program_code (drop l.left l.funcs) 0;
  entries : reverse l.entries.items ≡ entries_from_end (drop l.left l.funcs) 0;
}

abbrev pub decreases-loop-left : goal.decreases-loop-left
decreases-loop-left l = l.left
