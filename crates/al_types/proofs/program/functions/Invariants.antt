use Rattle.std.proofs.Common.{◌≡◌, [], map, length}
use Rattle.al_rules.specs.Programs.{funcs_typed}
use Rattle.al_type_operands.proofs.Gathered.{behind_with}
use Rattle.al_types.proofs.program.functions.Given as goal

abbrev pub invariant-loop-left : goal.invariant-loop-left
invariant-loop-left l =
    funcs_typed l.known 0 l.known.funcs [] ≡ behind_with l.done (funcs_typed l.known l.n (map (λ f. f.now) l.left) l.loops.items)

abbrev pub decreases-loop-left : goal.decreases-loop-left
decreases-loop-left l = length l.left
