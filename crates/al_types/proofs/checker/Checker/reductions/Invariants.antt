use Rattle.std.proofs.Common.{◌≡◌, length}
use Rattle.al_rules.specs.Statements.{reductions}
use Rattle.al_type_operands.proofs.Gathered.{behind_with}
use Rattle.al_types.proofs.checker.Checker.reductions.Given as goal

abbrev pub invariant-loop-rs : goal.invariant-loop-rs
invariant-loop-rs l =
    let known = l.self.known.now in
    reductions known l.self.func l.self.gives.now l.line l.fn.rs l.p ≡ behind_with l.done (reductions known l.self.func l.self.gives.now l.line l.rs l.p)

abbrev pub decreases-loop-rs : goal.decreases-loop-rs
decreases-loop-rs l = length l.rs
