use Rattle.std.proofs.Common.{◌≡◌, drop}
use Rattle.al_rules.specs.Statements.{statements}
use Rattle.al_type_operands.proofs.Gathered.{behind_with}
use Rattle.al_types.proofs.checker.Checker.+statements.Given as goal

abbrev pub invariant-statements-loop-s : goal.invariant-statements-loop-s
invariant-statements-loop-s l = record {
  walked : statements l.self.known.now l.self.func l.self.gives.now l.looped l.ss l.fn.p
      ≡ behind_with l.done (statements l.self.known.now l.self.func l.self.gives.now l.looped (drop l.s-index l.ss) l.p);
  around : l.p.scope.outer ≡ l.fn.p.scope.outer;
}
