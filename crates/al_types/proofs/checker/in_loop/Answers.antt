use Rattle.al_rules.specs.declared.faults.TypeKind.TheVariants.{Outside}
use Rattle.al_rules.specs.Checks.{ensure}
use Rattle.al_types.proofs.checker.in_loop.Goals as goal

pub returns : goal.returns
returns c = c.at_line.ensures (ensure c.args.looped Outside) c.ensure.ensures
