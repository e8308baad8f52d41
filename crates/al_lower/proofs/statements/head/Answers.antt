use Rattle.al_code_laws.specs.Tree.{test_code}
use Rattle.al_lower.proofs.KindsOf.{still_within}
use Rattle.al_lower.proofs.statements.head.Goals as goal

pub lead-requires : goal.lead-requires
lead-requires c = still_within (test_code c.args.e.now c.args.line c.args.end) c.args.code.now c.test.new.code c.args.end c.requires c.in_ok-test.ensures
