use Rattle.std.proofs.Common.{sym, ◌∙◌}
use Rattle.al_code.proofs.Deciding.{valid_true, true_valid}
use Rattle.al_code.proofs.checks.valid.Goals as goal

pub returns : goal.returns
returns c = (λ t. valid_true c.args.code.now (sym c.check.ensures ∙ t), λ v. c.check.ensures ∙ true_valid c.args.code.now v)
