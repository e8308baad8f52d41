use Rattle.al_reductions_laws.proofs.Rounds.{plain_with_reds}
use Rattle.al_reductions_laws.proofs.serial.rounds_in_order_are_plain.Goals as goal

pub returns : goal.returns
returns c = plain_with_reds
