use Rattle.al_rounds_laws.proofs.NoReds.{plain_without_reds}
use Rattle.al_rounds_laws.proofs.serial.rounds_in_order_are_plain.Goals as goal

pub returns : goal.returns
returns c = plain_without_reds
