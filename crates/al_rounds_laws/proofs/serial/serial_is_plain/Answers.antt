use Rattle.al_rounds_laws.proofs.Plain.{plain_is_serial}
use Rattle.al_rounds_laws.proofs.serial.serial_is_plain.Goals as goal

pub returns : goal.returns
returns c = plain_is_serial
