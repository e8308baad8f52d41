use Rattle.al_rules_laws.proofs.TypingLaw.{faultless_is_well_typed, well_typed_is_faultless}
use Rattle.al_rules_laws.proofs.typing.typing_agrees.Goals as goal

pub returns-clause-sound : goal.returns-clause-sound
returns-clause-sound c = faultless_is_well_typed

pub returns-clause-complete : goal.returns-clause-complete
returns-clause-complete c = well_typed_is_faultless
