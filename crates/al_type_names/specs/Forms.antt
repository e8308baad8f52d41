-- Where types may stand, as the code has it.
use Rattle.al_rules.specs.Types.{Form, Nothing, Scalar, Structure, Sequence, Malformed}
use Rattle.al_type_names.specs.declared.types.Form.{Form as Kept}
use Rattle.al_type_names.specs.declared.types.Form.TheVariants as kept

abbrev pub kept_form : Kept → Form
kept_form kept.Nothing = Nothing
kept_form kept.Scalar = Scalar
kept_form kept.Structure = Structure
kept_form kept.Sequence = Sequence
kept_form kept.Malformed = Malformed
