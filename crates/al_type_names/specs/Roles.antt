-- What types are for, as the code has it.
use Rattle.std.specs.Prelude.{Bool}
use Rattle.al_rules.specs.Types.{Form, is_held, is_scalar, is_result, is_sized}
use Rattle.al_type_names.specs.declared.types.Role.{Role}
use Rattle.al_type_names.specs.declared.types.Role.TheVariants as role

abbrev pub allowed_for : Role → Form → Bool
allowed_for role.Held = is_held
allowed_for role.Local = is_scalar
allowed_for role.Given = is_result
allowed_for role.Measured = is_sized
