-- Code that shows what is planned for a typed tree stands for the tree.
use Rattle.al_core.specs.declared.typed_tree.Typed.{Typed}
use Rattle.al_code.specs.declared.lowered.Code.{Code}
use Rattle.al_code.specs.Stands.{StandsFor}
use Rattle.al_code_laws.specs.Laid.{Laid}

abbrev pub CodeStands : Type 0
CodeStands = (code : Code) (typed : Typed) → Laid code typed → StandsFor code typed
