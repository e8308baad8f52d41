-- Whether an address is a reduction variable.
use Rattle.std.proofs.Common.{List, Bool}
use Rattle.std.specs.Prelude.{is_some}
use Rattle.al_core.specs.declared.choices.Red.{Red}
use Rattle.al_core.specs.declared.values.Addr.{Addr}
use Rattle.al_core.specs.Access.{red_index}

abbrev pub is_red : List Red → Addr → Bool
is_red reds a = is_some (red_index reds a)
