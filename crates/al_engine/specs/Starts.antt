-- The call of `main`.
use Rattle.std.specs.Prelude.{ℕ, List, replicate, pos}
use Rattle.al_core.specs.declared.values.Val.{Val}
use Rattle.al_core.specs.declared.values.Val.TheVariants.{Int}

-- where nothing is passed, a parameter is 0
abbrev pub no_arguments : ℕ → List Val
no_arguments count = replicate count (Int (pos 0))
