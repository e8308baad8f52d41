-- The locals of an annotated loop.
use Rattle.std.specs.Prelude.{◌≡◌, ℕ, length, Some, slice_get}
use Rattle.al_core.specs.declared.typed_tree.TFunc.{TFunc}
use Rattle.al_core.specs.declared.typed_tree.Typed.{Typed}
use Rattle.al_core.specs.Loops.{Loop, loop_at}
use Rattle.al_rules.specs.WellFormed.{IsWellFormed}

-- it has as many as the function that it names
abbrev pub LoopsHaveTheirLocals : Type 0
LoopsHaveTheirLocals =
    (typed : Typed) → IsWellFormed typed → (n : ℕ) (l : Loop) → loop_at typed n ≡ Some l
    → (f : TFunc) → slice_get typed.funcs l.info.func ≡ Some f → l.locals ≡ length f.locals
