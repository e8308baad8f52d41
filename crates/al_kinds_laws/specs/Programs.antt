-- What is asked of a program, and what its loops keep.
use Rattle.std.specs.Prelude.{◌≡◌, ℕ, List, Some, slice_get, ℤ, FitsSigned}
use Rattle.std.specs.Int.{w64}
use Rattle.al_core.specs.declared.typed_tree.TGlobal.{TGlobal}
use Rattle.al_core.specs.declared.typed_tree.Typed.{Typed}
use Rattle.al_rules.specs.WellFormed.{IsWellFormed}
use Rattle.al_graded_laws.specs.InRange.{IsInRange}
use Rattle.al_kinds_laws.specs.Whole.{ScalarsAreWhole}

-- its tree is well formed, its numbers, those of the input and the starts of its globals have their sizes, and no place
-- is formed within a global of one word
pub record IsProgram (typed : Typed) (input : List ℤ) : Type 0 where
  pub formed : IsWellFormed typed
  pub numbers : IsInRange typed input
  pub starts : (k : ℕ) (g : TGlobal) → slice_get typed.globals k ≡ Some g → FitsSigned w64 g.start
  pub whole : ScalarsAreWhole typed
