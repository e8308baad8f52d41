-- What is planned for a well-formed tree: each number is in range, a call has as many arguments as its function
-- parameters, a text as many as it prints, and each annotated loop its entry.
use Rattle.std.specs.Prelude.{◌≡◌, ℕ, ◌<◌, ◌++◌, List, [], ◌∷◌, length, Some, slice_get}
use Rattle.al_core.specs.declared.choices.Bound.{Bound}
use Rattle.al_core.specs.declared.choices.LoopInfo.{LoopInfo}
use Rattle.al_core.specs.declared.typed_tree.TFunc.{TFunc}
use Rattle.al_core.specs.declared.typed_tree.Typed.{Typed}
use Rattle.al_code.specs.declared.instructions.Instr.{Instr}
use Rattle.al_code.specs.declared.instructions.Instr.TheVariants as i
use Rattle.al_code.specs.Machine.{holes}
use Rattle.al_code.specs.Valid.{LocalInRange}
use Rattle.al_code_laws.specs.declared.plan.Op.{Op}
use Rattle.al_code_laws.specs.declared.plan.Op.TheVariants.{As, JumpTo, JumpIfTo, CallOf, PrintOf, LoopTo, EndOf, Never}
use Rattle.al_code_laws.specs.Planned.{Plan}

abbrev pub GlobalInRange : Typed → Instr → Type 0
GlobalInRange typed (i.Global k) = k < length typed.globals
GlobalInRange typed _ = Unit {0}

pub record IsCall (typed : Typed) (f count : ℕ) : Type 0 where
  pub func : TFunc
  pub has : slice_get typed.funcs f ≡ Some func
  pub takes : func.params ≡ count

pub record IsLoop (infos : List LoopInfo) (k counter : ℕ) (bound : Bound) : Type 0 where
  pub info : LoopInfo
  pub has : slice_get infos k ≡ Some info
  pub counts : info.counter ≡ counter
  pub bounds : info.bound ≡ bound

-- in a function with so many locals
abbrev pub IsFine : Typed → List LoopInfo → ℕ → Op → Type 0
IsFine typed infos locals (As x) = LocalInRange locals x × GlobalInRange typed x
IsFine typed infos locals (JumpTo to) = Unit {0}
IsFine typed infos locals (JumpIfTo b to) = Unit {0}
IsFine typed infos locals (CallOf f count) = IsCall typed f count
IsFine typed infos locals (PrintOf format count) = holes format ≡ count
IsFine typed infos locals (LoopTo k counter bound after) = IsLoop infos k counter bound
IsFine typed infos locals (EndOf k) = Unit {0}
IsFine typed infos locals Never = ⊥

-- the numbers of the loops that are planned, in order
abbrev pub number_in : Op → List ℕ
number_in (LoopTo k counter bound after) = k ∷ []
number_in _ = []

abbrev pub numbers_of : Plan → List ℕ
numbers_of [] = []
numbers_of (p ∷ ps) = number_in p.op ++ numbers_of ps
