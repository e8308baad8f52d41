-- Where integers are held.
use Rattle.std.specs.Prelude.{◌≡◌, ℕ, ◌<◌, ◌≤◌, ◌^◌, Bool, true, false, List, length, Some, slice_get, ℤ, FitsSigned}
use Rattle.std.specs.Int.{w64}
use Rattle.al_core.specs.declared.typed_tree.TLocal.{TLocal}
use Rattle.al_core.specs.declared.typed_tree.Typed.{Typed}
use Rattle.al_core.specs.declared.values.Obj.{Obj}
use Rattle.al_core.specs.declared.values.Obj.TheVariants.{Global, Serial, Iter}
use Rattle.al_core.specs.declared.values.Val.{Val}
use Rattle.al_core.specs.declared.values.Val.TheVariants.{Int, Ptr}
use Rattle.al_core.specs.declared.values.Addr.{Addr}
use Rattle.al_core.specs.declared.values.Addr.TheVariants.{Word}
use Rattle.al_core.specs.Memory.{Memory, value_at}
use Rattle.al_rules.specs.WellFormed.{is_int_local}
use Rattle.al_kinds_laws.specs.Whole.{is_shut}

-- an object that is no shut global
abbrev pub IsOpen : (ℕ → Bool) → Obj → Type 0
IsOpen shut (Global k) = shut k ≡ false
IsOpen shut (Serial k) = Unit {0}
IsOpen shut (Iter e j k) = Unit {0}

-- a number has 64 bits, and a pointer leads to no shut global
abbrev pub IsOpenVal : Typed → Val → Type 0
IsOpenVal typed (Int n) = FitsSigned w64 n
IsOpenVal typed (Ptr o w) = IsOpen (is_shut typed) o × (w < 2 ^ 32)

-- A memory in which the locals, of which there are these, lie: each that is an integer holds a number, and so does each
-- integer global whose address is taken nowhere.
pub record HoldsNumbers (typed : Typed) (locals : List TLocal) (m : Memory) : Type 0 where
  pub values : (a : Addr) (v : Val) → value_at m a ≡ Some v → IsOpenVal typed v
  pub enough : length locals ≤ length m.locals
  pub integers : (k : ℕ) → is_int_local locals k ≡ true → (n : ℤ) × (slice_get m.locals k ≡ Some (Int n))
  pub globals : (k : ℕ) → is_shut typed k ≡ true → (n : ℤ) × (value_at m (Word (Global k) 0) ≡ Some (Int n))
