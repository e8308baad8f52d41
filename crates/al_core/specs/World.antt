-- What runs a program: the operations of a world whose states are of the type S.
use Rattle.std.specs.Prelude.{ℕ, List, Result, ℤ}
pub use Rattle.al_core.specs.declared.values.Obj.{Obj}
pub use Rattle.al_core.specs.declared.values.Val.{Val}
pub use Rattle.al_core.specs.declared.values.Addr.{Addr}
pub use Rattle.al_core.specs.declared.values.Kind.{Kind}
pub use Rattle.al_core.specs.declared.values.Trap.{Trap}

-- where a pointer leads: an object, and an offset in words
abbrev pub Pointer : Type 0
Pointer = Obj × ℕ

pub record World (S : Type 0) : Type 0 where
  -- reads a word of an object, as a value of the kind, or a shared local, where the kind is not looked at
  pub load : Addr → Kind → S → Result Val Trap × S
  -- writes a word of an object or a shared local
  pub store : Addr → Val → S → Result (Unit {0}) Trap × S
  -- makes an object of so many words
  pub make : ℕ → S → Result Obj Trap × S
  -- takes an object out, by a place in it
  pub free : Obj → ℕ → S → Result (Unit {0}) Trap × S
  -- prints bytes
  pub print : List ℕ → S → S
  -- Runs an annotated loop, from its number, its start, its bound and the frame's locals. It answers the locals after
  -- it, or a trap with a line of its own.
  pub visit : ℕ → ℤ → ℤ → List Val → S → Result (List Val) (Trap × ℕ) × S
