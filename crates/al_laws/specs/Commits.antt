-- What committing a chunk changes, and what it leaves.
use Rattle.std.specs.Prelude.{◌≡◌, ◌≢◌, ℕ, true, false, is_some, List, Contains, None}
use Rattle.std.specs.FinMap as map
use Rattle.std.specs.FinSet as set
use Rattle.std.specs.FinSet.{FinSet}
use Rattle.al_core.specs.declared.choices.Red.{Red}
use Rattle.al_core.specs.declared.values.Obj.{Obj}
use Rattle.al_core.specs.declared.values.Addr.{Addr}
use Rattle.al_core.specs.declared.values.Addr.TheVariants.{Word, Head, Local}
use Rattle.al_core.specs.Orders.{addr_cmp}
use Rattle.al_core.specs.Memory.{Memory, AgreeAt}
use Rattle.al_core.specs.Access.{red_index}
use Rattle.al_core.specs.Iteration.{Execution}
use Rattle.al_core.specs.Chunk.{Outcome, outcome}
use Rattle.al_core.specs.Applied.{applied}
use Rattle.al_core.specs.Readiness.{IsFresh}

-- ---- reductions are not recorded

-- an address that a variable may have
abbrev pub IsVariable : Addr → Type 0
IsVariable (Word o w) = Unit {0}
IsVariable (Head o) = ⊥
IsVariable (Local k) = Unit {0}

-- a reduction variable is among neither the reads nor the touched of a chunk
abbrev pub ReductionsAreUnrecorded : Type 0
ReductionsAreUnrecorded =
    (x : Execution) (reds : List Red) (m : Memory) (c : ℕ) (a : Addr) → IsVariable a
    → is_some (red_index reds a) ≡ true
    → (set.contains (outcome x reds m c).reads a ≡ false) × (set.contains (outcome x reds m c).touched a ≡ false)

-- ---- what stays

-- an object that was neither made nor freed
pub record IsOther (out : Outcome) (o : Obj) : Type 0 where
  pub unmade : map.get out.made o ≡ None
  pub unfreed : ¬ (Contains out.freed o)

-- a word or a local that is neither written nor a reduction variable
pub record IsUnwritten (reds : List Red) (out : Outcome) (a : Addr) : Type 0 where
  pub unwritten : map.get out.writes a ≡ None
  pub unreduced : red_index reds a ≡ None

-- an address at which an outcome says nothing
abbrev pub IsOff : List Red → Outcome → Addr → Type 0
IsOff reds out (Word o w) = IsOther out o × IsUnwritten reds out (Word o w)
IsOff reds out (Head o) = IsOther out o
IsOff reds out (Local k) = IsUnwritten reds out (Local k)

-- There the memory with any outcome laid over it agrees with the memory before.
abbrev pub AppliedAgrees : Type 0
AppliedAgrees =
    (reds : List Red) (m : Memory) (out : Outcome) (a : Addr) → IsOff reds out a → AgreeAt m (applied reds m out) a

-- an address that is not touched, and of a word its object's head too
abbrev pub IsUntouched : FinSet addr_cmp → Addr → Type 0
IsUntouched touched (Word o w) =
    (set.contains touched (Word o w) ≡ false) × (set.contains touched (Head o) ≡ false)
IsUntouched touched (Head o) = set.contains touched (Head o) ≡ false
IsUntouched touched (Local k) = set.contains touched (Local k) ≡ false

-- Of a chunk's outcome that is so where nothing was touched and no reduction variable lies.
abbrev pub UntouchedStays : Type 0
UntouchedStays =
    (x : Execution) (reds : List Red) (m : Memory) (c : ℕ) (a : Addr)
    → IsUntouched (outcome x reds m c).touched a → red_index reds a ≡ None
    → AgreeAt m (applied reds m (outcome x reds m c)) a

-- ---- names

-- where a chunk is committed, another one still has its names for itself
abbrev pub OthersStayFresh : Type 0
OthersStayFresh =
    (x : Execution) (reds : List Red) (m : Memory) (c d : ℕ) → c ≢ d → IsFresh x m d
    → IsFresh x (applied reds m (outcome x reds m c)) d
