-- Memories on which a chunk may run.
use Rattle.std.specs.Prelude.{◌≡◌, ℕ, ◌^◌, ◌<◌, ◌≤◌, false, Ok, List, Some, All, slice_get, FitsSigned}
use Rattle.std.specs.Int.{w64}
use Rattle.al_core.specs.declared.choices.Red.{Red}
use Rattle.al_core.specs.declared.typed_tree.TGlobal.{TGlobal}
use Rattle.al_core.specs.declared.typed_tree.TFunc.{TFunc}
use Rattle.al_core.specs.declared.typed_tree.TLocal.{TLocal}
use Rattle.al_core.specs.declared.values.Obj.TheVariants.{Global, Serial, Iter}
use Rattle.al_core.specs.declared.values.Val.TheVariants.{Int, Ptr}
use Rattle.al_core.specs.declared.values.Addr.TheVariants.{Word}
use Rattle.al_core.specs.World.{Obj, Val, Addr, Kind}
use Rattle.al_core.specs.Values.{of_kind}
use Rattle.al_core.specs.Memory.{Memory, length_at, has_object, value_at}
use Rattle.al_core.specs.Iteration.{Execution}
use Rattle.al_core.specs.Chunk.{chunk_start, chunk_end}

-- ---- values

-- a value that a local of that kind may hold
abbrev pub IsOfKind : Kind → Val → Type 0
IsOfKind k v = of_kind k v ≡ Ok v

-- an object whose numbers have the sizes of their types
abbrev pub IsObj : Obj → Type 0
IsObj (Global k) = k < 2 ^ 32
IsObj (Serial k) = k < 2 ^ 32
IsObj (Iter e j k) = (e < 2 ^ 32) × (j < 2 ^ 64) × (k < 2 ^ 32)

-- an `Int` of 64 bits, or a `Ptr`
abbrev pub IsVal : Val → Type 0
IsVal (Int n) = FitsSigned w64 n
IsVal (Ptr o w) = IsObj o × (w < 2 ^ 32)

-- a pointer into an object of which a reduction variable is a word
abbrev pub LeadsTo : Val → Red → Type 0
LeadsTo (Int n) r = ⊥
LeadsTo (Ptr o w) r = (v : ℕ) × (r.at ≡ Word o v)

-- ---- names

-- the names that the iterations of execution e, from a first to below a last, may give to objects
abbrev pub IsNameFrom : ℕ → ℕ → ℕ → Obj → Type 0
IsNameFrom e first last (Global k) = ⊥
IsNameFrom e first last (Serial k) = ⊥
IsNameFrom e first last (Iter f j k) = (f ≡ e) × (first ≤ j) × (j < last)

-- no object has a name that the chunk may give
abbrev pub IsFresh : Execution → Memory → ℕ → Type 0
IsFresh x m c = (o : Obj) → IsNameFrom x.number (chunk_start x c) (chunk_end x c) o → has_object m o ≡ false

-- every value has the sizes of its type
abbrev pub HasValues : Memory → Type 0
HasValues m = (a : Addr) (v : Val) → value_at m a ≡ Some v → IsVal v

-- ---- readiness

-- what a chunk's run uses of a memory
pub record IsRunnable (x : Execution) (m : Memory) (c : ℕ) : Type 0 where
  pub fresh : IsFresh x m c
  pub values : HasValues m

-- a global has its length
abbrev pub HasGlobals : Execution → Memory → Type 0
HasGlobals x m =
    (k : ℕ) (g : TGlobal) → slice_get x.typed.globals k ≡ Some g → length_at m (Global k) ≡ Some g.words

-- a local of the function is there, with a value of its kind
abbrev pub HasLocals : TFunc → Memory → Type 0
HasLocals f m =
    (k : ℕ) (l : TLocal) → slice_get f.locals k ≡ Some l
    → (v : Val) × (slice_get m.locals k ≡ Some v) × IsOfKind l.kind v

-- a memory that is ready for a chunk of a loop that runs with these reductions
pub record IsReady (x : Execution) (reds : List Red) (m : Memory) (c : ℕ) : Type 0 where
  pub globals : HasGlobals x m
  -- the locals of the loop's function are there
  pub locals : (f : TFunc) → slice_get x.typed.funcs x.loop.info.func ≡ Some f → HasLocals f m
  -- each reduction variable holds a number
  pub reductions : All (λ r. (n : _) × (value_at m r.at ≡ Some (Int n))) reds
  pub fresh : IsFresh x m c
  -- no pointer leads into the object of a reduction variable
  pub unaliased : (a : Addr) (v : Val) → value_at m a ≡ Some v → All (λ r. ¬ (LeadsTo v r)) reds
  pub values : HasValues m

-- what a chunk's run uses is a part of that
abbrev pub runnable : {x : Execution} {reds : List Red} {m : Memory} {c : ℕ} → IsReady x reds m c → IsRunnable x m c
runnable ready = record { fresh = ready.fresh; values = ready.values }
