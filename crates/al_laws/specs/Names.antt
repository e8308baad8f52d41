-- The names of the objects that a run makes.
use Rattle.std.specs.Prelude.{◌≡◌, ℕ, ◌<◌, ◌≤◌, ◌^◌, true, is_some, List, length, ℤ}
use Rattle.std.specs.FinMap as map
use Rattle.al_source.specs.declared.limits.TheConstants.{OUTER_WORDS, ITERATION_WORDS, LOOP_TRIPS}
use Rattle.al_core.specs.declared.choices.Red.{Red}
use Rattle.al_core.specs.declared.choices.Knobs.{Knobs}
use Rattle.al_core.specs.declared.typed_tree.Typed.{Typed}
use Rattle.al_core.specs.declared.typed_tree.TFunc.{TFunc}
use Rattle.al_core.specs.declared.typed_tree.TStmt.{TStmt}
use Rattle.al_core.specs.declared.values.Obj.{Obj}
use Rattle.al_core.specs.declared.values.Obj.TheVariants.{Global, Serial, Iter}
use Rattle.al_core.specs.Action.{State}
use Rattle.al_core.specs.Memory.{Memory, has_object}
use Rattle.al_core.specs.Access.{Outer}
use Rattle.al_core.specs.Meaning.{Where, execute, call_to}
use Rattle.al_core.specs.Iteration.{Execution}
use Rattle.al_core.specs.Chunk.{chunk_start, chunk_end, outcome}
use Rattle.al_core.specs.Limits.{AreInRange}
use Rattle.al_core.specs.Run.{Mode, Setting, Whole, outside, whole_run}
use Rattle.al_laws.specs.Bounds.{setting_of}

-- every object that is there is such a one
abbrev pub HasOnly : (Obj → Type 0) → Memory → Type 0
HasOnly P m = (o : Obj) → has_object m o ≡ true → P o

-- ---- chunks

-- a name that the iterations of execution e, from a first to below a last, give to objects
abbrev pub IsGivenName : ℕ → ℕ → ℕ → Obj → Type 0
IsGivenName e first last (Global k) = ⊥
IsGivenName e first last (Serial k) = ⊥
IsGivenName e first last (Iter f j k) = (f ≡ e) × (first ≤ j) × (j < last) × (k < ITERATION_WORDS)

-- an object that a chunk made is named by an iteration of the chunk
abbrev pub MadeAreNamed : Type 0
MadeAreNamed =
    (x : Execution) (reds : List Red) (m : Memory) (c : ℕ) (o : Obj)
    → is_some (map.get (outcome x reds m c).made o) ≡ true
    → IsGivenName x.number (chunk_start x c) (chunk_end x c) o

-- ---- whole runs

-- a name within the limits, where there are so many globals and so many executions were begun
abbrev pub IsWithin : ℕ → ℕ → Obj → Type 0
IsWithin globals executions (Global k) = k < globals
IsWithin globals executions (Serial k) = k < OUTER_WORDS
IsWithin globals executions (Iter e j k) = (e < executions) × (j < LOOP_TRIPS) × (k < ITERATION_WORDS)

-- between what code outside iterations does: its own allocations are counted
pub record HasNames (g : Setting) (w : Whole) : Type 0 where
  pub objects : HasOnly (IsWithin (length g.typed.globals) w.executions) w.content.memory
  pub outer : w.content.allocations.allocator ≡ Outer
  pub counted : w.content.allocations.next ≤ w.content.allocations.words

-- whatever a statement makes, it makes with such names
abbrev pub StatementsKeepNames : Type 0
StatementsKeepNames =
    (g : Setting) (here : Where) (funcs : List TFunc) (input : List ℤ) (calls : ℕ) (stmt : TStmt) (s : State Whole)
    → HasNames g s.world
    → HasNames g (execute (outside g) here input (call_to (outside g) here funcs input calls) stmt s).1.world

-- every object of a whole run
abbrev pub NamesFit : Type 0
NamesFit =
    (typed : Typed) (input : List ℤ) (knobs : Knobs) (modes : ℕ → ℕ → Mode) → AreInRange knobs
    → HasOnly (IsWithin (length typed.globals) (2 ^ 32))
    (whole_run (setting_of typed input knobs modes)).1.world.content.memory
