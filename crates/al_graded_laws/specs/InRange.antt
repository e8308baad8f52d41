-- Numbers and values that have the sizes of their types.
use Rattle.std.specs.Prelude.{◌≡◌, ℕ, ◌+◌, ◌^◌, ◌<◌, ◌≤◌, Bool, true, false, ◌&&◌, nat_lt, int_le, List, length, Option, Some, None, slice_get, ℤ, pos, negsuc, ◌+ℤ◌, FitsSigned}
use Rattle.std.specs.Int.{w64}
use Rattle.std.specs.List.{AllByRecursion}
use Rattle.al_core.specs.declared.choices.Red.{Red}
use Rattle.al_core.specs.declared.typed_tree.Typed.{Typed}
use Rattle.al_core.specs.Memory.{Memory}
use Rattle.al_core.specs.Access.{AccessRecord, Content}
use Rattle.al_core.specs.Meaning.{body_of}
use Rattle.al_core.specs.Iteration.{Execution, iterations}
use Rattle.al_core.specs.Chunk.{chunk_runs, chunk_from}
use Rattle.al_core.specs.Readiness.{IsVal, HasValues}
use Rattle.al_core.specs.Serial.{plain_loop, serial}
use Rattle.al_graded_laws.specs.Rules.{Rules, AnyFunction, stmt_obeys, stmts_obey}

-- ---- programs

abbrev pub has_64_bits : ℤ → Bool
has_64_bits n = int_le (negsuc 9223372036854775807) n && int_le n (pos 9223372036854775807)

-- the numbers of a tree have 64 bits, and those of its globals 32; all else is free
abbrev pub in_range : Rules
in_range = record {
  local = λ k. true;
  global = λ k. nat_lt k (2 ^ 32);
  taken = λ k. nat_lt k (2 ^ 32);
  literal = has_64_bits;
  called = AnyFunction;
  set = λ k e. false;
  store = λ p e. false;
  update = λ op k e. false;
  update_at = λ op p e. false;
}

-- the numbers of all functions, and of the input
pub record IsInRange (typed : Typed) (input : List ℤ) : Type 0 where
  pub code : (f : ℕ) → stmts_obey in_range (body_of (slice_get typed.funcs f)) ≡ true
  pub input_numbers : (i : ℕ) (n : ℤ) → slice_get input i ≡ Some n → FitsSigned w64 n
  pub input_length : FitsSigned w64 (pos (length input))

-- the numbers of an execution
pub record RunsInRange (x : Execution) : Type 0 where
  pub program : IsInRange x.typed x.input
  pub body : stmt_obeys in_range x.loop.body ≡ true
  pub number : x.number < 2 ^ 32
  pub trips : x.trips ≤ 2 ^ 64
  pub counters : (j : ℕ) → j < x.trips → FitsSigned w64 (x.lo +ℤ pos j)

-- ---- values

abbrev pub AreSums : Option AccessRecord → Type 0
AreSums (Some accesses) = AllByRecursion IsVal accesses.accumulators
AreSums None = Unit {0}

-- every value that code sees is an `Int` of 64 bits or a `Ptr` with numbers of its sizes
pub record SeesValues (c : Content) : Type 0 where
  pub memory : HasValues c.memory
  pub sums : AreSums c.accesses

abbrev pub IterationsKeepValues : Type 0
IterationsKeepValues =
    (x : Execution) → RunsInRange x → (n j : ℕ) (c : Content) → j + n ≤ x.trips → SeesValues c
    → SeesValues (iterations x n j c).content

abbrev pub ChunksKeepValues : Type 0
ChunksKeepValues =
    (x : Execution) → RunsInRange x → (reds : List Red) (m : Memory) (c : ℕ) → HasValues m
    → SeesValues (chunk_runs x c (chunk_from x reds m c)).content

-- a loop that runs on one memory
abbrev pub SerialKeepsValues : Type 0
SerialKeepsValues =
    (x : Execution) → RunsInRange x → (cs : List ℕ) (m : Memory) → HasValues m
    → HasValues (serial x cs m).content.memory

abbrev pub PlainKeepsValues : Type 0
PlainKeepsValues =
    (x : Execution) → RunsInRange x → (m : Memory) → HasValues m → HasValues (plain_loop x m).content.memory
