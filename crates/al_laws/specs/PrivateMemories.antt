-- What a chunk's private memory keeps of the memory that it was copied from.
use Rattle.std.specs.Prelude.{◌≡◌, ℕ, Bool, true, false, List, length, Option, Some, None, is_some, slice_get}
use Rattle.std.specs.List.{list_any}
use Rattle.std.specs.FinMap as map
use Rattle.std.specs.FinSet as set
use Rattle.std.specs.FinSet.{FinSet}
use Rattle.al_core.specs.declared.choices.Red.{Red}
use Rattle.al_core.specs.declared.values.Val.{Val}
use Rattle.al_core.specs.declared.values.Obj.{Obj}
use Rattle.al_core.specs.declared.values.Addr.TheVariants.{Word, Head, Local}
use Rattle.al_core.specs.Orders.{addr_cmp, obj_eq}
use Rattle.al_core.specs.Memory.{Memory}
use Rattle.al_core.specs.Access.{AccessRecord, Content, is_freeable}
use Rattle.al_core.specs.Iteration.{Execution}
use Rattle.al_core.specs.Chunk.{chunk_start, chunk_end, chunk_runs, chunk_from, outcome}
use Rattle.al_core.specs.Readiness.{IsNameFrom, IsFresh}
use Rattle.al_core.specs.Applied.{with_sums, applied}

-- the object stands in the list
abbrev pub is_among : List Obj → Obj → Bool
is_among os o = list_any (obj_eq o) os

-- an object of the first memory and the same one now: they differ at touched words alone
abbrev pub SameBut : FinSet addr_cmp → Obj → Option (List Val) → Option (List Val) → Type 0
SameBut touched o None None = Unit {0}
SameBut touched o None (Some ws) = ⊥
SameBut touched o (Some vs) None = ⊥
SameBut touched o (Some vs) (Some ws) =
    (length ws ≡ length vs)
    × ((w : ℕ) → set.contains touched (Word o w) ≡ false → slice_get ws w ≡ slice_get vs w)

-- An object of the first memory that was freed: it was no global, it is gone, and its head is read and touched.
pub record IsGone (accesses : AccessRecord) (o : Obj) (first now : Option (List Val)) : Type 0 where
  pub freeable : is_freeable o 0 ≡ true
  pub was_there : is_some first ≡ true
  pub is_gone : now ≡ None
  pub read : set.contains accesses.reads (Head o) ≡ true
  pub touched : set.contains accesses.touched (Head o) ≡ true

-- The memory n is private to a chunk that began on a copy of m and has this record. The chunk's names are those of
-- execution e, from a first iteration to below a last. An object that is not among the made is among the freed and
-- gone, or it is as it was but for touched words.
pub record IsPrivate (m : Memory) (e first last : ℕ) (accesses : AccessRecord) (n : Memory) : Type 0 where
  pub fresh : (o : Obj) → IsNameFrom e first last o → map.get m.objects o ≡ None
  pub named : (o : Obj) → set.contains accesses.made o ≡ true → IsNameFrom e first last o
  pub headed : (o : Obj) → set.contains accesses.made o ≡ true → set.contains accesses.touched (Head o) ≡ true
  pub kept : (o : Obj) → set.contains accesses.made o ≡ false → is_among accesses.freed o ≡ false
      → SameBut accesses.touched o (map.get m.objects o) (map.get n.objects o)
  pub gone : (o : Obj) → is_among accesses.freed o ≡ true
      → IsGone accesses o (map.get m.objects o) (map.get n.objects o)
  pub locals_length : length n.locals ≡ length m.locals
  pub locals : (k : ℕ) → set.contains accesses.touched (Local k) ≡ false → slice_get n.locals k ≡ slice_get m.locals k

-- there is a record, and the memory is private by it
pub record HasPrivateMemory (m : Memory) (e first last : ℕ) (c : Content) : Type 0 where
  pub accesses : AccessRecord
  pub is : c.accesses ≡ Some accesses
  pub private : IsPrivate m e first last accesses c.memory

-- whatever the reductions
abbrev pub ChunkKeeps : Type 0
ChunkKeeps =
    (x : Execution) (reds : List Red) (m : Memory) (c : ℕ) → IsFresh x m c
    → HasPrivateMemory m x.number (chunk_start x c) (chunk_end x c) (chunk_runs x c (chunk_from x reds m c)).content

-- what a chunk left, laid over the memory, is its private memory with the reductions joined
abbrev pub AppliedIsPrivate : Type 0
AppliedIsPrivate =
    (x : Execution) (reds : List Red) (m : Memory) (c : ℕ) → IsFresh x m c
    → applied reds m (outcome x reds m c)
    ≡ with_sums reds (outcome x reds m c).accumulators (chunk_runs x c (chunk_from x reds m c)).content.memory
