-- Where no record is kept none comes: an instance of the abstraction theorem.
use Rattle.std.proofs.Common.{◌≡◌, ℕ, ◌+◌, List, Option, Some, None, Result, Ok, Bool, true, false, sym, ap, subst, arith}
use Rattle.std.specs.Prelude.{nat_lt}
use Rattle.al_core.specs.declared.values.Val.{Val}
use Rattle.al_core.specs.declared.values.Addr.{Addr}
use Rattle.al_core.specs.declared.values.Kind.{Kind}
use Rattle.al_core.specs.declared.values.Obj.{Obj}
use Rattle.al_core.specs.declared.values.Trap.{Trap}
use Rattle.al_core.specs.Memory.{has_object, value_at}
use Rattle.al_core.specs.Access.{Content, record_make, store_in, store_by, load_by, word_limit, name_of, is_freeable, free_recorded, free_there, free_if, load, store, make, free, print, in_iteration}
use Rattle.al_core.specs.Iteration.{Execution}
use Rattle.al_core.specs.Chunk.{chunk_start, chunk_end, chunk_runs}
use Rattle.al_core.specs.Serial.{chunks_run}
use Rattle.al_laws.proofs.Stays.{limited}
use Rattle.al_laws.proofs.Keeps.{KeepsOp, KeepsWorld, chunk_holds, chunks_hold}

abbrev pub HasNoRecord : Content → Type 0
HasNoRecord c = c.accesses ≡ None

load_keeps : (a : Addr) (k : Kind) → KeepsOp HasNoRecord (load a k)
unfolding load
load_keeps a k = record { by = λ c h. subst (λ l. HasNoRecord (load_by l c a k).1) (sym h) h }

stored : (c : Content) (a : Addr) (x : Val) (v : Option Val) → HasNoRecord c → HasNoRecord (store_in c a x v).1
stored c a x (Some old) h = h
stored c a x None h = h

store_keeps : (a : Addr) (x : Val) → KeepsOp HasNoRecord (store a x)
unfolding store
store_keeps a x = record { by = λ c h. subst (λ l. HasNoRecord (store_by l c a x).1) (sym h) (stored c a x (value_at c.memory a) h) }

made : (c : Content) (words : ℕ) (b : Bool) → HasNoRecord c → HasNoRecord (limited c b words).1
made c words true h = h
made c words false h = ap (λ l. record_make l (name_of c.allocations.allocator c.allocations.next)) h

make_keeps : (words : ℕ) → KeepsOp HasNoRecord (make words)
unfolding make
make_keeps words = record { by = λ c h. made c words (nat_lt (word_limit c.allocations.allocator) (c.allocations.words + words + 1)) h }

freed_there : (c : Content) (o : Obj) (there : Bool) → HasNoRecord c → HasNoRecord (free_there c o there).1
freed_there c o true h = h
freed_there c o false h = h

freed : (c : Content) (o : Obj) (b : Bool) → HasNoRecord c → HasNoRecord (free_if c o b).1
freed c o true h =
    let there = has_object c.memory o in
    freed_there (record c { accesses = free_recorded c.accesses o there }) o there (ap (λ l. free_recorded l o there) h)
freed c o false h = h

free_keeps : (o : Obj) (at : ℕ) → KeepsOp HasNoRecord (free o at)
unfolding free
free_keeps o at = record { by = λ c h. freed c o (is_freeable o at) h }

print_keeps : (bytes : List ℕ) → KeepsOp HasNoRecord {A = Result (Unit {0}) Trap} (λ c. (Ok tt, print bytes c))
unfolding print
print_keeps bytes = record { by = λ c h. h }

unlogged : KeepsWorld HasNoRecord in_iteration
unlogged = record {
  load = load_keeps;
  store = store_keeps;
  make = make_keeps;
  free = free_keeps;
  print = print_keeps;
  visit = λ loop lo hi locals. record { by = λ c h. h };
}

pub chunk_unlogged : (x : Execution) (k : ℕ) (c : Content) → HasNoRecord c → HasNoRecord (chunk_runs x k c).content
chunk_unlogged x k c h =
    chunk_holds HasNoRecord HasNoRecord unlogged (λ d h. h) x (chunk_start x k) (chunk_end x k) (λ j d f l h. h) k (omega arith) (omega arith) c h

-- several chunks, one after another
pub chunks_unlogged : (x : Execution) (ks : List ℕ) (c : Content) → HasNoRecord c → HasNoRecord (chunks_run x ks c).content
chunks_unlogged x ks c h = chunks_hold HasNoRecord HasNoRecord unlogged (λ d h. h) x 0 x.trips (λ j d f l h. h) ks (λ k. (omega arith, omega arith)) c h
