-- What code in a memory sees: the memory, the names of its next objects, what it printed, and in a chunk the access
-- record.
use Rattle.std.specs.Prelude.{ℕ, suc, ◌+◌, Bool, true, false, if◌then◌else◌, ◌==◌, nat_lt, List, [], ◌∷◌, ◌++◌, replicate, Option, Some, None, option_map, Result, Ok, Err, slice_get, slice_set, pos}
use Rattle.std.specs.FinSet as set
use Rattle.std.specs.FinSet.{FinSet}
use Rattle.al_source.specs.declared.limits.TheConstants.{OUTER_WORDS, ITERATION_WORDS}
use Rattle.al_core.specs.declared.choices.Red.{Red}
use Rattle.al_core.specs.declared.values.Obj.TheVariants.{Global, Serial, Iter}
use Rattle.al_core.specs.declared.values.Val.TheVariants.{Int}
use Rattle.al_core.specs.declared.values.Addr.TheVariants.{Word, Head, Local}
use Rattle.al_core.specs.declared.values.Trap.TheVariants as trap
use Rattle.al_core.specs.Orders.{obj_cmp, addr_cmp, addr_eq}
use Rattle.al_core.specs.Values.{of_kind}
use Rattle.al_core.specs.World.{Obj, Val, Addr, Kind, Trap, World}
use Rattle.al_core.specs.Action.{or_zero}
use Rattle.al_core.specs.Memory.{Memory, has_object, value_at, put, add, remove}

-- ---- names

-- who allocates: the code outside the iterations of annotated loops, or iteration j of execution e
pub data Allocator : Type 0 where
  Outer : Allocator
  InIteration : ℕ → ℕ → Allocator

-- who allocates, how many objects it has made, and their words, each object counted as its words plus one
pub record Allocations : Type 0 where
  pub allocator : Allocator
  pub next : ℕ
  pub words : ℕ

-- a name depends on no thread, chunk or attempt
abbrev pub name_of : Allocator → ℕ → Obj
name_of Outer k = Serial k
name_of (InIteration e j) k = Iter e j k

abbrev pub word_limit : Allocator → ℕ
word_limit Outer = OUTER_WORDS
word_limit (InIteration e j) = ITERATION_WORDS

-- iteration j of execution e has made nothing yet
abbrev pub nothing_made : ℕ → ℕ → Allocations
nothing_made e j = record { allocator = InIteration e j; next = 0; words = 0 }

-- ---- the access record of a chunk

pub record AccessRecord : Type 0 where
  -- the addresses that were read before the chunk wrote them
  pub reads : FinSet addr_cmp
  -- those that were written
  pub touched : FinSet addr_cmp
  -- the objects that the chunk made, those too that it freed again
  pub made : FinSet obj_cmp
  -- the other objects that it freed, in order
  pub freed : List Obj
  -- the reductions, and the accumulator of each
  pub reds : List Red
  pub accumulators : List Val

pub record Content : Type 0 where
  pub memory : Memory
  pub allocations : Allocations
  pub printed : List ℕ
  -- there is none where code runs plain
  pub accesses : Option AccessRecord

abbrev pub with_memory : Content → Memory → Content
with_memory c m = record c { memory = m }

abbrev pub with_accesses : Content → AccessRecord → Content
with_accesses c accesses = record c { accesses = Some accesses }

abbrev pub with_read : AccessRecord → Addr → AccessRecord
with_read accesses a = record accesses { reads = set.insert accesses.reads a }

abbrev pub with_touched : AccessRecord → Addr → AccessRecord
with_touched accesses a = record accesses { touched = set.insert accesses.touched a }

-- a word that was written before is not read from outside
abbrev pub with_load : AccessRecord → Addr → AccessRecord
with_load accesses a = if set.contains accesses.touched a then accesses else with_read accesses a

-- ---- what a chunk records

-- an access to a word of an object that the chunk made records nothing, also after that object was freed
abbrev pub is_own : AccessRecord → Addr → Bool
is_own accesses (Word o w) = set.contains accesses.made o
is_own accesses (Head o) = false
is_own accesses (Local k) = false

-- any other access to a word reads the object's head, also where it traps; a shared local has no head
abbrev pub with_head : AccessRecord → Addr → AccessRecord
with_head accesses (Word o w) = with_read accesses (Head o)
with_head accesses (Head o) = accesses
with_head accesses (Local k) = accesses

-- a load that finds a value reads it
abbrev pub record_load : AccessRecord → Addr → Option Val → AccessRecord
record_load accesses a (Some v) = with_load (with_head accesses a) a
record_load accesses a None = with_head accesses a

abbrev pub record_store : AccessRecord → Addr → Option Val → AccessRecord
record_store accesses a (Some v) = with_touched (with_head accesses a) a
record_store accesses a None = with_head accesses a

-- making an object writes its head
abbrev pub record_make : Option AccessRecord → Obj → Option AccessRecord
record_make None o = None
record_make (Some accesses) o =
    Some (with_touched (record accesses { made = set.insert accesses.made o }) (Head o))

-- Freeing an object that is there reads its head and writes it. Freeing one that is not there reads its head.
abbrev pub record_free : AccessRecord → Obj → Bool → AccessRecord
record_free accesses o true =
    record (with_touched (with_read accesses (Head o)) (Head o)) { freed = accesses.freed ++ o ∷ [] }
record_free accesses o false = with_read accesses (Head o)

abbrev pub free_recorded : Option AccessRecord → Obj → Bool → Option AccessRecord
free_recorded None o there = None
free_recorded (Some accesses) o there =
    Some (if set.contains accesses.made o then accesses else record_free accesses o there)

-- ---- loads and stores of a memory

-- an object that is not there, and then a word outside it
abbrev pub missing_or_outside : Memory → Addr → Trap
missing_or_outside m (Word o w) = if has_object m o then trap.Bounds else trap.Missing
missing_or_outside m (Head o) = trap.Missing
missing_or_outside m (Local k) = trap.Missing

-- a word is read as a value of a kind, and a local holds a value of its own kind
abbrev pub read_as : Addr → Kind → Val → Result Val Trap
read_as (Word o w) want v = of_kind want v
read_as (Head o) want v = Ok v
read_as (Local k) want v = Ok v

abbrev pub loaded : Memory → Addr → Kind → Option Val → Result Val Trap
loaded m a want (Some v) = read_as a want v
loaded m a want None = Err (missing_or_outside m a)

abbrev pub load_in : Memory → Addr → Kind → Result Val Trap
load_in m a want = loaded m a want (value_at m a)

-- a store never minds the kind
abbrev pub store_in : Content → Addr → Val → Option Val → Result (Unit {0}) Trap × Content
store_in c a v (Some old) = (Ok tt, with_memory c (put c.memory a v))
store_in c a v None = (Err (missing_or_outside c.memory a), c)

-- ---- the same in a chunk

-- the place of a reduction variable among the reductions
abbrev pub red_index : List Red → Addr → Option ℕ
red_index [] a = None
red_index (r ∷ reds) a = if addr_eq r.at a then Some 0 else option_map suc (red_index reds a)

-- a reduction variable is read and changed in its accumulator, and nothing is recorded
abbrev pub load_recorded : Content → AccessRecord → Addr → Kind → Option ℕ → Result Val Trap × Content
load_recorded c accesses a want (Some i) = (read_as a want (or_zero (slice_get accesses.accumulators i)), c)
load_recorded c accesses a want None = (
  load_in c.memory a want,
  if is_own accesses a then c else with_accesses c (record_load accesses a (value_at c.memory a)),
)

abbrev pub store_recorded : Content → AccessRecord → Addr → Val → Option ℕ → Result (Unit {0}) Trap × Content
store_recorded c accesses a v (Some i) =
    (Ok tt, with_accesses c (record accesses { accumulators = slice_set accesses.accumulators i v }))
store_recorded c accesses a v None =
    store_in
    (if is_own accesses a then c else with_accesses c (record_store accesses a (value_at c.memory a)))
    a v (value_at c.memory a)

-- ---- the operations

abbrev pub load_by : Option AccessRecord → Content → Addr → Kind → Result Val Trap × Content
load_by None c a want = (load_in c.memory a want, c)
load_by (Some accesses) c a want = load_recorded c accesses a want (red_index accesses.reds a)

abbrev pub store_by : Option AccessRecord → Content → Addr → Val → Result (Unit {0}) Trap × Content
store_by None c a v = store_in c a v (value_at c.memory a)
store_by (Some accesses) c a v = store_recorded c accesses a v (red_index accesses.reds a)

abbrev pub one_more : Allocations → ℕ → Allocations
one_more allocations words =
    record allocations { next = allocations.next + 1; words = allocations.words + words + 1 }

-- the words of an object that is made are all 0
abbrev pub with_object : Content → Obj → ℕ → Content
with_object c o words = record {
  memory = add c.memory o (replicate words (Int (pos 0)));
  allocations = one_more c.allocations words;
  printed = c.printed;
  accesses = record_make c.accesses o;
}

-- a place that may be freed: the first word of an object that is no global
abbrev pub is_freeable : Obj → ℕ → Bool
is_freeable (Global k) w = false
is_freeable (Serial k) w = w == 0
is_freeable (Iter e j k) w = w == 0

-- what is freed is taken out, and nothing is given back to the allocations
abbrev pub free_there : Content → Obj → Bool → Result (Unit {0}) Trap × Content
free_there c o true = (Ok tt, with_memory c (remove c.memory o))
free_there c o false = (Err trap.Freed, c)

abbrev pub free_if : Content → Obj → Bool → Result (Unit {0}) Trap × Content
free_if c o true =
    free_there
    (record c { accesses = free_recorded c.accesses o (has_object c.memory o) })
    o (has_object c.memory o)
free_if c o false = (Err trap.BadFree, c)

unfoldable pub load : Addr → Kind → Content → Result Val Trap × Content
load a want c = load_by c.accesses c a want

unfoldable pub store : Addr → Val → Content → Result (Unit {0}) Trap × Content
store a v c = store_by c.accesses c a v

unfoldable pub make : ℕ → Content → Result Obj Trap × Content
make words c =
    if nat_lt (word_limit c.allocations.allocator) (c.allocations.words + words + 1) then (Err trap.Alloc, c)
    else (
      Ok (name_of c.allocations.allocator c.allocations.next),
      with_object c (name_of c.allocations.allocator c.allocations.next) words,
    )

unfoldable pub free : Obj → ℕ → Content → Result (Unit {0}) Trap × Content
free o w c = free_if c o (is_freeable o w)

unfoldable pub print : List ℕ → Content → Content
print bytes c = record c { printed = c.printed ++ bytes }

-- The world of an iteration. No loop is handed on in it.
abbrev pub in_iteration : World Content
in_iteration = record {
  load = load;
  store = store;
  make = make;
  free = free;
  print = print;
  visit = λ loop lo hi locals c. (Ok locals, c);
}
