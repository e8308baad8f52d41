-- Objects in tables, by the numbers that name them.
use Rattle.std.specs.Prelude.{◌≡◌, ℕ, suc, ◌≤◌, Bool, nat_lt, if◌then◌else◌, List, [], ◌∷◌, ◌++◌, length, Option, Some, None, option_map, Result, Ok, Err, slice_get, slice_set, slice_index_or, refl}
use Rattle.std.specs.Option.{option_and_then}
use Rattle.std.specs.Coded.{Coded, code_by, coded×, coded_list, coded_option}
use Rattle.std.specs.FinMap as map
use Rattle.std.specs.FinMap.{FinMap}
use Rattle.al_core.specs.declared.values.Obj.{Obj}
use Rattle.al_core.specs.declared.values.Obj.TheVariants.{Global, Serial, Iter}
use Rattle.al_core.specs.declared.values.Val.{Val}
use Rattle.al_core.specs.declared.values.Trap.{Trap}
use Rattle.al_core.specs.declared.values.Trap.TheVariants as trap
use Rattle.al_core.specs.contracts.values.Val as val
use Rattle.al_core.specs.Orders.{obj_cmp}

-- ---- lists of slots

-- objects by their last number; a slot may have none
abbrev pub Slots : Type 0
Slots = List (Option (List Val))

abbrev pub slots_code : Coded Slots
slots_code = coded_list (coded_option (coded_list val.the_row.coded))

abbrev pub rows_code : Coded (List Slots)
rows_code = coded_list slots_code

abbrev pub tables_code : Coded (List (List Slots))
tables_code = coded_list rows_code

-- the object in a slot
abbrev pub slot_at : Slots → ℕ → Option (List Val)
slot_at slots k = option_and_then (λ s. s) (slice_get slots k)

-- the list at a number; there is an empty one past the end
abbrev pub list_at : {X : Type 0} → List (List X) → ℕ → List X
list_at xs i = slice_index_or xs i []

-- another object, or none, in a slot
abbrev pub set_in_row : List Slots → ℕ → ℕ → Option (List Val) → List Slots
set_in_row rows j k s = slice_set rows j (slice_set (list_at rows j) k s)

abbrev pub set_in_table : List (List Slots) → ℕ → ℕ → ℕ → Option (List Val) → List (List Slots)
set_in_table table e j k s = slice_set table e (set_in_row (list_at table e) j k s)

-- every slot has what it had, and there are at least as many
pub record SameSlots (old new : Slots) : Type 0 where
  pub same : (k : ℕ) → slot_at new k ≡ slot_at old k
  pub grown : length old ≤ length new

abbrev pub SameRows : List Slots → List Slots → Type 0
SameRows old new = (j : ℕ) → SameSlots (list_at old j) (list_at new j)

abbrev pub SameTables : List (List Slots) → List (List Slots) → Type 0
SameTables old new = (e : ℕ) → SameRows (list_at old e) (list_at new e)

-- a word of an object is replaced, where it is there
abbrev pub with_word : Option (List Val) → ℕ → Val → Option (List Val)
with_word s w v = option_map (λ ws. slice_set ws w v) s

abbrev pub replaced : Option (List Val) → ℕ → Result (Unit {0}) Trap
replaced (Some ws) w = if nat_lt w (length ws) then Ok tt else Err trap.Bounds
replaced None w = Err trap.Missing

-- ---- objects

pub record Table : Type 0 where
  pub globals : Slots
  pub serial : Slots
  -- by execution and by iteration
  pub executions : List (List Slots)

abbrev pub Entries : Type 0
Entries = List (Obj × List Val)

-- each list with its index
abbrev pub indexed : {X : Type 0} → (ℕ → X → Entries) → ℕ → List X → Entries
indexed f n [] = []
indexed f n (x ∷ xs) = f n x ++ indexed f (suc n) xs

abbrev pub slot_entry : (ℕ → Obj) → ℕ → Option (List Val) → Entries
slot_entry name k None = []
slot_entry name k (Some ws) = (name k, ws) ∷ []

abbrev pub slot_entries : (ℕ → Obj) → Slots → Entries
slot_entries name slots = indexed (slot_entry name) 0 slots

abbrev pub iteration_entries : ℕ → List Slots → Entries
iteration_entries e iterations = indexed (λ j slots. slot_entries (Iter e j) slots) 0 iterations

abbrev pub execution_entries : List (List Slots) → Entries
execution_entries executions = indexed iteration_entries 0 executions

-- the objects of a table by their names
abbrev pub objects_of : Table → FinMap obj_cmp (List Val)
objects_of t =
    map.from_entries
    (slot_entries Global t.globals ++ (slot_entries Serial t.serial ++ execution_entries t.executions))

-- the slots among which an object's is, and its number there
abbrev pub slots_of : Table → Obj → Slots
slots_of t (Global k) = t.globals
slots_of t (Serial k) = t.serial
slots_of t (Iter e j k) = list_at (list_at t.executions e) j

abbrev pub number_of : Obj → ℕ
number_of (Global k) = k
number_of (Serial k) = k
number_of (Iter e j k) = k

abbrev pub object_at : Table → Obj → Option (List Val)
object_at t o = slot_at (slots_of t o) (number_of o)

-- whether an object has a slot
abbrev pub has_slot : Table → Obj → Bool
has_slot t o = nat_lt (number_of o) (length (slots_of t o))

-- another object, or none, in the slot of a name
abbrev pub set_object : Table → Obj → Option (List Val) → Table
set_object t (Global k) s = record t { globals = slice_set t.globals k s }
set_object t (Serial k) s = record t { serial = slice_set t.serial k s }
set_object t (Iter e j k) s = record t { executions = set_in_table t.executions e j k s }

-- every slot has what it had
abbrev pub SameObjects : Table → Table → Type 0
SameObjects t u = (o : Obj) → SameSlots (slots_of t o) (slots_of u o)

abbrev pub table_code : Coded Table
table_code =
    code_by (Slots × (Slots × List (List Slots))) (coded× slots_code (coded× slots_code tables_code))
    (λ t. (t.globals, (t.serial, t.executions))) (λ p. record { globals = p.0; serial = p.1.0; executions = p.1.1 })
    (λ _. refl)
