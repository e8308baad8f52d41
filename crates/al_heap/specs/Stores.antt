-- What stores do, beside al_core's words for memories.
use Rattle.std.specs.Prelude.{◌≡◌, ℕ, ◌*◌, Bool, true, nat_lt, if◌then◌else◌, List, [], ◌∷◌, length, take, drop, Option, Some, None, Result, Ok, Err}
use Rattle.std.specs.Coded.{Coded, coded_list, coded_option}
use Rattle.std.specs.FinMap as map
use Rattle.std.specs.FinMap.{FinMap}
use Rattle.std.specs.Option.{option_and_then}
use Rattle.al_core.specs.declared.values.Obj.{Obj}
use Rattle.al_core.specs.contracts.values.Obj as obj
use Rattle.al_core.specs.contracts.values.Val as val
use Rattle.al_core.specs.Orders.{obj_cmp}
use Rattle.al_core.specs.declared.values.Val.{Val}
use Rattle.al_core.specs.declared.values.Trap.{Trap}
use Rattle.al_core.specs.declared.values.Addr.{Addr}
use Rattle.al_core.specs.declared.values.Addr.TheVariants.{Word}
use Rattle.al_core.specs.Memory.{Memory, value_at, put}
use Rattle.al_core.specs.Access.{missing_or_outside}

-- there is nothing in it
abbrev pub no_memory : Memory
no_memory = record { objects = map.empty; locals = [] }

-- names for which objects can be added without memory stay such names
abbrev pub KeepsReady : (Obj → Bool) → (Obj → Bool) → Type 0
KeepsReady old new = (o : Obj) → old o ≡ true → new o ≡ true

-- a value, or why there is none
abbrev pub value_or_trap : Memory → Addr → Option Val → Result Val Trap
value_or_trap m a (Some v) = Ok v
value_or_trap m a None = Err (missing_or_outside m a)

abbrev pub read_word : Memory → Obj → ℕ → Result Val Trap
read_word m o w = value_or_trap m (Word o w) (value_at m (Word o w))

-- the memory with a value in place of the one at an address, or why there is none
abbrev pub replaced : Memory → Addr → Val → Option Val → Result (Unit {0}) Trap × Memory
replaced m a v (Some old) = (Ok tt, put m a v)
replaced m a v None = (Err (missing_or_outside m a), m)

abbrev pub overwritten : Memory → Obj → ℕ → Val → Result (Unit {0}) Trap × Memory
overwritten m o w v = replaced m (Word o w) v (value_at m (Word o w))

-- the words from 64 n on, 64 of them or as many as there are
abbrev pub page_of : List Val → ℕ → Option (List Val)
page_of ws n = if nat_lt (n * 64) (length ws) then Some (take 64 (drop (n * 64) ws)) else None

abbrev pub page_in : Option (List Val) → ℕ → Option (List Val)
page_in (Some ws) n = page_of ws n
page_in None n = None

-- ---- objects in slots

-- a name may have a slot with no object in it
abbrev pub slot_in : FinMap obj_cmp (Option (List Val)) → Obj → Option (List Val)
slot_in slots o = option_and_then (λ s. s) (map.get slots o)

abbrev pub with_slot : Obj → Option (List Val) → List (Obj × List Val) → List (Obj × List Val)
with_slot o None es = es
with_slot o (Some ws) es = (o, ws) ∷ es

abbrev pub present : List (Obj × Option (List Val)) → List (Obj × List Val)
present [] = []
present (e ∷ es) = with_slot e.0 e.1 (present es)

-- the objects that are in their slots
abbrev pub objects_in : FinMap obj_cmp (Option (List Val)) → FinMap obj_cmp (List Val)
objects_in slots = map.from_entries (present (map.entries slots))

abbrev pub slots_code : Coded (FinMap obj_cmp (Option (List Val)))
slots_code = map.code obj.the_row.coded (coded_option (coded_list val.the_row.coded))

-- the same slots, and one for that name
abbrev pub with_name : FinMap obj_cmp (Option (List Val)) → Obj → FinMap obj_cmp (Option (List Val))
with_name slots o = if map.contains_key slots o then slots else map.insert slots o None

-- every object that is in its slot can be added without memory
abbrev pub AreReady : (Obj → Bool) → FinMap obj_cmp (Option (List Val)) → Type 0
AreReady ready slots = (o : Obj) → map.contains_key (objects_in slots) o ≡ true → ready o ≡ true

abbrev pub IsReadyFor : (Obj → Bool) → Obj → Option (List Val) → Type 0
IsReadyFor ready o None = Unit {0}
IsReadyFor ready o (Some ws) = ready o ≡ true

-- the same of slots in a list
abbrev pub IsReadyForEach : (Obj → Bool) → List (Obj × Option (List Val)) → Type 0
IsReadyForEach ready [] = Unit {0}
IsReadyForEach ready (e ∷ es) = IsReadyFor ready e.0 e.1 × IsReadyForEach ready es
