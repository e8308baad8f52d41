-- The memory: the words of each present object and, while an annotated loop runs, the locals of its function. Its
-- iterations share all of these but their private ones, which are not looked at here.
use Rattle.std.specs.Prelude.{◌≡◌, ℕ, Bool, List, [], length, Option, Some, None, is_some, option_map, slice_get, slice_set}
use Rattle.std.specs.FinMap as map
use Rattle.std.specs.FinMap.{FinMap}
use Rattle.al_core.specs.declared.values.Addr.TheVariants.{Word, Head, Local}
use Rattle.al_core.specs.Orders.{obj_cmp}
use Rattle.al_core.specs.World.{Obj, Val, Addr}

-- an object is as long as its list of words
pub record Memory : Type 0 where
  pub objects : FinMap obj_cmp (List Val)
  pub locals : List Val

abbrev pub has_object : Memory → Obj → Bool
has_object m o = is_some (map.get m.objects o)

abbrev pub words_or_none : Option (List Val) → List Val
words_or_none (Some ws) = ws
words_or_none None = []

-- the length of a present object
abbrev pub length_at : Memory → Obj → Option ℕ
length_at m o = option_map length (map.get m.objects o)

abbrev pub word_in : Option (List Val) → ℕ → Option Val
word_in (Some ws) w = slice_get ws w
word_in None w = None

-- the value at an address that has one
abbrev pub value_at : Memory → Addr → Option Val
value_at m (Word o w) = word_in (map.get m.objects o) w
value_at m (Head o) = None
value_at m (Local k) = slice_get m.locals k

-- the memory with a value in place of the one at an address; where there is none, it is the same memory
abbrev pub with_words : FinMap obj_cmp (List Val) → Obj → ℕ → Val → Option (List Val) → FinMap obj_cmp (List Val)
with_words objects o w v (Some ws) = map.insert objects o (slice_set ws w v)
with_words objects o w v None = objects

abbrev pub put : Memory → Addr → Val → Memory
put m (Word o w) v = record m { objects = with_words m.objects o w v (map.get m.objects o) }
put m (Head o) v = m
put m (Local k) v = record m { locals = slice_set m.locals k v }

-- the memory with an object more
abbrev pub add : Memory → Obj → List Val → Memory
add m o ws = record m { objects = map.insert m.objects o ws }

-- the memory without an object
abbrev pub remove : Memory → Obj → Memory
remove m o = record m { objects = map.remove m.objects o }

-- Two memories agree at `Head o` where both lack o, or both have it with the same length. They agree at another address
-- where both lack it, or both give it the same value.
abbrev pub AgreeAt : Memory → Memory → Addr → Type 0
AgreeAt m n (Word o w) = value_at m (Word o w) ≡ value_at n (Word o w)
AgreeAt m n (Head o) = length_at m o ≡ length_at n o
AgreeAt m n (Local k) = value_at m (Local k) ≡ value_at n (Local k)
