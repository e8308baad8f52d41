-- A memory with a chunk's outcome laid over it.
use Rattle.std.specs.Prelude.{List, [], ◌∷◌, Option, Some, None, ℤ}
use Rattle.std.specs.FinMap as map
use Rattle.al_core.specs.declared.choices.Red.{Red}
use Rattle.al_core.specs.declared.values.Val.TheVariants.{Int, Ptr}
use Rattle.al_core.specs.World.{Obj, Val, Addr}
use Rattle.al_core.specs.Reductions.{red_apply}
use Rattle.al_core.specs.Memory.{Memory, value_at, put, add, remove}
use Rattle.al_core.specs.Chunk.{Outcome}

-- each word is put where its object or local is there
abbrev pub with_writes : List (Addr × Val) → Memory → Memory
with_writes [] m = m
with_writes (w ∷ ws) m = with_writes ws (put m w.0 w.1)

abbrev pub with_made : List (Obj × List Val) → Memory → Memory
with_made [] m = m
with_made (o ∷ os) m = with_made os (add m o.0 o.1)

abbrev pub without_freed : List Obj → Memory → Memory
without_freed [] m = m
without_freed (o ∷ os) m = without_freed os (remove m o)

-- a reduction variable becomes its old value joined with the accumulator
abbrev pub with_sum : Red → ℤ → Memory → Option Val → Memory
with_sum r n m (Some (Int old)) = put m r.at (Int (red_apply r.op old n))
with_sum r n m (Some (Ptr o w)) = m
with_sum r n m None = m

abbrev pub with_sums : List Red → List ℤ → Memory → Memory
with_sums [] ns m = m
with_sums (r ∷ rs) [] m = m
with_sums (r ∷ rs) (n ∷ ns) m = with_sums rs ns (with_sum r n m (value_at m r.at))

-- the written words are laid over it, the made objects are added, the freed ones taken out, and each reduction
-- variable is changed
unfoldable pub applied : List Red → Memory → Outcome → Memory
applied reds m o =
    with_sums reds o.accumulators
    (without_freed o.freed (with_made (map.entries o.made) (with_writes (map.entries o.writes) m)))

-- several outcomes, one over another
abbrev pub all_applied : List Red → List Outcome → Memory → Memory
all_applied reds [] m = m
all_applied reds (o ∷ os) m = all_applied reds os (applied reds m o)
