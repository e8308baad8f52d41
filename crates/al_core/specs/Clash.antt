-- When a chunk clashes with what the committed chunks of its round wrote.
use Rattle.std.specs.Prelude.{ℕ, Bool, false, ◌||◌}
use Rattle.std.specs.List.{list_any}
use Rattle.std.specs.FinSet as set
use Rattle.std.specs.FinSet.{FinSet}
use Rattle.al_source.specs.declared.annotations.Policy.{Policy}
use Rattle.al_source.specs.declared.annotations.Policy.TheVariants as policy
use Rattle.al_core.specs.Orders.{addr_cmp, addr_eq}
use Rattle.al_core.specs.Lines.{line_of}
use Rattle.al_core.specs.Chunk.{Outcome}

-- some address is in both sets
unfoldable pub meets : FinSet addr_cmp → FinSet addr_cmp → Bool
meets a b = list_any (set.contains b) (set.items a)

-- an address of the one and an address of the other have the same line, where lines have so many words
unfoldable pub meets_lines : ℕ → FinSet addr_cmp → FinSet addr_cmp → Bool
meets_lines g a b = list_any (λ x. list_any (λ y. addr_eq (line_of g x) (line_of g y)) (set.items b)) (set.items a)

-- by a policy and the words of a line
abbrev pub clashes : Policy → ℕ → Outcome → FinSet addr_cmp → Bool
clashes policy.Full g o written = meets_lines g o.reads written || meets_lines g o.touched written
clashes policy.Raw g o written = meets_lines g o.reads written
clashes policy.Waw g o written = meets_lines g o.touched written
clashes policy.None g o written = false
