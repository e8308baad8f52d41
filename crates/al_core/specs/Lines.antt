-- Lines: the words of an object in groups of one size, by which conflicts are found.
use Rattle.std.specs.Prelude.{◌≡◌, ℕ, ◌/◌, ◌==◌, Bool, true, ◌||◌, List}
use Rattle.al_source.specs.declared.limits.TheConstants.{DEFAULT_LINE}
use Rattle.al_source.specs.declared.annotations.Policy.{Policy}
use Rattle.al_source.specs.declared.annotations.CommitOrder.{CommitOrder}
use Rattle.al_core.specs.declared.choices.Choice.{Choice}
use Rattle.al_core.specs.declared.choices.Red.{Red}
use Rattle.al_core.specs.declared.values.Addr.TheVariants.{Word, Head, Local}
use Rattle.al_core.specs.World.{Addr}

-- a line has one of five sizes
abbrev pub is_line_size : ℕ → Bool
is_line_size g = g == 1 || g == 2 || g == 4 || g == 8 || g == 16

abbrev pub IsLineSize : ℕ → Type 0
IsLineSize g = is_line_size g ≡ true

-- The line of an address, for lines of so many words, as an address: of a word its object and the line's number in it.
-- A head and a local are lines of their own.
abbrev pub line_of : ℕ → Addr → Addr
line_of g (Word o w) = Word o (w / g)
line_of g (Head o) = Head o
line_of g (Local k) = Local k

-- a choice whose conflicts are found word by word
abbrev pub by_words : Policy → CommitOrder → List Red → Choice
by_words policy order reds = record { policy = policy; order = order; reds = reds; line = DEFAULT_LINE }

-- a choice with lines of another size
abbrev pub with_line : ℕ → Choice → Choice
with_line g choice = record choice { line = g }
