-- Sets of addresses that meet.
use Rattle.std.specs.Prelude.{◌≡◌, ℕ, true}
use Rattle.std.specs.FinSet.{FinSet}
use Rattle.al_core.specs.Orders.{addr_cmp}
use Rattle.al_core.specs.Clash.{meets, meets_lines}

-- sets that have an address in common have a line in common, however many words a line has
abbrev pub WordsMeetByLines : Type 0
WordsMeetByLines = (g : ℕ) (a b : FinSet addr_cmp) → meets a b ≡ true → meets_lines g a b ≡ true

-- by lines of one word they meet exactly where they have an address in common
abbrev pub LinesOfOneWord : Type 0
LinesOfOneWord = (a b : FinSet addr_cmp) → meets_lines 1 a b ≡ meets a b
