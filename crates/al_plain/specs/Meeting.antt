-- Whether addresses have a line in common, for lines of so many words.
use Rattle.std.specs.Prelude.{ℕ, Bool, List}
use Rattle.std.specs.List.{list_any}
use Rattle.al_core.specs.declared.values.Addr.{Addr}
use Rattle.al_core.specs.Orders.{addr_eq}
use Rattle.al_core.specs.Lines.{line_of}

abbrev pub on_line : ℕ → Addr → Addr → Bool
on_line g a b = addr_eq (line_of g a) (line_of g b)

abbrev pub any_on_line : ℕ → List Addr → Addr → Bool
any_on_line g all a = list_any (on_line g a) all

abbrev pub any_meets : ℕ → List Addr → List Addr → Bool
any_meets g here there = list_any (any_on_line g there) here
