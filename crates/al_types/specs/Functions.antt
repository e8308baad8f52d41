-- Typed functions beside the annotated loops so far.
use Rattle.std.specs.Prelude.{List}
use Rattle.std.specs.Global.{Vec}

-- a value beside what a vector has
abbrev pub with_notes : {A B : Type 0} → A × Vec B → A × List B
with_notes r = (r.0, r.1.items)
