-- The start of an annotated loop, as the code holds it.
use Rattle.std.specs.Prelude.{Option, option_map}
use Rattle.al_core.specs.Loops as loops
use Rattle.al_lower.specs.declared.parts.Start.{Start}

abbrev pub start_as : Start → loops.Start
start_as s = record { counter = s.counter; value = s.value.now; line = s.line }

abbrev pub any_start : Option Start → Option loops.Start
any_start start = option_map start_as start
