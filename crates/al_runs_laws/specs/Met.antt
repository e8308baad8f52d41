-- What the laws ask of a program is met by a small one.
use Rattle.std.specs.Prelude.{[]}
use Rattle.al_kinds_laws.specs.Programs.{IsProgram}
use Rattle.al_runs_laws.specs.Accepted.{IsSized}
use Rattle.al_runs_laws.specs.Reports.{ChoicesAreSerializable}
use Rattle.al_runs_laws.specs.Small.{small, small_choices}

abbrev pub SmallIsProgram : Type 0
SmallIsProgram = IsProgram small []

abbrev pub SmallIsSized : Type 0
SmallIsSized = IsSized small

abbrev pub SmallChoicesAreSerializable : Type 0
SmallChoicesAreSerializable = ChoicesAreSerializable small small_choices
