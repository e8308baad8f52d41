-- What a run is given, as the definitions have it.
use Rattle.al_core.specs.Run.{Setting as Given, sizes_of}
use Rattle.al_core.specs.Report.{by_choices}
use Rattle.al_interpreter.specs.declared.setting.Setting.{Setting}

abbrev pub setting_of : Setting → Given
setting_of s = record {
  typed = s.program.now;
  input = s.input.now;
  sizes = sizes_of s.knobs;
  modes = by_choices s.choices.now;
}
