-- The statuses with which a call ends.
use Rattle.std.specs.Prelude.{ℕ}
use Rattle.al_answers.specs.declared.answers.Status.{Status}
use Rattle.al_answers.specs.declared.answers.Status.TheVariants.{Done, ProgramRefused, WordsRefused, Trapped, NotRead, NotWritten, NoMemory, InputRefused, NotText}

abbrev pub code : Status → ℕ
code Done = 0
code ProgramRefused = 1
code WordsRefused = 2
code Trapped = 3
code NotRead = 4
code NotWritten = 5
code NoMemory = 6
code InputRefused = 7
code NotText = 10
