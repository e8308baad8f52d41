-- How the program ends, by its words or why there are none.
use Rattle.std.specs.Prelude.{◌≡◌, map, string_bytes, String, Result, Ok, Err}
use Rattle.std.specs.Global.{Global, Vec}
use Rattle.al_answers.specs.Calls.{Call, IsUntouched}
use Rattle.al_answers.specs.Statuses.{code}
use Rattle.al_answers.specs.declared.answers.Status.TheVariants as status
use Rattle.al_cli.specs.declared.entry.NoWords.{NoWords}
use Rattle.al_cli.specs.declared.entry.NoWords.TheVariants.{Memory, NotText}
use Rattle.al_cli.specs.Promises.{Promises}

abbrev pub Ends : Result (Vec (String Global)) NoWords → Call → Type 0
Ends (Ok words) c = Promises (map string_bytes words.items) c
Ends (Err Memory) c = (c.status ≡ code status.NoMemory) × IsUntouched c
Ends (Err NotText) c = (c.status ≡ code status.NotText) × IsUntouched c
