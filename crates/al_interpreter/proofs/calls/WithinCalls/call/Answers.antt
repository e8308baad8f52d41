use Rattle.std.proofs.Common.{refl}
use Rattle.al_interpreter.proofs.calls.WithinCalls.call.Goals as goal

pub returns : goal.returns
returns g c = c.requires.calls _ _ _ _ _ _ _ _ refl c.function.ensures
