-- Frames, as the code has them.
use Rattle.al_core.specs.Action.{Private, AllPrivate, Own}
use Rattle.al_interpreter.specs.declared.frame.Own.{Own as Kept}
use Rattle.al_interpreter.specs.declared.frame.Own.TheVariants as kept

abbrev pub private_of : Kept → Private
private_of kept.All = AllPrivate
private_of (kept.Loop counter first last) = Own counter first last
