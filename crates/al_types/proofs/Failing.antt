-- A fault of a part is that of the whole.
use Rattle.std.proofs.Common.{◌≡◌, Option, Some, None, Result, Err}
use Rattle.al_source.specs.Answers.{Fails}

pub fails : {A B D : Type 0} (part : Result A D) (whole : Result B D) (fault : Option D) → ((e : D) → part ≡ Err e → whole ≡ Err e) → Fails part fault
    → Fails whole fault
fails part whole (Some e) h is = h e is
fails part whole None h is = tt
