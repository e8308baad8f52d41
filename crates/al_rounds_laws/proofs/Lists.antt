-- Lists of chunks.
use Rattle.std.proofs.Common.{ℕ, List, [], ◌∷◌}
use Rattle.al_rounds_laws.specs.Loops.{Each}

pub each_map : {P Q : ℕ → Type 0} (cs : List ℕ) → ((c : ℕ) → P c → Q c) → Each P cs → Each Q cs
each_map [] f h = tt
each_map (c ∷ cs) f h = (f c h.0, each_map cs f h.1)

pub each_both : {P Q R : ℕ → Type 0} (cs : List ℕ) → ((c : ℕ) → P c → Q c → R c) → Each P cs → Each Q cs → Each R cs
each_both [] f h k = tt
each_both (c ∷ cs) f h k = (f c h.0 k.0, each_both cs f h.1 k.1)
