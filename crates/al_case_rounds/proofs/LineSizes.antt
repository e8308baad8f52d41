-- Choices whose lines have sizes that a run may have.
use Rattle.std.proofs.Common.{◌≡◌, ℕ, zero, suc, List, [], ◌∷◌, ◌++◌, slice_get, Option, None, Some, IfSome, subst}
use Rattle.al_core.specs.declared.choices.Choice.{Choice}
use Rattle.al_core.specs.Lines.{IsLineSize}
use Rattle.al_engine.specs.Jobs.{HaveLineSizes}

pub none_has : HaveLineSizes []
none_has k c h = absurd cc

pub one_more_has : (cs : List (Option Choice)) (v : Option Choice) → IfSome v (λ (c : Choice). IsLineSize c.line)
    → HaveLineSizes cs → HaveLineSizes (cs ++ (v ∷ []))
one_more_has [] v size has zero c h =
    let same : v ≡ Some c = cc in subst (λ o. IfSome o (λ (c : Choice). IsLineSize c.line)) same size
one_more_has [] v size has (suc k) c h = absurd cc
one_more_has (x ∷ xs) v size has zero c h = has zero c h
one_more_has (x ∷ xs) v size has (suc k) c h = one_more_has xs v size (λ j d e. has (suc j) d e) k c h
