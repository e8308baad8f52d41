-- A list that is written over by another, one element after another.
use Rattle.std.proofs.Common.{◌≡◌, ℕ, suc, ◌+◌, ◌<◌, List, [], ◌∷◌, ◌++◌, length, take, drop, get_or, sym, ap, ◌∙◌, arith, add-one, append_assoc}
use Rattle.std.specs.Prelude.{slice_set}
use Rattle.std.proofs.Math.Seq.{set-append_seam, take-suc, drop-cons}
use Rattle.std.proofs.lemmas.List.{length-take-le}

pub one_copied : {X : Type 0} (new old : List X) (i : ℕ) (v : X) → i < length new → length new ≡ length old → v ≡ get_or new i v
    → slice_set (take i new ++ drop i old) i v ≡ take (i + 1) new ++ drop (i + 1) old
one_copied new old i v within same is =
    let size : length (take i new) ≡ i = length-take-le i new (omega (arith, within)) in
    ap (λ l. slice_set (take i new ++ l) i v) (drop-cons old i v (omega (arith, within, same)))
    ∙ ap (λ k. slice_set (take i new ++ get_or old i v ∷ drop (suc i) old) k v) (sym size)
    ∙ set-append_seam (take i new) (get_or old i v) (drop (suc i) old) v
    ∙ ap (λ x. take i new ++ x ∷ drop (suc i) old) is
    ∙ sym (append_assoc (take i new) (get_or new i v ∷ []) (drop (suc i) old))
    ∙ (λ j. sym (take-suc new i v within) j ++ drop (suc i) old)
    ∙ (λ j. take (sym (add-one i) j) new ++ drop (sym (add-one i) j) old)
