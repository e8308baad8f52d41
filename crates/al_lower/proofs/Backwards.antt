-- A write to a list, seen backwards.
use Rattle.std.proofs.Common.{inl, inr, ⊎_elim, take, drop, take-append-drop, append-nil, length-drop, ◌≤◌, ◌≡◌, ℕ, zero, suc, ◌-◌, ◌<◌, List, [], ◌∷◌, ◌++◌, length, sym, ap, ◌∙◌, arith}
use Rattle.std.specs.Prelude.{slice_set, reverse, ◌⊎◌}
use mathlib.Core.List.{reverse_aux}
use Rattle.std.proofs.Math.Seq.{set-append_seam, take-append_seam, drop-append_seam}
use Rattle.std.proofs.lemmas.Bool.{cases_lt}
use Rattle.std.proofs.lemmas.List.{length-reverse, reverse-append, reverse-reverse, take_all, drop_all}
use Rattle.std.proofs.lemmas.Grind.{reverse_onto}

set_after : {X : Type 0} (xs acc : List X) (x v : X) → slice_set (reverse_aux xs (x ∷ acc)) (length xs) v ≡ reverse_aux xs (v ∷ acc)
set_after xs acc x v =
    ap (λ l. slice_set l (length xs) v) (reverse_onto xs x acc)
    ∙ ap (λ n. slice_set (reverse xs ++ x ∷ acc) n v) (sym (length-reverse xs))
    ∙ set-append_seam (reverse xs) x acc v
    ∙ sym (reverse_onto xs v acc)

set_aux : {X : Type 0} (xs acc : List X) (i : ℕ) (v : X) → i < length xs → reverse_aux (slice_set xs i v) acc
    ≡ slice_set (reverse_aux xs acc) (length xs - 1 - i) v
set_aux [] acc i v h = absurd (omega arith)
set_aux (x ∷ xs) acc zero v h =
    let e : length xs ≡ length (x ∷ xs) - 1 - 0 = omega arith in
    sym (set_after xs acc x v) ∙ ap (λ n. slice_set (reverse_aux xs (x ∷ acc)) n v) e
set_aux (x ∷ xs) acc (suc i) v h =
    let e : length xs - 1 - i ≡ length (x ∷ xs) - 1 - suc i = omega arith in
    set_aux xs (x ∷ acc) i v (omega arith) ∙ ap (λ n. slice_set (reverse_aux xs (x ∷ acc)) n v) e

pub set_backwards : {X : Type 0} (xs : List X) (i : ℕ) (v : X) → i < length xs → reverse (slice_set xs i v)
    ≡ slice_set (reverse xs) (length (reverse xs) - 1 - i) v
set_backwards xs i v h = set_aux xs [] i v h ∙ ap (λ n. slice_set (reverse xs) (n - 1 - i) v) (sym (length-reverse xs))

-- the front of two lists, where the first has n items, or at most n with nothing behind
in_front : {X : Type 0} (a b : List X) (n : ℕ) → (length a ≡ n) ⊎ ((length a ≤ n) × (b ≡ [])) → (take n (a ++ b) ≡ a) × (drop n (a ++ b) ≡ b)
in_front a b n (inl e) = (ap (λ m. take m (a ++ b)) (sym e) ∙ take-append_seam a b, ap (λ m. drop m (a ++ b)) (sym e) ∙ drop-append_seam a b)
in_front a b n (inr h) =
    let e : a ++ b ≡ a = ap (λ b. a ++ b) h.1 ∙ append-nil a in
    (ap (λ l. take n l) e ∙ take_all n a h.0, ap (λ l. drop n l) e ∙ drop_all n a h.0 ∙ sym h.1)

which : {X : Type 0} (xs : List X) (n : ℕ) → (length (reverse (drop (length xs - n) xs)) ≡ n) ⊎ ((length (reverse (drop (length xs - n) xs)) ≤ n) × (reverse
    (take (length xs - n) xs) ≡ []))
which xs n =
    let l = length-reverse (drop (length xs - n) xs) in
    let d = length-drop (length xs - n) xs in
    ⊎_elim
    (λ lt. let k : length xs - n ≡ 0 = omega arith in inr (omega arith, ap (λ k. reverse (take k xs)) k))
    (λ le. inl (omega arith))
    (cases_lt (length xs) n)

pub taken_back : {X : Type 0} (xs args rest : List X) (n k : ℕ) → k ≡ length xs - n → args ≡ drop k xs → rest ≡ take k xs
    → (args ≡ reverse (take n (reverse xs))) × (reverse rest ≡ drop n (reverse xs))
taken_back xs args rest n k ek ea er =
    let j = length xs - n in
    let whole : reverse xs ≡ reverse (drop j xs) ++ reverse (take j xs) = ap reverse (sym (take-append-drop j xs)) ∙ reverse-append (take j xs) (drop j xs) in
    let f = in_front (reverse (drop j xs)) (reverse (take j xs)) n (which xs n) in (
      ea ∙ ap (λ k. drop k xs) ek ∙ sym (ap (λ l. reverse (take n l)) whole ∙ ap reverse f.0 ∙ reverse-reverse (drop j xs)),
      ap reverse (er ∙ ap (λ k. take k xs) ek) ∙ sym (ap (λ l. drop n l) whole ∙ f.1),
    )
