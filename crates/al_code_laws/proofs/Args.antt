-- Arguments are put on the stack one by one, and taken off together.
use Rattle.std.proofs.Common.{◌≡◌, List, [], ◌∷◌, ◌++◌, length, refl, sym, ap, ◌∙◌, append_assoc}
use Rattle.std.specs.Prelude.{take, drop, reverse}
use Rattle.std.proofs.Math.Seq.{take-append_seam, drop-append_seam}
use Rattle.std.proofs.lemmas.List.{length-reverse, reverse-reverse}
use Rattle.std.proofs.lemmas.Grind.{reverse_onto}
use Rattle.al_core.specs.declared.values.Val.{Val}

-- the stack with these above it, the last on top
abbrev pub push_all : List Val → List Val → List Val
push_all [] st = st
push_all (v ∷ vs) st = push_all vs (v ∷ st)

push_reverse : (vs st : List Val) → push_all vs st ≡ reverse vs ++ st
push_reverse [] st = refl
push_reverse (v ∷ vs) st = push_reverse vs (v ∷ st) ∙ sym (append_assoc (reverse vs) (v ∷ []) st) ∙ ap (λ l. l ++ st) (sym (reverse_onto vs v []))

pub args_back : (vs st : List Val) → reverse (take (length vs) (push_all vs st)) ≡ vs
args_back vs st =
    ap (λ l. reverse (take (length vs) l)) (push_reverse vs st)
    ∙ ap (λ n. reverse (take n (reverse vs ++ st))) (sym (length-reverse vs))
    ∙ ap reverse (take-append_seam (reverse vs) st)
    ∙ reverse-reverse vs

pub rest_back : (vs st : List Val) → drop (length vs) (push_all vs st) ≡ st
rest_back vs st =
    ap (λ l. drop (length vs) l) (push_reverse vs st)
    ∙ ap (λ n. drop n (reverse vs ++ st)) (sym (length-reverse vs))
    ∙ drop-append_seam (reverse vs) st
