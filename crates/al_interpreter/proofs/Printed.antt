-- Numbers, as they are gathered.
use Rattle.std.proofs.Common.{◌≡◌, ℕ, ◌+◌, ◌<◌, List, [], ◌∷◌, ◌++◌, length, drop, get_or, Result, Ok, Err, refl, sym, ap, ◌∙◌, append_assoc, append-nil, arith, add-one}
use Rattle.std.specs.Prelude.{ℤ}
use Rattle.std.proofs.Math.Seq.{drop-cons}
use Rattle.std.proofs.lemmas.List.{drop_all}
use Rattle.al_core.specs.declared.values.Val.{Val}
use Rattle.al_core.specs.declared.values.Trap.{Trap}
use Rattle.al_source.specs.Steps.{and_then}
use Rattle.al_core.specs.Values.{number, numbers}

-- a number, and then those of what is left
abbrev numbers_after : Result ℤ Trap → Result (List ℤ) Trap → Result (List ℤ) Trap
numbers_after r rest = and_then r (λ n. and_then rest (λ ns. Ok (n ∷ ns)))

abbrev pub behind : List ℤ → Result (List ℤ) Trap → Result (List ℤ) Trap
behind ns (Ok ms) = Ok (ns ++ ms)
behind ns (Err t) = Err t

one_more : (ns : List ℤ) (n : ℤ) (r : Result (List ℤ) Trap) → behind ns (numbers_after (Ok n) r) ≡ behind (ns ++ n ∷ []) r
one_more ns n (Ok ms) = ap Ok (sym (append_assoc ns (n ∷ []) ms))
one_more ns n (Err t) = refl

opened : (vs : List Val) (k : ℕ) (v : Val) → k < length vs → v ≡ get_or vs k v → numbers (drop k vs) ≡ numbers_after (number v) (numbers (drop (k + 1) vs))
opened vs k v h e =
    ap numbers (drop-cons vs k v h) ∙ (λ j. numbers_after (number (sym e j)) (numbers (drop (sym (add-one k) j) vs)))

pub number_next : (vs : List Val) (k : ℕ) (v : Val) (ns : List ℤ) (n : ℤ) → k < length vs → v ≡ get_or vs k v → number v ≡ Ok n
    → numbers vs ≡ behind ns (numbers (drop k vs)) → numbers vs ≡ behind (ns ++ n ∷ []) (numbers (drop (k + 1) vs))
number_next vs k v ns n h e is so = so ∙ ap (behind ns) (opened vs k v h e ∙ ap (λ r. numbers_after r (numbers (drop (k + 1) vs))) is) ∙ one_more ns n _

pub number_not : (vs : List Val) (k : ℕ) (v : Val) (ns : List ℤ) (t : Trap) → k < length vs → v ≡ get_or vs k v → number v ≡ Err t
    → numbers vs ≡ behind ns (numbers (drop k vs)) → numbers vs ≡ Err t
number_not vs k v ns t h e is so = so ∙ ap (behind ns) (opened vs k v h e ∙ ap (λ r. numbers_after r (numbers (drop (k + 1) vs))) is)

pub numbers_all : (vs : List Val) (k : ℕ) (ns : List ℤ) → length vs ≡ k → numbers vs ≡ behind ns (numbers (drop k vs)) → numbers vs ≡ Ok ns
numbers_all vs k ns h so = so ∙ ap (λ l. behind ns (numbers l)) (drop_all k vs (omega arith)) ∙ ap Ok (append-nil ns)

pub ruleset number_steps = (number_next, number_not, numbers_all)
