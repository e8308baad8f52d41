-- Numbers that are printed.
use Rattle.std.proofs.Common.{◌≡◌, ℕ, ◌+◌, ◌<◌, List, [], ◌∷◌, ◌++◌, length, drop, take, get_or, Result, Ok, Err, refl, sym, ap, ◌∙◌, append_assoc, append-nil, arith, add-one}
use Rattle.std.specs.Prelude.{ℤ}
use Rattle.std.proofs.Math.Seq.{drop-cons, take-suc, take-length}
use Rattle.std.proofs.lemmas.List.{drop_all, map-append}
use Rattle.al_core.specs.declared.values.Val.{Val}
use Rattle.al_core.specs.declared.values.Val.TheVariants.{Int, Ptr}
use Rattle.al_core.specs.declared.values.Trap.{Trap}
use Rattle.al_source.specs.Steps.{and_then}
use Rattle.al_core.specs.Values.{number, numbers}
use Rattle.al_exec.specs.Printing.{int_in, ints}

-- a number, and then those of what is left
abbrev numbers_after : Result ℤ Trap → Result (List ℤ) Trap → Result (List ℤ) Trap
numbers_after r rest = and_then r (λ n. and_then rest (λ ns. Ok (n ∷ ns)))

abbrev pub behind : List ℤ → Result (List ℤ) Trap → Result (List ℤ) Trap
behind ns (Ok ms) = Ok (ns ++ ms)
behind ns (Err t) = Err t

one_more : (ns : List ℤ) (v : Val) (n : ℤ) (r : Result (List ℤ) Trap) → number v ≡ Ok n
    → behind ns (numbers_after (number v) r) ≡ behind (ns ++ int_in v ∷ []) r
one_more ns (Int m) n (Ok ms) h = ap Ok (sym (append_assoc ns (m ∷ []) ms))
one_more ns (Int m) n (Err t) h = refl
one_more ns (Ptr o w) n r h = grind arith

opened : (vs : List Val) (k : ℕ) (v : Val) → k < length vs → v ≡ get_or vs k v → numbers (drop k vs) ≡ numbers_after (number v) (numbers (drop (k + 1) vs))
opened vs k v h e =
    ap numbers (drop-cons vs k v h) ∙ (λ j. numbers_after (number (sym e j)) (numbers (drop (sym (add-one k) j) vs)))

taken : (vs : List Val) (k : ℕ) (v : Val) → k < length vs → v ≡ get_or vs k v → ints (take k vs) ++ int_in v ∷ [] ≡ ints (take (k + 1) vs)
taken vs k v h e =
    ap (λ x. ints (take k vs) ++ int_in x ∷ []) e
    ∙ sym (map-append int_in (take k vs) (get_or vs k v ∷ []))
    ∙ ap ints (sym (take-suc vs k v h)) ∙ ap (λ n. ints (take n vs)) (sym (add-one k))

pub number_next : (vs : List Val) (k : ℕ) (v : Val) (n : ℤ) → k < length vs → v ≡ get_or vs k v → number v ≡ Ok n
    → numbers vs ≡ behind (ints (take k vs)) (numbers (drop k vs)) → numbers vs ≡ behind (ints (take (k + 1) vs)) (numbers (drop (k + 1) vs))
number_next vs k v n h e is so =
    so ∙ ap (behind (ints (take k vs))) (opened vs k v h e) ∙ one_more (ints (take k vs)) v n _ is
    ∙ ap (λ ns. behind ns (numbers (drop (k + 1) vs))) (taken vs k v h e)

pub number_not : (vs : List Val) (k : ℕ) (v : Val) (ns : List ℤ) (t : Trap) → k < length vs → v ≡ get_or vs k v → number v ≡ Err t
    → numbers vs ≡ behind ns (numbers (drop k vs)) → numbers vs ≡ Err t
number_not vs k v ns t h e is so = so ∙ ap (behind ns) (opened vs k v h e ∙ ap (λ r. numbers_after r (numbers (drop (k + 1) vs))) is)

pub numbers_none : (vs : List Val) → numbers vs ≡ behind (ints (take 0 vs)) (numbers (drop 0 vs))
numbers_none vs = sym (nothing (numbers vs)) where
  nothing : (r : Result (List ℤ) Trap) → behind [] r ≡ r
  nothing (Ok ms) = refl
  nothing (Err t) = refl

pub numbers_all : (vs : List Val) → numbers vs ≡ behind (ints (take (length vs) vs)) (numbers (drop (length vs) vs)) → numbers vs ≡ Ok (ints vs)
numbers_all vs so =
    so ∙ ap (λ l. behind (ints (take (length vs) vs)) (numbers l)) (drop_all (length vs) vs (omega arith))
    ∙ ap Ok (append-nil (ints (take (length vs) vs)) ∙ ap ints (take-length vs))

pub ruleset number_steps = (number_next, number_not, numbers_none, numbers_all)
