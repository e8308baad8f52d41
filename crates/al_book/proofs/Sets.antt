-- Meeting the union of two sets.
use Rattle.std.proofs.Common.{◌≡◌, ℕ, zero, suc, ◌<◌, List, [], ◌∷◌, Bool, true, false, ◌||◌, ◌⊎◌, inl, inr, ⊎_elim, length, get_or, refl, sym, ap, ◌∙◌, arith}
use Rattle.std.proofs.Math.Bool.{true≢false}
use Rattle.std.proofs.lemmas.List.Folds.{list_any_at}
use Rattle.std.specs.List.{list_any}
use Rattle.std.specs.FinSet as set
use Rattle.std.specs.FinSet.{FinSet}
use Rattle.al_source.specs.declared.annotations.Policy.{Policy}
use Rattle.al_source.specs.declared.annotations.Policy.TheVariants as policy
use Rattle.al_core.specs.declared.values.Addr.{Addr}
use Rattle.al_core.specs.declared.values.Addr.TheVariants.{Local}
use Rattle.al_core.specs.Orders.{addr_cmp, addr_eq}
use Rattle.al_core.specs.Lines.{line_of}
use Rattle.al_core.specs.Chunk.{Outcome}
use Rattle.al_core.specs.Clash.{meets_lines, clashes}
use Rattle.al_laws.proofs.Orders.{addr_total, addr_equal, addr_itself}

same_truth : (a b : Bool) → (a ≡ true → b ≡ true) → (b ≡ true → a ≡ true) → a ≡ b
same_truth true b h k = sym (h refl)
same_truth false true h k = k refl
same_truth false false h k = refl

one_true : (a b : Bool) → (a || b) ≡ true → (a ≡ true) ⊎ (b ≡ true)
one_true true b h = inl refl
one_true false b h = inr h

left_true : (a b : Bool) → a ≡ true → (a || b) ≡ true
left_true a b h = ap (λ c. c || b) h

right_true : (a b : Bool) → b ≡ true → (a || b) ≡ true
right_true true b h = refl
right_true false b h = h

pub or_assoc : (a b c : Bool) → ((a || b) || c) ≡ (a || (b || c))
or_assoc true b c = refl
or_assoc false b c = refl

or_four : (a b c d : Bool) → ((a || b) || (c || d)) ≡ ((a || c) || (b || d))
or_four true b c d = refl
or_four false true true d = refl
or_four false true false d = refl
or_four false false c d = refl

-- where an item that passes stands
place_of : (t : Addr → Bool) (xs : List Addr) → list_any t xs ≡ true → (k : ℕ) × (k < length xs) × ((d : Addr) → t (get_or xs k d) ≡ true)
place_of t [] h = absurd (true≢false (sym h))
place_of t (x ∷ xs) h = elim (t x) as (λ b. t x ≡ b → (b || list_any t xs) ≡ true
    → (k : ℕ) × (k < length (x ∷ xs)) × ((d : Addr) → t (get_or (x ∷ xs) k d) ≡ true)) [
      | true ↦ λ e _. (0, omega arith, λ d. e)
      | false ↦ λ _ r. let o = place_of t xs r in (suc o.0, omega (arith, o.1), o.2)
    ] refl h

-- an address of the set that passes
one_in : (t : Addr → Bool) (s : FinSet addr_cmp) → list_any t (set.items s) ≡ true → (a : Addr) × (set.contains s a ≡ true) × (t a ≡ true)
one_in t s h =
    let f = place_of t (set.items s) h in
    let d : Addr = Local 0 in
    let a : Addr = get_or (set.items s) f.0 d in
    (a, set.contains-items s a ∙ list_any_at (addr_eq a) (set.items s) f.0 d f.1 (addr_itself a), f.2 d)

in_one : (t : Addr → Bool) (s : FinSet addr_cmp) (a : Addr) → set.contains s a ≡ true → t a ≡ true → list_any t (set.items s) ≡ true
in_one t s a h e =
    let d : Addr = Local 0 in
    let f = place_of (addr_eq a) (set.items s) (sym (set.contains-items s a) ∙ h) in
    let same = addr_equal a (get_or (set.items s) f.0 d) (f.2 d) in
    list_any_at t (set.items s) f.0 d f.1 (ap t (sym same) ∙ e)

any_union : (t : Addr → Bool) (a b : FinSet addr_cmp)
    → list_any t (set.items (set.union a b)) ≡ (list_any t (set.items a) || list_any t (set.items b))
any_union t a b =
    let l = list_any t (set.items a) in
    let r = list_any t (set.items b) in
    let u = set.union a b in
    same_truth (list_any t (set.items u)) (l || r)
    (λ h.
    let x = one_in t u h in
    let both = sym (set.contains-union addr_total a b x.0) ∙ x.1 in
    ⊎_elim
    (λ (k : set.contains a x.0 ≡ true). left_true l r (in_one t a x.0 k x.2))
    (λ (k : set.contains b x.0 ≡ true). right_true l r (in_one t b x.0 k x.2))
    (one_true (set.contains a x.0) (set.contains b x.0) both))
    (λ h. ⊎_elim
    (λ (k : l ≡ true).
    let x = one_in t a k in
    in_one t u x.0 (set.contains-union addr_total a b x.0 ∙ left_true (set.contains a x.0) (set.contains b x.0) x.1) x.2)
    (λ (k : r ≡ true).
    let x = one_in t b k in
    in_one t u x.0 (set.contains-union addr_total a b x.0 ∙ right_true (set.contains a x.0) (set.contains b x.0) x.1) x.2)
    (one_true l r h))

abbrev line_in : ℕ → Addr → FinSet addr_cmp → Bool
line_in g x b = list_any (λ y. addr_eq (line_of g x) (line_of g y)) (set.items b)

by_items : (g : ℕ) (a b : FinSet addr_cmp) (xs : List Addr)
    → list_any (λ x. line_in g x (set.union a b)) xs ≡ (list_any (λ x. line_in g x a) xs || list_any (λ x. line_in g x b) xs)
by_items g a b [] = refl
by_items g a b (x ∷ xs) =
    (λ i. any_union (λ y. addr_eq (line_of g x) (line_of g y)) a b i || by_items g a b xs i)
    ∙ or_four (line_in g x a) (line_in g x b) (list_any (λ z. line_in g z a) xs) (list_any (λ z. line_in g z b) xs)

pub meets_union : (g : ℕ) (s a b : FinSet addr_cmp) → meets_lines g s (set.union a b) ≡ (meets_lines g s a || meets_lines g s b)
unfolding meets_lines
meets_union g s a b = by_items g a b (set.items s)

-- an outcome clashes with two sets together where it clashes with one of them
pub clash_union : (p : Policy) (g : ℕ) (o : Outcome) (a b : FinSet addr_cmp)
    → clashes p g o (set.union a b) ≡ (clashes p g o a || clashes p g o b)
clash_union policy.Full g o a b =
    (λ i. meets_union g o.reads a b i || meets_union g o.touched a b i)
    ∙ or_four (meets_lines g o.reads a) (meets_lines g o.reads b) (meets_lines g o.touched a) (meets_lines g o.touched b)
clash_union policy.Raw g o a b = meets_union g o.reads a b
clash_union policy.Waw g o a b = meets_union g o.touched a b
clash_union policy.None g o a b = refl
