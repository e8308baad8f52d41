-- An address is known by the place of its block and by its offset.
use Rattle.std.proofs.Common.{◌≡◌, ℕ, ◌+◌, ◌*◌, ◌<◌, ◌/◌, ◌%◌, ◌&&◌, nat_eq, sym, ap, ◌∙◌, arith}
use Rattle.std.proofs.lemmas.Bool.{eqb-true, eq-eqb}
use Rattle.al_core.specs.declared.values.Obj.{Obj}
use Rattle.al_core.specs.declared.values.Obj.TheVariants.{Global, Serial, Iter}
use Rattle.al_core.specs.declared.values.Addr.{Addr}
use Rattle.al_core.specs.declared.values.Addr.TheVariants.{Word, Head, Local}
use Rattle.al_core.specs.Orders.{addr_eq}
use Rattle.al_laws.proofs.Orders.{addr_equal, addr_itself}
use Rattle.al_sets.specs.Places.{number_of, renumbered, place_of, offset_of, address_at}
use Rattle.al_sets.proofs.Truth.{same_truth, left_true, right_true, both_true}

pub offset_below : (a : Addr) → offset_of a < 512
offset_below (Word o w) = omega arith
offset_below (Head o) = omega arith
offset_below (Local k) = omega arith

whole : (v w : ℕ) → v / 512 ≡ w / 512 → v % 512 ≡ w % 512 → v ≡ w
whole v w q r = omega arith

same_object : (o p : Obj) → Head (renumbered o (number_of o / 512)) ≡ Head (renumbered p (number_of p / 512))
    → number_of o % 512 ≡ number_of p % 512 → o ≡ p
same_object (Global k) (Global l) e r = let q : k / 512 ≡ l / 512 = cc in ap (λ n. Global n) (whole k l q r)
same_object (Global k) (Serial l) e r = absurd (cc)
same_object (Global k) (Iter f i l) e r = absurd (cc)
same_object (Serial k) (Global l) e r = absurd (cc)
same_object (Serial k) (Serial l) e r = let q : k / 512 ≡ l / 512 = cc in ap (λ n. Serial n) (whole k l q r)
same_object (Serial k) (Iter f i l) e r = absurd (cc)
same_object (Iter g j k) (Global l) e r = absurd (cc)
same_object (Iter g j k) (Serial l) e r = absurd (cc)
same_object (Iter g j k) (Iter f i l) e r =
    let q : k / 512 ≡ l / 512 = cc in
    let a : g ≡ f = cc in
    let b : j ≡ i = cc in
    λ t. Iter (a t) (b t) (whole k l q r t)

pub same_address : (a b : Addr) → place_of a ≡ place_of b → offset_of a ≡ offset_of b → a ≡ b
same_address (Word o v) (Word p w) e r =
    let f : o ≡ p = cc in
    let q : v / 512 ≡ w / 512 = cc in
    λ t. Word (f t) (whole v w q r t)
same_address (Word o v) (Head p) e r = absurd (cc)
same_address (Word o v) (Local k) e r = absurd (cc)
same_address (Head o) (Word p w) e r = absurd (cc)
same_address (Head o) (Head p) e r = ap (λ o. Head o) (same_object o p e r)
same_address (Head o) (Local k) e r = absurd (cc)
same_address (Local k) (Word p w) e r = absurd (cc)
same_address (Local k) (Head p) e r = absurd (cc)
same_address (Local k) (Local l) e r = let q : k / 512 ≡ l / 512 = cc in ap (λ n. Local n) (whole k l q r)

pub by_place : (a b : Addr) → addr_eq a b ≡ (addr_eq (place_of a) (place_of b) && nat_eq (offset_of a) (offset_of b))
by_place a b = same_truth _ _
    (λ h.
    let e : a ≡ b = addr_equal a b h in
    both_true _ _ (ap (λ c. addr_eq (place_of a) (place_of c)) (sym e) ∙ addr_itself (place_of a))
    (eq-eqb (offset_of a) (offset_of b) (ap offset_of e)))
    (λ h.
    let e : a ≡ b =
    same_address a b (addr_equal _ _ (left_true _ _ h)) (eqb-true (offset_of a) (offset_of b) (right_true _ _ h)) in
    ap (addr_eq a) (sym e) ∙ addr_itself a)

-- ---- the addresses of a block

quotient : (p n : ℕ) → n < 512 → (p * 512 + n) / 512 ≡ p
quotient p n h = omega arith

remainder : (p n : ℕ) → n < 512 → (p * 512 + n) % 512 ≡ n
remainder p n h = omega arith

pub place_there : (p : Addr) (n : ℕ) → n < 512 → place_of (address_at p n) ≡ p
place_there (Word o p) n h = ap (λ q. Word o q) (quotient p n h)
place_there (Head (Global p)) n h = ap (λ q. Head (Global q)) (quotient p n h)
place_there (Head (Serial p)) n h = ap (λ q. Head (Serial q)) (quotient p n h)
place_there (Head (Iter e j p)) n h = ap (λ q. Head (Iter e j q)) (quotient p n h)
place_there (Local p) n h = ap (λ q. Local q) (quotient p n h)

pub offset_there : (p : Addr) (n : ℕ) → n < 512 → offset_of (address_at p n) ≡ n
offset_there (Word o p) n h = remainder p n h
offset_there (Head (Global p)) n h = remainder p n h
offset_there (Head (Serial p)) n h = remainder p n h
offset_there (Head (Iter e j p)) n h = remainder p n h
offset_there (Local p) n h = remainder p n h

pub at_offset : (a p : Addr) (n : ℕ) → n < 512 → addr_eq a (address_at p n) ≡ (addr_eq (place_of a) p && nat_eq (offset_of a) n)
at_offset a p n h =
    by_place a (address_at p n)
    ∙ (λ t. addr_eq (place_of a) (place_there p n h t) && nat_eq (offset_of a) (offset_there p n h t))
