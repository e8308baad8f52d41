-- Comparisons, and the pieces of lanes.
use Rattle.std.proofs.Common.{◌≡◌, ◌≢◌, ℕ, ◌<◌, ◌≤◌, ◌==◌, nat_lt, cond, Bool, true, false, List, [], ◌∷◌, Option, Some, None, sym, ap, ◌∙◌, subst, arith}
use Rattle.std.proofs.lemmas.Bool.Decides.{nat_tests}
use native.Mathlib.Decide.{ℕ_discrete}
use Rattle.al_count.proofs.Totals.{place_below}
use Rattle.al_board.specs.Core.{Event, draws, puts, splits, joins, judges, piece_of, played, IsHistory}
use Rattle.al_board.specs.Rule.{AreFirst}

pub lt_yes : (x n : ℕ) → x < n → nat_lt x n ≡ true
lt_yes x n h = grind (arith, nat_tests)

pub lt_no : (x n : ℕ) → n ≤ x → nat_lt x n ≡ false
lt_no x n h = grind (arith, nat_tests)

eq_yes : (x : ℕ) → (x == x) ≡ true
eq_yes x = grind (arith, nat_tests)

eq_no : (x y : ℕ) → x ≢ y → (x == y) ≡ false
eq_no x y h = grind (arith, nat_tests)

pub none_some : {A : Type 0} (a : A) → None ≡ Some a → ⊥
none_some a h = cc

pub some_same : {A : Type 0} (a b : A) → Some a ≡ Some b → a ≡ b
some_same a b h = cc

pub the_same : {A : Type 0} (o : Option A) (a b : A) → o ≡ Some a → o ≡ Some b → a ≡ b
the_same o a b e e' = some_same a b (sym e ∙ e')

module _ {T : Type 0} where
  pub piece_here : (x : ℕ) (p : T) (ps : List (ℕ × T)) → piece_of x ((x, p) ∷ ps) ≡ Some p
  piece_here x p ps = ap (λ (b : Bool). cond b (Some p) (piece_of x ps)) (eq_yes x)

  pub piece_else : (x y : ℕ) (p : T) (ps : List (ℕ × T)) → x ≢ y → piece_of x ((y, p) ∷ ps) ≡ piece_of x ps
  piece_else x y p ps ne = ap (λ (b : Bool). cond b (Some p) (piece_of x ps)) (eq_no x y ne)

  -- a lane that has a piece has one where another piece comes
  pub piece_stays : (x y : ℕ) (q : T) (ps : List (ℕ × T)) → (p : T) × (piece_of x ps ≡ Some p) → (p : T) × (piece_of x ((y, q) ∷ ps) ≡ Some p)
  piece_stays x y q ps has = go (ℕ_discrete x y)
    where
      go : Dec (x ≡ y) → (p : T) × (piece_of x ((y, q) ∷ ps) ≡ Some p)
      go (yes e) = (q, ap (λ (z : ℕ). piece_of z ((y, q) ∷ ps)) e ∙ piece_here y q ps)
      go (no ne) = (has.0, piece_else x y q ps ne ∙ has.1)

  -- the first pieces stay the first ones where a piece comes behind them
  pub first_grown : (n : ℕ) (xs : List T) (ps : List (ℕ × T)) (lane : ℕ) (p : T) → n ≤ lane → AreFirst n xs ps → AreFirst n xs ((lane, p) ∷ ps)
  first_grown n xs ps lane p le a = record {
    many = a.many;
    each = λ k q e. let b = place_below xs k q e in let m = a.many in piece_else k lane p ps (λ h. omega arith) ∙ a.each k q e;
  }

-- each piece that a legal history put fits its lane
pub pieces_fit : {T : Type 0} (fits : ℕ → T → Type 0) (n : ℕ) (h : List (Event T)) (x : ℕ) (p : T)
    → IsHistory fits n h → piece_of x (played n h).pieces ≡ Some p → fits x p
pieces_fit fits n [] x p legal e = absurd (none_some p e)
pieces_fit fits n (draws q ∷ h) x p legal e = pieces_fit fits n h x p legal.1 e
pieces_fit {T} fits n (puts q lane piece ∷ h) x p legal e =
    go (ℕ_discrete x lane) (λ (e' : piece_of x (played n h).pieces ≡ Some p). pieces_fit fits n h x p legal.1 e')
  where
    go : Dec (x ≡ lane) → (piece_of x (played n h).pieces ≡ Some p → fits x p) → fits x p
    go (yes is) ih =
        let there = ap (λ (z : ℕ). piece_of z ((lane, piece) ∷ (played n h).pieces)) (sym is) ∙ e in
        let same : piece ≡ p = some_same piece p (sym (piece_here lane piece (played n h).pieces) ∙ there) in
        subst (λ (z : ℕ × T). fits z.0 z.1) (λ i. (sym is i, same i)) legal.0.fit
    go (no ne) ih = ih (sym (piece_else x lane piece (played n h).pieces ne) ∙ e)
pieces_fit fits n (splits q ∷ h) x p legal e = pieces_fit fits n h x p legal.1 e
pieces_fit fits n (joins q r ∷ h) x p legal e = pieces_fit fits n h x p legal.1 e
pieces_fit fits n (judges lane ∷ h) x p legal e = pieces_fit fits n h x p legal.1 e
