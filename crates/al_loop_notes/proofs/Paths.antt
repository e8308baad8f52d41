-- Reaching by calls is closed under calls, and nothing smaller is.
use Rattle.std.proofs.Common.{◌≡◌, ℕ, zero, suc, ◌<◌, ◌≤◌, ◌⊎◌, inl, inr, List, [], ◌∷◌, length, refl, ap, ◌∙◌, arith, subst}
use Rattle.std.proofs.lemmas.Bool.{or_left, or_right, eqb-true, eq-eqb, cases_lt}
use Rattle.std.specs.Prelude.{Bool, true, false, ◌||◌, ◌&&◌, ◌==◌, slice_get}
use Rattle.std.specs.List.{list_any}
use Rattle.al_core.specs.declared.typed_tree.TStmt.{TStmt}
use Rattle.al_core.specs.declared.typed_tree.Typed.{Typed}
use Rattle.al_core.specs.Accepted.{terms, calls_of}
use Rattle.al_rules.specs.Bodies.{has, calls_in, reaches, is_reached}

-- ---- tests

pub one_of : (a b : Bool) → (a || b) ≡ true → (a ≡ true) ⊎ (b ≡ true)
one_of true b is = inl refl
one_of false b is = inr is

first_of_two : (a b : Bool) → (a && b) ≡ true → a ≡ true
first_of_two true b is = refl
first_of_two false b is = is

second_of_two : (a b : Bool) → (a && b) ≡ true → b ≡ true
second_of_two true b is = is
second_of_two false b is = absurd (cc)

two_hold : (a b : Bool) → a ≡ true → b ≡ true → (a && b) ≡ true
two_hold a b f g = rw (f, g) refl

-- what holds of a number of the list holds of some of the list
pub holds_of : (p : ℕ → Bool) (g : ℕ) (ns : List ℕ) → has g ns ≡ true → p g ≡ true → list_any p ns ≡ true
holds_of p g [] is h = absurd (cc)
holds_of p g (n ∷ ns) is h =
    elim (one_of (n == g) (has g ns) is) [
      | inl e ↦ or_left (p n) (list_any p ns) (ap p (eqb-true n g e)
          ∙ h)
      | inr e ↦ or_right (p n) (list_any p ns) (holds_of p g ns e h)
    ]

-- what follows of each of the list
pub follows_of : (p : ℕ → Bool) (A : Type 0) (ns : List ℕ) → list_any p ns ≡ true → ((n : ℕ) → has n ns ≡ true → p n ≡ true → A) → A
follows_of p A [] is h = absurd (cc)
follows_of p A (n ∷ ns) is h =
    elim (one_of (p n) (list_any p ns) is) [
      | inl e ↦ h n (or_left (n == n) (has n ns) (eq-eqb n n refl)) e
      | inr e ↦ follows_of p A ns e
          (λ m in' e. h m (or_right (n == m) (has m ns) in') e)
    ]

more_pass : (p q : ℕ → Bool) (ns : List ℕ) → ((n : ℕ) → p n ≡ true → q n ≡ true) → list_any p ns ≡ true → list_any q ns ≡ true
more_pass p q ns h is = follows_of p (list_any q ns ≡ true) ns is (λ n in' e. holds_of q n ns in' (h n e))

module _ (typed : Typed) where
  -- the one function calls the other
  abbrev pub calls_one : ℕ → ℕ → Bool
  calls_one f g = has g (calls_in (slice_get typed.funcs f))

  -- ---- what is reached is closed

  still : (n f g : ℕ) → reaches typed n f g ≡ true → reaches typed (suc n) f g ≡ true
  still n f g is = or_left (reaches typed n f g) (reaches typed n f n && reaches typed n n g) is

  by_call : (n f g : ℕ) → calls_one f g ≡ true → reaches typed n f g ≡ true
  by_call zero f g is = is
  by_call (suc n) f g is = still n f g (by_call n f g is)

  over : (n f g : ℕ) → reaches typed n f n ≡ true → reaches typed n n g ≡ true → reaches typed (suc n) f g ≡ true
  over n f g a b = or_right (reaches typed n f g) (reaches typed n f n && reaches typed n n g) (two_hold (reaches typed n f n) (reaches typed n n g) a b)

  -- how a function is reached with one more function between
  split_last : (n f g : ℕ) → reaches typed (suc n) f g ≡ true → (reaches typed n f g ≡ true) ⊎ ((reaches typed n f n ≡ true) × (reaches typed n n g ≡ true))
  split_last n f g is =
      elim (one_of (reaches typed n f g) (reaches typed n f n
      && reaches typed n n g) is) [
        | inl e ↦ inl e
        | inr e ↦ inr
            (first_of_two (reaches typed n f n) (reaches typed n n g) e, second_of_two (reaches typed n f n) (reaches typed n n g) e)
      ]

  -- to the last function, and from it
  to_last : (n f : ℕ) → reaches typed (suc n) f n ≡ true → reaches typed n f n ≡ true
  to_last n f is = elim (split_last n f n is) [ inl e ↦ e | inr e ↦ e.0 ]

  from_last : (n g : ℕ) → reaches typed (suc n) n g ≡ true → reaches typed n n g ≡ true
  from_last n g is = elim (split_last n n g is) [ inl e ↦ e | inr e ↦ e.1 ]

  below_or_last : (j n : ℕ) → j < suc n → (j < n) ⊎ (j ≡ n)
  below_or_last j n h = elim (cases_lt j n) [ inl lt ↦ inl lt | inr ge ↦ inr (omega arith) ]

  pub through : (n j f h : ℕ) → j < n → reaches typed n f j ≡ true → reaches typed n j h ≡ true → reaches typed n f h ≡ true
  through zero j f h below a b = absurd (omega arith)
  through (suc n) j f h below a b =
      elim (below_or_last j n below) [
        | inl lt ↦ elim (split_last n f j a) [
          | inl a ↦ elim (split_last n j h b) [ inl b ↦ still n f h (through n j f h lt a b) | inr b ↦ over n f h (through n j f n lt a b.0) b.1 ]
          | inr a ↦ elim (split_last n j h b) [ inl b ↦ over n f h a.0 (through n j n h lt a.1 b) | inr b ↦ over n f h a.0 b.1 ]
        ]
        | inr is ↦ over n f h (to_last n f (subst (λ (i : ℕ). reaches typed (suc n) f i
            ≡ true) is a)) (from_last n h (subst (λ (i : ℕ). reaches typed (suc n) i h ≡ true) is b))
      ]

  -- ---- a set that is closed under calls has all that is reached

  module _ (marks : ℕ → Bool) (closed : (f g : ℕ) → marks f ≡ true → g < length typed.funcs → calls_one f g ≡ true → marks g ≡ true) where
    has_all : (n f g : ℕ) → n ≤ length typed.funcs → ((h : ℕ) → h < length typed.funcs → calls_one f h ≡ true → marks h ≡ true) → g < length typed.funcs
        → reaches typed n f g ≡ true → marks g ≡ true
    has_all zero f g most start below is = start g below is
    has_all (suc n) f g most start below is =
        elim (split_last n f g is) [
          | inl e ↦ has_all n f g (omega arith) start below e
          | inr e ↦ has_all n n g (omega arith) (λ h lt c. closed n h (has_all n f n (omega arith) start (omega arith) e.0) lt c) below e.1
        ]

  -- ---- what a statement reaches

  pub reached_direct : (s : TStmt) (g : ℕ) → has g (calls_of (terms s)) ≡ true → is_reached typed s g ≡ true
  unfolding is_reached
  reached_direct s g is = or_left (has g (calls_of (terms s))) (list_any (λ f. reaches typed (length typed.funcs) f g) (calls_of (terms s))) is

  pub reached_further : (s : TStmt) (f g : ℕ) → f < length typed.funcs → is_reached typed s f ≡ true → calls_one f g ≡ true → is_reached typed s g ≡ true
  unfolding is_reached
  reached_further s f g below is calls =
      or_right (has g (calls_of (terms s))) (list_any (λ f. reaches typed (length typed.funcs) f g) (calls_of (terms s)))
      (elim (one_of (has f (calls_of (terms s))) (list_any (λ h. reaches typed (length typed.funcs) h f) (calls_of (terms s))) is) [
        | inl e ↦ holds_of (λ h. reaches typed (length typed.funcs) h g) f (calls_of (terms s)) e (by_call (length typed.funcs) f g calls)
        | inr e ↦ more_pass (λ h. reaches typed (length typed.funcs) h f) (λ h. reaches typed (length typed.funcs) h g) (calls_of (terms s))
            (λ h r. through (length typed.funcs) f h g below r (by_call (length typed.funcs) f g calls)) e
      ])

  -- a set that has what the statement calls, and is closed under calls, has all that it reaches
  pub reached_only : (s : TStmt) (marks : ℕ → Bool) → ((g : ℕ) → g < length typed.funcs → has g (calls_of (terms s)) ≡ true → marks g ≡ true)
      → ((f g : ℕ) → marks f ≡ true → g < length typed.funcs → calls_one f g ≡ true → marks g ≡ true)
      → ((f g : ℕ) → length typed.funcs ≤ f → calls_one f g ≡ true → ⊥) → (g : ℕ) → g < length typed.funcs → is_reached typed s g ≡ true → marks g ≡ true
  unfolding is_reached
  reached_only s marks start closed none g below is =
      elim (one_of (has g (calls_of (terms s))) (list_any (λ f. reaches typed (length typed.funcs) f g) (calls_of (terms s))) is) [
        | inl e ↦ start g below e
        | inr e ↦ follows_of (λ f. reaches typed (length typed.funcs) f g) (marks g
            ≡ true) (calls_of (terms s)) e
            (λ f in' r. has_all marks closed (length typed.funcs) f g (omega arith)
            (λ h lt c. elim (cases_lt f (length typed.funcs)) [ inl w ↦ closed f h (start f w in') lt c | inr w ↦ absurd (none f h w c) ]) below r)
      ]
