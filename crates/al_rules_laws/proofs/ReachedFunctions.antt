-- A function that a statement reaches by calls is found to be reached.
use Rattle.std.proofs.Common.{◌≡◌, ℕ, zero, suc, ◌<◌, ◌||◌, ◌&&◌, ◌==◌, Bool, true, false, List, [], ◌∷◌, length, slice_get, slice_index_or, Contains, refl, sym, ap, ◌∙◌, ⊎_elim, arith, eq-eqb, eqb-true, eq-or-lt_of_le, le_of_suc-le-suc}
use Rattle.std.specs.List.{list_any}
use Rattle.std.proofs.lemmas.Option.{slice_get_within}
use Rattle.al_core.specs.declared.typed_tree.TStmt.{TStmt}
use Rattle.al_core.specs.declared.typed_tree.Typed.{Typed}
use Rattle.al_core.specs.Accepted.{terms, terms_of, calls_of, Reached, directly, further}
use Rattle.al_rules.specs.Bodies.{has, calls_in, reaches, is_reached}
use Rattle.al_rules_laws.proofs.Logic.{and_both, and_parts, or_parts}

-- ---- tests on lists

or_left : {a : Bool} (b : Bool) → a ≡ true → (a || b) ≡ true
or_left b e = rw e refl

or_right : (a : Bool) {b : Bool} → b ≡ true → (a || b) ≡ true
or_right true e = refl
or_right false e = e

any_at : {A : Type 0} (test : A → Bool) (x : A) → test x ≡ true → (xs : List A) (k : ℕ) → k < length xs → slice_index_or xs k x ≡ x → list_any test xs ≡ true
any_at test x t [] k lt e = absurd (omega arith)
any_at test x t (y ∷ ys) zero lt e = or_left (list_any test ys) (ap test e ∙ t)
any_at test x t (y ∷ ys) (suc k) lt e = or_right (test y) (any_at test x t ys k (le_of_suc-le-suc lt) e)

contained : (ns : List ℕ) (n : ℕ) → Contains ns n → has n ns ≡ true
contained ns n c = any_at (λ m. m == n) n (eq-eqb n n refl) ns c.0 c.1 c.2

any_weaker : {A : Type 0} (p q : A → Bool) → ((x : A) → p x ≡ true → q x ≡ true) → (xs : List A) → list_any p xs ≡ true → list_any q xs ≡ true
any_weaker p q h [] e = e
any_weaker p q h (x ∷ xs) e = ⊎_elim (λ a. or_left (list_any q xs) (h x a)) (λ b. or_right (q x) (any_weaker p q h xs b)) (or_parts (p x) (list_any p xs) e)

module _ (typed : Typed) where
  -- ---- calls of calls

  one_call : (n f g : ℕ) → has g (calls_in (slice_get typed.funcs f)) ≡ true → reaches typed n f g ≡ true
  one_call zero f g e = e
  one_call (suc n) f g e = or_left (reaches typed n f n && reaches typed n n g) (one_call n f g e)

  to_last : (n f : ℕ) → reaches typed (suc n) f n ≡ true → reaches typed n f n ≡ true
  to_last n f p =
      ⊎_elim (λ a. a) (λ b. (and_parts (reaches typed n f n) (reaches typed n n n) b).0) (or_parts (reaches typed n f n) (reaches typed n f n
      && reaches typed n n n) p)

  from_last : (n g : ℕ) → reaches typed (suc n) n g ≡ true → reaches typed n n g ≡ true
  from_last n g p =
      ⊎_elim (λ a. a) (λ b. (and_parts (reaches typed n n n) (reaches typed n n g) b).1) (or_parts (reaches typed n n g) (reaches typed n n n
      && reaches typed n n g) p)

  by_last : (n f g : ℕ) → reaches typed n f n ≡ true → reaches typed n n g ≡ true → reaches typed (suc n) f g ≡ true
  by_last n f g p q = or_right (reaches typed n f g) (and_both p q)

  -- what is reached through one of the first so many functions is reached
  through : (n f m g : ℕ) → m < n → reaches typed n f m ≡ true → reaches typed n m g ≡ true → reaches typed n f g ≡ true
  through zero f m g lt p q = absurd (omega arith)
  through (suc n) f m g lt p q = ⊎_elim
      (λ e. by_last n f g (to_last n f (ap (reaches typed (suc n) f) (sym e) ∙ p)) (from_last n g (ap (λ k. reaches typed (suc n) k g) (sym e) ∙ q)))
      (λ lt. ⊎_elim
      (λ a. ⊎_elim
      (λ b. or_left (reaches typed n f n && reaches typed n n g) (through n f m g lt a b))
      (λ b. let c = and_parts (reaches typed n m n) (reaches typed n n g) b in by_last n f g (through n f m n lt a c.0) c.1)
      (or_parts (reaches typed n m g) (reaches typed n m n && reaches typed n n g) q))
      (λ a. let d = and_parts (reaches typed n f n) (reaches typed n n m) a in ⊎_elim
      (λ b. by_last n f g d.0 (through n n m g lt d.1 b))
      (λ b. by_last n f g d.0 (and_parts (reaches typed n m n) (reaches typed n n g) b).1)
      (or_parts (reaches typed n m g) (reaches typed n m n && reaches typed n n g) q))
      (or_parts (reaches typed n f m) (reaches typed n f n && reaches typed n n m) p))
      (eq-or-lt_of_le (le_of_suc-le-suc lt))

  -- ---- a statement

  abbrev all : ℕ
  all = length typed.funcs

  pub is_found : (s : TStmt) {f : ℕ} → Reached typed s f → is_reached typed s f ≡ true
  unfolding is_reached
  is_found s (directly f c) = or_left (list_any (λ e. reaches typed all e f) (calls_of (terms s))) (contained (calls_of (terms s)) f c)
  is_found s (further g func f r stands c) =
      let step = one_call all g f (ap (λ m. has f (calls_in m)) stands ∙ contained (calls_of (terms_of func.body)) f c) in
      or_right (has f (calls_of (terms s))) (⊎_elim
      (λ a. any_weaker (λ e. e == g) (λ e. reaches typed all e f) (λ e same. ap (λ k. reaches typed all k f) (eqb-true e g same) ∙ step) (calls_of (terms s)) a)
      (λ b. any_weaker (λ e. reaches typed all e g) (λ e. reaches typed all e f)
      (λ e there. through all e g f (slice_get_within typed.funcs g func stands) there step) (calls_of (terms s)) b)
      (or_parts (has g (calls_of (terms s))) (list_any (λ e. reaches typed all e g) (calls_of (terms s))) (is_found s r)))
