-- Lists that are gathered one by one, each item behind those that are done.
use Rattle.std.proofs.Common.{◌≡◌, ℕ, ◌+◌, ◌<◌, ◌≤◌, List, [], ◌∷◌, ◌++◌, length, drop, get_or, Result, Ok, Err, refl, sym, ap, ◌∙◌, append_assoc, append-nil}
use Rattle.std.proofs.lemmas.List.{drop_more, drop_all}
use Rattle.al_rules.specs.declared.faults.TypeKind.{TypeKind}
use Rattle.al_source.specs.Steps.{and_then}
use Rattle.al_rules.specs.Checks.{Checked, each}

abbrev pub behind : {A F : Type 0} → List A → Result (List A) F → Result (List A) F
behind done r = and_then r (λ more. Ok (done ++ more))

-- all, from none on
pub behind_nothing : {A F : Type 0} (r : Result (List A) F) → r ≡ behind [] r
behind_nothing (Ok xs) = refl
behind_nothing (Err f) = refl

-- no more
pub behind_all : {A F : Type 0} (done : List A) → behind {F = F} done (Ok []) ≡ Ok done
behind_all done = ap Ok (append-nil done)

-- one more
pub behind_one : {A F : Type 0} (done : List A) (x : A) (r : Result (List A) F) → behind done (and_then r (λ xs. Ok (x ∷ xs))) ≡ behind (done ++ x ∷ []) r
behind_one done x (Ok xs) = ap Ok (sym (append_assoc done (x ∷ []) xs))
behind_one done x (Err f) = refl

pub ruleset gathered = (behind_nothing, behind_all, behind_one)

-- ---- beside something else

module _ {A S F : Type 0} where
  abbrev pub behind_with : List A → Result (List A × S) F → Result (List A × S) F
  behind_with done r = and_then r (λ more. Ok (done ++ more.0, more.1))

  pub with_nothing : (r : Result (List A × S) F) → r ≡ behind_with [] r
  with_nothing (Ok xs) = refl
  with_nothing (Err f) = refl

  pub with_all : (done : List A) (s : S) → behind_with done (Ok ([], s)) ≡ Ok (done, s)
  with_all done s = ap (λ xs. Ok (xs, s)) (append-nil done)

  pub with_one : (done : List A) (x : A) (r : Result (List A × S) F)
      → behind_with done (and_then r (λ xs. Ok (x ∷ xs.0, xs.1))) ≡ behind_with (done ++ x ∷ []) r
  with_one done x (Ok xs) = ap (λ all. Ok (all, xs.1)) (sym (append_assoc done (x ∷ []) xs.0))
  with_one done x (Err f) = refl

pub ruleset gathered_with = (with_nothing, with_all, with_one)

-- ---- of a loop that goes over a list, at a place

pub next_of : {A : Type 0} (xs : List A) (i : ℕ) (x : A) → i < length xs → x ≡ get_or xs i x → drop i xs ≡ x ∷ drop (i + 1) xs
next_of xs i x within is = drop_more xs i x within ∙ ap (λ y. y ∷ drop (i + 1) xs) (sym is)

module _ {A B : Type 0} (f : A → Checked B) where
  -- one more
  pub each_more : (done new : List B) (xs : List A) (i : ℕ) (x : A) (y : B) → i < length xs → x ≡ get_or xs i x → new ≡ done ++ y ∷ [] → f x ≡ Ok y
      → behind done (each f (drop i xs)) ≡ behind new (each f (drop (i + 1) xs))
  each_more done new xs i x y within is grown got =
      ap (λ l. behind done (each f l)) (next_of xs i x within is)
      ∙ ap (λ r. behind done (and_then r (λ b. and_then (each f (drop (i + 1) xs)) (λ bs. Ok (b ∷ bs))))) got
      ∙ behind_one done y (each f (drop (i + 1) xs)) ∙ ap (λ d. behind d (each f (drop (i + 1) xs))) (sym grown)

  -- the first fault
  pub each_fault : (told : Checked (List B)) (done : List B) (xs : List A) (i : ℕ) (x : A) (k : TypeKind) → told ≡ behind done (each f (drop i xs))
      → i < length xs → x ≡ get_or xs i x → f x ≡ Err k → told ≡ Err k
  each_fault told done xs i x k so_far within is got =
      so_far ∙ ap (λ l. behind done (each f l)) (next_of xs i x within is)
      ∙ ap (λ r. behind done (and_then r (λ b. and_then (each f (drop (i + 1) xs)) (λ bs. Ok (b ∷ bs))))) got

  -- all
  pub each_end : (told : Checked (List B)) (done : List B) (xs : List A) (i : ℕ) → told ≡ behind done (each f (drop i xs)) → length xs ≤ i → told ≡ Ok done
  each_end told done xs i so_far past = so_far ∙ ap (λ l. behind done (each f l)) (drop_all i xs past) ∙ behind_all done
