-- The reducible variables, as they are gathered.
use Rattle.std.proofs.Common.{◌≡◌, ◌<◌, ◌≤◌, ◌+◌, ℕ, zero, suc, List, [], ◌∷◌, ◌++◌, length, drop, take, get_or, Option, Some, None, refl, sym, ap, ◌∙◌, arith, append_assoc, length-append}
use Rattle.std.proofs.lemmas.List.{drop_more, take-append-le, append-nil}
use Rattle.std.proofs.lemmas.List.Folds.{list_any-append}
use Rattle.std.specs.Prelude.{Bool, true, false, ◌||◌, if◌then◌else◌}
use Rattle.std.specs.List.{list_any, filter_map}
use Rattle.al_core.specs.declared.values.Addr.{Addr}
use Rattle.al_core.specs.Orders.{addr_eq}
use Rattle.al_rules.specs.Candidates.{firsts}

or_turn : (a b : Bool) → (a || (b || false)) ≡ (b || a)
or_turn true true = refl
or_turn true false = refl
or_turn false true = refl
or_turn false false = refl

-- the variables so far, the last first
abbrev pub turned : List Addr → List Addr
turned [] = []
turned (a ∷ rest) = turned rest ++ a ∷ []

any_turned : (p : Addr → Bool) (seen : List Addr) → list_any p (turned seen) ≡ list_any p seen
any_turned p [] = refl
any_turned p (a ∷ rest) = list_any-append p (turned rest) (a ∷ []) ∙ ap (λ b. b || (p a || false)) (any_turned p rest) ∙ or_turn (list_any p rest) (p a)

turned_more : (seen : List Addr) (a : Addr) → turned (seen ++ a ∷ []) ≡ a ∷ turned seen
turned_more [] a = refl
turned_more (b ∷ rest) a = ap (λ l. l ++ b ∷ []) (turned_more rest a)

next_of : {A : Type 0} (xs : List A) (i : ℕ) (a d : A) → i < length xs → a ≡ get_or xs i d → drop i xs ≡ a ∷ drop (i + 1) xs
next_of xs i a d within is = drop_more xs i d within ∙ ap (λ x. x ∷ drop (i + 1) xs) (sym is)

-- the variables so far, and then those that are left
abbrev pub firsts_after : List Addr → List Addr → List Addr
firsts_after seen left = seen ++ firsts (turned seen) left

-- a variable that is there
pub again : (seen names : List Addr) (i : ℕ) (a d : Addr) → i < length names → a ≡ get_or names i d → list_any (addr_eq a) seen ≡ true
    → firsts_after seen (drop i names) ≡ firsts_after seen (drop (i + 1) names)
again seen names i a d within is there =
    ap (firsts_after seen) (next_of names i a d within is)
    ∙ ap (λ b. seen
    ++ (if b then firsts (turned seen) (drop (i + 1) names) else a ∷ firsts (a ∷ turned seen) (drop (i + 1) names))) (any_turned (addr_eq a) seen ∙ there)

-- a new one
pub another : (seen more names : List Addr) (i : ℕ) (a d : Addr) → more ≡ seen ++ a ∷ [] → i < length names → a ≡ get_or names i d
    → list_any (addr_eq a) seen ≡ false → firsts_after seen (drop i names) ≡ firsts_after more (drop (i + 1) names)
another seen more names i a d grown within is there =
    ap (firsts_after seen) (next_of names i a d within is)
    ∙ ap (λ b. seen
    ++ (if b then firsts (turned seen) (drop (i + 1) names) else a ∷ firsts (a ∷ turned seen) (drop (i + 1) names))) (any_turned (addr_eq a) seen ∙ there)
    ∙ sym (append_assoc seen (a ∷ []) (firsts (a ∷ turned seen) (drop (i + 1) names)))
    ∙ ap (λ l. (seen ++ a ∷ []) ++ firsts l (drop (i + 1) names)) (sym (turned_more seen a))
    ∙ ap (λ l. firsts_after l (drop (i + 1) names)) (sym grown)

-- ---- the first ones that count

pub one_longer : {B : Type 0} (most : ℕ) (done more : List B) (b : B) → more ≡ done ++ b ∷ [] → length done < most → length more ≤ most
one_longer most done more b grown below = omega (arith, ap length grown, length-append done (b ∷ []))

pub no_longer : {B : Type 0} (most : ℕ) (done more : List B) → more ≡ done → length done ≤ most → length more ≤ most
no_longer most done more same below = omega (arith, ap length same)

take_all : {A : Type 0} (n : ℕ) (xs : List A) → length xs ≤ n → take n xs ≡ xs
take_all zero [] h = refl
take_all (suc n) [] h = refl
take_all zero (x ∷ xs) h = absurd (omega arith)
take_all (suc n) (x ∷ xs) h = ap (λ l. x ∷ l) (take_all n xs (omega arith))

module _ {A B : Type 0} (g : A → Option B) (most : ℕ) where
  -- those so far, and then those of what is left, as far as they count
  unfoldable pub counted : List B → List A → List B
  counted done left = take most (done ++ filter_map g left)

  pub counted_none : (done : List B) (xs : List A) (i : ℕ) (a d : A) → i < length xs → a ≡ get_or xs i d → g a ≡ None
      → counted done (drop i xs) ≡ counted done (drop (i + 1) xs)
  unfolding counted
  counted_none done xs i a d within is none = rw (next_of xs i a d within is, none) refl

  pub counted_one : (done more : List B) (xs : List A) (i : ℕ) (a d : A) (b : B) → more ≡ done ++ b ∷ [] → i < length xs → a ≡ get_or xs i d → g a ≡ Some b
      → counted done (drop i xs) ≡ counted more (drop (i + 1) xs)
  unfolding counted
  counted_one done more xs i a d b grown within is some = rw (next_of xs i a d within is, some, grown, append_assoc) refl

  pub counted_full : (done : List B) (xs ys : List A) → most ≤ length done → counted done xs ≡ counted done ys
  unfolding counted
  counted_full done xs ys full = take-append-le most done (filter_map g xs) full ∙ sym (take-append-le most done (filter_map g ys) full)

  pub counted_end : (done : List B) → length done ≤ most → counted done [] ≡ done
  unfolding counted
  counted_end done h = rw append-nil (take_all most done h)

  pub counted_all : (xs : List A) → take most (filter_map g xs) ≡ counted [] xs
  unfolding counted
  counted_all xs = refl
