-- The names in scope, of the list in which the code keeps them: the outermost first, and the innermost scope from a place on.
use Rattle.std.proofs.Common.{◌≡◌, ℕ, ◌-◌, ◌≤◌, Bool, true, false, cond, ◌||◌, List, [], ◌∷◌, ◌++◌, map, reverse, take, drop, length, Option, Some, refl, sym, ap, ap₂, ◌∙◌, arith, length-append, take-append-drop}
use Rattle.std.specs.Prelude.{option_map}
use Rattle.std.specs.List.{list_any, find}
use Rattle.std.proofs.lemmas.List.{map-append, length-map, reverse-append, length-reverse, length-drop, take_all, drop_all}
use Rattle.std.proofs.lemmas.List.Sorted.{list_any-IsPermutation, IsPermutation-reverse}
use Rattle.std.proofs.Math.Seq.{take-append_seam, drop-append_seam}
use Rattle.al_rules.specs.Scopes.{Binding, Scope, in_scope, nested}
use Rattle.al_type_names.specs.declared.scope.Binding.{Binding as Kept}
use Rattle.al_type_names.specs.Bindings.{binding_of, without_inner}

abbrev pub seen : List Kept → ℕ → Scope
seen xs start = record { inner = map binding_of (reverse (drop start xs)); outer = map binding_of (reverse (take start xs)) }

split : (xs : List Kept) (start : ℕ) → map binding_of (reverse xs) ≡ map binding_of (reverse (drop start xs)) ++ map binding_of (reverse (take start xs))
split xs start =
    ap (λ l. map binding_of (reverse l)) (sym (take-append-drop start xs))
    ∙ ap (λ l. map binding_of l) (reverse-append (take start xs) (drop start xs))
    ∙ map-append binding_of (reverse (drop start xs)) (reverse (take start xs))

module _ {A B : Type 0} (p : B → Bool) (f : A → B) where
  any_map : (xs : List A) → list_any (λ x. p (f x)) xs ≡ list_any p (map f xs)
  any_map [] = refl
  any_map (x ∷ xs) = ap (λ b. p (f x) || b) (any_map xs)

  either : (b : Bool) (x : A) (r : Option A) → option_map f (cond b (Some x) r) ≡ cond b (Some (f x)) (option_map f r)
  either true x r = refl
  either false x r = refl

  find_map : (xs : List A) → option_map f (find (λ x. p (f x)) xs) ≡ find p (map f xs)
  find_map [] = refl
  find_map (x ∷ xs) = either (p (f x)) x (find (λ x. p (f x)) xs) ∙ ap (λ r. cond (p (f x)) (Some (f x)) r) (find_map xs)

-- what is in scope, the last first
pub find_seen : (p : Binding → Bool) (xs : List Kept) (start : ℕ)
    → option_map binding_of (find (λ b. p (binding_of b)) (reverse xs)) ≡ find p (in_scope (seen xs start))
find_seen p xs start = find_map p binding_of (reverse xs) ∙ ap (λ l. find p l) (split xs start)

pub any_seen : (p : Binding → Bool) (xs : List Kept) (start : ℕ) → list_any (λ b. p (binding_of b)) (drop start xs) ≡ list_any p (seen xs start).inner
any_seen p xs start =
    list_any-IsPermutation (λ b. p (binding_of b)) (drop start xs) (reverse (drop start xs)) (IsPermutation-reverse (drop start xs))
    ∙ any_map p binding_of (reverse (drop start xs))

-- a scope that begins behind all names
pub seen_inside : (xs : List Kept) (start : ℕ) → seen xs (length xs) ≡ nested (seen xs start)
seen_inside xs start = λ i. record {
  inner = map binding_of (reverse (drop_all (length xs) xs (omega arith) i));
  outer = (ap (λ l. map binding_of (reverse l)) (take_all (length xs) xs (omega arith)) ∙ split xs start) i;
}

-- the scope around, where only the names of the inner one are left out
pub seen_outside : (xs : List Kept) (start mark : ℕ) → mark ≤ length (seen xs start).outer → seen (take start xs) mark ≡ without_inner mark (seen xs start)
seen_outside xs start mark within =
    let ys : List Kept = take start xs in
    let inner = map binding_of (reverse (drop mark ys)) in
    let outer = map binding_of (reverse (take mark ys)) in
    let all : (seen xs start).outer ≡ inner ++ outer = split ys mark in
    let count : length (seen xs start).outer - mark ≡ length inner =
    ap (λ n. n - mark) (length-map (reverse ys) binding_of ∙ length-reverse ys)
    ∙ sym (length-map (reverse (drop mark ys)) binding_of ∙ length-reverse (drop mark ys) ∙ length-drop mark ys) in
    λ i. record {
      inner = (sym (take-append_seam inner outer) ∙ ap₂ (λ n l. take n l) (sym count) (sym all)) i;
      outer = (sym (drop-append_seam inner outer) ∙ ap₂ (λ n l. drop n l) (sym count) (sym all)) i;
    }

-- back to the scope around
pub left_scope : (s t : Scope) → t.outer ≡ in_scope s → without_inner (length s.outer) t ≡ s
left_scope s t around =
    let count : length t.outer - length s.outer ≡ length s.inner = omega (arith, ap length around, length-append s.inner s.outer) in
    λ i. record {
      inner = (ap₂ (λ n l. take n l) count around ∙ take-append_seam s.inner s.outer) i;
      outer = (ap₂ (λ n l. drop n l) count around ∙ drop-append_seam s.inner s.outer) i;
    }
