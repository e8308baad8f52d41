-- Names in lists, as the code looks them up.
use denote.Ref.{Bor}
use Rattle.std.proofs.Common.{◌≡◌, ℕ, Bool, true, false, cond, nat_lt, nat_eq, List, [], ◌∷◌, ◌++◌, map, length, if◌then◌else◌, Some, None, refl, sym, ap, ap₂, ◌∙◌, arith}
use Rattle.std.proofs.lemmas.Bool.Decides.{nat_tests}
use Rattle.std.specs.Prelude.{slice_get, option_and_then}
use Rattle.std.specs.List.{list_any, position, position_or_len, find}
use Rattle.std.specs.Cmp.Lexicographic.{pointwise}
use Rattle.std.specs.Str.{bytes_eq}
use Rattle.std.proofs.lemmas.Cmp.{nat_list_eq_equiv}
use Rattle.std.proofs.lemmas.List.{length-map, map_push}
use Rattle.std.proofs.lemmas.List.Folds.{find_at}
use Rattle.std.proofs.lemmas.Option.{slice_get_past}
use Rattle.al_source.specs.declared.source_tree.StructDef.{StructDef}
use Rattle.al_rules.specs.Names.{Name, place_named, any_named}
use Rattle.al_rules.specs.Scopes.{is_struct}
use Rattle.al_type_names.specs.NameLists.{with_name, named_in}

same_name : (a b : Name) → bytes_eq a b ≡ bytes_eq b a
same_name a b = nat_list_eq_equiv.symm a b

module _ {A B : Type 0} (p : A → Bool) (q : B → Bool) (f : A → B) (same : (x : A) → p x ≡ q (f x)) where
  any_map : (xs : List A) → list_any p xs ≡ list_any q (map f xs)
  any_map [] = refl
  any_map (x ∷ xs) = rw (same x, any_map xs) refl

  first_map : (xs : List A) → position_or_len p xs ≡ position_or_len q (map f xs)
  first_map [] = refl
  first_map (x ∷ xs) = rw (same x, first_map xs) refl

  position_map : (xs : List A) → position p xs ≡ position q (map f xs)
  position_map xs = ap₂ (λ at len. cond (nat_lt at len) (Some at) None) (first_map xs) (sym (length-map xs f))

-- ---- of the keys of a set

abbrev key : Bor Name → Name
key k = k.now

pub any_key : (name : Name) (ks : List (Bor Name)) → list_any (λ k. pointwise nat_eq name k.now) ks ≡ any_named (λ n. n) name (map (λ k. k.now) ks)
any_key name ks = any_map (λ (k : Bor Name). pointwise nat_eq name k.now) (λ n. bytes_eq n name) key (λ k. same_name name k.now) ks

pub place_key : (name : Name) (ks : List (Bor Name)) → position (λ k. pointwise nat_eq name k.now) ks ≡ place_named (λ n. n) name (map (λ k. k.now) ks)
place_key name ks = position_map (λ (k : Bor Name). pointwise nat_eq name k.now) (λ n. bytes_eq n name) key (λ k. same_name name k.now) ks

with_key_by : (b : Bool) (k : Bor Name) (ks : List (Bor Name)) → map key (if b then ks else ks ++ k ∷ []) ≡ (if b then map key ks else map key ks ++ k.now ∷ [])
with_key_by true k ks = refl
with_key_by false k ks = map_push key ks k

pub with_key : (k : Bor Name) (ks : List (Bor Name))
    → map (λ k. k.now) (if list_any (λ l. pointwise nat_eq k.now l.now) ks then ks else ks ++ k ∷ []) ≡ with_name k.now (map (λ k. k.now) ks)
with_key k ks =
    with_key_by (list_any (λ (l : Bor Name). pointwise nat_eq k.now l.now) ks) k ks
    ∙ ap (λ b. if b then map key ks else map key ks ++ k.now ∷ []) (any_key k.now ks)

-- ---- of definitions

module _ {A : Type 0} (name_of : A → Name) where
  pub any_of_names : (name : Name) (xs : List A) → any_named name_of name xs ≡ any_named (λ n. n) name (map name_of xs)
  any_of_names name xs = any_map (λ x. bytes_eq (name_of x) name) (λ n. bytes_eq n name) name_of (λ x. refl) xs

  pub place_of_names : (name : Name) (xs : List A) → place_named name_of name xs ≡ place_named (λ n. n) name (map name_of xs)
  place_of_names name xs = position_map (λ x. bytes_eq (name_of x) name) (λ n. bytes_eq n name) name_of (λ x. refl) xs

find_by : {A : Type 0} (xs : List A) (at : ℕ) (b : Bool) → nat_lt at (length xs) ≡ b
    → slice_get xs at ≡ option_and_then (λ k. slice_get xs k) (cond b (Some at) None)
find_by xs at true is = refl
find_by xs at false is = slice_get_past xs at (grind (arith, nat_tests))

-- the first that passes stands at the first place
pub find_at_place : {A : Type 0} (p : A → Bool) (xs : List A) → find p xs ≡ option_and_then (λ k. slice_get xs k) (position p xs)
find_at_place p xs = find_at p xs ∙ find_by xs (position_or_len p xs) (nat_lt (position_or_len p xs) (length xs)) refl

-- with a new name
pub with_new : {A : Type 0} (name_of : A → Name) (xs : List A) (x : A) → any_named name_of (name_of x) xs ≡ false
    → with_name (name_of x) (map name_of xs) ≡ map name_of (xs ++ x ∷ [])
with_new name_of xs x none =
    ap (λ b. if b then map name_of xs else map name_of xs ++ name_of x ∷ []) (sym (any_of_names name_of (name_of x) xs) ∙ none)
    ∙ sym (map_push name_of xs x)

-- the names of structs, and the structs
pub structs_named : (structs : List StructDef) → named_in (map (λ s. s.name) structs) ≡ is_struct structs
structs_named structs = λ i name. sym (any_of_names (λ (s : StructDef). s.name) name structs) i
