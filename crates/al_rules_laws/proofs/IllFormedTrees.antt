-- What no well-formed tree has.
use Rattle.std.proofs.Common.{◌≡◌, ℕ, zero, suc, ◌≤◌, ◌&&◌, Bool, false, List, [], ◌∷◌, map, length, Option, Some, None, slice_get, refl, ap, ◌∙◌, arith}
use Rattle.al_core.specs.declared.values.Kind.{Kind}
use Rattle.al_core.specs.declared.values.Kind.TheVariants.{Int}
use Rattle.al_core.specs.declared.typed_tree.TExpr.{TExpr}
use Rattle.al_core.specs.declared.typed_tree.TExpr.TheVariants as expr
use Rattle.al_core.specs.declared.typed_tree.TPlace.{TPlace}
use Rattle.al_core.specs.declared.typed_tree.TPlace.TheVariants as place
use Rattle.al_core.specs.declared.typed_tree.TKind.TheVariants as stmt
use Rattle.al_core.specs.declared.typed_tree.TLocal.{TLocal}
use Rattle.al_core.specs.declared.typed_tree.Typed.{Typed}
use Rattle.al_rules.specs.WellFormed.{PlaceKind, local_kind, is_some_kind, gives, global_kind, fit_params, fits, place_kind, sets_formed, formed_in}
use Rattle.al_rules.proofs.WellFormedNodes.{fits-Local, fits-Addr, fits-Call, fits-Free, place-Global, formed-SetLocal}

past_end : {A : Type 0} (xs : List A) (n : ℕ) → length xs ≤ n → slice_get xs n ≡ None
past_end [] n le = refl
past_end (x ∷ xs) zero le = absurd (omega arith)
past_end (x ∷ xs) (suc n) le = past_end xs n (omega arith)

module _ (typed : Typed) (results : List (Option Kind)) (locals : List TLocal) where
  pub no_local : (n : ℕ) (want : Kind) → length locals ≤ n → fits typed results locals (expr.Local n) want ≡ false
  no_local n want le = fits-Local typed results locals n want ∙ ap (λ v. is_some_kind (local_kind v) want) (past_end locals n le)

  pub no_global : (n : ℕ) → length typed.globals ≤ n → (place_kind typed results locals (place.Global n)).formed ≡ false
  no_global n le = ap (λ (p : PlaceKind). p.formed) (place-Global typed results locals n ∙ ap global_kind (past_end typed.globals n le))

  pub no_value : (f : ℕ) (xs : List TExpr) (want : Kind) → slice_get results f ≡ Some None → fits typed results locals (expr.Call f xs) want ≡ false
  no_value f xs want e =
      fits-Call typed results locals f xs want ∙ ap (λ g. gives g want && fit_params (map (fits typed results locals) xs) (slice_get typed.funcs f)) e

  pub no_pointer : (result : Option Kind) (n : ℕ) (v : TLocal) (q : TPlace) (looped : Bool)
      → slice_get locals n ≡ Some v → v.kind ≡ Int → formed_in typed results locals result (stmt.SetLocal n (expr.Addr q)) looped ≡ false
  no_pointer result n v q looped at int =
      formed-SetLocal typed results locals result n (expr.Addr q) looped
      ∙ ap (λ m. sets_formed typed results locals (local_kind m) (expr.Addr q)) at
      ∙ ap (fits typed results locals (expr.Addr q)) int
      ∙ fits-Addr typed results locals q Int

  pub no_free : (x : TExpr) (want : Kind) → fits typed results locals (expr.Free x) want ≡ false
  no_free x want = fits-Free typed results locals x want

pub ruleset ill_formed = (no_local, no_global, no_value, no_free, no_pointer)
