-- Functions that stand in the calls of a statement may be called.
use Rattle.std.proofs.Common.{ℕ, suc, List, [], ◌∷◌, map, Contains, refl, arith}
use Rattle.std.specs.List.{AllByRecursion}
use Rattle.std.proofs.lemmas.List.Elements.{Contains-append_left, Contains-append_right}
use Rattle.al_core.specs.Accepted.{Terms, calls, calls_at, all_called, calls_of}
use Rattle.al_graded_laws.specs.Rules.{MayCallIn}

module _ (called : ℕ → Type 0) where
  each_called : (fs : List ℕ) → ((f : ℕ) → Contains fs f → called f) → AllByRecursion called fs
  each_called [] h = tt
  each_called (g ∷ fs) h = (h g (0, omega arith, refl), each_called fs (λ f c. let l = c.1 in h f (suc c.0, omega arith, c.2)))

  by_lists : {X : Type 0} (g : X → List ℕ) (xs : List X) → ((f : ℕ) → Contains (all_called (map g xs)) f → called f)
      → AllByRecursion (λ x. AllByRecursion called (g x)) xs
  by_lists g [] h = tt
  by_lists g (x ∷ xs) h = (
    each_called (g x) (λ f c. h f (Contains-append_left (g x) (all_called (map g xs)) f c)),
    by_lists g xs
        (λ f c. h f (Contains-append_right (g x) (all_called (map g xs)) f c)),
  )

  pub may_call_in : (t : Terms) → ((f : ℕ) → Contains (calls_of t) f → called f) → MayCallIn called t
  may_call_in t h = record {
    exprs = by_lists calls t.exprs (λ f c. h f (Contains-append_left (all_called (map calls t.exprs)) (all_called (map calls_at t.places)) f c));
    places = by_lists calls_at t.places (λ f c. h f (Contains-append_right (all_called (map calls t.exprs)) (all_called (map calls_at t.places)) f c));
  }
