-- Terms of a statement in which all places are whole.
use Rattle.std.proofs.Common.{◌≡◌, List, [], ◌∷◌, true}
use Rattle.std.specs.List.{AllByRecursion, list_all}
use Rattle.al_core.specs.declared.typed_tree.TExpr.{TExpr}
use Rattle.al_core.specs.declared.typed_tree.TPlace.{TPlace}
use Rattle.al_core.specs.declared.typed_tree.Typed.{Typed}
use Rattle.al_core.specs.Accepted.{Terms, both_terms}
use Rattle.al_graded_laws.proofs.Graded.{each_left, each_right, both_left, both_right}
use Rattle.al_kinds_laws.specs.Whole.{whole, whole_at, whole_in}

pub record WholeTerms (typed : Typed) (t : Terms) : Type 0 where
  pub exprs : AllByRecursion (λ e. whole typed e ≡ true) t.exprs
  pub places : AllByRecursion (λ p. (whole_at typed p).0 ≡ true) t.places

module _ (typed : Typed) where
  pub whole_left : (s t : Terms) → WholeTerms typed (both_terms s t) → WholeTerms typed s
  whole_left s t u = record {
    exprs = each_left (λ e. whole typed e ≡ true) s.exprs t.exprs u.exprs;
    places = each_left (λ p. (whole_at typed p).0 ≡ true) s.places t.places u.places;
  }

  pub whole_right : (s t : Terms) → WholeTerms typed (both_terms s t) → WholeTerms typed t
  whole_right s t u = record {
    exprs = each_right (λ e. whole typed e ≡ true) s.exprs t.exprs u.exprs;
    places = each_right (λ p. (whole_at typed p).0 ≡ true) s.places t.places u.places;
  }

  all_exprs : (es : List TExpr) → list_all (whole typed) es ≡ true → AllByRecursion (λ e. whole typed e ≡ true) es
  all_exprs [] h = tt
  all_exprs (e ∷ es) h = (both_left (whole typed e) _ h, all_exprs es (both_right (whole typed e) _ h))

  all_places : (ps : List TPlace) → list_all (λ p. (whole_at typed p).0) ps ≡ true → AllByRecursion (λ p. (whole_at typed p).0 ≡ true) ps
  all_places [] h = tt
  all_places (p ∷ ps) h = (both_left (whole_at typed p).0 _ h, all_places ps (both_right (whole_at typed p).0 _ h))

  -- by the test of a list of terms
  pub whole_terms : (t : Terms) → whole_in typed t ≡ true → WholeTerms typed t
  whole_terms t u = record {
    exprs = all_exprs t.exprs (both_left (list_all (whole typed) t.exprs) _ u);
    places = all_places t.places (both_right (list_all (whole typed) t.exprs) _ u);
  }
