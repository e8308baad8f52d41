-- Functions that mention none of some addresses obey rules that forbid no more, where all locals are allowed.
use Rattle.std.proofs.Common.{◌≡◌, ℕ, List, [], ◌∷◌, true, false}
use Rattle.std.specs.List.{AllByRecursion, list_any}
use Rattle.al_core.specs.declared.values.Addr.{Addr}
use Rattle.al_core.specs.declared.typed_tree.TExpr.{TExpr}
use Rattle.al_core.specs.declared.typed_tree.TPlace.{TPlace}
use Rattle.al_core.specs.declared.typed_tree.TStmt.{TStmt}
use Rattle.al_core.specs.Accepted.{Terms, terms_of, mentions, mentions_at, mentions_in}
use Rattle.al_laws.proofs.Stays.{or_left, or_right}
use Rattle.al_graded_laws.specs.Rules.{Rules, stmts_obey}
use Rattle.al_graded_laws.specs.InRange.{in_range}
use Rattle.al_graded_laws.proofs.ObeyingTerms.{Spared, spared_obey}
use Rattle.al_reductions_laws.proofs.Mentions.{Permits, Unmentioned, UnmentionedAt, unmentioned_obeys, unmentioned_obeys_at}

module _ (Watched : Addr → Type 0) (r : Rules) (permits : Permits Watched r) (locals : (k : ℕ) → r.local k ≡ true) where
  abbrev U : TExpr → Type 0
  U = Unmentioned Watched r permits

  abbrev UA : TPlace → Type 0
  UA = UnmentionedAt Watched r permits

  abbrev Unwatched : Terms → Type 0
  Unwatched =
      Spared r locals permits.literal U UA (unmentioned_obeys Watched r permits) (λ p o m. (unmentioned_obeys_at Watched r permits p o m).place)

  none_mentions : (es : List TExpr) → ((a : Addr) → Watched a → list_any (mentions a) es ≡ false) → AllByRecursion U es
  none_mentions [] h = tt
  none_mentions (e ∷ es) h = (
    λ a w. or_left (mentions a e) (list_any (mentions a) es) (h a w),
    none_mentions es
        (λ a w. or_right (mentions a e) (list_any (mentions a) es) (h a w)),
  )

  none_mentions_at : (ps : List TPlace) → ((a : Addr) → Watched a → list_any (mentions_at a) ps ≡ false) → AllByRecursion UA ps
  none_mentions_at [] h = tt
  none_mentions_at (p ∷ ps) h = (
    λ a w. or_left (mentions_at a p) (list_any (mentions_at a) ps) (h a w),
    none_mentions_at ps
        (λ a w. or_right (mentions_at a p) (list_any (mentions_at a) ps) (h a w)),
  )

  unwatched : (t : Terms) → ((a : Addr) → Watched a → mentions_in a t ≡ false) → Unwatched t
  unwatched t h = record {
    exprs = none_mentions t.exprs (λ a w. or_left (list_any (mentions a) t.exprs) (list_any (mentions_at a) t.places) (h a w));
    places = none_mentions_at t.places (λ a w. or_right (list_any (mentions a) t.exprs) (list_any (mentions_at a) t.places) (h a w));
  }

  -- the statements of a function
  pub unwatched_obey : (ds : List TStmt) → stmts_obey in_range ds ≡ true → ((a : Addr) → Watched a → mentions_in a (terms_of ds) ≡ false)
      → stmts_obey r ds ≡ true
  unwatched_obey ds o m =
      spared_obey r locals permits.literal U UA (unmentioned_obeys Watched r permits) (λ p o m. (unmentioned_obeys_at Watched r permits p o m).place) ds o
      (unwatched (terms_of ds) m)
