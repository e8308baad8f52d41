-- Induction over trees, with the facts of the parts beside the parts; and folds one after another.
use Rattle.std.proofs.Common.{◌≡◌, List, [], ◌∷◌, map, Some, None, refl, sym, ap, ◌∙◌, subst}
use Rattle.al_core.specs.declared.typed_tree.TExpr.{TExpr, ind-TExpr, map-TExpr, fold-TExpr, fold-roll-TExpr}
use Rattle.al_core.specs.declared.typed_tree.TPlace.{TPlace, ind-TPlace, map-TPlace, fold-TPlace, fold-roll-TPlace}
use Rattle.al_core.specs.declared.typed_tree.TExpr.TheViews.{roll-TExpr, roll-TPlace}
use Rattle.al_core.specs.declared.typed_tree.TExpr.TheOpen.{TExpr-F, TPlace-F}
use Rattle.al_core.specs.declared.typed_tree.TStmt.{TStmt, ind-TStmt, map-TStmt, fold-TStmt, fold-roll-TStmt}
use Rattle.al_core.specs.declared.typed_tree.TKind.{TKind, map-TKind, fold-TKind, fold-roll-TKind}
use Rattle.al_core.specs.declared.typed_tree.TKind.TheViews.{roll-TStmt, roll-TKind}
use Rattle.al_core.specs.declared.typed_tree.TKind.TheOpen.{TStmt-F, TKind-F}

-- a part, with a fact
abbrev pub With : (A : Type 0) → (A → Type 0) → Type 0
With A P = (a : A) × P a

module _ (P : TExpr → Type 0) (Q : TPlace → Type 0)
    (e : (y : TExpr-F (With TExpr P) (With TPlace Q)) → P (roll-TExpr (map-TExpr (With TExpr P) (With TPlace Q) TExpr TPlace (λ a. a.0) (λ a. a.0) y)))
    (p : (y : TPlace-F (With TExpr P) (With TPlace Q))
    → Q (roll-TPlace (map-TPlace (With TExpr P) (With TPlace Q) TExpr TPlace (λ a. a.0) (λ a. a.0) y))) where
  pub expr_induct : (d : TExpr) → P d
  expr_induct = ind-TExpr P Q (λ x y is. subst (λ z. P (roll-TExpr z)) is (e y)) (λ x y is. subst (λ z. Q (roll-TPlace z)) is (p y))

  pub place_induct : (d : TPlace) → Q d
  place_induct = ind-TPlace P Q (λ x y is. subst (λ z. P (roll-TExpr z)) is (e y)) (λ x y is. subst (λ z. Q (roll-TPlace z)) is (p y))

module _ (P : TKind → Type 0) (Q : TStmt → Type 0)
    (k : (y : TKind-F (With TKind P) (With TStmt Q)) → P (roll-TKind (map-TKind (With TKind P) (With TStmt Q) TKind TStmt (λ a. a.0) (λ a. a.0) y)))
    (s : (y : TStmt-F (With TKind P) (With TStmt Q)) → Q (roll-TStmt (map-TStmt (With TKind P) (With TStmt Q) TKind TStmt (λ a. a.0) (λ a. a.0) y))) where
  pub stmt_induct : (d : TStmt) → Q d
  stmt_induct = ind-TStmt P Q (λ x y is. subst (λ z. P (roll-TKind z)) is (k y)) (λ x y is. subst (λ z. Q (roll-TStmt z)) is (s y))

-- ---- what is asked of a fold is a fold, where it is so at each node

module _ {S T A B : Type 0} (first : TExpr-F S T → S) (first_at : TPlace-F S T → T) (f : S → A) (g : T → B)
    (after : TExpr-F A B → A) (after_at : TPlace-F A B → B)
    (at_expr : (x : TExpr-F S T) → f (first x) ≡ after (map-TExpr S T A B f g x))
    (at_place : (x : TPlace-F S T) → g (first_at x) ≡ after_at (map-TPlace S T A B f g x)) where
  abbrev one : TExpr → S
  one = fold-TExpr S T first first_at

  abbrev one_at : TPlace → T
  one_at = fold-TPlace S T first first_at

  abbrev two : TExpr → A
  two = fold-TExpr A B after after_at

  abbrev two_at : TPlace → B
  two_at = fold-TPlace A B after after_at

  abbrev OfExpr : TExpr → Type 0
  OfExpr e = f (one e) ≡ two e

  abbrev OfPlace : TPlace → Type 0
  OfPlace p = g (one_at p) ≡ two_at p

  abbrev kept : TExpr-F (With TExpr OfExpr) (With TPlace OfPlace) → TExpr-F TExpr TPlace
  kept = map-TExpr (With TExpr OfExpr) (With TPlace OfPlace) TExpr TPlace (λ a. a.0) (λ a. a.0)

  abbrev kept_at : TPlace-F (With TExpr OfExpr) (With TPlace OfPlace) → TPlace-F TExpr TPlace
  kept_at = map-TPlace (With TExpr OfExpr) (With TPlace OfPlace) TExpr TPlace (λ a. a.0) (λ a. a.0)

  each_same : (xs : List (With TExpr OfExpr)) → map f (map one (map (λ a. a.0) xs)) ≡ map two (map (λ a. a.0) xs)
  each_same [] = refl
  each_same (x ∷ xs) = ap (λ a. a ∷ map f (map one (map (λ a. a.0) xs))) x.1 ∙ ap (λ as'. two x.0 ∷ as') (each_same xs)

  same : (y : TExpr-F (With TExpr OfExpr) (With TPlace OfPlace))
      → map-TExpr S T A B f g (map-TExpr TExpr TPlace S T one one_at (kept y)) ≡ map-TExpr TExpr TPlace A B two two_at (kept y)
  same (TExpr-F.Number n) = refl
  same (TExpr-F.Local n) = refl
  same (TExpr-F.Load want p) = ap (λ b. TExpr-F.Load want b) p.1
  same (TExpr-F.Addr p) = ap (λ b. TExpr-F.Addr b) p.1
  same (TExpr-F.Unary op x) = ap (λ a. TExpr-F.Unary op a) x.1
  same (TExpr-F.Binary op x y) = ap (λ a. TExpr-F.Binary op a (f (one y.0))) x.1 ∙ ap (λ b. TExpr-F.Binary op (two x.0) b) y.1
  same (TExpr-F.Same equal x y) = ap (λ a. TExpr-F.Same equal a (f (one y.0))) x.1 ∙ ap (λ b. TExpr-F.Same equal (two x.0) b) y.1
  same (TExpr-F.And x y) = ap (λ a. TExpr-F.And a (f (one y.0))) x.1 ∙ ap (λ b. TExpr-F.And (two x.0) b) y.1
  same (TExpr-F.Or x y) = ap (λ a. TExpr-F.Or a (f (one y.0))) x.1 ∙ ap (λ b. TExpr-F.Or (two x.0) b) y.1
  same (TExpr-F.Call n xs) = ap (λ as'. TExpr-F.Call n as') (each_same xs)
  same (TExpr-F.Input x) = ap (λ a. TExpr-F.Input a) x.1
  same TExpr-F.Inputs = refl
  same (TExpr-F.Choose op x y) = ap (λ a. TExpr-F.Choose op a (f (one y.0))) x.1 ∙ ap (λ b. TExpr-F.Choose op (two x.0) b) y.1
  same (TExpr-F.Calloc x size) = ap (λ a. TExpr-F.Calloc a size) x.1
  same (TExpr-F.Free x) = ap (λ a. TExpr-F.Free a) x.1

  same_at : (y : TPlace-F (With TExpr OfExpr) (With TPlace OfPlace))
      → map-TPlace S T A B f g (map-TPlace TExpr TPlace S T one one_at (kept_at y)) ≡ map-TPlace TExpr TPlace A B two two_at (kept_at y)
  same_at (TPlace-F.Global n) = refl
  same_at (TPlace-F.At x) = ap (λ a. TPlace-F.At a) x.1
  same_at (TPlace-F.Plus p n) = ap (λ b. TPlace-F.Plus b n) p.1
  same_at (TPlace-F.Elem p x n) = ap (λ b. TPlace-F.Elem b (f (one x.0)) n) p.1 ∙ ap (λ a. TPlace-F.Elem (two_at p.0) a n) x.1

  at_node : (y : TExpr-F (With TExpr OfExpr) (With TPlace OfPlace)) → OfExpr (roll-TExpr (kept y))
  at_node y =
      ap f (fold-roll-TExpr S T first first_at (kept y)) ∙ at_expr (map-TExpr TExpr TPlace S T one one_at (kept y)) ∙ ap after (same y)
      ∙ sym (fold-roll-TExpr A B after after_at (kept y))

  at_place_node : (y : TPlace-F (With TExpr OfExpr) (With TPlace OfPlace)) → OfPlace (roll-TPlace (kept_at y))
  at_place_node y =
      ap g (fold-roll-TPlace S T first first_at (kept_at y)) ∙ at_place (map-TPlace TExpr TPlace S T one one_at (kept_at y)) ∙ ap after_at (same_at y)
      ∙ sym (fold-roll-TPlace A B after after_at (kept_at y))

  pub expr_fused : (e : TExpr) → f (fold-TExpr S T first first_at e) ≡ fold-TExpr A B after after_at e
  expr_fused = expr_induct OfExpr OfPlace at_node at_place_node

  pub place_fused : (p : TPlace) → g (fold-TPlace S T first first_at p) ≡ fold-TPlace A B after after_at p
  place_fused = place_induct OfExpr OfPlace at_node at_place_node

module _ {S A : Type 0} (first : TKind-F S S → S) (f : S → A) (after : TKind-F A A → A)
    (at_kind : (x : TKind-F S S) → f (first x) ≡ after (map-TKind S S A A f f x)) where
  abbrev one_kind : TKind → S
  one_kind = fold-TKind S S first (λ s. s.kind)

  abbrev one_stmt : TStmt → S
  one_stmt = fold-TStmt S S first (λ s. s.kind)

  abbrev two_kind : TKind → A
  two_kind = fold-TKind A A after (λ s. s.kind)

  abbrev two_stmt : TStmt → A
  two_stmt = fold-TStmt A A after (λ s. s.kind)

  abbrev OfKind : TKind → Type 0
  OfKind d = f (one_kind d) ≡ two_kind d

  abbrev OfStmt : TStmt → Type 0
  OfStmt s = f (one_stmt s) ≡ two_stmt s

  abbrev kept_kind : TKind-F (With TKind OfKind) (With TStmt OfStmt) → TKind-F TKind TStmt
  kept_kind = map-TKind (With TKind OfKind) (With TStmt OfStmt) TKind TStmt (λ a. a.0) (λ a. a.0)

  each_stmt_same : (ss : List (With TStmt OfStmt)) → map f (map one_stmt (map (λ a. a.0) ss)) ≡ map two_stmt (map (λ a. a.0) ss)
  each_stmt_same [] = refl
  each_stmt_same (s ∷ ss) = ap (λ a. a ∷ map f (map one_stmt (map (λ a. a.0) ss))) s.1 ∙ ap (λ as'. two_stmt s.0 ∷ as') (each_stmt_same ss)

  same_kind : (y : TKind-F (With TKind OfKind) (With TStmt OfStmt))
      → map-TKind S S A A f f (map-TKind TKind TStmt S S one_kind one_stmt (kept_kind y)) ≡ map-TKind TKind TStmt A A two_kind two_stmt (kept_kind y)
  same_kind TKind-F.Empty = refl
  same_kind (TKind-F.SetLocal n e) = refl
  same_kind (TKind-F.Store at e) = refl
  same_kind (TKind-F.UpdateLocal op n e) = refl
  same_kind (TKind-F.UpdateAt op at e) = refl
  same_kind (TKind-F.Call e) = refl
  same_kind (TKind-F.Print format es) = refl
  same_kind (TKind-F.If e a None) = ap (λ x. TKind-F.If e x None) a.1
  same_kind (TKind-F.If e a (Some b)) = ap (λ x. TKind-F.If e x (Some (f (one_stmt b.0)))) a.1 ∙ ap (λ y. TKind-F.If e (two_stmt a.0) (Some y)) b.1
  same_kind (TKind-F.While e a) = ap (λ x. TKind-F.While e x) a.1
  same_kind (TKind-F.For None test None body number) = ap (λ x. TKind-F.For None test None x number) body.1
  same_kind (TKind-F.For None test (Some third) body number) =
      ap (λ x. TKind-F.For None test (Some x) (f (one_stmt body.0)) number) third.1
      ∙ ap (λ x. TKind-F.For None test (Some (two_stmt third.0)) x number) body.1
  same_kind (TKind-F.For (Some first') test None body number) =
      ap (λ x. TKind-F.For (Some x) test None (f (one_stmt body.0)) number) first'.1
      ∙ ap (λ x. TKind-F.For (Some (two_stmt first'.0)) test None x number) body.1
  same_kind (TKind-F.For (Some first') test (Some third) body number) =
      ap (λ x. TKind-F.For (Some x) test (Some (f (one_stmt third.0))) (f (one_stmt body.0)) number) first'.1
      ∙ ap (λ x. TKind-F.For (Some (two_stmt first'.0)) test (Some x) (f (one_stmt body.0)) number) third.1
      ∙ ap (λ x. TKind-F.For (Some (two_stmt first'.0)) test (Some (two_stmt third.0)) x number) body.1
  same_kind (TKind-F.Block ss) = ap (λ as'. TKind-F.Block as') (each_stmt_same ss)
  same_kind (TKind-F.Return e) = refl
  same_kind TKind-F.Break = refl
  same_kind TKind-F.Continue = refl

  at_kind_node : (y : TKind-F (With TKind OfKind) (With TStmt OfStmt)) → OfKind (roll-TKind (kept_kind y))
  at_kind_node y =
      ap f (fold-roll-TKind S S first (λ s. s.kind) (kept_kind y)) ∙ at_kind (map-TKind TKind TStmt S S one_kind one_stmt (kept_kind y))
      ∙ ap after (same_kind y)
      ∙ sym (fold-roll-TKind A A after (λ s. s.kind) (kept_kind y))

  pub stmt_fused : (s : TStmt) → f (fold-TStmt S S first (λ s. s.kind) s) ≡ fold-TStmt A A after (λ s. s.kind) s
  stmt_fused = stmt_induct OfKind OfStmt at_kind_node
      (λ y. ap f (fold-roll-TStmt S S first (λ s. s.kind) (record { line = y.line; kind = y.kind.0 })) ∙ y.kind.1
      ∙ sym (fold-roll-TStmt A A after (λ s. s.kind) (record { line = y.line; kind = y.kind.0 })))
