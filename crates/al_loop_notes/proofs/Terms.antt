-- What is asked of the uses of statements is what the rules ask of their terms.
use Rattle.std.proofs.Common.{◌≡◌, ℕ, List, [], ◌∷◌, ◌++◌, map, Option, Some, None, refl, sym, ap, ◌∙◌, append_assoc}
use Rattle.std.proofs.lemmas.List.Folds.{list_any-append}
use Rattle.std.specs.Prelude.{Bool, true, false, ◌||◌, ◌==◌}
use Rattle.std.specs.List.{list_any, flat_map}
use Rattle.al_core.specs.declared.typed_tree.TExpr.{TExpr}
use Rattle.al_core.specs.declared.typed_tree.TPlace.{TPlace}
use Rattle.al_core.specs.declared.typed_tree.TStmt.{TStmt, fold-TStmt, fold-roll-TStmt}
use Rattle.al_core.specs.declared.typed_tree.TKind.{TKind, map-TKind, fold-TKind, fold-roll-TKind}
use Rattle.al_core.specs.declared.typed_tree.TKind.TheOpen.{TKind-F}
use Rattle.al_core.specs.declared.values.Addr.{Addr}
use Rattle.al_core.specs.Accepted.{Terms, no_terms, one_expr, place_and_expr, if_expr, both_terms, all_terms, kind_terms, terms, terms_of, calls, calls_at, calls_of, all_called, mentions, mentions_at, mentions_in, takes, takes_at, takes_in}
use Rattle.al_rules.specs.Bodies.{has}
use Rattle.al_rules.specs.Candidates.{all_of}
use Rattle.al_loop_notes.specs.declared.uses.Use.{Use}
use Rattle.al_loop_notes.specs.declared.uses.Use.TheVariants as one
use Rattle.al_loop_notes.specs.Uses.{uses, uses_at, any_uses, kind_uses, stmt_uses, is_mention, is_address, callee_of, callees}
use Rattle.al_loop_notes.proofs.Induction.{With, stmt_induct}
use Rattle.al_loop_notes.proofs.Asked.{uses_mention, uses_at_mention, uses_take, uses_at_take, uses_call, uses_at_call}

or_swap : (a b c d : Bool) → ((a || b) || (c || d)) ≡ ((a || c) || (b || d))
or_swap true b c d = refl
or_swap false true true d = refl
or_swap false true false d = refl
or_swap false false c d = refl

or_false : (a : Bool) → a ≡ (a || false)
or_false true = refl
or_false false = refl

or_either : (a b : Bool) → (a || b) ≡ ((b || false) || (a || false))
or_either true true = refl
or_either true false = refl
or_either false true = refl
or_either false false = refl

-- a test that passes nothing that only statements do
pub record IsOfTerms (t : Use → Bool) : Type 0 where
  pub no_set : (k : ℕ) → t (one.Set k) ≡ false
  pub no_return : t one.Return ≡ false

module _ (t : Use → Bool) (within : IsOfTerms t) where
  abbrev any : List Use → Bool
  any = list_any t

  abbrev p : TExpr → Bool
  p e = any (uses e)

  abbrev q : TPlace → Bool
  q at = any (uses_at at).1

  abbrev pub tested : Terms → Bool
  tested ts = list_any p ts.exprs || list_any q ts.places

  tested_both : (s r : Terms) → tested (both_terms s r) ≡ (tested s || tested r)
  tested_both s r =
      ap (λ b. b || list_any q (s.places ++ r.places)) (list_any-append p s.exprs r.exprs)
      ∙ ap (λ b. (list_any p s.exprs || list_any p r.exprs) || b) (list_any-append q s.places r.places)
      ∙ or_swap (list_any p s.exprs) (list_any p r.exprs) (list_any q s.places) (list_any q r.places)

  one_is : (e : TExpr) → any (uses e) ≡ tested (one_expr e)
  one_is e = or_false (p e) ∙ or_false (p e || false)

  two_are : (at : TPlace) (e : TExpr) → any ((uses_at at).1 ++ uses e) ≡ tested (place_and_expr at e)
  two_are at e = list_any-append t (uses_at at).1 (uses e) ∙ or_either (q at) (p e)

  test_is : (e : Option TExpr) → any (any_uses e) ≡ tested (if_expr e)
  test_is None = refl
  test_is (Some e) = one_is e

  set_is : (k : ℕ) (e : TExpr) → any (one.Set k ∷ uses e) ≡ tested (one_expr e)
  set_is k e = ap (λ b. b || p e) (within.no_set k) ∙ one_is e

  each_is : (es : List TExpr) → any (flat_map uses es) ≡ list_any p es
  each_is [] = refl
  each_is (e ∷ es) = list_any-append t (uses e) (flat_map uses es) ∙ ap (λ b. p e || b) (each_is es)

  pair_is : (s r : Terms) (x y : List Use) → any x ≡ tested s → any y ≡ tested r → any (x ++ y) ≡ tested (both_terms s r)
  pair_is s r x y f g =
      list_any-append t x y ∙ ap (λ b. b || any y) f ∙ ap (λ b. tested s || b) g ∙ sym (tested_both s r)

  abbrev kind_it : TKind → List Use
  kind_it = fold-TKind (List Use) (List Use) kind_uses (λ s. s.kind)

  abbrev stmt_it : TStmt → List Use
  stmt_it = fold-TStmt (List Use) (List Use) kind_uses (λ s. s.kind)

  abbrev kind_terms_it : TKind → Terms
  kind_terms_it = fold-TKind Terms Terms kind_terms (λ s. s.kind)

  abbrev terms_it : TStmt → Terms
  terms_it = fold-TStmt Terms Terms kind_terms (λ s. s.kind)

  abbrev OfKind : TKind → Type 0
  OfKind d = any (kind_it d) ≡ tested (kind_terms_it d)

  abbrev OfStmt : TStmt → Type 0
  OfStmt s = any (stmt_it s) ≡ tested (terms_it s)

  abbrev kept : TKind-F (With TKind OfKind) (With TStmt OfStmt) → TKind-F TKind TStmt
  kept = map-TKind (With TKind OfKind) (With TStmt OfStmt) TKind TStmt (λ a. a.0) (λ a. a.0)

  block_is : (ss : List (With TStmt OfStmt)) → any (all_of (map stmt_it (map (λ a. a.0) ss))) ≡ tested (all_terms (map terms_it (map (λ a. a.0) ss)))
  block_is [] = refl
  block_is (s ∷ ss) = pair_is _ _ _ _ s.1 (block_is ss)

  if_is : (e : TExpr) (s r : Terms) (x y : List Use) → any x ≡ tested s → any y ≡ tested r
      → any ((uses e ++ x) ++ y) ≡ tested (both_terms (one_expr e) (both_terms s r))
  if_is e s r x y f g = ap any (append_assoc (uses e) x y) ∙ pair_is (one_expr e) (both_terms s r) (uses e) (x ++ y) (one_is e) (pair_is s r x y f g)

  for_is : (test : Option TExpr) (s r u : Terms) (x y z : List Use) → any x ≡ tested s → any y ≡ tested r → any z ≡ tested u
      → any (((x ++ any_uses test) ++ y) ++ z) ≡ tested (both_terms s (both_terms (if_expr test) (both_terms r u)))
  for_is test s r u x y z f g h =
      ap any (append_assoc (x ++ any_uses test) y z ∙ append_assoc x (any_uses test) (y ++ z))
      ∙ pair_is s (both_terms (if_expr test) (both_terms r u)) x (any_uses test ++ (y ++ z)) f
      (pair_is (if_expr test) (both_terms r u) (any_uses test) (y ++ z) (test_is test) (pair_is r u y z g h))

  of_kind : (y : TKind-F (With TKind OfKind) (With TStmt OfStmt))
      → any (kind_uses (map-TKind TKind TStmt (List Use) (List Use) kind_it stmt_it (kept y)))
      ≡ tested (kind_terms (map-TKind TKind TStmt Terms Terms kind_terms_it terms_it (kept y)))
  of_kind TKind-F.Empty = refl
  of_kind (TKind-F.SetLocal n e) = set_is n e
  of_kind (TKind-F.Store at e) = two_are at e
  of_kind (TKind-F.UpdateLocal op n e) = set_is n e
  of_kind (TKind-F.UpdateAt op at e) = two_are at e
  of_kind (TKind-F.Call e) = one_is e
  of_kind (TKind-F.Print format es) = each_is es ∙ or_false (list_any p es)
  of_kind (TKind-F.If e a None) = if_is e (terms_it a.0) no_terms (stmt_it a.0) [] a.1 refl
  of_kind (TKind-F.If e a (Some b)) = if_is e (terms_it a.0) (terms_it b.0) (stmt_it a.0) (stmt_it b.0) a.1 b.1
  of_kind (TKind-F.While e a) = pair_is (one_expr e) (terms_it a.0) (uses e) (stmt_it a.0) (one_is e) a.1
  of_kind (TKind-F.For None test None body number) = for_is test no_terms no_terms (terms_it body.0) [] [] (stmt_it body.0) refl refl body.1
  of_kind (TKind-F.For None test (Some third) body number) =
      for_is test no_terms (terms_it third.0) (terms_it body.0) [] (stmt_it third.0) (stmt_it body.0) refl third.1 body.1
  of_kind (TKind-F.For (Some first) test None body number) =
      for_is test (terms_it first.0) no_terms (terms_it body.0) (stmt_it first.0) [] (stmt_it body.0) first.1 refl body.1
  of_kind (TKind-F.For (Some first) test (Some third) body number) =
      for_is test (terms_it first.0) (terms_it third.0) (terms_it body.0) (stmt_it first.0) (stmt_it third.0) (stmt_it body.0) first.1 third.1 body.1
  of_kind (TKind-F.Block ss) = block_is ss
  of_kind (TKind-F.Return e) = ap (λ b. b || any (any_uses e)) within.no_return ∙ test_is e
  of_kind TKind-F.Break = refl
  of_kind TKind-F.Continue = refl

  all_stmts : (s : TStmt) → OfStmt s
  all_stmts = stmt_induct OfKind OfStmt
      (λ y. ap any (fold-roll-TKind (List Use) (List Use) kind_uses (λ s. s.kind) (kept y)) ∙ of_kind y
      ∙ ap tested (sym (fold-roll-TKind Terms Terms kind_terms (λ s. s.kind) (kept y))))
      (λ y. ap any (fold-roll-TStmt (List Use) (List Use) kind_uses (λ s. s.kind) (record { line = y.line; kind = y.kind.0 })) ∙ y.kind.1
      ∙ ap tested (sym (fold-roll-TStmt Terms Terms kind_terms (λ s. s.kind) (record { line = y.line; kind = y.kind.0 }))))

  -- a statement
  pub of_stmt : (s : TStmt) → list_any t (stmt_uses s) ≡ tested (terms s)
  unfolding stmt_uses terms
  of_stmt s = all_stmts s

  -- a list of statements
  pub of_body : (ss : List TStmt) → list_any t (flat_map stmt_uses ss) ≡ tested (terms_of ss)
  of_body [] = refl
  of_body (s ∷ ss) = pair_is (terms s) (terms_of ss) (stmt_uses s) (flat_map stmt_uses ss) (of_stmt s) (of_body ss)

-- ---- mentions, addresses and calls

any_same : {A : Type 0} (p q : A → Bool) (xs : List A) → ((x : A) → p x ≡ q x) → list_any p xs ≡ list_any q xs
any_same p q [] h = refl
any_same p q (x ∷ xs) h = ap (λ b. b || list_any p xs) (h x) ∙ ap (λ b. q x || b) (any_same p q xs h)

tested_by : (t : Use → Bool) (within : IsOfTerms t) (p : TExpr → Bool) (q : TPlace → Bool) (ts : Terms)
    → ((e : TExpr) → list_any t (uses e) ≡ p e) → ((at : TPlace) → list_any t (uses_at at).1 ≡ q at)
    → tested t within ts ≡ (list_any p ts.exprs || list_any q ts.places)
tested_by t within p q ts f g =
    ap (λ b. b || list_any (λ at. list_any t (uses_at at).1) ts.places) (any_same (λ e. list_any t (uses e)) p ts.exprs f)
    ∙ ap (λ b. list_any p ts.exprs || b) (any_same (λ at. list_any t (uses_at at).1) q ts.places g)

mentions_within : (a : Addr) → IsOfTerms (is_mention a)
mentions_within a = record { no_set = λ k. refl; no_return = refl }

addresses_within : (a : Addr) → IsOfTerms (is_address a)
addresses_within a = record { no_set = λ k. refl; no_return = refl }

-- the function mentions the variable
pub body_mentions : (a : Addr) (ss : List TStmt) → list_any (is_mention a) (flat_map stmt_uses ss) ≡ mentions_in a (terms_of ss)
body_mentions a ss =
    of_body (is_mention a) (mentions_within a) ss
    ∙ tested_by (is_mention a) (mentions_within a) (mentions a) (mentions_at a) (terms_of ss) (uses_mention a) (uses_at_mention a)

-- the function takes its address
pub body_takes : (a : Addr) (ss : List TStmt) → list_any (is_address a) (flat_map stmt_uses ss) ≡ takes_in a (terms_of ss)
body_takes a ss =
    of_body (is_address a) (addresses_within a) ss
    ∙ tested_by (is_address a) (addresses_within a) (takes a) (λ p. (takes_at a p).1) (terms_of ss) (uses_take a) (uses_at_take a)

module _ (g : ℕ) where
  is_call : Use → Bool
  is_call u = has g (callee_of u)

  calls_within : IsOfTerms is_call
  unfolding is_call
  calls_within = record { no_set = λ k. refl; no_return = refl }

  among : (us : List Use) → has g (callees us) ≡ list_any is_call us
  unfolding is_call
  among [] = refl
  among (u ∷ us) = list_any-append (λ m. m == g) (callee_of u) (callees us) ∙ ap (λ b. has g (callee_of u) || b) (among us)

  called_each : {A : Type 0} (f : A → List ℕ) (xs : List A) → has g (all_called (map f xs)) ≡ list_any (λ x. has g (f x)) xs
  called_each f [] = refl
  called_each f (x ∷ xs) = list_any-append (λ m. m == g) (f x) (all_called (map f xs)) ∙ ap (λ b. has g (f x) || b) (called_each f xs)

  terms_call : (ts : Terms) → tested is_call calls_within ts ≡ has g (calls_of ts)
  terms_call ts =
      tested_by is_call calls_within (λ e. has g (calls e)) (λ p. has g (calls_at p)) ts
      (λ e. sym (among (uses e)) ∙ ap (has g) (uses_call e)) (λ p. sym (among (uses_at p).1) ∙ ap (has g) (uses_at_call p))
      ∙ sym (list_any-append (λ m. m == g) (all_called (map calls ts.exprs)) (all_called (map calls_at ts.places))
      ∙ ap (λ b. b || has g (all_called (map calls_at ts.places))) (called_each calls ts.exprs)
      ∙ ap (λ b. list_any (λ e. has g (calls e)) ts.exprs || b) (called_each calls_at ts.places))

  -- the statement calls the function
  pub stmt_called : (s : TStmt) → has g (callees (stmt_uses s)) ≡ has g (calls_of (terms s))
  stmt_called s = among (stmt_uses s) ∙ of_stmt is_call calls_within s ∙ terms_call (terms s)

  -- a list of statements
  pub body_called : (ss : List TStmt) → has g (callees (flat_map stmt_uses ss)) ≡ has g (calls_of (terms_of ss))
  body_called ss = among (flat_map stmt_uses ss) ∙ of_body is_call calls_within ss ∙ terms_call (terms_of ss)
