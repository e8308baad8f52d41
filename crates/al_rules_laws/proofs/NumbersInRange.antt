-- What a well-formed function mentions is there.
use Rattle.std.proofs.Common.{◌≡◌, ℕ, suc, ◌<◌, ◌&&◌, ◌==◌, Bool, true, false, List, [], ◌∷◌, ◌++◌, map, length, Option, Some, None, slice_get, All, flat_map, refl, sym, ap, ◌∙◌, subst, ⊎_elim}
use Rattle.std.specs.List.{list_all}
use Rattle.std.proofs.lemmas.Option.{slice_get_within}
use Rattle.al_source.specs.declared.source_tree.Program.{Program}
use Rattle.al_source.specs.declared.operators.UnOp.{UnOp}
use Rattle.al_source.specs.declared.operators.UnOp.TheVariants.{Neg, BitNot, Not}
use Rattle.al_core.specs.declared.values.Addr.{Addr}
use Rattle.al_core.specs.declared.values.Addr.TheVariants.{Local}
use Rattle.al_core.specs.declared.values.Kind.{Kind}
use Rattle.al_core.specs.declared.values.Kind.TheVariants.{Int, Ptr}
use Rattle.al_core.specs.declared.typed_tree.TExpr.{TExpr, out-TExpr, map-TExpr, fold-roll-TExpr, fold_out-TExpr}
use Rattle.al_core.specs.declared.typed_tree.TPlace.{TPlace, map-TPlace, fold-roll-TPlace}
use Rattle.al_core.specs.declared.typed_tree.TExpr.TheViews.{roll-TExpr, roll-TPlace}
use Rattle.al_core.specs.declared.typed_tree.TExpr.TheOpen.{TExpr-F, TPlace-F}
use Rattle.al_core.specs.declared.typed_tree.TStmt.{TStmt, map-TStmt, fold-roll-TStmt, para-roll-TStmt}
use Rattle.al_core.specs.declared.typed_tree.TKind.{TKind, map-TKind, fold-TKind, fold-roll-TKind, para-roll-TKind}
use Rattle.al_core.specs.declared.typed_tree.TKind.TheViews.{roll-TStmt, roll-TKind}
use Rattle.al_core.specs.declared.typed_tree.TKind.TheOpen.{TStmt-F, TKind-F}
use Rattle.al_core.specs.declared.typed_tree.TLocal.{TLocal}
use Rattle.al_core.specs.declared.typed_tree.TGlobal.{TGlobal}
use Rattle.al_core.specs.declared.typed_tree.TFunc.{TFunc}
use Rattle.al_core.specs.declared.typed_tree.Typed.{Typed}
use Rattle.al_core.specs.Accepted.{no_terms, one_expr, place_and_expr, if_expr, both_terms, all_terms, all_called, expr_calls, place_calls, calls, calls_at, Terms, kind_terms, terms, terms_of, calls_of}
use Rattle.al_laws.proofs.Induction.{With, expr_induct, place_induct, stmt_induct}
use Rattle.al_rules.specs.Names.{AllOf, none, more}
use Rattle.al_rules.specs.Candidates.{all_of, expr_names, place_names, names, names_at, any_names, kind_names, variables, variables_in}
use Rattle.al_rules.specs.Programs.{Resolved}
use Rattle.al_rules.specs.Statements.{numbers_in}
use Rattle.al_rules.specs.WellFormed.{FitsKind, PlaceKind, local_kind, is_some_kind, is_one, may_want, fits_either, fits_want, fit_all, param_kinds, fit_params, gives, global_kind, operand_fits, expr_fits, place_kind_case, fits, place_kind, is_int_local, call_formed, sets_formed, test_formed, return_formed, FormedStmt, FormedKind, is_simple, all_formed, kind_formed, formed, formed_in, IsFormedFunc}
use Rattle.al_rules_laws.specs.FormedLaws.{AreInPlace, IsThere, IsInRange}
use Rattle.al_rules_laws.proofs.Logic.{and_parts, or_parts}
use Rattle.al_rules_laws.proofs.FormedPrograms.{resolved_is_well_formed}
use Rattle.al_rules_laws.proofs.LoopEntries.{all_append, all_told, loops_told, as_many_loops, loop_in_place}

unfoldable terms_in : TKind → Terms
terms_in = fold-TKind Terms Terms kind_terms (λ s. s.kind)

-- ---- expressions

module _ (typed : Typed) (results : List (Option Kind)) (f : TFunc) where
  abbrev Fits : TExpr → FitsKind
  Fits = fits typed results f.locals

  abbrev Formed : TPlace → Bool
  Formed q = (place_kind typed results f.locals q).formed

  abbrev Called : ℕ → Type 0
  Called g = g < length typed.funcs

  -- what is mentioned and called is there
  record Ranged (as' : List Addr) (gs : List ℕ) : Type 0 where
    mentioned : AllOf (IsThere typed f) as'
    called : AllOf Called gs

  nothing : Ranged [] []
  nothing = record { mentioned = none; called = none }

  both : {as' bs : List Addr} {gs hs : List ℕ} → Ranged as' gs → Ranged bs hs → Ranged (as' ++ bs) (gs ++ hs)
  both p q = record { mentioned = all_append p.mentioned q.mentioned; called = all_append p.called q.called }

  abbrev ExprRanged : TExpr → Type 0
  ExprRanged x = (want : Kind) → Fits x want ≡ true → Ranged (names x) (calls x)

  abbrev PlaceRanged : TPlace → Type 0
  PlaceRanged q = Formed q ≡ true → Ranged (names_at q) (calls_at q)

  abbrev X : Type 0
  X = With TExpr ExprRanged

  abbrev Q : Type 0
  Q = With TPlace PlaceRanged

  abbrev expr_layer : TExpr-F X Q → TExpr-F TExpr TPlace
  expr_layer y = map-TExpr X Q TExpr TPlace (λ e. e.0) (λ e. e.0) y

  abbrev place_layer : TPlace-F X Q → TPlace-F TExpr TPlace
  place_layer y = map-TPlace X Q TExpr TPlace (λ e. e.0) (λ e. e.0) y

  -- what fits either kind fits one
  either_fits : (x : X) → fits_either (Fits x.0) ≡ true → Ranged (names x.0) (calls x.0)
  either_fits x e = ⊎_elim (x.1 Int) (x.1 Ptr) (or_parts (Fits x.0 Int) (Fits x.0 Ptr) e)

  operand_ranged : (op : UnOp) (x : X) → operand_fits op (Fits x.0) ≡ true → Ranged (names x.0) (calls x.0)
  operand_ranged Neg x e = x.1 Int e
  operand_ranged BitNot x e = x.1 Int e
  operand_ranged Not x e = either_fits x e

  local_there : (n : ℕ) (want : Kind) (m : Option TLocal) → slice_get f.locals n ≡ m → is_some_kind (local_kind m) want ≡ true → n < length f.locals
  local_there n want (Some v) at e = slice_get_within f.locals n v at
  local_there n want None at e = absurd cc

  global_there : (n : ℕ) (m : Option TGlobal) → slice_get typed.globals n ≡ m → (global_kind m).formed ≡ true → n < length typed.globals
  global_there n (Some g) at e = slice_get_within typed.globals n g at
  global_there n None at e = absurd cc

  args_ranged : {xs : List TExpr} → AllOf ExprRanged xs → (ks : List Kind) → fit_all (map Fits xs) ks ≡ true
      → Ranged (all_of (map names xs)) (all_called (map calls xs))
  args_ranged none ks e = nothing
  args_ranged (more h hs) [] e = absurd cc
  args_ranged (more {a = x} {rest = xs} h hs) (k ∷ ks) e = let q = and_parts (Fits x k) (fit_all (map Fits xs) ks) e in both (h k q.0) (args_ranged hs ks q.1)

  call_ranged : (g : ℕ) {xs : List TExpr} → AllOf ExprRanged xs → (m : Option TFunc) → slice_get typed.funcs g ≡ m → fit_params (map Fits xs) m ≡ true
      → Ranged (all_of (map names xs)) (g ∷ all_called (map calls xs))
  call_ranged g hs (Some h) at e =
      let q = args_ranged hs (param_kinds h) e in record { mentioned = q.mentioned; called = more (slice_get_within typed.funcs g h at) q.called }
  call_ranged g hs None at e = absurd cc

  parts : (xs : List X) → AllOf ExprRanged (map (λ e. e.0) xs)
  parts [] = none
  parts (x ∷ xs) = more x.1 (parts xs)

  abbrev map_fits : TExpr-F TExpr TPlace → TExpr-F FitsKind PlaceKind
  map_fits x = map-TExpr TExpr TPlace FitsKind PlaceKind Fits (place_kind typed results f.locals) x

  abbrev map_forms : TPlace-F TExpr TPlace → TPlace-F FitsKind PlaceKind
  map_forms x = map-TPlace TExpr TPlace FitsKind PlaceKind Fits (place_kind typed results f.locals) x

  abbrev map_names : TExpr-F TExpr TPlace → TExpr-F (List Addr) (List Addr)
  map_names x = map-TExpr TExpr TPlace (List Addr) (List Addr) names names_at x

  abbrev map_calls : TExpr-F TExpr TPlace → TExpr-F (List ℕ) (List ℕ)
  map_calls x = map-TExpr TExpr TPlace (List ℕ) (List ℕ) calls calls_at x

  two : (want : Kind) (x y : X) (j k : Kind) → (is_one Int want && Fits x.0 j && Fits y.0 k) ≡ true → Ranged (names x.0 ++ names y.0) (calls x.0 ++ calls y.0)
  two want x y j k e =
      let q = and_parts (is_one Int want && Fits x.0 j) (Fits y.0 k) e in
      both (x.1 j (and_parts (is_one Int want) (Fits x.0 j) q.0).1) (y.1 k q.1)

  two_tests : (want : Kind) (x y : X) → (is_one Int want && fits_either (Fits x.0) && fits_either (Fits y.0)) ≡ true
      → Ranged (names x.0 ++ names y.0) (calls x.0 ++ calls y.0)
  two_tests want x y e =
      let q = and_parts (is_one Int want && fits_either (Fits x.0)) (fits_either (Fits y.0)) e in
      both (either_fits x (and_parts (is_one Int want) (fits_either (Fits x.0)) q.0).1) (either_fits y q.1)

  layer_ranged : (y : TExpr-F X Q) (want : Kind) → expr_fits typed results f.locals (map_fits (expr_layer y)) want ≡ true
      → Ranged (expr_names (map_names (expr_layer y))) (expr_calls (map_calls (expr_layer y)))
  layer_ranged (TExpr-F.Number n) want e = nothing
  layer_ranged (TExpr-F.Local n) want e = record { mentioned = more (local_there n want (slice_get f.locals n) refl e) none; called = none }
  layer_ranged (TExpr-F.Load k q) want e =
      q.1 (and_parts (is_one k want) (Formed q.0) (and_parts (is_one k want && Formed q.0) (may_want (place_kind typed results f.locals q.0).wants k) e).0).1
  layer_ranged (TExpr-F.Addr q) want e = q.1 (and_parts (is_one Ptr want) (Formed q.0) e).1
  layer_ranged (TExpr-F.Unary op x) want e = operand_ranged op x (and_parts (is_one Int want) (operand_fits op (Fits x.0)) e).1
  layer_ranged (TExpr-F.Binary op x y) want e = two want x y Int Int e
  layer_ranged (TExpr-F.Same equal x y) want e = two want x y Ptr Ptr e
  layer_ranged (TExpr-F.And x y) want e = two_tests want x y e
  layer_ranged (TExpr-F.Or x y) want e = two_tests want x y e
  layer_ranged (TExpr-F.Call g xs) want e =
      call_ranged g (parts xs) (slice_get typed.funcs g) refl
      (and_parts (gives (slice_get results g) want) (fit_params (map Fits (map (λ e. e.0) xs)) (slice_get typed.funcs g)) e).1
  layer_ranged (TExpr-F.Input x) want e = x.1 Int (and_parts (is_one Int want) (Fits x.0 Int) e).1
  layer_ranged TExpr-F.Inputs want e = nothing
  layer_ranged (TExpr-F.Choose op x y) want e = two want x y Int Int e
  layer_ranged (TExpr-F.Calloc x size) want e = x.1 Int (and_parts (is_one Ptr want) (Fits x.0 Int) e).1
  layer_ranged (TExpr-F.Free x) want e = absurd cc

  place_ranged_at : (y : TPlace-F X Q) → (place_kind_case typed results f.locals (map_forms (place_layer y))).formed ≡ true
      → Ranged (place_names (map-TPlace TExpr TPlace (List Addr) (List Addr) names names_at (place_layer y)))
      (place_calls (map-TPlace TExpr TPlace (List ℕ) (List ℕ) calls calls_at (place_layer y)))
  place_ranged_at (TPlace-F.Global n) e = record { mentioned = more (global_there n (slice_get typed.globals n) refl e) none; called = none }
  place_ranged_at (TPlace-F.At x) e = x.1 Ptr e
  place_ranged_at (TPlace-F.Plus q n) e = q.1 e
  place_ranged_at (TPlace-F.Elem q x n) e = let h = and_parts (Formed q.0) (Fits x.0 Int) e in both (q.1 h.0) (x.1 Int h.1)

  expr_step : (y : TExpr-F X Q) → ExprRanged (roll-TExpr (expr_layer y))
  unfolding fits place_kind names names_at calls calls_at
  expr_step y want e =
      subst (λ as'. Ranged as' (calls (roll-TExpr (expr_layer y)))) (sym (fold-roll-TExpr (List Addr) (List Addr) expr_names place_names (expr_layer y)))
      (subst (λ gs. Ranged (expr_names (map_names (expr_layer y))) gs) (sym (fold-roll-TExpr (List ℕ) (List ℕ) expr_calls place_calls (expr_layer y)))
      (layer_ranged y want
      (sym (ap (λ (h : FitsKind). h want)
      (fold-roll-TExpr FitsKind PlaceKind (expr_fits typed results f.locals) (place_kind_case typed results f.locals) (expr_layer y))) ∙ e)))

  place_step : (y : TPlace-F X Q) → PlaceRanged (roll-TPlace (place_layer y))
  unfolding fits place_kind names names_at calls calls_at
  place_step y e =
      subst (λ as'. Ranged as' (calls_at (roll-TPlace (place_layer y)))) (sym (fold-roll-TPlace (List Addr) (List Addr) expr_names place_names (place_layer y)))
      (subst (λ gs. Ranged (place_names (map-TPlace TExpr TPlace (List Addr) (List Addr) names names_at (place_layer y))) gs)
      (sym (fold-roll-TPlace (List ℕ) (List ℕ) expr_calls place_calls (place_layer y)))
      (place_ranged_at y
      (sym (ap (λ (h : PlaceKind). h.formed)
      (fold-roll-TPlace FitsKind PlaceKind (expr_fits typed results f.locals) (place_kind_case typed results f.locals) (place_layer y))) ∙ e)))

  expr_ranged : (x : TExpr) → ExprRanged x
  expr_ranged = expr_induct ExprRanged PlaceRanged expr_step place_step

  place_ranged : (q : TPlace) → PlaceRanged q
  place_ranged = place_induct ExprRanged PlaceRanged expr_step place_step

  test_ranged : (x : TExpr) → fits_either (Fits x) ≡ true → Ranged (names x) (calls x)
  test_ranged x e = either_fits (x, expr_ranged x) e

  all_ranged : (xs : List TExpr) → AllOf ExprRanged xs
  all_ranged [] = none
  all_ranged (x ∷ xs) = more (expr_ranged x) (all_ranged xs)

  names_out : (x : TExpr) → names x ≡ expr_names (map_names (out-TExpr x))
  unfolding names names_at
  names_out x = fold_out-TExpr (List Addr) (List Addr) expr_names place_names x

  calls_out : (x : TExpr) → calls x ≡ expr_calls (map_calls (out-TExpr x))
  unfolding calls calls_at
  calls_out x = fold_out-TExpr (List ℕ) (List ℕ) expr_calls place_calls x

  -- a call that is a statement
  statement_ranged : (x : TExpr) (y : TExpr-F TExpr TPlace) → out-TExpr x ≡ y → call_formed typed results f.locals y x ≡ true → Ranged (names x) (calls x)
  statement_ranged x (TExpr-F.Call g xs) is e =
      subst (λ as'. Ranged as' (calls x)) (sym (names_out x ∙ ap (λ y. expr_names (map_names y)) is))
      (subst (λ gs. Ranged (all_of (map names xs)) gs) (sym (calls_out x ∙ ap (λ y. expr_calls (map_calls y)) is))
      (call_ranged g (all_ranged xs) (slice_get typed.funcs g) refl e))
  statement_ranged x (TExpr-F.Free p) is e =
      subst (λ as'. Ranged as' (calls x)) (sym (names_out x ∙ ap (λ y. expr_names (map_names y)) is))
      (subst (λ gs. Ranged (names p) gs) (sym (calls_out x ∙ ap (λ y. expr_calls (map_calls y)) is)) (expr_ranged p Ptr e))
  statement_ranged x (TExpr-F.Number n) is e = test_ranged x e
  statement_ranged x (TExpr-F.Local n) is e = test_ranged x e
  statement_ranged x (TExpr-F.Load k q) is e = test_ranged x e
  statement_ranged x (TExpr-F.Addr q) is e = test_ranged x e
  statement_ranged x (TExpr-F.Unary op a) is e = test_ranged x e
  statement_ranged x (TExpr-F.Binary op a b) is e = test_ranged x e
  statement_ranged x (TExpr-F.Same equal a b) is e = test_ranged x e
  statement_ranged x (TExpr-F.And a b) is e = test_ranged x e
  statement_ranged x (TExpr-F.Or a b) is e = test_ranged x e
  statement_ranged x (TExpr-F.Input a) is e = test_ranged x e
  statement_ranged x TExpr-F.Inputs is e = test_ranged x e
  statement_ranged x (TExpr-F.Choose op a b) is e = test_ranged x e
  statement_ranged x (TExpr-F.Calloc a size) is e = test_ranged x e

  -- ---- statements

  abbrev CallsOf : TExpr → Type 0
  CallsOf e = AllOf Called (calls e)

  abbrev CallsAt : TPlace → Type 0
  CallsAt q = AllOf Called (calls_at q)

  record Spoken (as' : List Addr) (t : Terms) : Type 0 where
    mentioned : AllOf (IsThere typed f) as'
    exprs : AllOf CallsOf t.exprs
    places : AllOf CallsAt t.places

  silent : Spoken [] no_terms
  silent = record { mentioned = none; exprs = none; places = none }

  said : {as' bs : List Addr} {t u : Terms} → Spoken as' t → Spoken bs u → Spoken (as' ++ bs) (both_terms t u)
  said p q = record { mentioned = all_append p.mentioned q.mentioned; exprs = all_append p.exprs q.exprs; places = all_append p.places q.places }

  of_expr : (x : TExpr) → Ranged (names x) (calls x) → Spoken (names x) (one_expr x)
  of_expr x r = record { mentioned = r.mentioned; exprs = more r.called none; places = none }

  of_place : (q : TPlace) (x : TExpr) → Ranged (names_at q) (calls_at q) → Ranged (names x) (calls x) → Spoken (names_at q ++ names x) (place_and_expr q x)
  of_place q x p r = record { mentioned = all_append p.mentioned r.mentioned; exprs = more r.called none; places = more p.called none }

  of_local : (n : ℕ) (x : TExpr) → n < length f.locals → Ranged (names x) (calls x) → Spoken (Local n ∷ names x) (one_expr x)
  of_local n x lt r = record { mentioned = more lt r.mentioned; exprs = more r.called none; places = none }

  want_ranged : (x : TExpr) (w : Option Kind) → fits_want w (Fits x) ≡ true → Ranged (names x) (calls x)
  want_ranged x (Some k) e = expr_ranged x k e
  want_ranged x None e = test_ranged x e

  set_spoken : (n : ℕ) (x : TExpr) (m : Option TLocal) → slice_get f.locals n ≡ m → sets_formed typed results f.locals (local_kind m) x ≡ true
      → Spoken (Local n ∷ names x) (one_expr x)
  set_spoken n x (Some v) at e = of_local n x (slice_get_within f.locals n v at) (expr_ranged x v.kind e)
  set_spoken n x None at e = absurd cc

  all_spoken : (xs : List TExpr) → list_all (λ x. Fits x Int) xs ≡ true → Spoken (flat_map names xs) (record { exprs = xs; places = [] })
  all_spoken [] e = silent
  all_spoken (x ∷ xs) e =
      let q = and_parts (Fits x Int) (list_all (λ x. Fits x Int) xs) e in
      let r = expr_ranged x Int q.0 in
      let rest = all_spoken xs q.1 in
      record { mentioned = all_append r.mentioned rest.mentioned; exprs = more r.called rest.exprs; places = none }

  test_spoken : (test : Option TExpr) → test_formed typed results f.locals test ≡ true → Spoken (any_names test) (if_expr test)
  test_spoken (Some x) e = of_expr x (test_ranged x e)
  test_spoken None e = silent

  module _ (result : Option Kind) where
    abbrev KindSpoken : TKind → Type 0
    KindSpoken d = (looped : Bool) → formed_in typed results f.locals result d looped ≡ true → Spoken (variables_in d) (terms_in d)

    abbrev StmtSpoken : TStmt → Type 0
    StmtSpoken s = (looped : Bool) → formed typed results f.locals result s looped ≡ true → Spoken (variables s) (terms s)

    abbrev W : Type 0
    W = With TKind KindSpoken

    abbrev S : Type 0
    S = With TStmt StmtSpoken

    abbrev kind_layer : TKind-F W S → TKind-F TKind TStmt
    kind_layer y = map-TKind W S TKind TStmt (λ e. e.0) (λ e. e.0) y

    abbrev is_formed : TStmt → Bool → Bool
    is_formed s = formed typed results f.locals result s

    abbrev pair : TStmt → FormedStmt
    pair s = (s, formed typed results f.locals result s)

    abbrev map_formed : TKind-F TKind TStmt → TKind-F FormedKind FormedStmt
    map_formed x = map-TKind TKind TStmt FormedKind FormedStmt (λ d. (d, formed_in typed results f.locals result d)) pair x

    abbrev map_variables : TKind-F TKind TStmt → TKind-F (List Addr) (List Addr)
    map_variables x = map-TKind TKind TStmt (List Addr) (List Addr) variables_in variables x

    abbrev map_terms : TKind-F TKind TStmt → TKind-F Terms Terms
    map_terms x = map-TKind TKind TStmt Terms Terms terms_in terms x

    block_spoken : (zs : List S) (looped : Bool) → all_formed typed results f.locals (map pair (map (λ e. e.0) zs)) looped ≡ true
        → Spoken (all_of (map variables (map (λ e. e.0) zs))) (all_terms (map terms (map (λ e. e.0) zs)))
    block_spoken [] looped e = silent
    block_spoken (z ∷ zs) looped e =
        let q = and_parts (is_formed z.0 looped) (all_formed typed results f.locals (map pair (map (λ e. e.0) zs)) looped) e in
        said (z.1 looped q.0) (block_spoken zs looped q.1)

    part_spoken : (a : S) (looped : Bool) → (is_simple a.0 && is_formed a.0 looped) ≡ true → Spoken (variables a.0) (terms a.0)
    part_spoken a looped e = a.1 looped (and_parts (is_simple a.0) (is_formed a.0 looped) e).1

    -- the parts of a `for`
    for_spoken : {a b c d : List Addr} {t u v w : Terms} → Spoken a t → Spoken b u → Spoken c v → Spoken d w
        → Spoken (a ++ b ++ c ++ d) (both_terms t (both_terms u (both_terms v w)))
    for_spoken p q r z = record {
      mentioned = all_append (all_append (all_append p.mentioned q.mentioned) r.mentioned) z.mentioned;
      exprs = all_append p.exprs (all_append q.exprs (all_append r.exprs z.exprs));
      places = all_append p.places (all_append q.places (all_append r.places z.places));
    }

    if_spoken : {a b c : List Addr} {t u v : Terms} → Spoken a t → Spoken b u → Spoken c v → Spoken (a ++ b ++ c) (both_terms t (both_terms u v))
    if_spoken p q r = record {
      mentioned = all_append (all_append p.mentioned q.mentioned) r.mentioned;
      exprs = all_append p.exprs (all_append q.exprs r.exprs);
      places = all_append p.places (all_append q.places r.places);
    }

    return_spoken : (r : Option Kind) (x : Option TExpr) → return_formed typed results f.locals r x ≡ true → Spoken (any_names x) (if_expr x)
    return_spoken (Some k) (Some x) e = of_expr x (expr_ranged x k e)
    return_spoken None None e = silent
    return_spoken (Some k) None e = absurd cc
    return_spoken None (Some x) e = absurd cc

    layer_spoken : (y : TKind-F W S) (looped : Bool) → kind_formed typed results f.locals result (map_formed (kind_layer y)) looped ≡ true
        → Spoken (kind_names (map_variables (kind_layer y))) (kind_terms (map_terms (kind_layer y)))
    layer_spoken TKind-F.Empty looped e = silent
    layer_spoken (TKind-F.SetLocal n x) looped e = set_spoken n x (slice_get f.locals n) refl e
    layer_spoken (TKind-F.Store q x) looped e =
        let h = and_parts (Formed q) (fits_want (place_kind typed results f.locals q).wants (Fits x)) e in
        of_place q x (place_ranged q h.0) (want_ranged x (place_kind typed results f.locals q).wants h.1)
    layer_spoken (TKind-F.UpdateLocal op n x) looped e =
        let h = and_parts (is_int_local f.locals n) (Fits x Int) e in
        of_local n x (local_there n Int (slice_get f.locals n) refl h.0) (expr_ranged x Int h.1)
    layer_spoken (TKind-F.UpdateAt op q x) looped e =
        let h = and_parts (Formed q && may_want (place_kind typed results f.locals q).wants Int) (Fits x Int) e in
        of_place q x (place_ranged q (and_parts (Formed q) (may_want (place_kind typed results f.locals q).wants Int) h.0).0) (expr_ranged x Int h.1)
    layer_spoken (TKind-F.Call x) looped e = of_expr x (statement_ranged x (out-TExpr x) refl e)
    layer_spoken (TKind-F.Print format xs) looped e =
        all_spoken xs (and_parts (length xs == numbers_in format) (list_all (λ x. Fits x Int) xs) e).1
    layer_spoken (TKind-F.If x a None) looped e =
        let h = and_parts (fits_either (Fits x) && is_formed a.0 looped) true e in
        let k = and_parts (fits_either (Fits x)) (is_formed a.0 looped) h.0 in
        if_spoken (of_expr x (test_ranged x k.0)) (a.1 looped k.1) silent
    layer_spoken (TKind-F.If x a (Some b)) looped e =
        let h = and_parts (fits_either (Fits x) && is_formed a.0 looped) (is_formed b.0 looped) e in
        let k = and_parts (fits_either (Fits x)) (is_formed a.0 looped) h.0 in
        if_spoken (of_expr x (test_ranged x k.0)) (a.1 looped k.1) (b.1 looped h.1)
    layer_spoken (TKind-F.While x a) looped e =
        let h = and_parts (fits_either (Fits x)) (is_formed a.0 true) e in
        said (of_expr x (test_ranged x h.0)) (a.1 true h.1)
    layer_spoken (TKind-F.For None test None body number) looped e =
        let b = and_parts (true && (test_formed typed results f.locals test) && true) (is_formed body.0 true) e in
        let c = and_parts (true && (test_formed typed results f.locals test)) true b.0 in
        let d = and_parts true (test_formed typed results f.locals test) c.0 in
        for_spoken silent (test_spoken test d.1) silent (body.1 true b.1)
    layer_spoken (TKind-F.For None test (Some third) body number) looped e =
        let b = and_parts (true && (test_formed typed results f.locals test) && (is_simple third.0 && is_formed third.0 looped)) (is_formed body.0 true) e in
        let c = and_parts (true && (test_formed typed results f.locals test)) (is_simple third.0 && is_formed third.0 looped) b.0 in
        let d = and_parts true (test_formed typed results f.locals test) c.0 in
        for_spoken silent (test_spoken test d.1) (part_spoken third looped c.1) (body.1 true b.1)
    layer_spoken (TKind-F.For (Some first) test None body number) looped e =
        let b = and_parts ((is_simple first.0 && is_formed first.0 looped) && (test_formed typed results f.locals test) && true) (is_formed body.0 true) e in
        let c = and_parts ((is_simple first.0 && is_formed first.0 looped) && (test_formed typed results f.locals test)) true b.0 in
        let d = and_parts (is_simple first.0 && is_formed first.0 looped) (test_formed typed results f.locals test) c.0 in
        for_spoken (part_spoken first looped d.0) (test_spoken test d.1) silent (body.1 true b.1)
    layer_spoken (TKind-F.For (Some first) test (Some third) body number) looped e =
        let b = and_parts ((is_simple first.0 && is_formed first.0 looped) && (test_formed typed results f.locals test)
        && (is_simple third.0 && is_formed third.0 looped)) (is_formed body.0 true) e in
        let c = and_parts ((is_simple first.0 && is_formed first.0 looped) && (test_formed typed results f.locals test)) (is_simple third.0
        && is_formed third.0 looped) b.0 in
        let d = and_parts (is_simple first.0 && is_formed first.0 looped) (test_formed typed results f.locals test) c.0 in
        for_spoken (part_spoken first looped d.0) (test_spoken test d.1) (part_spoken third looped c.1) (body.1 true b.1)
    layer_spoken (TKind-F.Block zs) looped e = block_spoken zs looped e
    layer_spoken (TKind-F.Return x) looped e = return_spoken result x e
    layer_spoken TKind-F.Break looped e = silent
    layer_spoken TKind-F.Continue looped e = silent

    kind_step : (y : TKind-F W S) → KindSpoken (roll-TKind (kind_layer y))
    unfolding formed formed_in variables variables_in terms terms_in
    kind_step y looped e =
        subst (λ as'. Spoken as' (terms_in (roll-TKind (kind_layer y)))) (sym (fold-roll-TKind (List Addr) (List Addr) kind_names (λ s. s.kind) (kind_layer y)))
        (subst (λ t. Spoken (kind_names (map_variables (kind_layer y))) t) (sym (fold-roll-TKind Terms Terms kind_terms (λ s. s.kind) (kind_layer y)))
        (layer_spoken y looped (sym (ap (λ (h : Bool → Bool). h looped) (para-roll-TKind (Bool → Bool) (Bool
        → Bool) (kind_formed typed results f.locals result) (λ s. s.kind.1) (kind_layer y))) ∙ e)))

    abbrev stmt_layer : TStmt-F W S → TStmt-F TKind TStmt
    stmt_layer y = map-TStmt W S TKind TStmt (λ e. e.0) (λ e. e.0) y

    stmt_step : (y : TStmt-F W S) → StmtSpoken (roll-TStmt (stmt_layer y))
    unfolding formed formed_in variables variables_in terms terms_in
    stmt_step y looped e =
        subst (λ as'. Spoken as' (terms (roll-TStmt (stmt_layer y)))) (sym (fold-roll-TStmt (List Addr) (List Addr) kind_names (λ s. s.kind) (stmt_layer y)))
        (subst (λ t. Spoken (variables_in y.kind.0) t) (sym (fold-roll-TStmt Terms Terms kind_terms (λ s. s.kind) (stmt_layer y)))
        (y.kind.1 looped (sym (ap (λ (h : Bool → Bool). h looped) (para-roll-TStmt (Bool → Bool) (Bool
        → Bool) (kind_formed typed results f.locals result) (λ s. s.kind.1) (stmt_layer y))) ∙ e)))

    body_spoken : (ss : List TStmt) → list_all (λ s. is_formed s false) ss ≡ true → Spoken (flat_map variables ss) (terms_of ss)
    body_spoken [] e = silent
    body_spoken (s ∷ ss) e =
        let q = and_parts (is_formed s false) (list_all (λ s. is_formed s false) ss) e in
        said (stmt_induct KindSpoken StmtSpoken kind_step stmt_step s false q.0) (body_spoken ss q.1)

  -- ---- calls

  exprs_called : {xs : List TExpr} → AllOf CallsOf xs → AllOf Called (all_called (map calls xs))
  exprs_called none = none
  exprs_called (more h hs) = all_append h (exprs_called hs)

  places_called : {qs : List TPlace} → AllOf CallsAt qs → AllOf Called (all_called (map calls_at qs))
  places_called none = none
  places_called (more h hs) = all_append h (places_called hs)

  pub in_range : (k : ℕ) → IsFormedFunc typed results k f → AllOf (IsThere typed f) (flat_map variables f.body) × AllOf Called (calls_of (terms_of f.body))
  in_range k h = let b = body_spoken h.result f.body h.body in (b.mentioned, all_append (exprs_called b.exprs) (places_called b.places))

-- ---- the law

all_from : {A : Type 0} {P : A → Type 0} (xs : List A) → ((k : ℕ) (x : A) → slice_get xs k ≡ Some x → P x) → AllOf P xs
all_from [] h = none
all_from (x ∷ xs) h = more (h 0 x refl) (all_from xs (λ k y e. h (suc k) y e))

pub numbers_are_in_range : (q : Program) (typed : Typed) → Resolved q typed → All (IsInRange typed) typed.funcs
numbers_are_in_range q typed resolved =
    let wf = resolved_is_well_formed q typed resolved in
    let each : AllOf (IsInRange typed) typed.funcs = all_from typed.funcs (λ k f at.
    let h = in_range typed wf.results f k (wf.funcs k f at) in
    record { variables = all_told h.0; calls = all_told h.1; loops = all_told (loops_told typed wf.loops k f at) }) in
    all_told each

pub loops_are_in_place : (q : Program) (typed : Typed) → Resolved q typed → AreInPlace typed
loops_are_in_place q typed resolved =
    let wf = resolved_is_well_formed q typed resolved in
    record { as_many = as_many_loops typed wf.loops; number = loop_in_place typed wf.loops }
