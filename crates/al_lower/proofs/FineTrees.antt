-- What is planned for a well-formed tree is fine, and has the tree's loops in order.
use Rattle.std.proofs.Common.{◌≡◌, ℕ, suc, ◌+◌, ◌<◌, Bool, true, ◌&&◌, List, [], ◌∷◌, ◌++◌, length, map, Option, Some, None, refl, sym, ap, ◌∙◌, subst, append_assoc, ⊎_elim}
use Rattle.std.specs.Prelude.{slice_get, ℤ}
use Rattle.std.specs.List.{list_all}
use Rattle.std.proofs.lemmas.Option.{slice_get_within}
use Rattle.al_source.specs.declared.operators.UnOp.{UnOp}
use Rattle.al_source.specs.declared.operators.UnOp.TheVariants.{Neg, BitNot, Not}
use Rattle.al_core.specs.declared.choices.LoopInfo.{LoopInfo}
use Rattle.al_core.specs.declared.values.Kind.{Kind}
use Rattle.al_core.specs.declared.values.Kind.TheVariants.{Int, Ptr}
use Rattle.al_core.specs.declared.typed_tree.TExpr.{TExpr, out-TExpr, map-TExpr, fold-roll-TExpr, fold_out-TExpr}
use Rattle.al_core.specs.declared.typed_tree.TPlace.{TPlace, map-TPlace, fold-roll-TPlace}
use Rattle.al_core.specs.declared.typed_tree.TExpr.TheViews.{roll-TExpr, roll-TPlace}
use Rattle.al_core.specs.declared.typed_tree.TExpr.TheOpen.{TExpr-F, TPlace-F}
use Rattle.al_core.specs.declared.typed_tree.TLocal.{TLocal}
use Rattle.al_core.specs.declared.typed_tree.TGlobal.{TGlobal}
use Rattle.al_core.specs.declared.typed_tree.TFunc.{TFunc}
use Rattle.al_core.specs.declared.typed_tree.Typed.{Typed}
use Rattle.al_core.specs.Loops.{ForLoop}
use Rattle.al_laws.proofs.Induction.{With, expr_induct, place_induct}
use Rattle.al_rules.specs.Names.{AllOf, none, more}
use Rattle.al_rules.specs.WellFormed.{FitsKind, PlaceKind, local_kind, is_some_kind, is_one, may_want, fits_either, fits_want, fit_all, param_kinds, fit_params, gives, global_kind, operand_fits, expr_fits, place_kind_case, fits, place_kind, call_formed}
use Rattle.al_rules_laws.proofs.Logic.{and_parts, or_parts}
use Rattle.al_rules_laws.proofs.LoopEntries.{all_append}
use Rattle.al_code.specs.declared.instructions.Instr.{Instr}
use Rattle.al_code.specs.Valid.{LocalInRange}
use Rattle.al_code_laws.specs.declared.plan.Op.{Op}
use Rattle.al_code_laws.specs.declared.plan.Op.TheVariants.{As, CallOf}
use Rattle.al_code_laws.specs.declared.plan.Planned.{Planned}
use Rattle.al_code_laws.specs.Planned.{planned, Plan, Emit, nothing, one, ◌⨟◌}
use Rattle.al_code_laws.specs.Tree.{Lined, in_turn, short, expr_code_case, place_code_case, expr_code, place_code, exprs_code}
use Rattle.al_lower.specs.Fine.{GlobalInRange, IsFine, number_in, numbers_of}

pub numbers_append : (a b : Plan) → numbers_of (a ++ b) ≡ numbers_of a ++ numbers_of b
numbers_append [] b = refl
numbers_append (p ∷ a) b = ap (λ l. number_in p.op ++ l) (numbers_append a b) ∙ sym (append_assoc (number_in p.op) (numbers_of a) (numbers_of b))

map_append : {A B : Type 0} (f : A → B) (a b : List A) → map f (a ++ b) ≡ map f a ++ map f b
map_append f [] b = refl
map_append f (x ∷ a) b = ap (λ l. f x ∷ l) (map_append f a b)

module _ (typed : Typed) (infos : List LoopInfo) (locals : List TLocal) where
  abbrev Fine : Planned → Type 0
  Fine p = IsFine typed infos (length locals) p.op

  -- it is fine, and has these loops in order
  pub record Fitted (ps : Plan) (ls : List ForLoop) : Type 0 where
    pub fine : AllOf Fine ps
    pub numbers : numbers_of ps ≡ map (λ l. l.number) ls

  abbrev pub Fit : Emit → List ForLoop → Type 0
  Fit c ls = (n : ℕ) → Fitted (c n) ls

  pub fit_nothing : Fit nothing []
  fit_nothing n = record { fine = none; numbers = refl }

  pub fitted_append : {a b : Plan} {ls ms : List ForLoop} → Fitted a ls → Fitted b ms → Fitted (a ++ b) (ls ++ ms)
  fitted_append {a = a} {b = b} {ls = ls} {ms = ms} p q = record {
    fine = all_append p.fine q.fine;
    numbers = numbers_append a b ∙ (λ j. p.numbers j ++ q.numbers j) ∙ sym (map_append (λ l. l.number) ls ms);
  }

  pub fitted_cons : {op : Op} {line h : ℕ} {ps : Plan} {ls : List ForLoop} → IsFine typed infos (length locals) op → number_in op ≡ [] → Fitted ps ls
      → Fitted (planned op line h ∷ ps) ls
  fitted_cons {ps = ps} f e p = record { fine = more f p.fine; numbers = ap (λ l. l ++ numbers_of ps) e ∙ p.numbers }

  pub fit_one : {op : Op} {line h : ℕ} → IsFine typed infos (length locals) op → number_in op ≡ [] → Fit (one op line h) []
  fit_one f e n = fitted_cons f e (fit_nothing n)

  pub fit_seq : {a b : Emit} {ls ms : List ForLoop} → Fit a ls → Fit b ms → Fit (a ⨟ b) (ls ++ ms)
  fit_seq p q n = fitted_append (p _) (q n)

  pub fit_same : {c : Emit} {ls ms : List ForLoop} → ls ≡ ms → Fit c ls → Fit c ms
  fit_same {c = c} e p n = subst (λ l. Fitted (c n) l) e (p n)

  -- an instruction with no number
  pub plain : {x : Instr} {line h : ℕ} → LocalInRange (length locals) x → GlobalInRange typed x → Fit (one (As x) line h) []
  plain l g = fit_one (l, g) refl

  module _ (results : List (Option Kind)) where
    abbrev Fits : TExpr → FitsKind
    Fits = fits typed results locals

    abbrev Formed : TPlace → Bool
    Formed q = (place_kind typed results locals q).formed

    abbrev pub ExprFit : TExpr → Type 0
    ExprFit x = (line h : ℕ) → Fit (expr_code x line h) []

    abbrev pub PlaceFit : TPlace → Type 0
    PlaceFit q = (line h : ℕ) → Fit (place_code q line h) []

    abbrev ExprFine : TExpr → Type 0
    ExprFine x = (want : Kind) → Fits x want ≡ true → ExprFit x

    abbrev PlaceFine : TPlace → Type 0
    PlaceFine q = Formed q ≡ true → PlaceFit q

    abbrev X : Type 0
    X = With TExpr ExprFine

    abbrev Q : Type 0
    Q = With TPlace PlaceFine

    abbrev expr_layer : TExpr-F X Q → TExpr-F TExpr TPlace
    expr_layer y = map-TExpr X Q TExpr TPlace (λ e. e.0) (λ e. e.0) y

    abbrev place_layer : TPlace-F X Q → TPlace-F TExpr TPlace
    place_layer y = map-TPlace X Q TExpr TPlace (λ e. e.0) (λ e. e.0) y

    -- what fits either kind fits one
    either_fits : (x : X) → fits_either (Fits x.0) ≡ true → ExprFit x.0
    either_fits x e = ⊎_elim (x.1 Int) (x.1 Ptr) (or_parts (Fits x.0 Int) (Fits x.0 Ptr) e)

    operand_fine : (op : UnOp) (x : X) → operand_fits op (Fits x.0) ≡ true → ExprFit x.0
    operand_fine Neg x e = x.1 Int e
    operand_fine BitNot x e = x.1 Int e
    operand_fine Not x e = either_fits x e

    pub local_there : (n : ℕ) (want : Kind) (m : Option TLocal) → slice_get locals n ≡ m → is_some_kind (local_kind m) want ≡ true → n < length locals
    local_there n want (Some v) at e = slice_get_within locals n v at
    local_there n want None at e = absurd cc

    global_there : (n : ℕ) (m : Option TGlobal) → slice_get typed.globals n ≡ m → (global_kind m).formed ≡ true → n < length typed.globals
    global_there n (Some g) at e = slice_get_within typed.globals n g at
    global_there n None at e = absurd cc

    args_fit : {xs : List TExpr} → AllOf ExprFine xs → (ks : List Kind) → fit_all (map Fits xs) ks ≡ true → (line h : ℕ)
        → Fit (in_turn line h (map expr_code xs)) []
    args_fit none ks e line h = fit_nothing
    args_fit (more f fs) [] e line h = absurd cc
    args_fit (more {a = x} {rest = xs} f fs) (k ∷ ks) e line h =
        let q = and_parts (Fits x k) (fit_all (map Fits xs) ks) e in fit_seq (f k q.0 line h) (args_fit fs ks q.1 line (suc h))

    as_many : (xs : List TExpr) (ks : List Kind) → fit_all (map Fits xs) ks ≡ true → length ks ≡ length (map expr_code xs)
    as_many [] [] e = refl
    as_many [] (k ∷ ks) e = absurd cc
    as_many (x ∷ xs) [] e = absurd cc
    as_many (x ∷ xs) (k ∷ ks) e = ap suc (as_many xs ks (and_parts (Fits x k) (fit_all (map Fits xs) ks) e).1)

    abbrev Params : TFunc → Type 0
    Params g = length (param_kinds g) ≡ g.params

    call_fine : (params : (g : ℕ) (f : TFunc) → slice_get typed.funcs g ≡ Some f → Params f) (g : ℕ) {xs : List TExpr} → AllOf ExprFine xs
        → (m : Option TFunc) → slice_get typed.funcs g ≡ m → fit_params (map Fits xs) m ≡ true → (line h : ℕ)
        → Fit (in_turn line h (map expr_code xs) ⨟ one (CallOf g (length (map expr_code xs))) line (h + length (map expr_code xs))) []
    call_fine params g {xs = xs} fs (Some f) at e line h =
        fit_seq (args_fit fs (param_kinds f) e line h)
        (fit_one (record { func = f; has = at; takes = sym (params g f at) ∙ as_many xs (param_kinds f) e }) refl)
    call_fine params g fs None at e line h = absurd cc

    module _ (params : (g : ℕ) (f : TFunc) → slice_get typed.funcs g ≡ Some f → Params f) where
      parts : (xs : List X) → AllOf ExprFine (map (λ e. e.0) xs)
      parts [] = none
      parts (x ∷ xs) = more x.1 (parts xs)

      abbrev map_fits : TExpr-F TExpr TPlace → TExpr-F FitsKind PlaceKind
      map_fits x = map-TExpr TExpr TPlace FitsKind PlaceKind Fits (place_kind typed results locals) x

      abbrev map_forms : TPlace-F TExpr TPlace → TPlace-F FitsKind PlaceKind
      map_forms x = map-TPlace TExpr TPlace FitsKind PlaceKind Fits (place_kind typed results locals) x

      abbrev code_layer : TExpr-F TExpr TPlace → TExpr-F Lined Lined
      code_layer x = map-TExpr TExpr TPlace Lined Lined expr_code place_code x

      -- an operand and an instruction, and two of them
      after_one : {a : Emit} (x : Instr) (line h : ℕ) → LocalInRange (length locals) x → GlobalInRange typed x → Fit a [] → Fit (a ⨟ one (As x) line h) []
      after_one x line h l g p = fit_seq p (plain l g)

      after_two : {a b : Emit} (x : Instr) (line h : ℕ) → LocalInRange (length locals) x → GlobalInRange typed x → Fit a [] → Fit b []
          → Fit (a ⨟ (b ⨟ one (As x) line h)) []
      after_two x line h l g p q = fit_seq p (fit_seq q (plain l g))

      short_fine : (line h : ℕ) (b : Bool) (answer : ℤ) {c : Emit} → Fit c [] → Fit (short line h b answer c) []
      short_fine line h b answer p n =
          fitted_cons tt refl (fitted_append (p _) (fitted_cons (tt, tt) refl (fitted_cons tt refl (fitted_cons (tt, tt) refl (fit_nothing n)))))

      both_fit : (want : Kind) (x y : X) (j k : Kind) → (is_one Int want && Fits x.0 j && Fits y.0 k) ≡ true → ExprFit x.0 × ExprFit y.0
      both_fit want x y j k e =
          let q = and_parts (is_one Int want && Fits x.0 j) (Fits y.0 k) e in
          (x.1 j (and_parts (is_one Int want) (Fits x.0 j) q.0).1, y.1 k q.1)

      tests_fit : (want : Kind) (x y : X) → (is_one Int want && fits_either (Fits x.0) && fits_either (Fits y.0)) ≡ true → ExprFit x.0 × ExprFit y.0
      tests_fit want x y e =
          let q = and_parts (is_one Int want && fits_either (Fits x.0)) (fits_either (Fits y.0)) e in
          (either_fits x (and_parts (is_one Int want) (fits_either (Fits x.0)) q.0).1, either_fits y q.1)

      layer_fine : (y : TExpr-F X Q) (want : Kind) → expr_fits typed results locals (map_fits (expr_layer y)) want ≡ true → (line h : ℕ)
          → Fit (expr_code_case (code_layer (expr_layer y)) line h) []
      layer_fine (TExpr-F.Number n) want e line h = plain tt tt
      layer_fine (TExpr-F.Local n) want e line h = plain (local_there n want (slice_get locals n) refl e) tt
      layer_fine (TExpr-F.Load k q) want e line h =
          after_one _ _ _ tt tt (q.1 (and_parts (is_one k want) (Formed q.0)
          (and_parts (is_one k want && Formed q.0) (may_want (place_kind typed results locals q.0).wants k) e).0).1 line h)
      layer_fine (TExpr-F.Addr q) want e line h = q.1 (and_parts (is_one Ptr want) (Formed q.0) e).1 line h
      layer_fine (TExpr-F.Unary op x) want e line h =
          after_one _ _ _ tt tt (operand_fine op x (and_parts (is_one Int want) (operand_fits op (Fits x.0)) e).1 line h)
      layer_fine (TExpr-F.Binary op x y) want e line h = let q = both_fit want x y Int Int e in after_two _ _ _ tt tt (q.0 line h) (q.1 line (suc h))
      layer_fine (TExpr-F.Same equal x y) want e line h = let q = both_fit want x y Ptr Ptr e in after_two _ _ _ tt tt (q.0 line h) (q.1 line (suc h))
      layer_fine (TExpr-F.And x y) want e line h = let q = tests_fit want x y e in fit_seq (q.0 line h) (short_fine _ _ _ _ (q.1 line h))
      layer_fine (TExpr-F.Or x y) want e line h = let q = tests_fit want x y e in fit_seq (q.0 line h) (short_fine _ _ _ _ (q.1 line h))
      layer_fine (TExpr-F.Call g xs) want e line h =
          call_fine params g (parts xs) (slice_get typed.funcs g) refl
          (and_parts (gives (slice_get results g) want) (fit_params (map Fits (map (λ e. e.0) xs)) (slice_get typed.funcs g)) e).1 line h
      layer_fine (TExpr-F.Input x) want e line h = after_one _ _ _ tt tt (x.1 Int (and_parts (is_one Int want) (Fits x.0 Int) e).1 line h)
      layer_fine TExpr-F.Inputs want e line h = plain tt tt
      layer_fine (TExpr-F.Choose op x y) want e line h = let q = both_fit want x y Int Int e in after_two _ _ _ tt tt (q.0 line h) (q.1 line (suc h))
      layer_fine (TExpr-F.Calloc x size) want e line h = after_one _ _ _ tt tt (x.1 Int (and_parts (is_one Ptr want) (Fits x.0 Int) e).1 line h)
      layer_fine (TExpr-F.Free x) want e line h = absurd cc

      place_fine_at : (y : TPlace-F X Q) → (place_kind_case typed results locals (map_forms (place_layer y))).formed ≡ true → (line h : ℕ)
          → Fit (place_code_case (map-TPlace TExpr TPlace Lined Lined expr_code place_code (place_layer y)) line h) []
      place_fine_at (TPlace-F.Global n) e line h = plain tt (global_there n (slice_get typed.globals n) refl e)
      place_fine_at (TPlace-F.At x) e line h = after_one _ _ _ tt tt (x.1 Ptr e line h)
      place_fine_at (TPlace-F.Plus q n) e line h = after_one _ _ _ tt tt (q.1 e line h)
      place_fine_at (TPlace-F.Elem q x n) e line h =
          let p = and_parts (Formed q.0) (Fits x.0 Int) e in after_two _ _ _ tt tt (q.1 p.0 line h) (x.1 Int p.1 line (suc h))

      expr_step : (y : TExpr-F X Q) → ExprFine (roll-TExpr (expr_layer y))
      unfolding fits place_kind expr_code place_code
      expr_step y want e line h =
          subst (λ (c : Lined). Fit (c line h) []) (sym (fold-roll-TExpr Lined Lined expr_code_case place_code_case (expr_layer y)))
          (layer_fine y want
          (sym (ap (λ (f : FitsKind). f want)
          (fold-roll-TExpr FitsKind PlaceKind (expr_fits typed results locals) (place_kind_case typed results locals) (expr_layer y))) ∙ e) line h)

      place_step : (y : TPlace-F X Q) → PlaceFine (roll-TPlace (place_layer y))
      unfolding fits place_kind expr_code place_code
      place_step y e line h =
          subst (λ (c : Lined). Fit (c line h) []) (sym (fold-roll-TPlace Lined Lined expr_code_case place_code_case (place_layer y)))
          (place_fine_at y
          (sym (ap (λ (f : PlaceKind). f.formed)
          (fold-roll-TPlace FitsKind PlaceKind (expr_fits typed results locals) (place_kind_case typed results locals) (place_layer y))) ∙ e) line h)

      pub expr_fine : (x : TExpr) (want : Kind) → Fits x want ≡ true → ExprFit x
      expr_fine = expr_induct ExprFine PlaceFine expr_step place_step

      pub place_fine : (q : TPlace) → Formed q ≡ true → PlaceFit q
      place_fine = place_induct ExprFine PlaceFine expr_step place_step

      pub test_fine : (x : TExpr) → fits_either (Fits x) ≡ true → ExprFit x
      test_fine x e = either_fits (x, expr_fine x) e

      pub want_fine : (x : TExpr) (w : Option Kind) → fits_want w (Fits x) ≡ true → ExprFit x
      want_fine x (Some k) e = expr_fine x k e
      want_fine x None e = test_fine x e

      all_fine : (xs : List TExpr) → AllOf ExprFine xs
      all_fine [] = none
      all_fine (x ∷ xs) = more (expr_fine x) (all_fine xs)

      code_out : (x : TExpr) (line h : ℕ) → expr_code x line h ≡ expr_code_case (code_layer (out-TExpr x)) line h
      unfolding expr_code place_code
      code_out x line h = ap (λ (c : Lined). c line h) (fold_out-TExpr Lined Lined expr_code_case place_code_case x)

      -- a call that is a statement
      pub statement_fine : (x : TExpr) (y : TExpr-F TExpr TPlace) → out-TExpr x ≡ y → call_formed typed results locals y x ≡ true → ExprFit x
      statement_fine x (TExpr-F.Call g xs) is e line h =
          subst (λ (c : Emit). Fit c []) (sym (code_out x line h ∙ ap (λ y. expr_code_case (code_layer y) line h) is))
          (call_fine params g (all_fine xs) (slice_get typed.funcs g) refl e line h)
      statement_fine x (TExpr-F.Free p) is e line h =
          subst (λ (c : Emit). Fit c []) (sym (code_out x line h ∙ ap (λ y. expr_code_case (code_layer y) line h) is))
          (after_one _ _ _ tt tt (expr_fine p Ptr e line h))
      statement_fine x (TExpr-F.Number n) is e line h = test_fine x e line h
      statement_fine x (TExpr-F.Local n) is e line h = test_fine x e line h
      statement_fine x (TExpr-F.Load k q) is e line h = test_fine x e line h
      statement_fine x (TExpr-F.Addr q) is e line h = test_fine x e line h
      statement_fine x (TExpr-F.Unary op a) is e line h = test_fine x e line h
      statement_fine x (TExpr-F.Binary op a b) is e line h = test_fine x e line h
      statement_fine x (TExpr-F.Same equal a b) is e line h = test_fine x e line h
      statement_fine x (TExpr-F.And a b) is e line h = test_fine x e line h
      statement_fine x (TExpr-F.Or a b) is e line h = test_fine x e line h
      statement_fine x (TExpr-F.Input a) is e line h = test_fine x e line h
      statement_fine x TExpr-F.Inputs is e line h = test_fine x e line h
      statement_fine x (TExpr-F.Choose op a b) is e line h = test_fine x e line h
      statement_fine x (TExpr-F.Calloc a size) is e line h = test_fine x e line h

      pub exprs_fine : (xs : List TExpr) → list_all (λ x. Fits x Int) xs ≡ true → (line h : ℕ) → Fit (exprs_code xs line h) []
      exprs_fine [] e line h = fit_nothing
      exprs_fine (x ∷ xs) e line h =
          let q = and_parts (Fits x Int) (list_all (λ x. Fits x Int) xs) e in fit_seq (expr_fine x Int q.0 line h) (exprs_fine xs q.1 line (suc h))
