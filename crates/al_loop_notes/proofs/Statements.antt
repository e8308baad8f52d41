-- What is asked of the uses of statements is what the rules ask of the statements.
use Rattle.std.proofs.Common.{◌≡◌, ℕ, List, [], ◌∷◌, ◌++◌, Option, Some, None, refl, sym, ap, ◌∙◌}
use Rattle.std.proofs.lemmas.List.Folds.{list_any-append}
use Rattle.std.proofs.lemmas.Grind.{flat_map-append}
use Rattle.std.specs.Prelude.{Bool, true, false, ◌||◌, option_map}
use Rattle.std.specs.List.{list_any, flat_map}
use Rattle.al_source.specs.declared.operators.BinOp.{BinOp}
use Rattle.al_source.specs.declared.texts.Piece.{Piece}
use Rattle.al_core.specs.declared.typed_tree.TExpr.{TExpr}
use Rattle.al_core.specs.declared.typed_tree.TPlace.{TPlace}
use Rattle.al_core.specs.declared.typed_tree.TStmt.{TStmt, fold-TStmt}
use Rattle.al_core.specs.declared.typed_tree.TKind.{map-TKind}
use Rattle.al_core.specs.declared.typed_tree.TKind.TheOpen.{TKind-F}
use Rattle.al_core.specs.declared.values.Addr.{Addr}
use Rattle.al_core.specs.declared.values.Addr.TheVariants as addr
use Rattle.al_rules.specs.Bodies.{if_any, any_case, assigns_here, assigns, returns_here, has_return}
use Rattle.al_rules.specs.Candidates.{names, any_names, if_names, kind_names, variables}
use Rattle.al_loop_notes.specs.declared.uses.Use.{Use}
use Rattle.al_loop_notes.specs.declared.uses.Use.TheVariants as one
use Rattle.al_loop_notes.specs.Uses.{uses, uses_at, any_uses, if_uses, kind_uses, stmt_uses, is_set, is_return, variable_of}
use Rattle.al_loop_notes.proofs.Induction.{stmt_fused}
use Rattle.al_loop_notes.proofs.Asked.{IsOfStatements, none_in_expr, none_at_place, uses_name, uses_at_name, variables_of, all_picked, all_any}

-- ---- variables, in source order

both_names : (x y : List Use) (a b : List Addr) → variables_of x ≡ a → variables_of y ≡ b → variables_of (x ++ y) ≡ a ++ b
both_names x y a b f g = flat_map-append variable_of x y ∙ ap (λ l. l ++ variables_of y) f ∙ ap (λ l. a ++ l) g

each_names : (es : List TExpr) → variables_of (flat_map uses es) ≡ flat_map names es
each_names [] = refl
each_names (e ∷ es) = both_names (uses e) (flat_map uses es) _ _ (uses_name e) (each_names es)

test_names : (e : Option TExpr) → variables_of (any_uses e) ≡ any_names e
test_names None = refl
test_names (Some e) = uses_name e

part_names : (o : Option (List Use)) → variables_of (if_uses o) ≡ if_names (option_map variables_of o)
part_names None = refl
part_names (Some us) = refl

for_names : (first : Option (List Use)) (test : Option TExpr) (third : Option (List Use)) (body : List Use)
    → variables_of (if_uses first ++ any_uses test ++ if_uses third ++ body)
    ≡ if_names (option_map variables_of first) ++ any_names test ++ if_names (option_map variables_of third) ++ variables_of body
for_names first test third body =
    both_names (if_uses first ++ any_uses test ++ if_uses third) body _ _
    (both_names (if_uses first ++ any_uses test) (if_uses third) _ _
    (both_names (if_uses first) (any_uses test) _ _ (part_names first) (test_names test)) (part_names third)) refl

kind_names_are : (x : TKind-F (List Use) (List Use))
    → variables_of (kind_uses x) ≡ kind_names (map-TKind (List Use) (List Use) (List Addr) (List Addr) variables_of variables_of x)
kind_names_are TKind-F.Empty = refl
kind_names_are (TKind-F.SetLocal n e) = ap (λ l. addr.Local n ∷ l) (uses_name e)
kind_names_are (TKind-F.Store p e) = both_names (uses_at p).1 (uses e) _ _ (uses_at_name p) (uses_name e)
kind_names_are (TKind-F.UpdateLocal op n e) = ap (λ l. addr.Local n ∷ l) (uses_name e)
kind_names_are (TKind-F.UpdateAt op p e) = both_names (uses_at p).1 (uses e) _ _ (uses_at_name p) (uses_name e)
kind_names_are (TKind-F.Call e) = uses_name e
kind_names_are (TKind-F.Print format es) = each_names es
kind_names_are (TKind-F.If e s None) = both_names (uses e ++ s) [] _ _ (both_names (uses e) s _ _ (uses_name e) refl) refl
kind_names_are (TKind-F.If e s (Some r)) = both_names (uses e ++ s) r _ _ (both_names (uses e) s _ _ (uses_name e) refl) refl
kind_names_are (TKind-F.While e s) = both_names (uses e) s _ _ (uses_name e) refl
kind_names_are (TKind-F.For None test None body number) = for_names None test None body
kind_names_are (TKind-F.For None test (Some third) body number) = for_names None test (Some third) body
kind_names_are (TKind-F.For (Some first) test None body number) = for_names (Some first) test None body
kind_names_are (TKind-F.For (Some first) test (Some third) body number) = for_names (Some first) test (Some third) body
kind_names_are (TKind-F.Block ss) = all_picked variable_of ss
kind_names_are (TKind-F.Return e) = test_names e
kind_names_are TKind-F.Break = refl
kind_names_are TKind-F.Continue = refl

pub uses_are_variables : (s : TStmt) → flat_map variable_of (stmt_uses s) ≡ variables s
unfolding stmt_uses variables
uses_are_variables = stmt_fused kind_uses variables_of kind_names kind_names_are

-- ---- a test of what only statements do

or_false : (a : Bool) → (a || false) ≡ a
or_false true = refl
or_false false = refl

module _ (t : Use → Bool) (outside : IsOfStatements t) where
  abbrev any : List Use → Bool
  any = list_any t

  after_expr : (e : TExpr) (us : List Use) → any (uses e ++ us) ≡ any us
  after_expr e us = list_any-append t (uses e) us ∙ ap (λ b. b || any us) (none_in_expr t outside e)

  after_place : (p : TPlace) (e : TExpr) → any ((uses_at p).1 ++ uses e) ≡ false
  after_place p e = list_any-append t (uses_at p).1 (uses e) ∙ ap (λ b. b || any (uses e)) (none_at_place t outside p) ∙ none_in_expr t outside e

  in_exprs : (es : List TExpr) → any (flat_map uses es) ≡ false
  in_exprs [] = refl
  in_exprs (e ∷ es) = after_expr e (flat_map uses es) ∙ in_exprs es

  in_test : (e : Option TExpr) → any (any_uses e) ≡ false
  in_test None = refl
  in_test (Some e) = none_in_expr t outside e

  in_part : (o : Option (List Use)) → any (if_uses o) ≡ if_any (option_map any o)
  in_part None = refl
  in_part (Some us) = refl

  after_use : (u : Use) (e : TExpr) → any (u ∷ uses e) ≡ t u
  after_use u e = ap (λ b. t u || b) (none_in_expr t outside e) ∙ or_false (t u)

  three : (x : List Use) (e : Option TExpr) (y z : List Use) → any (x ++ any_uses e ++ y ++ z) ≡ ((any x || any y) || any z)
  three x e y z =
      list_any-append t (x ++ any_uses e ++ y) z
      ∙ ap (λ b. b || any z) (list_any-append t (x ++ any_uses e) y
      ∙ ap (λ b. b || any y) (list_any-append t x (any_uses e) ∙ ap (λ b. any x || b) (in_test e) ∙ or_false (any x)))

  two : (e : TExpr) (x y : List Use) → any (uses e ++ x ++ y) ≡ (any x || any y)
  two e x y = list_any-append t (uses e ++ x) y ∙ ap (λ b. b || any y) (after_expr e x)

  -- at a node, the test of the rules is that of what the node does itself
  pub record IsTold (here : TKind-F Bool Bool → Bool) : Type 0 where
    pub empty : here TKind-F.Empty ≡ false
    pub set : (n : ℕ) (e : TExpr) → here (TKind-F.SetLocal n e) ≡ t (one.Set n)
    pub store : (p : TPlace) (e : TExpr) → here (TKind-F.Store p e) ≡ false
    pub update : (op : BinOp) (n : ℕ) (e : TExpr) → here (TKind-F.UpdateLocal op n e) ≡ t (one.Set n)
    pub update_at : (op : BinOp) (p : TPlace) (e : TExpr) → here (TKind-F.UpdateAt op p e) ≡ false
    pub call : (e : TExpr) → here (TKind-F.Call e) ≡ false
    pub print : (format : List Piece) (es : List TExpr) → here (TKind-F.Print format es) ≡ false
    pub back : (e : Option TExpr) → here (TKind-F.Return e) ≡ t one.Return
    pub break' : here TKind-F.Break ≡ false
    pub continue' : here TKind-F.Continue ≡ false

  module _ (here : TKind-F Bool Bool → Bool) (told : IsTold here) where
    at_kind : (x : TKind-F (List Use) (List Use)) → any (kind_uses x) ≡ any_case here (map-TKind (List Use) (List Use) Bool Bool any any x)
    at_kind TKind-F.Empty = sym told.empty
    at_kind (TKind-F.SetLocal n e) = after_use (one.Set n) e ∙ sym (told.set n e)
    at_kind (TKind-F.Store p e) = after_place p e ∙ sym (told.store p e)
    at_kind (TKind-F.UpdateLocal op n e) = after_use (one.Set n) e ∙ sym (told.update op n e)
    at_kind (TKind-F.UpdateAt op p e) = after_place p e ∙ sym (told.update_at op p e)
    at_kind (TKind-F.Call e) = none_in_expr t outside e ∙ sym (told.call e)
    at_kind (TKind-F.Print format es) = in_exprs es ∙ sym (told.print format es)
    at_kind (TKind-F.If e s None) = two e s []
    at_kind (TKind-F.If e s (Some r)) = two e s r
    at_kind (TKind-F.While e s) = after_expr e s
    at_kind (TKind-F.For None test None body number) = three [] test [] body
    at_kind (TKind-F.For None test (Some third) body number) = three [] test third body
    at_kind (TKind-F.For (Some first) test None body number) = three first test [] body
    at_kind (TKind-F.For (Some first) test (Some third) body number) = three first test third body
    at_kind (TKind-F.Block ss) = all_any t ss
    at_kind (TKind-F.Return e) = ap (λ b. t one.Return || b) (in_test e) ∙ or_false (t one.Return) ∙ sym (told.back e)
    at_kind TKind-F.Break = sym told.break'
    at_kind TKind-F.Continue = sym told.continue'

    pub told_by : (s : TStmt) → any (fold-TStmt (List Use) (List Use) kind_uses (λ s. s.kind) s) ≡ fold-TStmt Bool Bool (any_case here) (λ s. s.kind) s
    told_by = stmt_fused kind_uses any (any_case here) at_kind

sets_outside : (n : ℕ) → IsOfStatements (is_set n)
sets_outside n = record { no_local = λ k. refl; no_global = λ k. refl; no_address = λ k. refl; no_call = λ f. refl }

returns_outside : IsOfStatements is_return
returns_outside = record { no_local = λ k. refl; no_global = λ k. refl; no_address = λ k. refl; no_call = λ f. refl }

sets_told : (n : ℕ) → IsTold (is_set n) (sets_outside n) (assigns_here n)
sets_told n = record {
  empty = refl;
  set = λ m e. refl;
  store = λ p e. refl;
  update = λ op m e. refl;
  update_at = λ op p e. refl;
  call = λ e. refl;
  print = λ format es. refl;
  back = λ e. refl;
  break' = refl;
  continue' = refl;
}

returns_told : IsTold is_return returns_outside returns_here
returns_told = record {
  empty = refl;
  set = λ m e. refl;
  store = λ p e. refl;
  update = λ op m e. refl;
  update_at = λ op p e. refl;
  call = λ e. refl;
  print = λ format es. refl;
  back = λ e. refl;
  break' = refl;
  continue' = refl;
}

-- the statement assigns the local
pub uses_assign : (n : ℕ) (s : TStmt) → list_any (is_set n) (stmt_uses s) ≡ assigns n s
unfolding stmt_uses assigns
uses_assign n = told_by (is_set n) (sets_outside n) (assigns_here n) (sets_told n)

-- a `return` stands in it
pub uses_return : (s : TStmt) → list_any is_return (stmt_uses s) ≡ has_return s
unfolding stmt_uses has_return
uses_return = told_by is_return returns_outside returns_here returns_told
