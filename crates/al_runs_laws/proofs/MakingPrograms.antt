-- What typing makes of functions and of a program whose numbers are of a kind.
use Rattle.std.proofs.Common.{◌≡◌, ℕ, zero, suc, ◌+◌, false, List, [], ◌∷◌, length, Some, Result, Ok, slice_get, subst}
use Rattle.std.specs.Prelude.{ℤ}
use Rattle.al_source.specs.Steps.{and_then}
use Rattle.al_source.specs.declared.source_tree.CType.{CType}
use Rattle.al_source.specs.declared.source_tree.Func.{Func}
use Rattle.al_source.specs.declared.source_tree.Program.{Program}
use Rattle.al_ast.specs.Nodes.{capped, program_nodes}
use Rattle.al_core.specs.declared.typed_tree.TExpr.{TExpr}
use Rattle.al_core.specs.declared.typed_tree.TPlace.{TPlace}
use Rattle.al_core.specs.declared.typed_tree.TFunc.{TFunc}
use Rattle.al_core.specs.declared.typed_tree.TNote.{TNote}
use Rattle.al_core.specs.declared.typed_tree.TStmt.{TStmt}
use Rattle.al_core.specs.declared.typed_tree.Typed.{Typed}
use Rattle.al_core.specs.Accepted.{terms_of}
use Rattle.al_rules.specs.declared.faults.TypeCause.{TypeCause}
use Rattle.al_rules.specs.declared.layout.Layout.{Layout}
use Rattle.al_rules.specs.Names.{AllOf}
use Rattle.al_rules.specs.Names as n
use Rattle.al_rules.specs.Scopes.{Known, globals_in, funcs_in, known_of}
use Rattle.al_rules.specs.Walks.{Progress}
use Rattle.al_rules.specs.Statements as w
use Rattle.al_rules.specs.Programs.{items_checked, main_of, begun, func_typed, funcs_typed, globals_typed, typed_with}
use Rattle.al_rules_laws.proofs.Logic.{then_ok}
use Rattle.al_runs_laws.proofs.Making.{Kept}
use Rattle.al_runs_laws.proofs.MakingStatements.{AllMade}
use Rattle.al_runs_laws.proofs.MakingStatements as made

-- ---- functions

module _ (N : ℤ → Type 0) (known : Known) (P : TExpr → Type 0) (Q : CType → TPlace → Type 0) (R : TPlace → Type 0) (c : Kept N known P Q R) where
  abbrev pub FineFunc : Func → Type 0
  FineFunc f = (m : ℕ) (a : CType) → AllOf (made.Fine N known P Q R c m a) f.body

  abbrev pub MadeFunc : TFunc → Type 0
  MadeFunc t = AllMade P Q (terms_of t.body)

  func_made : (m : ℕ) (f : Func) (loops : List TNote) (t : TFunc × List TNote) → FineFunc f → func_typed known m f loops ≡ Ok t → MadeFunc t.0
  func_made m f loops t fine e =
      let q = then_ok (w.statements known m f.result false f.body (begun f.params loops))
      (λ r. Ok (record { params = length f.params; locals = r.1.locals; body = r.0; line = f.line }, r.1.loops)) t e in
      subst (λ (t : TFunc × List TNote). MadeFunc t.0) (same q.0 q.2)
      (made.statements_made N known P Q R c m f.result f.body false (fine m f.result) (begun f.params loops) q.0 q.1)
    where
      same : (r : List TStmt × Progress)
          → ◌≡◌ {A = Result (TFunc
          × List TNote) TypeCause} (Ok (record { params = length f.params; locals = r.1.locals; body = r.0; line = f.line }, r.1.loops)) (Ok t)
          → ◌≡◌ {A = TFunc × List TNote} (record { params = length f.params; locals = r.1.locals; body = r.0; line = f.line }, r.1.loops) t
      same r e = cc

  pub funcs_made : (m : ℕ) (fs : List Func) (loops : List TNote) (z : List TFunc × List TNote) → AllOf FineFunc fs → funcs_typed known m fs loops ≡ Ok z
      → AllOf MadeFunc z.0
  funcs_made m [] loops z fine e = subst (λ (z : List TFunc × List TNote). AllOf MadeFunc z.0) (same e) n.none
    where
      same : ◌≡◌ {A = Result (List TFunc × List TNote) TypeCause} (Ok ([], loops)) (Ok z) → ◌≡◌ {A = List TFunc × List TNote} ([], loops) z
      same e = cc
  funcs_made m (f ∷ fs) loops z (n.more fine rest) e =
      let a = then_ok (func_typed known m f loops) (λ t. and_then (funcs_typed known (m + 1) fs t.1) (λ ts. Ok (t.0 ∷ ts.0, ts.1))) z e in
      let b = then_ok (funcs_typed known (m + 1) fs a.0.1) (λ ts. Ok (a.0.0 ∷ ts.0, ts.1)) z a.2 in
      subst (λ (z : List TFunc × List TNote). AllOf MadeFunc z.0) (same a.0 b.0 b.2)
      (n.more (func_made m f loops a.0 fine a.1) (funcs_made (m + 1) fs a.0.1 b.0 rest b.1))
    where
      same : (a : TFunc × List TNote) (b : List TFunc × List TNote) → ◌≡◌ {A = Result (List TFunc × List TNote) TypeCause} (Ok (a.0 ∷ b.0, b.1)) (Ok z)
          → ◌≡◌ {A = List TFunc × List TNote} (a.0 ∷ b.0, b.1) z
      same a b e = cc

-- ---- the whole tree

abbrev pub tree_with : Layout → Program → ℕ → List TFunc × List TNote → Typed
tree_with layout p main fs = record {
  globals = globals_typed (known_of layout p.items) (globals_in p.items);
  funcs = fs.0;
  main = main;
  loops = fs.1;
  nodes = capped (program_nodes p);
}

-- a typed tree is made of functions
pub record Tree (layout : Layout) (p : Program) (typed : Typed) : Type 0 where
  pub main : ℕ
  pub funcs : List TFunc × List TNote
  pub funcs_are : funcs_typed (known_of layout p.items) 0 (funcs_in p.items) [] ≡ Ok funcs
  pub is : tree_with layout p main funcs ≡ typed

pub tree_of : (layout : Layout) (p : Program) (typed : Typed) → typed_with layout p ≡ Ok typed → Tree layout p typed
unfolding typed_with
tree_of layout p typed e =
    let known = known_of layout p.items in
    let a = then_ok (items_checked p.items [] p.items) (λ _. and_then (main_of (funcs_in p.items))
    (λ main. and_then (funcs_typed known 0 (funcs_in p.items) []) (λ fs. Ok (tree_with layout p main fs)))) typed e in
    let b = then_ok (main_of (funcs_in p.items))
    (λ main. and_then (funcs_typed known 0 (funcs_in p.items) []) (λ fs. Ok (tree_with layout p main fs))) typed a.2 in
    let c = then_ok (funcs_typed known 0 (funcs_in p.items) []) (λ fs. Ok (tree_with layout p b.0 fs)) typed b.2 in
    record { main = b.0; funcs = c.0; funcs_are = c.1; is = same (tree_with layout p b.0 c.0) c.2 }
  where
    same : (u : Typed) → ◌≡◌ {A = Result Typed TypeCause} (Ok u) (Ok typed) → u ≡ typed
    same u e = cc

-- what holds of each holds of the one at an index
pub at_index : {A : Type 0} (P : A → Type 0) (xs : List A) (k : ℕ) (x : A) → AllOf P xs → slice_get xs k ≡ Some x → P x
at_index P [] k x h e = absurd cc
at_index P (y ∷ ys) zero x (n.more h hs) e = subst P (same e) h
  where
    same : Some y ≡ Some x → y ≡ x
    same e = cc
at_index P (y ∷ ys) (suc k) x (n.more h hs) e = at_index P ys k x hs e
