-- Where the annotated loops of a tree stand.
use Rattle.std.proofs.Common.{◌≡◌, ℕ, suc, ◌+◌, List, [], ◌∷◌, ◌++◌, map, Option, Some, None, slice_get, refl, sym, ap, ◌∙◌, subst, append_assoc, arith, add-zero, zero-add}
use Rattle.al_core.specs.declared.typed_tree.TExpr.{TExpr}
use Rattle.al_core.specs.declared.typed_tree.TStmt.{TStmt, map-TStmt, fold-roll-TStmt, para-roll-TStmt}
use Rattle.al_core.specs.declared.typed_tree.TKind.{TKind, map-TKind, fold-roll-TKind, para-roll-TKind}
use Rattle.al_core.specs.declared.typed_tree.TKind.TheViews.{roll-TStmt, roll-TKind}
use Rattle.al_core.specs.declared.typed_tree.TKind.TheOpen.{TStmt-F, TKind-F}
use Rattle.al_core.specs.declared.typed_tree.TFunc.{TFunc}
use Rattle.al_core.specs.declared.typed_tree.Typed.{Typed}
use Rattle.al_core.specs.Loops.{ForLoop, Seen, SeenKind, all_loops, this_loop, loops_here, for_loops, for_loops_of, for_loops_in, PlacedLoop, placed, placed_loops, program_loops}
use Rattle.al_laws.proofs.Induction.{With, stmt_induct}
use Rattle.al_rules.specs.WellFormed.{Standing, Counted, standing, all_counted, kind_counted, counted, counted_in, counted_all, loops_from}

-- ---- in a function

abbrev pair_layer : TKind-F TKind TStmt → TKind-F SeenKind Seen
pair_layer x = map-TKind TKind TStmt SeenKind Seen (λ d. (d, for_loops_of d)) (λ s. (s, for_loops s)) x

module _ (func : ℕ) where
  pub data Stand : List Standing → List ForLoop → Type 0 where
    none : Stand [] []
    more : {st : Standing} {l : ForLoop} {sts : List Standing} {ls : List ForLoop} → st.number ≡ l.number → st.func ≡ func → Stand sts ls
        → Stand (st ∷ sts) (l ∷ ls)

  stand_append : {a c : List Standing} {b d : List ForLoop} → Stand a b → Stand c d → Stand (a ++ c) (b ++ d)
  stand_append none q = q
  stand_append (more e f p) q = more e f (stand_append p q)

  -- a loop stands before those within it
  stand_for : {a b c d : List Standing} {p q r u : List ForLoop} → Stand a p → Stand b q → Stand c r → Stand d u → Stand (a ++ (b ++ c) ++ d) (p ++ q ++ r ++ u)
  stand_for {a = a} {b = b} {c = c} {p = p} {q = q} {r = r} x y z v =
      stand_append (subst (λ ls. Stand (a ++ (b ++ c)) ls) (sym (append_assoc p q r)) (stand_append x (stand_append y z))) v

  stand_this : (line first last : ℕ) (number : Option ℕ) (a : Option Seen) (test : Option TExpr) (b : Option Seen) (body : Seen)
      → Stand (standing func line number first last) (this_loop a test b body number)
  stand_this line first last None a test b body = none
  stand_this line first last (Some n) a test b body = more refl refl none

  abbrev KindStands : TKind → Type 0
  KindStands d = (line n : ℕ) → Stand ((counted_in func d line).loops n) (for_loops_of d)

  abbrev StmtStands : TStmt → Type 0
  StmtStands s = (n : ℕ) → Stand ((counted func s).loops n) (for_loops s)

  abbrev W : Type 0
  W = With TKind KindStands

  abbrev X : Type 0
  X = With TStmt StmtStands

  abbrev part_layer : TKind-F W X → TKind-F TKind TStmt
  part_layer y = map-TKind W X TKind TStmt (λ e. e.0) (λ e. e.0) y

  abbrev counted_layer : TKind-F TKind TStmt → TKind-F (ℕ → Counted) Counted
  counted_layer x = map-TKind TKind TStmt (ℕ → Counted) Counted (counted_in func) (counted func) x

  abbrev pair_of : X → Seen
  pair_of z = (z.0, for_loops z.0)

  all_stand : (zs : List X) (n : ℕ)
      → Stand ((all_counted (map (counted func) (map (λ e. e.0) zs))).loops n) (all_loops (map (λ s. (s, for_loops s)) (map (λ e. e.0) zs)))
  all_stand [] n = none
  all_stand (z ∷ zs) n = stand_append (z.1 n) (all_stand zs ((counted func z.0).after n))

  layer_stands : (y : TKind-F W X) (line n : ℕ)
      → Stand ((kind_counted func (counted_layer (part_layer y)) line).loops n) (loops_here (pair_layer (part_layer y)))
  layer_stands TKind-F.Empty line n = none
  layer_stands (TKind-F.SetLocal m e) line n = none
  layer_stands (TKind-F.Store p e) line n = none
  layer_stands (TKind-F.UpdateLocal op m e) line n = none
  layer_stands (TKind-F.UpdateAt op p e) line n = none
  layer_stands (TKind-F.Call e) line n = none
  layer_stands (TKind-F.Print format es) line n = none
  layer_stands (TKind-F.If e a None) line n = stand_append (a.1 n) none
  layer_stands (TKind-F.If e a (Some b)) line n = stand_append (a.1 n) (b.1 ((counted func a.0).after n))
  layer_stands (TKind-F.While e a) line n = a.1 n
  layer_stands (TKind-F.For None test None body number) line n =
      stand_for (stand_this line n ((counted func body.0).after n) number None test None (pair_of body)) none none (body.1 n)
  layer_stands (TKind-F.For None test (Some third) body number) line n =
      let m = (counted func third.0).after n in
      stand_for (stand_this line m ((counted func body.0).after m) number None test (Some (pair_of third)) (pair_of body)) none (third.1 n) (body.1 m)
  layer_stands (TKind-F.For (Some first) test None body number) line n =
      let k = (counted func first.0).after n in
      stand_for (stand_this line k ((counted func body.0).after k) number (Some (pair_of first)) test None (pair_of body)) (first.1 n) none (body.1 k)
  layer_stands (TKind-F.For (Some first) test (Some third) body number) line n =
      let k = (counted func first.0).after n in
      let m = (counted func third.0).after k in
      stand_for (stand_this line m ((counted func body.0).after m) number (Some (pair_of first)) test (Some (pair_of third)) (pair_of body)) (first.1 n)
      (third.1 k) (body.1 m)
  layer_stands (TKind-F.Block zs) line n = all_stand zs n
  layer_stands (TKind-F.Return e) line n = none
  layer_stands TKind-F.Break line n = none
  layer_stands TKind-F.Continue line n = none

  kind_stands : (y : TKind-F W X) → KindStands (roll-TKind (part_layer y))
  unfolding counted counted_in for_loops for_loops_of
  kind_stands y line n =
      subst (λ (c : ℕ
      → Counted). Stand ((c line).loops n) (for_loops_of (roll-TKind (part_layer y)))) (sym (fold-roll-TKind (ℕ
      → Counted) Counted (kind_counted func) (λ s. s.kind s.line) (part_layer y)))
      (subst (λ ls. Stand ((kind_counted func (counted_layer (part_layer y)) line).loops n) ls)
      (sym (para-roll-TKind (List ForLoop) (List ForLoop) loops_here (λ s. s.kind.1) (part_layer y))) (layer_stands y line n))

  abbrev line_layer : TStmt-F W X → TStmt-F TKind TStmt
  line_layer y = map-TStmt W X TKind TStmt (λ e. e.0) (λ e. e.0) y

  stmt_stands : (y : TStmt-F W X) → StmtStands (roll-TStmt (line_layer y))
  unfolding counted counted_in for_loops for_loops_of
  stmt_stands y n =
      subst (λ (c : Counted). Stand (c.loops n) (for_loops (roll-TStmt (line_layer y)))) (sym (fold-roll-TStmt (ℕ
      → Counted) Counted (kind_counted func) (λ s. s.kind s.line) (line_layer y)))
      (subst (λ ls. Stand ((counted_in func y.kind.0 y.line).loops n) ls)
      (sym (para-roll-TStmt (List ForLoop) (List ForLoop) loops_here (λ s. s.kind.1) (line_layer y))) (y.kind.1 y.line n))

  pub loops_stand : (ss : List TStmt) (n : ℕ) → Stand ((counted_all func ss).loops n) (for_loops_in ss)
  loops_stand [] n = none
  loops_stand (s ∷ ss) n = stand_append (stmt_induct KindStands StmtStands kind_stands stmt_stands s n) (loops_stand ss ((counted func s).after n))

-- ---- in a program

-- loops by their numbers and functions, and the loops themselves
pub data StandIn (typed : Typed) : List Standing → List PlacedLoop → Type 0 where
  nothing : StandIn typed [] []
  one : {st : Standing} {l : PlacedLoop} {sts : List Standing} {ls : List PlacedLoop}
      → st.number ≡ l.loop.number → slice_get typed.funcs st.func ≡ Some l.func → StandIn typed sts ls → StandIn typed (st ∷ sts) (l ∷ ls)

module _ (typed : Typed) where
  joined : {a c : List Standing} {b d : List PlacedLoop} → StandIn typed a b → StandIn typed c d → StandIn typed (a ++ c) (b ++ d)
  joined nothing q = q
  joined (one m e p) q = one m e (joined p q)

  of_func : (k : ℕ) (f : TFunc) {sts : List Standing} {ls : List ForLoop} → slice_get typed.funcs k ≡ Some f → Stand k sts ls
      → StandIn typed sts (map (placed f) ls)
  of_func k f at none = nothing
  of_func k f at (more e g p) = one e (ap (slice_get typed.funcs) g ∙ at) (of_func k f at p)

  of_funcs : (k : ℕ) (fs : List TFunc) → ((j : ℕ) (g : TFunc) → slice_get fs j ≡ Some g → slice_get typed.funcs (k + j) ≡ Some g)
      → StandIn typed (loops_from k fs) (placed_loops fs)
  of_funcs k [] h = nothing
  of_funcs k (f ∷ fs) h =
      joined (of_func k f (ap (slice_get typed.funcs) (sym (add-zero k)) ∙ h 0 f refl) (loops_stand k f.body f.params))
      (of_funcs (k + 1) fs (λ j g e. ap (slice_get typed.funcs) (later k j) ∙ h (suc j) g e))
    where
      later : (k j : ℕ) → k + 1 + j ≡ k + suc j
      later k j = omega arith

  pub program_stands : StandIn typed (loops_from 0 typed.funcs) (program_loops typed)
  unfolding program_loops
  program_stands = of_funcs 0 typed.funcs (λ j g e. ap (slice_get typed.funcs) (zero-add j) ∙ e)
