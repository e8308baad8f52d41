-- In the typed tree of a program no place is formed within a global of one word.
use Rattle.std.proofs.Common.{◌≡◌, ℕ, zero, suc, ◌*◌, Bool, true, false, not, List, [], ◌∷◌, map, Option, Some, None, is_some, option_map, Ok, slice_get, refl, sym, ap, ◌∙◌, subst}
use Rattle.std.specs.Prelude.{ℤ, pos}
use Rattle.std.specs.List.{list_all}
use Rattle.al_source.specs.declared.source_tree.CType.{CType, out-CType}
use Rattle.al_source.specs.declared.source_tree.CType.TheOpen.{CType-F}
use Rattle.al_source.specs.declared.source_tree.GlobalDef.{GlobalDef}
use Rattle.al_source.specs.declared.source_tree.Expr.{Expr}
use Rattle.al_source.specs.declared.source_tree.Stmt.{Stmt}
use Rattle.al_source.specs.declared.source_tree.Func.{Func}
use Rattle.al_source.specs.declared.source_tree.Program.{Program}
use Rattle.al_core.specs.declared.values.Kind.{Kind}
use Rattle.al_core.specs.declared.typed_tree.TExpr.{TExpr, map-TExpr, fold-TExpr, fold-roll-TExpr}
use Rattle.al_core.specs.declared.typed_tree.TPlace.{TPlace, map-TPlace, fold-TPlace, fold-roll-TPlace}
use Rattle.al_core.specs.declared.typed_tree.TExpr.TheViews.{roll-TExpr, roll-TPlace}
use Rattle.al_core.specs.declared.typed_tree.TExpr.TheOpen.{TExpr-F, TPlace-F}
use Rattle.al_core.specs.declared.typed_tree.TExpr.TheVariants as te
use Rattle.al_core.specs.declared.typed_tree.TPlace.TheVariants as tp
use Rattle.al_core.specs.declared.typed_tree.TFunc.{TFunc}
use Rattle.al_core.specs.declared.typed_tree.TNote.{TNote}
use Rattle.al_core.specs.declared.typed_tree.Typed.{Typed}
use Rattle.al_core.specs.Accepted.{terms_of}
use Rattle.al_rules.specs.Names.{Name, AllOf}
use Rattle.al_rules.specs.Names as n
use Rattle.al_rules.specs.Layouts.{sizes}
use Rattle.al_rules.specs.Types.{element_case, element, struct_case, struct_name, kind_case, kind_of}
use Rattle.al_rules.specs.Scopes.{Known, size, funcs_in, known_of}
use Rattle.al_rules.specs.Programs.{funcs_typed, global_typed, globals_typed, typed_of, Resolved}
use Rattle.al_rules_laws.proofs.Logic.{and_both}
use Rattle.al_kinds_laws.specs.Whole.{WholePlace, scalar_of, expr_whole, place_whole, whole, whole_at, whole_in, ScalarsAreWhole}
use Rattle.al_runs_laws.proofs.NumberedTrees.{AnyNumber, every_expr, every_stmt}
use Rattle.al_runs_laws.proofs.Making.{Kept, GlobalAt, FineAnywhere, fine_anywhere}
use Rattle.al_runs_laws.proofs.MakingStatements.{Stands, AllMade}
use Rattle.al_runs_laws.proofs.MakingStatements as made
use Rattle.al_runs_laws.proofs.MakingPrograms.{FineFunc, MadeFunc, funcs_made, tree_with, tree_of, at_index}

-- a struct and an array have no kind
struct_no_kind : (y : CType-F CType) (name : Name) (j : Kind) → struct_case y ≡ Some name → kind_case y ≡ Some j → ⊥
struct_no_kind CType-F.Int name j is e = absurd cc
struct_no_kind CType-F.Void name j is e = absurd cc
struct_no_kind (CType-F.Struct other) name j is e = absurd cc
struct_no_kind (CType-F.Ptr b) name j is e = absurd cc
struct_no_kind (CType-F.Array b m) name j is e = absurd cc

array_no_kind : (y : CType-F CType) (b : CType) (j : Kind) → element_case y ≡ Some b → kind_case y ≡ Some j → ⊥
array_no_kind CType-F.Int b j is e = absurd cc
array_no_kind CType-F.Void b j is e = absurd cc
array_no_kind (CType-F.Struct name) b j is e = absurd cc
array_no_kind (CType-F.Ptr d) b j is e = absurd cc
array_no_kind (CType-F.Array d m) b j is e = absurd cc

struct_has_none : (a : CType) (name : Name) (j : Kind) → struct_name a ≡ Some name → kind_of a ≡ Some j → ⊥
unfolding struct_name kind_of
struct_has_none a name j is e = struct_no_kind (out-CType a) name j is e

array_has_none : (a b : CType) (j : Kind) → element a ≡ Some b → kind_of a ≡ Some j → ⊥
unfolding element kind_of
array_has_none a b j is e = array_no_kind (out-CType a) b j is e

none_of : (o : Option Kind) → ((j : Kind) → o ≡ Some j → ⊥) → is_some o ≡ false
none_of (Some j) h = absurd (h j refl)
none_of None h = refl

no_such : (o : Option Kind) (j : Kind) → o ≡ None → o ≡ Some j → ⊥
no_such None j e f = absurd cc
no_such (Some i) j e f = absurd cc

globals_at : (known : Known) (gs : List GlobalDef) (k : ℕ) (x : GlobalDef) → slice_get gs k ≡ Some x
    → slice_get (globals_typed known gs) k ≡ Some (global_typed known x)
globals_at known [] k x e = absurd cc
globals_at known (g ∷ gs) zero x e = ap (option_map (global_typed known)) e
globals_at known (g ∷ gs) (suc k) x e = globals_at known gs k x e

module _ (known : Known) (typed : Typed) (globals_are : typed.globals ≡ globals_typed known known.globals) where
  abbrev P : TExpr → Type 0
  P v = whole typed v ≡ true

  -- a global of one word has its kind
  abbrev Q : CType → TPlace → Type 0
  Q a q = ((whole_at typed q).0 ≡ true) × ((j : Kind) → (whole_at typed q).1 ≡ Some j → kind_of a ≡ Some j)

  abbrev R : TPlace → Type 0
  R q = ((whole_at typed q).0 ≡ true) × (is_some (whole_at typed q).1 ≡ false)

  of_whole : (x : TExpr-F TExpr TPlace) (d : TExpr) → roll-TExpr x ≡ d
      → whole typed d ≡ expr_whole typed (map-TExpr TExpr TPlace Bool WholePlace (whole typed) (whole_at typed) x)
  unfolding whole whole_at
  of_whole x d is =
      ap (λ d. fold-TExpr Bool WholePlace (expr_whole typed) (place_whole typed) d) (sym is)
      ∙ fold-roll-TExpr Bool WholePlace (expr_whole typed) (place_whole typed) x

  of_place : (x : TPlace-F TExpr TPlace) (d : TPlace) → roll-TPlace x ≡ d
      → whole_at typed d ≡ place_whole typed (map-TPlace TExpr TPlace Bool WholePlace (whole typed) (whole_at typed) x)
  unfolding whole whole_at
  of_place x d is =
      ap (λ d. fold-TPlace Bool WholePlace (expr_whole typed) (place_whole typed) d) (sym is)
      ∙ fold-roll-TPlace Bool WholePlace (expr_whole typed) (place_whole typed) x

  first : {a b : WholePlace} → a ≡ b → a.0 ≡ b.0
  first e = ap (λ (z : WholePlace). z.0) e

  second : {a b : WholePlace} → a ≡ b → a.1 ≡ b.1
  second e = ap (λ (z : WholePlace). z.1) e

  all_true : (vs : List TExpr) → AllOf P vs → list_all (λ b. b) (map (whole typed) vs) ≡ true
  all_true [] n.none = refl
  all_true (v ∷ vs) (n.more h hs) = and_both h (all_true vs hs)

  -- a place that is no global says nothing of its kind
  open_place : (a : CType) (q : TPlace) (b : Bool) → whole_at typed q ≡ (b, None) → b ≡ true → Q a q
  open_place a q b is h = (first is ∙ h, λ j e. absurd (no_such (whole_at typed q).1 j (second is) e))

  scalar_kind : (k : ℕ) (a : CType) (g : GlobalAt known k a) (j : Kind) → scalar_of (slice_get typed.globals k) ≡ Some j → kind_of a ≡ Some j
  scalar_kind k a g j e =
      let there : slice_get typed.globals k ≡ Some (global_typed known g.global) =
      ap (λ us. slice_get us k) globals_are ∙ globals_at known known.globals k g.global g.there in
      ap kind_of (sym g.type) ∙ sym (ap scalar_of there) ∙ e

  number_whole : (m : ℤ) → P (te.Number m)
  number_whole m = of_whole (TExpr-F.Number m) _ (te.rolls-Number m)

  kept : Kept AnyNumber known P Q R
  kept = record {
    number = λ m _. number_whole m;
    zero = number_whole (pos 0);
    sizes = λ a _. number_whole (pos (8 * size known a));
    local = λ k. of_whole (TExpr-F.Local k) _ (te.rolls-Local k);
    load = λ a k q h. of_whole (TExpr-F.Load k q) _ (te.rolls-Load k q) ∙ h.0;
    addr = λ a q h. of_whole (TExpr-F.Addr q) _ (te.rolls-Addr q) ∙ h.0;
    unary = λ op v h. of_whole (TExpr-F.Unary op v) _ (te.rolls-Unary op v) ∙ h;
    binary = λ op v w h i. of_whole (TExpr-F.Binary op v w) _ (te.rolls-Binary op v w) ∙ and_both h i;
    same = λ equal v w h i. of_whole (TExpr-F.Same equal v w) _ (te.rolls-Same equal v w) ∙ and_both h i;
    both = λ v w h i. of_whole (TExpr-F.And v w) _ (te.rolls-And v w) ∙ and_both h i;
    either = λ v w h i. of_whole (TExpr-F.Or v w) _ (te.rolls-Or v w) ∙ and_both h i;
    called = λ f vs hs. of_whole (TExpr-F.Call f vs) _ (te.rolls-Call f vs) ∙ all_true vs hs;
    input = λ v h. of_whole (TExpr-F.Input v) _ (te.rolls-Input v) ∙ h;
    inputs = of_whole TExpr-F.Inputs _ te.rolls-Inputs;
    choose = λ op v w h i. of_whole (TExpr-F.Choose op v w) _ (te.rolls-Choose op v w) ∙ and_both h i;
    calloc = λ v words h. of_whole (TExpr-F.Calloc v words) _ (te.rolls-Calloc v words) ∙ h;
    free = λ v h. of_whole (TExpr-F.Free v) _ (te.rolls-Free v) ∙ h;
    global = λ k a g.
        let is = of_place (TPlace-F.Global k) _ (tp.rolls-Global k) in
        (first is, λ j e. scalar_kind k a g j (sym (second is) ∙ e));
    at = λ a v h. open_place a (tp.At v) (whole typed v) (of_place (TPlace-F.At v) _ (tp.rolls-At v)) h;
    plus = λ a q m r. open_place a (tp.Plus q m) _ (of_place (TPlace-F.Plus q m) _ (tp.rolls-Plus q m)) (and_both r.0 (ap not r.1));
    elem = λ a q v words r h. open_place a (tp.Elem q v words) _ (of_place (TPlace-F.Elem q v words) _ (tp.rolls-Elem q v words))
        (and_both (and_both r.0 (ap not r.1)) h);
    of_struct = λ a q name is h. (h.0, none_of (whole_at typed q).1 (λ j e. struct_has_none a name j is (h.1 j e)));
    of_array = λ a b q is h. (h.0, none_of (whole_at typed q).1 (λ j e. array_has_none a b j is (h.1 j e)));
    of_pointer = λ v h.
        let is = of_place (TPlace-F.At v) _ (tp.rolls-At v) in
        (first is ∙ h, ap is_some (second is));
  }

  -- ---- functions

  all_exprs : (vs : List TExpr) → AllOf P vs → list_all (whole typed) vs ≡ true
  all_exprs [] n.none = refl
  all_exprs (v ∷ vs) (n.more h hs) = and_both h (all_exprs vs hs)

  all_places : (qs : List TPlace) → AllOf (Stands Q) qs → list_all (λ q. (whole_at typed q).0) qs ≡ true
  all_places [] n.none = refl
  all_places (q ∷ qs) (n.more h hs) = and_both h.1.0 (all_places qs hs)

  fine_exprs : (x : Expr) → FineAnywhere AnyNumber known P Q R kept x
  fine_exprs = every_expr (FineAnywhere AnyNumber known P Q R kept) (fine_anywhere AnyNumber known P Q R kept)

  abbrev FineStmt : ℕ → CType → Stmt → Type 0
  FineStmt m a = made.Fine AnyNumber known P Q R kept m a

  fine_stmt : (m : ℕ) (a : CType) (b : Stmt) → FineStmt m a b
  fine_stmt m a =
      every_stmt (FineAnywhere AnyNumber known P Q R kept) fine_exprs (FineStmt m a) (made.KindFine AnyNumber known P Q R kept m a)
      (made.fine_cases AnyNumber known P Q R kept m a)

  fine_body : (m : ℕ) (a : CType) (ss : List Stmt) → AllOf (FineStmt m a) ss
  fine_body m a [] = n.none
  fine_body m a (b ∷ ss) = n.more (fine_stmt m a b) (fine_body m a ss)

  fine_funcs : (fs : List Func) → AllOf (FineFunc AnyNumber known P Q R kept) fs
  fine_funcs [] = n.none
  fine_funcs (f ∷ fs) = n.more (λ m a. fine_body m a f.body) (fine_funcs fs)

  func_whole : (t : TFunc) → AllMade P Q (terms_of t.body) → whole_in typed (terms_of t.body) ≡ true
  func_whole t h = and_both (all_exprs (terms_of t.body).exprs h.exprs) (all_places (terms_of t.body).places h.places)

  funcs_whole : (fs : List Func) (z : List TFunc × List TNote) → funcs_typed known 0 fs [] ≡ Ok z → (k : ℕ) (t : TFunc) → slice_get z.0 k ≡ Some t
      → whole_in typed (terms_of t.body) ≡ true
  funcs_whole fs z e k t is =
      func_whole t (at_index (MadeFunc AnyNumber known P Q R kept) z.0 k t
      (funcs_made AnyNumber known P Q R kept 0 fs [] z (fine_funcs fs) e) is)

-- ---- the whole

typed_whole : (q : Program) (typed : Typed) → typed_of q ≡ Ok typed → ScalarsAreWhole typed
typed_whole q typed e =
    let t = tree_of (sizes q) q typed e in
    subst ScalarsAreWhole t.is
    (funcs_whole (known_of (sizes q) q.items) (tree_with (sizes q) q t.main t.funcs) refl (funcs_in q.items) t.funcs t.funcs_are)

pub scalars_are_whole : (q : Program) (typed : Typed) → Resolved q typed → ScalarsAreWhole typed
scalars_are_whole q typed h = typed_whole q typed h.is_typed
