-- A walk of statements that also reads their parts, at each kind of node.
use Rattle.std.proofs.Common.{◌≡◌, ℕ, List, map, Option, Some, None, sym, ap, ◌∙◌}
use Rattle.std.specs.Prelude.{option_map}
use Rattle.al_source.specs.declared.operators.BinOp.{BinOp}
use Rattle.al_source.specs.declared.texts.Piece.{Piece}
use Rattle.al_core.specs.declared.typed_tree.TExpr.{TExpr}
use Rattle.al_core.specs.declared.typed_tree.TPlace.{TPlace}
use Rattle.al_core.specs.declared.typed_tree.TStmt.{TStmt, out-TStmt, roll-out-TStmt, para-TStmt, para-roll-TStmt}
use Rattle.al_core.specs.declared.typed_tree.TKind.{TKind, map-TKind, para-TKind, para-roll-TKind}
use Rattle.al_core.specs.declared.typed_tree.TKind.TheViews.{roll-TKind}
use Rattle.al_core.specs.declared.typed_tree.TKind.TheVariants as k
use Rattle.al_core.specs.declared.typed_tree.TKind.TheOpen.{TStmt-F, TKind-F}
use Rattle.al_loop_notes.proofs.Lists.{all_paired}

module _ {A B : Type 0} (on_kind : TKind-F (TKind × A) (TStmt × B) → A) (on_stmt : TStmt-F (TKind × A) (TStmt × B) → B) where
  abbrev kind : TKind → A
  kind = para-TKind A B on_kind on_stmt

  abbrev stmt : TStmt → B
  stmt = para-TStmt A B on_kind on_stmt

  of_kind : (x : TKind-F TKind TStmt) (d : TKind) → roll-TKind x ≡ d
      → kind d ≡ on_kind (map-TKind TKind TStmt (TKind × A) (TStmt × B) (λ d. (d, kind d)) (λ s. (s, stmt s)) x)
  of_kind x d is = ap kind (sym is) ∙ para-roll-TKind A B on_kind on_stmt x

  pub on-stmt : (s : TStmt) → para-TStmt A B on_kind on_stmt s ≡ on_stmt (record { line = s.line; kind = (s.kind, para-TKind A B on_kind on_stmt s.kind) })
  on-stmt s = ap stmt (sym (roll-out-TStmt s)) ∙ para-roll-TStmt A B on_kind on_stmt (out-TStmt s)

  pub on-Empty : para-TKind A B on_kind on_stmt k.Empty ≡ on_kind TKind-F.Empty
  on-Empty = of_kind TKind-F.Empty _ k.rolls-Empty

  pub on-SetLocal : (n : ℕ) (e : TExpr) → para-TKind A B on_kind on_stmt (k.SetLocal n e) ≡ on_kind (TKind-F.SetLocal n e)
  on-SetLocal n e = of_kind (TKind-F.SetLocal n e) _ (k.rolls-SetLocal n e)

  pub on-Store : (p : TPlace) (e : TExpr) → para-TKind A B on_kind on_stmt (k.Store p e) ≡ on_kind (TKind-F.Store p e)
  on-Store p e = of_kind (TKind-F.Store p e) _ (k.rolls-Store p e)

  pub on-UpdateLocal : (op : BinOp) (n : ℕ) (e : TExpr) → para-TKind A B on_kind on_stmt (k.UpdateLocal op n e) ≡ on_kind (TKind-F.UpdateLocal op n e)
  on-UpdateLocal op n e = of_kind (TKind-F.UpdateLocal op n e) _ (k.rolls-UpdateLocal op n e)

  pub on-UpdateAt : (op : BinOp) (p : TPlace) (e : TExpr) → para-TKind A B on_kind on_stmt (k.UpdateAt op p e) ≡ on_kind (TKind-F.UpdateAt op p e)
  on-UpdateAt op p e = of_kind (TKind-F.UpdateAt op p e) _ (k.rolls-UpdateAt op p e)

  pub on-Call : (e : TExpr) → para-TKind A B on_kind on_stmt (k.Call e) ≡ on_kind (TKind-F.Call e)
  on-Call e = of_kind (TKind-F.Call e) _ (k.rolls-Call e)

  pub on-Print : (format : List Piece) (es : List TExpr) → para-TKind A B on_kind on_stmt (k.Print format es) ≡ on_kind (TKind-F.Print format es)
  on-Print format es = of_kind (TKind-F.Print format es) _ (k.rolls-Print format es)

  pub on-If : (e : TExpr) (a : TStmt) (b : Option TStmt)
      → para-TKind A B on_kind on_stmt (k.If e a b)
      ≡ on_kind (TKind-F.If e (a, para-TStmt A B on_kind on_stmt a) (option_map (λ s. (s, para-TStmt A B on_kind on_stmt s)) b))
  on-If e a None = of_kind (TKind-F.If e a None) _ (k.rolls-If e a None)
  on-If e a (Some b) = of_kind (TKind-F.If e a (Some b)) _ (k.rolls-If e a (Some b))

  pub on-While : (e : TExpr) (a : TStmt) → para-TKind A B on_kind on_stmt (k.While e a) ≡ on_kind (TKind-F.While e (a, para-TStmt A B on_kind on_stmt a))
  on-While e a = of_kind (TKind-F.While e a) _ (k.rolls-While e a)

  pub on-For : (first : Option TStmt) (test : Option TExpr) (third : Option TStmt) (body : TStmt) (number : Option ℕ)
      → para-TKind A B on_kind on_stmt (k.For first test third body number)
      ≡ on_kind (TKind-F.For (option_map (λ s. (s, para-TStmt A B on_kind on_stmt s)) first) test
      (option_map (λ s. (s, para-TStmt A B on_kind on_stmt s)) third) (body, para-TStmt A B on_kind on_stmt body) number)
  on-For None test None body number = of_kind (TKind-F.For None test None body number) _ (k.rolls-For None test None body number)
  on-For None test (Some third) body number = of_kind (TKind-F.For None test (Some third) body number) _ (k.rolls-For None test (Some third) body number)
  on-For (Some first) test None body number = of_kind (TKind-F.For (Some first) test None body number) _ (k.rolls-For (Some first) test None body number)
  on-For (Some first) test (Some third) body number =
      of_kind (TKind-F.For (Some first) test (Some third) body number) _ (k.rolls-For (Some first) test (Some third) body number)

  pub on-Block : (ss : List TStmt) → para-TKind A B on_kind on_stmt (k.Block ss) ≡ on_kind (TKind-F.Block (map (λ s. (s, para-TStmt A B on_kind on_stmt s)) ss))
  on-Block ss = of_kind (TKind-F.Block ss) _ (k.rolls-Block ss)

  pub on-Return : (e : Option TExpr) → para-TKind A B on_kind on_stmt (k.Return e) ≡ on_kind (TKind-F.Return e)
  on-Return e = of_kind (TKind-F.Return e) _ (k.rolls-Return e)

  pub on-Break : para-TKind A B on_kind on_stmt k.Break ≡ on_kind TKind-F.Break
  on-Break = of_kind TKind-F.Break _ k.rolls-Break

  pub on-Continue : para-TKind A B on_kind on_stmt k.Continue ≡ on_kind TKind-F.Continue
  on-Continue = of_kind TKind-F.Continue _ k.rolls-Continue

pub ruleset para_nodes = (
  all_paired,
  on-stmt,
  on-Empty,
  on-SetLocal,
  on-Store,
  on-UpdateLocal,
  on-UpdateAt,
  on-Call,
  on-Print,
  on-If,
  on-While,
  on-For,
  on-Block,
  on-Return,
  on-Break,
  on-Continue,
)
