-- The meaning of each kind of statement.
use Rattle.std.proofs.Common.{◌≡◌, ℕ, List, [], ◌∷◌, Option, Some, None, refl, sym, ap, ◌∙◌}
use Rattle.std.specs.Prelude.{ℤ, if◌then◌else◌, map}
use Rattle.al_source.specs.declared.operators.BinOp.{BinOp}
use Rattle.al_source.specs.declared.texts.Piece.{Piece}
use Rattle.al_core.specs.declared.values.Val.{Val}
use Rattle.al_core.specs.declared.values.Kind.TheVariants as kind
use Rattle.al_core.specs.declared.typed_tree.TExpr.{TExpr}
use Rattle.al_core.specs.declared.typed_tree.TPlace.{TPlace}
use Rattle.al_core.specs.declared.typed_tree.TStmt.{TStmt, out-TStmt, roll-out-TStmt, para-TStmt, para-roll-TStmt}
use Rattle.al_core.specs.declared.typed_tree.TKind.{TKind, map-TKind, para-TKind, para-roll-TKind}
use Rattle.al_core.specs.declared.typed_tree.TKind.TheViews.{roll-TKind}
use Rattle.al_core.specs.declared.typed_tree.TKind.TheVariants as k
use Rattle.al_core.specs.declared.typed_tree.TKind.TheOpen.{TKind-F}
use Rattle.al_core.specs.World.{World}
use Rattle.al_core.specs.Values.{truth, numbers, operate, text}
use Rattle.al_core.specs.Action.{Act, At, pure, lift, spend, get_local, set_local, load, store, print, ◌>>=◌, ◌>>◌}
use Rattle.al_core.specs.Loops.{start_of, bound_of}
use Rattle.al_core.specs.Meaning.{Flow, Next, Broke, Continued, Returned, Where, then_flow, sequence, all_do, turns, value, place, values, test_value, result_value, start_value, kind_does, stmt_does, execute, execute_kind, execute_all, annotated_loop}
use Rattle.al_interpreter.specs.Scenes.{if_any}

module _ {S : Type 0} (world : World S) (here : Where) (input : List ℤ) (call : ℕ → List Val → At S Val) where
  abbrev done : TStmt → TStmt × Act S Flow
  done s = (s, execute world here input call s)

  abbrev kind_done : TKind → TKind × At S Flow
  kind_done d = (d, execute_kind world here input call d)

  abbrev layer : TKind-F TKind TStmt → TKind-F (TKind × At S Flow) (TStmt × Act S Flow)
  layer = map-TKind TKind TStmt (TKind × At S Flow) (TStmt × Act S Flow) kind_done done

  abbrev does_kind : TKind → At S Flow
  does_kind = execute_kind world here input call

  of_kind : (x : TKind-F TKind TStmt) (d : TKind) (line : ℕ) → roll-TKind x ≡ d
      → does_kind d line ≡ kind_does world here input call (layer x) line
  unfolding execute execute_kind
  of_kind x d line is =
      ap (λ d. para-TKind (At S Flow) (Act S Flow) (kind_does world here input call) (stmt_does world here input call) d line) (sym is)
      ∙ ap (λ (f : At S Flow). f line)
      (para-roll-TKind (At S Flow) (Act S Flow) (kind_does world here input call) (stmt_does world here input call) x)

  pub does-stmt : (s : TStmt)
      → execute world here input call s ≡ (spend (out-TStmt s).line >> does_kind (out-TStmt s).kind (out-TStmt s).line)
  unfolding execute execute_kind
  does-stmt s =
      ap (para-TStmt (At S Flow) (Act S Flow) (kind_does world here input call) (stmt_does world here input call)) (sym (roll-out-TStmt s))
      ∙ para-roll-TStmt (At S Flow) (Act S Flow) (kind_does world here input call) (stmt_does world here input call) (out-TStmt s)

  pub does-Empty : (line : ℕ) → does_kind k.Empty line ≡ pure Next
  does-Empty line = of_kind TKind-F.Empty _ line k.rolls-Empty

  pub does-SetLocal : (n : ℕ) (e : TExpr) (line : ℕ)
      → does_kind (k.SetLocal n e) line ≡ (value world here input call e line >>= (λ v. set_local world n v line >> pure Next))
  does-SetLocal n e line = of_kind (TKind-F.SetLocal n e) _ line (k.rolls-SetLocal n e)

  pub does-Store : (p : TPlace) (e : TExpr) (line : ℕ)
      → does_kind (k.Store p e) line ≡ (place world here input call p line
      >>= (λ q. value world here input call e line >>= (λ v. store world q v line >> pure Next)))
  does-Store p e line = of_kind (TKind-F.Store p e) _ line (k.rolls-Store p e)

  pub does-UpdateLocal : (op : BinOp) (n : ℕ) (e : TExpr) (line : ℕ)
      → does_kind (k.UpdateLocal op n e) line
      ≡ (get_local world n line >>= (λ x. value world here input call e line
      >>= (λ y. lift line (operate op x y) >>= (λ z. set_local world n z line >> pure Next))))
  does-UpdateLocal op n e line = of_kind (TKind-F.UpdateLocal op n e) _ line (k.rolls-UpdateLocal op n e)

  pub does-UpdateAt : (op : BinOp) (p : TPlace) (e : TExpr) (line : ℕ)
      → does_kind (k.UpdateAt op p e) line
      ≡ (place world here input call p line
      >>= (λ q. load world q kind.Int line
      >>= (λ x. value world here input call e line >>= (λ y. lift line (operate op x y) >>= (λ z. store world q z line >> pure Next)))))
  does-UpdateAt op p e line = of_kind (TKind-F.UpdateAt op p e) _ line (k.rolls-UpdateAt op p e)

  pub does-Call : (e : TExpr) (line : ℕ) → does_kind (k.Call e) line ≡ (value world here input call e line >> pure Next)
  does-Call e line = of_kind (TKind-F.Call e) _ line (k.rolls-Call e)

  pub does-Print : (format : List Piece) (es : List TExpr) (line : ℕ)
      → does_kind (k.Print format es) line
      ≡ (values world here input call es line >>= (λ vs. lift line (numbers vs) >>= (λ ns. print world (text format ns) line >> pure Next)))
  does-Print format es line = of_kind (TKind-F.Print format es) _ line (k.rolls-Print format es)

  pub does-If : (e : TExpr) (a : TStmt) (b : Option TStmt) (line : ℕ)
      → does_kind (k.If e a b) line ≡ (value world here input call e line
      >>= (λ v. if truth v then execute world here input call a else if_any (execute world here input call) b))
  does-If e a (Some b) line = of_kind (TKind-F.If e a (Some b)) _ line (k.rolls-If e a (Some b))
  does-If e a None line = of_kind (TKind-F.If e a None) _ line (k.rolls-If e a None)

  pub does-While : (e : TExpr) (a : TStmt) (line : ℕ)
      → does_kind (k.While e a) line ≡ turns line (test_value world here input call (Some e) line) (execute world here input call a)
      (if_any (execute world here input call) None)
  does-While e a line = of_kind (TKind-F.While e a) _ line (k.rolls-While e a)

  pub does-For : (first : Option TStmt) (test : Option TExpr) (third : Option TStmt) (body : TStmt) (line : ℕ)
      → does_kind (k.For first test third body None) line
      ≡ (if_any (execute world here input call) first
      >>= then_flow (turns line (test_value world here input call test line) (execute world here input call body)
      (if_any (execute world here input call) third)))
  does-For (Some first) test (Some third) body line =
      of_kind (TKind-F.For (Some first) test (Some third) body None) _ line (k.rolls-For (Some first) test (Some third) body None)
  does-For (Some first) test None body line = of_kind (TKind-F.For (Some first) test None body None) _ line (k.rolls-For (Some first) test None body None)
  does-For None test (Some third) body line = of_kind (TKind-F.For None test (Some third) body None) _ line (k.rolls-For None test (Some third) body None)
  does-For None test None body line = of_kind (TKind-F.For None test None body None) _ line (k.rolls-For None test None body None)

  block_of : (ss : List TStmt) → sequence (all_do (map done ss)) ≡ execute_all world here input call ss
  block_of [] = refl
  block_of (s ∷ ss) = ap (λ (q : Act S Flow). execute world here input call s >>= then_flow q) (block_of ss)

  pub does-Block : (ss : List TStmt) (line : ℕ) → does_kind (k.Block ss) line ≡ execute_all world here input call ss
  does-Block ss line = of_kind (TKind-F.Block ss) _ line (k.rolls-Block ss) ∙ block_of ss

  pub does-Return : (e : Option TExpr) (line : ℕ) → does_kind (k.Return e) line ≡ (result_value world here input call e line >>= (λ v. pure (Returned v)))
  does-Return e line = of_kind (TKind-F.Return e) _ line (k.rolls-Return e)

  pub does-Break : (line : ℕ) → does_kind k.Break line ≡ pure Broke
  does-Break line = of_kind TKind-F.Break _ line k.rolls-Break

  pub does-Continue : (line : ℕ) → does_kind k.Continue line ≡ pure Continued
  does-Continue line = of_kind TKind-F.Continue _ line k.rolls-Continue

  pub does-Annotated : (first : Option TStmt) (test : Option TExpr) (third : Option TStmt) (body : TStmt) (number line : ℕ)
      → does_kind (k.For first test third body (Some number)) line
      ≡ annotated_loop world here number line (start_value world here input call (start_of first)) (bound_of test) (execute world here input call body)
  does-Annotated None test third body number line =
      of_kind (TKind-F.For None test third body (Some number)) _ line (k.rolls-For None test third body (Some number))
  does-Annotated (Some first) test third body number line =
      of_kind (TKind-F.For (Some first) test third body (Some number)) _ line (k.rolls-For (Some first) test third body (Some number))

pub ruleset kinds = (does-SetLocal, does-Store, does-UpdateLocal, does-UpdateAt, does-Call, does-Print, does-Return)

pub ruleset others = (does-Empty, does-If, does-Block, does-Break, does-Continue, does-Annotated)

pub ruleset stmts = (does-stmt)
