-- The meaning of each kind of expression and place.
use Rattle.std.proofs.Common.{◌≡◌, ℕ, List, [], ◌∷◌, length, refl, sym, ap, ◌∙◌}
use Rattle.std.specs.Prelude.{ℤ, pos, Bool, true, false, if◌then◌else◌, map}
use Rattle.al_source.specs.declared.operators.BinOp.{BinOp}
use Rattle.al_source.specs.declared.operators.UnOp.{UnOp}
use Rattle.al_source.specs.declared.operators.RedOp.{RedOp}
use Rattle.al_core.specs.declared.values.Obj.TheVariants.{Global}
use Rattle.al_core.specs.declared.values.Val.{Val}
use Rattle.al_core.specs.declared.values.Val.TheVariants.{Int, Ptr}
use Rattle.al_core.specs.declared.values.Kind.{Kind}
use Rattle.al_core.specs.declared.typed_tree.TExpr.{TExpr, map-TExpr, fold-TExpr, fold-roll-TExpr}
use Rattle.al_core.specs.declared.typed_tree.TExpr.TheViews.{roll-TExpr, roll-TPlace}
use Rattle.al_core.specs.declared.typed_tree.TExpr.TheVariants as e
use Rattle.al_core.specs.declared.typed_tree.TPlace.{TPlace, map-TPlace, fold-TPlace, fold-roll-TPlace}
use Rattle.al_core.specs.declared.typed_tree.TPlace.TheVariants as p
use Rattle.al_core.specs.declared.typed_tree.TExpr.TheOpen.{TExpr-F, TPlace-F}
use Rattle.al_source.specs.Steps.{and_then}
use Rattle.al_core.specs.World.{World, Pointer}
use Rattle.al_core.specs.Values.{truth, of_test, number, operate, operate_one, choose, compare, point, shift, element, input_at, words_of}
use Rattle.al_core.specs.Action.{At, pure, lift, all, get_local, load, make, free, ◌>>=◌}
use Rattle.al_core.specs.Meaning.{Where, at_each, expr_case, place_case, value, place, values}

module _ {S : Type 0} (world : World S) (here : Where) (input : List ℤ) (call : ℕ → List Val → At S Val) where
  of_expr : (x : TExpr-F TExpr TPlace) (d : TExpr) (line : ℕ) → roll-TExpr x ≡ d
      → value world here input call d line
      ≡ expr_case world here input call (map-TExpr TExpr TPlace (At S Val) (At S Pointer) (value world here input call) (place world here input call) x) line
  unfolding value place
  of_expr x d line is =
      ap (λ d. fold-TExpr (At S Val) (At S Pointer) (expr_case world here input call) (place_case world here input call) d line) (sym is)
      ∙ ap (λ (f : At S Val). f line) (fold-roll-TExpr (At S Val) (At S Pointer) (expr_case world here input call) (place_case world here input call) x)

  of_place : (x : TPlace-F TExpr TPlace) (d : TPlace) (line : ℕ) → roll-TPlace x ≡ d
      → place world here input call d line
      ≡ place_case world here input call (map-TPlace TExpr TPlace (At S Val) (At S Pointer) (value world here input call) (place world here input call) x) line
  unfolding value place
  of_place x d line is =
      ap (λ d. fold-TPlace (At S Val) (At S Pointer) (expr_case world here input call) (place_case world here input call) d line) (sym is)
      ∙ ap (λ (f : At S Pointer). f line) (fold-roll-TPlace (At S Val) (At S Pointer) (expr_case world here input call) (place_case world here input call) x)

  pub value-Number : (n : ℤ) (line : ℕ) → value world here input call (e.Number n) line ≡ pure (Int n)
  value-Number n line = of_expr (TExpr-F.Number n) _ line (e.rolls-Number n)

  pub value-Local : (k line : ℕ) → value world here input call (e.Local k) line ≡ get_local world k line
  value-Local k line = of_expr (TExpr-F.Local k) _ line (e.rolls-Local k)

  pub value-Load : (want : Kind) (q : TPlace) (line : ℕ)
      → value world here input call (e.Load want q) line ≡ (place world here input call q line >>= (λ q. load world q want line))
  value-Load want q line = of_expr (TExpr-F.Load want q) _ line (e.rolls-Load want q)

  pub value-Addr : (q : TPlace) (line : ℕ) → value world here input call (e.Addr q) line ≡ (place world here input call q line >>= (λ q. pure (Ptr q.0 q.1)))
  value-Addr q line = of_expr (TExpr-F.Addr q) _ line (e.rolls-Addr q)

  pub value-Unary : (op : UnOp) (a : TExpr) (line : ℕ)
      → value world here input call (e.Unary op a) line ≡ (value world here input call a line >>= (λ x. lift line (operate_one op x)))
  value-Unary op a line = of_expr (TExpr-F.Unary op a) _ line (e.rolls-Unary op a)

  pub value-Binary : (op : BinOp) (a b : TExpr) (line : ℕ)
      → value world here input call (e.Binary op a b) line
      ≡ (value world here input call a line >>= (λ x. value world here input call b line >>= (λ y. lift line (operate op x y))))
  value-Binary op a b line = of_expr (TExpr-F.Binary op a b) _ line (e.rolls-Binary op a b)

  pub value-Same : (equal : Bool) (a b : TExpr) (line : ℕ)
      → value world here input call (e.Same equal a b) line
      ≡ (value world here input call a line >>= (λ x. value world here input call b line >>= (λ y. pure (compare equal x y))))
  value-Same equal a b line = of_expr (TExpr-F.Same equal a b) _ line (e.rolls-Same equal a b)

  pub value-And : (a b : TExpr) (line : ℕ)
      → value world here input call (e.And a b) line
      ≡ (value world here input call a line
      >>= (λ x. if truth x then value world here input call b line >>= (λ y. pure (of_test (truth y))) else pure (of_test false)))
  value-And a b line = of_expr (TExpr-F.And a b) _ line (e.rolls-And a b)

  pub value-Or : (a b : TExpr) (line : ℕ)
      → value world here input call (e.Or a b) line
      ≡ (value world here input call a line
      >>= (λ x. if truth x then pure (of_test true) else value world here input call b line >>= (λ y. pure (of_test (truth y)))))
  value-Or a b line = of_expr (TExpr-F.Or a b) _ line (e.rolls-Or a b)

  all_values : (es : List TExpr) (line : ℕ) → all (at_each line (map (value world here input call) es)) ≡ values world here input call es line
  all_values [] line = refl
  all_values (x ∷ es) line = ap (λ p. value world here input call x line >>= (λ v. p >>= (λ vs. pure (v ∷ vs)))) (all_values es line)

  pub value-Call : (f : ℕ) (args : List TExpr) (line : ℕ)
      → value world here input call (e.Call f args) line ≡ (values world here input call args line >>= (λ vs. call f vs line))
  value-Call f args line =
      of_expr (TExpr-F.Call f args) _ line (e.rolls-Call f args) ∙ ap (λ p. p >>= (λ vs. call f vs line)) (all_values args line)

  pub value-Input : (a : TExpr) (line : ℕ)
      → value world here input call (e.Input a) line ≡ (value world here input call a line >>= (λ x. lift line (and_then (number x) (input_at input))))
  value-Input a line = of_expr (TExpr-F.Input a) _ line (e.rolls-Input a)

  pub value-Inputs : (line : ℕ) → value world here input call e.Inputs line ≡ pure (Int (pos (length input)))
  value-Inputs line = of_expr TExpr-F.Inputs _ line e.rolls-Inputs

  pub value-Choose : (op : RedOp) (a b : TExpr) (line : ℕ)
      → value world here input call (e.Choose op a b) line
      ≡ (value world here input call a line >>= (λ x. value world here input call b line >>= (λ y. lift line (choose op x y))))
  value-Choose op a b line = of_expr (TExpr-F.Choose op a b) _ line (e.rolls-Choose op a b)

  pub value-Calloc : (a : TExpr) (size line : ℕ)
      → value world here input call (e.Calloc a size) line
      ≡ (value world here input call a line >>= (λ x. lift line (and_then (number x) (λ n. words_of n size)) >>= (λ words. make world words line)))
  value-Calloc a size line = of_expr (TExpr-F.Calloc a size) _ line (e.rolls-Calloc a size)

  pub value-Free : (a : TExpr) (line : ℕ)
      → value world here input call (e.Free a) line ≡ (value world here input call a line >>= (λ x. free world x line))
  value-Free a line = of_expr (TExpr-F.Free a) _ line (e.rolls-Free a)

  pub place-Global : (k line : ℕ) → place world here input call (p.Global k) line ≡ pure (Global k, 0)
  place-Global k line = of_place (TPlace-F.Global k) _ line (p.rolls-Global k)

  pub place-At : (x : TExpr) (line : ℕ) → place world here input call (p.At x) line ≡ (value world here input call x line >>= (λ v. lift line (point v)))
  place-At x line = of_place (TPlace-F.At x) _ line (p.rolls-At x)

  pub place-Plus : (q : TPlace) (n line : ℕ)
      → place world here input call (p.Plus q n) line ≡ (place world here input call q line >>= (λ q. lift line (shift q n)))
  place-Plus q n line = of_place (TPlace-F.Plus q n) _ line (p.rolls-Plus q n)

  pub place-Elem : (q : TPlace) (x : TExpr) (size line : ℕ)
      → place world here input call (p.Elem q x size) line
      ≡ (place world here input call q line >>= (λ q. value world here input call x line >>= (λ v. lift line (element q v size))))
  place-Elem q x size line = of_place (TPlace-F.Elem q x size) _ line (p.rolls-Elem q x size)

pub ruleset exprs = (
  value-Number,
  value-Local,
  value-Load,
  value-Addr,
  value-Unary,
  value-Binary,
  value-Same,
  value-And,
  value-Or,
  value-Call,
  value-Input,
  value-Inputs,
  value-Choose,
  value-Calloc,
  value-Free,
)

pub ruleset places = (place-Global, place-At, place-Plus, place-Elem)
