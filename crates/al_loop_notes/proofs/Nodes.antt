-- A fold of expressions and places, at each kind of node.
use Rattle.std.proofs.Common.{◌≡◌, ℕ, List, map, sym, ap, ◌∙◌}
use Rattle.std.specs.Prelude.{ℤ, Bool}
use Rattle.al_source.specs.declared.operators.BinOp.{BinOp}
use Rattle.al_source.specs.declared.operators.UnOp.{UnOp}
use Rattle.al_source.specs.declared.operators.RedOp.{RedOp}
use Rattle.al_core.specs.declared.values.Kind.{Kind}
use Rattle.al_core.specs.declared.typed_tree.TExpr.{TExpr, map-TExpr, fold-TExpr, fold-roll-TExpr}
use Rattle.al_core.specs.declared.typed_tree.TExpr.TheViews.{roll-TExpr, roll-TPlace}
use Rattle.al_core.specs.declared.typed_tree.TExpr.TheVariants as e
use Rattle.al_core.specs.declared.typed_tree.TPlace.{TPlace, map-TPlace, fold-TPlace, fold-roll-TPlace}
use Rattle.al_core.specs.declared.typed_tree.TPlace.TheVariants as p
use Rattle.al_core.specs.declared.typed_tree.TExpr.TheOpen.{TExpr-F, TPlace-F}
use Rattle.al_loop_notes.proofs.Lists.{each}

module _ {A B : Type 0} (on_expr : TExpr-F A B → A) (on_place : TPlace-F A B → B) where
  abbrev expr : TExpr → A
  expr = fold-TExpr A B on_expr on_place

  abbrev place : TPlace → B
  place = fold-TPlace A B on_expr on_place

  of_expr : (x : TExpr-F TExpr TPlace) (d : TExpr) → roll-TExpr x ≡ d → expr d ≡ on_expr (map-TExpr TExpr TPlace A B expr place x)
  of_expr x d is = ap expr (sym is) ∙ fold-roll-TExpr A B on_expr on_place x

  of_place : (x : TPlace-F TExpr TPlace) (d : TPlace) → roll-TPlace x ≡ d → place d ≡ on_place (map-TPlace TExpr TPlace A B expr place x)
  of_place x d is = ap place (sym is) ∙ fold-roll-TPlace A B on_expr on_place x

  pub on-Number : (n : ℤ) → fold-TExpr A B on_expr on_place (e.Number n) ≡ on_expr (TExpr-F.Number n)
  on-Number n = of_expr (TExpr-F.Number n) _ (e.rolls-Number n)

  pub on-Local : (k : ℕ) → fold-TExpr A B on_expr on_place (e.Local k) ≡ on_expr (TExpr-F.Local k)
  on-Local k = of_expr (TExpr-F.Local k) _ (e.rolls-Local k)

  pub on-Load : (want : Kind) (q : TPlace) → fold-TExpr A B on_expr on_place (e.Load want q) ≡ on_expr (TExpr-F.Load want (fold-TPlace A B on_expr on_place q))
  on-Load want q = of_expr (TExpr-F.Load want q) _ (e.rolls-Load want q)

  pub on-Addr : (q : TPlace) → fold-TExpr A B on_expr on_place (e.Addr q) ≡ on_expr (TExpr-F.Addr (fold-TPlace A B on_expr on_place q))
  on-Addr q = of_expr (TExpr-F.Addr q) _ (e.rolls-Addr q)

  pub on-Unary : (op : UnOp) (x : TExpr) → fold-TExpr A B on_expr on_place (e.Unary op x) ≡ on_expr (TExpr-F.Unary op (fold-TExpr A B on_expr on_place x))
  on-Unary op x = of_expr (TExpr-F.Unary op x) _ (e.rolls-Unary op x)

  pub on-Binary : (op : BinOp) (x y : TExpr)
      → fold-TExpr A B on_expr on_place (e.Binary op x y) ≡ on_expr (TExpr-F.Binary op (fold-TExpr A B on_expr on_place x) (fold-TExpr A B on_expr on_place y))
  on-Binary op x y = of_expr (TExpr-F.Binary op x y) _ (e.rolls-Binary op x y)

  pub on-Same : (equal : Bool) (x y : TExpr)
      → fold-TExpr A B on_expr on_place (e.Same equal x y)
      ≡ on_expr (TExpr-F.Same equal (fold-TExpr A B on_expr on_place x) (fold-TExpr A B on_expr on_place y))
  on-Same equal x y = of_expr (TExpr-F.Same equal x y) _ (e.rolls-Same equal x y)

  pub on-And : (x y : TExpr)
      → fold-TExpr A B on_expr on_place (e.And x y) ≡ on_expr (TExpr-F.And (fold-TExpr A B on_expr on_place x) (fold-TExpr A B on_expr on_place y))
  on-And x y = of_expr (TExpr-F.And x y) _ (e.rolls-And x y)

  pub on-Or : (x y : TExpr)
      → fold-TExpr A B on_expr on_place (e.Or x y) ≡ on_expr (TExpr-F.Or (fold-TExpr A B on_expr on_place x) (fold-TExpr A B on_expr on_place y))
  on-Or x y = of_expr (TExpr-F.Or x y) _ (e.rolls-Or x y)

  pub on-Call : (f : ℕ) (xs : List TExpr) → fold-TExpr A B on_expr on_place (e.Call f xs) ≡ on_expr (TExpr-F.Call f (map (fold-TExpr A B on_expr on_place) xs))
  on-Call f xs = of_expr (TExpr-F.Call f xs) _ (e.rolls-Call f xs)

  pub on-Input : (x : TExpr) → fold-TExpr A B on_expr on_place (e.Input x) ≡ on_expr (TExpr-F.Input (fold-TExpr A B on_expr on_place x))
  on-Input x = of_expr (TExpr-F.Input x) _ (e.rolls-Input x)

  pub on-Inputs : fold-TExpr A B on_expr on_place e.Inputs ≡ on_expr TExpr-F.Inputs
  on-Inputs = of_expr TExpr-F.Inputs _ e.rolls-Inputs

  pub on-Choose : (op : RedOp) (x y : TExpr)
      → fold-TExpr A B on_expr on_place (e.Choose op x y) ≡ on_expr (TExpr-F.Choose op (fold-TExpr A B on_expr on_place x) (fold-TExpr A B on_expr on_place y))
  on-Choose op x y = of_expr (TExpr-F.Choose op x y) _ (e.rolls-Choose op x y)

  pub on-Calloc : (x : TExpr) (size : ℕ) → fold-TExpr A B on_expr on_place (e.Calloc x size) ≡ on_expr (TExpr-F.Calloc (fold-TExpr A B on_expr on_place x) size)
  on-Calloc x size = of_expr (TExpr-F.Calloc x size) _ (e.rolls-Calloc x size)

  pub on-Free : (x : TExpr) → fold-TExpr A B on_expr on_place (e.Free x) ≡ on_expr (TExpr-F.Free (fold-TExpr A B on_expr on_place x))
  on-Free x = of_expr (TExpr-F.Free x) _ (e.rolls-Free x)

  pub on-Global : (k : ℕ) → fold-TPlace A B on_expr on_place (p.Global k) ≡ on_place (TPlace-F.Global k)
  on-Global k = of_place (TPlace-F.Global k) _ (p.rolls-Global k)

  pub on-At : (x : TExpr) → fold-TPlace A B on_expr on_place (p.At x) ≡ on_place (TPlace-F.At (fold-TExpr A B on_expr on_place x))
  on-At x = of_place (TPlace-F.At x) _ (p.rolls-At x)

  pub on-Plus : (q : TPlace) (n : ℕ) → fold-TPlace A B on_expr on_place (p.Plus q n) ≡ on_place (TPlace-F.Plus (fold-TPlace A B on_expr on_place q) n)
  on-Plus q n = of_place (TPlace-F.Plus q n) _ (p.rolls-Plus q n)

  pub on-Elem : (q : TPlace) (x : TExpr) (size : ℕ)
      → fold-TPlace A B on_expr on_place (p.Elem q x size)
      ≡ on_place (TPlace-F.Elem (fold-TPlace A B on_expr on_place q) (fold-TExpr A B on_expr on_place x) size)
  on-Elem q x size = of_place (TPlace-F.Elem q x size) _ (p.rolls-Elem q x size)

pub ruleset exprs = (
  each,
  on-Number,
  on-Local,
  on-Load,
  on-Addr,
  on-Unary,
  on-Binary,
  on-Same,
  on-And,
  on-Or,
  on-Call,
  on-Input,
  on-Inputs,
  on-Choose,
  on-Calloc,
  on-Free,
  on-Global,
  on-At,
  on-Plus,
  on-Elem,
)
