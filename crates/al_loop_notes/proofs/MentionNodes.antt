-- Whether a variable is mentioned, at each kind of expression and place.
use Rattle.std.proofs.Common.{◌≡◌, ℕ, List, ◌∙◌}
use Rattle.std.specs.Prelude.{ℤ, Bool, false, ◌||◌}
use Rattle.std.specs.List.{list_any}
use Rattle.al_source.specs.declared.operators.BinOp.{BinOp}
use Rattle.al_source.specs.declared.operators.UnOp.{UnOp}
use Rattle.al_source.specs.declared.operators.RedOp.{RedOp}
use Rattle.al_core.specs.declared.values.Addr.{Addr}
use Rattle.al_core.specs.declared.values.Kind.{Kind}
use Rattle.al_core.specs.declared.typed_tree.TExpr.{TExpr}
use Rattle.al_core.specs.declared.typed_tree.TExpr.TheVariants as e
use Rattle.al_core.specs.declared.typed_tree.TPlace.{TPlace}
use Rattle.al_core.specs.declared.typed_tree.TPlace.TheVariants as p
use Rattle.al_core.specs.Accepted.{is_local, is_global, expr_mentions, place_mentions, mentions, mentions_at}
use Rattle.al_loop_notes.proofs.Lists.{any_each}
use Rattle.al_loop_notes.proofs.Nodes as nodes

module _ (a : Addr) where
  pub mentions-Number : (n : ℤ) → mentions a (e.Number n) ≡ false
  unfolding mentions mentions_at
  mentions-Number n = nodes.on-Number (expr_mentions a) (place_mentions a) n

  pub mentions-Local : (k : ℕ) → mentions a (e.Local k) ≡ is_local a k
  unfolding mentions mentions_at
  mentions-Local k = nodes.on-Local (expr_mentions a) (place_mentions a) k

  pub mentions-Load : (want : Kind) (q : TPlace) → mentions a (e.Load want q) ≡ mentions_at a q
  unfolding mentions mentions_at
  mentions-Load want q = nodes.on-Load (expr_mentions a) (place_mentions a) want q

  pub mentions-Addr : (q : TPlace) → mentions a (e.Addr q) ≡ mentions_at a q
  unfolding mentions mentions_at
  mentions-Addr q = nodes.on-Addr (expr_mentions a) (place_mentions a) q

  pub mentions-Unary : (op : UnOp) (x : TExpr) → mentions a (e.Unary op x) ≡ mentions a x
  unfolding mentions mentions_at
  mentions-Unary op x = nodes.on-Unary (expr_mentions a) (place_mentions a) op x

  pub mentions-Binary : (op : BinOp) (x y : TExpr) → mentions a (e.Binary op x y) ≡ (mentions a x || mentions a y)
  unfolding mentions mentions_at
  mentions-Binary op x y = nodes.on-Binary (expr_mentions a) (place_mentions a) op x y

  pub mentions-Same : (equal : Bool) (x y : TExpr) → mentions a (e.Same equal x y) ≡ (mentions a x || mentions a y)
  unfolding mentions mentions_at
  mentions-Same equal x y = nodes.on-Same (expr_mentions a) (place_mentions a) equal x y

  pub mentions-And : (x y : TExpr) → mentions a (e.And x y) ≡ (mentions a x || mentions a y)
  unfolding mentions mentions_at
  mentions-And x y = nodes.on-And (expr_mentions a) (place_mentions a) x y

  pub mentions-Or : (x y : TExpr) → mentions a (e.Or x y) ≡ (mentions a x || mentions a y)
  unfolding mentions mentions_at
  mentions-Or x y = nodes.on-Or (expr_mentions a) (place_mentions a) x y

  pub mentions-Call : (f : ℕ) (xs : List TExpr) → mentions a (e.Call f xs) ≡ list_any (mentions a) xs
  unfolding mentions mentions_at
  mentions-Call f xs = nodes.on-Call (expr_mentions a) (place_mentions a) f xs ∙ any_each (mentions a) xs

  pub mentions-Input : (x : TExpr) → mentions a (e.Input x) ≡ mentions a x
  unfolding mentions mentions_at
  mentions-Input x = nodes.on-Input (expr_mentions a) (place_mentions a) x

  pub mentions-Inputs : mentions a e.Inputs ≡ false
  unfolding mentions mentions_at
  mentions-Inputs = nodes.on-Inputs (expr_mentions a) (place_mentions a)

  pub mentions-Choose : (op : RedOp) (x y : TExpr) → mentions a (e.Choose op x y) ≡ (mentions a x || mentions a y)
  unfolding mentions mentions_at
  mentions-Choose op x y = nodes.on-Choose (expr_mentions a) (place_mentions a) op x y

  pub mentions-Calloc : (x : TExpr) (size : ℕ) → mentions a (e.Calloc x size) ≡ mentions a x
  unfolding mentions mentions_at
  mentions-Calloc x size = nodes.on-Calloc (expr_mentions a) (place_mentions a) x size

  pub mentions-Free : (x : TExpr) → mentions a (e.Free x) ≡ mentions a x
  unfolding mentions mentions_at
  mentions-Free x = nodes.on-Free (expr_mentions a) (place_mentions a) x

  pub mentions-Global : (k : ℕ) → mentions_at a (p.Global k) ≡ is_global a k
  unfolding mentions mentions_at
  mentions-Global k = nodes.on-Global (expr_mentions a) (place_mentions a) k

  pub mentions-At : (x : TExpr) → mentions_at a (p.At x) ≡ mentions a x
  unfolding mentions mentions_at
  mentions-At x = nodes.on-At (expr_mentions a) (place_mentions a) x

  pub mentions-Plus : (q : TPlace) (n : ℕ) → mentions_at a (p.Plus q n) ≡ mentions_at a q
  unfolding mentions mentions_at
  mentions-Plus q n = nodes.on-Plus (expr_mentions a) (place_mentions a) q n

  pub mentions-Elem : (q : TPlace) (x : TExpr) (n : ℕ) → mentions_at a (p.Elem q x n) ≡ (mentions_at a q || mentions a x)
  unfolding mentions mentions_at
  mentions-Elem q x n = nodes.on-Elem (expr_mentions a) (place_mentions a) q x n

pub ruleset mention_nodes = (
  mentions-Number,
  mentions-Local,
  mentions-Load,
  mentions-Addr,
  mentions-Unary,
  mentions-Binary,
  mentions-Same,
  mentions-And,
  mentions-Or,
  mentions-Call,
  mentions-Input,
  mentions-Inputs,
  mentions-Choose,
  mentions-Calloc,
  mentions-Free,
  mentions-Global,
  mentions-At,
  mentions-Plus,
  mentions-Elem,
)
