-- What the expressions and statements of a program may mention.
use Rattle.std.specs.Prelude.{ℕ, Bool, true, ◌&&◌, ◌||◌, List, [], ◌∷◌, Option, Some, None, ℤ}
use Rattle.std.specs.List.{AllByRecursion}
use Rattle.al_source.specs.declared.operators.BinOp.{BinOp}
use Rattle.al_core.specs.declared.choices.Bound.{Bound}
use Rattle.al_core.specs.declared.choices.Bound.TheVariants as bound
use Rattle.al_core.specs.declared.typed_tree.TExpr.{TExpr, fold-TExpr}
use Rattle.al_core.specs.declared.typed_tree.TPlace.{TPlace, fold-TPlace}
use Rattle.al_core.specs.declared.typed_tree.TExpr.TheOpen.{TExpr-F, TPlace-F}
use Rattle.al_core.specs.declared.typed_tree.TStmt.{TStmt, para-TStmt}
use Rattle.al_core.specs.declared.typed_tree.TKind.{TKind, para-TKind}
use Rattle.al_core.specs.declared.typed_tree.TKind.TheOpen.{TKind-F}
use Rattle.al_core.specs.Accepted.{Terms, calls, calls_at}
use Rattle.al_core.specs.Loops.{Start, any_stmt, start_of, bound_of}

-- the locals, globals, numbers and functions that a program may mention, and the statements that are exempt
pub record Rules : Type 1 where
  pub local : ℕ → Bool
  pub global : ℕ → Bool
  -- the globals of which the address may be taken
  pub taken : ℕ → Bool
  pub literal : ℤ → Bool
  pub called : ℕ → Type 0
  pub set : ℕ → TExpr → Bool
  pub store : TPlace → TExpr → Bool
  pub update : BinOp → ℕ → TExpr → Bool
  pub update_at : BinOp → TPlace → TExpr → Bool

abbrev pub every : List Bool → Bool
every [] = true
every (b ∷ bs) = b && every bs

-- parts of a statement that obey
abbrev pub if_obeys : Option (TStmt × Bool) → Bool
if_obeys (Some s) = s.1
if_obeys None = true

abbrev pub each_obeys : List (TStmt × Bool) → Bool
each_obeys [] = true
each_obeys (s ∷ ss) = s.1 && each_obeys ss

module _ (r : Rules) where
  -- ---- expressions

  abbrev pub expr_obeys : TExpr-F Bool (Bool × Bool) → Bool
  expr_obeys (TExpr-F.Number n) = r.literal n
  expr_obeys (TExpr-F.Local k) = r.local k
  expr_obeys (TExpr-F.Load want p) = p.0
  expr_obeys (TExpr-F.Addr p) = p.0 && p.1
  expr_obeys (TExpr-F.Unary op x) = x
  expr_obeys (TExpr-F.Binary op x y) = x && y
  expr_obeys (TExpr-F.Same equal x y) = x && y
  expr_obeys (TExpr-F.And x y) = x && y
  expr_obeys (TExpr-F.Or x y) = x && y
  expr_obeys (TExpr-F.Call f xs) = every xs
  expr_obeys (TExpr-F.Input x) = x
  expr_obeys TExpr-F.Inputs = true
  expr_obeys (TExpr-F.Choose op x y) = x && y
  expr_obeys (TExpr-F.Calloc x size) = x
  expr_obeys (TExpr-F.Free x) = x

  -- whether a place obeys, and whether its address may be taken
  abbrev pub place_obeys : TPlace-F Bool (Bool × Bool) → Bool × Bool
  place_obeys (TPlace-F.Global k) = (r.global k, r.taken k)
  place_obeys (TPlace-F.At x) = (x, true)
  place_obeys (TPlace-F.Plus p n) = p
  place_obeys (TPlace-F.Elem p x n) = (p.0 && x, p.1)

  unfoldable pub obeys : TExpr → Bool
  obeys = fold-TExpr Bool (Bool × Bool) expr_obeys place_obeys

  unfoldable pub obeys_at : TPlace → Bool × Bool
  obeys_at = fold-TPlace Bool (Bool × Bool) expr_obeys place_obeys

  abbrev pub all_obey : List TExpr → Bool
  all_obey [] = true
  all_obey (e ∷ es) = obeys e && all_obey es

  abbrev pub any_obeys : Option TExpr → Bool
  any_obeys (Some e) = obeys e
  any_obeys None = true

  -- ---- the start and the bound of an annotated loop

  abbrev pub bound_obeys : Bound → Bool
  bound_obeys (bound.Number n) = r.literal n
  bound_obeys (bound.Local k) = r.local k

  abbrev pub start_obeys : Option Start → Bool
  start_obeys (Some start) = r.local start.counter && obeys start.value
  start_obeys None = true

  -- ---- statements

  -- a statement that is exempt need not obey
  abbrev pub kind_obeys : TKind-F (TKind × Bool) (TStmt × Bool) → Bool
  kind_obeys TKind-F.Empty = true
  kind_obeys (TKind-F.SetLocal k e) = r.set k e || (r.local k && obeys e)
  kind_obeys (TKind-F.Store p e) = r.store p e || ((obeys_at p).0 && obeys e)
  kind_obeys (TKind-F.UpdateLocal op k e) = r.update op k e || (r.local k && obeys e)
  kind_obeys (TKind-F.UpdateAt op p e) = r.update_at op p e || ((obeys_at p).0 && obeys e)
  kind_obeys (TKind-F.Call e) = obeys e
  kind_obeys (TKind-F.Print format es) = all_obey es
  kind_obeys (TKind-F.If e a b) = obeys e && (a.1 && if_obeys b)
  kind_obeys (TKind-F.While e a) = obeys e && a.1
  kind_obeys (TKind-F.For first test third body None) =
      if_obeys first && (any_obeys test && (if_obeys third && body.1))
  kind_obeys (TKind-F.For first test third body (Some loop)) =
      start_obeys (start_of (any_stmt first)) && (bound_obeys (bound_of test) && body.1)
  kind_obeys (TKind-F.Block ss) = each_obeys ss
  kind_obeys (TKind-F.Return e) = any_obeys e
  kind_obeys TKind-F.Break = true
  kind_obeys TKind-F.Continue = true

  unfoldable pub stmt_obeys : TStmt → Bool
  stmt_obeys = para-TStmt Bool Bool kind_obeys (λ s. s.kind.1)

  unfoldable pub stmt_kind_obeys : TKind → Bool
  stmt_kind_obeys = para-TKind Bool Bool kind_obeys (λ s. s.kind.1)

  abbrev pub stmts_obey : List TStmt → Bool
  stmts_obey [] = true
  stmts_obey (d ∷ ds) = stmt_obeys d && stmts_obey ds

-- ---- calls

abbrev pub AnyFunction : ℕ → Type 0
AnyFunction f = Unit {0}

module _ (called : ℕ → Type 0) where
  -- it calls only functions that may be called
  abbrev pub MayCall : TExpr → Type 0
  MayCall e = AllByRecursion called (calls e)

  abbrev pub MayCallAt : TPlace → Type 0
  MayCallAt p = AllByRecursion called (calls_at p)

  pub record MayCallIn (t : Terms) : Type 0 where
    pub exprs : AllByRecursion MayCall t.exprs
    pub places : AllByRecursion MayCallAt t.places
