-- Globals of one word, and the places in them.
use Rattle.std.specs.Prelude.{◌≡◌, ℕ, Bool, true, not, ◌&&◌, List, Option, Some, None, is_some, slice_get}
use Rattle.std.specs.List.{list_all, list_any}
use Rattle.al_core.specs.declared.values.Kind.{Kind}
use Rattle.al_core.specs.declared.values.Addr.TheVariants.{Word}
use Rattle.al_core.specs.declared.values.Obj.TheVariants.{Global}
use Rattle.al_core.specs.declared.typed_tree.TExpr.{TExpr, fold-TExpr}
use Rattle.al_core.specs.declared.typed_tree.TPlace.{TPlace, fold-TPlace}
use Rattle.al_core.specs.declared.typed_tree.TExpr.TheOpen.{TExpr-F, TPlace-F}
use Rattle.al_core.specs.declared.typed_tree.TFunc.{TFunc}
use Rattle.al_core.specs.declared.typed_tree.TGlobal.{TGlobal}
use Rattle.al_core.specs.declared.typed_tree.Typed.{Typed}
use Rattle.al_core.specs.Accepted.{Terms, terms_of, takes_in}
use Rattle.al_rules.specs.WellFormed.{is_int_global}

-- ---- places within places

abbrev pub scalar_of : Option TGlobal → Option Kind
scalar_of (Some g) = g.scalar
scalar_of None = None

-- a place, whether all places in it are whole, and the kind of its word, where it is a global of one word
abbrev pub WholePlace : Type 0
WholePlace = Bool × Option Kind

abbrev pub all_whole : List Bool → Bool
all_whole bs = list_all (λ b. b) bs

module _ (typed : Typed) where
  abbrev pub expr_whole : TExpr-F Bool WholePlace → Bool
  expr_whole (TExpr-F.Number n) = true
  expr_whole (TExpr-F.Local k) = true
  expr_whole (TExpr-F.Load want p) = p.0
  expr_whole (TExpr-F.Addr p) = p.0
  expr_whole (TExpr-F.Unary op x) = x
  expr_whole (TExpr-F.Binary op x y) = x && y
  expr_whole (TExpr-F.Same equal x y) = x && y
  expr_whole (TExpr-F.And x y) = x && y
  expr_whole (TExpr-F.Or x y) = x && y
  expr_whole (TExpr-F.Call f xs) = all_whole xs
  expr_whole (TExpr-F.Input x) = x
  expr_whole TExpr-F.Inputs = true
  expr_whole (TExpr-F.Choose op x y) = x && y
  expr_whole (TExpr-F.Calloc x size) = x
  expr_whole (TExpr-F.Free x) = x

  -- no member and no element is formed of a global of one word
  abbrev pub place_whole : TPlace-F Bool WholePlace → WholePlace
  place_whole (TPlace-F.Global k) = (true, scalar_of (slice_get typed.globals k))
  place_whole (TPlace-F.At x) = (x, None)
  place_whole (TPlace-F.Plus p n) = (p.0 && not (is_some p.1), None)
  place_whole (TPlace-F.Elem p x n) = (p.0 && not (is_some p.1) && x, None)

  unfoldable pub whole : TExpr → Bool
  whole = fold-TExpr Bool WholePlace expr_whole place_whole

  unfoldable pub whole_at : TPlace → WholePlace
  whole_at = fold-TPlace Bool WholePlace expr_whole place_whole

  abbrev pub whole_in : Terms → Bool
  whole_in t = list_all whole t.exprs && list_all (λ p. (whole_at p).0) t.places

-- in no function of the program
abbrev pub ScalarsAreWhole : Typed → Type 0
ScalarsAreWhole typed =
    (f : ℕ) (func : TFunc) → slice_get typed.funcs f ≡ Some func → whole_in typed (terms_of func.body) ≡ true

-- ---- globals whose address is taken nowhere

-- an integer global whose address no function takes
abbrev pub is_shut : Typed → ℕ → Bool
is_shut typed k =
    is_int_global (slice_get typed.globals k)
    && not (list_any (λ f. takes_in (Word (Global k) 0) (terms_of f.body)) typed.funcs)
