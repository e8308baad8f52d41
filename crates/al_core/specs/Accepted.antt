-- Which lists of reductions are accepted for an annotated loop.
use Rattle.std.specs.Prelude.{◌≡◌, ◌≢◌, ℕ, Bool, true, false, not, ◌&&◌, ◌||◌, ◌==◌, nat_le, nat_lt, if◌then◌else◌, List, [], ◌∷◌, ◌++◌, map, Option, Some, None, slice_get, All, AllPairs, Contains}
use Rattle.std.specs.List.{list_any, list_all}
use Rattle.al_source.specs.declared.operators.BinOp.{BinOp}
use Rattle.al_source.specs.declared.operators.BinOp.TheVariants as binary
use Rattle.al_source.specs.declared.operators.RedOp.{RedOp}
use Rattle.al_source.specs.declared.operators.RedOp.TheVariants as red
use Rattle.al_core.specs.declared.choices.Bound.{Bound}
use Rattle.al_core.specs.declared.choices.Bound.TheVariants as bound
use Rattle.al_core.specs.declared.choices.Red.{Red}
use Rattle.al_core.specs.declared.typed_tree.TExpr.{TExpr, fold-TExpr, out-TExpr}
use Rattle.al_core.specs.declared.typed_tree.TPlace.{TPlace, fold-TPlace, out-TPlace}
use Rattle.al_core.specs.declared.typed_tree.TExpr.TheOpen.{TExpr-F, TPlace-F}
use Rattle.al_core.specs.declared.typed_tree.TStmt.{TStmt, fold-TStmt, para-TStmt}
use Rattle.al_core.specs.declared.typed_tree.TKind.{TKind}
use Rattle.al_core.specs.declared.typed_tree.TKind.TheOpen.{TKind-F}
use Rattle.al_core.specs.declared.typed_tree.TFunc.{TFunc}
use Rattle.al_core.specs.declared.typed_tree.TGlobal.{TGlobal}
use Rattle.al_core.specs.declared.typed_tree.TLocal.{TLocal}
use Rattle.al_core.specs.declared.typed_tree.Typed.{Typed}
use Rattle.al_core.specs.declared.values.Obj.TheVariants.{Global, Serial, Iter}
use Rattle.al_core.specs.declared.values.Addr.TheVariants.{Word, Head, Local}
use Rattle.al_core.specs.declared.values.Kind.{Kind}
use Rattle.al_core.specs.declared.values.Kind.TheVariants as kind
use Rattle.al_core.specs.World.{Obj, Addr}
use Rattle.al_core.specs.Loops.{Loop, Start, start_of, any_stmt}

-- ---- the variable

-- the local of that number is the variable
abbrev pub is_local : Addr → ℕ → Bool
is_local (Local j) k = j == k
is_local (Word o w) k = false
is_local (Head o) k = false

abbrev pub is_global_object : Obj → ℕ → Bool
is_global_object (Global j) k = j == k
is_global_object (Serial j) k = false
is_global_object (Iter e i j) k = false

-- the global of that number is the variable
abbrev pub is_global : Addr → ℕ → Bool
is_global (Word o w) k = is_global_object o k
is_global (Head o) k = false
is_global (Local j) k = false

-- ---- mentions

module _ (a : Addr) where
  abbrev pub expr_mentions : TExpr-F Bool Bool → Bool
  expr_mentions (TExpr-F.Number n) = false
  expr_mentions (TExpr-F.Local k) = is_local a k
  expr_mentions (TExpr-F.Load want p) = p
  expr_mentions (TExpr-F.Addr p) = p
  expr_mentions (TExpr-F.Unary op x) = x
  expr_mentions (TExpr-F.Binary op x y) = x || y
  expr_mentions (TExpr-F.Same equal x y) = x || y
  expr_mentions (TExpr-F.And x y) = x || y
  expr_mentions (TExpr-F.Or x y) = x || y
  expr_mentions (TExpr-F.Call f xs) = list_any (λ x. x) xs
  expr_mentions (TExpr-F.Input x) = x
  expr_mentions TExpr-F.Inputs = false
  expr_mentions (TExpr-F.Choose op x y) = x || y
  expr_mentions (TExpr-F.Calloc x size) = x
  expr_mentions (TExpr-F.Free x) = x

  abbrev pub place_mentions : TPlace-F Bool Bool → Bool
  place_mentions (TPlace-F.Global k) = is_global a k
  place_mentions (TPlace-F.At x) = x
  place_mentions (TPlace-F.Plus p n) = p
  place_mentions (TPlace-F.Elem p x n) = p || x

  unfoldable pub mentions : TExpr → Bool
  mentions = fold-TExpr Bool Bool expr_mentions place_mentions

  unfoldable pub mentions_at : TPlace → Bool
  mentions_at = fold-TPlace Bool Bool expr_mentions place_mentions

  abbrev pub any_mentions : Option TExpr → Bool
  any_mentions (Some e) = mentions e
  any_mentions None = false

-- ---- addresses taken

-- For an expression: whether it takes the variable's address. For a place: whether it lies in the variable, and whether
-- forming it takes the variable's address.

module _ (a : Addr) where
  abbrev pub expr_takes : TExpr-F Bool (Bool × Bool) → Bool
  expr_takes (TExpr-F.Number n) = false
  expr_takes (TExpr-F.Local k) = false
  expr_takes (TExpr-F.Load want p) = p.1
  expr_takes (TExpr-F.Addr p) = p.0 || p.1
  expr_takes (TExpr-F.Unary op x) = x
  expr_takes (TExpr-F.Binary op x y) = x || y
  expr_takes (TExpr-F.Same equal x y) = x || y
  expr_takes (TExpr-F.And x y) = x || y
  expr_takes (TExpr-F.Or x y) = x || y
  expr_takes (TExpr-F.Call f xs) = list_any (λ x. x) xs
  expr_takes (TExpr-F.Input x) = x
  expr_takes TExpr-F.Inputs = false
  expr_takes (TExpr-F.Choose op x y) = x || y
  expr_takes (TExpr-F.Calloc x size) = x
  expr_takes (TExpr-F.Free x) = x

  abbrev pub place_takes : TPlace-F Bool (Bool × Bool) → Bool × Bool
  place_takes (TPlace-F.Global k) = (is_global a k, false)
  place_takes (TPlace-F.At x) = (false, x)
  place_takes (TPlace-F.Plus p n) = p
  place_takes (TPlace-F.Elem p x n) = (p.0, p.1 || x)

  unfoldable pub takes : TExpr → Bool
  takes = fold-TExpr Bool (Bool × Bool) expr_takes place_takes

  unfoldable pub takes_at : TPlace → Bool × Bool
  takes_at = fold-TPlace Bool (Bool × Bool) expr_takes place_takes

-- ---- calls

abbrev pub all_called : List (List ℕ) → List ℕ
all_called [] = []
all_called (x ∷ xs) = x ++ all_called xs

abbrev pub expr_calls : TExpr-F (List ℕ) (List ℕ) → List ℕ
expr_calls (TExpr-F.Number n) = []
expr_calls (TExpr-F.Local k) = []
expr_calls (TExpr-F.Load want p) = p
expr_calls (TExpr-F.Addr p) = p
expr_calls (TExpr-F.Unary op x) = x
expr_calls (TExpr-F.Binary op x y) = x ++ y
expr_calls (TExpr-F.Same equal x y) = x ++ y
expr_calls (TExpr-F.And x y) = x ++ y
expr_calls (TExpr-F.Or x y) = x ++ y
expr_calls (TExpr-F.Call f xs) = f ∷ all_called xs
expr_calls (TExpr-F.Input x) = x
expr_calls TExpr-F.Inputs = []
expr_calls (TExpr-F.Choose op x y) = x ++ y
expr_calls (TExpr-F.Calloc x size) = x
expr_calls (TExpr-F.Free x) = x

abbrev pub place_calls : TPlace-F (List ℕ) (List ℕ) → List ℕ
place_calls (TPlace-F.Global k) = []
place_calls (TPlace-F.At x) = x
place_calls (TPlace-F.Plus p n) = p
place_calls (TPlace-F.Elem p x n) = p ++ x

unfoldable pub calls : TExpr → List ℕ
calls = fold-TExpr (List ℕ) (List ℕ) expr_calls place_calls

unfoldable pub calls_at : TPlace → List ℕ
calls_at = fold-TPlace (List ℕ) (List ℕ) expr_calls place_calls

-- ---- the expressions and places of statements, as they stand in them

pub record Terms : Type 0 where
  pub exprs : List TExpr
  pub places : List TPlace

abbrev pub no_terms : Terms
no_terms = record { exprs = []; places = [] }

abbrev pub one_expr : TExpr → Terms
one_expr e = record { exprs = e ∷ []; places = [] }

abbrev pub place_and_expr : TPlace → TExpr → Terms
place_and_expr p e = record { exprs = e ∷ []; places = p ∷ [] }

abbrev pub if_expr : Option TExpr → Terms
if_expr (Some e) = one_expr e
if_expr None = no_terms

abbrev pub both_terms : Terms → Terms → Terms
both_terms s t = record { exprs = s.exprs ++ t.exprs; places = s.places ++ t.places }

abbrev pub all_terms : List Terms → Terms
all_terms [] = no_terms
all_terms (t ∷ ts) = both_terms t (all_terms ts)

abbrev pub if_terms : Option Terms → Terms
if_terms (Some t) = t
if_terms None = no_terms

abbrev pub kind_terms : TKind-F Terms Terms → Terms
kind_terms TKind-F.Empty = no_terms
kind_terms (TKind-F.SetLocal k e) = one_expr e
kind_terms (TKind-F.Store p e) = place_and_expr p e
kind_terms (TKind-F.UpdateLocal op k e) = one_expr e
kind_terms (TKind-F.UpdateAt op p e) = place_and_expr p e
kind_terms (TKind-F.Call e) = one_expr e
kind_terms (TKind-F.Print format es) = record { exprs = es; places = [] }
kind_terms (TKind-F.If e s t) = both_terms (one_expr e) (both_terms s (if_terms t))
kind_terms (TKind-F.While e s) = both_terms (one_expr e) s
kind_terms (TKind-F.For first test third body number) =
    both_terms (if_terms first) (both_terms (if_expr test) (both_terms (if_terms third) body))
kind_terms (TKind-F.Block ts) = all_terms ts
kind_terms (TKind-F.Return e) = if_expr e
kind_terms TKind-F.Break = no_terms
kind_terms TKind-F.Continue = no_terms

unfoldable pub terms : TStmt → Terms
terms = fold-TStmt Terms Terms kind_terms (λ s. s.kind)

abbrev pub terms_of : List TStmt → Terms
terms_of [] = no_terms
terms_of (s ∷ ss) = both_terms (terms s) (terms_of ss)

abbrev pub calls_of : Terms → List ℕ
calls_of t = all_called (map calls t.exprs) ++ all_called (map calls_at t.places)

-- whether they mention a global; a local that a statement sets is not among its terms
abbrev pub mentions_in : Addr → Terms → Bool
mentions_in a t = list_any (mentions a) t.exprs || list_any (mentions_at a) t.places

abbrev pub takes_in : Addr → Terms → Bool
takes_in a t = list_any (takes a) t.exprs || list_any (λ p. (takes_at a p).1) t.places

-- ---- updates

-- `s op= e`
abbrev pub updates_by : RedOp → BinOp → Bool
updates_by red.Add binary.Add = true
updates_by red.Mul binary.Mul = true
updates_by red.BitAnd binary.BitAnd = true
updates_by red.BitOr binary.BitOr = true
updates_by red.BitXor binary.BitXor = true
updates_by _ _ = false

-- `min` or `max`
abbrev pub chooses_by : RedOp → RedOp → Bool
chooses_by red.Min red.Min = true
chooses_by red.Max red.Max = true
chooses_by _ _ = false

abbrev pub is_int : Kind → Bool
is_int kind.Int = true
is_int kind.Ptr = false

module _ (op : RedOp) (a : Addr) where
  -- the place is the variable itself
  abbrev pub is_place : TPlace-F TExpr TPlace → Bool
  is_place (TPlace-F.Global k) = is_global a k
  is_place (TPlace-F.At e) = false
  is_place (TPlace-F.Plus p n) = false
  is_place (TPlace-F.Elem p e n) = false

  -- the expression is the variable itself, as a number
  abbrev pub is_variable : TExpr-F TExpr TPlace → Bool
  is_variable (TExpr-F.Local k) = is_local a k
  is_variable (TExpr-F.Load want p) = is_int want && is_place (out-TPlace p)
  is_variable _ = false

  -- the expression is `min(s, e)` or `max(s, e)`, and e does not mention s
  abbrev pub is_choice : TExpr-F TExpr TPlace → Bool
  is_choice (TExpr-F.Choose by x y) = chooses_by op by && is_variable (out-TExpr x) && not (mentions a y)
  is_choice _ = false

  abbrev pub is_update : BinOp → TExpr → Bool
  is_update by e = updates_by op by && not (mentions a e)

  -- the first part of an annotated loop is its start, and no update
  abbrev pub starts_other : Option Start → Bool
  starts_other (Some start) = not (is_local a start.counter)
  starts_other None = true

  abbrev pub is_plain_start : Option ℕ → Option (TStmt × Bool) → Bool
  is_plain_start None first = true
  is_plain_start (Some number) first = starts_other (start_of (any_stmt first))

  abbrev pub if_only : Option (TStmt × Bool) → Bool
  if_only (Some s) = s.1
  if_only None = true

  -- the variable is mentioned in nothing but its updates
  abbrev pub kind_only_updates : TKind-F (TKind × Bool) (TStmt × Bool) → Bool
  kind_only_updates TKind-F.Empty = true
  kind_only_updates (TKind-F.SetLocal k e) = if is_local a k then is_choice (out-TExpr e) else not (mentions a e)
  kind_only_updates (TKind-F.Store p e) =
      if is_place (out-TPlace p) then is_choice (out-TExpr e) else not (mentions_at a p) && not (mentions a e)
  kind_only_updates (TKind-F.UpdateLocal by k e) = if is_local a k then is_update by e else not (mentions a e)
  kind_only_updates (TKind-F.UpdateAt by p e) =
      if is_place (out-TPlace p) then is_update by e else not (mentions_at a p) && not (mentions a e)
  kind_only_updates (TKind-F.Call e) = not (mentions a e)
  kind_only_updates (TKind-F.Print format es) = not (list_any (mentions a) es)
  kind_only_updates (TKind-F.If e s t) = not (mentions a e) && s.1 && if_only t
  kind_only_updates (TKind-F.While e s) = not (mentions a e) && s.1
  kind_only_updates (TKind-F.For first test third body number) =
      is_plain_start number first && if_only first && not (any_mentions a test) && if_only third && body.1
  kind_only_updates (TKind-F.Block ss) = list_all (λ s. s.1) ss
  kind_only_updates (TKind-F.Return e) = not (any_mentions a e)
  kind_only_updates TKind-F.Break = true
  kind_only_updates TKind-F.Continue = true

  unfoldable pub only_updates : TStmt → Bool
  only_updates = para-TStmt Bool Bool kind_only_updates (λ s. s.kind.1)

-- ---- acceptance

-- the functions that a statement reaches by calls
pub data Reached (typed : Typed) (body : TStmt) : ℕ → Type 0 where
  directly : (f : ℕ) → Contains (calls_of (terms body)) f → Reached typed body f
  further : (g : ℕ) (func : TFunc) (f : ℕ) → Reached typed body g → slice_get typed.funcs g ≡ Some func
      → Contains (calls_of (terms_of func.body)) f → Reached typed body f

abbrev pub is_bound : Bound → ℕ → Bool
is_bound (bound.Number n) k = false
is_bound (bound.Local j) k = j == k

-- an integer local that is declared outside the loop and is neither its counter nor its bound
pub record IsRedLocal (typed : Typed) (l : Loop) (k : ℕ) : Type 0 where
  pub integer : (func : TFunc) × (v : TLocal) × (slice_get typed.funcs l.info.func ≡ Some func)
      × (slice_get func.locals k ≡ Some v) × (v.kind ≡ kind.Int)
  pub outside : (nat_le l.info.first k && nat_lt k l.info.last) ≡ false
  pub no_counter : k ≢ l.info.counter
  pub no_bound : is_bound l.info.bound k ≡ false

-- an integer global whose address is taken nowhere, and that no function mentions which the body reaches by calls
pub record IsRedGlobal (typed : Typed) (l : Loop) (k : ℕ) : Type 0 where
  pub integer : (g : TGlobal) × (slice_get typed.globals k ≡ Some g) × (g.scalar ≡ Some kind.Int)
  pub untaken : All (λ func. takes_in (Word (Global k) 0) (terms_of func.body) ≡ false) typed.funcs
  pub unreached : (f : ℕ) (func : TFunc) → Reached typed l.body f → slice_get typed.funcs f ≡ Some func
      → mentions_in (Word (Global k) 0) (terms_of func.body) ≡ false

abbrev pub IsRedObject : Typed → Loop → Obj → ℕ → Type 0
IsRedObject typed l (Global k) w = IsRedGlobal typed l k × (w ≡ 0)
IsRedObject typed l (Serial k) w = ⊥
IsRedObject typed l (Iter e j k) w = ⊥

abbrev pub IsRedVariable : Typed → Loop → Addr → Type 0
IsRedVariable typed l (Local k) = IsRedLocal typed l k
IsRedVariable typed l (Word o w) = IsRedObject typed l o w
IsRedVariable typed l (Head o) = ⊥

-- a list of reductions that is accepted for a loop: its variables differ, and the loop's body mentions each only in
-- updates by its operator
pub record IsAccepted (typed : Typed) (l : Loop) (reds : List Red) : Type 0 where
  pub distinct : AllPairs (λ r q. r.at ≢ q.at) reds
  pub variables : All (λ r. IsRedVariable typed l r.at) reds
  pub updated : All (λ r. only_updates r.op r.at l.body ≡ true) reds
