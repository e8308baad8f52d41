-- The choices that are tried for an annotated loop.
use Rattle.std.specs.Prelude.{ℕ, ◌==◌, Bool, false, not, ◌&&◌, if◌then◌else◌, nat_le, nat_lt, List, [], ◌∷◌, ◌++◌, map, take, Option, Some, None, option_map, slice_get}
use Rattle.std.specs.List.{list_any, find, filter_map, flat_map}
use Rattle.al_source.specs.declared.limits.TheConstants.{TRIED_REDUCTIONS}
use Rattle.al_source.specs.declared.annotations.Policy.{Policy}
use Rattle.al_source.specs.declared.annotations.Policy.TheVariants as policy
use Rattle.al_source.specs.declared.annotations.CommitOrder.TheVariants as order
use Rattle.al_source.specs.declared.operators.RedOp.{RedOp}
use Rattle.al_source.specs.declared.operators.RedOp.TheVariants as red
use Rattle.al_core.specs.declared.choices.Choice.{Choice}
use Rattle.al_core.specs.declared.choices.LoopInfo.{LoopInfo}
use Rattle.al_core.specs.declared.choices.Red.{Red}
use Rattle.al_core.specs.declared.typed_tree.TExpr.{TExpr, fold-TExpr}
use Rattle.al_core.specs.declared.typed_tree.TPlace.{TPlace, fold-TPlace}
use Rattle.al_core.specs.declared.typed_tree.TExpr.TheOpen.{TExpr-F, TPlace-F}
use Rattle.al_core.specs.declared.typed_tree.TStmt.{TStmt, fold-TStmt}
use Rattle.al_core.specs.declared.typed_tree.TKind.{fold-TKind, TKind}
use Rattle.al_core.specs.declared.typed_tree.TKind.TheOpen.{TKind-F}
use Rattle.al_core.specs.declared.typed_tree.TFunc.{TFunc}
use Rattle.al_core.specs.declared.typed_tree.TGlobal.{TGlobal}
use Rattle.al_core.specs.declared.typed_tree.Typed.{Typed}
use Rattle.al_core.specs.declared.values.Kind.{Kind}
use Rattle.al_core.specs.declared.values.Obj.TheVariants.{Global}
use Rattle.al_core.specs.declared.values.Addr.TheVariants.{Word, Head, Local}
use Rattle.al_core.specs.declared.values.Obj.{Obj}
use Rattle.al_core.specs.declared.values.Addr.{Addr}
use Rattle.al_core.specs.Orders.{addr_eq}
use Rattle.al_core.specs.Lines.{by_words}
use Rattle.al_core.specs.Loops.{PlacedLoop, program_loops}
use Rattle.al_rules.specs.ForLoops.{is_kind, is_integer}
use Rattle.al_rules.specs.Bodies.{is_taken, is_misused, has_update}
use Rattle.al_rules.specs.Notes.{is_counter_or_bound}

-- ---- which variables a statement mentions, in source order

abbrev pub all_of : {A : Type 0} → List (List A) → List A
all_of [] = []
all_of (x ∷ xs) = x ++ all_of xs

abbrev pub expr_names : TExpr-F (List Addr) (List Addr) → List Addr
expr_names (TExpr-F.Number n) = []
expr_names (TExpr-F.Local n) = Local n ∷ []
expr_names (TExpr-F.Load want p) = p
expr_names (TExpr-F.Addr p) = p
expr_names (TExpr-F.Unary op x) = x
expr_names (TExpr-F.Binary op x y) = x ++ y
expr_names (TExpr-F.Same equal x y) = x ++ y
expr_names (TExpr-F.And x y) = x ++ y
expr_names (TExpr-F.Or x y) = x ++ y
expr_names (TExpr-F.Call f xs) = all_of xs
expr_names (TExpr-F.Input x) = x
expr_names TExpr-F.Inputs = []
expr_names (TExpr-F.Choose op x y) = x ++ y
expr_names (TExpr-F.Calloc x size) = x
expr_names (TExpr-F.Free x) = x

abbrev pub place_names : TPlace-F (List Addr) (List Addr) → List Addr
place_names (TPlace-F.Global n) = Word (Global n) 0 ∷ []
place_names (TPlace-F.At x) = x
place_names (TPlace-F.Plus p n) = p
place_names (TPlace-F.Elem p x n) = p ++ x

unfoldable pub names : TExpr → List Addr
names = fold-TExpr (List Addr) (List Addr) expr_names place_names

unfoldable pub names_at : TPlace → List Addr
names_at = fold-TPlace (List Addr) (List Addr) expr_names place_names

abbrev pub any_names : Option TExpr → List Addr
any_names (Some e) = names e
any_names None = []

abbrev pub if_names : Option (List Addr) → List Addr
if_names (Some as') = as'
if_names None = []

abbrev pub kind_names : TKind-F (List Addr) (List Addr) → List Addr
kind_names TKind-F.Empty = []
kind_names (TKind-F.SetLocal n e) = Local n ∷ names e
kind_names (TKind-F.Store p e) = names_at p ++ names e
kind_names (TKind-F.UpdateLocal op n e) = Local n ∷ names e
kind_names (TKind-F.UpdateAt op p e) = names_at p ++ names e
kind_names (TKind-F.Call e) = names e
kind_names (TKind-F.Print format es) = flat_map names es
kind_names (TKind-F.If e s t) = names e ++ s ++ if_names t
kind_names (TKind-F.While e s) = names e ++ s
kind_names (TKind-F.For first test third body number) = if_names first ++ any_names test ++ if_names third ++ body
kind_names (TKind-F.Block ss) = all_of ss
kind_names (TKind-F.Return e) = any_names e
kind_names TKind-F.Break = []
kind_names TKind-F.Continue = []

unfoldable pub variables : TStmt → List Addr
variables = fold-TStmt (List Addr) (List Addr) kind_names (λ s. s.kind)

unfoldable pub variables_in : TKind → List Addr
variables_in = fold-TKind (List Addr) (List Addr) kind_names (λ s. s.kind)

-- each once, where it comes first
abbrev pub firsts : List Addr → List Addr → List Addr
firsts seen [] = []
firsts seen (a ∷ as') = if list_any (addr_eq a) seen then firsts seen as' else a ∷ firsts (a ∷ seen) as'

-- ---- which variables are reducible

abbrev pub scalar_is_int : Option Kind → Bool
scalar_is_int (Some k) = is_kind k
scalar_is_int None = false

abbrev pub is_integer_global : Option TGlobal → Bool
is_integer_global (Some g) = scalar_is_int g.scalar
is_integer_global None = false

abbrev pub is_outside : LoopInfo → ℕ → Bool
is_outside info n = not (nat_le info.first n && nat_lt n info.last)

abbrev pub is_local_of : LoopInfo → Option TFunc → ℕ → Bool
is_local_of info (Some f) n = is_integer f.locals n && is_outside info n
is_local_of info None n = false

abbrev pub is_integer_object : Typed → Obj → ℕ → Bool
is_integer_object typed (Global n) w = is_integer_global (slice_get typed.globals n) && (w == 0)
is_integer_object typed _ w = false

-- an integer local that is declared outside the loop, or an integer global
abbrev pub is_variable : Typed → LoopInfo → Addr → Bool
is_variable typed info (Local n) = is_local_of info (slice_get typed.funcs info.func) n
is_variable typed info (Word o w) = is_integer_object typed o w
is_variable typed info (Head o) = false

-- the operator would be accepted for the variable, and updates it
abbrev pub reduces : Typed → LoopInfo → TStmt → Addr → RedOp → Bool
reduces typed info body a op = not (is_misused typed body op a) && has_update op a body

abbrev pub may_reduce : Typed → LoopInfo → Addr → Bool
may_reduce typed info a = is_variable typed info a && not (is_counter_or_bound info a) && not (is_taken typed a)

abbrev pub operators : List RedOp
operators = red.Add ∷ red.Mul ∷ red.Min ∷ red.Max ∷ red.BitAnd ∷ red.BitOr ∷ red.BitXor ∷ []

-- A variable that is updated has at most one such operator.
abbrev pub reduction_of : Typed → LoopInfo → TStmt → Addr → Option Red
reduction_of typed info body a =
    if may_reduce typed info a
    then option_map (λ op. record { op = op; at = a }) (find (reduces typed info body a) operators)
    else None

-- the reducible variables that count, in order of first mention
abbrev pub reductions_of : Typed → LoopInfo → TStmt → List Red
reductions_of typed info body =
    take TRIED_REDUCTIONS (filter_map (reduction_of typed info body) (firsts [] (variables body)))

-- ---- choices

abbrev pub all_together : List Red → List (List Red)
all_together (r ∷ q ∷ rs) = (r ∷ q ∷ rs) ∷ []
all_together _ = []

-- none, each alone, and all together where there are two or more
abbrev pub reduction_lists : List Red → List (List Red)
reduction_lists rs = [] ∷ map (λ r. r ∷ []) rs ++ all_together rs

abbrev pub in_both_orders : List Red → Policy → List Choice
in_both_orders reds p = by_words p order.OutOfOrder reds ∷ by_words p order.InOrder reds ∷ []

abbrev pub policies : List Policy
policies = policy.None ∷ policy.Waw ∷ policy.Raw ∷ policy.Full ∷ []

abbrev pub with_reductions : List Red → List Choice
with_reductions reds = flat_map (in_both_orders reds) policies

abbrev pub choices_of : Typed → LoopInfo → Option PlacedLoop → List Choice
choices_of typed info None = []
choices_of typed info (Some l) = flat_map with_reductions (reduction_lists (reductions_of typed info l.loop.body))

-- The choices for a loop by its entry, in the order in which they are tried.
unfoldable pub choices : Typed → LoopInfo → List Choice
choices typed info = choices_of typed info (slice_get (program_loops typed) info.number)
