-- What the body of an annotated loop does: which locals it assigns, how it may be left, which functions it reaches, and
-- how it uses a variable.
use Rattle.std.specs.Prelude.{ℕ, zero, suc, ◌+◌, ◌==◌, Bool, true, false, not, ◌&&◌, ◌||◌, List, [], ◌∷◌, length, Option, Some, None, slice_get}
use Rattle.std.specs.List.{list_any}
use Rattle.al_source.specs.declared.operators.RedOp.{RedOp}
use Rattle.al_core.specs.declared.choices.Bound.{Bound}
use Rattle.al_core.specs.declared.choices.Bound.TheVariants as bound
use Rattle.al_core.specs.declared.typed_tree.TExpr.{out-TExpr}
use Rattle.al_core.specs.declared.typed_tree.TPlace.{out-TPlace}
use Rattle.al_core.specs.declared.typed_tree.TStmt.{TStmt, fold-TStmt}
use Rattle.al_core.specs.declared.typed_tree.TKind.{TKind, fold-TKind}
use Rattle.al_core.specs.declared.typed_tree.TKind.TheOpen.{TKind-F}
use Rattle.al_core.specs.declared.typed_tree.TFunc.{TFunc}
use Rattle.al_core.specs.declared.typed_tree.Typed.{Typed}
use Rattle.al_core.specs.declared.values.Addr.TheVariants.{Word, Head, Local}
use Rattle.al_core.specs.declared.values.Addr.{Addr}
use Rattle.al_core.specs.Accepted.{is_local, terms, terms_of, calls_of, mentions_in, takes_in, is_place, is_choice, is_update, only_updates}

-- ---- what is assigned

abbrev pub if_any : Option Bool → Bool
if_any (Some b) = b
if_any None = false

-- whether a statement passes the test, or one within it does
abbrev pub any_case : (TKind-F Bool Bool → Bool) → TKind-F Bool Bool → Bool
any_case test (TKind-F.If e a b) = a || if_any b
any_case test (TKind-F.While e a) = a
any_case test (TKind-F.For first e third body number) = if_any first || if_any third || body
any_case test (TKind-F.Block ss) = list_any (λ s. s) ss
any_case test d = test d

abbrev pub assigns_here : ℕ → TKind-F Bool Bool → Bool
assigns_here n (TKind-F.SetLocal m e) = m == n
assigns_here n (TKind-F.UpdateLocal op m e) = m == n
assigns_here n _ = false

-- a statement assigns the local
unfoldable pub assigns : ℕ → TStmt → Bool
assigns n = fold-TStmt Bool Bool (any_case (assigns_here n)) (λ s. s.kind)

unfoldable pub assigns_in : ℕ → TKind → Bool
assigns_in n = fold-TKind Bool Bool (any_case (assigns_here n)) (λ s. s.kind)

abbrev pub assigns_bound : Bound → TStmt → Bool
assigns_bound (bound.Number n) s = false
assigns_bound (bound.Local n) s = assigns n s

-- ---- how a statement may be left

abbrev pub returns_here : TKind-F Bool Bool → Bool
returns_here (TKind-F.Return e) = true
returns_here _ = false

-- a `return` stands in it
unfoldable pub has_return : TStmt → Bool
has_return = fold-TStmt Bool Bool (any_case returns_here) (λ s. s.kind)

unfoldable pub returns_in : TKind → Bool
returns_in = fold-TKind Bool Bool (any_case returns_here) (λ s. s.kind)

abbrev pub breaks_case : TKind-F Bool Bool → Bool
breaks_case TKind-F.Break = true
breaks_case (TKind-F.If e a b) = a || if_any b
breaks_case (TKind-F.Block ss) = list_any (λ s. s) ss
breaks_case _ = false

-- a `break` stands in it that is of no loop in it
unfoldable pub has_break : TStmt → Bool
has_break = fold-TStmt Bool Bool breaks_case (λ s. s.kind)

unfoldable pub breaks_in : TKind → Bool
breaks_in = fold-TKind Bool Bool breaks_case (λ s. s.kind)

-- ---- which functions are reached

abbrev pub has : ℕ → List ℕ → Bool
has n ns = list_any (λ m. m == n) ns

abbrev pub calls_in : Option TFunc → List ℕ
calls_in None = []
calls_in (Some f) = calls_of (terms_of f.body)

-- function f reaches function g by calls, where those between them are among the first so many functions
abbrev pub reaches : Typed → ℕ → ℕ → ℕ → Bool
reaches typed zero f g = has g (calls_in (slice_get typed.funcs f))
reaches typed (suc n) f g = reaches typed n f g || (reaches typed n f n && reaches typed n n g)

-- a statement reaches the function: it calls it, or one that reaches it
unfoldable pub is_reached : Typed → TStmt → ℕ → Bool
is_reached typed s g =
    has g (calls_of (terms s)) || list_any (λ f. reaches typed (length typed.funcs) f g) (calls_of (terms s))

-- ---- how a variable is used

-- some function takes its address
abbrev pub is_taken : Typed → Addr → Bool
is_taken typed a = list_any (λ f. takes_in a (terms_of f.body)) typed.funcs

abbrev pub any_from : (ℕ → TFunc → Bool) → ℕ → List TFunc → Bool
any_from test n [] = false
any_from test n (f ∷ fs) = test n f || any_from test (n + 1) fs

-- a function that the statement reaches mentions the global
abbrev pub is_mentioned_there : Typed → TStmt → Addr → Bool
is_mentioned_there typed s (Word o w) =
    any_from (λ n f. is_reached typed s n && mentions_in (Word o w) (terms_of f.body)) 0 typed.funcs
is_mentioned_there typed s (Head o) = false
is_mentioned_there typed s (Local n) = false

-- used otherwise than in updates by the operator, in the statement or a function that it reaches
abbrev pub is_misused : Typed → TStmt → RedOp → Addr → Bool
is_misused typed s op a = not (only_updates op a s) || is_mentioned_there typed s a

abbrev pub updates_here : RedOp → Addr → TKind-F Bool Bool → Bool
updates_here op a (TKind-F.SetLocal n e) = is_local a n && is_choice op a (out-TExpr e)
updates_here op a (TKind-F.Store p e) = is_place op a (out-TPlace p) && is_choice op a (out-TExpr e)
updates_here op a (TKind-F.UpdateLocal by n e) = is_local a n && is_update op a by e
updates_here op a (TKind-F.UpdateAt by p e) = is_place op a (out-TPlace p) && is_update op a by e
updates_here op a _ = false

-- the variable is updated by the operator in it
unfoldable pub has_update : RedOp → Addr → TStmt → Bool
has_update op a = fold-TStmt Bool Bool (any_case (updates_here op a)) (λ s. s.kind)

unfoldable pub updates_in : RedOp → Addr → TKind → Bool
updates_in op a = fold-TKind Bool Bool (any_case (updates_here op a)) (λ s. s.kind)
