-- What statements do with variables and functions, in source order, and what is asked of it.
use Rattle.std.specs.Prelude.{ℕ, Bool, true, false, ◌==◌, List, [], ◌∷◌, ◌++◌, Option, Some, None}
use Rattle.std.specs.List.{flat_map}
use Rattle.al_core.specs.declared.typed_tree.TExpr.{TExpr, fold-TExpr}
use Rattle.al_core.specs.declared.typed_tree.TPlace.{TPlace, fold-TPlace}
use Rattle.al_core.specs.declared.typed_tree.TExpr.TheOpen.{TExpr-F, TPlace-F}
use Rattle.al_core.specs.declared.typed_tree.TFunc.{TFunc}
use Rattle.al_core.specs.declared.typed_tree.TStmt.{TStmt, fold-TStmt}
use Rattle.al_core.specs.declared.typed_tree.TKind.TheOpen.{TKind-F}
use Rattle.al_core.specs.declared.values.Addr.{Addr}
use Rattle.al_core.specs.declared.values.Addr.TheVariants as addr
use Rattle.al_core.specs.declared.values.Obj.TheVariants as obj
use Rattle.al_core.specs.Accepted.{is_local, is_global}
use Rattle.al_rules.specs.Candidates.{all_of}
use Rattle.al_loop_notes.specs.declared.uses.Use.{Use}
use Rattle.al_loop_notes.specs.declared.uses.Use.TheVariants as one

-- ---- expressions and places

-- of a place: the global in which it lies, and the uses that forming it makes
abbrev pub Formed : Type 0
Formed = Option ℕ × List Use

abbrev pub address_in : Option ℕ → List Use
address_in (Some k) = one.Address k ∷ []
address_in None = []

abbrev pub expr_uses : TExpr-F (List Use) Formed → List Use
expr_uses (TExpr-F.Number n) = []
expr_uses (TExpr-F.Local k) = one.Local k ∷ []
expr_uses (TExpr-F.Load want p) = p.1
expr_uses (TExpr-F.Addr p) = p.1 ++ address_in p.0
expr_uses (TExpr-F.Unary op x) = x
expr_uses (TExpr-F.Binary op x y) = x ++ y
expr_uses (TExpr-F.Same equal x y) = x ++ y
expr_uses (TExpr-F.And x y) = x ++ y
expr_uses (TExpr-F.Or x y) = x ++ y
expr_uses (TExpr-F.Call f xs) = one.Call f ∷ all_of xs
expr_uses (TExpr-F.Input x) = x
expr_uses TExpr-F.Inputs = []
expr_uses (TExpr-F.Choose op x y) = x ++ y
expr_uses (TExpr-F.Calloc x size) = x
expr_uses (TExpr-F.Free x) = x

abbrev pub place_uses : TPlace-F (List Use) Formed → Formed
place_uses (TPlace-F.Global k) = (Some k, one.Global k ∷ [])
place_uses (TPlace-F.At x) = (None, x)
place_uses (TPlace-F.Plus p n) = p
place_uses (TPlace-F.Elem p x n) = (p.0, p.1 ++ x)

unfoldable pub uses : TExpr → List Use
uses = fold-TExpr (List Use) Formed expr_uses place_uses

unfoldable pub uses_at : TPlace → Formed
uses_at = fold-TPlace (List Use) Formed expr_uses place_uses

abbrev pub any_uses : Option TExpr → List Use
any_uses (Some e) = uses e
any_uses None = []

-- ---- statements

abbrev pub if_uses : Option (List Use) → List Use
if_uses (Some us) = us
if_uses None = []

abbrev pub kind_uses : TKind-F (List Use) (List Use) → List Use
kind_uses TKind-F.Empty = []
kind_uses (TKind-F.SetLocal k e) = one.Set k ∷ uses e
kind_uses (TKind-F.Store p e) = (uses_at p).1 ++ uses e
kind_uses (TKind-F.UpdateLocal op k e) = one.Set k ∷ uses e
kind_uses (TKind-F.UpdateAt op p e) = (uses_at p).1 ++ uses e
kind_uses (TKind-F.Call e) = uses e
kind_uses (TKind-F.Print format es) = flat_map uses es
kind_uses (TKind-F.If e s t) = uses e ++ s ++ if_uses t
kind_uses (TKind-F.While e s) = uses e ++ s
kind_uses (TKind-F.For first test third body number) = if_uses first ++ any_uses test ++ if_uses third ++ body
kind_uses (TKind-F.Block ss) = all_of ss
kind_uses (TKind-F.Return e) = one.Return ∷ any_uses e
kind_uses TKind-F.Break = []
kind_uses TKind-F.Continue = []

unfoldable pub stmt_uses : TStmt → List Use
stmt_uses = fold-TStmt (List Use) (List Use) kind_uses (λ s. s.kind)

abbrev pub part_uses : Option TStmt → List Use
part_uses (Some s) = stmt_uses s
part_uses None = []

abbrev pub func_uses : TFunc → List Use
func_uses f = flat_map stmt_uses f.body

-- ---- what is asked of them

-- an expression or a place mentions the variable
abbrev pub is_mention : Addr → Use → Bool
is_mention a (one.Local k) = is_local a k
is_mention a (one.Global k) = is_global a k
is_mention a _ = false

-- the variable's address is taken
abbrev pub is_address : Addr → Use → Bool
is_address a (one.Address k) = is_global a k
is_address a _ = false

-- the local is set
abbrev pub is_set : ℕ → Use → Bool
is_set n (one.Set m) = m == n
is_set n _ = false

abbrev pub is_return : Use → Bool
is_return one.Return = true
is_return _ = false

-- the variable that it mentions or sets
abbrev pub variable_of : Use → List Addr
variable_of (one.Local k) = addr.Local k ∷ []
variable_of (one.Global k) = addr.Word (obj.Global k) 0 ∷ []
variable_of (one.Set k) = addr.Local k ∷ []
variable_of _ = []

-- the function that it calls
abbrev pub callee_of : Use → List ℕ
callee_of (one.Call f) = f ∷ []
callee_of _ = []

abbrev pub callees : List Use → List ℕ
callees = flat_map callee_of
