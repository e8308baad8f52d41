-- What no well-formed tree has.
use Rattle.std.specs.Prelude.{◌≡◌, ℕ, ◌≤◌, Bool, false, List, length, Option, Some, None, slice_get}
use Rattle.al_core.specs.declared.values.Kind.{Kind}
use Rattle.al_core.specs.declared.values.Kind.TheVariants.{Int}
use Rattle.al_core.specs.declared.typed_tree.TExpr.{TExpr}
use Rattle.al_core.specs.declared.typed_tree.TExpr.TheVariants as expr
use Rattle.al_core.specs.declared.typed_tree.TPlace.{TPlace}
use Rattle.al_core.specs.declared.typed_tree.TPlace.TheVariants as place
use Rattle.al_core.specs.declared.typed_tree.TKind.TheVariants as stmt
use Rattle.al_core.specs.declared.typed_tree.TLocal.{TLocal}
use Rattle.al_core.specs.declared.typed_tree.Typed.{Typed}
use Rattle.al_rules.specs.WellFormed.{fits, place_kind, formed_in}

-- a value of a local that the function has not
abbrev pub NoLocalOutOfRange : Type 0
NoLocalOutOfRange =
    (typed : Typed) (results : List (Option Kind)) (locals : List TLocal) (n : ℕ) (want : Kind) → length locals ≤ n
    → fits typed results locals (expr.Local n) want ≡ false

-- a place in a global that the program has not
abbrev pub NoGlobalOutOfRange : Type 0
NoGlobalOutOfRange =
    (typed : Typed) (results : List (Option Kind)) (locals : List TLocal) (n : ℕ) → length typed.globals ≤ n
    → (place_kind typed results locals (place.Global n)).formed ≡ false

-- the value of a function that gives none
abbrev pub NoValueOfNothing : Type 0
NoValueOfNothing =
    (typed : Typed) (results : List (Option Kind)) (locals : List TLocal) (f : ℕ) (xs : List TExpr) (want : Kind)
    → slice_get results f ≡ Some None → fits typed results locals (expr.Call f xs) want ≡ false

-- the value of what frees an object, which only a statement does
abbrev pub NoValueOfFree : Type 0
NoValueOfFree =
    (typed : Typed) (results : List (Option Kind)) (locals : List TLocal) (x : TExpr) (want : Kind)
    → fits typed results locals (expr.Free x) want ≡ false

-- a pointer that is stored in an integer local
abbrev pub NoPointerInInteger : Type 0
NoPointerInInteger =
    (typed : Typed) (results : List (Option Kind)) (locals : List TLocal) (result : Option Kind) (n : ℕ) (v : TLocal)
    (q : TPlace) (looped : Bool)
    → slice_get locals n ≡ Some v → v.kind ≡ Int
    → formed_in typed results locals result (stmt.SetLocal n (expr.Addr q)) looped ≡ false
