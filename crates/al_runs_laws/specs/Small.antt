-- A small program with two annotated loops: the chunks of the first depend on each other, and the second has two
-- reductions, into a local and into a global.
use Rattle.std.specs.Prelude.{ℕ, List, [], ◌∷◌, Option, Some, None, pos}
use Rattle.al_source.specs.declared.annotations.Policy.TheVariants as policy
use Rattle.al_source.specs.declared.annotations.CommitOrder.TheVariants as order
use Rattle.al_source.specs.declared.operators.BinOp.TheVariants as binary
use Rattle.al_source.specs.declared.operators.RedOp.TheVariants as red
use Rattle.al_source.specs.declared.texts.Piece.TheVariants as piece
use Rattle.al_core.specs.declared.choices.Choice.{Choice}
use Rattle.al_core.specs.declared.choices.Red.{Red}
use Rattle.al_core.specs.declared.typed_tree.TExpr.{TExpr}
use Rattle.al_core.specs.declared.typed_tree.TPlace.{TPlace}
use Rattle.al_core.specs.declared.typed_tree.TExpr.TheOpen.{TExpr-F, TPlace-F}
use Rattle.al_core.specs.declared.typed_tree.TExpr.TheViews.{roll-TExpr, roll-TPlace}
use Rattle.al_core.specs.declared.typed_tree.TKind.{TKind}
use Rattle.al_core.specs.declared.typed_tree.TKind.TheOpen.{TKind-F}
use Rattle.al_core.specs.declared.typed_tree.TStmt.{TStmt, roll-TStmt}
use Rattle.al_core.specs.declared.typed_tree.TKind.{roll-TKind}
use Rattle.al_core.specs.declared.typed_tree.TFunc.{TFunc}
use Rattle.al_core.specs.declared.typed_tree.TGlobal.{TGlobal}
use Rattle.al_core.specs.declared.typed_tree.TNote.{TNote}
use Rattle.al_core.specs.declared.typed_tree.Typed.{Typed}
use Rattle.al_core.specs.declared.values.Addr.TheVariants.{Word, Local}
use Rattle.al_core.specs.declared.values.Kind.TheVariants as kind
use Rattle.al_core.specs.declared.values.Obj.TheVariants.{Global}

abbrev pub at : ℕ → TKind-F TKind TStmt → TStmt
at line s = roll-TStmt (record { line = line; kind = roll-TKind s })

abbrev pub number : ℕ → TExpr
number n = roll-TExpr (TExpr-F.Number (pos n))

-- the globals 0 and 1, and the locals 0, which is the counter, and 1
abbrev pub x : TPlace
x = roll-TPlace (TPlace-F.Global 0)

abbrev pub y : TPlace
y = roll-TPlace (TPlace-F.Global 1)

abbrev pub i : TExpr
i = roll-TExpr (TExpr-F.Local 0)

abbrev pub value : TPlace → TExpr
value p = roll-TExpr (TExpr-F.Load kind.Int p)

abbrev pub from_zero : TStmt
from_zero = at 6 (TKind-F.SetLocal 0 (number 0))

abbrev pub below : ℕ → TExpr
below n = roll-TExpr (TExpr-F.Binary binary.Lt i (number n))

abbrev pub next : TStmt
next = at 6 (TKind-F.UpdateLocal binary.Add 0 (number 1))

abbrev pub is : ℕ → TExpr
is n = roll-TExpr (TExpr-F.Binary binary.Eq i (number n))

-- if (i == 0) x = 1; if (i == 1) y = x; printf("%ld", i);
abbrev pub first_body : TStmt
first_body =
    at 6 (TKind-F.Block (
    at 7 (TKind-F.If (is 0) (at 7 (TKind-F.Store x (number 1))) None)
    ∷ at 8 (TKind-F.If (is 1) (at 8 (TKind-F.Store y (value x))) None)
    ∷ at 9 (TKind-F.Print (piece.Number ∷ []) (i ∷ []))
    ∷ []
    ))

abbrev pub greater : TExpr
greater = roll-TExpr (TExpr-F.Choose red.Max (value x) i)

abbrev pub sum : TExpr
sum = roll-TExpr (TExpr-F.Local 1)

-- s += i; x = max(x, i);
abbrev pub second_body : TStmt
second_body =
    at 11 (TKind-F.Block (
    at 12 (TKind-F.UpdateLocal binary.Add 1 i)
    ∷ at 13 (TKind-F.Store x greater)
    ∷ []
    ))

abbrev pub small_reductions : List Red
small_reductions =
    record { op = red.Add; at = Local 1 } ∷ record { op = red.Max; at = Word (Global 0) 0 } ∷ []

abbrev pub first_choice : Choice
first_choice = record { policy = policy.Raw; order = order.OutOfOrder; reds = []; line = 1 }

abbrev pub second_choice : Choice
second_choice = record { policy = policy.Full; order = order.InOrder; reds = small_reductions; line = 1 }

abbrev pub main : TFunc
main = record {
  params = 0;
  locals = record { name = []; kind = kind.Int } ∷ record { name = []; kind = kind.Int } ∷ [];
  body =
      at 3 (TKind-F.SetLocal 0 (number 0)) ∷ at 4 (TKind-F.SetLocal 1 (number 0))
      ∷ at 6 (TKind-F.For (Some from_zero) (Some (below 3)) (Some next) first_body (Some 0))
      ∷ at 11 (TKind-F.For (Some from_zero) (Some (below 9)) (Some next) second_body (Some 1))
      ∷ at 14 (TKind-F.Return (Some sum)) ∷ [];
  line = 2;
}

abbrev pub note : ℕ → Choice → TNote
note line choice = record { func = 0; line = line; own = choice; first = 2; last = 2 }

abbrev pub global : TGlobal
global = record { name = []; words = 1; scalar = Some kind.Int; start = pos 0 }

abbrev pub small : Typed
small = record {
  globals = global ∷ global ∷ [];
  funcs = main ∷ [];
  main = 0;
  loops = note 6 first_choice ∷ note 11 second_choice ∷ [];
  nodes = 40;
}

abbrev pub small_choices : List (Option Choice)
small_choices = Some first_choice ∷ Some second_choice ∷ []
