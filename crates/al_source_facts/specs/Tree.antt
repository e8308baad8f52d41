-- The typed tree of the small source, and the entries of its loops, by the order of its first loop.
use Rattle.std.specs.Prelude.{ℕ, List, [], ◌∷◌, Some, None, pos}
use Rattle.al_source.specs.declared.operators.BinOp.TheVariants as binary
use Rattle.al_source.specs.declared.texts.Piece.TheVariants as piece
use Rattle.al_source.specs.declared.annotations.CommitOrder.{CommitOrder}
use Rattle.al_core.specs.declared.choices.Bound.TheVariants as bound
use Rattle.al_core.specs.declared.choices.Choice.{Choice}
use Rattle.al_core.specs.declared.choices.LoopInfo.{LoopInfo}
use Rattle.al_core.specs.declared.typed_tree.TStmt.{TStmt}
use Rattle.al_core.specs.declared.typed_tree.TKind.{TKind}
use Rattle.al_core.specs.declared.typed_tree.TKind.TheOpen.{TKind-F}
use Rattle.al_core.specs.declared.typed_tree.TFunc.{TFunc}
use Rattle.al_core.specs.declared.typed_tree.TLocal.{TLocal}
use Rattle.al_core.specs.declared.typed_tree.TGlobal.{TGlobal}
use Rattle.al_core.specs.declared.typed_tree.TNote.{TNote}
use Rattle.al_core.specs.declared.typed_tree.Typed.{Typed}
use Rattle.al_core.specs.declared.values.Kind.TheVariants as kind
use Rattle.al_grammar.specs.Phrases.{Name}
use Rattle.al_rules.specs.declared.layout.Layout.{Layout}
use Rattle.al_runs_laws.specs.Small.{at, number, x, y, i, value, is, below, greater, sum, first_choice, second_choice, note}
use Rattle.al_source_facts.specs.Trees.{x_name, y_name, i_name, s_name}

abbrev pub layout : Layout
layout = record { structs = []; globals = 1 ∷ 1 ∷ [] }

abbrev pub from_zero : ℕ → TStmt
from_zero line = at line (TKind-F.SetLocal 0 (number 0))

abbrev pub next : ℕ → TStmt
next line = at line (TKind-F.UpdateLocal binary.Add 0 (number 1))

abbrev pub first_kind : TKind-F TKind TStmt
first_kind =
    TKind-F.Block (
    at 7 (TKind-F.If (is 0) (at 7 (TKind-F.Store x (number 1))) None)
    ∷ at 8 (TKind-F.If (is 1) (at 8 (TKind-F.Store y (value x))) None)
    ∷ at 9 (TKind-F.Print (piece.Number ∷ []) (i ∷ []))
    ∷ [])

abbrev pub second_kind : TKind-F TKind TStmt
second_kind = TKind-F.Block (at 12 (TKind-F.UpdateLocal binary.Add 1 i) ∷ at 13 (TKind-F.Store x greater) ∷ [])

-- a loop that counts the local 0 from 0 on
abbrev pub for_loop : ℕ → ℕ → ℕ → TKind-F TKind TStmt → TKind-F TKind TStmt
for_loop line n top body =
    TKind-F.For (Some (from_zero line)) (Some (below top)) (Some (next line)) (at line body) (Some n)

abbrev pub first_for : TKind-F TKind TStmt
first_for = for_loop 6 0 3 first_kind

abbrev pub second_for : TKind-F TKind TStmt
second_for = for_loop 11 1 9 second_kind

abbrev pub local : Name → TLocal
local name = record { name = name; kind = kind.Int }

abbrev pub main : TFunc
main = record {
  params = 0;
  locals = local i_name ∷ local s_name ∷ [];
  body =
      at 3 (TKind-F.SetLocal 0 (number 0)) ∷ at 4 (TKind-F.SetLocal 1 (number 0))
      ∷ at 6 first_for ∷ at 11 second_for
      ∷ at 14 (TKind-F.Return (Some sum)) ∷ [];
  line = 2;
}

abbrev pub global : Name → TGlobal
global name = record { name = name; words = 1; scalar = Some kind.Int; start = pos 0 }

-- RAW, and no reductions
abbrev pub first_own : CommitOrder → Choice
first_own o = record first_choice { order = o }

abbrev pub notes : CommitOrder → List TNote
notes o = note 6 (first_own o) ∷ note 11 second_choice ∷ []

abbrev pub tree : CommitOrder → Typed
tree o = record {
  globals = global x_name ∷ global y_name ∷ [];
  funcs = main ∷ [];
  main = 0;
  loops = notes o;
  nodes = 52;
}

-- ---- the entries of its loops

abbrev pub entry : ℕ → ℕ → ℕ → Choice → LoopInfo
entry n line top choice = record {
  number = n;
  func = 0;
  line = line;
  counter = 0;
  bound = bound.Number (pos top);
  first = 2;
  last = 2;
  own = choice;
}

abbrev pub entries : CommitOrder → List LoopInfo
entries o = entry 0 6 3 (first_own o) ∷ entry 1 11 9 second_choice ∷ []
