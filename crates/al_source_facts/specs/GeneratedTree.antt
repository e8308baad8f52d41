-- The typed tree of the generated program, and the entry of its loop.
use Rattle.std.specs.Prelude.{ℕ, List, [], ◌∷◌, Some, None, pos}
use Rattle.al_source.specs.declared.annotations.Policy.TheVariants as policy
use Rattle.al_source.specs.declared.annotations.CommitOrder.TheVariants as order
use Rattle.al_source.specs.declared.operators.BinOp.TheVariants as binary
use Rattle.al_source.specs.declared.operators.RedOp.TheVariants as red
use Rattle.al_core.specs.declared.choices.Bound.TheVariants as bound
use Rattle.al_core.specs.declared.choices.Choice.{Choice}
use Rattle.al_core.specs.declared.choices.LoopInfo.{LoopInfo}
use Rattle.al_core.specs.declared.typed_tree.TExpr.{TExpr}
use Rattle.al_core.specs.declared.typed_tree.TPlace.{TPlace}
use Rattle.al_core.specs.declared.typed_tree.TExpr.TheOpen.{TExpr-F, TPlace-F}
use Rattle.al_core.specs.declared.typed_tree.TExpr.TheViews.{roll-TExpr, roll-TPlace}
use Rattle.al_core.specs.declared.typed_tree.TStmt.{TStmt}
use Rattle.al_core.specs.declared.typed_tree.TKind.{TKind}
use Rattle.al_core.specs.declared.typed_tree.TKind.TheOpen.{TKind-F}
use Rattle.al_core.specs.declared.typed_tree.TFunc.{TFunc}
use Rattle.al_core.specs.declared.typed_tree.TLocal.{TLocal}
use Rattle.al_core.specs.declared.typed_tree.TNote.{TNote}
use Rattle.al_core.specs.declared.typed_tree.Typed.{Typed}
use Rattle.al_core.specs.declared.values.Addr.TheVariants.{Local}
use Rattle.al_core.specs.declared.values.Kind.TheVariants as kind
use Rattle.al_grammar.specs.Phrases.{Name}
use Rattle.al_rules.specs.declared.layout.Layout.{Layout}
use Rattle.al_runs_laws.specs.Small.{at, number}
use Rattle.al_source_facts.specs.Generated.{hist_name, n_name, s_name, i_name, k_name, slot_format, sum_format}

abbrev pub layout : Layout
layout = record { structs = []; globals = 16 ∷ [] }

-- the locals n, s, i and k, by their numbers
abbrev pub local : ℕ → TExpr
local k = roll-TExpr (TExpr-F.Local k)

abbrev pub less : TExpr → TExpr → TExpr
less a b = roll-TExpr (TExpr-F.Binary binary.Lt a b)

abbrev pub input : TExpr
input = roll-TExpr (TExpr-F.Input (local 2))

abbrev pub place : TExpr → TPlace
place n = roll-TPlace (TPlace-F.Elem (roll-TPlace (TPlace-F.Global 0)) n 1)

abbrev pub slot : TPlace
slot = place (roll-TExpr (TExpr-F.Binary binary.Rem input (number 16)))

abbrev pub counts : TKind-F TKind TStmt
counts = TKind-F.UpdateAt binary.Add slot (number 1)

abbrev pub sums : TKind-F TKind TStmt
sums = TKind-F.UpdateLocal binary.Add 1 input

abbrev pub body : TKind-F TKind TStmt
body = TKind-F.Block (at 7 counts ∷ at 8 sums ∷ [])

abbrev pub sets : ℕ → TExpr → TKind-F TKind TStmt
sets k e = TKind-F.SetLocal k e

abbrev pub next : ℕ → TKind-F TKind TStmt
next k = TKind-F.UpdateLocal binary.Add k (number 1)

abbrev pub loop : TKind-F TKind TStmt
loop =
    TKind-F.For
    (Some (at 6 (sets 2 (number 0))))
    (Some (less (local 2) (local 0)))
    (Some (at 6 (next 2)))
    (at 6 body)
    (Some 0)

abbrev pub slot_value : TExpr
slot_value = roll-TExpr (TExpr-F.Load kind.Int (place (local 3)))

abbrev pub print_slot : TKind-F TKind TStmt
print_slot = TKind-F.Print slot_format (slot_value ∷ [])

abbrev pub prints : TKind-F TKind TStmt
prints =
    TKind-F.For
    (Some (at 10 (sets 3 (number 0))))
    (Some (less (local 3) (number 16)))
    (Some (at 10 (next 3)))
    (at 10 print_slot)
    None

abbrev pub print_sum : TKind-F TKind TStmt
print_sum = TKind-F.Print sum_format (local 1 ∷ [])

abbrev pub named : Name → TLocal
named name = record { name = name; kind = kind.Int }

abbrev pub inputs : TExpr
inputs = roll-TExpr TExpr-F.Inputs

abbrev pub main : TFunc
main = record {
  params = 0;
  locals = named n_name ∷ named s_name ∷ named i_name ∷ named k_name ∷ [];
  body =
      at 3 (sets 0 inputs) ∷ at 4 (sets 1 (number 0)) ∷ at 6 loop ∷ at 10 prints
      ∷ at 11 print_sum ∷ at 12 (TKind-F.Return (Some (number 0))) ∷ [];
  line = 2;
}

-- RAW out of order, with a sum
abbrev pub own : Choice
own = record {
  policy = policy.Raw;
  order = order.OutOfOrder;
  reds = record { op = red.Add; at = Local 1 } ∷ [];
  line = 1;
}

abbrev pub note : TNote
note = record { func = 0; line = 6; own = own; first = 3; last = 3 }

abbrev pub tree : Typed
tree = record {
  globals = record { name = hist_name; words = 16; scalar = None; start = pos 0 } ∷ [];
  funcs = main ∷ [];
  main = 0;
  loops = note ∷ [];
  nodes = 43;
}

abbrev pub entries : List LoopInfo
entries =
    record {
      number = 0;
      func = 0;
      line = 6;
      counter = 2;
      bound = bound.Local 0;
      first = 3;
      last = 3;
      own = own;
    } ∷ []
