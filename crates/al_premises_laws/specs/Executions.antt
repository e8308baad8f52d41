-- Executions of the two loops of a small program, and memories in which they run.
use Rattle.std.specs.Prelude.{ℕ, List, [], ◌∷◌, Option, Some, ℤ, pos}
use Rattle.std.specs.FinMap as map
use Rattle.al_source.specs.declared.annotations.Policy.TheVariants as policy
use Rattle.al_source.specs.declared.annotations.CommitOrder.TheVariants as order
use Rattle.al_core.specs.declared.choices.Bound.TheVariants as bound
use Rattle.al_core.specs.declared.choices.Choice.{Choice}
use Rattle.al_core.specs.declared.choices.Knobs.{Knobs}
use Rattle.al_core.specs.declared.choices.LoopInfo.{LoopInfo}
use Rattle.al_core.specs.declared.typed_tree.TExpr.{TExpr}
use Rattle.al_core.specs.declared.typed_tree.TExpr.TheOpen.{TExpr-F}
use Rattle.al_core.specs.declared.typed_tree.TExpr.TheViews.{roll-TExpr}
use Rattle.al_core.specs.declared.typed_tree.TKind.TheOpen.{TKind-F}
use Rattle.al_core.specs.declared.typed_tree.TStmt.{TStmt}
use Rattle.al_core.specs.declared.values.Obj.TheVariants.{Global, Serial}
use Rattle.al_core.specs.declared.values.Val.TheVariants.{Int, Ptr}
use Rattle.al_core.specs.Memory.{Memory}
use Rattle.al_core.specs.Loops.{Loop}
use Rattle.al_core.specs.Iteration.{Execution}
use Rattle.al_core.specs.Run.{Setting, sizes_of}
use Rattle.al_core.specs.Report.{by_choices}
use Rattle.al_runs_laws.specs.Small.{small, at, number, first_body, second_body, first_choice, second_choice}

-- ---- the loops

abbrev pub info : ℕ → ℕ → ℕ → Choice → LoopInfo
info n line top choice = record {
  number = n;
  func = 0;
  line = line;
  counter = 0;
  bound = bound.Number (pos top);
  first = 2;
  last = 2;
  own = choice;
}

abbrev pub first_loop : Loop
first_loop = record { info = info 0 6 3 first_choice; locals = 2; body = first_body }

abbrev pub second_loop : Loop
second_loop = record { info = info 1 11 9 second_choice; locals = 2; body = second_body }

-- for (i = 0; i < 3; i += 1), in chunks of one iteration
abbrev pub first : Execution
first = record {
  typed = small;
  input = [];
  loop = first_loop;
  number = 0;
  lo = pos 0;
  trips = 3;
  factor = 1;
  iter_steps = 100;
}

-- for (i = 0; i < 9; i += 1), in chunks of two iterations, the last one of one
abbrev pub second : Execution
second = record {
  typed = small;
  input = [];
  loop = second_loop;
  number = 1;
  lo = pos 0;
  trips = 9;
  factor = 2;
  iter_steps = 100;
}

-- for (i = 0; i < 1; i += 1) { calloc(1, 8); free(p); }, where the local 1 is the pointer p
abbrev pub made : TExpr
made = roll-TExpr (TExpr-F.Calloc (number 1) 1)

abbrev pub freed : TExpr
freed = roll-TExpr (TExpr-F.Free (roll-TExpr (TExpr-F.Local 1)))

abbrev pub making_body : TStmt
making_body = at 16 (TKind-F.Block (at 17 (TKind-F.Call made) ∷ at 18 (TKind-F.Call freed) ∷ []))

abbrev pub making : Execution
making = record {
  typed = small;
  input = [];
  loop = record { info = info 2 16 1 first_choice; locals = 2; body = making_body };
  number = 2;
  lo = pos 0;
  trips = 1;
  factor = 1;
  iter_steps = 100;
}

-- ---- memories

-- the globals x and y, and the locals i and s
abbrev pub holding : ℤ → ℤ → ℤ → ℤ → Memory
holding x y i s = record {
  objects = map.insert (map.insert map.empty (Global 1) (Int y ∷ [])) (Global 0) (Int x ∷ []);
  locals = Int i ∷ Int s ∷ [];
}

-- before the first loop, and before the second one
abbrev pub at_first : Memory
at_first = holding (pos 0) (pos 0) (pos 0) (pos 0)

abbrev pub at_second : Memory
at_second = holding (pos 1) (pos 1) (pos 3) (pos 0)

-- another one, with other numbers in x and s alone
abbrev pub reduced : Memory
reduced = holding (pos 8) (pos 1) (pos 3) (pos 36)

-- with an object of one word, and the locals i and p, which leads to it
abbrev pub at_making : Memory
at_making = record {
  objects = map.insert map.empty (Serial 0) (Int (pos 7) ∷ []);
  locals = Int (pos 0) ∷ Ptr (Serial 0) 0 ∷ [];
}

-- ---- choices

-- the first loop under RAW in order, and under FULL out of order
abbrev pub raw_in_order : Choice
raw_in_order = record first_choice { order = order.InOrder }

abbrev pub full_out_of_order : Choice
full_out_of_order = record first_choice { policy = policy.Full }

abbrev pub ordered_choices : List (Option Choice)
ordered_choices = Some raw_in_order ∷ Some second_choice ∷ []

-- ---- settings

abbrev pub knobs : Knobs
knobs = record { lanes = 2; chunk = 2; threads = 2; line = 1; iter_steps = 100; serial_steps = 100 }

abbrev pub setting : List (Option Choice) → Setting
setting choices = record { typed = small; input = []; sizes = sizes_of knobs; modes = by_choices choices }

-- the entries of both loops
abbrev pub own_infos : List LoopInfo
own_infos = first_loop.info ∷ second_loop.info ∷ []

abbrev pub ordered_infos : List LoopInfo
ordered_infos = info 0 6 3 raw_in_order ∷ second_loop.info ∷ []
