-- Annotated loops, as the code holds them.
use Rattle.std.specs.Prelude.{◌≡◌, ℕ, List, [], ◌∷◌, ◌++◌, map, Option, Some, None}
use Rattle.std.specs.Option.{option_copied}
use Rattle.al_core.specs.declared.typed_tree.TExpr.{TExpr}
use Rattle.al_core.specs.declared.typed_tree.TStmt.{TStmt}
use Rattle.al_core.specs.Loops as spec
use Rattle.al_core.specs.Loops.{for_loops}
use Rattle.al_core.specs.declared.for_loops.ForLoop.{ForLoop}
use Rattle.al_core.specs.declared.for_loops.PlacedLoop.{PlacedLoop}

-- what it is
abbrev pub loop_of : ForLoop → spec.ForLoop
loop_of l = record {
  number = l.number;
  first = option_copied l.first;
  test = option_copied l.test;
  third = option_copied l.third;
  body = l.body.now;
}

abbrev pub placed_of : PlacedLoop → spec.PlacedLoop
placed_of l = record { func = l.func.now; loop = loop_of l.parts }

-- loops that come after those that were there
abbrev pub Adds : List ForLoop → List ForLoop → List spec.ForLoop → Type 0
Adds old new more = map loop_of new ≡ map loop_of old ++ more

abbrev pub AddsPlaced : List PlacedLoop → List PlacedLoop → List spec.PlacedLoop → Type 0
AddsPlaced old new more = map placed_of new ≡ map placed_of old ++ more

-- the loop itself, where it is annotated
abbrev pub this_one : Option TStmt → Option TExpr → Option TStmt → TStmt → Option ℕ → List spec.ForLoop
this_one first test third body None = []
this_one first test third body (Some n) =
    record { number = n; first = first; test = test; third = third; body = body } ∷ []

abbrev pub part_loops : Option TStmt → List spec.ForLoop
part_loops None = []
part_loops (Some s) = for_loops s
