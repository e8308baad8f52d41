use Rattle.std.proofs.Common.{◌≡◌, ◌≤ℤ◌, ℕ, ◌+◌, ◌*◌, Option, max, drop}
use Rattle.std.specs.Option.{option_copied}
use Rattle.al_core.specs.declared.typed_tree.TStmt.{TStmt}
use Rattle.al_core.specs.declared.typed_tree.TKind.TheShapes.{weighed-TKind-If-2}
use Rattle.al_core.proofs.typed_tree.TStmt.TheLaws.{the_size}
use Rattle.al_core.specs.Meaning.{turns_to}
use Rattle.al_interpreter.specs.Scenes.{scene, test_value, execute, execute_any, execute_all}
use Rattle.al_interpreter.specs.Turns.{all_turns, loop_trips}
use Rattle.al_interpreter.proofs.Turning.{trips_from}
use Rattle.al_interpreter.proofs.walker.Walker.+blocks.Given as goal

abbrev pub invariant-statements-loop-s : goal.invariant-statements-loop-s
invariant-statements-loop-s g l =
    let x = scene g.C.On.Stage.world g.C.On.Stage.place g.C.Calls.does l.self in
    execute_all x l.ss l.fn.m ≡ execute_all x (drop l.s-index l.ss) l.m

abbrev pub invariant-trips-loop-n : goal.invariant-trips-loop-n
invariant-trips-loop-n g l =
    let x = scene g.C.On.Stage.world g.C.On.Stage.place g.C.Calls.does l.self in
    (l.range.lo ≤ℤ l.n) × (loop_trips x l.line l.range l.body l.fn.m
    ≡ trips_from x.world l.line l.range.counter l.range.lo l.range.hi (execute x l.body) l.n l.m)

abbrev pub invariant-turns-loop-left : goal.invariant-turns-loop-left
invariant-turns-loop-left g l =
    let x = scene g.C.On.Stage.world g.C.On.Stage.place g.C.Calls.does l.self in
    let test = option_copied l.test in
    all_turns x l.line test l.body l.third l.fn.m
    ≡ turns_to l.left l.line (test_value x test l.line) (execute x l.body) (execute_any x l.third) l.m

abbrev pub decreases-turns-loop-left : goal.decreases-turns-loop-left
decreases-turns-loop-left g l = l.left

-- ---- A call goes to a part, or to a function of a lower rank.

abbrev pub decreases-kind : goal.decreases-kind
decreases-kind g l = 16 * goal.size-kind g l + 6

abbrev pub decreases-stmt : goal.decreases-stmt
decreases-stmt g l = 16 * goal.size-stmt g l + 7

abbrev pub decreases-any : goal.decreases-any
decreases-any g l = 16 * goal.size-any g l + 8

abbrev pub decreases-statements : goal.decreases-statements
decreases-statements g l = 16 * goal.size-statements g l + 8

-- the deeper of a loop's body and its third part
abbrev deeper : TStmt → Option TStmt → ℕ
deeper body third = max (the_size body) (weighed-TKind-If-2.weight TStmt the_size third)

abbrev pub decreases-turn : goal.decreases-turn
decreases-turn g l = 16 * deeper l.body.now l.third.now + 9

abbrev pub decreases-turns : goal.decreases-turns
decreases-turns g l = 16 * deeper l.body.now l.third.now + 10

abbrev pub decreases-trips : goal.decreases-trips
decreases-trips g l = 16 * goal.size-trips g l + 9

abbrev pub decreases-ordinary : goal.decreases-ordinary
decreases-ordinary g l = 16 * goal.size-ordinary g l + 10

abbrev pub decreases-annotated : goal.decreases-annotated
decreases-annotated g l = 16 * goal.size-annotated g l + 11
