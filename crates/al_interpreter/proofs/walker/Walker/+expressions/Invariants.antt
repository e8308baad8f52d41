use Rattle.std.proofs.Common.{◌≡◌, drop}
use Rattle.al_interpreter.specs.Scenes.{scene, values}
use Rattle.al_interpreter.proofs.Lists.{values_from}
use Rattle.al_interpreter.proofs.walker.Walker.+expressions.Given as goal

abbrev pub invariant-values-loop-e : goal.invariant-values-loop-e
invariant-values-loop-e g l =
    let x = scene g.C.On.Stage.world g.C.On.Stage.place g.C.Calls.does l.self in
    values x l.es l.line l.fn.m ≡ values_from x.world x.here x.input x.call l.done (drop l.e-index l.es) l.line l.m
