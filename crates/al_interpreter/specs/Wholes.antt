-- What runs in whole: an iteration of an annotated loop, and a program.
use Rattle.std.specs.Prelude.{ℕ, [], ℤ, slice_get}
use Rattle.al_source.specs.declared.limits.TheConstants.{ACTIVE_CALLS}
use Rattle.al_core.specs.declared.values.Val.{Val}
use Rattle.al_core.specs.declared.values.Val.TheVariants.{Int}
use Rattle.al_core.specs.declared.typed_tree.TStmt.{TStmt}
use Rattle.al_core.specs.World.{World}
use Rattle.al_core.specs.Action.{Act, pure, spend, set_local, ◌>>=◌, ◌>>◌}
use Rattle.al_core.specs.Meaning.{Where, execute}
use Rattle.al_core.specs.Iteration.{calls_within}
use Rattle.al_core.specs.Run.{line_of}
use Rattle.al_interpreter.specs.declared.setting.Setting.{Setting}
use Rattle.al_interpreter.specs.Calls.{call_within}

module _ {S : Type 0} (world : Setting → World S) (here : Where) (on : Setting) where
  -- what an iteration does in any world, at a value of the counter: one call is active in it
  abbrev pub iterates : ℕ → ℕ → TStmt → ℤ → Act S (Unit {0})
  iterates counter line body n =
      spend line
      >> (set_local (world on) counter (Int n) line
      >> (execute (world on) here on.input.now (call_within world here calls_within on) body >>= (λ flow. pure tt)))

  -- the call of `main`
  abbrev pub main_does : Act S Val
  main_does =
      call_within world here ACTIVE_CALLS on on.program.now.main []
      (line_of (slice_get on.program.now.funcs on.program.now.main))
