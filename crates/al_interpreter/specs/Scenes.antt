-- What the parts of a tree do where a walker walks it.
use Rattle.std.specs.Prelude.{ℕ, List, Option, Some, None, ℤ}
use Rattle.al_core.specs.declared.typed_tree.TExpr.{TExpr}
use Rattle.al_core.specs.declared.typed_tree.TPlace.{TPlace}
use Rattle.al_core.specs.declared.typed_tree.TStmt.{TStmt}
use Rattle.al_core.specs.declared.typed_tree.TKind.{TKind}
use Rattle.al_core.specs.declared.values.Val.{Val}
use Rattle.al_core.specs.World.{Pointer, World}
use Rattle.al_core.specs.Action.{Act, At, pure}
use Rattle.al_core.specs.Loops.{start_of, bound_of}
use Rattle.al_core.specs.Meaning as meaning
use Rattle.al_core.specs.Meaning.{Flow, Next, Where}
use Rattle.al_interpreter.specs.declared.setting.Setting.{Setting}
use Rattle.al_interpreter.specs.declared.walker.Walker.{Walker}

-- a world, whether code stands outside or inside iterations, an input, and what calls do
pub record Scene (S : Type 0) : Type 0 where
  pub world : World S
  pub here : Where
  pub input : List ℤ
  pub call : ℕ → List Val → At S Val

-- The scene of a walker: the world and the place are those of what its code runs on.
abbrev pub scene : {S C : Type 0} → (Setting → World S) → Where → (C → Setting → ℕ → List Val → At S Val) → Walker C
    → Scene S
scene world here does w =
    record { world = world w.on.now; here = here; input = w.on.now.input.now; call = does w.calls w.on.now }

-- a statement that may be absent
abbrev pub if_any : {S : Type 0} → (TStmt → Act S Flow) → Option TStmt → Act S Flow
if_any does (Some s) = does s
if_any does None = pure Next

module _ {S : Type 0} (x : Scene S) where
  abbrev pub value : TExpr → At S Val
  value = meaning.value x.world x.here x.input x.call

  abbrev pub place : TPlace → At S Pointer
  place = meaning.place x.world x.here x.input x.call

  abbrev pub values : List TExpr → At S (List Val)
  values = meaning.values x.world x.here x.input x.call

  abbrev pub test_value : Option TExpr → At S Val
  test_value = meaning.test_value x.world x.here x.input x.call

  -- the start of an annotated loop, of its first part
  abbrev pub start_value : Option TStmt → Option (ℕ × Act S Val)
  start_value first = meaning.start_value x.world x.here x.input x.call (start_of first)

  abbrev pub execute : TStmt → Act S Flow
  execute = meaning.execute x.world x.here x.input x.call

  abbrev pub execute_kind : TKind → At S Flow
  execute_kind = meaning.execute_kind x.world x.here x.input x.call

  abbrev pub execute_any : Option TStmt → Act S Flow
  execute_any = if_any execute

  abbrev pub execute_all : List TStmt → Act S Flow
  execute_all = meaning.execute_all x.world x.here x.input x.call

  -- an annotated loop of these parts
  abbrev pub annotated_loop : ℕ → ℕ → Option TStmt → Option TExpr → TStmt → Act S Flow
  annotated_loop number line first test body =
      meaning.annotated_loop x.world x.here number line (start_value first) (bound_of test) (execute body)
