-- Code that shows what is planned for a typed tree.
use Rattle.std.specs.Prelude.{◌≡◌, ℕ, length, Option, Some, None, option_map, slice_get}
use Rattle.al_core.specs.declared.choices.Bound.{Bound}
use Rattle.al_core.specs.declared.typed_tree.TFunc.{TFunc}
use Rattle.al_core.specs.declared.typed_tree.TStmt.{TStmt}
use Rattle.al_core.specs.declared.typed_tree.Typed.{Typed}
use Rattle.al_core.specs.Loops.{Loop, loop_at}
use Rattle.al_code.specs.declared.lowered.Entry.{Entry}
use Rattle.al_code.specs.declared.lowered.Code.{Code}
use Rattle.al_code_laws.specs.Planned.{past, place_of, Has}
use Rattle.al_code_laws.specs.Tree.{trips_code, stmt_code, function_code}

-- a function's code stands where its entry says
pub record Lies (code : Code) (f : TFunc) (e : Entry) : Type 0 where
  pub after : ℕ
  pub has : Has code after (function_code f after)
  pub starts : e.start ≡ place_of code (past (function_code f after) after)
  pub ends : e.end ≡ place_of code after
  pub params : e.params ≡ f.params
  pub locals : e.locals ≡ length f.locals

abbrev pub LiesAt : Code → Option TFunc → Option Entry → Type 0
LiesAt code (Some f) (Some e) = Lies code f e
LiesAt code None None = Unit {0}
LiesAt code _ _ = ⊥

-- the code of a loop's body stands where the code says that it does
pub record BodyLies (code : Code) (k : ℕ) (body : TStmt) : Type 0 where
  pub line : ℕ
  pub counter : ℕ
  pub bound : Bound
  pub after : ℕ
  pub has : Has code after (trips_code line k counter bound (stmt_code body) after)

pub record Laid (code : Code) (typed : Typed) : Type 0 where
  pub globals : code.globals ≡ typed.globals
  pub main : code.main ≡ typed.main
  pub funcs : (f : ℕ) → LiesAt code (slice_get typed.funcs f) (slice_get code.funcs f)
  pub loops : (k : ℕ) → slice_get code.loops k ≡ option_map (λ l. l.info) (loop_at typed k)
  pub bodies : (k : ℕ) (l : Loop) → loop_at typed k ≡ Some l → BodyLies code k l.body
