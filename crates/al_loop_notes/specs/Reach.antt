-- Which functions the body of a loop reaches by calls.
use Rattle.std.specs.Prelude.{◌≡◌, ◌<◌, ◌+◌, ◌&&◌, ◌||◌, ℕ, Bool, true, false, List, [], ◌∷◌, map, length, Option, Some, slice_get, slice_set, slice_index_or}
use Rattle.std.specs.List.{list_any}
use Rattle.al_core.specs.declared.typed_tree.TStmt.{TStmt}
use Rattle.al_core.specs.declared.typed_tree.TFunc.{TFunc}
use Rattle.al_core.specs.declared.typed_tree.Typed.{Typed}
use Rattle.al_core.specs.declared.values.Addr.{Addr}
use Rattle.al_rules.specs.Bodies.{is_reached}
use Rattle.al_loop_notes.specs.declared.uses.Program.{Program}
use Rattle.al_loop_notes.specs.declared.uses.Use.{Use}
use Rattle.al_loop_notes.specs.Uses.{func_uses, callees, is_mention}

-- the uses are those of the program's functions
abbrev pub IsTold : Program → Type 0
IsTold program = program.uses.now ≡ map func_uses program.typed.now.funcs

-- the marks tell of each function whether the statement reaches it
pub record IsReach (typed : Typed) (s : TStmt) (marks : List Bool) : Type 0 where
  pub count : length marks ≡ length typed.funcs
  pub each : (n : ℕ) → n < length typed.funcs → slice_index_or marks n false ≡ is_reached typed s n

abbrev pub calls_then : Option TFunc → Option Bool → List ℕ
calls_then (Some f) (Some false) = callees (func_uses f)
calls_then _ _ = []

-- the calls of a function that is not marked yet
abbrev pub new_calls : List TFunc → List Bool → ℕ → List ℕ
new_calls funcs marks n = calls_then (slice_get funcs n) (slice_get marks n)

abbrev pub mark_then : Option TFunc → Option Bool → List Bool → ℕ → List Bool
mark_then (Some f) (Some false) marks n = slice_set marks n true
mark_then _ _ marks n = marks

-- the marks, with that of the function
abbrev pub marked : List TFunc → List Bool → ℕ → List Bool
marked funcs marks n = mark_then (slice_get funcs n) (slice_get marks n) marks n

-- whether the test holds of a place and the uses there, from this place on
abbrev pub any_uses_from : (ℕ → List Use → Bool) → ℕ → List (List Use) → Bool
any_uses_from test n [] = false
any_uses_from test n (us ∷ all) = test n us || any_uses_from test (n + 1) all

-- a function that the statement reaches mentions the variable
abbrev pub mentioned_from : Typed → TStmt → Addr → ℕ → List (List Use) → Bool
mentioned_from typed s a = any_uses_from (λ n us. is_reached typed s n && list_any (is_mention a) us)
