-- Code that is written in front of what is there.
use Rattle.std.specs.Prelude.{ℕ, ◌-◌, List, [], ◌∷◌, length, ◌++◌, Option, Some, None, slice_set}
use Rattle.al_core.specs.declared.typed_tree.TExpr.{TExpr}
use Rattle.al_core.specs.declared.typed_tree.TFunc.{TFunc}
use Rattle.al_core.specs.declared.typed_tree.TStmt.{TStmt}
use Rattle.al_code.specs.declared.instructions.Instr.TheVariants as i
use Rattle.al_code_laws.specs.declared.plan.Op.TheVariants.{As, JumpTo}
use Rattle.al_code_laws.specs.Planned.{planned, Plan, Emit, nothing, ◌⨟◌}
use Rattle.al_code_laws.specs.Tree.{Ended, if_code, when_code, test_code, stmt_code, function_code}

unfoldable pub emits : Emit → Plan → Plan
emits c old = c (length old) ++ old

-- a part that may be absent
abbrev pub part_code : Option TStmt → Ended
part_code (Some s) out cont = stmt_code s out cont
part_code None out cont = nothing

abbrev pub either_code : ℕ → TStmt → Option TStmt → Ended
either_code line a (Some b) out cont = if_code line (stmt_code a out cont) (stmt_code b out cont)
either_code line a None out cont = when_code line (stmt_code a out cont)

-- The jump at a loop's end is written first, as a jump to nowhere, and then led to the loop's head.
abbrev pub led_to : ℕ → ℕ → Plan → Plan
led_to line end all = slice_set all (length all - 1 - end) (planned (JumpTo (length all)) line 0)

abbrev pub headed : ℕ → Option TExpr → ℕ → Plan → Plan
headed line test end old = led_to line end (planned (As i.Step) line 0 ∷ emits (test_code test line end) old)

-- functions in order
abbrev pub program_code : List TFunc → Emit
program_code [] = nothing
program_code (f ∷ fs) = function_code f ⨟ program_code fs
