-- The world outside iterations, and how a loop is answered there.
use Rattle.std.specs.Prelude.{◌≡◌, ℕ, List, Option, Some, None, Ok, Err, ℤ, slice_get, slice_set}
use Rattle.std.specs.Int.{int_max}
use Rattle.al_core.specs.declared.choices.LoopInfo.{LoopInfo}
use Rattle.al_core.specs.declared.reports.Ending.{Ending}
use Rattle.al_core.specs.declared.reports.Ending.TheVariants as ending
use Rattle.al_core.specs.declared.values.Val.{Val}
use Rattle.al_core.specs.declared.values.Val.TheVariants.{Int}
use Rattle.al_core.specs.Access.{Content}
use Rattle.al_core.specs.Action.{Answer}
use Rattle.al_core.specs.Run.{Whole}
use Rattle.al_code.specs.declared.lowered.Code.{Code}
use Rattle.al_engine.specs.declared.counts.Counts.{Counts}
use Rattle.al_engine.specs.declared.world.Before.{Before}
use Rattle.al_engine.specs.Executions.{counts_of}

abbrev pub whole_of : Content → ℕ → Counts → Whole
whole_of c executions counts = record { content = c; executions = executions; counts = counts_of counts }

-- what the world had besides its memory
pub record IsBefore (b : Before) (w : Whole) : Type 0 where
  pub allocations : w.content.allocations ≡ b.names
  pub printed : w.content.printed ≡ b.printed
  pub accesses : w.content.accesses ≡ None
  pub executions : w.executions ≡ b.executions
  pub counts : w.counts ≡ counts_of b.counts

-- ---- answers

-- the locals that were left, or those of before
abbrev pub locals_or : List Val → Option (List Val) → List Val
locals_or old (Some locals) = locals
locals_or old None = old

-- the answer to a loop that ended so, and left these locals
abbrev pub answer_by : Ending → List Val → Option (List Val) → Answer (List Val)
answer_by ending.Done old left = Ok (locals_or old left)
answer_by (ending.Trap t line) old left = Err (t, line)

-- the loop's counter holds the greater of its start and its bound
abbrev pub HasCounter : LoopInfo → ℤ → ℤ → List Val → Type 0
HasCounter info lo hi locals = slice_set locals info.counter (Int (int_max lo hi)) ≡ locals

-- it is the code's loop of that number
pub record IsCounted (code : Code) (number : ℕ) (lo hi : ℤ) (locals : List Val) : Type 0 where
  pub info : LoopInfo
  pub has : slice_get code.loops number ≡ Some info
  pub counter : HasCounter info lo hi locals
