-- The chunks of an execution that are pending.
use Rattle.std.specs.Prelude.{ℕ, ◌-◌, List, ◌++◌, Result, Ok, Err, ℤ}
use Rattle.std.specs.Int.{div_ceil}
use Rattle.al_core.specs.declared.values.Trap.{Trap}
use Rattle.al_core.specs.Lockstep.{up_from}
use Rattle.al_core.specs.Values.{trips}
use Rattle.al_plan.specs.declared.plan.PlanFault.{PlanFault}
use Rattle.al_plan.specs.declared.plan.PlanFault.TheVariants as fault

-- those that ran and were not committed, and then those that did not run yet, up to the last
abbrev pub pending : List ℕ → ℕ → ℕ → List ℕ
pending again fresh count = again ++ up_from (count - fresh) fresh

abbrev pub chunks_of : ℕ → Result ℕ Trap → Result (List ℕ) PlanFault
chunks_of factor (Ok n) = Ok (up_from (div_ceil n factor) 0)
chunks_of factor (Err t) = Err fault.Trips

-- all chunks of a loop from its start to below its bound, where a chunk has so many iterations
abbrev pub planned : ℤ → ℤ → ℕ → Result (List ℕ) PlanFault
planned lo hi factor = chunks_of factor (trips lo hi)
