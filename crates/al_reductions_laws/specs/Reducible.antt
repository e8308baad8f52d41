-- Memories on which a chunk of a loop with reductions may run.
use Rattle.std.specs.Prelude.{◌≡◌, ℕ, List, Some, All}
use Rattle.al_core.specs.declared.choices.Red.{Red}
use Rattle.al_core.specs.declared.values.Val.{Val}
use Rattle.al_core.specs.declared.values.Val.TheVariants.{Int}
use Rattle.al_core.specs.declared.values.Addr.{Addr}
use Rattle.al_core.specs.Memory.{Memory, value_at}
use Rattle.al_core.specs.Iteration.{Execution}
use Rattle.al_core.specs.Readiness.{LeadsTo, IsFresh, HasValues, IsReady}

-- what makes the accumulators of a chunk mean what its reduction variables mean
pub record IsReducible (x : Execution) (reds : List Red) (m : Memory) (c : ℕ) : Type 0 where
  pub fresh : IsFresh x m c
  pub values : HasValues m
  -- each reduction variable holds a number
  pub reductions : All (λ r. (n : _) × (value_at m r.at ≡ Some (Int n))) reds
  -- no pointer leads into the object of a reduction variable
  pub unaliased : (a : Addr) (v : Val) → value_at m a ≡ Some v → All (λ r. ¬ (LeadsTo v r)) reds

-- it is a part of readiness
abbrev pub reducible : {x : Execution} {reds : List Red} {m : Memory} {c : ℕ} → IsReady x reds m c
    → IsReducible x reds m c
reducible ready = record {
  fresh = ready.fresh;
  values = ready.values;
  reductions = ready.reductions;
  unaliased = ready.unaliased;
}
