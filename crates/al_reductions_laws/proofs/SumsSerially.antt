-- Chunks with reductions have in common what makes rounds of them serial.
use Rattle.std.proofs.Common.{◌≡◌, ℕ, List, Option, Some, None, sym, ap, ◌∙◌, w64, FitsSigned}
use Rattle.std.specs.Prelude.{ℤ, pos, slice_get}
use Rattle.al_core.specs.declared.choices.Red.{Red}
use Rattle.al_core.specs.declared.values.Val.{Val}
use Rattle.al_core.specs.declared.values.Val.TheVariants.{Int, Ptr}
use Rattle.al_core.specs.declared.values.Addr.{Addr}
use Rattle.al_core.specs.Memory.{Memory, value_at}
use Rattle.al_core.specs.Access.{red_index}
use Rattle.al_core.specs.Iteration.{Execution}
use Rattle.al_core.specs.Readiness.{IsFresh}
use Rattle.al_laws.proofs.Naming.{others_stay_fresh}
use Rattle.al_graded_laws.specs.Rules.{Rules}
use Rattle.al_graded_laws.proofs.Graded.{Fine}
use Rattle.al_rounds_laws.specs.Serially.{Serially}
use Rattle.al_rounds_laws.proofs.Unread.{AreVariables, variables_unread}
use Rattle.al_reductions_laws.proofs.Sums.{apart}
use Rattle.al_reductions_laws.proofs.Joined.{AreApart, found_at}
use Rattle.al_reductions_laws.proofs.ChunkSums.{Obeyed, ExemptHere, IsReadyFor, runs_directly, values_after, numbers_after}

num_of : Option Val → ℤ
num_of (Some (Int n)) = n
num_of (Some (Ptr o w)) = pos 0
num_of None = pos 0

old_at : Memory → Option Red → ℤ
old_at m (Some r) = num_of (value_at m r.at)
old_at m None = pos 0

-- what each reduction variable is at the start
old_in : List Red → Memory → ℕ → ℤ
old_in reds m i = old_at m (slice_get reds i)

-- no object has a name that the chunk may give, every number has 64 bits, no pointer leads to a reduction variable, and
-- each of these is a number
pub record Ready (x : Execution) (reds : List Red) (c : ℕ) (m : Memory) : Type 0 where
  pub fresh : IsFresh x m c
  pub values : (a : Addr) (v : Val) → value_at m a ≡ Some v → Fine (apart reds) v
  pub numbers : (a : Addr) (i : ℕ) → red_index reds a ≡ Some i → (n : ℤ) × (value_at m a ≡ Some (Int n))

module _ (zero_fits : FitsSigned w64 (pos 0)) (x : Execution) (reds : List Red) (r : Rules) (variables : AreVariables reds) (differ : AreApart reds)
    (obeyed : (olds : ℕ → ℤ) → Obeyed zero_fits x reds olds r) (exempt : (olds : ℕ → ℤ) → ExemptHere zero_fits x reds olds r (obeyed olds)) where
  ready_for : (c : ℕ) (m : Memory) → Ready x reds c m → IsReadyFor zero_fits x reds (old_in reds m) r c m
  unfolding old_in old_at num_of
  ready_for c m k = record {
    fresh = k.fresh;
    values = k.values;
    numbers = λ a i e.
        let q = found_at reds a i e in
        let n = k.numbers a i e in
        n.1 ∙ ap (λ z. Some (Int z)) (sym (ap (old_at m) q.1 ∙ ap (λ z. num_of (value_at m z)) q.2 ∙ ap num_of n.1));
  }

  pub reds_serially : Serially x reds (Ready x reds)
  reds_serially = record {
    direct_run = λ c m k.
        let olds = old_in reds m in runs_directly zero_fits x reds olds r (obeyed olds) (exempt olds) differ c m (ready_for c m k);
    unread = variables_unread x reds variables;
    ready = λ c d m n k l.
        let olds = old_in reds m in
        record {
          fresh = others_stay_fresh x reds m c d n l.fresh;
          values = values_after zero_fits x reds olds r (obeyed olds) (exempt olds) differ c m (ready_for c m k);
          numbers = numbers_after zero_fits x reds olds r (obeyed olds) (exempt olds) differ c m (ready_for c m k);
        };
  }
