-- A chunk without reductions is the direct run of its iterations.
use Rattle.std.proofs.Common.{map, ◌≡◌, ℕ, zero, suc, ◌+◌, ◌-◌, ◌<◌, ◌≤◌, List, [], refl, sym, ap, subst, ◌∙◌, arith}
use Rattle.std.specs.FinMap as fin
use Rattle.std.specs.FinSet as set
use Rattle.std.specs.FinSet.{contains-empty}
use Rattle.std.proofs.Math.Bool.{true≢false}
use Rattle.al_core.specs.declared.reports.Ending.{Ending}
use Rattle.al_core.specs.declared.reports.Ending.TheVariants as ending
use Rattle.al_core.specs.Orders.{obj_cmp}
use Rattle.al_core.specs.Memory.{Memory}
use Rattle.al_core.specs.declared.choices.Red.{Red}
use Rattle.al_core.specs.Access.{Allocations, Content, in_iteration}
use Rattle.al_core.specs.Iteration.{Execution, Finished, ending_of, iteration, iteration_from, then_by, then_runs, iterations}
use Rattle.al_core.specs.Chunk.{chunk_start, chunk_end, chunk_trips, chunk_runs, chunk_from, fresh_accesses, sum_of, outcome_of, outcome}
use Rattle.al_core.specs.Readiness.{IsFresh}
use Rattle.al_core.specs.Applied.{with_sums, applied}
use Rattle.al_core.specs.Serial.{direct}
use Rattle.al_laws.specs.Recording.{without_log, HasNoReds}
use Rattle.al_laws.specs.DirectRuns.{RunsAs, ChunkIsDirectRun}
use Rattle.al_laws.specs.PrivateMemories.{HasPrivateMemory, ChunkKeeps, AppliedIsPrivate}
use Rattle.al_laws.proofs.Agree.{Agree, agree_closed}
use Rattle.al_laws.proofs.Recording.{Recorded, Good, recorded_kept}
use Rattle.al_laws.proofs.Keeps.{of_iteration, iterations_hold}
use Rattle.al_laws.proofs.Stays.{same_itself, Stays, stays}
use Rattle.al_laws.proofs.Laid.{none_of, whole_memory}

-- ---- with a record and without it

record SameRun (r q : Finished) : Type 0 where
  pub ending : r.ending ≡ q.ending
  pub steps : r.steps ≡ q.steps
  pub content : without_log r.content ≡ q.content
  pub logged : HasNoReds r.content.accesses

same_iteration : (x : Execution) (j : ℕ) (c : Content) → HasNoReds c.accesses → SameRun (iteration x j c) (iteration x j (without_log c))
unfolding iteration
same_iteration x j c h =
    let r = (of_iteration (λ A. Agree Recorded Good {A = A}) (agree_closed Recorded Good in_iteration in_iteration recorded_kept) x j).by
    (iteration_from x j c) (iteration_from x j (without_log c)) (record {
      frame = refl;
      budget = refl;
      world = record { same = refl; logged = h };
    }) tt in
    record { ending = ap ending_of r.answer; steps = ap (λ b. x.iter_steps - b) r.state.budget; content = r.state.world.same; logged = r.state.world.logged }

then_same : (r q : Finished) (f : Content → Finished) → SameRun r q → ((c : Content) → HasNoReds c.accesses → SameRun (f c) (f (without_log c)))
    → (e : Ending) → SameRun (then_by e r f) (then_by e q f)
then_same r q f s h ending.Done =
    let next = subst (λ z. SameRun (f r.content) (f z)) s.content (h r.content s.logged) in
    record { ending = next.ending; steps = λ t. s.steps t + next.steps t; content = next.content; logged = next.logged }
then_same r q f s h (ending.Trap t line) = s

both_then : (r q : Finished) (f : Content → Finished) → SameRun r q → ((c : Content) → HasNoReds c.accesses → SameRun (f c) (f (without_log c)))
    → SameRun (then_runs r f) (then_runs q f)
both_then r q f s h = subst (λ e. SameRun (then_runs r f) (then_by e q f)) s.ending (then_same r q f s h r.ending)

same_iterations : (x : Execution) (n j : ℕ) (c : Content) → HasNoReds c.accesses → SameRun (iterations x n j c) (iterations x n j (without_log c))
same_iterations x zero j c h = record { ending = refl; steps = refl; content = refl; logged = h }
same_iterations x (suc n) j c h =
    both_then (iteration x j c) (iteration x j (without_log c)) (iterations x n (suc j)) (same_iteration x j c h) (same_iterations x n (suc j))

-- ---- between iterations

module _ (m : Memory) (x : Execution) (first last : ℕ) where
  abbrev Holds : Content → Type 0
  Holds = HasPrivateMemory m x.number first last

  starts : (j : ℕ) (c : Content) → first ≤ j → j < last → Holds c → Stays m x.number first last (iteration_from x j c).world
  starts j c f l b = record { accesses = b.accesses; is = b.is; private = b.private; names = λ k. (refl, f, l) }

  ends : (c : Content) → Stays m x.number first last c → Holds c
  ends c s = record { accesses = s.accesses; is = s.is; private = s.private }

  pub iterations_keep : (n j : ℕ) (c : Content) → first ≤ j → n ≤ last - j → Holds c → Holds (iterations x n j c).content
  iterations_keep = iterations_hold Holds (Stays m x.number first last) (stays m x.number first last) ends x first last starts

-- ---- the start

at_start : (x : Execution) (reds : List Red) (m : Memory) (c : ℕ) → IsFresh x m c
    → HasPrivateMemory m x.number (chunk_start x c) (chunk_end x c) (chunk_from x reds m c)
at_start x reds m c fresh = record {
  accesses = fresh_accesses reds;
  is = refl;
  private = record {
    fresh = λ o name. none_of (fin.get m.objects o) (fresh o name);
    named = λ o t. absurd (true≢false (sym t ∙ contains-empty obj_cmp o));
    headed = λ o t. absurd (true≢false (sym t ∙ contains-empty obj_cmp o));
    kept = λ o own freed. same_itself set.empty o (fin.get m.objects o);
    gone = λ o t. absurd (true≢false (sym t));
    locals_length = refl;
    locals = λ k t. refl;
  };
}

-- ---- the names with which iterations begin do not matter

record SameEnd (r q : Finished) : Type 0 where
  pub memory : r.content.memory ≡ q.content.memory
  pub printed : r.content.printed ≡ q.content.printed
  pub ending : r.ending ≡ q.ending
  pub steps : r.steps ≡ q.steps

any_allocations : (x : Execution) (n j : ℕ) (c : Content) (a b : Allocations)
    → SameEnd (iterations x n j (record c { allocations = a })) (iterations x n j (record c { allocations = b }))
unfolding iteration
any_allocations x zero j c a b = record { memory = refl; printed = refl; ending = refl; steps = refl }
any_allocations x (suc n) j c a b = record { memory = refl; printed = refl; ending = refl; steps = refl }

-- ---- the law

-- what a chunk leaves of the memory that it ran on, with any reductions
pub chunk_keeps : ChunkKeeps
chunk_keeps x reds m c fresh =
    iterations_keep m x (chunk_start x c) (chunk_end x c) (chunk_trips x c) (chunk_start x c) (chunk_from x reds m c) (omega arith) (omega arith)
    (at_start x reds m c fresh)

pub applied_is_private : AppliedIsPrivate
unfolding outcome applied
applied_is_private x reds m c fresh =
    let r = chunk_runs x c (chunk_from x reds m c) in
    let b = chunk_keeps x reds m c fresh in
    subst (λ l. applied reds m (outcome_of r l) ≡ with_sums reds (outcome_of r l).accumulators r.content.memory) (sym b.is)
    (ap (with_sums reds (map sum_of b.accesses.accumulators)) (whole_memory m x.number (chunk_start x c) (chunk_end x c) b.accesses r.content.memory b.private))

pub chunk_is_direct_run : ChunkIsDirectRun
unfolding outcome applied
chunk_is_direct_run x m c fresh =
    let r = chunk_runs x c (chunk_from x [] m c) in
    let same = same_iterations x (chunk_trips x c) (chunk_start x c) (chunk_from x [] m c) refl in
    let named = any_allocations x (chunk_trips x c) (chunk_start x c) (without_log (chunk_from x [] m c)) (chunk_from x [] m c).allocations
    (direct x m).allocations in
    let b = chunk_keeps x [] m c fresh in
    subst (λ l. RunsAs [] m (outcome_of r l) (chunk_runs x c (direct x m))) (sym b.is)
    (record {
      memory = whole_memory m x.number (chunk_start x c) (chunk_end x c) b.accesses r.content.memory b.private ∙ ap (λ d. d.memory) same.content ∙ named.memory;
      printed = ap (λ d. d.printed) same.content ∙ named.printed;
      ending = same.ending ∙ named.ending;
      steps = same.steps ∙ named.steps;
    })
