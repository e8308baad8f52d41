-- What comes of a chunk's run.
use Rattle.std.proofs.Common.{◌≡◌, ℕ, zero, suc, ◌<◌, List, [], Option, Some, None, refl, sym, ap, ◌∙◌, arith}
use Rattle.std.specs.Prelude.{if◌then◌else◌}
use Rattle.std.specs.FinMap as map
use Rattle.std.specs.FinSet as set
use Rattle.al_core.specs.declared.choices.Red.{Red}
use Rattle.al_core.specs.Orders.{obj_cmp, addr_cmp}
use Rattle.al_core.specs.Memory.{Memory, value_at}
use Rattle.al_core.specs.Access.{AccessRecord, Content, InIteration}
use Rattle.al_core.specs.Iteration.{Execution, Finished, iterations}
use Rattle.al_core.specs.Chunk.{Outcome, chunk_trips, chunk_start, chunk_from, fresh_accesses, outcome_of, outcome, writes_of, made_objects}
use Rattle.al_laws.proofs.Orders.{obj_total, obj_apart, addr_total, addr_apart}
use Rattle.al_laws.proofs.Overlay.{get_written, get_made_objects}
use Rattle.al_plain.specs.Outcomes.{or_fresh, outcome_from}

-- ---- with no record nothing is told

nothing_written : (m : Memory) → writes_of m set.empty ≡ map.empty
nothing_written m = map.same_map addr_total addr_apart (writes_of m set.empty) map.empty (λ q.
    map.get-entries (writes_of m set.empty) q ∙ get_written m set.empty q
    ∙ ap (λ b. if b then value_at m q else None) (set.contains-empty addr_cmp q) ∙ sym (map.get-empty addr_cmp q))

nothing_made : (m : Memory) → made_objects m set.empty ≡ map.empty
nothing_made m = map.same_map obj_total obj_apart (made_objects m set.empty) map.empty (λ q.
    map.get-entries (made_objects m set.empty) q ∙ get_made_objects m set.empty q
    ∙ ap (λ b. if b then map.get m.objects q else None) (set.contains-empty obj_cmp q) ∙ sym (map.get-empty obj_cmp q))

pub outcome_told : (r : Finished) (x : Option AccessRecord) → outcome_from (or_fresh x) r.content.memory r.content.printed r.ending r.steps ≡ outcome_of r x
outcome_told r (Some a) = refl
outcome_told r None = λ t. record {
  reads = set.empty;
  touched = set.empty;
  writes = nothing_written r.content.memory t;
  made = nothing_made r.content.memory t;
  freed = [];
  accumulators = [];
  printed = r.content.printed;
  ending = r.ending;
  steps = r.steps;
}

-- ---- the names that a chunk starts with do not matter

module _ (x : Execution) (reds : List Red) (m : Memory) where
  abbrev pub from_iteration : ℕ → Content
  from_iteration j =
      record {
        memory = m;
        allocations = record { allocator = InIteration x.number j; next = 0; words = 0 };
        printed = [];
        accesses = Some (fresh_accesses reds);
      }

  abbrev of_run : Finished → Outcome
  of_run r = outcome_of r r.content.accesses

  pub same_outcome : (c count first : ℕ) → count ≡ chunk_trips x c → (0 < count → first ≡ chunk_start x c)
      → of_run (iterations x count first (from_iteration first)) ≡ outcome x reds m c
  unfolding outcome
  same_outcome c zero first e f = ap (λ n. of_run (iterations x n (chunk_start x c) (chunk_from x reds m c))) e
  same_outcome c (suc n) first e f =
      ap (λ j. of_run (iterations x (suc n) j (from_iteration j))) (f (omega arith))
      ∙ ap (λ n. of_run (iterations x n (chunk_start x c) (chunk_from x reds m c))) e
