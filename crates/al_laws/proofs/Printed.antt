-- Printed bytes are only appended to: an instance of the abstraction theorem.
use Rattle.std.proofs.Common.{ℕ, ◌+◌, List, [], ◌∷◌, ◌++◌, Option, Some, None, Result, Ok, Err, Bool, true, false, sym, ap, ◌∙◌, append_assoc, append-nil, arith}
use Rattle.std.specs.Prelude.{ℤ, nat_lt}
use Rattle.al_core.specs.declared.values.Val.{Val}
use Rattle.al_core.specs.declared.values.Trap.{Trap}
use Rattle.al_core.specs.Values.{trips}
use Rattle.al_core.specs.Access.{Content, word_limit, make, print, in_iteration}
use Rattle.al_core.specs.Loops.{Loop, loop_at}
use Rattle.al_core.specs.Iteration.{Finished, then_by}
use Rattle.al_core.specs.Chunk.{chunk_start, chunk_trips, chunk_runs}
use Rattle.al_core.specs.declared.reports.Ending.{Ending}
use Rattle.al_core.specs.declared.reports.Ending.TheVariants as ending
use Rattle.al_core.specs.Serial.{chunks_run}
use Rattle.al_core.specs.Run.{Setting, Whole, if_trips, visit_loop, outside}
use Rattle.al_laws.specs.Iterations.{Continues, IterationsOnlyAppend, ChunksOnlyAppend, RunsOnlyAppend}
use Rattle.al_laws.proofs.Abstraction.{of_program}
use Rattle.al_laws.proofs.Keeps.{Keeps, KeepsOp, KeepsWorld, keeps_closed, iterations_hold}
use Rattle.al_laws.proofs.Stays.{limited}
use Rattle.al_laws.proofs.Operations.{Leaves, load_leaves, store_leaves, free_leaves}

continues_itself : (bytes : List ℕ) → Continues bytes bytes
continues_itself bytes = ([], sym (append-nil bytes))

continues_more : (before bytes more : List ℕ) → Continues before bytes → Continues before (bytes ++ more)
continues_more before bytes more h = (h.0 ++ more, ap (λ z. z ++ more) h.1 ∙ append_assoc before h.0 more)

-- what was printed before
module _ (before : List ℕ) where
  abbrev Holds : Content → Type 0
  Holds c = Continues before c.printed

  by_leaves : (c d : Content) → Leaves c d → Holds c → Holds d
  by_leaves c d l h = (h.0, l.printed ∙ h.1)

  limited_holds : (c : Content) (words : ℕ) (b : Bool) → Holds c → Holds (limited c b words).1
  limited_holds c words true h = h
  limited_holds c words false h = h

  make_keeps : (words : ℕ) → KeepsOp Holds (make words)
  unfolding make
  make_keeps words = record { by = λ c h. limited_holds c words (nat_lt (word_limit c.allocations.allocator) (c.allocations.words + words + 1)) h }

  print_keeps : (bytes : List ℕ) → KeepsOp Holds {A = Result (Unit {0}) Trap} (λ c. (Ok tt, print bytes c))
  unfolding print
  print_keeps bytes = record { by = λ c h. continues_more before c.printed bytes h }

  pub printed_kept : KeepsWorld Holds in_iteration
  printed_kept = record {
    load = λ a k. record { by = λ c h. by_leaves c _ (load_leaves a k c) h };
    store = λ a x. record { by = λ c h. by_leaves c _ (store_leaves a x c) h };
    make = make_keeps;
    free = λ o at. record { by = λ c h. by_leaves c _ (free_leaves o at c) h };
    print = print_keeps;
    visit = λ loop lo hi locals. record { by = λ c h. h };
  }

pub iterations_only_append : IterationsOnlyAppend
iterations_only_append x n j c =
    iterations_hold (Holds c.printed) (Holds c.printed) (printed_kept c.printed) (λ d h. h) x j (j + n) (λ i d f l h. h) n j c (omega arith) (omega arith)
    (continues_itself c.printed)

continues_on : (a b c : List ℕ) → Continues a b → Continues b c → Continues a c
continues_on a b c h k = (h.0 ++ k.0, k.1 ∙ ap (λ z. z ++ k.0) h.1 ∙ append_assoc a h.0 k.0)

then_appends : (r : Finished) (f : Content → Finished) → ((c : Content) → Continues c.printed (f c).content.printed) → (e : Ending)
    → Continues r.content.printed (then_by e r f).content.printed
then_appends r f h ending.Done = h r.content
then_appends r f h (ending.Trap t line) = continues_itself r.content.printed

pub chunks_only_append : ChunksOnlyAppend
chunks_only_append x [] c = continues_itself c.printed
chunks_only_append x (k ∷ ks) c =
    let r = chunk_runs x k c in
    continues_on c.printed r.content.printed _ (iterations_only_append x (chunk_trips x k) (chunk_start x k) c)
    (then_appends r (chunks_run x ks) (chunks_only_append x ks) r.ending)

-- ---- outside iterations

module _ (before : List ℕ) (g : Setting) where
  abbrev HoldsOutside : Whole → Type 0
  HoldsOutside w = Continues before w.content.printed

  trips_append : (l : Loop) (lo hi : ℤ) (locals : List Val) (w : Whole) (r : Result ℕ Trap) → HoldsOutside w → HoldsOutside (if_trips g l lo hi locals w r).1
  trips_append l lo hi locals w (Err t) h = h
  trips_append l lo hi locals w (Ok n) h = continues_more before w.content.printed _ h

  visit_appends : (lo hi : ℤ) (locals : List Val) (w : Whole) (l : Option Loop) → HoldsOutside w → HoldsOutside (visit_loop g lo hi locals w l).1
  visit_appends lo hi locals w (Some l) h = trips_append l lo hi locals w (trips lo hi) h
  visit_appends lo hi locals w None h = h

  outside_kept : KeepsWorld HoldsOutside (outside g)
  outside_kept =
      let k = printed_kept before in
      record {
        load = λ a want. record { by = λ w h. (k.load a want).by w.content h };
        store = λ a x. record { by = λ w h. (k.store a x).by w.content h };
        make = λ words. record { by = λ w h. (k.make words).by w.content h };
        free = λ o at. record { by = λ w h. (k.free o at).by w.content h };
        print = λ bytes. record { by = λ w h. (k.print bytes).by w.content h };
        visit = λ loop lo hi locals. record { by = λ w h. visit_appends lo hi locals w (loop_at g.typed loop) h };
      }

pub runs_only_append : RunsOnlyAppend
runs_only_append g here funcs input calls stmt s =
    let before = s.world.content.printed in
    (of_program (outside g) (outside g) (λ A. Keeps (HoldsOutside before g) {A = A})
    (keeps_closed (HoldsOutside before g) (outside g) (outside_kept before g)) here funcs input calls stmt).by s (continues_itself before)
