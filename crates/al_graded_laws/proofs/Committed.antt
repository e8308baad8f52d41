-- Outcomes give values with the sizes of their types, and laid over a memory keep them.
use Rattle.std.proofs.Common.{◌≡◌, ℕ, List, [], ◌∷◌, map, Option, Some, None, Bool, true, false, refl, sym, ap, ◌∙◌, w64, FitsSigned}
use Rattle.std.specs.Prelude.{ℤ, slice_get, if◌then◌else◌}
use Rattle.std.specs.List.{AllByRecursion}
use Rattle.std.specs.FinMap as fin
use Rattle.std.specs.FinSet as set
use Rattle.al_core.specs.declared.choices.Red.{Red}
use Rattle.al_core.specs.declared.values.Obj.{Obj}
use Rattle.al_core.specs.declared.values.Val.{Val}
use Rattle.al_core.specs.declared.values.Val.TheVariants.{Int, Ptr}
use Rattle.al_core.specs.declared.values.Addr.{Addr}
use Rattle.al_core.specs.declared.values.Addr.TheVariants.{Word, Head, Local}
use Rattle.al_core.specs.Orders.{obj_cmp, addr_cmp, obj_eq}
use Rattle.al_core.specs.Reductions.{red_apply}
use Rattle.al_core.specs.Memory.{Memory, word_in, value_at, put}
use Rattle.al_core.specs.Access.{AccessRecord}
use Rattle.al_core.specs.Iteration.{Finished}
use Rattle.al_core.specs.Chunk.{Outcome, sum_of, writes_of, made_objects, outcome_of, outcome, chunk_runs, chunk_from}
use Rattle.al_core.specs.Readiness.{IsVal, HasValues}
use Rattle.al_core.specs.Applied.{with_writes, with_made, without_freed, with_sum, with_sums, applied}
use Rattle.al_laws.proofs.Words.{some_none}
use Rattle.al_laws.proofs.Joining.{stays_in_range}
use Rattle.al_laws.specs.PrivateMemories.{is_among}
use Rattle.al_laws.proofs.Stays.{get_put}
use Rattle.al_laws.proofs.Overlay.{over, written_words, written_locals, get_with_made, locals_with_made, get_written, get_made_objects, get_without_freed, locals_without_freed}
use Rattle.al_graded_laws.specs.InRange.{AreSums}
use Rattle.al_graded_laws.specs.Commits.{GivesValues, OutcomesGiveValues, CommitsKeepValues}
use Rattle.al_graded_laws.proofs.Steady.{fine_set}
use Rattle.al_graded_laws.proofs.Contents.{put_object}
use Rattle.al_graded_laws.proofs.Values.{sizes, zero_fits, fine_val, fine_objects, fine_locals, values_of, chunks_keep_values}

-- ---- an outcome laid over a memory

over_value : (x y : Option Val) (v : Val) → ((u : Val) → x ≡ Some u → IsVal u) → ((u : Val) → y ≡ Some u → IsVal u) → over x y ≡ Some v → IsVal v
over_value (Some u) (Some z) v f g e = f v e
over_value (Some u) None v f g e = absurd (some_none v (sym e))
over_value None y v f g e = g v e

made_value : (x y : Option (List Val)) (i : ℕ) (v : Val) → ((ws : List Val) → x ≡ Some ws → slice_get ws i ≡ Some v → IsVal v)
    → (word_in y i ≡ Some v → IsVal v)
    → word_in (elim x as (λ _. Option (List Val)) [ None ↦ y | Some ws ↦ Some ws ]) i ≡ Some v → IsVal v
made_value (Some ws) y i v f g e = f ws refl e
made_value None y i v f g e = g e

freed_value : (b : Bool) (y : Option (List Val)) (i : ℕ) (v : Val) → (word_in y i ≡ Some v → IsVal v) → word_in (if b then None else y) i ≡ Some v → IsVal v
freed_value true y i v g e = absurd (some_none v (sym e))
freed_value false y i v g e = g e

module _ (m : Memory) (o : Outcome) (h : HasValues m) (k : GivesValues o) where
  writes_values : HasValues (with_writes (fin.entries o.writes) m)
  writes_values (Word q i) v e =
      over_value (fin.get o.writes (Word q i)) (value_at m (Word q i)) v (k.writes (Word q i)) (h (Word q i))
      (ap (λ x. over x (value_at m (Word q i))) (fin.get-entries o.writes (Word q i)) ∙ sym
      (written_words (fin.entries o.writes) m q i (fin.entries_sorted o.writes)) ∙ e)
  writes_values (Head q) v e = absurd (some_none v (sym e))
  writes_values (Local j) v e =
      over_value (fin.get o.writes (Local j)) (value_at m (Local j)) v (k.writes (Local j)) (h (Local j))
      (ap (λ x. over x (value_at m (Local j))) (fin.get-entries o.writes (Local j)) ∙ sym
      (written_locals (fin.entries o.writes) m j (fin.entries_sorted o.writes)) ∙ e)

made_values : (m : Memory) (o : Outcome) → HasValues m → GivesValues o → HasValues (with_made (fin.entries o.made) m)
made_values m o h k (Word q i) v e =
    made_value (fin.get o.made q) (fin.get m.objects q) i v (λ ws t s. k.made q ws i v t s) (h (Word q i) v)
    (ap (λ x. word_in (elim x as (λ _. Option (List Val)) [ None ↦ fin.get m.objects q | Some ws ↦ Some ws ]) i) (fin.get-entries o.made q)
    ∙ ap (λ x. word_in x i) (sym (get_with_made (fin.entries o.made) m q (fin.entries_sorted o.made))) ∙ e)
made_values m o h k (Head q) v e = absurd (some_none v (sym e))
made_values m o h k (Local j) v e = h (Local j) v (ap (λ l. slice_get l j) (sym (locals_with_made (fin.entries o.made) m)) ∙ e)

freed_values : (m : Memory) (os : List Obj) → HasValues m → HasValues (without_freed os m)
freed_values m os h (Word q i) v e =
    freed_value (is_among os q) (fin.get m.objects q) i v (h (Word q i) v) (ap (λ x. word_in x i) (sym (get_without_freed os m q)) ∙ e)
freed_values m os h (Head q) v e = absurd (some_none v (sym e))
freed_values m os h (Local j) v e = h (Local j) v (ap (λ l. slice_get l j) (sym (locals_without_freed os m)) ∙ e)

put_values : (m : Memory) (a : Addr) (v : Val) → IsVal v → HasValues m → HasValues (put m a v)
put_values m (Word o w) v f h =
    values_of (put m (Word o w) v)
    (λ q ws e. put_object sizes zero_fits (obj_eq q o) (fin.get m.objects q) w v ws (fine_objects m h q) (fine_val v f) (sym (get_put m o w v q) ∙ e))
    (fine_locals m h)
put_values m (Head o) v f h = h
put_values m (Local j) v f h = values_of (put m (Local j) v) (fine_objects m h) (fine_set sizes m.locals j v (fine_val v f) (fine_locals m h))

sum_values : (r : Red) (n : ℤ) (m : Memory) (y : Option Val) → value_at m r.at ≡ y → FitsSigned w64 n → HasValues m → HasValues (with_sum r n m y)
sum_values r n m (Some (Int old)) e f h = put_values m r.at (Int (red_apply r.op old n)) (stays_in_range r.op old n (h r.at (Int old) e) f) h
sum_values r n m (Some (Ptr o w)) e f h = h
sum_values r n m None e f h = h

sums_values : (rs : List Red) (ns : List ℤ) (m : Memory) → AllByRecursion (λ n. FitsSigned w64 n) ns → HasValues m → HasValues (with_sums rs ns m)
sums_values [] ns m f h = h
sums_values (r ∷ rs) [] m f h = h
sums_values (r ∷ rs) (n ∷ ns) m f h = sums_values rs ns (with_sum r n m (value_at m r.at)) f.1 (sum_values r n m (value_at m r.at) refl f.0 h)

pub applied_values : (reds : List Red) (m : Memory) (o : Outcome) → HasValues m → GivesValues o → HasValues (applied reds m o)
unfolding applied
applied_values reds m o h k =
    sums_values reds o.accumulators _ k.sums (freed_values _ o.freed (made_values (with_writes (fin.entries o.writes) m) o (writes_values m o h k) k))

pub commits_keep_values : CommitsKeepValues
commits_keep_values reds [] m k h = h
commits_keep_values reds (o ∷ os) m k h = commits_keep_values reds os (applied reds m o) k.1 (applied_values reds m o h k.0)

-- ---- what a chunk gives

if_some : {A : Type 0} (b : Bool) (x : Option A) (v : A) → (if b then x else None) ≡ Some v → x ≡ Some v
if_some true x v e = e
if_some false x v e = absurd (some_none v (sym e))

sum_fits : (v : Val) → IsVal v → FitsSigned w64 (sum_of v)
sum_fits (Int n) h = h
sum_fits (Ptr o w) h = zero_fits

sums_fit : (l : List Val) → AllByRecursion IsVal l → AllByRecursion (λ n. FitsSigned w64 n) (map sum_of l)
sums_fit [] h = tt
sums_fit (v ∷ l) h = (sum_fits v h.0, sums_fit l h.1)

gathered : (r : Finished) (z : Option AccessRecord) → HasValues r.content.memory → AreSums z → GivesValues (outcome_of r z)
gathered r (Some l) h s = record {
  writes =
      λ a v e. h a v (if_some (set.contains l.touched a) (value_at r.content.memory a) v
      (sym (get_written r.content.memory l.touched a) ∙ sym (fin.get-entries (writes_of r.content.memory l.touched) a) ∙ e));
  made = λ q ws w v e t.
      h (Word q w) v
      (ap (λ x. word_in x w) (if_some (set.contains l.made q) (fin.get r.content.memory.objects q) ws
      (sym (get_made_objects r.content.memory l.made q) ∙ sym (fin.get-entries (made_objects r.content.memory l.made) q) ∙ e)) ∙ t);
  sums = sums_fit l.accumulators s;
}
gathered r None h s = record {
  writes = λ a v e. absurd (some_none v (sym e ∙ fin.get-empty addr_cmp a));
  made = λ q ws w v e t. absurd (some_none ws (sym e ∙ fin.get-empty obj_cmp q));
  sums = tt;
}

pub outcomes_give_values : OutcomesGiveValues
unfolding outcome
outcomes_give_values x h reds m c v =
    let s = chunks_keep_values x h reds m c v in
    let r = chunk_runs x c (chunk_from x reds m c) in
    gathered r r.content.accesses s.memory s.sums
