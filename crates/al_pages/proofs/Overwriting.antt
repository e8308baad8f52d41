-- A word that is overwritten, or the reason why there is none.
use Rattle.std.proofs.Common.{◌≡◌, ℕ, zero, suc, ◌<◌, ◌≤◌, true, false, cond, List, [], ◌∷◌, length, Option, Some, None, is_some, Result, Ok, Err, slice_get, inl, inr, refl, sym, ap, ◌∙◌, arith}
use Rattle.std.specs.FinMap as map
use Rattle.std.specs.FinMap.{FinMap}
use Rattle.std.proofs.Math.Bool.{true≢false}
use Rattle.std.proofs.lemmas.Bool.{lt-ltb, le-ltb, cases_lt}
use Rattle.al_core.specs.declared.values.Obj.{Obj}
use Rattle.al_core.specs.declared.values.Val.{Val}
use Rattle.al_core.specs.declared.values.Addr.TheVariants.{Word}
use Rattle.al_core.specs.declared.values.Trap.{Trap}
use Rattle.al_core.specs.declared.values.Trap.TheVariants as trap
use Rattle.al_core.specs.Orders.{obj_cmp, obj_eq}
use Rattle.al_core.specs.Memory.{Memory, word_in, with_words}
use Rattle.al_laws.proofs.Orders.{obj_total, obj_apart, obj_equal}
use Rattle.al_heap.specs.Stores as heap
use Rattle.al_pages.specs.Tables.{Table, replaced, with_word, objects_of, object_at, set_object}
use Rattle.al_pages.proofs.Lookups.{get_object}
use Rattle.al_pages.proofs.Changes.{past_end, word_replaced}

some_within : (ws : List Val) (w : ℕ) → w < length ws → is_some (slice_get ws w) ≡ true
some_within [] w h = absurd (omega arith)
some_within (x ∷ ws) zero h = refl
some_within (x ∷ ws) (suc w) h = some_within ws w (omega arith)

none_past : (ws : List Val) (w : ℕ) → length ws ≤ w → slice_get ws w ≡ None
none_past [] w h = refl
none_past (x ∷ ws) zero h = absurd (omega arith)
none_past (x ∷ ws) (suc w) h = none_past ws w (omega arith)

module _ (objects : FinMap obj_cmp (List Val)) (locals : List Val) (o : Obj) (w : ℕ) (v : Val) where
  m : Memory
  m = record { objects = objects; locals = locals }

  after : Option (List Val) → Memory
  after s = record { objects = with_words objects o w v s; locals = locals }

  -- an object that is put in place of itself
  same_object : (ws : List Val) → map.get objects o ≡ Some ws → map.insert objects o ws ≡ objects
  same_object ws e = map.same_map obj_total obj_apart (map.insert objects o ws) objects (λ q.
      map.get-insert obj_total objects o ws q
      ∙ elim (obj_eq q o) as (λ b. obj_eq q o ≡ b → cond b (Some ws) (map.get objects q) ≡ map.get objects q) [
        | true ↦ λ t. sym (ap (map.get objects) (obj_equal q o t) ∙ e)
        | false ↦ λ _. refl
      ] refl)

  answered : Option Val → Result (Unit {0}) Trap
  answered x = (heap.replaced m (Word o w) v x).0

  left : Option Val → Memory
  left x = (heap.replaced m (Word o w) v x).1

  some_answer : (x : Option Val) → is_some x ≡ true → Ok tt ≡ answered x
  unfolding answered
  some_answer (Some x) h = refl
  some_answer None h = absurd (true≢false (sym h))

  some_left : (x : Option Val) → is_some x ≡ true → after (map.get objects o) ≡ left x
  unfolding after left m
  some_left (Some x) h = refl
  some_left None h = absurd (true≢false (sym h))

  none_answer : (s : Option (List Val)) → map.get objects o ≡ s
      → Err (cond (is_some s) trap.Bounds trap.Missing) ≡ answered None
  unfolding answered m
  none_answer s e = ap (λ x. Err (cond (is_some x) trap.Bounds trap.Missing)) (sym e)

  the_answer : (s : Option (List Val)) → map.get objects o ≡ s → replaced s w ≡ answered (word_in s w)
  the_answer None e = none_answer None e
  the_answer (Some ws) e = elim (cases_lt w (length ws)) [
    | inl within ↦
        ap (λ b. cond b (Ok tt) (Err trap.Bounds)) (lt-ltb w (length ws) within)
        ∙ some_answer (slice_get ws w) (some_within ws w within)
    | inr past ↦
        ap (λ b. cond b (Ok tt) (Err trap.Bounds)) (le-ltb w (length ws) past)
        ∙ none_answer (Some ws) e
        ∙ ap answered (sym (none_past ws w past))
  ]

  the_memory : (s : Option (List Val)) → map.get objects o ≡ s → after s ≡ left (word_in s w)
  unfolding after left m
  the_memory None e = refl
  the_memory (Some ws) e = elim (cases_lt w (length ws)) [
    | inl within ↦ ap after (sym e) ∙ some_left (slice_get ws w) (some_within ws w within)
    | inr past ↦
        (λ t. record {
          objects = (ap (map.insert objects o) (past_end ws w v past) ∙ same_object ws e) t;
          locals = locals;
        })
        ∙ ap left (sym (none_past ws w past))
  ]

  both : (s : Option (List Val)) → map.get objects o ≡ s → (new : FinMap obj_cmp (List Val)) → new ≡ with_words objects o w v s
      → (r : Result (Unit {0}) Trap) → r ≡ replaced s w
      → ◌≡◌ {A = Result (Unit {0}) Trap × Memory} (r, record { objects = new; locals = locals })
      (heap.replaced (record { objects = objects; locals = locals }) (Word o w) v (word_in s w))
  unfolding after left m answered
  both s e new f r g = λ t. (
    (g ∙ the_answer s e) t,
    ((λ z. record { objects = f z; locals = locals }) ∙ the_memory s e) t,
  )

pub overwritten_in : (t u : Table) (locals : List Val) (o : Obj) (w : ℕ) (v : Val)
    → u ≡ set_object t o (with_word (object_at t o) w v) → (r : Result (Unit {0}) Trap) → r ≡ replaced (object_at t o) w
    → ◌≡◌ {A = Result (Unit {0}) Trap × Memory} (r, record { objects = objects_of u; locals = locals })
    (heap.overwritten (record { objects = objects_of t; locals = locals }) o w v)
overwritten_in t u locals o w v e r f =
    let objects = objects_of t in
    both objects locals o w v (map.get objects o) refl (objects_of u) (ap objects_of e ∙ word_replaced t o w v) r
    (f ∙ ap (λ s. replaced s w) (sym (get_object t o)))
