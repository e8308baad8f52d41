-- What layers say of an outcome.
use Rattle.std.proofs.Common.{◌≡◌, ℕ, Bool, true, false, cond, List, Option, Some, None, is_some, slice_get, refl, sym, ap, ◌∙◌, arith}
use Rattle.std.specs.Prelude.{not, option_map, unwrap_or}
use Rattle.std.specs.Option.{option_and_then}
use Rattle.std.specs.FinMap as map
use Rattle.std.specs.FinMap.{FinMap}
use Rattle.std.specs.FinSet as set
use Rattle.std.proofs.Math.Bool.{true≢false}
use Rattle.al_core.specs.declared.values.Obj.{Obj}
use Rattle.al_core.specs.declared.values.Val.{Val}
use Rattle.al_core.specs.declared.values.Addr.{Addr}
use Rattle.al_core.specs.declared.values.Addr.TheVariants.{Word, Head, Local}
use Rattle.al_core.specs.Orders.{addr_cmp}
use Rattle.al_core.specs.Memory.{value_at, word_in}
use Rattle.al_core.specs.Chunk.{writes_of, made_objects}
use Rattle.al_laws.proofs.Orders.{obj_total, obj_apart, addr_total, addr_apart}
use Rattle.al_laws.proofs.Overlay.{get_written, get_made_objects}
use Rattle.al_heap.specs.Stores.{objects_in}
use Rattle.al_heap.proofs.SlotLemmas.{get_objects}
use Rattle.al_snap.specs.Layers.{Layers, Fits, laid, is_among, seen, made_by}
use Rattle.al_snap.specs.Changes.{is_word_of, writes_left}
use Rattle.al_snap.proofs.Laying.{laid_at}
use Rattle.al_snap.proofs.Seen.{own_seen, freed_seen, below_seen}
use Rattle.al_snap.proofs.Writing.{made_has}

turned : {X : Type 0} (b : Bool) (x y : X) → cond (not b) x y ≡ cond b y x
turned true x y = refl
turned false x y = refl

get_left : (writes : FinMap addr_cmp Val) (freed : List Obj) (a : Addr)
    → map.get (writes_left writes freed) a ≡ cond (is_word_of freed a) None (map.get writes a)
get_left writes freed a =
    map.get-retain_keys writes (λ a. not (is_word_of freed a)) a
    (λ x t. ap (λ a. not (is_word_of freed a)) (sym (addr_apart a x t)))
    ∙ turned (is_word_of freed a) (map.get writes a) None

-- ---- the writes

both_none : {X : Type 0} (b : Bool) → ◌≡◌ {A = Option X} (cond b None None) None
both_none true = refl
both_none false = refl

-- a value that is there, with a write over it
laid_over : (v : Val) (x : Option Val) → is_some x ≡ true → option_map (unwrap_or (Some v)) x ≡ Some v
laid_over v None h = absurd (true≢false (sym h))
laid_over v (Some old) h = refl

module _ (l : Layers) (fits : Fits l) where
  laid_here : (at : ℕ → Addr) (k : ℕ) (v : Val) (vs : List Val) → map.get l.writes (at k) ≡ Some v
      → is_some (slice_get vs k) ≡ true → slice_get (laid l.writes at 0 vs) k ≡ Some v
  laid_here at k v vs e h =
      laid_at l.writes at 0 k k vs (omega arith)
      ∙ ap (λ x. option_map (unwrap_or x) (slice_get vs k)) e
      ∙ laid_over v (slice_get vs k) h

  word_here : (o : Obj) (w : ℕ) (v : Val) (s : Option (List Val)) → map.get l.writes (Word o w) ≡ Some v
      → is_some (word_in s w) ≡ true → word_in (option_map (laid l.writes (Word o) 0) s) w ≡ Some v
  word_here o w v None e h = absurd (true≢false (sym h))
  word_here o w v (Some ws) e h = laid_here (Word o) w v ws e h

  base_has : (a : Addr) (v : Val) → map.get l.writes a ≡ Some v → is_some (value_at l.base a) ≡ true
  base_has a v e = fits.there a (ap is_some e)

  not_own : (o : Obj) (w : ℕ) → is_some (value_at l.base (Word o w)) ≡ true → map.contains_key l.own o ≡ false
  not_own o w h =
      elim (map.contains_key l.own o) as (λ b. map.contains_key l.own o ≡ b → b ≡ false) [
        | true ↦ λ t. absurd (true≢false (sym h ∙ ap (λ s. is_some (word_in s w)) (fits.apart o t)))
        | false ↦ λ _. refl
      ] refl

  written_word : (o : Obj) (w : ℕ) (v : Val) → map.get l.writes (Word o w) ≡ Some v
      → cond (is_among l.freed o) None (Some v) ≡ value_at (seen l) (Word o w)
  written_word o w v e =
      let h = base_has (Word o w) v e in
      let absent = not_own o w h in
      elim (is_among l.freed o) as (λ b. is_among l.freed o ≡ b → cond b None (Some v) ≡ value_at (seen l) (Word o w)) [
        | true ↦ λ g. ap (λ s. word_in s w) (sym (freed_seen l o absent g))
        | false ↦ λ g.
            sym (ap (λ s. word_in s w) (below_seen l o absent g) ∙ word_here o w v (map.get l.base.objects o) e h)
      ] refl

  -- of what was written, what is left is what the chunk sees
  left_is_seen : (a : Addr) (x : Option Val) → map.get l.writes a ≡ x
      → cond (is_word_of l.freed a) None x ≡ cond (is_some x) (value_at (seen l) a) None
  left_is_seen (Word o w) (Some v) e = written_word o w v e
  left_is_seen (Word o w) None e = both_none (is_among l.freed o)
  left_is_seen (Head o) (Some v) e = absurd (true≢false (sym (base_has (Head o) v e)))
  left_is_seen (Head o) None e = refl
  left_is_seen (Local k) (Some v) e = sym (laid_here Local k v l.base.locals e (base_has (Local k) v e))
  left_is_seen (Local k) None e = refl

  touched_seen : (a : Addr)
      → cond (is_some (map.get l.writes a)) (value_at (seen l) a) None ≡ cond (set.contains l.touched a) (value_at (seen l) a) None
  touched_seen (Word o w) = ap (λ b. cond b (value_at (seen l) (Word o w)) None) (sym (fits.same (Word o w) refl))
  touched_seen (Head o) = both_none (is_some (map.get l.writes (Head o))) ∙ sym (both_none (set.contains l.touched (Head o)))
  touched_seen (Local k) = ap (λ b. cond b (value_at (seen l) (Local k)) None) (sym (fits.same (Local k) refl))

  pub writes_told : writes_left l.writes l.freed ≡ writes_of (seen l) l.touched
  writes_told = map.same_map addr_total addr_apart _ _ (λ a.
      get_left l.writes l.freed a
      ∙ left_is_seen a (map.get l.writes a) refl
      ∙ touched_seen a
      ∙ sym (map.get-entries (writes_of (seen l) l.touched) a ∙ get_written (seen l) l.touched a))

-- ---- the objects that were made

no_slot : (x : Option (Option (List Val))) → is_some x ≡ false → option_and_then (λ s. s) x ≡ None
no_slot None h = refl
no_slot (Some s) h = absurd (true≢false h)

made_seen : (l : Layers) (o : Obj)
    → map.get (objects_in l.own) o ≡ cond (map.contains_key l.own o) (map.get (seen l).objects o) None
made_seen l o =
    elim (map.contains_key l.own o) as (λ b. map.contains_key l.own o ≡ b
    → map.get (objects_in l.own) o ≡ cond b (map.get (seen l).objects o) None) [
      | true ↦ λ t. sym (own_seen l o t)
      | false ↦ λ f. get_objects l.own o ∙ no_slot (map.get l.own o) f
    ] refl

made_told : (l : Layers) → objects_in l.own ≡ made_objects (seen l) (made_by l.own)
made_told l = map.same_map obj_total obj_apart _ _ (λ o.
    made_seen l o
    ∙ ap (λ b. cond b (map.get (seen l).objects o) None) (sym (made_has l.own o))
    ∙ sym (map.get-entries (made_objects (seen l) (made_by l.own)) o ∙ get_made_objects (seen l) (made_by l.own) o))

pub made_shown : (l n : Layers) → l ≡ n → objects_in l.own ≡ made_objects (seen n) (made_by n.own)
made_shown l n e = made_told l ∙ ap (λ (l : Layers). made_objects (seen l) (made_by l.own)) e
