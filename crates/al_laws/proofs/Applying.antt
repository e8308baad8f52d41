-- What an outcome, laid over a memory, changes and what it leaves.
use Rattle.std.proofs.Common.{◌≡◌, ℕ, suc, List, [], ◌∷◌, length, Option, Some, None, Bool, true, false, refl, sym, ap, ◌∙◌, ◌⊎◌, inl, inr}
use Rattle.std.specs.Prelude.{if◌then◌else◌, is_some, option_map, slice_get, slice_set, ℤ, Contains}
use Rattle.std.specs.FinMap as map
use Rattle.std.proofs.Math.Bool.{true≢false}
use Rattle.std.proofs.lemmas.List.{length-set}
use Rattle.std.proofs.lemmas.Map.Views.{Contains-from_any}
use Rattle.al_core.specs.declared.choices.Red.{Red}
use Rattle.al_core.specs.declared.values.Val.{Val}
use Rattle.al_core.specs.declared.values.Val.TheVariants.{Int, Ptr}
use Rattle.al_core.specs.declared.values.Addr.{Addr}
use Rattle.al_core.specs.declared.values.Addr.TheVariants.{Word, Head, Local}
use Rattle.al_core.specs.declared.values.Obj.{Obj}
use Rattle.al_core.specs.Orders.{obj_eq, addr_eq}
use Rattle.al_core.specs.Memory.{Memory, AgreeAt, has_object, length_at, value_at, word_in, put}
use Rattle.al_core.specs.Access.{red_index}
use Rattle.al_core.specs.Chunk.{Outcome}
use Rattle.al_core.specs.Applied.{with_writes, with_made, without_freed, with_sum, with_sums, applied}
use Rattle.al_laws.specs.Commits.{IsOther, IsOff, AppliedAgrees}
use Rattle.al_laws.specs.Names.{HasOnly}
use Rattle.al_laws.proofs.Orders.{addr_equal, addr_itself, obj_equal}
use Rattle.al_laws.specs.PrivateMemories.{is_among}
use Rattle.al_laws.proofs.Stays.{get_put}
use Rattle.al_laws.proofs.Overlay.{over, written_words, written_locals, written_there, get_with_made, locals_with_made, get_without_freed, locals_without_freed}
use Rattle.al_laws.proofs.Operations.{put_there}
use Rattle.al_laws.proofs.Footprint.{put_other, local_other}

-- ---- a memory after a value was put

pub differs_too : (a b : Addr) → addr_eq a b ≡ false → addr_eq b a ≡ false
differs_too a b f =
    elim (addr_eq b a) as (λ t. addr_eq b a ≡ t → t ≡ false) [
      | true ↦ λ t. absurd (true≢false (sym (addr_itself a) ∙ ap (addr_eq a) (sym (addr_equal b a t)) ∙ f))
      | false ↦ λ t. refl
    ] refl

pub put_value : (m : Memory) (a : Addr) (v : Val) (q : Addr) → addr_eq q a ≡ false → value_at (put m a v) q ≡ value_at m q
put_value m (Word o w) v q f = put_other m o w v q f
put_value m (Head o) v q f = refl
put_value m (Local k) v q f = local_other m k v q f

length_of_set : (b : Bool) (w : ℕ) (v : Val) (x : Option (List Val))
    → option_map length (if b then option_map (λ l. slice_set l w v) x else x) ≡ option_map length x
length_of_set true w v None = refl
length_of_set true w v (Some l) = ap (λ n. Some n) (length-set l w v)
length_of_set false w v x = refl

pub put_length : (m : Memory) (a : Addr) (v : Val) (q : Obj) → length_at (put m a v) q ≡ length_at m q
put_length m (Word o w) v q = ap (option_map length) (get_put m o w v q) ∙ length_of_set (obj_eq q o) w v (map.get m.objects q)
put_length m (Head o) v q = refl
put_length m (Local k) v q = refl

pub put_locals : (m : Memory) (a : Addr) (v : Val) → length (put m a v).locals ≡ length m.locals
put_locals m (Word o w) v = refl
put_locals m (Head o) v = refl
put_locals m (Local k) v = length-set m.locals k v

-- ---- a memory after words were written

pub written_length : (es : List (Addr × Val)) (m : Memory) (q : Obj) → length_at (with_writes es m) q ≡ length_at m q
written_length [] m q = refl
written_length (e ∷ es) m q = written_length es (put m e.0 e.1) q ∙ put_length m e.0 e.1 q

pub written_count : (es : List (Addr × Val)) (m : Memory) → length (with_writes es m).locals ≡ length m.locals
written_count [] m = refl
written_count (e ∷ es) m = written_count es (put m e.0 e.1) ∙ put_locals m e.0 e.1

-- ---- a memory after reductions were joined

sum_value : (r : Red) (n : ℤ) (m : Memory) (old : Option Val) (q : Addr) → addr_eq q r.at ≡ false → value_at (with_sum r n m old) q ≡ value_at m q
sum_value r n m (Some (Int o)) q f = put_value m r.at _ q f
sum_value r n m (Some (Ptr o w)) q f = refl
sum_value r n m None q f = refl

sum_length : (r : Red) (n : ℤ) (m : Memory) (old : Option Val) (q : Obj) → length_at (with_sum r n m old) q ≡ length_at m q
sum_length r n m (Some (Int o)) q = put_length m r.at _ q
sum_length r n m (Some (Ptr o w)) q = refl
sum_length r n m None q = refl

sum_count : (r : Red) (n : ℤ) (m : Memory) (old : Option Val) → length (with_sum r n m old).locals ≡ length m.locals
sum_count r n m (Some (Int o)) = put_locals m r.at _
sum_count r n m (Some (Ptr o w)) = refl
sum_count r n m None = refl

sum_there : (r : Red) (n : ℤ) (m : Memory) (old : Option Val) (q : Obj) → has_object (with_sum r n m old) q ≡ has_object m q
sum_there r n m (Some (Int o)) q = put_there m r.at _ q
sum_there r n m (Some (Ptr o w)) q = refl
sum_there r n m None q = refl

no_index : (x : Option ℕ) → option_map suc x ≡ None → x ≡ None
no_index None e = refl
no_index (Some i) e = absurd (true≢false (ap is_some e))

pub not_first : (r : Red) (rs : List Red) (a : Addr) → red_index (r ∷ rs) a ≡ None → (addr_eq r.at a ≡ false) × (red_index rs a ≡ None)
not_first r rs a f =
    elim (addr_eq r.at a) as (λ b. (if b then Some 0 else option_map suc (red_index rs a)) ≡ None → (b ≡ false) × (red_index rs a ≡ None)) [
      | true ↦ λ e. absurd (true≢false (ap is_some e))
      | false ↦ λ e. (refl, no_index (red_index rs a) e)
    ] f

pub sums_value : (rs : List Red) (ns : List ℤ) (m : Memory) (q : Addr) → red_index rs q ≡ None → value_at (with_sums rs ns m) q ≡ value_at m q
sums_value [] ns m q f = refl
sums_value (r ∷ rs) [] m q f = refl
sums_value (r ∷ rs) (n ∷ ns) m q f =
    sums_value rs ns (with_sum r n m (value_at m r.at)) q (not_first r rs q f).1
    ∙ sum_value r n m (value_at m r.at) q (differs_too r.at q (not_first r rs q f).0)

pub sums_length : (rs : List Red) (ns : List ℤ) (m : Memory) (q : Obj) → length_at (with_sums rs ns m) q ≡ length_at m q
sums_length [] ns m q = refl
sums_length (r ∷ rs) [] m q = refl
sums_length (r ∷ rs) (n ∷ ns) m q = sums_length rs ns (with_sum r n m (value_at m r.at)) q ∙ sum_length r n m (value_at m r.at) q

pub sums_count : (rs : List Red) (ns : List ℤ) (m : Memory) → length (with_sums rs ns m).locals ≡ length m.locals
sums_count [] ns m = refl
sums_count (r ∷ rs) [] m = refl
sums_count (r ∷ rs) (n ∷ ns) m = sums_count rs ns (with_sum r n m (value_at m r.at)) ∙ sum_count r n m (value_at m r.at)

pub sums_there : (rs : List Red) (ns : List ℤ) (m : Memory) (q : Obj) → has_object (with_sums rs ns m) q ≡ has_object m q
sums_there [] ns m q = refl
sums_there (r ∷ rs) [] m q = refl
sums_there (r ∷ rs) (n ∷ ns) m q = sums_there rs ns (with_sum r n m (value_at m r.at)) q ∙ sum_there r n m (value_at m r.at) q

-- ---- an outcome

module _ (reds : List Red) (m : Memory) (out : Outcome) where
  abbrev written : Memory
  written = with_writes (map.entries out.writes) m

  abbrev made : Memory
  made = with_made (map.entries out.made) written

  abbrev freed : Memory
  freed = without_freed out.freed made

  -- an object is there that was made, or that was there and is not made
  abbrev made_or : Option (List Val) → Option (List Val) → Option (List Val)
  made_or None y = y
  made_or (Some ws) y = Some ws

  object_made : (q : Obj) → map.get made.objects q ≡ made_or (map.get out.made q) (map.get written.objects q)
  object_made q =
      get_with_made (map.entries out.made) written q (map.entries_sorted out.made)
      ∙ ap (λ x. elim x as (λ _. Option (List Val)) [ None ↦ map.get written.objects q | Some ws ↦ Some ws ]) (sym (map.get-entries out.made q))
      ∙ elim (map.get out.made q) as (λ x. elim x as (λ _. Option (List Val)) [
        | None ↦ map.get written.objects q
        | Some ws ↦ Some ws
      ] ≡ made_or x (map.get written.objects q)) [ None ↦ refl | Some ws ↦ refl ]

  not_among : (q : Obj) → ¬ (Contains out.freed q) → is_among out.freed q ≡ false
  not_among q n =
      elim (is_among out.freed q) as (λ b. is_among out.freed q ≡ b → b ≡ false) [
        | true ↦ λ t. absurd (n (Contains-from_any obj_equal q out.freed t))
        | false ↦ λ t. refl
      ] refl

  -- an object that was neither made nor freed has the words that were written
  other_object : (q : Obj) → IsOther out q → map.get freed.objects q ≡ map.get written.objects q
  other_object q h =
      get_without_freed out.freed made q
      ∙ ap (λ b. if b then None else map.get made.objects q) (not_among q h.unfreed)
      ∙ object_made q ∙ ap (λ x. made_or x (map.get written.objects q)) h.unmade

  unwritten_word : (q : Obj) (w : ℕ) → map.get out.writes (Word q w) ≡ None → word_in (map.get written.objects q) w ≡ word_in (map.get m.objects q) w
  unwritten_word q w e =
      written_words (map.entries out.writes) m q w (map.entries_sorted out.writes)
      ∙ ap (λ x. over x (word_in (map.get m.objects q) w)) (sym (map.get-entries out.writes (Word q w)) ∙ e)

  unwritten_local : (k : ℕ) → map.get out.writes (Local k) ≡ None → slice_get written.locals k ≡ slice_get m.locals k
  unwritten_local k e =
      written_locals (map.entries out.writes) m k (map.entries_sorted out.writes)
      ∙ ap (λ x. over x (slice_get m.locals k)) (sym (map.get-entries out.writes (Local k)) ∙ e)

  same_locals : freed.locals ≡ written.locals
  same_locals = locals_without_freed out.freed made ∙ locals_with_made (map.entries out.made) written

  agrees : (a : Addr) → IsOff reds out a → AgreeAt m (with_sums reds out.accumulators freed) a
  agrees (Word o w) h =
      sym (sums_value reds out.accumulators freed (Word o w) h.1.unreduced ∙ ap (λ x. word_in x w) (other_object o h.0) ∙ unwritten_word o w h.1.unwritten)
  agrees (Head o) h =
      sym (sums_length reds out.accumulators freed o ∙ ap (option_map length) (other_object o h) ∙ written_length (map.entries out.writes) m o)
  agrees (Local k) h =
      sym (sums_value reds out.accumulators freed (Local k) h.unreduced ∙ ap (λ l. slice_get l k) same_locals ∙ unwritten_local k h.unwritten)

  -- as many locals as before
  count : length (with_sums reds out.accumulators freed).locals ≡ length m.locals
  count = sums_count reds out.accumulators freed ∙ ap length same_locals ∙ written_count (map.entries out.writes) m

  by_made : (q : Obj) (x : Option (List Val)) → map.get out.made q ≡ x → is_some (made_or x (map.get written.objects q)) ≡ true
      → (is_some (map.get out.made q) ≡ true) ⊎ (has_object m q ≡ true)
  by_made q None e h = inr (sym (written_there (map.entries out.writes) m q) ∙ h)
  by_made q (Some ws) e h = inl (ap is_some e)

  by_freed : (q : Obj) (b : Bool) → is_some (if b then None else map.get made.objects q) ≡ true
      → (is_some (map.get out.made q) ≡ true) ⊎ (has_object m q ≡ true)
  by_freed q true h = absurd (true≢false (sym h))
  by_freed q false h = by_made q (map.get out.made q) refl (sym (ap is_some (object_made q)) ∙ h)

  -- an object that is there was made, or was there before
  there : (q : Obj) → has_object (with_sums reds out.accumulators freed) q ≡ true → (is_some (map.get out.made q) ≡ true) ⊎ (has_object m q ≡ true)
  there q h = by_freed q (is_among out.freed q) (sym (sums_there reds out.accumulators freed q ∙ ap is_some (get_without_freed out.freed made q)) ∙ h)

pub applied_agrees : AppliedAgrees
unfolding applied
applied_agrees reds m out a h = agrees reds m out a h

pub applied_count : (reds : List Red) (m : Memory) (out : Outcome) → length (applied reds m out).locals ≡ length m.locals
unfolding applied
applied_count reds m out = count reds m out

pub applied_there : (reds : List Red) (m : Memory) (out : Outcome) (q : Obj) → has_object (applied reds m out) q ≡ true
    → (is_some (map.get out.made q) ≡ true) ⊎ (has_object m q ≡ true)
unfolding applied
applied_there reds m out q h = there reds m out q h

-- what every object satisfies, and each that is made
pub applied_only : (Q : Obj → Type 0) (reds : List Red) (m : Memory) (out : Outcome) → HasOnly Q m → ((o : Obj) → is_some (map.get out.made o) ≡ true → Q o)
    → HasOnly Q (applied reds m out)
applied_only Q reds m out before new q h =
    elim (applied_there reds m out q h) as (λ _. Q q) [
      | inl made ↦ new q made
      | inr old ↦ before q old
    ]
