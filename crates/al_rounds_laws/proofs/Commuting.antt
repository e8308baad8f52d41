-- Two outcomes that write at different addresses may be laid over a memory in either order.
use Rattle.std.proofs.Common.{◌≡◌, ℕ, List, [], length, Option, Some, None, Bool, true, false, refl, sym, ap, ◌∙◌, ◌⊎◌, inl, inr}
use Rattle.std.specs.Prelude.{if◌then◌else◌, is_some, option_map, slice_get}
use Rattle.std.specs.FinMap as map
use Rattle.std.specs.FinSet as set
use Rattle.std.proofs.Math.Bool.{true≢false}
use Rattle.al_core.specs.declared.values.Val.{Val}
use Rattle.al_core.specs.declared.values.Addr.{Addr}
use Rattle.al_core.specs.declared.values.Addr.TheVariants.{Word, Local}
use Rattle.al_core.specs.declared.values.Obj.{Obj}
use Rattle.al_core.specs.Memory.{Memory, length_at, value_at, word_in}
use Rattle.al_core.specs.Chunk.{Outcome, outcome}
use Rattle.al_core.specs.Applied.{with_writes, with_made, applied}
use Rattle.al_laws.specs.PrivateMemories.{is_among}
use Rattle.al_laws.proofs.Orders.{obj_total, obj_apart}
use Rattle.al_laws.proofs.Words.{some_none, same_list}
use Rattle.al_laws.proofs.Overlay.{over, written_words, written_locals, get_with_made, locals_with_made, get_without_freed, locals_without_freed}
use Rattle.al_laws.proofs.Applying.{written_length}
use Rattle.al_laws.proofs.Untouched.{false_or, untouched_unwritten}
use Rattle.al_rounds_laws.specs.Writes.{OutcomesCommute}
use Rattle.al_rounds_laws.proofs.Names.{IsForeign, made_is_foreign}

-- ---- memories that have the same words and the same locals

same_words : (x y : Option (List Val)) → option_map length x ≡ option_map length y → ((i : ℕ) → word_in x i ≡ word_in y i) → x ≡ y
same_words None None e f = refl
same_words None (Some k) e f = absurd (some_none (length k) (sym e))
same_words (Some l) None e f = absurd (some_none (length l) e)
same_words (Some l) (Some k) e f = ap (λ z. Some z) (same_list l k f)

pub same_memory : (m n : Memory) → ((o : Obj) → length_at m o ≡ length_at n o) → ((o : Obj) (i : ℕ) → value_at m (Word o i) ≡ value_at n (Word o i))
    → ((k : ℕ) → value_at m (Local k) ≡ value_at n (Local k)) → m ≡ n
same_memory m n e f g =
    let objects = map.same_map obj_total obj_apart m.objects n.objects (λ o. same_words (map.get m.objects o) (map.get n.objects o) (e o) (f o)) in
    let locals = same_list m.locals n.locals g in
    λ t. record { objects = objects t; locals = locals t }

-- ---- a memory with an outcome laid over it

abbrev pub made_or : Option (List Val) → Option (List Val) → Option (List Val)
made_or None y = y
made_or (Some ws) y = Some ws

abbrev pub word_or : Option (List Val) → ℕ → Option Val → Option Val
word_or None i v = v
word_or (Some ws) i v = slice_get ws i

abbrev pub length_or : Option (List Val) → Option ℕ → Option ℕ
length_or None l = l
length_or (Some ws) l = Some (length ws)

by_word : (b : Bool) (x y : Option (List Val)) (i : ℕ) → word_in (if b then None else made_or x y) i ≡ (if b then None else word_or x i (word_in y i))
by_word true x y i = refl
by_word false None y i = refl
by_word false (Some ws) y i = refl

by_length : (b : Bool) (x y : Option (List Val))
    → option_map length (if b then None else made_or x y) ≡ (if b then None else length_or x (option_map length y))
by_length true x y = refl
by_length false None y = refl
by_length false (Some ws) y = refl

module _ (n : Memory) (out : Outcome) where
  abbrev written : Memory
  written = with_writes (map.entries out.writes) n

  object_made : (q : Obj) → map.get (with_made (map.entries out.made) written).objects q ≡ made_or (map.get out.made q) (map.get written.objects q)
  object_made q =
      get_with_made (map.entries out.made) written q (map.entries_sorted out.made)
      ∙ ap (λ x. elim x as (λ _. Option (List Val)) [ None ↦ map.get written.objects q | Some ws ↦ Some ws ]) (sym (map.get-entries out.made q))
      ∙ elim (map.get out.made q) as (λ x. elim x as (λ _. Option (List Val)) [
        | None ↦ map.get written.objects q
        | Some ws ↦ Some ws
      ] ≡ made_or x (map.get written.objects q)) [ None ↦ refl | Some ws ↦ refl ]

  object_after : (q : Obj)
      → map.get (applied [] n out).objects q ≡ (if is_among out.freed q then None else made_or (map.get out.made q) (map.get written.objects q))
  unfolding applied
  object_after q =
      get_without_freed out.freed (with_made (map.entries out.made) written) q
      ∙ ap (λ x. if is_among out.freed q then None else x) (object_made q)

  pub word_after : (q : Obj) (i : ℕ) → value_at (applied [] n out) (Word q i)
      ≡ (if is_among out.freed q then None else word_or (map.get out.made q) i (over (map.get out.writes (Word q i)) (value_at n (Word q i))))
  word_after q i =
      ap (λ x. word_in x i) (object_after q)
      ∙ by_word (is_among out.freed q) (map.get out.made q) (map.get written.objects q) i
      ∙ ap (λ v. if is_among out.freed q then None else word_or (map.get out.made q) i v)
      (written_words (map.entries out.writes) n q i (map.entries_sorted out.writes)
      ∙ ap (λ x. over x (value_at n (Word q i))) (sym (map.get-entries out.writes (Word q i))))

  pub length_after : (q : Obj) → length_at (applied [] n out) q ≡ (if is_among out.freed q then None else length_or (map.get out.made q) (length_at n q))
  length_after q =
      ap (option_map length) (object_after q)
      ∙ by_length (is_among out.freed q) (map.get out.made q) (map.get written.objects q)
      ∙ ap (λ l. if is_among out.freed q then None else length_or (map.get out.made q) l) (written_length (map.entries out.writes) n q)

  pub local_after : (k : ℕ) → value_at (applied [] n out) (Local k) ≡ over (map.get out.writes (Local k)) (value_at n (Local k))
  unfolding applied
  local_after k =
      ap (λ l. slice_get l k) (locals_without_freed out.freed (with_made (map.entries out.made) written) ∙ locals_with_made (map.entries out.made) written)
      ∙ written_locals (map.entries out.writes) n k (map.entries_sorted out.writes)
      ∙ ap (λ x. over x (value_at n (Local k))) (sym (map.get-entries out.writes (Local k)))

-- ---- two outcomes

abbrev pub OneIsNone : Option Val → Option Val → Type 0
OneIsNone v w = (v ≡ None) ⊎ (w ≡ None)

no_some : {A P : Type 0} {a : A} → Some a ≡ None → P
no_some e = absurd (true≢false (ap is_some e))

over_both : (v w x : Option Val) → OneIsNone v w → over w (over v x) ≡ over v (over w x)
over_both None w x h = refl
over_both (Some v) None x h = refl
over_both (Some v) (Some w) x (inl e) = no_some e
over_both (Some v) (Some w) x (inr e) = no_some e

-- what is said of an object that the other one made
abbrev SaysNothing : Option (List Val) → Bool → Option Val → Option (List Val) → Type 0
SaysNothing made freed written other = is_some other ≡ true → (made ≡ None) × (freed ≡ false) × (written ≡ None)

both_words : (f g : Bool) (x y : Option (List Val)) (v w z : Option Val) (i : ℕ) → OneIsNone v w → SaysNothing y g w x → SaysNothing x f v y
    → (if g then None else word_or y i (over w (if f then None else word_or x i (over v z))))
    ≡ (if f then None else word_or x i (over v (if g then None else word_or y i (over w z))))
both_words true true x y v w z i h k l = refl
both_words true false x None v None z i h k l = refl
both_words true false x None v (Some w) z i h k l = refl
both_words true false x (Some ws) v w z i h k l = absurd (true≢false (l refl).1)
both_words false true None y None w z i h k l = refl
both_words false true None y (Some v) w z i h k l = refl
both_words false true (Some vs) y v w z i h k l = absurd (true≢false (k refl).1)
both_words false false None None v w z i h k l = over_both v w z h
both_words false false (Some vs) None v None z i h k l = refl
both_words false false (Some vs) None v (Some w) z i h k l = no_some (k refl).2
both_words false false (Some vs) (Some ws) v w z i h k l = no_some (k refl).0
both_words false false None (Some ws) None w z i h k l = refl
both_words false false None (Some ws) (Some v) w z i h k l = no_some (l refl).2

both_lengths : (f g : Bool) (x y : Option (List Val)) (v w : Option Val) (z : Option ℕ) → SaysNothing y g w x → SaysNothing x f v y
    → (if g then None else length_or y (if f then None else length_or x z)) ≡ (if f then None else length_or x (if g then None else length_or y z))
both_lengths true true x y v w z k l = refl
both_lengths true false x None v w z k l = refl
both_lengths true false x (Some ws) v w z k l = absurd (true≢false (l refl).1)
both_lengths false true None y v w z k l = refl
both_lengths false true (Some vs) y v w z k l = absurd (true≢false (k refl).1)
both_lengths false false None y v w z k l = refl
both_lengths false false (Some vs) None v w z k l = refl
both_lengths false false (Some vs) (Some ws) v w z k l = no_some (k refl).0

module _ (a b : Outcome) (writes : (q : Addr) → OneIsNone (map.get a.writes q) (map.get b.writes q))
    (left : (q : Obj) → is_some (map.get a.made q) ≡ true → IsForeign b q) (right : (q : Obj) → is_some (map.get b.made q) ≡ true → IsForeign a q) where
  says_left : (q : Obj) (i : ℕ) → SaysNothing (map.get b.made q) (is_among b.freed q) (map.get b.writes (Word q i)) (map.get a.made q)
  says_left q i t = let h = left q t in (h.unmade, h.unfreed, h.unwritten i)

  says_right : (q : Obj) (i : ℕ) → SaysNothing (map.get a.made q) (is_among a.freed q) (map.get a.writes (Word q i)) (map.get b.made q)
  says_right q i t = let h = right q t in (h.unmade, h.unfreed, h.unwritten i)

  same_word : (n : Memory) (q : Obj) (i : ℕ) → value_at (applied [] (applied [] n a) b) (Word q i) ≡ value_at (applied [] (applied [] n b) a) (Word q i)
  same_word n q i =
      word_after (applied [] n a) b q i
      ∙ ap (λ v. if is_among b.freed q then None else word_or (map.get b.made q) i (over (map.get b.writes (Word q i)) v)) (word_after n a q i)
      ∙ both_words (is_among a.freed q) (is_among b.freed q) (map.get a.made q) (map.get b.made q) (map.get a.writes (Word q i))
      (map.get b.writes (Word q i)) (value_at n (Word q i)) i (writes (Word q i)) (says_left q i) (says_right q i)
      ∙ sym (word_after (applied [] n b) a q i
      ∙ ap (λ v. if is_among a.freed q then None else word_or (map.get a.made q) i (over (map.get a.writes (Word q i)) v)) (word_after n b q i))

  same_length : (n : Memory) (q : Obj) → length_at (applied [] (applied [] n a) b) q ≡ length_at (applied [] (applied [] n b) a) q
  same_length n q =
      length_after (applied [] n a) b q
      ∙ ap (λ l. if is_among b.freed q then None else length_or (map.get b.made q) l) (length_after n a q)
      ∙ both_lengths (is_among a.freed q) (is_among b.freed q) (map.get a.made q) (map.get b.made q) (map.get a.writes (Word q 0))
      (map.get b.writes (Word q 0)) (length_at n q) (says_left q 0) (says_right q 0)
      ∙ sym (length_after (applied [] n b) a q
      ∙ ap (λ l. if is_among a.freed q then None else length_or (map.get a.made q) l) (length_after n b q))

  same_local : (n : Memory) (k : ℕ) → value_at (applied [] (applied [] n a) b) (Local k) ≡ value_at (applied [] (applied [] n b) a) (Local k)
  same_local n k =
      local_after (applied [] n a) b k ∙ ap (over (map.get b.writes (Local k))) (local_after n a k)
      ∙ over_both (map.get a.writes (Local k)) (map.get b.writes (Local k)) (value_at n (Local k)) (writes (Local k))
      ∙ sym (local_after (applied [] n b) a k ∙ ap (over (map.get a.writes (Local k))) (local_after n b k))

  pub commute : (n : Memory) → applied [] (applied [] n a) b ≡ applied [] (applied [] n b) a
  commute n = same_memory _ _ (same_length n) (same_word n) (same_local n)

pub outcomes_commute : OutcomesCommute
outcomes_commute x m c d differ f g apart n =
    let a = outcome x [] m c in
    let b = outcome x [] m d in
    let writes = λ (q : Addr).
    elim (set.contains a.touched q) as (λ t. set.contains a.touched q ≡ t → OneIsNone (map.get a.writes q) (map.get b.writes q)) [
      | true ↦ λ t. inr (untouched_unwritten x [] m d q (false_or _ (λ u. apart q t u)))
      | false ↦ λ t. inl (untouched_unwritten x [] m c q t)
    ] refl in
    commute a b writes (λ q t. made_is_foreign x [] m c d differ f g q t) (λ q t. made_is_foreign x [] m d c (λ e. differ (sym e)) g f q t) n
