-- A memory with writes and objects laid over it, one after another.
use Rattle.std.proofs.Common.{◌≡◌, ℕ, List, length, Option, Some, None, Bool, true, false, cond, refl, sym, ap, subst, ◌∙◌}
use Rattle.std.specs.Prelude.{option_map}
use Rattle.std.specs.FinMap as map
use Rattle.std.specs.FinMap.{FinMap}
use Rattle.al_core.specs.declared.values.Val.{Val}
use Rattle.al_core.specs.declared.values.Addr.{Addr}
use Rattle.al_core.specs.declared.values.Addr.TheVariants.{Word, Head, Local}
use Rattle.al_core.specs.declared.values.Obj.{Obj}
use Rattle.al_core.specs.Orders.{obj_cmp, obj_eq, addr_cmp, addr_eq}
use Rattle.al_core.specs.Memory.{Memory, length_at, value_at, word_in, put, add}
use Rattle.al_core.specs.Applied.{with_writes, with_made}
use Rattle.al_laws.proofs.Orders.{obj_total, obj_apart, obj_equal, addr_total, addr_equal}
use Rattle.al_laws.proofs.Words.{some_none, same_list}
use Rattle.al_laws.proofs.Stays.{get_add}
use Rattle.al_laws.proofs.Overlay.{over, set_over, put_here, written_words, written_locals, get_with_made, locals_with_made}
use Rattle.al_laws.proofs.Applying.{put_value, put_length, written_length}

-- ---- memories that have the same words and the same locals

pub same_words : (x y : Option (List Val)) → option_map length x ≡ option_map length y → ((i : ℕ) → word_in x i ≡ word_in y i) → x ≡ y
same_words None None e f = refl
same_words None (Some k) e f = absurd (some_none (length k) (sym e))
same_words (Some l) None e f = absurd (some_none (length l) e)
same_words (Some l) (Some k) e f = ap (λ z. Some z) (same_list l k f)

same_memory : (m n : Memory) → ((o : Obj) → length_at m o ≡ length_at n o) → ((o : Obj) (i : ℕ) → value_at m (Word o i) ≡ value_at n (Word o i))
    → ((k : ℕ) → value_at m (Local k) ≡ value_at n (Local k)) → m ≡ n
same_memory m n e f g =
    let objects = map.same_map obj_total obj_apart m.objects n.objects (λ o. same_words (map.get m.objects o) (map.get n.objects o) (e o) (f o)) in
    let locals = same_list m.locals n.locals g in
    λ t. record { objects = objects t; locals = locals t }

-- ---- writes

over_none : (x : Option Val) → over x None ≡ None
over_none (Some v) = refl
over_none None = refl

pub written_at : (writes : FinMap addr_cmp Val) (m : Memory) (q : Addr)
    → value_at (with_writes (map.entries writes) m) q ≡ over (map.get writes q) (value_at m q)
written_at writes m (Word o i) =
    written_words (map.entries writes) m o i (map.entries_sorted writes)
    ∙ ap (λ x. over x (value_at m (Word o i))) (sym (map.get-entries writes (Word o i)))
written_at writes m (Head o) = sym (over_none (map.get writes (Head o)))
written_at writes m (Local k) =
    written_locals (map.entries writes) m k (map.entries_sorted writes)
    ∙ ap (λ x. over x (value_at m (Local k))) (sym (map.get-entries writes (Local k)))

put_at : (m : Memory) (a : Addr) (v : Val) → value_at (put m a v) a ≡ over (Some v) (value_at m a)
put_at m (Word o w) v = put_here m o w v
put_at m (Head o) v = refl
put_at m (Local k) v = set_over m.locals k v

module _ (writes : FinMap addr_cmp Val) (m : Memory) (a : Addr) (v : Val) (here : map.get writes a ≡ Some v) where
  laid_first : (q : Addr) (b : Bool) → addr_eq q a ≡ b
      → over (cond b None (map.get writes q)) (value_at (put m a v) q) ≡ over (map.get writes q) (value_at m q)
  laid_first q true t =
      subst (λ (q : Addr). value_at (put m a v) q ≡ over (map.get writes q) (value_at m q)) (sym (addr_equal q a t))
      (put_at m a v ∙ ap (λ x. over x (value_at m a)) (sym here))
  laid_first q false f = ap (over (map.get writes q)) (put_value m a v q f)

  same_value : (q : Addr)
      → value_at (with_writes (map.entries (map.remove writes a)) (put m a v)) q ≡ value_at (with_writes (map.entries writes) m) q
  same_value q =
      written_at (map.remove writes a) (put m a v) q
      ∙ ap (λ x. over x (value_at (put m a v) q)) (map.get-remove addr_total writes a q)
      ∙ laid_first q (addr_eq q a) refl
      ∙ sym (written_at writes m q)

  -- one of the writes may be laid before the others
  pub one_written : with_writes (map.entries (map.remove writes a)) (put m a v) ≡ with_writes (map.entries writes) m
  one_written =
      same_memory _ _
      (λ o. written_length (map.entries (map.remove writes a)) (put m a v) o ∙ put_length m a v o ∙ sym (written_length (map.entries writes) m o))
      (λ o i. same_value (Word o i)) (λ k. same_value (Local k))

abbrev no_writes : FinMap addr_cmp Val
no_writes = map.empty

none_written_at : (m : Memory) (q : Addr) → value_at (with_writes (map.entries no_writes) m) q ≡ value_at m q
none_written_at m q = written_at no_writes m q ∙ ap (λ x. over x (value_at m q)) (map.get-empty addr_cmp q)

pub none_written : (m : Memory) → with_writes (map.entries no_writes) m ≡ m
none_written m =
    same_memory _ _ (λ o. written_length (map.entries no_writes) m o) (λ o i. none_written_at m (Word o i)) (λ k. none_written_at m (Local k))

-- ---- made objects

abbrev pub made_or : Option (List Val) → Option (List Val) → Option (List Val)
made_or None y = y
made_or (Some ws) y = Some ws

found_or : (x y : Option (List Val)) → elim x as (λ _. Option (List Val)) [ None ↦ y | Some ws ↦ Some ws ] ≡ made_or x y
found_or None y = refl
found_or (Some ws) y = refl

pub made_at : (made : FinMap obj_cmp (List Val)) (m : Memory) (q : Obj)
    → map.get (with_made (map.entries made) m).objects q ≡ made_or (map.get made q) (map.get m.objects q)
made_at made m q =
    get_with_made (map.entries made) m q (map.entries_sorted made)
    ∙ found_or _ (map.get m.objects q)
    ∙ ap (λ x. made_or x (map.get m.objects q)) (sym (map.get-entries made q))

module _ (made : FinMap obj_cmp (List Val)) (m : Memory) (o : Obj) (ws : List Val) (here : map.get made o ≡ Some ws) where
  added_first : (q : Obj) (b : Bool) → obj_eq q o ≡ b
      → made_or (cond b None (map.get made q)) (cond b (Some ws) (map.get m.objects q)) ≡ made_or (map.get made q) (map.get m.objects q)
  added_first q true t = sym (ap (λ x. made_or x (map.get m.objects q)) (ap (map.get made) (obj_equal q o t) ∙ here))
  added_first q false f = refl

  same_object : (q : Obj)
      → map.get (with_made (map.entries (map.remove made o)) (add m o ws)).objects q ≡ map.get (with_made (map.entries made) m).objects q
  same_object q =
      made_at (map.remove made o) (add m o ws) q
      ∙ ap (λ x. made_or x (map.get (add m o ws).objects q)) (map.get-remove obj_total made o q)
      ∙ ap (made_or (cond (obj_eq q o) None (map.get made q))) (get_add m o ws q)
      ∙ added_first q (obj_eq q o) refl
      ∙ sym (made_at made m q)

  -- one of the objects may be added before the others
  pub one_added : with_made (map.entries (map.remove made o)) (add m o ws) ≡ with_made (map.entries made) m
  one_added =
      let objects = map.same_map obj_total obj_apart _ _ same_object in
      let locals = locals_with_made (map.entries (map.remove made o)) (add m o ws) ∙ sym (locals_with_made (map.entries made) m) in
      λ t. record { objects = objects t; locals = locals t }

abbrev none_made : FinMap obj_cmp (List Val)
none_made = map.empty

pub none_added : (m : Memory) → with_made (map.entries none_made) m ≡ m
none_added m =
    let objects = map.same_map obj_total obj_apart _ _ (λ q.
    made_at none_made m q ∙ ap (λ x. made_or x (map.get m.objects q)) (map.get-empty obj_cmp q)) in
    let locals = locals_with_made (map.entries none_made) m in
    λ t. record { objects = objects t; locals = locals t }
