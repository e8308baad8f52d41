-- The whole memory that an outcome gives.
use Rattle.std.proofs.Common.{◌≡◌, ℕ, zero, suc, List, [], ◌∷◌, length, Option, Some, None, Bool, true, false, refl, sym, ap, ◌∙◌, arith}
use Rattle.std.specs.Prelude.{if◌then◌else◌, is_some, slice_get}
use Rattle.std.specs.FinMap as fin
use Rattle.std.specs.FinSet as set
use Rattle.std.proofs.Math.Bool.{true≢false}
use Rattle.al_core.specs.declared.values.Val.{Val}
use Rattle.al_core.specs.declared.values.Addr.{Addr}
use Rattle.al_core.specs.declared.values.Addr.TheVariants.{Word, Local}
use Rattle.al_core.specs.declared.values.Obj.{Obj}
use Rattle.al_core.specs.Memory.{Memory, word_in, value_at}
use Rattle.al_core.specs.Access.{AccessRecord}
use Rattle.al_core.specs.Chunk.{writes_of, made_objects}
use Rattle.al_core.specs.Applied.{with_writes, with_made, without_freed}
use Rattle.al_laws.proofs.Orders.{obj_total, obj_apart}
use Rattle.al_laws.proofs.Words.{same_list}
use Rattle.al_laws.specs.PrivateMemories.{SameBut, IsPrivate, is_among}
use Rattle.al_laws.proofs.Overlay.{over, over_same, written_words, written_locals, written_there, get_with_made, locals_with_made, get_written, get_made_objects, get_without_freed, locals_without_freed}

pub none_of : {A : Type 0} (x : Option A) → is_some x ≡ false → x ≡ None
none_of None e = refl
none_of (Some a) e = absurd (true≢false e)

pub some_of : {A : Type 0} (x : Option A) → is_some x ≡ true → (a : A) × (x ≡ Some a)
some_of None e = absurd (true≢false (sym e))
some_of (Some a) e = (a, refl)

pub same_shape : (l k : List Val) → length l ≡ length k → (i : ℕ) → is_some (slice_get l i) ≡ is_some (slice_get k i)
same_shape [] [] e i = refl
same_shape [] (y ∷ k) e i = absurd (omega arith)
same_shape (x ∷ l) [] e i = absurd (omega arith)
same_shape (x ∷ l) (y ∷ k) e zero = refl
same_shape (x ∷ l) (y ∷ k) e (suc i) = same_shape l k (omega arith) i

module _ (m : Memory) (e first last : ℕ) (l : AccessRecord) (n : Memory) (p : IsPrivate m e first last l n) where
  abbrev pub words_laid : Memory
  words_laid = with_writes (fin.entries (writes_of n l.touched)) m

  abbrev pub made_laid : Memory
  made_laid = with_made (fin.entries (made_objects n l.made)) words_laid

  -- the value that the outcome has at an address, over the one that was there
  abbrev pub laid_value : Addr → Option Val → Option Val
  laid_value a x = over (if set.contains l.touched a then value_at n a else None) x

  pub word_laid : (q : Obj) (i : ℕ) → word_in (fin.get words_laid.objects q) i ≡ laid_value (Word q i) (word_in (fin.get m.objects q) i)
  word_laid q i =
      written_words (fin.entries (writes_of n l.touched)) m q i (fin.entries_sorted (writes_of n l.touched))
      ∙ ap (λ x. over x (word_in (fin.get m.objects q) i)) (get_written n l.touched (Word q i))

  pub local_laid : (k : ℕ) → slice_get words_laid.locals k ≡ laid_value (Local k) (slice_get m.locals k)
  local_laid k =
      written_locals (fin.entries (writes_of n l.touched)) m k (fin.entries_sorted (writes_of n l.touched))
      ∙ ap (λ x. over x (slice_get m.locals k)) (get_written n l.touched (Local k))

  -- at a touched address the new value, and at another one the old one, which is the same
  by_touch : (b : Bool) (x y : Option Val) → is_some x ≡ is_some y → (b ≡ false → x ≡ y) → over (if b then x else None) y ≡ x
  by_touch true x y s e = over_same x y s
  by_touch false x y s e = sym (e refl)

  was_none : (q : Obj) → fin.get m.objects q ≡ None → fin.get words_laid.objects q ≡ None
  was_none q e = none_of (fin.get words_laid.objects q) (written_there (fin.entries (writes_of n l.touched)) m q ∙ ap is_some e)

  laid_object : (q : Obj) (x y : Option (List Val)) → fin.get m.objects q ≡ x → fin.get n.objects q ≡ y → SameBut l.touched q x y
      → fin.get words_laid.objects q ≡ y
  laid_object q None None ex ey s = was_none q ex
  laid_object q None (Some ws) ex ey s = absurd s
  laid_object q (Some vs) None ex ey s = absurd s
  laid_object q (Some vs) (Some ws) ex ey s =
      let there = some_of (fin.get words_laid.objects q) (written_there (fin.entries (writes_of n l.touched)) m q ∙ ap is_some ex) in
      there.1 ∙ ap (λ l. Some l) (same_list there.0 ws (λ i.
      ap (λ x. word_in x i) (sym there.1) ∙ word_laid q i ∙ ap (λ x. laid_value (Word q i) (word_in x i)) ex
      ∙ ap (λ x. over (if set.contains l.touched (Word q i) then word_in x i else None) (slice_get vs i)) ey
      ∙ by_touch (set.contains l.touched (Word q i)) (slice_get ws i) (slice_get vs i) (same_shape ws vs s.0 i) (s.1 i)))

  -- a made object that is there, or none where it was freed
  made_object : (q : Obj) (x : Option (List Val)) → fin.get m.objects q ≡ None → fin.get n.objects q ≡ x
      → elim x as (λ _. Option (List Val)) [ None ↦ fin.get words_laid.objects q | Some ws ↦ Some ws ] ≡ x
  made_object q None none is = was_none q none
  made_object q (Some ws) none is = refl

  object_there : (q : Obj) → is_among l.freed q ≡ false → fin.get made_laid.objects q ≡ fin.get n.objects q
  object_there q freed =
      get_with_made (fin.entries (made_objects n l.made)) words_laid q (fin.entries_sorted (made_objects n l.made))
      ∙ ap (λ x. elim x as (λ _. Option (List Val)) [ None ↦ fin.get words_laid.objects q | Some ws ↦ Some ws ]) (get_made_objects n l.made q)
      ∙ elim (set.contains l.made q) as (λ b. set.contains l.made q ≡ b → elim (if b then fin.get n.objects q else None) as (λ _. Option (List Val)) [
        | None ↦ fin.get words_laid.objects q
        | Some ws ↦ Some ws
      ] ≡ fin.get n.objects q) [
        | true ↦ λ t. made_object q (fin.get n.objects q) (p.fresh q (p.named q t)) refl
        | false ↦ λ t. laid_object q (fin.get m.objects q) (fin.get n.objects q) refl refl (p.kept q t freed)
      ] refl

  whole_object : (q : Obj) → fin.get (without_freed l.freed made_laid).objects q ≡ fin.get n.objects q
  whole_object q =
      get_without_freed l.freed made_laid q
      ∙ elim (is_among l.freed q) as (λ b. is_among l.freed q ≡ b → (if b then None else fin.get made_laid.objects q) ≡ fin.get n.objects q) [
        | true ↦ λ t. sym (p.gone q t).is_gone
        | false ↦ λ t. object_there q t
      ] refl

  -- all that the record says, laid over the first memory, is the private memory
  pub whole_memory : without_freed l.freed made_laid ≡ n
  whole_memory =
      let objects_same = fin.same_map obj_total obj_apart (without_freed l.freed made_laid).objects n.objects whole_object in
      let locals_same = locals_without_freed l.freed made_laid
      ∙ locals_with_made (fin.entries (made_objects n l.made)) words_laid
      ∙ same_list words_laid.locals n.locals (λ k. local_laid k
      ∙ by_touch (set.contains l.touched (Local k)) (slice_get n.locals k) (slice_get m.locals k) (same_shape n.locals m.locals p.locals_length k)
      (p.locals k)) in
      λ t. record { objects = objects_same t; locals = locals_same t }
