-- The words of an object that is freed later leave no trace, and so a change lays what its outcome does.
use Rattle.std.proofs.Common.{◌≡◌, List, None, Bool, true, false, cond, refl, sym, ap, ◌∙◌}
use Rattle.std.specs.Prelude.{if◌then◌else◌, not, slice_get}
use Rattle.std.specs.Prelude as prelude
use Rattle.std.specs.FinMap as map
use Rattle.std.specs.FinMap.{FinMap}
use Rattle.al_core.specs.declared.choices.Red.{Red}
use Rattle.al_core.specs.declared.values.Val.{Val}
use Rattle.al_core.specs.declared.values.Addr.{Addr}
use Rattle.al_core.specs.declared.values.Addr.TheVariants.{Word, Local}
use Rattle.al_core.specs.declared.values.Obj.{Obj}
use Rattle.al_core.specs.Orders.{obj_cmp, addr_cmp}
use Rattle.al_core.specs.Memory.{Memory, value_at}
use Rattle.al_core.specs.Chunk.{sum_of}
use Rattle.al_core.specs.Applied.{with_writes, with_made, without_freed, with_sums, applied}
use Rattle.al_laws.proofs.Orders.{obj_total, obj_apart, addr_apart}
use Rattle.al_laws.proofs.Words.{same_list}
use Rattle.al_laws.proofs.Overlay.{over, locals_with_made, get_without_freed, locals_without_freed}
use Rattle.al_laws.proofs.Applying.{written_length}
use Rattle.al_heap.specs.Stores.{objects_in}
use Rattle.al_snap.specs.declared.change.Change.{Change}
use Rattle.al_snap.specs.Layers.{is_among}
use Rattle.al_snap.specs.Changes.{is_word_of, writes_left, told}
use Rattle.al_commit.proofs.Laid.{same_words, written_at, made_or, made_at}

turned : {X : Type 0} (b : Bool) (x y : X) → cond (not b) x y ≡ cond b y x
turned true x y = refl
turned false x y = refl

module _ (writes : FinMap addr_cmp Val) (freed : List Obj) (m : Memory) where
  get_left : (a : Addr) → map.get (writes_left writes freed) a ≡ cond (is_word_of freed a) None (map.get writes a)
  get_left a =
      map.get-retain_keys writes (λ a. not (is_word_of freed a)) a (λ x t. ap (λ a. not (is_word_of freed a)) (sym (addr_apart a x t)))
      ∙ turned (is_word_of freed a) (map.get writes a) None

  abbrev all_laid : Memory
  all_laid = with_writes (map.entries writes) m

  abbrev left_laid : Memory
  left_laid = with_writes (map.entries (writes_left writes freed)) m

  -- at an address that is no word of a freed object
  same_at : (a : Addr) → is_word_of freed a ≡ false → value_at all_laid a ≡ value_at left_laid a
  same_at a f =
      written_at writes m a
      ∙ ap (λ x. over x (value_at m a)) (sym (get_left a ∙ ap (λ b. cond b None (map.get writes a)) f))
      ∙ sym (written_at (writes_left writes freed) m a)

  same_there : (q : Obj) → is_among freed q ≡ false → map.get all_laid.objects q ≡ map.get left_laid.objects q
  same_there q f =
      same_words _ _ (written_length (map.entries writes) m q ∙ sym (written_length (map.entries (writes_left writes freed)) m q))
      (λ i. same_at (Word q i) f)

  module _ (made : FinMap obj_cmp (List Val)) where
    by_freed : (q : Obj) (b : Bool) → is_among freed q ≡ b
        → (if b then None else map.get (with_made (map.entries made) all_laid).objects q)
        ≡ (if b then None else map.get (with_made (map.entries made) left_laid).objects q)
    by_freed q true t = refl
    by_freed q false f = made_at made all_laid q ∙ ap (made_or (map.get made q)) (same_there q f) ∙ sym (made_at made left_laid q)

    same_object : (q : Obj) → map.get (without_freed freed (with_made (map.entries made) all_laid)).objects q
        ≡ map.get (without_freed freed (with_made (map.entries made) left_laid)).objects q
    same_object q =
        get_without_freed freed (with_made (map.entries made) all_laid) q
        ∙ by_freed q (is_among freed q) refl
        ∙ sym (get_without_freed freed (with_made (map.entries made) left_laid) q)

    locals_of : (n : Memory) → (without_freed freed (with_made (map.entries made) n)).locals ≡ n.locals
    locals_of n = locals_without_freed freed (with_made (map.entries made) n) ∙ locals_with_made (map.entries made) n

    freed_words : without_freed freed (with_made (map.entries made) all_laid) ≡ without_freed freed (with_made (map.entries made) left_laid)
    freed_words =
        let objects = map.same_map obj_total obj_apart _ _ same_object in
        let locals = locals_of all_laid ∙ same_list all_laid.locals left_laid.locals (λ k. same_at (Local k) refl) ∙ sym (locals_of left_laid) in
        λ t. record { objects = objects t; locals = locals t }

-- what a change lays is what its outcome does
pub applied_told : (reds : List Red) (m : Memory) (c : Change)
    → with_sums reds (prelude.map sum_of c.accumulators)
    (without_freed c.freed (with_made (map.entries (objects_in c.made)) (with_writes (map.entries c.writes) m)))
    ≡ applied reds m (told c)
unfolding applied told
applied_told reds m c =
    ap (with_sums reds (prelude.map sum_of c.accumulators)) (freed_words c.writes c.freed m (objects_in c.made))
