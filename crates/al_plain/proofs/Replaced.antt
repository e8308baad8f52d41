-- The map of objects: a word that is replaced, and objects that are added.
use Rattle.std.proofs.Common.{◌≡◌, ℕ, List, [], Option, Some, None, Bool, true, false, cond, T, refl, sym, ap, ◌∙◌}
use Rattle.std.specs.Prelude.{slice_set}
use Rattle.std.specs.FinMap as map
use Rattle.std.specs.FinMap.{FinMap, find}
use Rattle.std.specs.FinMap.Entries.{is_sorted}
use Rattle.al_core.specs.declared.values.Obj.{Obj}
use Rattle.al_core.specs.declared.values.Val.{Val}
use Rattle.al_core.specs.Orders.{obj_cmp, obj_eq}
use Rattle.al_core.specs.Memory.{with_words}
use Rattle.al_core.specs.Applied.{with_made}
use Rattle.al_laws.proofs.Orders.{obj_total, obj_apart, obj_equal}
use Rattle.al_laws.proofs.Overlay.{get_with_made}

same_cond : {A : Type 0} (b : Bool) (x y z : A) → cond b x (cond b y z) ≡ cond b x z
same_cond true x y z = refl
same_cond false x y z = refl

module _ (m : FinMap obj_cmp (List Val)) (o : Obj) where
  put_back : (ws : List Val) → map.insert (map.remove m o) o ws ≡ map.insert m o ws
  put_back ws = map.same_map obj_total obj_apart _ _ (λ q.
      map.get-insert obj_total (map.remove m o) o ws q ∙ ap (cond (obj_eq q o) (Some ws)) (map.get-remove obj_total m o q)
      ∙ same_cond (obj_eq q o) (Some ws) None (map.get m q)
      ∙ sym (map.get-insert obj_total m o ws q))

  pub with_words_of : (w : ℕ) (v : Val) (ws : List Val) → map.get m o ≡ Some ws
      → map.insert (map.remove m o) o (slice_set ws w v) ≡ with_words m o w v (map.get m o)
  with_words_of w v ws e = put_back (slice_set ws w v) ∙ ap (with_words m o w v) (sym e)

  pub with_none : (w : ℕ) (v : Val) → map.get m o ≡ None → map.remove m o ≡ with_words m o w v (map.get m o)
  with_none w v e =
      map.same_map obj_total obj_apart (map.remove m o) m (λ q. map.get-remove obj_total m o q
      ∙ elim (obj_eq q o) as (λ b. obj_eq q o ≡ b → cond b None (map.get m q) ≡ map.get m q) [
        | true ↦ λ t. sym (ap (map.get m) (obj_equal q o t) ∙ e)
        | false ↦ λ t. refl
      ] refl)
      ∙ ap (with_words m o w v) (sym e)

or_empty : (q : Obj) (x : Option (List Val)) → elim x as (λ _. Option (List Val)) [ None ↦ map.get (map.empty {R = obj_cmp}) q | Some ws ↦ Some ws ] ≡ x
or_empty q None = map.get-empty obj_cmp q
or_empty q (Some ws) = refl

-- objects that are added to none
pub added_to_none : (es : List (Obj × List Val)) → T (is_sorted obj_cmp es)
    → (with_made es (record { objects = map.empty; locals = [] })).objects ≡ map.from_entries es
added_to_none es h =
    map.same_map obj_total obj_apart _ _ (λ q. get_with_made es (record { objects = map.empty; locals = [] }) q h ∙ or_empty q (find obj_cmp q es)
    ∙ sym (map.get-from_entries obj_total es q))
