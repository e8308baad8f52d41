-- What a chunk sees of its layers, object by object.
use Rattle.std.proofs.Common.{◌≡◌, ◌≢◌, ℕ, Bool, true, false, ◌||◌, cond, List, [], ◌∷◌, ◌++◌, Option, Some, None, is_some, slice_set, refl, sym, ap, ◌∙◌}
use Rattle.std.specs.Prelude.{option_map}
use Rattle.std.specs.Option.{option_and_then}
use Rattle.std.specs.FinMap as map
use Rattle.std.specs.FinMap.{find}
use Rattle.std.proofs.Math.Bool.{true≢false}
use Rattle.std.proofs.lemmas.List.Folds.{list_any-append}
use Rattle.al_core.specs.declared.values.Obj.{Obj}
use Rattle.al_core.specs.declared.values.Val.{Val}
use Rattle.al_core.specs.declared.values.Addr.TheVariants.{Word}
use Rattle.al_core.specs.Orders.{obj_cmp, obj_eq}
use Rattle.al_core.specs.Memory.{with_words}
use Rattle.al_laws.proofs.Orders.{obj_total, obj_apart, obj_equal, obj_itself}
use Rattle.al_heap.specs.Stores.{objects_in}
use Rattle.al_heap.proofs.SlotLemmas.{get_objects}
use Rattle.al_snap.specs.Layers.{Layers, laid, is_among, base_object, base_slots, slots_in, first_slots, seen}

-- ---- look-ups

abbrev pub first_of : {X : Type 0} → Option X → Option X → Option X
first_of (Some x) y = Some x
first_of None y = y

abbrev slot_of : Layers → Obj → Option (Option (List Val))
slot_of l q = first_of (map.get l.own q) (option_map (base_object l q) (map.get l.base.objects q))

first_cond : {X : Type 0} (b : Bool) (x : X) (y z : Option X) → cond b (Some x) (first_of y z) ≡ first_of (cond b (Some x) y) z
first_cond true x y z = refl
first_cond false x y z = refl

find_split : {X : Type 0} (q : Obj) (xs ys : List (Obj × X)) → find obj_cmp q (xs ++ ys) ≡ first_of (find obj_cmp q xs) (find obj_cmp q ys)
find_split q [] ys = refl
find_split q (x ∷ xs) ys =
    ap (cond (obj_eq q x.0) (Some x.1)) (find_split q xs ys)
    ∙ first_cond (obj_eq q x.0) x.1 (find obj_cmp q xs) (find obj_cmp q ys)

find_base : (l : Layers) (q : Obj) (es : List (Obj × List Val))
    → find obj_cmp q (base_slots l es) ≡ option_map (base_object l q) (find obj_cmp q es)
find_base l q [] = refl
find_base l q (e ∷ es) =
    elim (obj_eq q e.0) as (λ b. obj_eq q e.0 ≡ b
    → cond b (Some (base_object l e.0 e.1)) (find obj_cmp q (base_slots l es))
    ≡ option_map (base_object l q) (cond b (Some e.1) (find obj_cmp q es))) [
      | true ↦ λ t. ap (λ o. Some (base_object l o e.1)) (sym (obj_equal q e.0 t))
      | false ↦ λ _. find_base l q es
    ] refl

pub get_seen : (l : Layers) (q : Obj) → map.get (seen l).objects q ≡ option_and_then (λ s. s) (slot_of l q)
get_seen l q =
    get_objects (first_slots l) q
    ∙ ap (option_and_then (λ s. s)) (map.get-from_entries obj_total (slots_in l) q
    ∙ find_split q (map.entries l.own) (base_slots l (map.entries l.base.objects))
    ∙ (λ t. first_of (sym (map.get-entries l.own q) t)
    ((find_base l q (map.entries l.base.objects) ∙ ap (option_map (base_object l q)) (sym (map.get-entries l.base.objects q))) t)))

-- ---- an own object that is set

then_cond : (b : Bool) (s : Option (List Val)) (m : Option (Option (List Val)))
    → option_and_then (λ s. s) (cond b (Some s) m) ≡ cond b s (option_and_then (λ s. s) m)
then_cond true s m = refl
then_cond false s m = refl

module _ (l : Layers) (o : Obj) where
  own_set : (s : Option (List Val)) (q : Obj)
      → map.get (seen (record l { own = map.insert l.own o s })).objects q ≡ cond (obj_eq q o) s (map.get (seen l).objects q)
  own_set s q =
      get_seen (record l { own = map.insert l.own o s }) q
      ∙ ap (λ x. option_and_then (λ s. s) (first_of x (option_map (base_object l q) (map.get l.base.objects q))))
      (map.get-insert obj_total l.own o s q)
      ∙ ap (option_and_then (λ s. s)) (sym (first_cond (obj_eq q o) s (map.get l.own q) (option_map (base_object l q) (map.get l.base.objects q))))
      ∙ then_cond (obj_eq q o) s (slot_of l q)
      ∙ ap (cond (obj_eq q o) s) (sym (get_seen l q))

  pub seen_added : (ws : List Val) → (seen (record l { own = map.insert l.own o (Some ws) })).objects ≡ map.insert (seen l).objects o ws
  seen_added ws = map.same_map obj_total obj_apart _ _ (λ q.
      own_set (Some ws) q ∙ sym (map.get-insert obj_total (seen l).objects o ws q))

  pub seen_removed : (seen (record l { own = map.insert l.own o None })).objects ≡ map.remove (seen l).objects o
  seen_removed = map.same_map obj_total obj_apart _ _ (λ q.
      own_set None q ∙ sym (map.get-remove obj_total (seen l).objects o q))

same_cond : {A : Type 0} (b : Bool) (x y z : A) → cond b x (cond b y z) ≡ cond b x z
same_cond true x y z = refl
same_cond false x y z = refl

-- an own object that is taken out and put back with another word
pub seen_put_back : (l : Layers) (o : Obj) (w : ℕ) (v : Val) (ws : List Val) → Some ws ≡ map.get (seen l).objects o
    → (seen (record l { own = map.insert (map.insert l.own o None) o (Some (slice_set ws w v)) })).objects
    ≡ with_words (seen l).objects o w v (map.get (seen l).objects o)
seen_put_back l o w v ws e =
    map.same_map obj_total obj_apart _ (map.insert (seen l).objects o (slice_set ws w v)) (λ q.
    own_set (record l { own = map.insert l.own o None }) o (Some (slice_set ws w v)) q
    ∙ ap (cond (obj_eq q o) (Some (slice_set ws w v))) (own_set l o None q)
    ∙ same_cond (obj_eq q o) (Some (slice_set ws w v)) None (map.get (seen l).objects q)
    ∙ sym (map.get-insert obj_total (seen l).objects o (slice_set ws w v) q))
    ∙ ap (with_words (seen l).objects o w v) e

-- ---- an object of the memory below that is freed

none_then : (x : Option (List Val)) → option_and_then (λ (s : Option (List Val)). s) (option_map (λ ws. None) x) ≡ None
none_then None = refl
none_then (Some ws) = refl

differs : (q o : Obj) → obj_eq q o ≡ false → q ≢ o
differs q o f e = true≢false (sym (ap (λ p. obj_eq p o) e ∙ obj_itself o) ∙ f)

or_none : (b : Bool) → (b || false) ≡ b
or_none true = refl
or_none false = refl

or_all : (b : Bool) → (b || true) ≡ true
or_all true = refl
or_all false = refl

module _ (l : Layers) (o : Obj) (absent : map.contains_key l.own o ≡ false) where
  not_own : map.get l.own o ≡ None
  not_own = elim (map.get l.own o) as (λ s. is_some s ≡ false → s ≡ None) [
    | None ↦ λ _. refl
    | Some s ↦ λ e. absurd (true≢false e)
  ] absent

  after : Layers
  after = record l { freed = l.freed ++ o ∷ [] }

  among_after : (q : Obj) → is_among (l.freed ++ o ∷ []) q ≡ (is_among l.freed q || (obj_eq q o || false))
  among_after q = list_any-append (obj_eq q) l.freed (o ∷ [])

  pub seen_freed : (seen (record l { freed = l.freed ++ o ∷ [] })).objects ≡ map.remove (seen l).objects o
  seen_freed = map.same_map obj_total obj_apart _ _ (λ q.
      elim (obj_eq q o) as (λ b. obj_eq q o ≡ b
      → map.get (seen (record l { freed = l.freed ++ o ∷ [] })).objects q ≡ cond b None (map.get (seen l).objects q)) [
        | true ↦ λ t.
            let same : q ≡ o = obj_equal q o t in
            let gone : is_among (l.freed ++ o ∷ []) q ≡ true =
            among_after q ∙ ap (λ b. is_among l.freed q || (b || false)) t ∙ or_all (is_among l.freed q) in
            get_seen (record l { freed = l.freed ++ o ∷ [] }) q
            ∙ ap (λ x. option_and_then (λ s. s) (first_of x
            (option_map (base_object (record l { freed = l.freed ++ o ∷ [] }) q) (map.get l.base.objects q))))
            (ap (map.get l.own) same ∙ not_own)
            ∙ ap (λ b. option_and_then (λ s. s)
            (option_map (λ ws. cond b None (Some (laid l.writes (Word q) 0 ws))) (map.get l.base.objects q))) gone
            ∙ none_then (map.get l.base.objects q)
        | false ↦ λ f.
            let kept : is_among (l.freed ++ o ∷ []) q ≡ is_among l.freed q =
            among_after q ∙ ap (λ b. is_among l.freed q || (b || false)) f ∙ or_none (is_among l.freed q) in
            get_seen (record l { freed = l.freed ++ o ∷ [] }) q
            ∙ ap (λ b. option_and_then (λ s. s) (first_of (map.get l.own q)
            (option_map (λ ws. cond b None (Some (laid l.writes (Word q) 0 ws))) (map.get l.base.objects q)))) kept
            ∙ sym (get_seen l q)
      ] refl
      ∙ sym (map.get-remove obj_total (seen l).objects o q))

  -- what is there of an object of the memory below
  pub base_seen : map.get (seen l).objects o ≡ option_and_then (λ s. s) (option_map (base_object l o) (map.get l.base.objects o))
  base_seen =
      get_seen l o
      ∙ ap (λ x. option_and_then (λ s. s) (first_of x (option_map (base_object l o) (map.get l.base.objects o)))) not_own

  pub freed_seen : is_among l.freed o ≡ true → map.get (seen l).objects o ≡ None
  freed_seen gone =
      base_seen
      ∙ ap (λ b. option_and_then (λ s. s)
      (option_map (λ ws. cond b None (Some (laid l.writes (Word o) 0 ws))) (map.get l.base.objects o))) gone
      ∙ none_then (map.get l.base.objects o)

  some_then : (x : Option (List Val))
      → option_and_then (λ (s : Option (List Val)). s) (option_map (λ ws. Some (laid l.writes (Word o) 0 ws)) x)
      ≡ option_map (laid l.writes (Word o) 0) x
  some_then None = refl
  some_then (Some ws) = refl

  pub below_seen : is_among l.freed o ≡ false → map.get (seen l).objects o ≡ option_map (laid l.writes (Word o) 0) (map.get l.base.objects o)
  below_seen kept =
      base_seen
      ∙ ap (λ b. option_and_then (λ s. s)
      (option_map (λ ws. cond b None (Some (laid l.writes (Word o) 0 ws))) (map.get l.base.objects o))) kept
      ∙ some_then (map.get l.base.objects o)

-- an own object
pub own_seen : (l : Layers) (o : Obj) → map.contains_key l.own o ≡ true → map.get (seen l).objects o ≡ map.get (objects_in l.own) o
own_seen l o h =
    get_seen l o
    ∙ elim (map.get l.own o) as (λ s. is_some s ≡ true
    → option_and_then (λ (s : Option (List Val)). s) (first_of s (option_map (base_object l o) (map.get l.base.objects o)))
    ≡ option_and_then (λ s. s) s) [
      | None ↦ λ e. absurd (true≢false (sym e))
      | Some s ↦ λ _. refl
    ] h
    ∙ sym (get_objects l.own o)
