-- The objects that are in their slots.
use Rattle.std.proofs.Common.{◌≡◌, Bool, true, false, ◌&&◌, cond, T, List, [], ◌∷◌, Option, Some, None, is_some, refl, sym, ap, ◌∙◌}
use Rattle.std.specs.Prelude.{IfSome, OnOk, Result, Ok, Err}
use Rattle.std.specs.declared.cmp.Ordering.TheVariants.{Less, Equal, Greater}
use Rattle.std.specs.Ordering.{is_lt, is_eq}
use Rattle.std.specs.Cmp.{Equal-is, tied_itself}
use Rattle.std.specs.Option.{option_and_then}
use Rattle.std.specs.FinMap as map
use Rattle.std.specs.FinMap.{FinMap, find}
use Rattle.std.specs.FinMap.Entries.{is_sorted, below_all}
use Rattle.al_core.specs.declared.values.Obj.{Obj}
use Rattle.al_core.specs.declared.values.Val.{Val}
use Rattle.al_core.specs.Orders.{obj_cmp, obj_eq}
use Rattle.al_laws.proofs.Orders.{obj_total, obj_apart}
use Rattle.std.specs.BTreeMap.{BTreeMap, is_at}
use Rattle.std.specs.BTreeMap as tree
use Rattle.std.proofs.Math.Bool.{true≢false}
use Rattle.al_heap.proofs.DerivedOrders.{obj_derived, obj_order}
use Rattle.al_heap.proofs.Kept.{map_get, map_insert, map_remove}
use Rattle.al_heap.specs.Stores.{slot_in, with_slot, present, objects_in, with_name, AreReady, IsReadyFor, IsReadyForEach}

first_true : (a b : Bool) → T (a && b) → T a
first_true true b h = tt
first_true false b h = h

second_true : (a b : Bool) → T (a && b) → T b
second_true true b h = h
second_true false b h = absurd h

-- ---- look-ups

-- a key that is below all entries is in none
pub not_found : {X : Type 0} (q x : Obj) (es : List (Obj × X)) → obj_cmp q x ≡ Equal → T (below_all obj_cmp x es)
    → find obj_cmp q es ≡ None
not_found q x [] tie h = refl
not_found q x (e ∷ es) tie h =
    elim (obj_cmp x e.0) as (λ r. obj_cmp x e.0 ≡ r → T (is_lt r && below_all obj_cmp x es) → find obj_cmp q (e ∷ es) ≡ None) [
      | Less ↦ λ t h.
          ap (λ r. cond (is_eq r) (Some e.1) (find obj_cmp q es)) (obj_total.congr q x e.0 tie ∙ t) ∙ not_found q x es tie h
      | Equal ↦ λ t h. absurd h
      | Greater ↦ λ t h. absurd h
    ] refl h

found_here : (q o : Obj) (s : Option (List Val)) (es : List (Obj × List Val)) → obj_eq q o ≡ true → find obj_cmp q es ≡ None
    → find obj_cmp q (with_slot o s es) ≡ s
found_here q o None es e n = n
found_here q o (Some ws) es e n = ap (λ b. cond b (Some ws) (find obj_cmp q es)) e

found_past : (q o : Obj) (s : Option (List Val)) (es : List (Obj × List Val)) → obj_eq q o ≡ false
    → find obj_cmp q (with_slot o s es) ≡ find obj_cmp q es
found_past q o None es e = refl
found_past q o (Some ws) es e = ap (λ b. cond b (Some ws) (find obj_cmp q es)) e

pub found_present : (q : Obj) (es : List (Obj × Option (List Val))) → T (is_sorted obj_cmp es)
    → find obj_cmp q (present es) ≡ option_and_then (λ s. s) (find obj_cmp q es)
found_present q [] h = refl
found_present q (e ∷ es) h =
    let rest = found_present q es (second_true (below_all obj_cmp e.0 es) (is_sorted obj_cmp es) h) in
    elim (obj_eq q e.0) as (λ b. obj_eq q e.0 ≡ b
    → find obj_cmp q (with_slot e.0 e.1 (present es)) ≡ option_and_then (λ s. s) (cond b (Some e.1) (find obj_cmp q es))) [
      | true ↦ λ t.
          let none =
          not_found q e.0 es ((Equal-is (obj_cmp q e.0)).0 t)
          (first_true (below_all obj_cmp e.0 es) (is_sorted obj_cmp es) h) in
          found_here q e.0 e.1 (present es) t (rest ∙ ap (option_and_then (λ s. s)) none)
      | false ↦ λ f. found_past q e.0 e.1 (present es) f ∙ rest
    ] refl

pub get_objects : (slots : FinMap obj_cmp (Option (List Val))) (q : Obj) → map.get (objects_in slots) q ≡ slot_in slots q
get_objects slots q =
    map.get-from_entries obj_total (present (map.entries slots)) q
    ∙ found_present q (map.entries slots) (map.entries_sorted slots)
    ∙ ap (option_and_then (λ s. s)) (sym (map.get-entries slots q))

-- ---- changes

then_cond : (b : Bool) (s : Option (List Val)) (m : Option (Option (List Val)))
    → option_and_then (λ s. s) (cond b (Some s) m) ≡ cond b s (option_and_then (λ s. s) m)
then_cond true s m = refl
then_cond false s m = refl

slot_insert : (slots : FinMap obj_cmp (Option (List Val))) (o : Obj) (s : Option (List Val)) (q : Obj)
    → slot_in (map.insert slots o s) q ≡ cond (obj_eq q o) s (slot_in slots q)
slot_insert slots o s q =
    ap (option_and_then (λ s. s)) (map.get-insert obj_total slots o s q) ∙ then_cond (obj_eq q o) s (map.get slots q)

-- an object put into the slot of a name
pub objects_insert : (slots : FinMap obj_cmp (Option (List Val))) (o : Obj) (ws : List Val)
    → objects_in (map.insert slots o (Some ws)) ≡ map.insert (objects_in slots) o ws
objects_insert slots o ws = map.same_map obj_total obj_apart _ _ (λ q.
    get_objects (map.insert slots o (Some ws)) q
    ∙ slot_insert slots o (Some ws) q
    ∙ ap (cond (obj_eq q o) (Some ws)) (sym (get_objects slots q))
    ∙ sym (map.get-insert obj_total (objects_in slots) o ws q))

-- a slot that is emptied
pub objects_remove : (slots : FinMap obj_cmp (Option (List Val))) (o : Obj)
    → objects_in (map.insert slots o None) ≡ map.remove (objects_in slots) o
objects_remove slots o = map.same_map obj_total obj_apart _ _ (λ q.
    get_objects (map.insert slots o None) q
    ∙ slot_insert slots o None q
    ∙ ap (cond (obj_eq q o) None) (sym (get_objects slots q))
    ∙ sym (map.get-remove obj_total (objects_in slots) o q))

same_cond : {A : Type 0} (b : Bool) (x y z : A) → cond b x (cond b y z) ≡ cond b x z
same_cond true x y z = refl
same_cond false x y z = refl

-- an object that is taken out and put back
pub objects_put_back : (slots : FinMap obj_cmp (Option (List Val))) (o : Obj) (ws : List Val)
    → objects_in (map.insert (map.insert slots o None) o (Some ws)) ≡ map.insert (objects_in slots) o ws
objects_put_back slots o ws = map.same_map obj_total obj_apart _ _ (λ q.
    get_objects (map.insert (map.insert slots o None) o (Some ws)) q
    ∙ slot_insert (map.insert slots o None) o (Some ws) q
    ∙ ap (cond (obj_eq q o) (Some ws)) (slot_insert slots o None q ∙ ap (cond (obj_eq q o) None) (sym (get_objects slots q)))
    ∙ same_cond (obj_eq q o) (Some ws) None (map.get (objects_in slots) q)
    ∙ sym (map.get-insert obj_total (objects_in slots) o ws q))

-- ---- slots that an ordered map of std holds

pub slot_of_tree : (m : BTreeMap Obj (Option (List Val))) (o : Obj)
    → option_and_then (λ s. s) (tree.get obj_derived m o) ≡ slot_in (map.from_entries m.entries) o
slot_of_tree m o = ap (option_and_then (λ s. s)) (map_get obj_derived obj_cmp obj_order obj_total obj_apart m o)

-- a name that has a slot
pub has_slot : (m : BTreeMap Obj (Option (List Val))) (slots : FinMap obj_cmp (Option (List Val))) (o : Obj)
    → map.from_entries m.entries ≡ slots → is_some (tree.get obj_derived m o) ≡ map.contains_key slots o
has_slot m slots o e =
    ap is_some (map_get obj_derived obj_cmp obj_order obj_total obj_apart m o) ∙ ap (λ s. map.contains_key s o) e

pub none_is_no_slot : (m : BTreeMap Obj (Option (List Val))) (slots : FinMap obj_cmp (Option (List Val))) (o : Obj)
    → map.from_entries m.entries ≡ slots → map.contains_key slots o ≡ true → tree.get obj_derived m o ≡ None → ⊥
none_is_no_slot m slots o e h n = true≢false (sym h ∙ sym (has_slot m slots o e) ∙ ap is_some n)

-- a slot that was there
pub slot_there : (m : BTreeMap Obj (Option (List Val))) (slots : FinMap obj_cmp (Option (List Val))) (o : Obj)
    → map.from_entries m.entries ≡ slots → true ≡ is_some (tree.get obj_derived m o) → slots ≡ with_name slots o
slot_there m slots o e h = ap (λ b. cond b slots (map.insert slots o None)) (h ∙ has_slot m slots o e)

-- a slot that is made
pub slot_made : (m n : BTreeMap Obj (Option (List Val))) (slots : FinMap obj_cmp (Option (List Val))) (o : Obj)
    → map.from_entries m.entries ≡ slots → false ≡ is_some (tree.get obj_derived m o)
    → ((q : Obj) → tree.get obj_derived n q ≡ cond (is_at (obj_derived o) q) (Some None) (tree.get obj_derived m q))
    → map.from_entries n.entries ≡ with_name slots o
slot_made m n slots o e h updates =
    map_insert obj_derived obj_cmp obj_order obj_total obj_apart m n o None updates
    ∙ ap (λ s. map.insert s o None) e
    ∙ ap (λ b. cond b slots (map.insert slots o None)) (h ∙ has_slot m slots o e)

-- ---- the names that have slots

tied : (q o : Obj) → obj_eq q o ≡ true → q ≡ o
tied q o e = obj_apart q o ((Equal-is (obj_cmp q o)).0 e)

some_cond : (b : Bool) (s : Option (List Val)) (m : Option (Option (List Val))) → is_some m ≡ true
    → is_some (cond b (Some s) m) ≡ true
some_cond true s m h = refl
some_cond false s m h = h

pub names_kept : (slots : FinMap obj_cmp (Option (List Val))) (o : Obj) (s : Option (List Val)) (q : Obj)
    → map.contains_key slots q ≡ true → map.contains_key (map.insert slots o s) q ≡ true
names_kept slots o s q h =
    ap is_some (map.get-insert obj_total slots o s q) ∙ some_cond (obj_eq q o) s (map.get slots q) h

pub has_name : (slots : FinMap obj_cmp (Option (List Val))) (o : Obj) (s : Option (List Val))
    → map.contains_key (map.insert slots o s) o ≡ true
has_name slots o s =
    ap is_some (map.get-insert obj_total slots o s o)
    ∙ ap (λ b. is_some (cond b (Some s) (map.get slots o))) (ap is_eq (tied_itself obj_total o))

module _ (slots : FinMap obj_cmp (Option (List Val))) (o : Obj) where
  no_slot : map.contains_key slots o ≡ false → slot_in slots o ≡ None
  no_slot h = elim (map.get slots o) as (λ s. is_some s ≡ false → option_and_then (λ s. s) s ≡ None) [
    | None ↦ λ _. refl
    | Some s ↦ λ e. absurd (true≢false e)
  ] h

  slot_same : map.get (map.remove (objects_in slots) o) o ≡ None
  slot_same =
      map.get-remove obj_total (objects_in slots) o o
      ∙ ap (λ b. cond b None (map.get (objects_in slots) o)) (ap is_eq (tied_itself obj_total o))

  -- what is not there is taken out of its place without a change
  without_none : slot_in slots o ≡ None → objects_in slots ≡ map.remove (objects_in slots) o
  without_none none = map.same_map obj_total obj_apart _ _ (λ q.
      elim (obj_eq q o) as (λ b. obj_eq q o ≡ b → map.get (objects_in slots) q ≡ cond b None (map.get (objects_in slots) q)) [
        | true ↦ λ t. ap (map.get (objects_in slots)) (tied q o t) ∙ get_objects slots o ∙ none
        | false ↦ λ _. refl
      ] refl
      ∙ sym (map.get-remove obj_total (objects_in slots) o q))

  pub objects_without : map.contains_key slots o ≡ false → objects_in slots ≡ map.remove (objects_in slots) o
  objects_without h = without_none (no_slot h)

  pub taken_none : map.contains_key slots o ≡ false → None ≡ map.get (objects_in slots) o
  taken_none h = sym (get_objects slots o ∙ no_slot h)

  same_none : map.contains_key slots o ≡ false → objects_in (map.insert slots o None) ≡ objects_in slots
  same_none h = objects_remove slots o ∙ sym (objects_without h)

  by_name : (P : FinMap obj_cmp (Option (List Val)) → Type 0) → (map.contains_key slots o ≡ true → P slots)
      → (map.contains_key slots o ≡ false → P (map.insert slots o None)) → P (with_name slots o)
  by_name P there absent = elim (map.contains_key slots o) as (λ b. map.contains_key slots o ≡ b
      → P (cond b slots (map.insert slots o None))) [
        | true ↦ there
        | false ↦ absent
      ] refl

  pub objects_named : objects_in (with_name slots o) ≡ objects_in slots
  objects_named = by_name (λ s. objects_in s ≡ objects_in slots) (λ _. refl) same_none

  pub name_there : map.contains_key (with_name slots o) o ≡ true
  name_there = by_name (λ s. map.contains_key s o ≡ true) (λ h. h) (λ _. has_name slots o None)

  pub names_stay : (q : Obj) → map.contains_key slots q ≡ true → map.contains_key (with_name slots o) q ≡ true
  names_stay q h = by_name (λ s. map.contains_key s q ≡ true) (λ _. h) (λ _. names_kept slots o None q h)

pub objects_empty : objects_in map.empty ≡ map.empty
objects_empty = map.same_map obj_total obj_apart _ _ (λ q.
    get_objects map.empty q
    ∙ ap (option_and_then (λ s. s)) (map.get-empty obj_cmp q)
    ∙ sym (map.get-empty obj_cmp q))

-- ---- slots that are taken out

slot_remove : (slots : FinMap obj_cmp (Option (List Val))) (o q : Obj)
    → slot_in (map.remove slots o) q ≡ cond (obj_eq q o) None (slot_in slots q)
slot_remove slots o q =
    ap (option_and_then (λ s. s)) (map.get-remove obj_total slots o q)
    ∙ elim (obj_eq q o) as (λ b. option_and_then (λ s. s) (cond b None (map.get slots q)) ≡ cond b None (slot_in slots q)) [
      | true ↦ refl
      | false ↦ refl
    ]

pub objects_popped : (slots : FinMap obj_cmp (Option (List Val))) (o : Obj)
    → objects_in (map.remove slots o) ≡ map.remove (objects_in slots) o
objects_popped slots o = map.same_map obj_total obj_apart _ _ (λ q.
    get_objects (map.remove slots o) q
    ∙ slot_remove slots o q
    ∙ ap (cond (obj_eq q o) None) (sym (get_objects slots q))
    ∙ sym (map.get-remove obj_total (objects_in slots) o q))

-- a slot with no object in it
pub objects_passed : (slots : FinMap obj_cmp (Option (List Val))) (o : Obj) → map.get slots o ≡ Some None
    → objects_in (map.remove slots o) ≡ objects_in slots
objects_passed slots o e =
    objects_popped slots o ∙ sym (without_none slots o (ap (option_and_then (λ s. s)) e))

pub object_there : (slots : FinMap obj_cmp (Option (List Val))) (o : Obj) (ws : List Val) → map.get slots o ≡ Some (Some ws)
    → map.get (objects_in slots) o ≡ Some ws
object_there slots o ws e = get_objects slots o ∙ ap (option_and_then (λ s. s)) e

pub slot_found : (m : BTreeMap Obj (Option (List Val))) (slots : FinMap obj_cmp (Option (List Val))) (o : Obj) (s : Option (List Val))
    → map.from_entries m.entries ≡ slots → tree.get obj_derived m o ≡ Some s → map.get slots o ≡ Some s
slot_found m slots o s e h =
    ap (λ s. map.get s o) (sym e) ∙ sym (map_get obj_derived obj_cmp obj_order obj_total obj_apart m o) ∙ h

pub slot_popped : (m n : BTreeMap Obj (Option (List Val))) (slots : FinMap obj_cmp (Option (List Val))) (o : Obj)
    → map.from_entries m.entries ≡ slots
    → ((q : Obj) → tree.get obj_derived n q ≡ cond (is_at (obj_derived o) q) None (tree.get obj_derived m q))
    → map.from_entries n.entries ≡ map.remove slots o
slot_popped m n slots o e updates =
    map_remove obj_derived obj_cmp obj_order obj_total obj_apart m n o updates ∙ ap (λ s. map.remove s o) e

pub no_slots : (es : List (Obj × Option (List Val))) (slots : FinMap obj_cmp (Option (List Val))) → map.from_entries es ≡ slots
    → es ≡ [] → slots ≡ map.empty
no_slots es slots e none =
    sym e
    ∙ ap map.from_entries none
    ∙ map.same_map obj_total obj_apart _ _ (λ q. map.get-from_entries obj_total [] q ∙ sym (map.get-empty obj_cmp q))

-- ---- stores that are ready for each object

some_slot : (ready : Obj → Bool) (o : Obj) (s : Option (List Val)) → IsReadyFor ready o s → is_some s ≡ true → ready o ≡ true
some_slot ready o None h t = absurd (true≢false (sym t))
some_slot ready o (Some ws) h t = h

ready_found : (ready : Obj → Bool) (es : List (Obj × Option (List Val))) (o : Obj) → IsReadyForEach ready es
    → is_some (option_and_then (λ s. s) (find obj_cmp o es)) ≡ true → ready o ≡ true
ready_found ready [] o h t = absurd (true≢false (sym t))
ready_found ready (e ∷ es) o h t =
    elim (obj_eq o e.0) as (λ b. obj_eq o e.0 ≡ b
    → is_some (option_and_then (λ s. s) (cond b (Some e.1) (find obj_cmp o es))) ≡ true → ready o ≡ true) [
      | true ↦ λ same t. ap ready (tied o e.0 same) ∙ some_slot ready e.0 e.1 h.0 t
      | false ↦ λ _ t. ready_found ready es o h.1 t
    ] refl t

pub all_ready : (ready : Obj → Bool) (es : List (Obj × Option (List Val))) (slots : FinMap obj_cmp (Option (List Val)))
    → map.from_entries es ≡ slots → IsReadyForEach ready es → AreReady ready slots
all_ready ready es slots e h o t =
    ready_found ready es o h
    (ap is_some
    (ap (option_and_then (λ s. s)) (sym (map.get-from_entries obj_total es o) ∙ ap (λ s. map.get s o) e)
    ∙ sym (get_objects slots o))
    ∙ t)

pub ready_or : (ready : Obj → Bool) (o : Obj) (s : Option (List Val)) → ready o ≡ true → IsReadyFor ready o s
ready_or ready o None h = tt
ready_or ready o (Some ws) h = h

pub slot_out : (m n : BTreeMap Obj (Option (List Val))) (slots : FinMap obj_cmp (Option (List Val))) (r : Option (Obj × Option (List Val)))
    → map.from_entries m.entries ≡ slots → IfSome r (λ p. tree.get obj_derived m p.0 ≡ Some p.1)
    → IfSome r (λ p. tree.Updates obj_derived m n p.0 None)
    → IfSome r (λ e. (map.get slots e.0 ≡ Some e.1) × (map.from_entries n.entries ≡ map.remove slots e.0))
slot_out m n slots None e f g = tt
slot_out m n slots (Some p) e f g = (slot_found m slots p.0 p.1 e f, slot_popped m n slots p.0 e g.0)

pub on_ok : {A E : Type 0} (r : Result A E) (P Q : Type 0) → (P → Q) → OnOk r P → OnOk r Q
on_ok (Ok a) P Q f h = f h
on_ok (Err e) P Q f h = tt
