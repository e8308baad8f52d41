-- What the map of a table has at an object.
use Rattle.std.proofs.Common.{◌≡◌, ◌≢◌, ℕ, zero, suc, ◌+◌, ◌<◌, Bool, true, false, cond, List, [], ◌∷◌, ◌++◌, Option, Some, None, slice_get, refl, sym, ap, ◌∙◌, arith}
use Rattle.std.specs.Option.{option_and_then}
use Rattle.std.specs.FinMap as map
use Rattle.std.specs.FinMap.{find}
use Rattle.al_core.specs.declared.values.Obj.{Obj}
use Rattle.al_core.specs.declared.values.Obj.TheVariants.{Global, Serial, Iter}
use Rattle.al_core.specs.declared.values.Val.{Val}
use Rattle.al_core.specs.Orders.{obj_cmp, obj_eq}
use Rattle.al_laws.proofs.Orders.{obj_total, obj_equal, obj_itself}
use Rattle.al_pages.specs.Tables.{Slots, Table, Entries, indexed, slot_entry, slot_entries, iteration_entries, execution_entries, objects_of, slot_at, list_at, object_at}

abbrev first : Option (List Val) → Option (List Val) → Option (List Val)
first (Some x) y = Some x
first None y = y

first_cond : (b : Bool) (x : List Val) (y z : Option (List Val)) → cond b (Some x) (first y z) ≡ first (cond b (Some x) y) z
first_cond true x y z = refl
first_cond false x y z = refl

first_none : (x : Option (List Val)) → first x None ≡ x
first_none None = refl
first_none (Some x) = refl

pub differ : (o p : Obj) → o ≢ p → obj_eq o p ≡ false
differ o p d = elim (obj_eq o p) as (λ b. obj_eq o p ≡ b → b ≡ false) [ true ↦ λ h. absurd (d (obj_equal o p h)) | false ↦ λ _. refl ] refl

module _ (q : Obj) where
  find_split : (xs ys : Entries) → find obj_cmp q (xs ++ ys) ≡ first (find obj_cmp q xs) (find obj_cmp q ys)
  find_split [] ys = refl
  find_split (x ∷ xs) ys =
      ap (cond (obj_eq q x.0) (Some x.1)) (find_split xs ys) ∙ first_cond (obj_eq q x.0) x.1 (find obj_cmp q xs) (find obj_cmp q ys)

  module _ {X : Type 0} (f : ℕ → X → Entries) where
    none_indexed : ((m : ℕ) (x : X) → find obj_cmp q (f m x) ≡ None) → (n : ℕ) (xs : List X) → find obj_cmp q (indexed f n xs) ≡ None
    none_indexed none n [] = refl
    none_indexed none n (x ∷ xs) = find_split (f n x) (indexed f (suc n) xs) ∙ (λ t. first (none n x t) (none_indexed none (suc n) xs t))

    module _ (i : ℕ) (others : (m : ℕ) (x : X) → m ≢ i → find obj_cmp q (f m x) ≡ None) where
      past : (n : ℕ) → i < n → (xs : List X) → find obj_cmp q (indexed f n xs) ≡ None
      past n h [] = refl
      past n h (x ∷ xs) =
          find_split (f n x) (indexed f (suc n) xs) ∙ (λ t. first (others n x (λ (e : n ≡ i). omega arith) t) (past (suc n) (omega arith) xs t))

      found : (n d : ℕ) → n + d ≡ i → (xs : List X) → find obj_cmp q (indexed f n xs) ≡ option_and_then (λ x. find obj_cmp q (f i x)) (slice_get xs d)
      found n d e [] = refl
      found n zero e (x ∷ xs) =
          let at : n ≡ i = omega arith in
          find_split (f n x) (indexed f (suc n) xs) ∙ (λ t. first (find obj_cmp q (f (at t) x)) (past (suc n) (omega arith) xs t))
          ∙ first_none (find obj_cmp q (f i x))
      found n (suc d) e (x ∷ xs) =
          find_split (f n x) (indexed f (suc n) xs) ∙ (λ t. first (others n x (λ (g : n ≡ i). omega arith) t) (found (suc n) d (omega arith) xs t))

  one_slot : (name : ℕ → Obj) (k : ℕ) → q ≡ name k → (s : Option (List Val)) → find obj_cmp q (slot_entry name k s) ≡ s
  one_slot name k e None = refl
  one_slot name k e (Some ws) = ap (λ b. cond b (Some ws) None) (ap (obj_eq q) (sym e) ∙ obj_itself q)

  no_slot : (name : ℕ → Obj) (k : ℕ) → q ≢ name k → (s : Option (List Val)) → find obj_cmp q (slot_entry name k s) ≡ None
  no_slot name k d None = refl
  no_slot name k d (Some ws) = ap (λ b. cond b (Some ws) None) (differ q (name k) d)

  none_slots : (name : ℕ → Obj) → ((m : ℕ) → q ≢ name m) → (slots : Slots) → find obj_cmp q (slot_entries name slots) ≡ None
  none_slots name d slots = none_indexed (slot_entry name) (λ m s. no_slot name m (d m) s) 0 slots

  same_slots : (f g : Option (List Val) → Option (List Val)) → ((s : Option (List Val)) → f s ≡ g s) → (s : Option (Option (List Val)))
      → option_and_then f s ≡ option_and_then g s
  same_slots f g e None = refl
  same_slots f g e (Some s) = e s

  the_slot : (name : ℕ → Obj) (k : ℕ) → q ≡ name k → ((m : ℕ) → m ≢ k → q ≢ name m) → (slots : Slots)
      → find obj_cmp q (slot_entries name slots) ≡ slot_at slots k
  the_slot name k e d slots =
      found (slot_entry name) k (λ m s h. no_slot name m (d m h) s) 0 k (omega arith) slots
      ∙ same_slots (λ s. find obj_cmp q (slot_entry name k s)) (λ s. s) (one_slot name k e) (slice_get slots k)

then_same : {X : Type 0} (f g : X → Option (List Val)) → ((x : X) → f x ≡ g x) → (o : Option X) → option_and_then f o ≡ option_and_then g o
then_same f g e None = refl
then_same f g e (Some x) = e x

other_iteration : (e j k f i : ℕ) → i ≢ j → (m : ℕ) → Iter e j k ≢ Iter f i m
other_iteration e j k f i d m h = d (let g : i ≡ j = cc in g)

other_execution : (e j k f i : ℕ) → f ≢ e → (m : ℕ) → Iter e j k ≢ Iter f i m
other_execution e j k f i d m h = d (let g : f ≡ e = cc in g)

-- past the end of a list of lists there is the empty list
at_or : {X Y : Type 0} (f : List X → Option Y) → f [] ≡ None → (xs : List (List X)) (i : ℕ)
    → option_and_then f (slice_get xs i) ≡ f (list_at xs i)
at_or f none [] i = sym none
at_or f none (x ∷ xs) zero = refl
at_or f none (x ∷ xs) (suc i) = at_or f none xs i

in_rows : (e j k : ℕ) (rows : List Slots)
    → find obj_cmp (Iter e j k) (iteration_entries e rows) ≡ slot_at (list_at rows j) k
in_rows e j k rows =
    let q = Iter e j k in
    found q (λ i slots. slot_entries (Iter e i) slots) j
    (λ i slots d. none_slots q (Iter e i) (other_iteration e j k e i d) slots) 0 j (omega arith) rows
    ∙ then_same _ _
    (λ slots. the_slot q (Iter e j) k refl (λ m d h. d (let g : m ≡ k = cc in g)) slots) (slice_get rows j)
    ∙ at_or (λ slots. slot_at slots k) refl rows j

in_executions : (e j k : ℕ) (xs : List (List Slots))
    → find obj_cmp (Iter e j k) (execution_entries xs) ≡ slot_at (list_at (list_at xs e) j) k
in_executions e j k xs =
    let q = Iter e j k in
    found q iteration_entries e
    (λ f its d. none_indexed q (λ i slots. slot_entries (Iter f i) slots)
    (λ i slots. none_slots q (Iter f i) (other_execution e j k f i d) slots) 0 its) 0 e (omega arith) xs
    ∙ then_same _ _ (λ its. in_rows e j k its) (slice_get xs e)
    ∙ at_or (λ its. slot_at (list_at its j) k) refl xs e

no_executions : (q : Obj) → ((e j k : ℕ) → q ≢ Iter e j k) → (xs : List (List Slots)) → find obj_cmp q (execution_entries xs) ≡ None
no_executions q d xs =
    none_indexed q iteration_entries
    (λ e its. none_indexed q (λ j slots. slot_entries (Iter e j) slots) (λ j slots. none_slots q (Iter e j) (d e j) slots) 0 its) 0 xs

pub get_object : (t : Table) (o : Obj) → map.get (objects_of t) o ≡ object_at t o
get_object t o =
    map.get-from_entries obj_total _ o ∙ find_split o (slot_entries Global t.globals) _
    ∙ ap (first (find obj_cmp o (slot_entries Global t.globals))) (find_split o (slot_entries Serial t.serial) _) ∙ go o
  where
    go : (o : Obj)
        → first (find obj_cmp o (slot_entries Global t.globals))
        (first (find obj_cmp o (slot_entries Serial t.serial)) (find obj_cmp o (execution_entries t.executions))) ≡ object_at t o
    go (Global k) =
        (λ z. first (the_slot (Global k) Global k refl (λ m d h. d (let g : m ≡ k = cc in g)) t.globals z)
        (first (none_slots (Global k) Serial (λ m h. cc) t.serial z) (no_executions (Global k) (λ e j i h. cc) t.executions z)))
        ∙ first_none (slot_at t.globals k)
    go (Serial k) =
        (λ z. first (none_slots (Serial k) Global (λ m h. cc) t.globals z)
        (first (the_slot (Serial k) Serial k refl (λ m d h. d (let g : m ≡ k = cc in g)) t.serial z)
        (no_executions (Serial k) (λ e j i h. cc) t.executions z)))
        ∙ first_none (slot_at t.serial k)
    go (Iter e j k) =
        λ z. first (none_slots (Iter e j k) Global (λ m h. cc) t.globals z)
        (first (none_slots (Iter e j k) Serial (λ m h. cc) t.serial z) (in_executions e j k t.executions z))
