-- What a change of one slot makes of the objects of a table.
use Rattle.std.proofs.Common.{◌≡◌, ◌≢◌, ℕ, zero, suc, ◌<◌, ◌≤◌, ◌⊎◌, true, false, cond, nat_lt, List, [], ◌∷◌, length, Option, Some, None, slice_set, inl, inr, refl, sym, ap, ◌∙◌, arith}
use Rattle.std.specs.FinMap as map
use Rattle.std.proofs.Math.Bool.{true≢false}
use Rattle.std.proofs.lemmas.Bool.{ltb-true, lt-ltb, cases_lt}
use Rattle.std.proofs.lemmas.Bool.Decides.{eqb_tells}
use Rattle.std.proofs.lemmas.List.{get_or-set_other, length-set}
use Rattle.al_core.specs.declared.values.Obj.{Obj}
use Rattle.al_core.specs.declared.values.Obj.TheVariants.{Global, Serial, Iter}
use Rattle.al_core.specs.declared.values.Val.{Val}
use Rattle.al_core.specs.Orders.{obj_eq}
use Rattle.al_core.specs.Memory.{with_words}
use Rattle.al_laws.proofs.Orders.{obj_total, obj_apart, obj_equal, obj_itself}
use Rattle.al_laws.proofs.Words.{get_set_here, get_set_other}
use Rattle.std.specs.Option.{option_and_then}
use Rattle.al_pages.specs.Tables.{Slots, Table, SameObjects, slot_at, list_at, set_in_row, set_in_table, with_word, objects_of, slots_of, number_of, object_at, has_slot, set_object}
use Rattle.al_pages.proofs.Lookups.{get_object}

-- ---- one list

pub past_end : {X : Type 0} (xs : List X) (i : ℕ) (x : X) → length xs ≤ i → slice_set xs i x ≡ xs
past_end [] i x h = refl
past_end (y ∷ xs) zero x h = absurd (omega arith)
past_end (y ∷ xs) (suc i) x h = ap (λ l. y ∷ l) (past_end xs i x (omega arith))

none_past : (slots : Slots) (k : ℕ) → length slots ≤ k → slot_at slots k ≡ None
none_past [] k h = refl
none_past (x ∷ slots) zero h = absurd (omega arith)
none_past (x ∷ slots) (suc k) h = none_past slots k (omega arith)

slot_here : (slots : Slots) (k : ℕ) (s : Option (List Val)) → (length slots ≤ k → s ≡ None) → slot_at (slice_set slots k s) k ≡ s
slot_here slots k s beyond = elim (cases_lt k (length slots)) [
  | inl within ↦ ap (option_and_then (λ s. s)) (get_set_here slots k s within)
  | inr past ↦ ap (λ l. slot_at l k) (past_end slots k s past) ∙ none_past slots k past ∙ sym (beyond past)
]

slot_other : (slots : Slots) (k l : ℕ) (s : Option (List Val)) → l ≢ k → slot_at (slice_set slots k s) l ≡ slot_at slots l
slot_other slots k l s d = ap (option_and_then (λ s. s)) (get_set_other slots l k s d)

empty_past : {X : Type 0} (xs : List (List X)) (i : ℕ) → length xs ≤ i → list_at xs i ≡ []
empty_past [] i h = refl
empty_past (x ∷ xs) zero h = absurd (omega arith)
empty_past (x ∷ xs) (suc i) h = empty_past xs i (omega arith)

list_set : {X : Type 0} (xs : List (List X)) (i : ℕ) (x : List X) → i < length xs → list_at (slice_set xs i x) i ≡ x
list_set [] i x h = absurd (omega arith)
list_set (y ∷ xs) zero x h = refl
list_set (y ∷ xs) (suc i) x h = list_set xs i x (omega arith)

-- the list at a number, after one of its elements was set
list_here : {X : Type 0} (xs : List (List X)) (i k : ℕ) (x : X)
    → list_at (slice_set xs i (slice_set (list_at xs i) k x)) i ≡ slice_set (list_at xs i) k x
list_here xs i k x = elim (cases_lt i (length xs)) [
  | inl within ↦ list_set xs i (slice_set (list_at xs i) k x) within
  | inr past ↦
      ap (λ l. list_at l i) (past_end xs i (slice_set (list_at xs i) k x) past)
      ∙ empty_past xs i past
      ∙ ap (λ l. slice_set l k x) (sym (empty_past xs i past))
]

list_other : {X : Type 0} (xs : List (List X)) (i l : ℕ) (x : List X) → l ≢ i → list_at (slice_set xs i x) l ≡ list_at xs l
list_other xs i l x d = get_or-set_other xs i l x [] d

-- ---- the slots of a table

module _ (xs : List (List Slots)) (e j k : ℕ) (s : Option (List Val)) where
  row_there : list_at (list_at (set_in_table xs e j k s) e) j ≡ slice_set (list_at (list_at xs e) j) k s
  row_there =
      ap (λ (rows : List Slots). list_at rows j) (list_here xs e j (slice_set (list_at (list_at xs e) j) k s))
      ∙ list_here (list_at xs e) j k s

  row_other : (f i : ℕ) → (f ≡ e → i ≢ j) → list_at (list_at (set_in_table xs e j k s) f) i ≡ list_at (list_at xs f) i
  row_other f i d = elim (eqb_tells f e) [
    | inl same ↦
        ap (λ (f : ℕ). list_at (list_at (set_in_table xs e j k s) f) i) same.1
        ∙ ap (λ (rows : List Slots). list_at rows i) (list_here xs e j (slice_set (list_at (list_at xs e) j) k s))
        ∙ list_other (list_at xs e) j i (slice_set (list_at (list_at xs e) j) k s) (d same.1)
        ∙ ap (λ (f : ℕ). list_at (list_at xs f) i) (sym same.1)
    | inr other ↦
        ap (λ (rows : List Slots). list_at rows i) (list_other xs e f (set_in_row (list_at xs e) j k s) other.1)
  ]

number_apart : (e j k f i l : ℕ) → Iter f i l ≢ Iter e j k → f ≡ e → i ≡ j → l ≢ k
number_apart e j k f i l d a b c = d (λ t. Iter (a t) (b t) (c t))

module _ (t : Table) where
  -- another slot among the same ones, or among others
  pub slots_set : (o : Obj) (s : Option (List Val)) → slots_of (set_object t o s) o ≡ slice_set (slots_of t o) (number_of o) s
  slots_set (Global k) s = refl
  slots_set (Serial k) s = refl
  slots_set (Iter e j k) s = row_there t.executions e j k s

  slots_other : (o q : Obj) (s : Option (List Val)) → q ≢ o
      → (slots_of (set_object t o s) q ≡ slots_of t q)
      ⊎ ((slots_of (set_object t o s) q ≡ slice_set (slots_of t q) (number_of o) s) × (number_of q ≢ number_of o))
  slots_other (Global k) (Global l) s d = inr (refl, λ e. d (ap (λ k. Global k) e))
  slots_other (Global k) (Serial l) s d = inl refl
  slots_other (Global k) (Iter f i l) s d = inl refl
  slots_other (Serial k) (Global l) s d = inl refl
  slots_other (Serial k) (Serial l) s d = inr (refl, λ e. d (ap (λ k. Serial k) e))
  slots_other (Serial k) (Iter f i l) s d = inl refl
  slots_other (Iter e j k) (Global l) s d = inl refl
  slots_other (Iter e j k) (Serial l) s d = inl refl
  slots_other (Iter e j k) (Iter f i l) s d = elim (eqb_tells f e) [
    | inr other ↦ inl (row_other t.executions e j k s f i (λ a _. other.1 a))
    | inl same ↦ elim (eqb_tells i j) [
      | inr other ↦ inl (row_other t.executions e j k s f i (λ _ b. other.1 b))
      | inl also ↦ inr (
        (λ z. list_at (list_at (set_in_table t.executions e j k s) (same.1 z)) (also.1 z))
            ∙ row_there t.executions e j k s
            ∙ (λ z. slice_set (list_at (list_at t.executions (sym same.1 z)) (sym also.1 z)) k s),
        number_apart e j k f i l d same.1 also.1,
      )
    ]
  ]

  -- ---- its objects

  module _ (o : Obj) (s : Option (List Val)) where
    object_there : (length (slots_of t o) ≤ number_of o → s ≡ None) → object_at (set_object t o s) o ≡ s
    object_there beyond = ap (λ l. slot_at l (number_of o)) (slots_set o s) ∙ slot_here (slots_of t o) (number_of o) s beyond

    object_other : (q : Obj) → q ≢ o → object_at (set_object t o s) q ≡ object_at t q
    object_other q d = elim (slots_other o q s d) [
      | inl same ↦ ap (λ l. slot_at l (number_of q)) same
      | inr set ↦
          ap (λ l. slot_at l (number_of q)) set.0 ∙ slot_other (slots_of t q) (number_of o) (number_of q) s set.1
    ]

    object_set : (length (slots_of t o) ≤ number_of o → s ≡ None) → (q : Obj)
        → object_at (set_object t o s) q ≡ cond (obj_eq q o) s (object_at t q)
    object_set beyond q = elim (obj_eq q o) as (λ b. obj_eq q o ≡ b
        → object_at (set_object t o s) q ≡ cond b s (object_at t q)) [
          | true ↦ λ e. ap (object_at (set_object t o s)) (obj_equal q o e) ∙ object_there beyond
          | false ↦ λ e. object_other q (λ same. apart same e)
        ] refl
      where
        apart : q ≡ o → obj_eq q o ≡ false → ⊥
        apart same e = true≢false (sym (ap (λ p. obj_eq p o) same ∙ obj_itself o) ∙ e)

    pub slots_kept : (q : Obj) → length (slots_of (set_object t o s) q) ≡ length (slots_of t q)
    slots_kept q = elim (obj_eq q o) as (λ b. obj_eq q o ≡ b → length (slots_of (set_object t o s) q) ≡ length (slots_of t q)) [
      | true ↦ λ e.
          ap (λ p. length (slots_of (set_object t o s) p)) (obj_equal q o e)
          ∙ ap length (slots_set o s)
          ∙ length-set (slots_of t o) (number_of o) s
          ∙ ap (λ p. length (slots_of t p)) (sym (obj_equal q o e))
      | false ↦ λ e. elim (slots_other o q s (λ same. true≢false (sym (ap (λ p. obj_eq p o) same ∙ obj_itself o) ∙ e))) [
        | inl same ↦ ap length same
        | inr set ↦ ap length set.0 ∙ length-set (slots_of t q) (number_of o) s
      ]
    ] refl

  -- ---- as maps

  pub objects_put : (o : Obj) (ws : List Val) → has_slot t o ≡ true
      → objects_of (set_object t o (Some ws)) ≡ map.insert (objects_of t) o ws
  objects_put o ws h =
      let within : number_of o < length (slots_of t o) = ltb-true _ _ h in
      map.same_map obj_total obj_apart _ _ (λ q.
      get_object (set_object t o (Some ws)) q
      ∙ object_set o (Some ws) (λ past. absurd (omega arith)) q
      ∙ ap (cond (obj_eq q o) (Some ws)) (sym (get_object t q))
      ∙ sym (map.get-insert obj_total (objects_of t) o ws q))

  pub objects_taken : (o : Obj) → objects_of (set_object t o None) ≡ map.remove (objects_of t) o
  objects_taken o = map.same_map obj_total obj_apart _ _ (λ q.
      get_object (set_object t o None) q
      ∙ object_set o None (λ _. refl) q
      ∙ ap (cond (obj_eq q o) None) (sym (get_object t q))
      ∙ sym (map.get-remove obj_total (objects_of t) o q))

  get_words : (o : Obj) (w : ℕ) (v : Val) (s : Option (List Val)) (q : Obj) → map.get (objects_of t) o ≡ s
      → map.get (with_words (objects_of t) o w v s) q ≡ cond (obj_eq q o) (with_word s w v) (map.get (objects_of t) q)
  get_words o w v (Some ws) q e = map.get-insert obj_total (objects_of t) o (slice_set ws w v) q
  get_words o w v None q e = elim (obj_eq q o) as (λ b. obj_eq q o ≡ b
      → map.get (objects_of t) q ≡ cond b None (map.get (objects_of t) q)) [
        | true ↦ λ f. ap (map.get (objects_of t)) (obj_equal q o f) ∙ e
        | false ↦ λ _. refl
      ] refl

  pub word_replaced : (o : Obj) (w : ℕ) (v : Val)
      → objects_of (set_object t o (with_word (object_at t o) w v)) ≡ with_words (objects_of t) o w v (map.get (objects_of t) o)
  word_replaced o w v =
      let s : Option (List Val) = with_word (object_at t o) w v in
      map.same_map obj_total obj_apart (objects_of (set_object t o s)) _ (λ q.
      get_object (set_object t o s) q
      ∙ object_set o s (λ past. ap (λ x. with_word x w v) (none_past (slots_of t o) (number_of o) past)) q
      ∙ (λ z. cond (obj_eq q o) (with_word (sym (get_object t o) z) w v) (sym (get_object t q) z))
      ∙ sym (get_words o w v (map.get (objects_of t) o) q refl))

pub objects_same : (t u : Table) → SameObjects t u → objects_of u ≡ objects_of t
objects_same t u same = map.same_map obj_total obj_apart _ _ (λ q.
    get_object u q ∙ (same q).same (number_of q) ∙ sym (get_object t q))

-- names that have slots keep them
pub names_kept : (t u : Table) (o : Obj) → length (slots_of t o) ≤ length (slots_of u o) → has_slot t o ≡ true → has_slot u o ≡ true
names_kept t u o grown h =
    let within : number_of o < length (slots_of t o) = ltb-true _ _ h in
    lt-ltb (number_of o) (length (slots_of u o)) (omega arith)

pub set_keeps_names : (t u : Table) (o : Obj) (s : Option (List Val)) → u ≡ set_object t o s → (q : Obj)
    → has_slot t q ≡ true → has_slot u q ≡ true
set_keeps_names t u o s e q h =
    ap (λ u. has_slot u q) e ∙ ap (λ (n : ℕ). nat_lt (number_of q) n) (slots_kept t o s q) ∙ h
