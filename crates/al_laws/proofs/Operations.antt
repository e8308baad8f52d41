-- What the operations of a content leave as it was.
use Rattle.std.proofs.Common.{◌≡◌, ℕ, List, Option, Some, None, Bool, true, false, cond, refl, sym, ap, ◌∙◌}
use Rattle.std.specs.Prelude.{if◌then◌else◌, is_some, option_map, slice_set}
use Rattle.std.specs.FinMap as map
use Rattle.std.specs.FinSet as set
use Rattle.std.specs.FinSet.{FinSet}
use Rattle.std.proofs.Math.Bool.{true≢false}
use Rattle.al_core.specs.declared.values.Val.{Val}
use Rattle.al_core.specs.declared.values.Addr.{Addr}
use Rattle.al_core.specs.declared.values.Addr.TheVariants.{Word, Head, Local}
use Rattle.al_core.specs.declared.values.Kind.{Kind}
use Rattle.al_core.specs.declared.values.Obj.{Obj}
use Rattle.al_core.specs.Orders.{obj_cmp, obj_eq}
use Rattle.al_core.specs.Memory.{Memory, has_object, value_at, put, remove}
use Rattle.al_core.specs.Access.{AccessRecord, Content, with_accesses, record_load, record_store, record_free, free_recorded, is_own, red_index, load_recorded, store_recorded, load_by, store_by, store_in, is_freeable, free_there, free_if, load, store, free}
use Rattle.al_laws.proofs.Stays.{get_put, get_remove, load_reads}

-- ---- objects that are there

put_some : (b : Bool) (f : List Val → List Val) (x : Option (List Val)) → is_some (if b then option_map f x else x) ≡ is_some x
put_some true f None = refl
put_some true f (Some l) = refl
put_some false f x = refl

-- a put makes no object and takes none away
pub put_there : (m : Memory) (a : Addr) (v : Val) (q : Obj) → has_object (put m a v) q ≡ has_object m q
put_there m (Word o w) v q = ap is_some (get_put m o w v q) ∙ put_some (obj_eq q o) (λ l. slice_set l w v) (map.get m.objects q)
put_there m (Head o) v q = refl
put_there m (Local k) v q = refl

left_some : (b : Bool) (x : Option (List Val)) → is_some (cond b None x) ≡ true → is_some x ≡ true
left_some true x h = absurd (true≢false (sym h))
left_some false x h = h

-- what is there after another was taken out was there
pub there_still : (m : Memory) (o q : Obj) → has_object (remove m o) q ≡ true → has_object m q ≡ true
there_still m o q h = left_some (obj_eq q o) (map.get m.objects q) (sym (ap is_some (get_remove m o q)) ∙ h)

-- ---- operations that make nothing and print nothing

-- the objects that a chunk made
abbrev pub made_by : Option AccessRecord → FinSet obj_cmp
made_by (Some accesses) = accesses.made
made_by None = set.empty

-- every object that is there was there, and what was allocated, printed and made is the same
pub record Leaves (c d : Content) : Type 0 where
  pub objects : (o : Obj) → has_object d.memory o ≡ true → has_object c.memory o ≡ true
  pub allocations : d.allocations ≡ c.allocations
  pub printed : d.printed ≡ c.printed
  pub made : made_by d.accesses ≡ made_by c.accesses

leaves_itself : (c : Content) → Leaves c c
leaves_itself c = record { objects = λ o h. h; allocations = refl; printed = refl; made = refl }

-- another record
leaves_log : (c : Content) (accesses l : AccessRecord) → c.accesses ≡ Some accesses → l.made ≡ accesses.made → Leaves c (with_accesses c l)
leaves_log c accesses l is e = record { objects = λ o h. h; allocations = refl; printed = refl; made = e ∙ ap made_by (sym is) }

leaves_own : (c : Content) (accesses : AccessRecord) (b : Bool) (l : AccessRecord) → c.accesses ≡ Some accesses → l.made ≡ accesses.made
    → Leaves c (if b then c else with_accesses c l)
leaves_own c accesses true l is e = leaves_itself c
leaves_own c accesses false l is e = leaves_log c accesses l is e

load_index : (c : Content) (accesses : AccessRecord) (a : Addr) (k : Kind) (i : Option ℕ) → c.accesses ≡ Some accesses
    → Leaves c (load_recorded c accesses a k i).1
load_index c accesses a k (Some i) is = leaves_itself c
load_index c accesses a k None is =
    leaves_own c accesses (is_own accesses a) (record_load accesses a (value_at c.memory a)) is
    (ap (λ l. l.made) (load_reads accesses a (value_at c.memory a)).2)

load_by_leaves : (l : Option AccessRecord) (c : Content) (a : Addr) (k : Kind) → c.accesses ≡ l → Leaves c (load_by l c a k).1
load_by_leaves None c a k is = leaves_itself c
load_by_leaves (Some accesses) c a k is = load_index c accesses a k (red_index accesses.reds a) is

pub load_leaves : (a : Addr) (k : Kind) (c : Content) → Leaves c (load a k c).1
unfolding load
load_leaves a k c = load_by_leaves c.accesses c a k refl

store_in_leaves : (c d : Content) (a : Addr) (x : Val) (v : Option Val) → Leaves c d → Leaves c (store_in d a x v).1
store_in_leaves c d a x (Some old) h =
    record { objects = λ o t. h.objects o (sym (put_there d.memory a x o) ∙ t); allocations = h.allocations; printed = h.printed; made = h.made }
store_in_leaves c d a x None h = h

store_made : (accesses : AccessRecord) (a : Addr) (v : Option Val) → (record_store accesses a v).made ≡ accesses.made
store_made accesses (Word o w) (Some v) = refl
store_made accesses (Word o w) None = refl
store_made accesses (Head o) (Some v) = refl
store_made accesses (Head o) None = refl
store_made accesses (Local k) (Some v) = refl
store_made accesses (Local k) None = refl

store_index : (c : Content) (accesses : AccessRecord) (a : Addr) (x : Val) (i : Option ℕ) → c.accesses ≡ Some accesses
    → Leaves c (store_recorded c accesses a x i).1
store_index c accesses a x (Some i) is = leaves_log c accesses _ is refl
store_index c accesses a x None is =
    store_in_leaves c _ a x (value_at c.memory a)
    (leaves_own c accesses (is_own accesses a) (record_store accesses a (value_at c.memory a)) is (store_made accesses a (value_at c.memory a)))

store_by_leaves : (l : Option AccessRecord) (c : Content) (a : Addr) (x : Val) → c.accesses ≡ l → Leaves c (store_by l c a x).1
store_by_leaves None c a x is = store_in_leaves c c a x (value_at c.memory a) (leaves_itself c)
store_by_leaves (Some accesses) c a x is = store_index c accesses a x (red_index accesses.reds a) is

pub store_leaves : (a : Addr) (x : Val) (c : Content) → Leaves c (store a x c).1
unfolding store
store_leaves a x c = store_by_leaves c.accesses c a x refl

free_made : (accesses : AccessRecord) (o : Obj) (own there : Bool) → (if own then accesses else record_free accesses o there).made ≡ accesses.made
free_made accesses o true there = refl
free_made accesses o false true = refl
free_made accesses o false false = refl

free_log_made : (l : Option AccessRecord) (o : Obj) (there : Bool) → made_by (free_recorded l o there) ≡ made_by l
free_log_made None o there = refl
free_log_made (Some accesses) o there = free_made accesses o (set.contains accesses.made o) there

free_there_leaves : (c : Content) (o : Obj) (l : Option AccessRecord) (there : Bool) → made_by l ≡ made_by c.accesses
    → Leaves c (free_there (record c { accesses = l }) o there).1
free_there_leaves c o l true e = record { objects = λ q h. there_still c.memory o q h; allocations = refl; printed = refl; made = e }
free_there_leaves c o l false e = record { objects = λ q h. h; allocations = refl; printed = refl; made = e }

free_if_leaves : (c : Content) (o : Obj) (b : Bool) → Leaves c (free_if c o b).1
free_if_leaves c o true =
    free_there_leaves c o (free_recorded c.accesses o (has_object c.memory o)) (has_object c.memory o) (free_log_made c.accesses o (has_object c.memory o))
free_if_leaves c o false = leaves_itself c

pub free_leaves : (o : Obj) (at : ℕ) (c : Content) → Leaves c (free o at c).1
unfolding free
free_leaves o at c = free_if_leaves c o (is_freeable o at)
