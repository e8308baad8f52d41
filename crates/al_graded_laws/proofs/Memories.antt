-- The values of a memory after one was put, and after an object was made or taken out.
use Rattle.std.proofs.Common.{◌≡◌, ℕ, List, length, Option, Some, None, Bool, true, false, cond, refl, sym, ap, ◌∙◌}
use Rattle.std.specs.Prelude.{if◌then◌else◌, is_some, option_map, slice_get}
use Rattle.std.specs.FinMap as map
use Rattle.std.proofs.Math.Bool.{true≢false}
use Rattle.al_core.specs.declared.values.Val.{Val}
use Rattle.al_core.specs.declared.values.Addr.{Addr}
use Rattle.al_core.specs.declared.values.Addr.TheVariants.{Word, Head, Local}
use Rattle.al_core.specs.declared.values.Obj.{Obj}
use Rattle.al_core.specs.Orders.{obj_eq}
use Rattle.al_core.specs.Memory.{Memory, has_object, length_at, word_in, value_at, put, add, remove}
use Rattle.al_laws.proofs.Stays.{get_add, get_remove}
use Rattle.al_laws.proofs.Overlay.{over, set_over, put_here}

over_there : (v : Val) (x : Option Val) → is_some x ≡ true → over (Some v) x ≡ Some v
over_there v (Some u) e = refl
over_there v None e = absurd (true≢false (sym e))

pub put_itself : (m : Memory) (a : Addr) (v : Val) → is_some (value_at m a) ≡ true → value_at (put m a v) a ≡ Some v
put_itself m (Word o w) v e = put_here m o w v ∙ over_there v (value_at m (Word o w)) e
put_itself m (Head o) v e = absurd (true≢false (sym e))
put_itself m (Local k) v e = set_over m.locals k v ∙ over_there v (slice_get m.locals k) e

some_length : (x : Option (List Val)) → is_some (option_map length x) ≡ is_some x
some_length None = refl
some_length (Some l) = refl

-- memories in which the object is as long
pub same_there : (m n : Memory) (o : Obj) → length_at m o ≡ length_at n o → has_object m o ≡ has_object n o
same_there m n o e = sym (some_length (map.get m.objects o)) ∙ ap is_some e ∙ some_length (map.get n.objects o)

-- ---- objects

abbrev pub is_in : Addr → Obj → Bool
is_in (Word p i) o = obj_eq p o
is_in (Head p) o = false
is_in (Local k) o = false

abbrev pub index_of : Addr → ℕ
index_of (Word p i) = i
index_of (Head p) = 0
index_of (Local k) = 0

word_if : (b : Bool) (ws : List Val) (x : Option (List Val)) (i : ℕ)
    → word_in (cond b (Some ws) x) i ≡ (if b then slice_get ws i else word_in x i)
word_if true ws x i = refl
word_if false ws x i = refl

pub add_value : (m : Memory) (o : Obj) (ws : List Val) (a : Addr)
    → value_at (add m o ws) a ≡ (if is_in a o then slice_get ws (index_of a) else value_at m a)
add_value m o ws (Word p i) = ap (λ x. word_in x i) (get_add m o ws p) ∙ word_if (obj_eq p o) ws (map.get m.objects p) i
add_value m o ws (Head p) = refl
add_value m o ws (Local k) = refl

length_if : (b : Bool) (ws : List Val) (x : Option (List Val))
    → option_map length (cond b (Some ws) x) ≡ (if b then Some (length ws) else option_map length x)
length_if true ws x = refl
length_if false ws x = refl

pub add_length : (m : Memory) (o : Obj) (ws : List Val) (p : Obj)
    → length_at (add m o ws) p ≡ (if obj_eq p o then Some (length ws) else length_at m p)
add_length m o ws p = ap (option_map length) (get_add m o ws p) ∙ length_if (obj_eq p o) ws (map.get m.objects p)

word_unless : (b : Bool) (x : Option (List Val)) (i : ℕ) → word_in (cond b None x) i ≡ (if b then None else word_in x i)
word_unless true x i = refl
word_unless false x i = refl

pub remove_value : (m : Memory) (o : Obj) (a : Addr) → value_at (remove m o) a ≡ (if is_in a o then None else value_at m a)
remove_value m o (Word p i) = ap (λ x. word_in x i) (get_remove m o p) ∙ word_unless (obj_eq p o) (map.get m.objects p) i
remove_value m o (Head p) = refl
remove_value m o (Local k) = refl

length_unless : (b : Bool) (x : Option (List Val)) → option_map length (cond b None x) ≡ (if b then None else option_map length x)
length_unless true x = refl
length_unless false x = refl

pub remove_length : (m : Memory) (o : Obj) (p : Obj) → length_at (remove m o) p ≡ (if obj_eq p o then None else length_at m p)
remove_length m o p = ap (option_map length) (get_remove m o p) ∙ length_unless (obj_eq p o) (map.get m.objects p)
