-- A word that is replaced, and the words of a page.
use Rattle.std.proofs.Common.{◌≡◌, ℕ, zero, suc, ◌+◌, ◌-◌, ◌*◌, ◌<◌, ◌≤◌, List, [], ◌∷◌, length, take, drop, min, Option, Some, None, Bool, true, false, cond, refl, sym, ap, ◌∙◌, arith}
use Rattle.std.specs.Prelude.{slice_set}
use Rattle.std.specs.Option.{OnSome}
use Rattle.std.specs.FinMap as map
use Rattle.std.specs.FinMap.{FinMap}
use Rattle.std.proofs.lemmas.Bool.{lt-ltb}
use Rattle.std.proofs.lemmas.List.{length-drop}
use Rattle.al_core.specs.declared.values.Obj.{Obj}
use Rattle.al_core.specs.declared.values.Val.{Val}
use Rattle.al_core.specs.Orders.{obj_cmp, obj_eq}
use Rattle.al_core.specs.Memory.{with_words}
use Rattle.al_laws.proofs.Orders.{obj_total, obj_apart, obj_equal}
use Rattle.al_heap.specs.Stores.{page_of}

pub on_some : {A : Type 0} (o : Option A) (P : Type 0) → P → OnSome o P
on_some None P h = tt
on_some (Some a) P h = h

same_cond : {A : Type 0} (b : Bool) (x y z : A) → cond b x (cond b y z) ≡ cond b x z
same_cond true x y z = refl
same_cond false x y z = refl

-- an object that is taken out and put back with another word
pub put_back : (m : FinMap obj_cmp (List Val)) (o : Obj) (w : ℕ) (v : Val) (ws : List Val) → Some ws ≡ map.get m o
    → map.insert (map.remove m o) o (slice_set ws w v) ≡ with_words m o w v (map.get m o)
put_back m o w v ws e =
    map.same_map obj_total obj_apart (map.insert (map.remove m o) o new) (map.insert m o new) (λ q.
    map.get-insert obj_total (map.remove m o) o new q
    ∙ ap (cond (obj_eq q o) (Some new)) (map.get-remove obj_total m o q)
    ∙ same_cond (obj_eq q o) (Some new) None (map.get m q)
    ∙ sym (map.get-insert obj_total m o new q))
    ∙ ap (with_words m o w v) e
  where
    new : List Val
    new = slice_set ws w v

-- an object that is taken out where there is none
pub none_replaced : (m : FinMap obj_cmp (List Val)) (o : Obj) (w : ℕ) (v : Val) → None ≡ map.get m o
    → map.remove m o ≡ with_words m o w v (map.get m o)
none_replaced m o w v e =
    map.same_map obj_total obj_apart (map.remove m o) m (λ q.
    map.get-remove obj_total m o q
    ∙ elim (obj_eq q o) as (λ b. obj_eq q o ≡ b → cond b None (map.get m q) ≡ map.get m q) [
      | true ↦ λ t. e ∙ sym (ap (map.get m) (obj_equal q o t))
      | false ↦ λ _. refl
    ] refl)
    ∙ ap (with_words m o w v) e

-- ---- pages

take_as_many : {A : Type 0} (m k : ℕ) (xs : List A) → m ≤ k → (m < k → length xs ≤ m) → take m xs ≡ take k xs
take_as_many zero zero xs l h = refl
take_as_many zero (suc k) [] l h = refl
take_as_many zero (suc k) (x ∷ xs) l h = absurd (let g : length (x ∷ xs) ≤ 0 = h (omega arith) in omega arith)
take_as_many (suc m) zero xs l h = absurd (omega arith)
take_as_many (suc m) (suc k) [] l h = refl
take_as_many (suc m) (suc k) (x ∷ xs) l h =
    ap (λ l. x ∷ l) (take_as_many m k xs (omega arith)
    (λ g. let n : length (x ∷ xs) ≤ suc m = h (omega arith) in omega arith))

pub page_taken : (ws : List Val) (n e : ℕ) → n * 64 < length ws → e ≡ min (length ws) (n * 64 + 64)
    → Some (take (e - n * 64) (drop (n * 64) ws)) ≡ page_of ws n
page_taken ws n e h m =
    let long : length (drop (n * 64) ws) ≡ length ws - n * 64 = length-drop (n * 64) ws in
    let cut : take (e - n * 64) (drop (n * 64) ws) ≡ take 64 (drop (n * 64) ws) =
    take_as_many (e - n * 64) 64 (drop (n * 64) ws) (omega (arith, m)) (λ g. omega (arith, m, long)) in
    ap (λ l. Some l) cut
    ∙ ap (λ b. cond b (Some (take 64 (drop (n * 64) ws))) None) (sym (lt-ltb (n * 64) (length ws) h))
