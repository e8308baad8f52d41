-- Values with what was written over them.
use Rattle.std.proofs.Common.{◌≡◌, ◌≢◌, ℕ, zero, suc, ◌+◌, ◌<◌, true, false, cond, List, [], ◌∷◌, length, Some, slice_get, slice_set, refl, ap, ◌∙◌, arith}
use Rattle.std.specs.Prelude.{option_map, unwrap_or}
use Rattle.std.specs.FinMap as map
use Rattle.std.specs.FinMap.{FinMap}
use Rattle.al_core.specs.declared.values.Val.{Val}
use Rattle.al_core.specs.declared.values.Addr.{Addr}
use Rattle.al_core.specs.Orders.{addr_cmp, addr_eq}
use Rattle.al_laws.proofs.Orders.{addr_total, addr_equal, addr_itself}
use Rattle.al_snap.specs.Layers.{laid}

pub length-laid : (writes : FinMap addr_cmp Val) (at : ℕ → Addr) (k : ℕ) (vs : List Val) → length (laid writes at k vs) ≡ length vs
length-laid writes at k [] = refl
length-laid writes at k (v ∷ vs) = ap (λ (n : ℕ). suc n) (length-laid writes at (suc k) vs)

pub laid_at : (writes : FinMap addr_cmp Val) (at : ℕ → Addr) (k w n : ℕ) (vs : List Val) → k + w ≡ n
    → slice_get (laid writes at k vs) w ≡ option_map (unwrap_or (map.get writes (at n))) (slice_get vs w)
laid_at writes at k w n [] e = refl
laid_at writes at k zero n (v ∷ vs) e = ap (λ (m : ℕ). Some (unwrap_or (map.get writes (at m)) v)) (let f : k ≡ n = omega arith in f)
laid_at writes at k (suc w) n (v ∷ vs) e = laid_at writes at (suc k) w n vs (omega arith)

-- writes that say the same at those addresses
pub laid_same : (more writes : FinMap addr_cmp Val) (at : ℕ → Addr) → ((n : ℕ) → map.get more (at n) ≡ map.get writes (at n))
    → (k : ℕ) (vs : List Val) → laid more at k vs ≡ laid writes at k vs
laid_same more writes at same k [] = refl
laid_same more writes at same k (v ∷ vs) = λ t. unwrap_or (same k t) v ∷ laid_same more writes at same (suc k) vs t

other_key : (writes : FinMap addr_cmp Val) (a b : Addr) (v : Val) → b ≢ a → map.get (map.insert writes a v) b ≡ map.get writes b
other_key writes a b v d =
    map.get-insert addr_total writes a v b
    ∙ elim (addr_eq b a) as (λ c. addr_eq b a ≡ c → cond c (Some v) (map.get writes b) ≡ map.get writes b) [
      | true ↦ λ t. absurd (d (addr_equal b a t))
      | false ↦ λ _. refl
    ] refl

same_key : (writes : FinMap addr_cmp Val) (a : Addr) (v : Val) → map.get (map.insert writes a v) a ≡ Some v
same_key writes a v =
    map.get-insert addr_total writes a v a ∙ ap (λ c. cond c (Some v) (map.get writes a)) (addr_itself a)

-- a write elsewhere
pub laid_other : (writes : FinMap addr_cmp Val) (at : ℕ → Addr) (a : Addr) (v : Val) → ((n : ℕ) → at n ≢ a) → (vs : List Val)
    → laid (map.insert writes a v) at 0 vs ≡ laid writes at 0 vs
laid_other writes at a v d vs = laid_same (map.insert writes a v) writes at (λ n. other_key writes a (at n) v (d n)) 0 vs

module _ (writes : FinMap addr_cmp Val) (at : ℕ → Addr) (apart : (m n : ℕ) → at m ≡ at n → m ≡ n) (v : Val) where
  past : (j k : ℕ) (vs : List Val) → j < k → laid (map.insert writes (at j) v) at k vs ≡ laid writes at k vs
  past j k [] h = refl
  past j k (x ∷ vs) h = λ t.
      unwrap_or (other_key writes (at j) (at k) v (λ e. let f : k ≡ j = apart k j e in omega arith) t) x
      ∷ past j (suc k) vs (omega arith) t

  laid_put : (k w n : ℕ) (vs : List Val) → k + w ≡ n → laid (map.insert writes (at n) v) at k vs ≡ slice_set (laid writes at k vs) w v
  laid_put k w n [] e = refl
  laid_put k zero n (x ∷ vs) e =
      let f : k ≡ n = omega arith in
      λ t.
      ((λ z. unwrap_or (map.get (map.insert writes (at n) v) (at (f z))) x) ∙ ap (λ o. unwrap_or o x) (same_key writes (at n) v)) t
      ∷ past n (suc k) vs (omega arith) t
  laid_put k (suc w) n (x ∷ vs) e = λ t.
      unwrap_or (other_key writes (at n) (at k) v (λ g. let f : k ≡ n = apart k n g in omega arith) t) x
      ∷ laid_put (suc k) w n vs (omega arith) t

  pub laid_set : (w : ℕ) (vs : List Val) → laid (map.insert writes (at w) v) at 0 vs ≡ slice_set (laid writes at 0 vs) w v
  laid_set w vs = laid_put 0 w w vs (omega arith)
