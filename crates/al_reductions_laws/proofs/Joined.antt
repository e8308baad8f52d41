-- The memory that two runs so related come to: with the accumulators joined, that of the direct one.
use Rattle.std.proofs.Common.{◌≡◌, ℕ, zero, suc, List, [], ◌∷◌, Option, Some, None, true, false, refl, sym, ap, subst, ◌∙◌, arith}
use Rattle.std.specs.Prelude.{ℤ, if◌then◌else◌, is_some, option_map, map, slice_get}
use Rattle.std.proofs.Math.Bool.{true≢false}
use Rattle.al_core.specs.declared.choices.Red.{Red}
use Rattle.al_core.specs.declared.values.Val.{Val}
use Rattle.al_core.specs.declared.values.Val.TheVariants.{Int}
use Rattle.al_core.specs.declared.values.Addr.{Addr}
use Rattle.al_core.specs.declared.values.Addr.TheVariants.{Word, Local}
use Rattle.al_core.specs.Orders.{addr_eq}
use Rattle.al_core.specs.Reductions.{red_apply}
use Rattle.al_core.specs.Memory.{Memory, value_at}
use Rattle.al_core.specs.Access.{Content, red_index}
use Rattle.al_core.specs.Chunk.{sum_of}
use Rattle.al_core.specs.Applied.{with_sum, with_sums}
use Rattle.al_laws.proofs.Orders.{addr_equal, addr_itself}
use Rattle.al_laws.proofs.Words.{same_some, some_none}
use Rattle.al_graded_laws.proofs.Memories.{put_itself}
use Rattle.al_reductions_laws.proofs.Variables.{is_red}
use Rattle.al_laws.proofs.Applying.{not_first, put_value, sums_value, sums_length}
use Rattle.al_rounds_laws.proofs.Commuting.{same_memory}
use Rattle.al_reductions_laws.proofs.Sums.{Sum, Sums}

-- the variables of a list differ
abbrev pub AreApart : List Red → Type 0
AreApart [] = Unit {0}
AreApart (r ∷ rs) = (red_index rs r.at ≡ None) × AreApart rs

-- ---- a reduction variable after all were joined

joined_here : (r : Red) (n : ℤ) (m : Memory) (old : ℤ) → value_at m r.at ≡ Some (Int old)
    → value_at (with_sum r n m (value_at m r.at)) r.at ≡ Some (Int (red_apply r.op old n))
joined_here r n m old e = ap (λ z. value_at (with_sum r n m z) r.at) e ∙ put_itself m r.at (Int (red_apply r.op old n)) (ap is_some e)

joined_other : (r : Red) (n : ℤ) (m : Memory) (old : ℤ) (a : Addr) → value_at m r.at ≡ Some (Int old) → addr_eq a r.at ≡ false
    → value_at (with_sum r n m (value_at m r.at)) a ≡ value_at m a
joined_other r n m old a e f = ap (λ z. value_at (with_sum r n m z) a) e ∙ put_value m r.at (Int (red_apply r.op old n)) a f

index_zero : (x : Option ℕ) (i : ℕ) → option_map suc x ≡ Some i → (j : ℕ) × (x ≡ Some j) × (i ≡ suc j)
index_zero None i e = absurd (some_none i (sym e))
index_zero (Some j) i e = (j, refl, sym (same_some (suc j) i e))

pub index_cases : (r : Red) (rs : List Red) (a : Addr) (i : ℕ) (P : Type 0) → red_index (r ∷ rs) a ≡ Some i → (addr_eq r.at a ≡ true → i ≡ 0 → P)
    → (addr_eq r.at a ≡ false → (j : ℕ) → red_index rs a ≡ Some j → i ≡ suc j → P) → P
index_cases r rs a i P e first other =
    elim (addr_eq r.at a) as (λ b. addr_eq r.at a ≡ b → (if b then Some 0 else option_map suc (red_index rs a)) ≡ Some i → P) [
      | true ↦ λ t e. first t (sym (same_some 0 i e))
      | false ↦ λ t e. let k = index_zero (red_index rs a) i e in other t k.0 k.1 k.2
    ] refl e

-- all the reductions are numbers in the memory
abbrev AreNumbers : List Red → Memory → Type 0
AreNumbers [] m = Unit {0}
AreNumbers (r ∷ rs) m = ((old : ℤ) × (value_at m r.at ≡ Some (Int old))) × AreNumbers rs m

numbers_other : (rs : List Red) (r : Red) (n : ℤ) (m : Memory) (old : ℤ) → value_at m r.at ≡ Some (Int old) → red_index rs r.at ≡ None → AreNumbers rs m
    → AreNumbers rs (with_sum r n m (value_at m r.at))
numbers_other [] r n m old e f h = tt
numbers_other (q ∷ rs) r n m old e f h =
    let k = not_first q rs r.at f in
    ((h.0.0, joined_other r n m old q.at e k.0 ∙ h.0.1), numbers_other rs r n m old e k.1 h.1)

reduced_here : (rs : List Red) (vs : List Val) (m : Memory) (a : Addr) (i : ℕ) (r : Red) (old sum : ℤ) → AreApart rs → AreNumbers rs m
    → red_index rs a ≡ Some i → slice_get rs i ≡ Some r → slice_get vs i ≡ Some (Int sum) → value_at m a ≡ Some (Int old)
    → value_at (with_sums rs (map sum_of vs) m) a ≡ Some (Int (red_apply r.op old sum))
reduced_here [] vs m a i r old sum p h e s v w = absurd (some_none i (sym e))
reduced_here (q ∷ rs) [] m a i r old sum p h e s v w = absurd (some_none (Int sum) (sym v))
reduced_here (q ∷ rs) (u ∷ vs) m a zero r old sum p h e s v w =
    index_cases q rs a zero (value_at (with_sums rs (map sum_of vs) (with_sum q (sum_of u) m (value_at m q.at))) a ≡ Some (Int (red_apply r.op old sum))) e
    (λ t _.
    let at_q = addr_equal q.at a t in
    let same_q = same_some q r s in
    let same_u = same_some u (Int sum) v in
    sums_value rs (map sum_of vs) (with_sum q (sum_of u) m (value_at m q.at)) a (ap (red_index rs) (sym at_q) ∙ p.0)
    ∙ ap (value_at (with_sum q (sum_of u) m (value_at m q.at))) (sym at_q) ∙ joined_here q (sum_of u) m old (ap (value_at m) at_q ∙ w)
    ∙ (λ k. Some (Int (red_apply (same_q k).op old (sum_of (same_u k))))))
    (λ t j _ z. absurd (omega (arith, z)))
reduced_here (q ∷ rs) (u ∷ vs) m a (suc i) r old sum p h e s v w =
    index_cases q rs a (suc i) (value_at (with_sums rs (map sum_of vs) (with_sum q (sum_of u) m (value_at m q.at))) a ≡ Some (Int (red_apply r.op old sum))) e
    (λ t z. absurd (omega (arith, z)))
    (λ t j f z.
    let same : j ≡ i = omega (arith, z) in
    let other = elim (addr_eq a q.at) as (λ b. addr_eq a q.at ≡ b → b ≡ false)
    [ true ↦ λ b. absurd (true≢false (sym (addr_itself q.at) ∙ ap (addr_eq q.at) (sym (addr_equal a q.at b)) ∙ t)) | false ↦ λ b. refl ] refl in
    reduced_here rs vs (with_sum q (sum_of u) m (value_at m q.at)) a i r old sum p.1 (numbers_other rs q (sum_of u) m h.0.0 h.0.1 p.0 h.1)
    (f ∙ ap (λ k. Some k) same) s v (joined_other q (sum_of u) m h.0.0 a h.0.1 other ∙ w))

-- ---- the memory that both runs come to

module _ (reds : List Red) (olds : ℕ → ℤ) (differ : AreApart reds) where
  by_index : (m n : Memory) (sums : List Val) → ((a : Addr) (i : ℕ) → red_index reds a ≡ Some i → Sum reds olds m sums n a i) → AreNumbers reds m
      → (a : Addr) (x : Option ℕ) → red_index reds a ≡ x → (is_red reds a ≡ false → value_at m a ≡ value_at n a)
      → value_at (with_sums reds (map sum_of sums) m) a ≡ value_at n a
  by_index m n sums s h a None e other = sums_value reds (map sum_of sums) m a e ∙ other (ap is_some e)
  by_index m n sums s h a (Some i) e other =
      let k = s a i e in
      reduced_here reds sums m a i k.red (olds i) k.sum differ h e k.stands k.gathered k.was ∙ sym k.now

  pub sums_joined : (c d : Content) (h : Sums reds olds c d) → AreNumbers reds c.memory
      → with_sums reds (map sum_of h.accesses.accumulators) c.memory ≡ d.memory
  sums_joined c d h numbers =
      let same_value = λ (a : Addr). by_index c.memory d.memory h.accesses.accumulators h.sums numbers a (red_index reds a) refl (h.elsewhere a) in
      same_memory (with_sums reds (map sum_of h.accesses.accumulators) c.memory) d.memory
      (λ o. sums_length reds (map sum_of h.accesses.accumulators) c.memory o ∙ h.lengths o)
      (λ o i. same_value (Word o i)) (λ k. same_value (Local k))

-- the reductions of a list, by the places at which they are found
pub numbers_by : (reds : List Red) (m : Memory) → ((i : ℕ) (r : Red) → slice_get reds i ≡ Some r → (old : ℤ) × (value_at m r.at ≡ Some (Int old)))
    → AreNumbers reds m
numbers_by [] m h = tt
numbers_by (r ∷ rs) m h = (h 0 r refl, numbers_by rs m (λ i q e. h (suc i) q e))

pub found_at : (rs : List Red) (a : Addr) (i : ℕ) → red_index rs a ≡ Some i → (r : Red) × (slice_get rs i ≡ Some r) × (r.at ≡ a)
found_at [] a i e = absurd (some_none i (sym e))
found_at (q ∷ rs) a zero e =
    index_cases q rs a zero ((r : Red) × (slice_get (q ∷ rs) zero ≡ Some r) × (r.at ≡ a)) e (λ t _. (q, refl, addr_equal q.at a t))
    (λ t j _ z. absurd (omega (arith, z)))
found_at (q ∷ rs) a (suc i) e =
    index_cases q rs a (suc i) ((r : Red) × (slice_get (q ∷ rs) (suc i) ≡ Some r) × (r.at ≡ a)) e (λ t z. absurd (omega (arith, z)))
    (λ t j f z. let same : j ≡ i = omega (arith, z) in found_at rs a i (f ∙ ap (λ k. Some k) same))

-- each reduction of a list is found where the variables differ
pub index_of : (rs : List Red) (i : ℕ) (r : Red) → AreApart rs → slice_get rs i ≡ Some r → red_index rs r.at ≡ Some i
index_of [] i r p e = absurd (some_none r (sym e))
index_of (q ∷ rs) zero r p e =
    let same = same_some q r e in
    subst (λ z. (if addr_eq q.at z.at then Some 0 else option_map suc (red_index rs z.at)) ≡ Some 0) same
    (ap (λ b. if b then Some 0 else option_map suc (red_index rs q.at)) (addr_itself q.at))
index_of (q ∷ rs) (suc i) r p e =
    let k = index_of rs i r p.1 e in
    let other = elim (addr_eq q.at r.at) as (λ b. addr_eq q.at r.at ≡ b → b ≡ false)
    [ true ↦ λ t. absurd (some_none i (sym k ∙ ap (red_index rs) (sym (addr_equal q.at r.at t)) ∙ p.0)) | false ↦ λ t. refl ] refl in
    ap (λ b. if b then Some 0 else option_map suc (red_index rs r.at)) other ∙ ap (option_map suc) k
