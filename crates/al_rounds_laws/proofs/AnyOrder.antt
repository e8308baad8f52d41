-- The committed outcomes of a round may be laid over the memory at its start in any order.
use Rattle.std.proofs.Common.{◌≡◌, ◌≢◌, ℕ, zero, suc, ◌<◌, List, [], ◌∷◌, length, get_or, refl, sym, ap, subst, ◌∙◌, ◌⊎◌, inl, inr, arith}
use Rattle.std.proofs.lemmas.Bool.{cases_eq}
use Rattle.al_core.specs.declared.choices.Red.{Red}
use Rattle.al_core.specs.Memory.{Memory}
use Rattle.al_core.specs.Iteration.{Execution}
use Rattle.al_core.specs.Chunk.{outcome}
use Rattle.al_core.specs.Readiness.{IsFresh}
use Rattle.al_core.specs.Applied.{applied, all_applied}
use Rattle.al_core.specs.Round.{outcomes, round}
use Rattle.al_core.specs.Lockstep.{commits}
use Rattle.al_rounds_laws.specs.Loops.{Each, Pairwise}
use Rattle.al_rounds_laws.specs.Writes.{AreApart, AnyOrderIsSame}
use Rattle.al_rounds_laws.proofs.AllRounds.{round_each}
use Rattle.al_rounds_laws.proofs.Commuting.{outcomes_commute}
use Rattle.al_rounds_laws.proofs.Writing.{round_is_laid_over, committed_touch_apart}
use Rattle.al_rounds_laws.proofs.Shuffles.{steps, any_order}

-- ---- lists

abbrev pub IsIn : ℕ → List ℕ → Type 0
IsIn c [] = ⊥
IsIn c (d ∷ ds) = (c ≡ d) ⊎ IsIn c ds

pub each_in : (P : ℕ → Type 0) (ds : List ℕ) → Each P ds → (c : ℕ) → IsIn c ds → P c
each_in P [] h c i = absurd i
each_in P (d ∷ ds) h c (inl e) = subst P (sym e) h.0
each_in P (d ∷ ds) h c (inr i) = each_in P ds h.1 c i

-- two different ones stand in the list one before the other
pub pair_in : (R : ℕ → ℕ → Type 0) (both : (c d : ℕ) → R c d → R d c) (ds : List ℕ) → Pairwise R ds → (a b : ℕ) → a ≢ b → IsIn a ds → IsIn b ds → R a b
pair_in R both [] h a b n i j = absurd i
pair_in R both (d ∷ ds) h a b n (inl e) (inl f) = absurd (n (e ∙ sym f))
pair_in R both (d ∷ ds) h a b n (inl e) (inr j) = subst (λ z. R z b) (sym e) (each_in (R d) ds h.0 b j)
pair_in R both (d ∷ ds) h a b n (inr i) (inl f) = both b a (subst (λ z. R z a) (sym f) (each_in (R d) ds h.0 a i))
pair_in R both (d ∷ ds) h a b n (inr i) (inr j) = pair_in R both ds h.1 a b n i j

pub here : (l : List ℕ) (k d : ℕ) → k < length l → IsIn (get_or l k d) l
here [] k d s = absurd (omega arith)
here (a ∷ l) zero d s = inl refl
here (a ∷ l) (suc k) d s = inr (here l k d (omega arith))

-- ---- chunks that touched different addresses

module _ (x : Execution) (m : Memory) (ks : List ℕ) where
  abbrev laid : ℕ → Memory → Memory
  laid c n = applied [] n (outcome x [] m c)

  abbrev TouchedApart : ℕ → ℕ → Type 0
  TouchedApart c d = AreApart (outcome x [] m c).touched (outcome x [] m d).touched

  laid_commute : Pairwise TouchedApart ks → Each (IsFresh x m) ks → (a b : ℕ) → IsIn a ks → IsIn b ks → (n : Memory) → Unit {0}
      → laid b (laid a n) ≡ laid a (laid b n)
  laid_commute apart fresh a b i j n u =
      elim (cases_eq a b) as (λ _. laid b (laid a n) ≡ laid a (laid b n)) [
        | inl e ↦ ap (λ z. laid z (laid a n)) (sym e) ∙ ap (λ z. laid a (laid z n)) e
        | inr differ ↦
            outcomes_commute x m a b differ (each_in (IsFresh x m) ks fresh a i) (each_in (IsFresh x m) ks fresh b j)
            (pair_in TouchedApart (λ c d h q s t. h q t s) ks apart a b differ i j) n
      ]

  by_steps : (l : List ℕ) (n : Memory) (apart : Pairwise TouchedApart ks) (fresh : Each (IsFresh x m) ks)
      → all_applied [] (outcomes x [] m l) n ≡ steps laid (λ c. IsIn c ks) (λ n. Unit {0}) (λ a i n u. tt) (laid_commute apart fresh) l n
  by_steps [] n apart fresh = refl
  by_steps (c ∷ l) n apart fresh = by_steps l (laid c n) apart fresh

any_choice : (reds : List Red) → reds ≡ [] → (x : Execution) (m : Memory) (ks ds : List ℕ)
    → Pairwise (λ c d. AreApart (outcome x reds m c).touched (outcome x reds m d).touched) ks
    → Pairwise (λ c d. AreApart (outcome x [] m c).touched (outcome x [] m d).touched) ks
any_choice reds none x m ks ds h = subst (λ r. Pairwise (λ c d. AreApart (outcome x r m c).touched (outcome x r m d).touched) ks) none h

pub any_order_is_same : AnyOrderIsSame
any_order_is_same x choice m cs ds none looks differ fresh shuffled =
    let ks = commits (round x choice cs m).verdicts in
    let apart = any_choice choice.reds none x m ks ds (committed_touch_apart x choice m cs looks) in
    let kept = round_each x choice m (IsFresh x m) cs fresh in
    ap (λ z. z.memory) (round_is_laid_over x choice m cs)
    ∙ ap (λ r. all_applied r (outcomes x r m ks) m) none
    ∙ by_steps x m ks ks m apart kept
    ∙ sym (any_order (laid x m ks) (λ c. IsIn c ks) (λ n. Unit {0}) (λ a i n u. tt) (laid_commute x m ks apart kept) ks ds shuffled
    (λ k d s. here ks k d s) m tt)
    ∙ sym (by_steps x m ks ds m apart kept)
