-- Where the reductions are variables none of them is among the reads of a chunk.
use Rattle.std.proofs.Common.{◌≡◌, ℕ, suc, List, [], ◌∷◌, Option, Some, None, true, false, refl, sym, ap, subst, ◌∙◌}
use Rattle.std.specs.Prelude.{if◌then◌else◌, is_some, option_map}
use Rattle.std.specs.FinSet as set
use Rattle.std.proofs.Math.Bool.{true≢false}
use Rattle.al_core.specs.declared.choices.Red.{Red}
use Rattle.al_core.specs.declared.values.Addr.{Addr}
use Rattle.al_core.specs.Orders.{addr_eq}
use Rattle.al_core.specs.Memory.{Memory}
use Rattle.al_core.specs.Access.{red_index}
use Rattle.al_core.specs.Iteration.{Execution}
use Rattle.al_core.specs.Chunk.{outcome}
use Rattle.al_laws.specs.Commits.{IsVariable}
use Rattle.al_laws.proofs.Orders.{addr_equal}
use Rattle.al_laws.proofs.Unread.{reductions_are_unrecorded}

abbrev pub AreVariables : List Red → Type 0
AreVariables [] = Unit {0}
AreVariables (r ∷ rs) = IsVariable r.at × AreVariables rs

is_variable : (reds : List Red) (a : Addr) → AreVariables reds → is_some (red_index reds a) ≡ true → IsVariable a
is_variable [] a h e = absurd (true≢false (sym e))
is_variable (r ∷ rs) a h e =
    elim (addr_eq r.at a) as (λ b. addr_eq r.at a ≡ b → is_some (if b then Some 0 else option_map suc (red_index rs a)) ≡ true → IsVariable a) [
      | true ↦ λ t _. subst IsVariable (addr_equal r.at a t) h.0
      | false ↦ λ t e. is_variable rs a h.1 (later (red_index rs a) e)
    ] refl e
  where
    later : (x : Option ℕ) → is_some (option_map suc x) ≡ true → is_some x ≡ true
    later None e = e
    later (Some i) e = refl

pub variables_unread : (x : Execution) (reds : List Red) → AreVariables reds → (c : ℕ) (m : Memory) (a : Addr)
    → set.contains (outcome x reds m c).reads a ≡ true → red_index reds a ≡ None
variables_unread x reds h c m a e = by_index (red_index reds a) refl
  where
    by_index : (i : Option ℕ) → red_index reds a ≡ i → red_index reds a ≡ None
    by_index None is = is
    by_index (Some i) is =
        let found = ap is_some is in
        absurd (true≢false (sym e ∙ (reductions_are_unrecorded x reds m c a (is_variable reds a h found) found).0))
