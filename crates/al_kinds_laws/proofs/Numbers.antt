-- Memories that hold numbers are those that are kept.
use Rattle.std.proofs.Common.{◌≡◌, ℕ, zero, suc, ◌<◌, List, [], ◌∷◌, length, Some, Bool, true, false, refl, sym, ap, ◌∙◌, arith}
use Rattle.std.specs.Prelude.{ℤ, pos, slice_get}
use Rattle.std.proofs.Math.Bool.{true≢false}
use Rattle.std.proofs.lemmas.Option.{slice_get-get_or}
use Rattle.al_core.specs.declared.typed_tree.TLocal.{TLocal}
use Rattle.al_core.specs.declared.typed_tree.Typed.{Typed}
use Rattle.al_core.specs.declared.values.Val.{Val}
use Rattle.al_core.specs.declared.values.Val.TheVariants.{Int, Ptr}
use Rattle.al_core.specs.declared.values.Addr.TheVariants.{Word, Local}
use Rattle.al_core.specs.Memory.{Memory, word_in}
use Rattle.al_laws.proofs.Words.{same_some}
use Rattle.al_rules.specs.WellFormed.{is_int_local}
use Rattle.al_graded_laws.proofs.Graded.{Fine, FineAll}
use Rattle.al_graded_laws.proofs.Values.{zero_fits}
use Rattle.al_kinds_laws.specs.Whole.{is_shut}
use Rattle.al_kinds_laws.specs.Numbers.{IsOpenVal, HoldsNumbers}
use Rattle.al_kinds_laws.proofs.Kinded.{IsNumber}
use Rattle.al_kinds_laws.proofs.KeptKinds.{kept_by, KeptMemory, kept_value}

module _ (typed : Typed) (locals : List TLocal) (m : Memory) where
  abbrev Kept : Type 0
  Kept = KeptMemory zero_fits (is_shut typed) locals m

  open_val : (v : Val) → Fine (kept_by (is_shut typed)) v → IsOpenVal typed v
  open_val (Int n) f = f
  open_val (Ptr o w) f = f

  fine_val : (v : Val) → IsOpenVal typed v → Fine (kept_by (is_shut typed)) v
  fine_val (Int n) f = f
  fine_val (Ptr o w) f = f

  number_of : (v : Val) → IsNumber v → (n : ℤ) × (v ≡ Int n)
  number_of (Int n) u = (n, refl)
  number_of (Ptr o w) u = absurd u

  int_below : (ls : List TLocal) (k : ℕ) → is_int_local ls k ≡ true → k < length ls
  int_below [] k e = absurd (true≢false (sym e))
  int_below (l ∷ ls) zero e = omega arith
  int_below (l ∷ ls) (suc k) e = omega (arith, int_below ls k e)

  pub holds_numbers : Kept → HoldsNumbers typed locals m
  holds_numbers k = record {
    values = λ a v e. open_val v (kept_value zero_fits (is_shut typed) locals m k a v e);
    enough = k.locals.0;
    integers = λ j i.
        let at = slice_get-get_or m.locals j (Int (pos 0)) (omega (arith, int_below locals j i, k.locals.0)) in
        let y = number_of _ ((k.locals.1 j _ at).number i) in
        (y.0, at ∙ ap (λ z. Some z) y.1);
    globals = k.shuts;
  }

  is_number : (n : ℤ) (v : Val) → Some (Int n) ≡ Some v → IsNumber v
  is_number n (Int z) e = tt
  is_number n (Ptr o w) e = absurd (no_pointer e)
    where
      is_int : Val → Bool
      is_int (Int z) = true
      is_int (Ptr p i) = false

      no_pointer : Some (Int n) ≡ Some (Ptr o w) → ⊥
      no_pointer e = true≢false (ap is_int (same_some (Int n) (Ptr o w) e))

  fine_list : (l : List Val) → ((k : ℕ) (v : Val) → slice_get l k ≡ Some v → IsOpenVal typed v) → FineAll (kept_by (is_shut typed)) l
  fine_list [] h = tt
  fine_list (v ∷ l) h = (fine_val v (h 0 v refl), fine_list l (λ k w e. h (suc k) w e))

  pub kept_numbers : HoldsNumbers typed locals m → Kept
  kept_numbers h = record {
    objects = λ o ws e. fine_list ws (λ k v t. h.values (Word o k) v (ap (λ z. word_in z k) e ∙ t));
    locals = (
      h.enough,
      λ k v e. record {
        fine = fine_val v (h.values (Local k) v e);
        number = λ t. let n = h.integers k t in is_number n.0 v (sym n.1 ∙ e);
      },
    );
    shuts = h.globals;
  }
