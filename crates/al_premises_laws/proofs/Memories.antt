-- Memories of two globals of one word and two locals, with numbers in all of them.
use Rattle.std.proofs.Common.{◌≡◌, ℕ, zero, suc, [], ◌∷◌, Some, None, Bool, true, false, sym, ap, subst, ◌∙◌}
use Rattle.std.specs.Prelude.{cond, is_some, slice_get, ℤ}
use Rattle.std.specs.FinMap as map
use Rattle.al_core.specs.declared.values.Addr.{Addr}
use Rattle.al_core.specs.declared.values.Addr.TheVariants.{Word, Head, Local}
use Rattle.al_core.specs.declared.values.Obj.{Obj}
use Rattle.al_core.specs.declared.values.Obj.TheVariants.{Global, Serial, Iter}
use Rattle.al_core.specs.declared.values.Val.{Val}
use Rattle.al_core.specs.declared.values.Val.TheVariants.{Int}
use Rattle.al_core.specs.Orders.{obj_cmp, obj_eq}
use Rattle.al_core.specs.Memory.{has_object, word_in, value_at}
use Rattle.al_core.specs.Readiness.{IsNameFrom}
use Rattle.al_laws.proofs.Orders.{obj_total}
use Rattle.al_laws.proofs.Words.{same_some, some_none}
use Rattle.al_premises_laws.specs.Executions.{holding}

module _ (x y i s : ℤ) where
  pub object_of : (o : Obj) → map.get (holding x y i s).objects o
      ≡ cond (obj_eq o (Global 0)) (Some (Int x ∷ [])) (cond (obj_eq o (Global 1)) (Some (Int y ∷ [])) None)
  object_of o =
      map.get-insert obj_total _ (Global 0) (Int x ∷ []) o
      ∙ ap (cond (obj_eq o (Global 0)) (Some (Int x ∷ [])))
      (map.get-insert obj_total map.empty (Global 1) (Int y ∷ []) o
      ∙ ap (cond (obj_eq o (Global 1)) (Some (Int y ∷ []))) (map.get-empty obj_cmp o))

  -- no iteration has made an object
  pub is_unnamed : (e first last : ℕ) (o : Obj) → IsNameFrom e first last o → has_object (holding x y i s) o ≡ false
  is_unnamed e first last (Global k) h = absurd h
  is_unnamed e first last (Serial k) h = absurd h
  is_unnamed e first last (Iter f j k) h = ap is_some (object_of (Iter f j k))

  -- what its four numbers have, each value has
  module _ (P : Val → Type 0) (in_x : P (Int x)) (in_y : P (Int y)) (in_i : P (Int i)) (in_s : P (Int s)) where
    only : (n : ℤ) → P (Int n) → (w : ℕ) (v : Val) → slice_get (Int n ∷ []) w ≡ Some v → P v
    only n p zero v e = subst P (same_some (Int n) v e) p
    only n p (suc w) v e = absurd (some_none v (sym e))

    in_objects : (b c : Bool) (w : ℕ) (v : Val)
        → word_in (cond b (Some (Int x ∷ [])) (cond c (Some (Int y ∷ [])) None)) w ≡ Some v → P v
    in_objects true c w v e = only x in_x w v e
    in_objects false true w v e = only y in_y w v e
    in_objects false false w v e = absurd (some_none v (sym e))

    pub held : (a : Addr) (v : Val) → value_at (holding x y i s) a ≡ Some v → P v
    held (Word o w) v e =
        in_objects (obj_eq o (Global 0)) (obj_eq o (Global 1)) w v (sym (ap (λ z. word_in z w) (object_of o)) ∙ e)
    held (Head o) v e = absurd (some_none v (sym e))
    held (Local zero) v e = subst P (same_some (Int i) v e) in_i
    held (Local (suc zero)) v e = subst P (same_some (Int s) v e) in_s
    held (Local (suc (suc k))) v e = absurd (some_none v (sym e))
