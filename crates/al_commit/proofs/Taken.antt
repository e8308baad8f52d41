-- Entries that are taken out one by one.
use Rattle.std.proofs.Common.{◌≡◌, Bool, true, false, Option, None, is_some, cond, List, [], ◌∷◌, length, refl, sym, ap, ◌∙◌, arith}
use Rattle.std.specs.Prelude.{map}
use Rattle.std.specs.FinMap as fin
use Rattle.std.specs.FinMap.{FinMap}
use Rattle.std.proofs.Math.Bool.{true≢false}
use Rattle.al_core.specs.declared.choices.Red.{Red}
use Rattle.al_core.specs.declared.values.Obj.{Obj}
use Rattle.al_core.specs.declared.values.Val.{Val}
use Rattle.al_core.specs.Orders.{obj_cmp, obj_eq}
use Rattle.al_core.specs.Memory.{Memory}
use Rattle.al_core.specs.Chunk.{sum_of}
use Rattle.al_core.specs.Applied.{with_sums}
use Rattle.al_laws.proofs.Orders.{obj_total}

some_left : {X : Type 0} (b : Bool) (x : Option X) → is_some (cond b None x) ≡ true → is_some x ≡ true
some_left true x h = absurd (true≢false (sym h))
some_left false x h = h

-- what is left was there
pub left_was_there : (m : FinMap obj_cmp (List Val)) (o q : Obj) → fin.contains_key (fin.remove m o) q ≡ true → fin.contains_key m q ≡ true
left_was_there m o q h = some_left (obj_eq q o) (fin.get m q) (sym (ap is_some (fin.get-remove obj_total m o q)) ∙ h)

-- where no accumulator is left, nothing is joined
pub none_gathered : (reds : List Red) (vs : List Val) (m : Memory) → length vs ≡ 0 → m ≡ with_sums reds (map sum_of vs) m
none_gathered [] vs m e = refl
none_gathered (r ∷ reds) [] m e = refl
none_gathered (r ∷ reds) (v ∷ vs) m e = absurd (omega arith)
