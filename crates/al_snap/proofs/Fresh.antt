-- A chunk that did nothing yet sees the memory below.
use Rattle.std.proofs.Common.{◌≡◌, ℕ, suc, List, [], ◌∷◌, Option, Some, None, is_some, refl, sym, ap, ◌∙◌}
use Rattle.std.specs.Prelude.{option_map, unwrap_or}
use Rattle.std.specs.Option.{option_and_then}
use Rattle.std.specs.FinMap as map
use Rattle.std.specs.FinSet as set
use Rattle.al_core.specs.declared.values.Obj.{Obj}
use Rattle.al_core.specs.declared.values.Val.{Val}
use Rattle.al_core.specs.declared.values.Addr.{Addr}
use Rattle.al_core.specs.declared.values.Addr.TheVariants.{Word, Local}
use Rattle.al_core.specs.Orders.{obj_cmp, addr_cmp}
use Rattle.al_core.specs.Memory.{Memory}
use Rattle.al_laws.proofs.Orders.{obj_total, obj_apart}
use Rattle.al_snap.specs.Layers.{laid, base_object, seen, over, made_by}
use Rattle.al_snap.proofs.Seen.{first_of, get_seen}
use Rattle.al_snap.proofs.Writing.{made_has}

nothing_laid : (at : ℕ → Addr) (k : ℕ) (vs : List Val) → laid map.empty at k vs ≡ vs
nothing_laid at k [] = refl
nothing_laid at k (v ∷ vs) = λ t. unwrap_or (map.get-empty addr_cmp (at k) t) v ∷ nothing_laid at (suc k) vs t

unlaid : (o : Obj) (x : Option (List Val))
    → option_and_then (λ (s : Option (List Val)). s) (option_map (λ ws. Some (laid map.empty (Word o) 0 ws)) x) ≡ x
unlaid o None = refl
unlaid o (Some ws) = ap (λ l. Some l) (nothing_laid (Word o) 0 ws)

pub seen_over : (m : Memory) → seen (over m) ≡ m
seen_over m =
    let objects : (seen (over m)).objects ≡ m.objects =
    map.same_map obj_total obj_apart _ _ (λ q.
    get_seen (over m) q
    ∙ ap (λ x. option_and_then (λ s. s) (first_of x (option_map (base_object (over m) q) (map.get m.objects q))))
    (map.get-empty obj_cmp q)
    ∙ unlaid q (map.get m.objects q)) in
    λ t. record { objects = objects t; locals = nothing_laid Local 0 m.locals t }

pub nothing_made_yet : made_by map.empty ≡ set.empty
nothing_made_yet = set.same_set obj_total obj_apart _ _ (λ q.
    made_has map.empty q ∙ ap (λ (s : Option (Option (List Val))). is_some s) (map.get-empty obj_cmp q)
    ∙ sym (set.contains-empty obj_cmp q))
