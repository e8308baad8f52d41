-- A counter that is set again is the same.
use Rattle.std.proofs.Common.{◌≡◌, List, sym, ap, ◌∙◌}
use Rattle.std.specs.Prelude.{ℤ, slice_set}
use Rattle.std.specs.Int.{int_max}
use Rattle.std.proofs.lemmas.List.{set-set}
use Rattle.al_core.specs.declared.choices.LoopInfo.{LoopInfo}
use Rattle.al_core.specs.declared.values.Val.{Val}
use Rattle.al_core.specs.declared.values.Val.TheVariants.{Int}
use Rattle.al_engine.specs.Worlds.{HasCounter}

pub counter_set : (info : LoopInfo) (lo hi : ℤ) (before after : List Val) → after ≡ slice_set before info.counter (Int (int_max lo hi))
    → HasCounter info lo hi after
counter_set info lo hi before after e =
    ap (λ ls. slice_set ls info.counter (Int (int_max lo hi))) e
    ∙ set-set before info.counter (Int (int_max lo hi)) (Int (int_max lo hi)) ∙ sym e
