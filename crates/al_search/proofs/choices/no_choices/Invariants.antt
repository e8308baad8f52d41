use Rattle.std.proofs.Common.{◌≡◌, ◌++◌, drop, map, Option, None}
use Rattle.al_core.specs.declared.choices.Choice.{Choice}
use Rattle.al_core.specs.declared.choices.LoopInfo.{LoopInfo}
use Rattle.al_search.proofs.choices.no_choices.Given as goal

abbrev pub invariant-loop : goal.invariant-loop
invariant-loop l =
    let none : LoopInfo → Option Choice = λ info. None in
    l.choices.items ++ map none (drop l.index l.infos) ≡ map none l.infos
