use Rattle.std.proofs.Common.{◌≡◌, ◌++◌, drop, map, Option, Some}
use Rattle.al_core.specs.declared.choices.Choice.{Choice}
use Rattle.al_core.specs.declared.choices.LoopInfo.{LoopInfo}
use Rattle.al_core.specs.Lines.{with_line}
use Rattle.al_cli.proofs.runs.own_choices.Given as goal

abbrev pub invariant-loop-info : goal.invariant-loop-info
invariant-loop-info l =
    let own : LoopInfo → Option Choice = λ info. Some (with_line l.line info.own) in
    l.choices ++ map own (drop l.info-index l.info-items) ≡ map own l.info-items
