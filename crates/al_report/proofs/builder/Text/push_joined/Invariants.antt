use Rattle.std.proofs.Common.{◌≡◌, ◌++◌, take, codes}
use Rattle.std.specs.List.{flat_map}
use Rattle.al_report.specs.Traces as spec
use Rattle.al_report.proofs.builder.Text.push_joined.Given as goal

abbrev pub invariant-loop-judged : goal.invariant-loop-judged
invariant-loop-judged l = l.self ≡ l.initial.self ++ flat_map (λ more. codes ", " ++ spec.judged_text more) (take l.judged-index l.others)
