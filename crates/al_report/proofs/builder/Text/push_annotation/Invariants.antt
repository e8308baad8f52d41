use Rattle.std.proofs.Common.{◌≡◌, ◌++◌, take, codes}
use Rattle.std.specs.List.{flat_map}
use Rattle.al_report.specs.Tables as spec
use Rattle.al_report.proofs.builder.Text.push_annotation.Given as goal

abbrev pub invariant-loop-red : goal.invariant-loop-red
invariant-loop-red l =
    l.self ≡ l.fn.self ++ spec.policy_name l.choice.policy ++ codes " " ++ spec.order_name l.choice.order
    ++ flat_map (spec.reduction l.typed l.func) (take l.red-index l.choice.reds)
