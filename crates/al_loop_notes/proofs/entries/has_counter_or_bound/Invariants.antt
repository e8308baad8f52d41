use Rattle.std.proofs.Common.{◌≡◌, take, false}
use Rattle.std.specs.List.{list_any}
use Rattle.al_rules.specs.Notes.{is_counter_or_bound}
use Rattle.al_loop_notes.proofs.entries.has_counter_or_bound.Given as goal

-- none so far is
abbrev pub invariant-loop-r : goal.invariant-loop-r
invariant-loop-r l = list_any (λ r. is_counter_or_bound l.info r.at) (take l.r-index l.reds) ≡ false
