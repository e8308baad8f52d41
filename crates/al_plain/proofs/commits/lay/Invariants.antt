use Rattle.std.proofs.Common.{◌≡◌, drop}
use Rattle.std.specs.Prelude.{filter_map}
use Rattle.al_core.specs.Applied.{with_writes}
use Rattle.al_plain.proofs.Committed.{written}
use Rattle.al_plain.proofs.commits.lay.Given as goal

abbrev pub invariant-loop-a : goal.invariant-loop-a
invariant-loop-a l = with_writes (filter_map (written l.from) (drop l.a-index l.a-items)) l.onto ≡ with_writes (filter_map (written l.from) l.a-items) l.fn.onto
