use Rattle.std.proofs.Common.{◌≡◌, drop}
use Rattle.std.specs.Prelude.{filter_map}
use Rattle.al_core.specs.Applied.{with_made}
use Rattle.al_plain.proofs.Committed.{made_at}
use Rattle.al_plain.proofs.commits.add_made.Given as goal

abbrev pub invariant-loop-o : goal.invariant-loop-o
invariant-loop-o l = with_made (filter_map (made_at l.from) (drop l.o-index l.o-items)) l.onto ≡ with_made (filter_map (made_at l.from) l.o-items) l.fn.onto
