use Rattle.std.proofs.Common.{refl}
use Rattle.std.proofs.lemmas.Result.{on_ok_weaker}
use Rattle.al_snap.specs.Changes.{told}
use Rattle.al_round.proofs.commits.Kept.keep.Goals as goal

pub returns-clause-memory : goal.returns-clause-memory
returns-clause-memory g c = on_ok_weaker c.commit.result (λ h. h (told c.args.change) refl) c.commit.ensures.ok
