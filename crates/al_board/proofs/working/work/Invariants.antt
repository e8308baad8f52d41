use Rattle.std.proofs.Common.{◌≡◌, false, ◌-◌, length, List, ℕ}
use Rattle.al_board.specs.Logs.{AreKept}
use Rattle.al_board.specs.Seen.{logs_of, view, IsSame}
use Rattle.al_board.specs.Views.{ran}
use Rattle.al_board.proofs.working.work.Given as goal

abbrev pub invariant-loop : goal.invariant-loop
invariant-loop g l = record {
  own : IsSame l.board l.initial.pass l.pass;
  kept : AreKept (logs_of l.initial.pass) (logs_of l.pass);
  going : (view l.pass).ended ≡ false;
  run : (lanes : List ℕ) × (view l.pass ≡ ran lanes (view l.initial.pass));
}

abbrev pub decreases-loop : goal.decreases-loop
decreases-loop g l = l.board.setting.lanes - length (view l.pass).drawn
