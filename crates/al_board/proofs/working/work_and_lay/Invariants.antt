use Rattle.std.proofs.Common.{◌≡◌, false, ◌-◌, length}
use Rattle.al_board.specs.Logs.{AreKept}
use Rattle.al_board.specs.Seen.{logs_of, view, IsSame}
use Rattle.al_board.specs.Helps.{HasLaid}
use Rattle.al_board.proofs.working.work_and_lay.Given as goal

abbrev pub invariant-loop-pass : goal.invariant-loop-pass
invariant-loop-pass g l = record {
  own : IsSame l.board l.initial.pass l.pass;
  kept : AreKept (logs_of l.initial.pass) (logs_of l.pass);
  going : (view l.pass).ended ≡ false;
  laid : HasLaid (view l.initial.pass) (view l.pass);
}

abbrev pub decreases-loop-pass : goal.decreases-loop-pass
decreases-loop-pass g l = l.board.setting.lanes - length (view l.pass).drawn
