use Rattle.std.proofs.Common.{arith, ap, ◌∙◌, ◌≡◌, ◌-◌, ◌/◌}
use Rattle.std.proofs.lemmas.Result.{IfOk-weaker, IfOk-at_ok}
use Rattle.al_board.specs.Seen.{logs_of, view}
use Rattle.al_board.proofs.Kept.{kept_same, kept_trans, kept_left}
use Rattle.al_board.proofs.Works.{joined_all}
use Rattle.al_workers.proofs.tree.+workers.Goals as goal

pub work_in_two-returns : goal.work_in_two-returns
work_in_two-returns g t c = record {
  ended =
      IfOk-weaker c.join_both.result _ _
      (λ p both.
      let one = IfOk-at_ok _ both.is_first c.join-mine.ensures.first in
      let two = IfOk-at_ok _ both.is_last c.join-mine.ensures.second in
      let whole = (view c.args.pass).share in
      let kept : (view c.split-other.new.pass).share ≡ whole - whole / 2 = ap (λ z. z.share) c.split-other.ensures.kept in
      let given : (view c.split-other.result).share ≡ whole / 2 = ap (λ z. z.share) c.split-other.ensures.given in
      let all = joined_all (view both.first) (view both.last) (view p) both.both one.ended one.put two.put in
      let mine = one.share in
      let theirs = two.share in
      let sum = all.2 in
      record {
        own = (both.own.0, both.own.1 ∙ one.own.1 ∙ c.split-other.ensures.own.0.1);
        ended = all.0;
        put = all.1;
        share = omega arith;
        kept = kept_trans (logs_of c.args.pass) (logs_of c.split-other.new.pass) (logs_of p)
            (kept_same (logs_of c.args.pass) (logs_of c.split-other.new.pass) c.split-other.ensures.logs.0)
            (kept_trans (logs_of c.split-other.new.pass) (logs_of both.first) (logs_of p) one.kept
            (kept_left (logs_of both.first) (logs_of both.last) (logs_of p) both.logs));
      })
      c.join_both.ensures.both;
}
