use Rattle.std.proofs.Common.{subst}
use Rattle.al_board.specs.Seen.{view}
use Rattle.al_board.proofs.Kept.{kept_trans, kept_entry, kept_draw, put_logged}
use Rattle.al_board.proofs.Works.{has_drawn, is_not_put}
use Rattle.al_board.proofs.working.fill_next.Goals as goal

pub put-requires-clause-drawn : goal.put-requires-clause-drawn
put-requires-clause-drawn g c κs within = has_drawn _ (view c.draw.new.pass) c.in-Some.lane c.in-Some.ensures.drawn.2

pub put-requires-clause-not_put : goal.put-requires-clause-not_put
put-requires-clause-not_put g c κs within = is_not_put (view c.args.pass.now) (view c.draw.new.pass) c.in-Some.lane c.in-Some.ensures.drawn.2
    c.args.pass.now.bounded c.in-Some.ensures.drawn.1

pub returns-in_default-clause-kept : goal.returns-in_default-clause-kept
returns-in_default-clause-kept g c = kept_draw _ _ _ _ c.draw.ensures.logged

pub returns-in_err-piece-clause-kept : goal.returns-in_err-piece-clause-kept
returns-in_err-piece-clause-kept g c = kept_draw _ _ _ _ c.draw.ensures.logged

pub returns-clause-kept : goal.returns-clause-kept
returns-clause-kept g c = kept_trans _ _ _ (kept_draw _ _ _ _ c.draw.ensures.logged) (kept_entry _ _ _ c.put.ensures.logged)

pub returns-clause-logged : goal.returns-clause-logged
returns-clause-logged g c = (
  c.in_ok-piece.piece,
  subst (λ z. g.T.Piece.fits z c.in-Some.lane c.in_ok-piece.piece) c.requires.maker.0 c.in_ok-piece.ensures,
  put_logged _ _ _ _ c.put.ensures.logged,
)
