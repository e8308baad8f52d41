use Rattle.al_batch.proofs.run.run_jobs.Goals as goal

pub answers_of-requires-clause-fit : goal.answers_of-requires-clause-fit
answers_of-requires-clause-fit g c κs within = rw c.in_ok-board.ensures.board.1 at c.close_vec.ensures.fit
