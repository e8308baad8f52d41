use Rattle.al_case_runs.proofs.plain.iterations.Goals as goal

pub loop-j-preserved : goal.loop-j-preserved
loop-j-preserved g c = c.in_ok-stop.ensures.room c.args.info.now c.again.ensures.room
