use Rattle.al_code.proofs.Deciding.{valid_true}
use Rattle.al_round.proofs.runner.RunnerMakerDone.make.Goals as goal

pub run_chunk-requires-clause-valid : goal.run_chunk-requires-clause-valid
run_chunk-requires-clause-valid g c = valid_true c.args.self.now.task.plan.code.now c.args.self.now.valid
