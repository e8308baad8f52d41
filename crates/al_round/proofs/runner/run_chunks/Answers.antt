use denote.Exit.{no}
use denote.Param.Send.{param_sync, arg_sync}
use Rattle.std.proofs.Common.{sym, ap, ◌∙◌, length}
use Rattle.al_board.specs.Seen.{task_of, lane_count}
use Rattle.al_snap.specs.Changes.{told}
use Rattle.al_chunk.specs.Loops.{execution_of}
use Rattle.al_round.proofs.Crossing.{task_sync, runner_sync}
use Rattle.al_round.proofs.Tasks.{same_task}
use Rattle.al_round.proofs.Told.{told_outcomes}
use Rattle.al_round.proofs.runner.run_chunks.Goals as goal

pub work_all-requires-clause-maker : goal.work_all-requires-clause-maker
work_all-requires-clause-maker g c κs within =
    let same = same_task c.task_of-2.result c.task_of.result (c.task_of-2.ensures.0 ∙ sym c.task_of.ensures.0)
    (c.task_of-2.ensures.1 ∙ sym c.task_of.ensures.1) in
    let lanes = ap (λ z. length z.chunks.now) c.task_of-2.ensures.1 in (
      same ∙ sym c.in_ok-book.ensures.book.1 ∙ sym (ap (λ b. task_of b) c.board.ensures.board),
      lanes ∙ sym c.in_ok-book.ensures.book.0 ∙ sym (ap (λ b. lane_count b) c.board.ensures.board),
    )

pub returns-clause-outcomes : goal.returns-clause-outcomes
returns-clause-outcomes g c =
    let judged = c.finish_vec.ensures.judged in
    let fit = rw c.task_of.ensures.1 at (rw c.task_of.ensures.0 at (rw c.in_ok-book.ensures.book.1 at judged.fit)) in
    λ typed l stands.
    told_outcomes (λ d. told d.change) (execution_of typed l c.args.plan.input.now c.args.plan.env.now) c.args.plan.choice.now.reds
    (g.S.Store.memory c.args.store.now) c.args.plan.chunks.now c.finish_vec.result.0.items (judged.each ∙ c.in_ok-book.ensures.book.0)
    (λ lane d at. fit lane d at typed l stands)

pub new-requires-sync-T-Task : goal.new-requires-sync-T-Task
new-requires-sync-T-Task g c κs within = search (task_sync, param_sync, arg_sync) depth 8

pub board-requires-sync-T-Task : goal.board-requires-sync-T-Task
board-requires-sync-T-Task g c κs within = search (task_sync, param_sync, arg_sync) depth 8

pub work_all-requires-sync-T-Task : goal.work_all-requires-sync-T-Task
work_all-requires-sync-T-Task g c κs within = search (task_sync, param_sync, arg_sync) depth 8

pub finish_vec-requires-sync-T-Task : goal.finish_vec-requires-sync-T-Task
finish_vec-requires-sync-T-Task g c κs within = search (task_sync, param_sync, arg_sync) depth 8

pub work_all-requires-sync-M : goal.work_all-requires-sync-M
work_all-requires-sync-M g c κs within = param_sync 2 _ (arg_sync _ no _ (runner_sync _ _ _ _ c.type_bounds.sync-S))
