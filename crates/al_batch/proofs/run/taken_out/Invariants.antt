use Rattle.std.proofs.Common.{◌≡◌, ◌++◌, ◌≤◌, length, map, vec_capacity}
use Rattle.al_batch.proofs.run.taken_out.Given as goal

abbrev pub invariant-loop-done : goal.invariant-loop-done
invariant-loop-done g l = record {
  room : length l.fn.list.items ≤ vec_capacity l.answers;
  parts : l.yielded ++ l.done-iterator.rest.items ≡ l.fn.list.items;
  taken : l.answers.items ≡ map (λ done. done.answer) l.yielded;
}
