use Rattle.std.proofs.Common.{◌≡◌, ◌+◌, ◌≤◌, ◌++◌, length, take, reverse}
use Rattle.al_exec.proofs.active.Active.give.Given as goal

abbrev pub invariant-loop-v : goal.invariant-loop-v
invariant-loop-v l = record {
  stack : l.self.stack ≡ reverse (take l.v-index l.vs) ++ l.fn.self.stack;
  height : l.self.height ≡ l.fn.self.height + l.v-index;
  room : l.fn.self.height + length l.vs ≤ l.self.room;
  place : l.self.place ≡ l.fn.self.place;
}
