use Rattle.std.proofs.Common.{◌≡◌, ◌≤◌, ◌+◌, [], drop}
use Rattle.std.specs.List.{slice_range}
use Rattle.al_text.specs.Numbers.{words_from, words_of, numbers_onto}
use Rattle.al_text.proofs.numbers.read.Given as goal

-- what is to come, the word that has begun included, goes on the numbers so far
abbrev pub invariant-loop-at : goal.invariant-loop-at
invariant-loop-at l = record {
  whole : numbers_onto l.numbers (words_from l.line (slice_range l.text l.start l.at) (drop l.at l.text)) ≡ numbers_onto [] (words_of l.text);
  begun : l.start ≤ l.at;
  lines : l.line ≤ l.at + 1;
}
