use Rattle.std.proofs.Common.{◌≡◌, ◌+◌, drop, map, string_bytes}
use Rattle.al_words.specs.Words.{walked}
use Rattle.al_words.specs.Places.{Fits}
use Rattle.al_words.proofs.read.walk.Given as goal

abbrev pub invariant-loop-i : goal.invariant-loop-i
invariant-loop-i l = record {
  walked : walked l.walk (l.i + 1) (map string_bytes (drop l.i l.rest)) ≡ walked l.initial.walk 1 (map string_bytes l.rest);
  fits : Fits (l.i + 1) l.walk;
}
