use Rattle.std.proofs.Common.{◌≡◌, length, map, drop, string_bytes}
use Rattle.al_answers.specs.Seen.{files_seen}
use Rattle.al_words.specs.Words.{word_at}
use Rattle.al_cli.proofs.Onward.{Onward}
use Rattle.al_cli.proofs.reading.inputs_step.Given as goal

abbrev pub invariant-loop-place : goal.invariant-loop-place
invariant-loop-place g l = record {
  onward : Onward (map (word_at (map string_bytes l.words)) l.places) (files_seen g.F.Files.contents g.F.Files.calls g.F.Files.faults l.fn.files)
      (map (word_at (map string_bytes l.words)) (drop l.place-index l.places)) (files_seen g.F.Files.contents g.F.Files.calls g.F.Files.faults l.files)
      l.all;
  counted : length l.all ≡ l.place-index;
}
