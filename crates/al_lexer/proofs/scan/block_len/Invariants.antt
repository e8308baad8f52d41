use Rattle.std.proofs.Common.{◌≡◌, ◌+◌, drop}
use Rattle.std.specs.Prelude.{option_map}
use Rattle.al_grammar.specs.Lexemes.{block_len}
use Rattle.al_lexer.proofs.scan.block_len.Given as goal

abbrev pub invariant-loop-at : goal.invariant-loop-at
invariant-loop-at l = option_map (λ n. l.at + n) (block_len (drop l.at l.z)) ≡ block_len l.z
