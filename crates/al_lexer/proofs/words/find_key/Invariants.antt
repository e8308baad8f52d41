use Rattle.std.proofs.Common.{◌≡◌, length}
use Rattle.std.specs.Prelude.{find}
use Rattle.std.specs.Str.{bytes_eq}
use Rattle.al_grammar.specs.Words.{key_text}
use Rattle.al_lexer.proofs.words.find_key.Given as goal

abbrev pub invariant-loop-table : goal.invariant-loop-table
invariant-loop-table l =
    find (λ key. bytes_eq (key_text key) l.word) l.table ≡ find (λ key. bytes_eq (key_text key) l.word) l.initial.table

abbrev pub decreases-loop-table : goal.decreases-loop-table
decreases-loop-table l = length l.table
