use Rattle.std.proofs.Common.{◌≡◌, length, nat_eq}
use Rattle.std.specs.Prelude.{find}
use Rattle.std.specs.List.{starts_with}
use Rattle.al_grammar.specs.Words.{mark_text}
use Rattle.al_lexer.proofs.words.find_mark.Given as goal

abbrev pub invariant-loop-table : goal.invariant-loop-table
invariant-loop-table l =
    find (λ mark. starts_with nat_eq l.z (mark_text mark)) l.table
    ≡ find (λ mark. starts_with nat_eq l.z (mark_text mark)) l.initial.table

abbrev pub decreases-loop-table : goal.decreases-loop-table
decreases-loop-table l = length l.table
