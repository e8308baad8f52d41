use Rattle.std.proofs.Common.{◌≡◌, length}
use Rattle.al_grammar.specs.Steps.{repeat}
use Rattle.al_grammar.specs.ProgramParser.{global_name}
use Rattle.al_parser.proofs.items.globals.Given as goal

-- what is left to read gives what all gives
abbrev pub invariant-loop-found : goal.invariant-loop-found
invariant-loop-found l =
    repeat (global_name l.line l.base) l.found l.cursor.rest.now ≡ repeat (global_name l.line l.base) l.initial.found l.initial.cursor.rest.now

abbrev pub decreases-loop-found : goal.decreases-loop-found
decreases-loop-found l = length l.cursor.rest.now
