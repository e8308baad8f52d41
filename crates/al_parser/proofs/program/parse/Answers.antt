use Rattle.std.proofs.Common.{ap}
use Rattle.al_grammar.proofs.ProgramFacts.{sound_program}
use Rattle.al_parser.proofs.Taken.{found_one, found_none}
use Rattle.al_parser.proofs.program.parse.Goals as goal

pub returns-in-Ok-clause-derived : goal.returns-in-Ok-clause-derived
returns-in-Ok-clause-derived c = sound_program c.args.tokens.now (c.in-Ok.items, c.all_items.new.cursor.rest.now) c.in-Ok.ensures

pub returns-in-Ok-clause-found : goal.returns-in-Ok-clause-found
returns-in-Ok-clause-found c p d =
    ap (λ is. record { items = is }) (found_one c.args.tokens.now c.all_items.new.cursor.rest.now c.in-Ok.items p c.in-Ok.ensures d)

pub returns-in-Err-clause-found : goal.returns-in-Err-clause-found
returns-in-Err-clause-found c p d = found_none c.args.tokens.now c.all_items.new.cursor.rest.now c.in-Err.fault p c.in-Err.ensures d
