use Rattle.al_parser.proofs.Taken.{stop_is_bad}
use Rattle.al_parser.proofs.program.parse_or_first_bad.Goals as goal

pub returns-in-Err-Syntax : goal.returns-in-Err-Syntax
returns-in-Err-Syntax c =
    stop_is_bad c.args.tokens.now c.all_items.new.cursor.rest.now c.in-Err-Syntax.field-0 c.in-Err-Syntax.ensures c.in-Err-Syntax.field-0-is
