use Rattle.std.proofs.Common.{map, string_bytes, refl}
use Rattle.al_answers.specs.Outcome.{answered, starved}
use Rattle.al_cli.proofs.Promised.{promised}
use Rattle.al_cli.proofs.top_call.alter.Goals as goal

pub returns-in-Ok : goal.returns-in-Ok
returns-in-Ok g c = promised (map string_bytes c.args.words.now) _ (answered c.in-Ok.answer c.in-Ok.ensures.ok c.deliver.ensures)

pub returns-in-Err : goal.returns-in-Err
returns-in-Err g c = promised (map string_bytes c.args.words.now) _ (starved c.in-Err.ensures.err refl refl c.code.ensures)
