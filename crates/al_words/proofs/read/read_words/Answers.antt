use Rattle.std.proofs.Common.{map, string_bytes}
use Rattle.al_words.proofs.Ranges.{result_in}
use Rattle.al_words.proofs.read.read_words.Goals as goal

pub returns-clause-ranges : goal.returns-clause-ranges
returns-clause-ranges c = result_in (map string_bytes c.args.words.now) c.read.result c.read.ensures
