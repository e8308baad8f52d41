use Rattle.std.proofs.Common.{◌∙◌}
use Rattle.al_lexer.proofs.TableLemmas.{mark_is, both}
use Rattle.al_lexer.proofs.words.mark_at.Goals as goal

pub returns-clause-value : goal.returns-clause-value
returns-clause-value c = c.find_mark.ensures.value ∙ mark_is c.args.z.now

pub returns-clause-within : goal.returns-clause-within
returns-clause-within c = both c.find_mark.result c.args.z.now (c.find_mark.ensures.value ∙ mark_is c.args.z.now) c.find_mark.ensures.within
