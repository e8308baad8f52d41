-- The tokens of the two sources have their trees.
use Rattle.std.proofs.Common.{◌≡◌, refl}
use Rattle.std.specs.Prelude.{Ok}
use Rattle.al_source.specs.declared.annotations.CommitOrder.TheVariants.{InOrder, OutOfOrder}
use Rattle.al_grammar.specs.ExpressionParser.{guard, go, parse}
use Rattle.al_grammar.specs.StatementParser.{statement}
use Rattle.al_grammar.specs.Steps.{same_mark, same_key, loop, repeat}
use Rattle.al_grammar.specs.TypeParser.{stars, dimensions}
use Rattle.al_rules.specs.Refusals.{program_of}
use Rattle.al_source_facts.specs.Texts.{tokens, out_of_order, in_order}
use Rattle.al_source_facts.specs.Trees.{program}

pub parses : program_of (tokens out_of_order) ≡ Ok (program OutOfOrder)
unfolding guard go parse statement same_mark same_key loop repeat stars dimensions
parses = refl

pub parses_ordered : program_of (tokens in_order) ≡ Ok (program InOrder)
unfolding guard go parse statement same_mark same_key loop repeat stars dimensions
parses_ordered = refl
