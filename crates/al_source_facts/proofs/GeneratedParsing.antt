-- The text of the generated program has its tokens, and they have their tree.
use Rattle.std.proofs.Common.{◌≡◌, refl}
use Rattle.std.specs.Prelude.{Ok}
use Rattle.al_gen.specs.Generated.{source}
use Rattle.al_grammar.specs.Reading.{reading}
use Rattle.al_grammar.specs.Spelling.{next}
use Rattle.al_grammar.specs.Lexemes.{lexeme, number_at, unit_at, inside_len, format_of}
use Rattle.al_grammar.specs.Words.{key_of, mark_at}
use Rattle.al_grammar.specs.ExpressionParser.{guard, go, parse}
use Rattle.al_grammar.specs.StatementParser.{statement}
use Rattle.al_grammar.specs.Steps.{same_mark, same_key, loop, repeat}
use Rattle.al_grammar.specs.TypeParser.{stars, dimensions}
use Rattle.al_rules.specs.Refusals.{tokens_of, program_of}
use Rattle.al_source_facts.specs.Generated.{tokens, program}

pub reads : tokens_of source ≡ Ok tokens
unfolding source reading next lexeme number_at unit_at inside_len format_of key_of mark_at
reads = refl

pub parses : program_of tokens ≡ Ok program
unfolding guard go parse statement same_mark same_key loop repeat stars dimensions
parses = refl
