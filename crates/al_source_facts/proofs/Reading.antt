-- The texts of the two sources have their tokens.
use Rattle.std.proofs.Common.{◌≡◌, refl}
use Rattle.std.specs.Prelude.{Ok}
use Rattle.al_grammar.specs.Reading.{reading}
use Rattle.al_grammar.specs.Spelling.{next}
use Rattle.al_grammar.specs.Lexemes.{lexeme, number_at, unit_at, inside_len, format_of}
use Rattle.al_grammar.specs.Words.{key_of, mark_at}
use Rattle.al_source_facts.specs.Texts.{source, ordered_source, tokens, out_of_order, in_order}

pub reads : reading source ≡ Ok (tokens out_of_order)
unfolding reading next lexeme number_at unit_at inside_len format_of key_of mark_at
reads = refl

pub reads_ordered : reading ordered_source ≡ Ok (tokens in_order)
unfolding reading next lexeme number_at unit_at inside_len format_of key_of mark_at
reads_ordered = refl
