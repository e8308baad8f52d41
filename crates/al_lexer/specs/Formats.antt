-- Bytes that are gathered before a format.
use Rattle.std.specs.Prelude.{List, [], ◌∷◌}
use Rattle.al_source.specs.declared.texts.Piece.{Piece}
use Rattle.al_source.specs.declared.texts.Piece.TheVariants as piece
use Rattle.al_grammar.specs.Characters.{Bytes}
use Rattle.al_grammar.specs.Lexemes.{before_byte}

-- bytes before a format
abbrev pub before_bytes : Bytes → List Piece → List Piece
before_bytes [] ps = ps
before_bytes (b ∷ bs) ps = before_byte b (before_bytes bs ps)

-- bytes as the pieces of a format
abbrev pub plain_pieces : Bytes → List Piece
plain_pieces [] = []
plain_pieces (b ∷ bs) = piece.Plain (b ∷ bs) ∷ []
