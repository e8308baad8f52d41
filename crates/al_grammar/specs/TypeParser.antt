-- The parser of types and of declared names, as a function on lists.
use Rattle.std.specs.Prelude.{ℕ, zero, suc, pos, nat_le, int_le, Bool, true, false, ◌&&◌, Option, Some, None}
use Rattle.al_source.specs.declared.tokens.TokenKind.{TokenKind}
use Rattle.al_source.specs.declared.tokens.TokenKind.TheVariants.{Number}
use Rattle.al_source.specs.declared.tokens.Mark.TheVariants as m
use Rattle.al_source.specs.declared.tokens.Key as the_key
use Rattle.al_source.specs.declared.tokens.Key.TheVariants as key
use Rattle.al_source.specs.declared.source_tree.CType.{CType}
use Rattle.al_source.specs.declared.source_tree.CType.TheVariants as type
use Rattle.al_source.specs.declared.source_tree.Field.{Field}
use Rattle.al_source.specs.declared.limits.TheConstants.{DECLARATOR_STARS, DECLARATOR_DIMENSIONS, DIMENSION_LENGTH}
use Rattle.al_source.specs.Steps.{pure}
use Rattle.al_grammar.specs.Steps.{Step, ◌>>=◌, ◌>>◌, refuse, skip, skip_if, key_at, meaning_at, is_mark, is_key, expect, expect_key, word}

-- takes this reserved word where it comes next
abbrev pub optional : the_key.Key → Step (Unit {0})
optional key = λ ts. skip_if (is_key key ts) ts

abbrev pub base_by : Option the_key.Key → Step CType
base_by (Some key.Int) = skip >> pure type.Int
base_by (Some key.Long) = skip >> optional key.Long >> optional key.Int >> pure type.Int
base_by (Some key.Struct) = skip >> word >>= λ w. pure (type.Struct w)
base_by _ = refuse

abbrev pub base : Step CType
base = λ ts. base_by (key_at ts) ts

abbrev pub star_by : (CType → Step CType) → CType → Bool → Step CType
star_by again a true = skip >> again (type.Ptr a)
star_by again a false = pure a

-- at most so many stars
unfoldable pub stars : ℕ → CType → Step CType
stars zero a = pure a
stars (suc n) a = λ ts. star_by (stars n) a (is_mark m.Star ts) ts

abbrev pub length_by : ℕ → Bool → Option ℕ
length_by l true = Some l
length_by l false = None

-- the length of a dimension
abbrev pub length_of : TokenKind → Option ℕ
length_of (Number (pos l)) = length_by l (nat_le 1 l && int_le (pos l) DIMENSION_LENGTH)
length_of _ = None

abbrev pub take_length_by : Option ℕ → Step ℕ
take_length_by (Some l) = skip >> pure l
take_length_by None = refuse

abbrev pub take_length : Step ℕ
take_length = λ ts. take_length_by (meaning_at length_of ts) ts

abbrev pub dimension_by : (CType → Step CType) → CType → Bool → Step CType
dimension_by again a true =
    skip >> take_length >>= λ l.
    expect m.RightBracket >> again a >>= λ b.
    pure (type.Array b l)
dimension_by again a false = pure a

-- at most so many dimensions
unfoldable pub dimensions : ℕ → CType → Step CType
dimensions zero a = pure a
dimensions (suc n) a = λ ts. dimension_by (dimensions n) a (is_mark m.LeftBracket ts) ts

-- a name with the stars of its type, which follow this base
abbrev pub named : CType → Step Field
named a = stars DECLARATOR_STARS a >>= λ b. word >>= λ w. pure (record { name = w; ty = b })

abbrev pub declarator : CType → Step Field
declarator a =
    named a >>= λ f.
    dimensions DECLARATOR_DIMENSIONS f.ty >>= λ b.
    pure (record { name = f.name; ty = b })

-- `( base * )`
abbrev pub operand_type : Step CType
operand_type = expect m.LeftParen >> base >>= λ a. stars DECLARATOR_STARS a >>= λ b. expect m.RightParen >> pure b

abbrev pub size_of : Step CType
size_of = expect_key key.Sizeof >> operand_type
