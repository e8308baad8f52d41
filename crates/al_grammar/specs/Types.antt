-- The grammar of types and of declared names.
use Rattle.std.specs.Prelude.{ℕ, suc, ◌≤◌, pos, ◌≤ℤ◌}
use Rattle.al_source.specs.declared.limits.TheConstants.{DECLARATOR_STARS, DECLARATOR_DIMENSIONS, DIMENSION_LENGTH}
use Rattle.al_source.specs.declared.tokens.TokenKind.TheVariants.{Word, Number, Key, Mark}
use Rattle.al_source.specs.declared.tokens.Mark.TheVariants as m
use Rattle.al_source.specs.declared.tokens.Key.TheVariants as key
use Rattle.al_source.specs.declared.source_tree.CType.{CType}
use Rattle.al_source.specs.declared.source_tree.CType.TheVariants as type
use Rattle.al_source.specs.declared.source_tree.Field.{Field}
use Rattle.al_grammar.specs.Phrases.{Tokens, Name, Takes, Optional}

-- base: `int`, `long`, `long long`, each of the latter two also with `int`, or `struct NAME`
pub data Base : Tokens → CType → Tokens → Type 0 where
  int : {ts us : Tokens} → Takes (Key key.Int) ts us → Base ts type.Int us
  long : {ts us vs ws : Tokens}
      → Takes (Key key.Long) ts us → Optional (Key key.Long) us vs → Optional (Key key.Int) vs ws → Base ts type.Int ws
  structure : {ts us vs : Tokens} {w : Name}
      → Takes (Key key.Struct) ts us → Takes (Word w) us vs → Base ts (type.Struct w) vs

-- at most so many stars after a type, each of which makes a pointer of it
pub data Stars : ℕ → CType → Tokens → CType → Tokens → Type 0 where
  none : {n : ℕ} {a : CType} {ts : Tokens} → Stars n a ts a ts
  star : {n : ℕ} {a b : CType} {ts us vs : Tokens}
      → Takes (Mark m.Star) ts us → Stars n (type.Ptr a) us b vs → Stars (suc n) a ts b vs

-- at most so many dimensions after a name, each of which makes an array of what the later ones make of the type
pub data Dimensions : ℕ → CType → Tokens → CType → Tokens → Type 0 where
  none : {n : ℕ} {a : CType} {ts : Tokens} → Dimensions n a ts a ts
  dimension : {n l : ℕ} {a b : CType} {ts us vs ws xs : Tokens}
      → Takes (Mark m.LeftBracket) ts us → Takes (Number (pos l)) us vs → 1 ≤ l → pos l ≤ℤ DIMENSION_LENGTH
      → Takes (Mark m.RightBracket) vs ws → Dimensions n a ws b xs → Dimensions (suc n) a ts (type.Array b l) xs

-- decl: a name with the stars and dimensions that its type has beside the base
pub data Declarator (a : CType) : Tokens → Field → Tokens → Type 0 where
  declarator : {b c : CType} {w : Name} {ts us vs ws : Tokens}
      → Stars DECLARATOR_STARS a ts b us → Takes (Word w) us vs → Dimensions DECLARATOR_DIMENSIONS b vs c ws
      → Declarator a ts (record { name = w; ty = c }) ws

-- `sizeof ( base * )`
pub data SizeOf : Tokens → CType → Tokens → Type 0 where
  size_of : {a b : CType} {ts us vs ws xs ys : Tokens}
      → Takes (Key key.Sizeof) ts us → Takes (Mark m.LeftParen) us vs → Base vs a ws → Stars DECLARATOR_STARS a ws b xs
      → Takes (Mark m.RightParen) xs ys → SizeOf ts b ys
