-- How a phrase of the grammar takes tokens from the front of a list and leaves the rest.
use Rattle.std.specs.Prelude.{◌≡◌, ℕ, List, [], ◌∷◌, Option, Some}
use Rattle.al_source.specs.declared.tokens.Token.{Token}
use Rattle.al_source.specs.declared.tokens.TokenKind.{TokenKind}

abbrev pub Tokens : Type 0
Tokens = List Token

-- the bytes of an identifier
abbrev pub Name : Type 0
Name = List ℕ

-- the first token is of this kind
pub data Takes (k : TokenKind) : Tokens → Tokens → Type 0 where
  takes : {t : Token} {ts : Tokens} → t.kind ≡ k → Takes k (t ∷ ts) ts

-- the first token has this meaning in the table
pub data Means {A : Type 0} (table : TokenKind → Option A) (a : A) : Tokens → Tokens → Type 0 where
  means : {t : Token} {ts : Tokens} → table t.kind ≡ Some a → Means table a (t ∷ ts) ts

-- the first token may be of this kind, and is then taken
pub data Optional (k : TokenKind) : Tokens → Tokens → Type 0 where
  left_out : {ts : Tokens} → Optional k ts ts
  written : {ts us : Tokens} → Takes k ts us → Optional k ts us

-- the line of the first token
abbrev pub line_at : Tokens → ℕ
line_at [] = 0
line_at (t ∷ ts) = t.line
