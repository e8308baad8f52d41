-- The steps of which the parser is made, as a function on lists: what was read and what is left, or the tokens from
-- the first bad one on.
use Rattle.std.specs.Prelude.{ℕ, zero, suc, Bool, true, false, [], ◌∷◌, length, Option, Some, None, Result, Ok, Err}
use denote.Enum.Bare.{sameb}
use Rattle.al_source.specs.Steps.{bind, pure}
use Rattle.al_source.specs.declared.tokens.TokenKind.{TokenKind}
use Rattle.al_source.specs.declared.tokens.TokenKind.TheVariants.{Word, Key, Mark}
use Rattle.al_source.specs.contracts.tokens.Mark.{the_type}
use Rattle.al_source.specs.contracts.tokens.Key as the_key_type
use Rattle.al_source.specs.declared.tokens.Mark as the_mark
use Rattle.al_source.specs.declared.tokens.Key as the_key
use Rattle.al_grammar.specs.Phrases.{Tokens, Name}

abbrev pub Read : Type 0 → Type 0
Read A = Result (A × Tokens) Tokens

abbrev pub Step : Type 0 → Type 0
Step A = Tokens → Read A

-- One step after another. Where operators are counted, their number goes with the tokens.
infixl 10 ◌>>=◌
abbrev pub ◌>>=◌ : {A B S F : Type 0} → (S → Result (A × S) F) → (A → S → Result (B × S) F) → S → Result (B × S) F
p >>= f = λ s. bind (p s) f

infixl 10 ◌>>◌
abbrev pub ◌>>◌ : {A B S F : Type 0} → (S → Result (A × S) F) → (S → Result (B × S) F) → S → Result (B × S) F
p >> q = p >>= (λ _. q)

abbrev pub refuse : {A : Type 0} → Step A
refuse = λ ts. Err ts

-- ---- the next token

abbrev pub kind_at : Tokens → Option TokenKind
kind_at [] = None
kind_at (t ∷ ts) = Some t.kind

abbrev pub tail : Tokens → Tokens
tail [] = []
tail (t ∷ ts) = ts

abbrev pub mark_in : Option TokenKind → Option the_mark.Mark
mark_in (Some (Mark mark)) = Some mark
mark_in _ = None

abbrev pub mark_at : Tokens → Option the_mark.Mark
mark_at ts = mark_in (kind_at ts)

abbrev pub key_in : Option TokenKind → Option the_key.Key
key_in (Some (Key key)) = Some key
key_in _ = None

abbrev pub key_at : Tokens → Option the_key.Key
key_at ts = key_in (kind_at ts)

-- what the table says of a token
abbrev pub meaning_in : {A : Type 0} → (TokenKind → Option A) → Option TokenKind → Option A
meaning_in table (Some k) = table k
meaning_in table None = None

abbrev pub meaning_at : {A : Type 0} → (TokenKind → Option A) → Tokens → Option A
meaning_at table ts = meaning_in table (kind_at ts)

-- takes the next token
abbrev pub skip : Step (Unit {0})
skip = λ ts. Ok (tt, tail ts)

unfoldable pub same_mark : the_mark.Mark → the_mark.Mark → Bool
same_mark = sameb the_type

unfoldable pub same_key : the_key.Key → the_key.Key → Bool
same_key = sameb the_key_type.the_type

abbrev pub is_mark_in : the_mark.Mark → Option the_mark.Mark → Bool
is_mark_in mark None = false
is_mark_in mark (Some found) = same_mark found mark

abbrev pub is_mark : the_mark.Mark → Tokens → Bool
is_mark mark ts = is_mark_in mark (mark_at ts)

abbrev pub is_key_in : the_key.Key → Option the_key.Key → Bool
is_key_in key None = false
is_key_in key (Some found) = same_key found key

abbrev pub is_key : the_key.Key → Tokens → Bool
is_key key ts = is_key_in key (key_at ts)

abbrev pub expect_by : Bool → Step (Unit {0})
expect_by true = skip
expect_by false = refuse

-- takes this mark
abbrev pub expect : the_mark.Mark → Step (Unit {0})
expect mark = λ ts. expect_by (is_mark mark ts) ts

-- takes this reserved word
abbrev pub expect_key : the_key.Key → Step (Unit {0})
expect_key key = λ ts. expect_by (is_key key ts) ts

abbrev pub word_by : Option TokenKind → Step Name
word_by (Some (Word w)) = skip >> pure w
word_by _ = refuse

-- takes a name
abbrev pub word : Step Name
word = λ ts. word_by (kind_at ts) ts

-- takes this mark where it comes next
abbrev pub skip_if : Bool → Step (Unit {0})
skip_if true = skip
skip_if false = pure tt

-- ---- loops. A turn says whether it was the last.

abbrev pub after_turn : {A : Type 0} → (A → Step A) → A → Bool → Step A
after_turn again a true = pure a
after_turn again a false = again a

unfoldable pub loop : {A : Type 0} → (A → Step (A × Bool)) → ℕ → A → Step A
loop turn zero a ts = Err ts
loop turn (suc f) a ts = bind (turn a ts) (λ r. after_turn (loop turn f) r.0 r.1)

-- Each turn takes a token, so there are at most as many as there are tokens, and one more.
unfoldable pub repeat : {A : Type 0} → (A → Step (A × Bool)) → A → Step A
repeat turn a ts = loop turn (suc (length ts)) a ts
