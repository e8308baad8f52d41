-- Tokens that can be written: what the names, numbers and texts of tokens are, and where an annotation stands.
use Rattle.std.proofs.Common.{◌≡◌, ℕ, ◌≤◌, Bool, true, false, List, [], ◌∷◌, ◌++◌, length, None, subst, ℤ, pos, negsuc}
use Rattle.std.specs.Prelude.{slice_index, ◌==◌, ◌||◌}
use Rattle.std.specs.List.{prefix_len}
use Rattle.al_source.specs.declared.texts.Piece.{Piece}
use Rattle.al_source.specs.declared.texts.Piece.TheVariants as piece
use Rattle.al_source.specs.declared.tokens.TokenKind.{TokenKind}
use Rattle.al_source.specs.declared.tokens.TokenKind.TheVariants.{Word, Key, Number, Text, Mark, Alter, EndAlter}
use Rattle.al_grammar.specs.Characters.{Bytes, is_letter, is_word, is_plain}
use Rattle.al_grammar.specs.Words.{key_of}
use Rattle.al_grammar.specs.Phrases.{Tokens, Takes, takes}
use Rattle.al_print.specs.Text.{ends_line}
use Rattle.al_print.specs.Tokens.{Kinds}

pub record IsName (w : Bytes) : Type 0 where
  pub letter : is_letter (slice_index w 0) ≡ true
  pub whole : prefix_len is_word w ≡ length w
  pub free : key_of w ≡ None

abbrev pub IsNumber : ℤ → Type 0
IsNumber (pos n) = n ≤ 9223372036854775807
IsNumber (negsuc n) = ⊥

abbrev pub is_meant : ℕ → Bool
is_meant b = is_plain b || (b == 10 || (b == 34 || (b == 37 || b == 92)))

abbrev pub AllMeant : Bytes → Type 0
AllMeant [] = Unit {0}
AllMeant (b ∷ bs) = (is_meant b ≡ true) × AllMeant bs

-- No piece of bytes is empty, and no two stand side by side. The test is whether one stands before.
abbrev pub IsFormat : Bool → List Piece → Type 0
IsFormat after [] = Unit {0}
IsFormat after (piece.Number ∷ ps) = IsFormat false ps
IsFormat true (piece.Plain bs ∷ ps) = ⊥
IsFormat false (piece.Plain [] ∷ ps) = ⊥
IsFormat false (piece.Plain (b ∷ bs) ∷ ps) = (is_meant b ≡ true) × AllMeant bs × IsFormat true ps

-- what the kind of a token of a source holds
abbrev pub IsWritable : TokenKind → Type 0
IsWritable (Word w) = IsName w
IsWritable (Key key) = Unit {0}
IsWritable (Number v) = IsNumber v
IsWritable (Text f) = IsFormat false f
IsWritable (Mark mark) = Unit {0}
IsWritable Alter = Unit {0}
IsWritable EndAlter = Unit {0}

abbrev pub AllWritable : Tokens → Type 0
AllWritable [] = Unit {0}
AllWritable (t ∷ ts) = IsWritable t.kind × AllWritable ts

-- Kinds of which each can be written, and whose annotations are closed and hold names and marks alone. The test is
-- whether an annotation is open.
abbrev pub Orderly : Bool → Kinds → Type 0
Orderly false [] = Unit {0}
Orderly true [] = ⊥
Orderly false (Word w ∷ ks) = IsName w × Orderly false ks
Orderly false (Key key ∷ ks) = Orderly false ks
Orderly false (Number v ∷ ks) = IsNumber v × Orderly false ks
Orderly false (Text f ∷ ks) = IsFormat false f × Orderly false ks
Orderly false (Mark mark ∷ ks) = Orderly false ks
Orderly false (Alter ∷ ks) = Orderly true ks
Orderly false (EndAlter ∷ ks) = ⊥
Orderly true (Word w ∷ ks) = IsName w × Orderly true ks
Orderly true (Mark mark ∷ ks) = (ends_line (Mark mark) ≡ false) × Orderly true ks
Orderly true (EndAlter ∷ ks) = Orderly false ks
Orderly true (_ ∷ ks) = ⊥

pub orderly : (b : Bool) (xs ys : Kinds) → Orderly b xs → Orderly false ys → Orderly b (xs ++ ys)
orderly false [] ys h k = k
orderly true [] ys h k = absurd h
orderly false (Word w ∷ xs) ys h k = (h.0, orderly false xs ys h.1 k)
orderly false (Key key ∷ xs) ys h k = orderly false xs ys h k
orderly false (Number v ∷ xs) ys h k = (h.0, orderly false xs ys h.1 k)
orderly false (Text f ∷ xs) ys h k = (h.0, orderly false xs ys h.1 k)
orderly false (Mark mark ∷ xs) ys h k = orderly false xs ys h k
orderly false (Alter ∷ xs) ys h k = orderly true xs ys h k
orderly false (EndAlter ∷ xs) ys h k = absurd h
orderly true (Word w ∷ xs) ys h k = (h.0, orderly true xs ys h.1 k)
orderly true (Key key ∷ xs) ys h k = absurd h
orderly true (Number v ∷ xs) ys h k = absurd h
orderly true (Text f ∷ xs) ys h k = absurd h
orderly true (Mark mark ∷ xs) ys h k = (h.0, orderly true xs ys h.1 k)
orderly true (Alter ∷ xs) ys h k = absurd h
orderly true (EndAlter ∷ xs) ys h k = orderly false xs ys h k

pub taken : {k : TokenKind} {ts us : Tokens} → Takes k ts us → AllWritable ts → IsWritable k
taken {k} (takes {t = t} d) h = subst IsWritable d h.0

pub left : {k : TokenKind} {ts us : Tokens} → Takes k ts us → AllWritable ts → AllWritable us
left (takes d) h = h.1

pub orderly3 : (xs ys zs : Kinds) → Orderly false xs → Orderly false ys → Orderly false zs → Orderly false (xs ++ ys ++ zs)
orderly3 xs ys zs h k l = orderly false (xs ++ ys) zs (orderly false xs ys h k) l
