-- What is said of the tokens of a source that are no program, by the place of the first that is bad.
use Rattle.std.specs.Prelude.{ℕ, ◌-◌, List, [], ◌++◌, length, codes, Option, Some, None}
use Rattle.std.specs.List.{slice_get}
use Rattle.al_source.specs.declared.tokens.Token.{Token}
use Rattle.al_source.specs.declared.tokens.TokenKind.{TokenKind}
use Rattle.al_source.specs.declared.tokens.TokenKind.TheVariants as kind
use Rattle.al_grammar.specs.Characters.{Bytes}
use Rattle.al_grammar.specs.Slices.{slice}
use Rattle.al_report.specs.Lines.{of_line}

-- Any bytes may stand in the front of an annotation, and none in its end: these have names. Any other token is told
-- by its bytes, as they stand in the source.
abbrev pub named : TokenKind → Bytes → Bytes
named kind.Alter bytes = codes "#pragma alter"
named kind.EndAlter bytes = codes "end of pragma"
named _ bytes = bytes

abbrev pub token_text : Bytes → Token → Bytes
token_text source t = named t.kind (slice source t)

abbrev pub bad_token : List ℕ → Bytes → Token → List ℕ
bad_token name source t = of_line name t.line (codes "bad token " ++ token_text source t)

-- Only more tokens are missing: the line is that of the last. No tokens at all are a program.
abbrev pub behind : List ℕ → Option Token → List ℕ
behind name (Some last) = of_line name last.line (codes "unfinished")
behind name None = []

abbrev pub unfinished : List ℕ → List Token → List ℕ
unfinished name tokens = behind name (slice_get tokens (length tokens - 1))

abbrev pub bad_or_unfinished : List ℕ → Bytes → List Token → Option Token → List ℕ
bad_or_unfinished name source tokens (Some t) = bad_token name source t
bad_or_unfinished name source tokens None = unfinished name tokens

-- The place is that of a token, or past the last.
abbrev pub bad_text : List ℕ → Bytes → List Token → ℕ → List ℕ
bad_text name source tokens place = bad_or_unfinished name source tokens (slice_get tokens place)
