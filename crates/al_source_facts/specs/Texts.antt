-- The texts of a small source and its tokens: two annotated loops, of which the second has two reductions. The order of
-- the first one is written by a word that is left open.
use Rattle.std.specs.Prelude.{ℕ, ◌+◌, List, [], ◌∷◌, ◌++◌, length, pos, codes}
use Rattle.al_source.specs.declared.tokens.Token.{Token}
use Rattle.al_source.specs.declared.tokens.TokenKind.{TokenKind}
use Rattle.al_source.specs.declared.tokens.TokenKind.TheVariants as kind
use Rattle.al_source.specs.declared.tokens.Key.TheVariants as key
use Rattle.al_source.specs.declared.tokens.Mark.TheVariants as mark
use Rattle.al_source.specs.declared.texts.Piece.TheVariants as piece
use Rattle.al_grammar.specs.Characters.{Bytes}
use Rattle.al_grammar.specs.Phrases.{Tokens, Name}

abbrev pub line : List ℕ → List ℕ
line text = text ++ codes "\n"

abbrev pub text : Name → Bytes
text word =
    line (codes "long x, y;")
    ++ line (codes "int main(void) {")
    ++ line (codes "  long i = 0;")
    ++ line (codes "  long s = 0;")
    ++ line (codes "#pragma alter RAW " ++ word)
    ++ line (codes "  for (i = 0; i < 3; i += 1) {")
    ++ line (codes "    if (i == 0) x = 1;")
    ++ line (codes "    if (i == 1) y = x;")
    ++ line (codes "    printf(\"%ld\", i); }")
    ++ line (codes "#pragma alter FULL InOrder reduce(+: s) reduce(max: x)")
    ++ line (codes "  for (i = 0; i < 9; i += 1) {")
    ++ line (codes "    s += i;")
    ++ line (codes "    x = max(x, i); }")
    ++ line (codes "  return s;")
    ++ line (codes "}")

abbrev pub token : ℕ → ℕ → ℕ → TokenKind → Token
token start end line kind = record { kind = kind; start = start; end = end; line = line }

-- the tokens before the word
abbrev pub early : Tokens
early =
    token 0 4 1 (kind.Key key.Long) ∷ token 5 6 1 (kind.Word (codes "x")) ∷ token 6 7 1 (kind.Mark mark.Comma) ∷
    token 8 9 1 (kind.Word (codes "y")) ∷ token 9 10 1 (kind.Mark mark.Semicolon) ∷
    token 11 14 2 (kind.Key key.Int) ∷ token 15 19 2 (kind.Word (codes "main")) ∷
    token 19 20 2 (kind.Mark mark.LeftParen) ∷ token 20 24 2 (kind.Key key.Void) ∷
    token 24 25 2 (kind.Mark mark.RightParen) ∷ token 26 27 2 (kind.Mark mark.LeftBrace) ∷
    token 30 34 3 (kind.Key key.Long) ∷ token 35 36 3 (kind.Word (codes "i")) ∷
    token 37 38 3 (kind.Mark mark.Assign) ∷ token 39 40 3 (kind.Number (pos 0)) ∷
    token 40 41 3 (kind.Mark mark.Semicolon) ∷ token 44 48 4 (kind.Key key.Long) ∷
    token 49 50 4 (kind.Word (codes "s")) ∷ token 51 52 4 (kind.Mark mark.Assign) ∷
    token 53 54 4 (kind.Number (pos 0)) ∷ token 54 55 4 (kind.Mark mark.Semicolon) ∷ token 56 69 5 kind.Alter ∷
    token 70 73 5 (kind.Word (codes "RAW")) ∷ []

module _ (word : Name) where
  -- behind the word, by the places without it
  abbrev pub late : ℕ → ℕ → ℕ → TokenKind → Token
  late start end line kind = token (start + length word) (end + length word) line kind

  abbrev pub tokens : Tokens
  tokens =
      early
      ++ token 74 (74 + length word) 5 (kind.Word word)
      ∷ late 74 74 5 kind.EndAlter ∷ late 77 80 6 (kind.Key key.For) ∷ late 81 82 6 (kind.Mark mark.LeftParen) ∷
      late 82 83 6 (kind.Word (codes "i")) ∷ late 84 85 6 (kind.Mark mark.Assign) ∷
      late 86 87 6 (kind.Number (pos 0)) ∷ late 87 88 6 (kind.Mark mark.Semicolon) ∷
      late 89 90 6 (kind.Word (codes "i")) ∷ late 91 92 6 (kind.Mark mark.Less) ∷
      late 93 94 6 (kind.Number (pos 3)) ∷ late 94 95 6 (kind.Mark mark.Semicolon) ∷
      late 96 97 6 (kind.Word (codes "i")) ∷ late 98 100 6 (kind.Mark mark.PlusAssign) ∷
      late 101 102 6 (kind.Number (pos 1)) ∷ late 102 103 6 (kind.Mark mark.RightParen) ∷
      late 104 105 6 (kind.Mark mark.LeftBrace) ∷ late 110 112 7 (kind.Key key.If) ∷
      late 113 114 7 (kind.Mark mark.LeftParen) ∷ late 114 115 7 (kind.Word (codes "i")) ∷
      late 116 118 7 (kind.Mark mark.EqualEqual) ∷ late 119 120 7 (kind.Number (pos 0)) ∷
      late 120 121 7 (kind.Mark mark.RightParen) ∷ late 122 123 7 (kind.Word (codes "x")) ∷
      late 124 125 7 (kind.Mark mark.Assign) ∷ late 126 127 7 (kind.Number (pos 1)) ∷
      late 127 128 7 (kind.Mark mark.Semicolon) ∷ late 133 135 8 (kind.Key key.If) ∷
      late 136 137 8 (kind.Mark mark.LeftParen) ∷ late 137 138 8 (kind.Word (codes "i")) ∷
      late 139 141 8 (kind.Mark mark.EqualEqual) ∷ late 142 143 8 (kind.Number (pos 1)) ∷
      late 143 144 8 (kind.Mark mark.RightParen) ∷ late 145 146 8 (kind.Word (codes "y")) ∷
      late 147 148 8 (kind.Mark mark.Assign) ∷ late 149 150 8 (kind.Word (codes "x")) ∷
      late 150 151 8 (kind.Mark mark.Semicolon) ∷ late 156 162 9 (kind.Key key.Printf) ∷
      late 162 163 9 (kind.Mark mark.LeftParen) ∷ late 163 168 9 (kind.Text (piece.Number ∷ [])) ∷
      late 168 169 9 (kind.Mark mark.Comma) ∷ late 170 171 9 (kind.Word (codes "i")) ∷
      late 171 172 9 (kind.Mark mark.RightParen) ∷ late 172 173 9 (kind.Mark mark.Semicolon) ∷
      late 174 175 9 (kind.Mark mark.RightBrace) ∷ late 176 189 10 kind.Alter ∷
      late 190 194 10 (kind.Word (codes "FULL")) ∷ late 195 202 10 (kind.Word (codes "InOrder")) ∷
      late 203 209 10 (kind.Word (codes "reduce")) ∷ late 209 210 10 (kind.Mark mark.LeftParen) ∷
      late 210 211 10 (kind.Mark mark.Plus) ∷ late 211 212 10 (kind.Mark mark.Colon) ∷
      late 213 214 10 (kind.Word (codes "s")) ∷ late 214 215 10 (kind.Mark mark.RightParen) ∷
      late 216 222 10 (kind.Word (codes "reduce")) ∷ late 222 223 10 (kind.Mark mark.LeftParen) ∷
      late 223 226 10 (kind.Word (codes "max")) ∷ late 226 227 10 (kind.Mark mark.Colon) ∷
      late 228 229 10 (kind.Word (codes "x")) ∷ late 229 230 10 (kind.Mark mark.RightParen) ∷
      late 230 230 10 kind.EndAlter ∷ late 233 236 11 (kind.Key key.For) ∷
      late 237 238 11 (kind.Mark mark.LeftParen) ∷ late 238 239 11 (kind.Word (codes "i")) ∷
      late 240 241 11 (kind.Mark mark.Assign) ∷ late 242 243 11 (kind.Number (pos 0)) ∷
      late 243 244 11 (kind.Mark mark.Semicolon) ∷ late 245 246 11 (kind.Word (codes "i")) ∷
      late 247 248 11 (kind.Mark mark.Less) ∷ late 249 250 11 (kind.Number (pos 9)) ∷
      late 250 251 11 (kind.Mark mark.Semicolon) ∷ late 252 253 11 (kind.Word (codes "i")) ∷
      late 254 256 11 (kind.Mark mark.PlusAssign) ∷ late 257 258 11 (kind.Number (pos 1)) ∷
      late 258 259 11 (kind.Mark mark.RightParen) ∷ late 260 261 11 (kind.Mark mark.LeftBrace) ∷
      late 266 267 12 (kind.Word (codes "s")) ∷ late 268 270 12 (kind.Mark mark.PlusAssign) ∷
      late 271 272 12 (kind.Word (codes "i")) ∷ late 272 273 12 (kind.Mark mark.Semicolon) ∷
      late 278 279 13 (kind.Word (codes "x")) ∷ late 280 281 13 (kind.Mark mark.Assign) ∷
      late 282 285 13 (kind.Word (codes "max")) ∷ late 285 286 13 (kind.Mark mark.LeftParen) ∷
      late 286 287 13 (kind.Word (codes "x")) ∷ late 287 288 13 (kind.Mark mark.Comma) ∷
      late 289 290 13 (kind.Word (codes "i")) ∷ late 290 291 13 (kind.Mark mark.RightParen) ∷
      late 291 292 13 (kind.Mark mark.Semicolon) ∷ late 293 294 13 (kind.Mark mark.RightBrace) ∷
      late 297 303 14 (kind.Key key.Return) ∷ late 304 305 14 (kind.Word (codes "s")) ∷
      late 305 306 14 (kind.Mark mark.Semicolon) ∷ late 307 308 15 (kind.Mark mark.RightBrace) ∷ []

-- ---- the two sources

abbrev pub out_of_order : Name
out_of_order = codes "OutOfOrder"

abbrev pub in_order : Name
in_order = codes "InOrder"

-- the first loop commits out of order
abbrev pub source : Bytes
source = text out_of_order

-- both loops commit in order
abbrev pub ordered_source : Bytes
ordered_source = text in_order
