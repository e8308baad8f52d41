-- Which tokens a source spells, and its first fault.
use Rattle.std.specs.Prelude.{◌≡◌, ℕ, zero, suc, ◌+◌, ◌-◌, if◌then◌else◌, ◌==◌, List, [], ◌∷◌, ◌++◌, take, drop, length, slice_index, Option, Some, None, option_to_list, Result, Ok, Err, codes}
use Rattle.std.specs.Str.{bytes_eq}
use Rattle.al_source.specs.declared.tokens.Token.{Token}
use Rattle.al_source.specs.declared.tokens.TokenKind.{TokenKind}
use Rattle.al_source.specs.declared.tokens.TokenKind.TheVariants as kind
use Rattle.al_source.specs.declared.faults.LexFault.{LexFault}
use Rattle.al_source.specs.declared.faults.LexFault.TheVariants.{BadByte, OpenComment}
use Rattle.al_grammar.specs.declared.place.Place.{Place}
use Rattle.al_grammar.specs.declared.place.Place.TheVariants.{Fresh, Inside, Hash, Pragma, Skipped, Note}
use Rattle.al_grammar.specs.declared.place.Spot.{Spot}
use Rattle.al_grammar.specs.declared.place.Next.{Next}
use Rattle.al_grammar.specs.Characters.{Bytes, is_blank, line_feeds}
use Rattle.al_grammar.specs.Lexemes.{begins_line_comment, begins_block_comment, line_comment_len, block_comment_len, name_len, Lexeme, lexeme}

-- something that is no token
abbrev pub gap : ℕ → Place → Result Next LexFault
gap len place = Ok (record { len = len; token = None; place = place })

abbrev pub token_from : ℕ → ℕ → ℕ → TokenKind → Token
token_from start line end kind = record { kind = kind; start = start; end = end; line = line }

-- ---- line ends

-- An annotation ends before a line feed and at the end of the source.
abbrev pub note_end : Spot → Token
note_end s = token_from s.at s.line s.at kind.EndAlter

-- A directive has to have a name, on its line.
abbrev pub line_end_at : Place → Spot → Result Next LexFault
line_end_at (Hash start line) s = Err (BadByte line)
line_end_at Note s = Ok (record { len = 1; token = Some (note_end s); place = Fresh })
line_end_at _ s = gap 1 Fresh

abbrev pub end_at : Place → Spot → Result (List Token) LexFault
end_at (Hash start line) s = Err (BadByte line)
end_at Note s = Ok (note_end s ∷ [])
end_at _ s = Ok []

-- ---- comments

abbrev pub closed : Spot → Option ℕ → Result Next LexFault
closed s None = Err (OpenComment s.line)
closed s (Some len) = gap len s.place

-- ---- directives

-- `include` skips the line.
abbrev pub directive : ℕ → ℕ → Bytes → Result Next LexFault
directive start line z =
    let word = take (name_len z) z in
    if bytes_eq word (codes "include") then gap (length word) Skipped else
    if bytes_eq word (codes "pragma") then gap (length word) (Pragma start line) else
    Err (BadByte line)

-- `alter` begins an annotation, and anything else after `pragma` skips the line.
abbrev pub pragma : ℕ → ℕ → Spot → Bytes → Result Next LexFault
pragma start line s z =
    let word = take (name_len z) z in
    let front = token_from start line (s.at + length word) kind.Alter in
    if bytes_eq word (codes "alter") then Ok (record { len = length word; token = Some front; place = Note }) else
    gap 1 Skipped

-- ---- tokens

abbrev pub token_at : Spot → Place → Result Lexeme LexFault → Result Next LexFault
token_at s place (Err fault) = Err fault
token_at s place (Ok t) =
    Ok (record { len = t.1; token = Some (token_from s.at s.line (s.at + t.1) t.0); place = place })

-- what stands next where no blank and no comment does
abbrev pub matter_at : Place → Spot → Bytes → Result Next LexFault
matter_at Fresh s z = if slice_index z 0 == 35 then gap 1 (Hash s.at s.line) else token_at s Inside (lexeme s.line z)
matter_at Inside s z = token_at s Inside (lexeme s.line z)
matter_at (Hash start line) s z = directive start line z
matter_at (Pragma start line) s z = pragma start line s z
matter_at Skipped s z = gap 1 Skipped
matter_at Note s z = token_at s Note (lexeme s.line z)

-- ---- the whole

-- what stands next at a spot, before these bytes
unfoldable pub next : Spot → Bytes → Result Next LexFault
next s z =
    let b = slice_index z 0 in
    if b == 10 then line_end_at s.place s else
    if is_blank b then gap 1 s.place else
    if begins_line_comment z then gap (line_comment_len z) s.place else
    if begins_block_comment z then closed s (block_comment_len z) else
    matter_at s.place s z

-- the spot after what stood next
abbrev pub spot_after : Spot → Bytes → Next → Spot
spot_after s z n = record { at = s.at + n.len; line = s.line + line_feeds (take n.len z); place = n.place }

-- From a spot on, these bytes spell the tokens: at each turn what stands next is taken, which is a byte at least.
pub data SpellsFrom : Spot → Bytes → List Token → Type 0 where
  ends : {s : Spot} {ts : List Token} → end_at s.place s ≡ Ok ts → SpellsFrom s [] ts
  goes : {s : Spot} {b : ℕ} {z : Bytes} {n : Next} {ts : List Token}
      → next s (b ∷ z) ≡ Ok n → SpellsFrom (spot_after s (b ∷ z) n) (drop (n.len - 1) z) ts
      → SpellsFrom s (b ∷ z) (option_to_list n.token ++ ts)

abbrev pub first_spot : Spot
first_spot = record { at = 0; line = 1; place = Fresh }

abbrev pub Spells : Bytes → List Token → Type 0
Spells source tokens = SpellsFrom first_spot source tokens

abbrev pub fault_of : {A : Type 0} → Result A LexFault → Option LexFault
fault_of (Ok x) = None
fault_of (Err fault) = Some fault

-- The first fault from a spot on. The number counts the bytes that are left of what stood there.
abbrev pub fault_from : ℕ → Spot → Bytes → Option LexFault
fault_from left s [] = fault_of (end_at s.place s)
fault_from (suc left) s (b ∷ z) = fault_from left s z
fault_from zero s (b ∷ z) =
    elim (next s (b ∷ z)) [
      | Err fault ↦ Some fault
      | Ok n ↦ fault_from (n.len - 1) (spot_after s (b ∷ z) n) z
    ]

-- The first fault of a source that spells no tokens.
unfoldable pub first_lexical_fault : Bytes → Option LexFault
first_lexical_fault = fault_from 0 first_spot
