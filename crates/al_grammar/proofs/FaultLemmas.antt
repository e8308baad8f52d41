-- A fault of a source is at a line of it: never that it is too long, and never that memory ran out.
use Rattle.std.proofs.Common.{◌≡◌, ℕ, zero, suc, ◌-◌, Bool, true, false, cond, List, [], ◌∷◌, drop, take, length, slice_index, Option, Some, None, Result, Ok, Err, subst, ℤ}
use Rattle.std.specs.Prelude.{option_to_list, ◌==◌, codes}
use Rattle.std.specs.Str.{bytes_eq}
use Rattle.std.specs.Char.{is_ascii_digit}
use Rattle.al_source.specs.declared.tokens.Token.{Token}
use Rattle.al_source.specs.declared.tokens.Mark.{Mark}
use Rattle.al_source.specs.declared.faults.LexFault.{LexFault}
use Rattle.al_source.specs.declared.faults.LexFault.TheVariants.{TooLong, BadByte, BadNumber, BadText, OpenComment, Memory}
use Rattle.al_grammar.specs.declared.place.Place.{Place}
use Rattle.al_grammar.specs.declared.place.Place.TheVariants.{Fresh, Inside, Hash, Pragma, Skipped, Note}
use Rattle.al_grammar.specs.declared.place.Spot.{Spot}
use Rattle.al_grammar.specs.declared.place.Next.{Next}
use Rattle.al_grammar.specs.Characters.{Bytes, is_blank, is_letter}
use Rattle.al_grammar.specs.Words.{mark_at}
use Rattle.al_grammar.specs.Lexemes.{begins_line_comment, begins_block_comment, block_comment_len, name_len, Lexeme, lexeme, number_at, number_token, quoted, inside_len, marked}
use Rattle.al_grammar.specs.Spelling.{end_at, line_end_at, gap, closed, token_at, matter_at, next, spot_after, first_spot}
use Rattle.al_grammar.specs.Reading.{with_front, reading_from, reading}

-- an answer that is no fault without a line
abbrev pub IsLined : {A : Type 0} → Result A LexFault → Type 0
IsLined (Ok x) = Unit {0}
IsLined (Err TooLong) = ⊥
IsLined (Err Memory) = ⊥
IsLined (Err _) = Unit {0}

either : {A : Type 0} (b : Bool) (x y : Result A LexFault) → IsLined x → IsLined y → IsLined (cond b x y)
either true x y h k = h
either false x y h k = k

lined_number : (line : ℕ) (o : Option (ℤ × ℕ)) → IsLined (number_token line o)
lined_number line None = tt
lined_number line (Some n) = tt

lined_quoted : (line : ℕ) (z : Bytes) (o : Option ℕ) → IsLined (quoted line z o)
lined_quoted line z None = tt
lined_quoted line z (Some n) = tt

lined_marked : (line : ℕ) (o : Option Mark) → IsLined (marked line o)
lined_marked line None = tt
lined_marked line (Some m) = tt

lined_lexeme : (line : ℕ) (z : Bytes) → IsLined (lexeme line z)
unfolding lexeme
lined_lexeme line z =
    either (is_letter (slice_index z 0)) _ _ tt
    (either (is_ascii_digit (slice_index z 0)) _ _ (lined_number line (number_at z))
    (either (slice_index z 0 == 34) _ _ (lined_quoted line z (inside_len (drop 1 z))) (lined_marked line (mark_at z))))

lined_token : (s : Spot) (place : Place) (r : Result Lexeme LexFault) → IsLined r → IsLined (token_at s place r)
lined_token s place (Ok t) h = tt
lined_token s place (Err TooLong) h = h
lined_token s place (Err Memory) h = h
lined_token s place (Err (BadByte n)) h = tt
lined_token s place (Err (BadNumber n)) h = tt
lined_token s place (Err (BadText n)) h = tt
lined_token s place (Err (OpenComment n)) h = tt

lined_closed : (s : Spot) (o : Option ℕ) → IsLined (closed s o)
lined_closed s None = tt
lined_closed s (Some n) = tt

lined_line_end : (p : Place) (s : Spot) → IsLined (line_end_at p s)
lined_line_end Fresh s = tt
lined_line_end Inside s = tt
lined_line_end (Hash start line) s = tt
lined_line_end (Pragma start line) s = tt
lined_line_end Skipped s = tt
lined_line_end Note s = tt

lined_end : (p : Place) (s : Spot) → IsLined (end_at p s)
lined_end Fresh s = tt
lined_end Inside s = tt
lined_end (Hash start line) s = tt
lined_end (Pragma start line) s = tt
lined_end Skipped s = tt
lined_end Note s = tt

lined_directive : (a b : Bool) (m n : ℕ) (p q : Place) (line : ℕ) → IsLined (cond a (gap m p) (cond b (gap n q) (Err (BadByte line))))
lined_directive true b m n p q line = tt
lined_directive false true m n p q line = tt
lined_directive false false m n p q line = tt

lined_pragma : (a : Bool) (n : Next) → IsLined (cond a (Ok n) (gap 1 Skipped))
lined_pragma true n = tt
lined_pragma false n = tt

lined_matter : (p : Place) (s : Spot) (z : Bytes) → IsLined (matter_at p s z)
lined_matter Fresh s z = either (slice_index z 0 == 35) _ _ tt (lined_token s Inside (lexeme s.line z) (lined_lexeme s.line z))
lined_matter Inside s z = lined_token s Inside (lexeme s.line z) (lined_lexeme s.line z)
lined_matter (Hash start line) s z =
    lined_directive (bytes_eq (take (name_len z) z) (codes "include")) (bytes_eq (take (name_len z) z) (codes "pragma")) (length (take (name_len z) z))
    (length (take (name_len z) z)) Skipped (Pragma start line) line
lined_matter (Pragma start line) s z = lined_pragma (bytes_eq (take (name_len z) z) (codes "alter")) _
lined_matter Skipped s z = tt
lined_matter Note s z = lined_token s Note (lexeme s.line z) (lined_lexeme s.line z)

lined_next : (s : Spot) (z : Bytes) → IsLined (next s z)
unfolding next
lined_next s z =
    either (slice_index z 0 == 10) _ _ (lined_line_end s.place s)
    (either (is_blank (slice_index z 0)) _ _ tt
    (either (begins_line_comment z) _ _ tt
    (either (begins_block_comment z) _ _ (lined_closed s (block_comment_len z)) (lined_matter s.place s z))))

lined_front : (ts : List Token) (r : Result (List Token) LexFault) → IsLined r → IsLined (with_front ts r)
lined_front ts (Ok us) h = tt
lined_front ts (Err TooLong) h = h
lined_front ts (Err Memory) h = h
lined_front ts (Err (BadByte n)) h = tt
lined_front ts (Err (BadNumber n)) h = tt
lined_front ts (Err (BadText n)) h = tt
lined_front ts (Err (OpenComment n)) h = tt

abbrev goes_on : Spot → ℕ → Bytes → Result Next LexFault → Result (List Token) LexFault
goes_on s b z (Err fault) = Err fault
goes_on s b z (Ok n) = with_front (option_to_list n.token) (reading_from (n.len - 1) (spot_after s (b ∷ z) n) z)

lined_goes : (s : Spot) (b : ℕ) (z : Bytes)
    → ((left : ℕ) (t : Spot) → IsLined (reading_from left t z)) → (r : Result Next LexFault) → IsLined r → IsLined (goes_on s b z r)
lined_goes s b z rest (Ok n) h =
    lined_front (option_to_list n.token) (reading_from (n.len - 1) (spot_after s (b ∷ z) n) z) (rest (n.len - 1) (spot_after s (b ∷ z) n))
lined_goes s b z rest (Err TooLong) h = h
lined_goes s b z rest (Err Memory) h = h
lined_goes s b z rest (Err (BadByte n)) h = tt
lined_goes s b z rest (Err (BadNumber n)) h = tt
lined_goes s b z rest (Err (BadText n)) h = tt
lined_goes s b z rest (Err (OpenComment n)) h = tt

lined_from : (left : ℕ) (s : Spot) (z : Bytes) → IsLined (reading_from left s z)
lined_from left s [] = lined_end s.place s
lined_from (suc left) s (b ∷ z) = lined_from left s z
lined_from zero s (b ∷ z) = lined_goes s b z (λ left t. lined_from left t z) (next s (b ∷ z)) (lined_next s (b ∷ z))

pub lined : (source : Bytes) → IsLined (reading source)
unfolding reading
lined source = lined_from 0 first_spot source

pub never_too_long : (source : Bytes) → reading source ≡ Err TooLong → ⊥
never_too_long source e = subst (λ r. IsLined r) e (lined source)

pub never_memory : (source : Bytes) → reading source ≡ Err Memory → ⊥
never_memory source e = subst (λ r. IsLined r) e (lined source)
