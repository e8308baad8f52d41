-- What stands next is a byte at least.
use Rattle.std.proofs.Common.{◌≡◌, ℕ, ◌+◌, ◌≤◌, Bool, true, false, cond, [], ◌∷◌, drop, take, length, slice_index, Option, Some, None, Result, Ok, Err, refl, ap, subst, ℤ, pos, ◌||◌, arith}
use Rattle.std.proofs.lemmas.Slice.Eq.{bytes_eq-Decides}
use Rattle.std.proofs.lemmas.Option.{cond_some}
use Rattle.std.specs.Prelude.{◌==◌, codes, option_map}
use Rattle.std.specs.List.{prefix_len}
use Rattle.std.specs.Str.{bytes_eq}
use Rattle.std.specs.Char.{is_ascii_digit, is_ascii_hexdigit}
use Rattle.al_source.specs.declared.tokens.Mark.{Mark}
use Rattle.al_source.specs.declared.tokens.Mark.TheVariants as mark
use Rattle.al_source.specs.declared.faults.LexFault.{LexFault}
use Rattle.al_grammar.specs.declared.place.Place.{Place}
use Rattle.al_grammar.specs.declared.place.Place.TheVariants.{Fresh, Inside, Hash, Pragma, Skipped, Note}
use Rattle.al_grammar.specs.declared.place.Spot.{Spot}
use Rattle.al_grammar.specs.declared.place.Next.{Next}
use Rattle.al_grammar.specs.Characters.{Bytes, is_blank, is_letter, is_word}
use Rattle.al_grammar.specs.Words.{mark_text, mark_at}
use Rattle.al_grammar.specs.Lexemes.{begins_line_comment, begins_block_comment, block_len, name_len, is_hexadecimal, digits_end, number_len, number_value, is_number, number_at, number_token, inside_len, quoted, marked, Lexeme, lexeme}
use Rattle.al_grammar.specs.Spelling.{line_end_at, closed, directive, pragma, token_at, matter_at, next}

-- a run has a byte where the first one belongs to it
run_moves : (p : ℕ → Bool) (z : Bytes) → p 0 ≡ false → p (slice_index z 0) ≡ true → 1 ≤ prefix_len p z
run_moves p [] none e = absurd cc
run_moves p (b ∷ z) none e = let is : cond (p b) (1 + prefix_len p z) 0 ≡ 1 + prefix_len p z = ap (λ c. cond c (1 + prefix_len p z) 0) e in omega (arith, is)

word_of_letter : (b : ℕ) → is_letter b ≡ true → is_word b ≡ true
word_of_letter b e = ap (λ c. c || is_ascii_digit b) e

digits_move : (z : Bytes) → is_ascii_digit (slice_index z 0) ≡ true → 1 ≤ digits_end z
digits_move z e = by (is_hexadecimal z)
  where
    by : (h : Bool) → 1 ≤ cond h (2 + prefix_len is_ascii_hexdigit (drop 2 z)) (prefix_len is_ascii_digit z)
    by true = omega arith
    by false = run_moves is_ascii_digit z refl e

mark_moves : (m : Mark) → 1 ≤ length (mark_text m)
mark_moves mark.Dot = omega arith
mark_moves _ = omega arith

abbrev Moved : Result Lexeme LexFault → Type 0
Moved (Err fault) = Unit {0}
Moved (Ok t) = 1 ≤ t.1

moved_number : (line : ℕ) (z : Bytes) (o : Option (ℤ × ℕ)) → is_ascii_digit (slice_index z 0) ≡ true → number_at z ≡ o → Moved (number_token line o)
unfolding number_at
moved_number line z None digit e = tt
moved_number line z (Some n) digit e =
    let is : (pos (number_value (take (number_len z) z)), number_len z) ≡ n =
    (cond_some (is_number z) (pos (number_value (take (number_len z) z)), number_len z) n e).1 in
    subst (λ (m : ℤ × ℕ). 1 ≤ m.1) is (omega (arith, digits_move z digit))

moved_quoted : (line : ℕ) (z : Bytes) (o : Option ℕ) → Moved (quoted line z o)
moved_quoted line z None = tt
moved_quoted line z (Some n) = omega arith

moved_marked : (line : ℕ) (o : Option Mark) → Moved (marked line o)
moved_marked line None = tt
moved_marked line (Some m) = mark_moves m

choose : (b : Bool) (x y : Result Lexeme LexFault) → (b ≡ true → Moved x) → Moved y → Moved (cond b x y)
choose true x y h k = h refl
choose false x y h k = k

moved_lexeme : (line : ℕ) (z : Bytes) → Moved (lexeme line z)
unfolding lexeme
moved_lexeme line z =
    choose (is_letter (slice_index z 0)) _ _ (λ e. run_moves is_word z refl (word_of_letter (slice_index z 0) e))
    (choose (is_ascii_digit (slice_index z 0)) _ _ (λ e. moved_number line z (number_at z) e refl)
    (choose (slice_index z 0 == 34) _ _ (λ _. moved_quoted line z (inside_len (drop 1 z))) (moved_marked line (mark_at z))))

abbrev Moves : Result Next LexFault → Type 0
Moves (Err fault) = Unit {0}
Moves (Ok n) = 1 ≤ n.len

moves_token : (s : Spot) (place : Place) (r : Result Lexeme LexFault) → Moved r → Moves (token_at s place r)
moves_token s place (Err fault) h = tt
moves_token s place (Ok t) h = h

moves_closed : (s : Spot) (z : Bytes) (o : Option ℕ) → Moves (closed s (option_map (λ n. 2 + n) o))
moves_closed s z None = tt
moves_closed s z (Some n) = omega arith

moves_line_end : (p : Place) (s : Spot) → Moves (line_end_at p s)
moves_line_end (Hash start l) s = tt
moves_line_end (Pragma start l) s = omega arith
moves_line_end Fresh s = omega arith
moves_line_end Inside s = omega arith
moves_line_end Skipped s = omega arith
moves_line_end Note s = omega arith

either : (b : Bool) (x y : Result Next LexFault) → (b ≡ true → Moves x) → Moves y → Moves (cond b x y)
either true x y h k = h refl
either false x y h k = k

word_moves : (word w : Bytes) → 1 ≤ length w → bytes_eq word w ≡ true → 1 ≤ length word
word_moves word w some e = let same : length word ≡ length w = ap length ((bytes_eq-Decides word w).0 e) in omega arith

moves_directive : (start l : ℕ) (z : Bytes) → Moves (directive start l z)
moves_directive start l z =
    let word : Bytes = take (name_len z) z in
    either (bytes_eq word (codes "include")) _ _ (λ e. word_moves word (codes "include") (omega arith) e)
    (either (bytes_eq word (codes "pragma")) _ _ (λ e. word_moves word (codes "pragma") (omega arith) e) tt)

moves_pragma : (start l : ℕ) (s : Spot) (z : Bytes) → Moves (pragma start l s z)
moves_pragma start l s z =
    let word : Bytes = take (name_len z) z in
    either (bytes_eq word (codes "alter")) _ _ (λ e. word_moves word (codes "alter") (omega arith) e) (omega arith)

moves_matter : (p : Place) (s : Spot) (z : Bytes) → Moves (matter_at p s z)
moves_matter (Hash start l) s z = moves_directive start l z
moves_matter (Pragma start l) s z = moves_pragma start l s z
moves_matter Fresh s z = either (slice_index z 0 == 35) _ _ (λ _. omega arith) (moves_token s Inside (lexeme s.line z) (moved_lexeme s.line z))
moves_matter Inside s z = moves_token s Inside (lexeme s.line z) (moved_lexeme s.line z)
moves_matter Skipped s z = omega arith
moves_matter Note s z = moves_token s Note (lexeme s.line z) (moved_lexeme s.line z)

moves_next : (s : Spot) (z : Bytes) → Moves (next s z)
unfolding next
moves_next s z =
    either (slice_index z 0 == 10) _ _ (λ _. moves_line_end s.place s)
    (either (is_blank (slice_index z 0)) _ _ (λ _. omega arith)
    (either (begins_line_comment z) _ _ (λ _. omega arith)
    (either (begins_block_comment z) _ _ (λ _. moves_closed s z (block_len (drop 2 z))) (moves_matter s.place s z))))

pub next_moves : (s : Spot) (z : Bytes) (n : Next) → next s z ≡ Ok n → 1 ≤ n.len
next_moves s z n e = subst (λ r. Moves r) e (moves_next s z)
