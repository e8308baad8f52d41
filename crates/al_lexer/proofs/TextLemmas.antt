-- The inside of a text, unit by unit.
use Rattle.std.proofs.Common.{◌≡◌, ℕ, zero, suc, ◌+◌, ◌-◌, ◌≤◌, true, false, cond, eqb, List, [], ◌∷◌, ◌++◌, drop, length, slice_index, Option, Some, None, refl, ap, sym, ◌∙◌, length-drop, append_assoc, arith}
use Rattle.std.proofs.lemmas.Bool.Decides.{nat_tests}
use Rattle.std.specs.Prelude.{option_map, option_and_then}
use Rattle.al_source.specs.declared.texts.Piece.{Piece}
use Rattle.al_source.specs.declared.texts.Piece.TheVariants as piece
use Rattle.al_grammar.specs.Characters.{Bytes}
use Rattle.al_grammar.specs.Lexemes.{TextUnit, unit_at, inside_from, inside_len, format_from, format_of, before_byte, before_unit}
use Rattle.al_lexer.specs.Formats.{before_bytes, plain_pieces}

map_map : (n : ℕ) (o : Option ℕ) → option_map suc (option_map (λ k. n + k) o) ≡ option_map (λ k. suc n + k) o
map_map n None = refl
map_map n (Some k) = let e : suc (n + k) ≡ suc n + k = omega arith in ap (λ j. Some j) e

map_zero : (o : Option ℕ) → o ≡ option_map (λ k. 0 + k) o
map_zero None = refl
map_zero (Some k) = let e : k ≡ 0 + k = omega arith in ap (λ j. Some j) e

inside_from-drop : (left : ℕ) (z : Bytes) → inside_from left z ≡ option_map (λ k. left + k) (inside_from 0 (drop left z))
inside_from-drop zero z = map_zero (inside_from 0 z)
inside_from-drop (suc left) [] = refl
inside_from-drop (suc left) (b ∷ z) = ap (option_map suc) (inside_from-drop left z) ∙ map_map left (inside_from 0 (drop left z))

not_quote : (b : ℕ) → (b ≡ 34 → ⊥) → eqb b 34 ≡ false
not_quote b h = grind (arith, nat_tests)

map_pred : (n : ℕ) (o : Option ℕ) → 1 ≤ n → option_map suc (option_map (λ k. n - 1 + k) o) ≡ option_map (λ k. n + k) o
map_pred n None h = refl
map_pred n (Some k) h = let e : suc (n - 1 + k) ≡ n + k = omega arith in ap (λ j. Some j) e

pub drop-pred : (n b : ℕ) (z : Bytes) → 1 ≤ n → drop (n - 1) z ≡ drop n (b ∷ z)
drop-pred zero b z h = absurd (omega arith)
drop-pred (suc n) b z h = let e : suc n - 1 ≡ n = omega arith in ap (λ k. drop k z) e

-- a unit before the closing quote
pub inside_goes : (z : Bytes) (u : TextUnit)
    → unit_at z ≡ Some u → (slice_index z 0 ≡ 34 → ⊥) → 1 ≤ u.0 → u.0 ≤ length z → inside_len z ≡ option_map (λ k. u.0 + k) (inside_len (drop u.0 z))
unfolding inside_len
inside_goes [] u e q moves some = absurd (omega arith)
inside_goes (b ∷ z) u e q moves some =
    ap (λ t. cond t (Some 0) (option_and_then (λ v. option_map suc (inside_from (v.0 - 1) z)) (unit_at (b ∷ z)))) (not_quote b q)
    ∙ ap (option_and_then (λ v. option_map suc (inside_from (v.0 - 1) z))) e
    ∙ ap (option_map suc) (inside_from-drop (u.0 - 1) z)
    ∙ map_pred u.0 (inside_from 0 (drop (u.0 - 1) z)) moves
    ∙ ap (λ r. option_map (λ k. u.0 + k) (inside_from 0 r)) (drop-pred u.0 b z moves)

-- the closing quote
pub inside_ends : (z : Bytes) → slice_index z 0 ≡ 34 → inside_len z ≡ Some 0
unfolding inside_len
inside_ends [] e = absurd (omega arith)
inside_ends (b ∷ z) e = rw e refl

-- no unit before a closing quote
pub inside_stops : (z : Bytes) → unit_at z ≡ None → (slice_index z 0 ≡ 34 → ⊥) → inside_len z ≡ None
unfolding inside_len
inside_stops [] e q = refl
inside_stops (b ∷ z) e q =
    ap (λ t. cond t (Some 0) (option_and_then (λ v. option_map suc (inside_from (v.0 - 1) z)) (unit_at (b ∷ z)))) (not_quote b q)
    ∙ ap (option_and_then (λ v. option_map suc (inside_from (v.0 - 1) z))) e

-- what is left of a text's inside, and how much of it was passed
pub record Passed (z rest : Bytes) : Type 0 where
  pub total : option_map (λ k. length z - length rest + k) (inside_len rest) ≡ inside_len z
  pub shorter : length rest ≤ length z

map_plus : (m n : ℕ) (o : Option ℕ) → option_map (λ k. m + k) (option_map (λ k. n + k) o) ≡ option_map (λ k. m + n + k) o
map_plus m n None = refl
map_plus m n (Some k) = let e : m + (n + k) ≡ m + n + k = omega arith in ap (λ j. Some j) e

pub passed_start : (z : Bytes) → Passed z z
passed_start z =
    record {
      total = let e : length z - length z ≡ 0 = omega arith in ap (λ n. option_map (λ k. n + k) (inside_len z)) e ∙ sym (map_zero (inside_len z));
      shorter = omega arith;
    }

pub passed_goes : (z rest : Bytes) (u : TextUnit)
    → Passed z rest → unit_at rest ≡ Some u → (slice_index rest 0 ≡ 34 → ⊥) → 1 ≤ u.0 → u.0 ≤ length rest → Passed z (drop u.0 rest)
passed_goes z rest u p e q moves within =
    let shorter : length (drop u.0 rest) ≤ length z = omega (arith, length-drop u.0 rest, p.shorter) in
    let gone : length z - length rest + u.0 ≡ length z - length (drop u.0 rest) = omega (arith, length-drop u.0 rest, p.shorter) in
    record {
      total =
          ap (λ n. option_map (λ k. n + k) (inside_len (drop u.0 rest))) (sym gone) ∙ sym (map_plus (length z - length rest) u.0 (inside_len (drop u.0 rest)))
          ∙ ap (option_map (λ k. length z - length rest + k)) (sym (inside_goes rest u e q moves within)) ∙ p.total;
      shorter = shorter;
    }

pub passed_ends : (z rest : Bytes) → Passed z rest → slice_index rest 0 ≡ 34 → Some (length z - length rest) ≡ inside_len z
passed_ends z rest p e =
    let here : length z - length rest ≡ length z - length rest + 0 = omega arith in
    ap (λ n. Some n) here ∙ sym (ap (option_map (λ k. length z - length rest + k)) (inside_ends rest e)) ∙ p.total

pub passed_stops : (z rest : Bytes) → Passed z rest → unit_at rest ≡ None → (slice_index rest 0 ≡ 34 → ⊥) → None ≡ inside_len z
passed_stops z rest p e q = sym (ap (option_map (λ k. length z - length rest + k)) (inside_stops rest e q)) ∙ p.total

-- ---- formats

-- the inside of a text that begins with a unit
format_from-drop : (left : ℕ) (z : Bytes) → format_from left z ≡ format_from 0 (drop left z)
format_from-drop zero z = refl
format_from-drop (suc left) [] = refl
format_from-drop (suc left) (b ∷ z) = format_from-drop left z

abbrev after_shown : Bytes → Option TextUnit → List Piece
after_shown z None = format_from 0 z
after_shown z (Some u) = before_unit u.1 (format_from (u.0 - 1) z)

format_goes : (z : Bytes) (u : TextUnit) → unit_at z ≡ Some u → 1 ≤ u.0 → u.0 ≤ length z → format_of z ≡ before_unit u.1 (format_of (drop u.0 z))
unfolding format_of
format_goes [] u e moves some = absurd (omega arith)
format_goes (b ∷ z) u e moves some =
    ap (after_shown z) e ∙ ap (before_unit u.1) (format_from-drop (u.0 - 1) z ∙ ap (format_from 0) (drop-pred u.0 b z moves))

format_skips : (z : Bytes) → unit_at z ≡ None → format_of z ≡ format_of (drop 1 z)
unfolding format_of
format_skips [] e = refl
format_skips (b ∷ z) e = ap (after_shown z) e

format_nil : format_of [] ≡ []
unfolding format_of
format_nil = refl

-- the pieces and the plain bytes so far, before the format of what is left
pub record Gathered (z : Bytes) (pieces : List Piece) (plain rest : Bytes) : Type 0 where
  pub whole : pieces ++ before_bytes plain (format_of rest) ≡ format_of z

pub gathered_start : (z : Bytes) → Gathered z [] [] z
gathered_start z = record { whole = refl }

before_more : (bs : Bytes) (b : ℕ) (ps : List Piece) → before_bytes (bs ++ b ∷ []) ps ≡ before_bytes bs (before_byte b ps)
before_more [] b ps = refl
before_more (c ∷ bs) b ps = ap (before_byte c) (before_more bs b ps)

before_number : (bs : Bytes) (ps : List Piece) → before_bytes bs (piece.Number ∷ ps) ≡ plain_pieces bs ++ piece.Number ∷ ps
before_number [] ps = refl
before_number (b ∷ []) ps = refl
before_number (b ∷ c ∷ bs) ps = ap (before_byte b) (before_number (c ∷ bs) ps)

before_end : (bs : Bytes) → before_bytes bs [] ≡ plain_pieces bs
before_end [] = refl
before_end (b ∷ []) = refl
before_end (b ∷ c ∷ bs) = ap (before_byte b) (before_end (c ∷ bs))

pub gathered_byte : (z : Bytes) (pieces : List Piece) (plain rest : Bytes) (n b : ℕ)
    → Gathered z pieces plain rest → unit_at rest ≡ Some (n, Some b) → 1 ≤ n → n ≤ length rest → Gathered z pieces (plain ++ b ∷ []) (drop n rest)
gathered_byte z pieces plain rest n b g e moves within = record {
  whole =
      ap (λ ps. pieces ++ ps) (before_more plain b (format_of (drop n rest)))
      ∙ ap (λ ps. pieces ++ before_bytes plain ps) (sym (format_goes rest (n, Some b) e moves within)) ∙ g.whole;
}

pub gathered_number : (z : Bytes) (pieces : List Piece) (plain rest : Bytes) (n : ℕ)
    → Gathered z pieces plain rest → unit_at rest ≡ Some (n, None) → 1 ≤ n → n ≤ length rest
    → Gathered z ((pieces ++ plain_pieces plain) ++ piece.Number ∷ []) [] (drop n rest)
gathered_number z pieces plain rest n g e moves within =
    let f = format_of (drop n rest) in
    record {
      whole =
          append_assoc (pieces ++ plain_pieces plain) (piece.Number ∷ []) f ∙ append_assoc pieces (plain_pieces plain) (piece.Number ∷ f)
          ∙ ap (λ ps. pieces ++ ps) (sym (before_number plain f)) ∙ ap (λ ps. pieces ++ before_bytes plain ps) (sym (format_goes rest (n, None) e moves within))
          ∙ g.whole;
    }

pub gathered_skip : (z : Bytes) (pieces : List Piece) (plain rest : Bytes)
    → Gathered z pieces plain rest → unit_at rest ≡ None → Gathered z pieces plain (drop 1 rest)
gathered_skip z pieces plain rest g e = record { whole = ap (λ ps. pieces ++ before_bytes plain ps) (sym (format_skips rest e)) ∙ g.whole }

pub gathered_end : (z : Bytes) (pieces : List Piece) (plain rest : Bytes)
    → Gathered z pieces plain rest → rest ≡ [] → pieces ++ plain_pieces plain ≡ format_of z
gathered_end z pieces plain rest g e =
    ap (λ ps. pieces ++ ps) (sym (before_end plain)) ∙ ap (λ ps. pieces ++ before_bytes plain ps) (sym (ap format_of e ∙ format_nil)) ∙ g.whole

pub nil_by_test : (z : Bytes) → eqb (length z) 0 ≡ true → z ≡ []
nil_by_test [] e = refl
nil_by_test (b ∷ z) e = absurd (grind (arith, nat_tests))
