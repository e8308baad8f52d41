-- What stands next lies within the bytes that are left.
use Rattle.std.proofs.Common.{◌≡◌, ℕ, zero, suc, ◌+◌, ◌≤◌, ◌<◌, Bool, true, false, cond, [], ◌∷◌, drop, take, length, slice_index, Option, Some, None, Result, Ok, Err, refl, sym, ap, ◌∙◌, subst, ℤ, pos, ◌&&◌, ◌||◌, length-drop, arith}
use Rattle.std.proofs.lemmas.List.{length-take}
use Rattle.std.proofs.lemmas.List.Sums.{prefix_len-le-length}
use Rattle.std.proofs.lemmas.Bool.{eqb-true}
use Rattle.std.proofs.lemmas.Option.{cond_some}
use Rattle.std.specs.Prelude.{◌==◌, codes, option_map}
use Rattle.std.specs.List.{prefix_len}
use Rattle.std.specs.Str.{bytes_eq}
use Rattle.std.specs.Char.{is_ascii_digit, is_ascii_hexdigit}
use Rattle.al_source.specs.declared.tokens.Mark.{Mark}
use Rattle.al_source.specs.declared.faults.LexFault.{LexFault}
use Rattle.al_grammar.specs.declared.place.Place.{Place}
use Rattle.al_grammar.specs.declared.place.Place.TheVariants.{Fresh, Inside, Hash, Pragma, Skipped, Note}
use Rattle.al_grammar.specs.declared.place.Spot.{Spot}
use Rattle.al_grammar.specs.declared.place.Next.{Next}
use Rattle.al_grammar.specs.Characters.{Bytes, is_blank, is_letter, is_word, is_on_line}
use Rattle.al_grammar.specs.Words.{mark_text, mark_at}
use Rattle.al_grammar.specs.Lexemes.{begins_line_comment, begins_block_comment, block_len, name_len, is_hexadecimal, digits_end, suffix_len, number_len, number_value, is_number, number_at, number_token, inside_len, quoted, marked, Lexeme, lexeme}
use Rattle.al_grammar.specs.Spelling.{line_end_at, closed, directive, pragma, token_at, matter_at, next}
use Rattle.al_grammar.proofs.LexemeLemmas.{mark_found, inside_len_within}

-- a byte that is not 0 is there
byte_there : (k : ℕ) (z : Bytes) → (slice_index z k ≡ 0 → ⊥) → k < length z
byte_there k [] h = absurd (h (no_byte k))
  where
    no_byte : (k : ℕ) → slice_index [] k ≡ 0
    no_byte zero = refl
    no_byte (suc k) = refl
byte_there zero (b ∷ z) h = omega arith
byte_there (suc k) (b ∷ z) h = let there : k < length z = byte_there k z h in omega arith

both_true : (a b : Bool) → (a && b) ≡ true → (a ≡ true) × (b ≡ true)
both_true true b e = (refl, e)
both_true false b e = absurd cc

-- a text whose second byte is known has two
two_bytes : (z : Bytes) (a b : ℕ) → 1 ≤ b → (slice_index z 0 == a && slice_index z 1 == b) ≡ true → 2 ≤ length z
two_bytes z a b some e =
    let is : slice_index z 1 ≡ b = eqb-true (slice_index z 1) b (both_true (slice_index z 0 == a) (slice_index z 1 == b) e).1 in
    let there : 1 < length z = byte_there 1 z (λ none. omega (arith, is, none)) in
    omega arith

run_after_two : (p : ℕ → Bool) (z : Bytes) → 2 ≤ length z → 2 + prefix_len p (drop 2 z) ≤ length z
run_after_two p z two = omega (arith, prefix_len-le-length p (drop 2 z), length-drop 2 z)

block_some : (z : Bytes) (n : ℕ) (o : Option ℕ) → ((k : ℕ) → o ≡ Some k → k ≤ length z) → option_map suc o ≡ Some n → n ≤ suc (length z)
block_some z n None h e = absurd cc
block_some z n (Some k) h e = let same : suc k ≡ n = cc in let within : k ≤ length z = h k refl in omega arith

block_next : (z : Bytes) (n : ℕ) (star slash : Bool)
    → (slash ≡ true → 1 ≤ length z) → ((k : ℕ) → block_len z ≡ Some k → k ≤ length z) → cond (star && slash) (Some 2) (option_map suc (block_len z)) ≡ Some n
    → n ≤ suc (length z)
block_next z n true true one rest e = let same : 2 ≡ n = cc in let some : 1 ≤ length z = one refl in omega arith
block_next z n true false one rest e = block_some z n (block_len z) rest e
block_next z n false slash one rest e = block_some z n (block_len z) rest e

block_within : (z : Bytes) (n : ℕ) → block_len z ≡ Some n → n ≤ length z
block_within [] n e = absurd cc
block_within (b ∷ z) n e =
    block_next z n (b == 42) (slice_index z 0 == 47)
    (λ is. let there : 0 < length z = byte_there 0 z (λ none. let byte = eqb-true (slice_index z 0) 47 is in omega (arith, byte, none)) in omega arith)
    (λ k h. block_within z k h) e

abbrev Within : ℕ → Result Lexeme LexFault → Type 0
Within most (Err fault) = Unit {0}
Within most (Ok t) = t.1 ≤ most

digits_within : (z : Bytes) → digits_end z ≤ length z
digits_within z = by (is_hexadecimal z) refl
  where
    by : (h : Bool) → is_hexadecimal z ≡ h → cond h (2 + prefix_len is_ascii_hexdigit (drop 2 z)) (prefix_len is_ascii_digit z) ≤ length z
    by true e = run_after_two is_ascii_hexdigit z (second (both_true (slice_index z 0 == 48) (slice_index z 1 == 120 || slice_index z 1 == 88) e).1)
      where
        second : (slice_index z 1 == 120 || slice_index z 1 == 88) ≡ true → 2 ≤ length z
        second h =
            let there : 1 < length z = byte_there 1 z
            (λ none. let zero_byte = ap (λ b. b == 120 || b == 88) none in let no : false ≡ true = sym zero_byte ∙ h in absurd cc) in
            omega arith
    by false e = prefix_len-le-length is_ascii_digit z

suffix_within : (z : Bytes) (end : ℕ) → end ≤ length z → end + suffix_len (slice_index z end) (slice_index z (end + 1)) ≤ length z
suffix_within z end within = by (slice_index z end) (slice_index z (end + 1)) (λ h. byte_there end z h) (λ h. byte_there (end + 1) z h)
  where
    by : (a b : ℕ) → ((a ≡ 0 → ⊥) → end < length z) → ((b ≡ 0 → ⊥) → end + 1 < length z) → end + suffix_len a b ≤ length z
    by a b one two = at (a == 108 || a == 76) refl (b == a) refl
      where
        at : (x : Bool) → (a == 108 || a == 76) ≡ x → (y : Bool) → (b == a) ≡ y → end + cond x (cond y 2 1) 0 ≤ length z
        at false e y f = omega arith
        at true e true f =
            let there : end + 1 < length z = two
            (λ none. let same = eqb-true b a f in let no : false ≡ true = ap (λ c. c == 108 || c == 76) (sym none ∙ same) ∙ e in absurd cc) in
            omega arith
        at true e false f =
            let there : end < length z = one (λ none. let no : false ≡ true = ap (λ c. c == 108 || c == 76) (sym none) ∙ e in absurd cc) in
            omega arith

number_within : (z : Bytes) → number_len z ≤ length z
number_within z = suffix_within z (digits_end z) (digits_within z)

within_number : (line : ℕ) (z : Bytes) (o : Option (ℤ × ℕ)) → number_at z ≡ o → Within (length z) (number_token line o)
unfolding number_at
within_number line z None e = tt
within_number line z (Some n) e =
    let is : (pos (number_value (take (number_len z) z)), number_len z) ≡ n =
    (cond_some (is_number z) (pos (number_value (take (number_len z) z)), number_len z) n e).1 in
    subst (λ (m : ℤ × ℕ). m.1 ≤ length z) is (number_within z)

within_text : (line : ℕ) (z : Bytes) (o : Option ℕ) → inside_len (drop 1 z) ≡ o → Within (length z) (quoted line z o)
within_text line z None e = tt
within_text line z (Some n) e = let less : n < length (drop 1 z) = inside_len_within (drop 1 z) n e in omega (arith, length-drop 1 z)

within_mark : (line : ℕ) (z : Bytes) (o : Option Mark) → mark_at z ≡ o → Within (length z) (marked line o)
within_mark line z None e = tt
within_mark line z (Some m) e =
    let same : length (take (length (mark_text m)) z) ≡ length (mark_text m) = ap length (mark_found z m e) in
    omega (arith, length-take (length (mark_text m)) z)

choose : (most : ℕ) (b : Bool) (x y : Result Lexeme LexFault) → Within most x → Within most y → Within most (cond b x y)
choose most true x y h k = h
choose most false x y h k = k

within_lexeme : (line : ℕ) (z : Bytes) → Within (length z) (lexeme line z)
unfolding lexeme
within_lexeme line z =
    choose (length z) (is_letter (slice_index z 0)) _ _ (prefix_len-le-length is_word z)
    (choose (length z) (is_ascii_digit (slice_index z 0)) _ _ (within_number line z (number_at z) refl)
    (choose (length z) (slice_index z 0 == 34) _ _ (within_text line z (inside_len (drop 1 z)) refl) (within_mark line z (mark_at z) refl)))

abbrev NextWithin : ℕ → Result Next LexFault → Type 0
NextWithin most (Err fault) = Unit {0}
NextWithin most (Ok n) = n.len ≤ most

within_token : (most : ℕ) (s : Spot) (place : Place) (r : Result Lexeme LexFault) → Within most r → NextWithin most (token_at s place r)
within_token most s place (Err fault) h = tt
within_token most s place (Ok t) h = h

within_closed : (z : Bytes) (s : Spot) (o : Option ℕ) → 2 ≤ length z → block_len (drop 2 z) ≡ o → NextWithin (length z) (closed s (option_map (λ n. 2 + n) o))
within_closed z s None two e = tt
within_closed z s (Some n) two e = omega (arith, block_within (drop 2 z) n e, length-drop 2 z)

within_line_end : (most : ℕ) (p : Place) (s : Spot) → 1 ≤ most → NextWithin most (line_end_at p s)
within_line_end most (Hash start l) s some = tt
within_line_end most (Pragma start l) s some = some
within_line_end most Fresh s some = some
within_line_end most Inside s some = some
within_line_end most Skipped s some = some
within_line_end most Note s some = some

either : (most : ℕ) (b : Bool) (x y : Result Next LexFault) → (b ≡ true → NextWithin most x) → NextWithin most y → NextWithin most (cond b x y)
either most true x y h k = h refl
either most false x y h k = k

within_directive : (start l : ℕ) (z : Bytes) → NextWithin (length z) (directive start l z)
within_directive start l z =
    let word : Bytes = take (name_len z) z in
    either (length z) (bytes_eq word (codes "include")) _ _ (λ _. omega (arith, length-take (name_len z) z))
    (either (length z) (bytes_eq word (codes "pragma")) _ _ (λ _. omega (arith, length-take (name_len z) z)) tt)

within_pragma : (start l : ℕ) (s : Spot) (z : Bytes) → 1 ≤ length z → NextWithin (length z) (pragma start l s z)
within_pragma start l s z some =
    let word : Bytes = take (name_len z) z in
    either (length z) (bytes_eq word (codes "alter")) _ _ (λ _. omega (arith, length-take (name_len z) z)) some

within_matter : (p : Place) (s : Spot) (z : Bytes) → 1 ≤ length z → NextWithin (length z) (matter_at p s z)
within_matter (Hash start l) s z some = within_directive start l z
within_matter (Pragma start l) s z some = within_pragma start l s z some
within_matter Fresh s z some =
    either (length z) (slice_index z 0 == 35) _ _ (λ _. some) (within_token (length z) s Inside (lexeme s.line z) (within_lexeme s.line z))
within_matter Inside s z some = within_token (length z) s Inside (lexeme s.line z) (within_lexeme s.line z)
within_matter Skipped s z some = some
within_matter Note s z some = within_token (length z) s Note (lexeme s.line z) (within_lexeme s.line z)

within_next : (s : Spot) (z : Bytes) → 1 ≤ length z → NextWithin (length z) (next s z)
unfolding next
within_next s z some =
    either (length z) (slice_index z 0 == 10) _ _ (λ _. within_line_end (length z) s.place s some)
    (either (length z) (is_blank (slice_index z 0)) _ _ (λ _. some)
    (either (length z) (begins_line_comment z) _ _ (λ e. run_after_two is_on_line z (two_bytes z 47 47 (omega arith) e))
    (either (length z) (begins_block_comment z) _ _ (λ e. within_closed z s (block_len (drop 2 z)) (two_bytes z 47 42 (omega arith) e) refl)
    (within_matter s.place s z some))))

pub next_within : (s : Spot) (z : Bytes) (n : Next) → 1 ≤ length z → next s z ≡ Ok n → n.len ≤ length z
next_within s z n some e = subst (λ r. NextWithin (length z) r) e (within_next s z some)
