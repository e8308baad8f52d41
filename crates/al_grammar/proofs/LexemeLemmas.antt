-- A token at the front has the bytes of its kind.
use Rattle.std.proofs.Common.{◌≡◌, ℕ, zero, suc, ◌+◌, ◌-◌, ◌≤◌, ◌<◌, Bool, true, false, cond, List, [], ◌∷◌, drop, take, length, slice_index, slice_range, Option, Some, None, Result, Ok, Err, refl, sym, ap, ◌∙◌, subst, ℤ, pos, nat_eq, arith}
use Rattle.std.proofs.lemmas.List.{length-take, drop-take}
use Rattle.std.proofs.lemmas.Slice.Eq.{bytes_eq-Decides}
use Rattle.std.proofs.lemmas.Option.{cond_some}
use Rattle.std.specs.Prelude.{find, ◌==◌, option_map, option_and_then}
use Rattle.std.specs.List.{starts_with}
use Rattle.std.specs.Str.{bytes_eq}
use Rattle.std.specs.Char.{is_ascii_digit}
use Rattle.al_source.specs.declared.tokens.TokenKind.TheVariants as kind
use Rattle.al_source.specs.declared.tokens.Key.{Key}
use Rattle.al_source.specs.declared.tokens.Mark.{Mark}
use Rattle.al_source.specs.declared.faults.LexFault.{LexFault}
use Rattle.al_grammar.specs.Characters.{Bytes, is_letter}
use Rattle.al_grammar.specs.declared.words.TheConstants.{KEYS, MARKS}
use Rattle.al_grammar.specs.Words.{key_text, mark_text, key_of, mark_at}
use Rattle.al_grammar.specs.Lexemes.{TextUnit, name_len, named, number_len, number_value, is_number, number_at, number_token, unit_at, inside_from, inside_len, format_of, quoted, marked, Lexeme, lexeme}
use Rattle.al_grammar.specs.Slices.{IsSpelledBy}

found_next : {X : Type 0} (p : X → Bool) (y : X) (xs : List X) (x : X)
    → (find p xs ≡ Some x → p x ≡ true) → (b : Bool) → p y ≡ b → cond b (Some y) (find p xs) ≡ Some x → p x ≡ true
found_next p y xs x rest true is e = let same : y ≡ x = cc in ap p (sym same) ∙ is
found_next p y xs x rest false is e = rest e

-- what is found passes the test
pub found_passes : {X : Type 0} (p : X → Bool) (xs : List X) (x : X) → find p xs ≡ Some x → p x ≡ true
found_passes p [] x e = absurd cc
found_passes p (y ∷ xs) x e = found_next p y xs x (λ h. found_passes p xs x h) (p y) refl e

-- a reserved word has its bytes
pub key_found : (word : Bytes) (k : Key) → key_of word ≡ Some k → word ≡ key_text k
unfolding key_of
key_found word k e = sym ((bytes_eq-Decides (key_text k) word).0 (found_passes (λ j. bytes_eq (key_text j) word) KEYS k e))

-- a mark has its bytes
pub mark_found : (z : Bytes) (m : Mark) → mark_at z ≡ Some m → take (length (mark_text m)) z ≡ mark_text m
unfolding mark_at
mark_found z m e = sym ((bytes_eq-Decides (mark_text m) (take (length (mark_text m)) z)).0 (found_passes (λ j. starts_with nat_eq z (mark_text j)) MARKS m e))

spelled_name : (word : Bytes) (o : Option Key) → key_of word ≡ o → IsSpelledBy (named word o) word
spelled_name word None e = refl
spelled_name word (Some k) e = key_found word k e

-- the claim of an answer
abbrev IsSpelled : Bytes → Result Lexeme LexFault → Type 0
IsSpelled z (Err fault) = Unit {0}
IsSpelled z (Ok t) = IsSpelledBy t.0 (take t.1 z)

spelled_number : (line : ℕ) (z : Bytes) (o : Option (ℤ × ℕ)) → number_at z ≡ o → IsSpelled z (number_token line o)
unfolding number_at
spelled_number line z None e = tt
spelled_number line z (Some n) e =
    let is : (pos (number_value (take (number_len z) z)), number_len z) ≡ n =
    (cond_some (is_number z) (pos (number_value (take (number_len z) z)), number_len z) n e).1 in
    subst (λ (m : ℤ × ℕ). IsSpelledBy (kind.Number m.0) (take m.1 z)) is refl

within_suc : (z : Bytes) (n : ℕ) (o : Option ℕ) → ((k : ℕ) → o ≡ Some k → k < length z) → option_map suc o ≡ Some n → n < suc (length z)
within_suc z n None h e = absurd cc
within_suc z n (Some k) h e = let same : suc k ≡ n = cc in let below : k < length z = h k refl in omega arith

within_unit : (z : Bytes) (n : ℕ) (q : Bool) (o : Option TextUnit)
    → ((left k : ℕ) → inside_from left z ≡ Some k → k < length z) → cond q (Some 0) (option_and_then (λ u. option_map suc (inside_from (u.0 - 1) z)) o) ≡ Some n
    → n < suc (length z)
within_unit z n true o h e = let same : 0 ≡ n = cc in omega arith
within_unit z n false None h e = absurd cc
within_unit z n false (Some u) h e = within_suc z n (inside_from (u.0 - 1) z) (λ k d. h (u.0 - 1) k d) e

-- the closing quote lies within
inside_within : (left : ℕ) (z : Bytes) (n : ℕ) → inside_from left z ≡ Some n → n < length z
inside_within left [] n e = absurd cc
inside_within (suc left) (b ∷ z) n e = within_suc z n (inside_from left z) (λ k h. inside_within left z k h) e
inside_within zero (b ∷ z) n e = within_unit z n (b == 34) (unit_at (b ∷ z)) (λ left k h. inside_within left z k h) e

pub inside_len_within : (z : Bytes) (n : ℕ) → inside_len z ≡ Some n → n < length z
unfolding inside_len
inside_len_within z n e = inside_within 0 z n e

take_less : (m n : ℕ) (xs : Bytes) → m ≤ n → take m (take n xs) ≡ take m xs
take_less zero n xs h = refl
take_less (suc m) zero xs h = absurd (omega arith)
take_less (suc m) (suc n) [] h = refl
take_less (suc m) (suc n) (x ∷ xs) h = ap (λ ys. x ∷ ys) (take_less m n xs (omega arith))

-- what stands between the quotes of a text's bytes
between : (z : Bytes) (n : ℕ) → n < length (drop 1 z) → slice_range z 1 (n + 1) ≡ slice_range (take (n + 2) z) 1 (length (take (n + 2) z) - 1)
between [] n h = absurd (omega arith)
between (b ∷ z) n h =
    let whole = take (n + 2) (b ∷ z) in
    let len : length whole ≡ n + 2 = omega (arith, length-take (n + 2) (b ∷ z)) in
    let same : n + 1 - 1 ≡ length whole - 1 - 1 = omega arith in
    let two : n + 2 ≡ 1 + (n + 1) = omega arith in
    let inner : drop 1 whole ≡ take (n + 1) z = ap (λ k. drop 1 (take k (b ∷ z))) two ∙ drop-take 1 (n + 1) (b ∷ z) in
    ap (λ k. take k z) same ∙ sym (take_less (length whole - 1 - 1) (n + 1) z (omega arith)) ∙ ap (take (length whole - 1 - 1)) (sym inner)

spelled_text : (line : ℕ) (z : Bytes) (o : Option ℕ) → inside_len (drop 1 z) ≡ o → IsSpelled z (quoted line z o)
spelled_text line z None e = tt
spelled_text line z (Some n) e = ap format_of (between z n (inside_len_within (drop 1 z) n e))

spelled_mark : (line : ℕ) (z : Bytes) (o : Option Mark) → mark_at z ≡ o → IsSpelled z (marked line o)
spelled_mark line z None e = tt
spelled_mark line z (Some m) e = mark_found z m e

either : (z : Bytes) (b : Bool) (x y : Result Lexeme LexFault) → IsSpelled z x → IsSpelled z y → IsSpelled z (cond b x y)
either z true x y h k = h
either z false x y h k = k

spelled_any : (line : ℕ) (z : Bytes) → IsSpelled z (lexeme line z)
unfolding lexeme
spelled_any line z =
    either z (is_letter (slice_index z 0)) _ _ (spelled_name (take (name_len z) z) (key_of (take (name_len z) z)) refl)
    (either z (is_ascii_digit (slice_index z 0)) _ _ (spelled_number line z (number_at z) refl)
    (either z (slice_index z 0 == 34) _ _ (spelled_text line z (inside_len (drop 1 z)) refl) (spelled_mark line z (mark_at z) refl)))

-- the bytes of the token at the front
pub lexeme_spelled : (line : ℕ) (z : Bytes) (t : Lexeme) → lexeme line z ≡ Ok t → IsSpelledBy t.0 (take t.1 z)
lexeme_spelled line z t e = subst (λ r. IsSpelled z r) e (spelled_any line z)
