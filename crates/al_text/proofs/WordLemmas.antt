-- Lemmas on the words of a text, read byte by byte.
use Rattle.std.proofs.Common.{◌≡◌, ℕ, ◌+◌, ◌-◌, ◌<◌, ◌≤◌, true, false, List, [], ◌∷◌, ◌++◌, length, drop, take, get_or, arith, refl, sym, ap, subst, Result, Ok, ℤ, ◌∙◌, length-drop}
use Rattle.std.specs.List.{slice_range}
use Rattle.std.proofs.Math.Nat.{sub_self}
use Rattle.std.proofs.lemmas.Grind.{common_steps}
use Rattle.std.proofs.lemmas.List.{append-nil, drop_more, take_more}
use Rattle.al_text.specs.declared.faults.InputCause.{InputCause}
use Rattle.al_text.specs.declared.faults.InputFault.{InputFault}
use Rattle.al_source.specs.Answers.{Fails}
use Rattle.al_text.specs.Faults.{told}
use Rattle.al_text.specs.Numbers.{Word, is_blank, line_after, word_of, words_from, numbers_onto}

-- a blank ends the word
pub word_ends : (text : List ℕ) (at line : ℕ) (word : List ℕ) → at < length text → is_blank (get_or text at 0) ≡ true
    → words_from line word (drop at text) ≡ word_of line word ++ words_from (line_after line (get_or text at 0)) [] (drop (at + 1) text)
word_ends text at line word within blank = rw (drop_more text at 0 within, blank)

slice_more : (text : List ℕ) (start at : ℕ) → start ≤ at → at < length text
    → slice_range text start (at + 1) ≡ slice_range text start at ++ get_or text at 0 ∷ []
slice_more text start at begun within =
    let one : at + 1 - start ≡ (at - start) + 1 = omega arith in
    let same : get_or (drop start text) (at - start) 0 ≡ get_or text at 0 = grind (arith, common_steps) in
    let inside : at - start < length (drop start text) = omega (arith, length-drop {A = ℕ}) in
    rw one (take_more (drop start text) (at - start) 0 inside ∙ ap (λ b. take (at - start) (drop start text) ++ b ∷ []) same)

-- any other byte goes on it
pub word_goes_on : (text : List ℕ) (start at line : ℕ) → start ≤ at → at < length text → is_blank (get_or text at 0) ≡ false
    → words_from line (slice_range text start at) (drop at text) ≡ words_from line (slice_range text start (at + 1)) (drop (at + 1) text)
word_goes_on text start at line begun within plain = rw (drop_more text at 0 within, plain, slice_more text start at begun within) refl

-- the end of the text ends it
pub word_last : (text : List ℕ) (start at line : ℕ) → at ≡ length text
    → words_from line (slice_range text start at) (drop at text) ≡ word_of line (slice_range text start (length text)) ++ []
word_last text start at line last =
    let none : drop at text ≡ [] = grind (arith, common_steps) in
    rw (none, append-nil (word_of line (slice_range text start (length text)))) (ap (λ n. word_of line (slice_range text start n)) last)

-- ---- the numbers of the words, after the numbers so far

-- a word that ends gives its number
pub read_on : (ns more : List ℤ) (line : ℕ) (text : List ℕ) (start at : ℕ) (defined : Result (List ℤ) InputCause) → at < length text
    → is_blank (get_or text at 0) ≡ true → ((ws : List Word) → numbers_onto more ws ≡ numbers_onto ns (word_of line (slice_range text start at) ++ ws))
    → numbers_onto ns (words_from line (slice_range text start at) (drop at text)) ≡ defined
    → numbers_onto more (words_from (line_after line (get_or text at 0)) (slice_range text (at + 1) (at + 1)) (drop (at + 1) text)) ≡ defined
read_on ns more line text start at defined within blank pushed whole =
    let ws : List Word = words_from (line_after line (get_or text at 0)) [] (drop (at + 1) text) in
    rw (sub_self (at + 1)) (pushed ws ∙ ap (λ l. numbers_onto ns l) (sym (word_ends text at line (slice_range text start at) within blank)) ∙ whole)

pub read_last : (ns more : List ℤ) (line : ℕ) (text : List ℕ) (start at : ℕ) (defined : Result (List ℤ) InputCause) → at ≡ length text
    → ((ws : List Word) → numbers_onto more ws ≡ numbers_onto ns (word_of line (slice_range text start (length text)) ++ ws))
    → numbers_onto ns (words_from line (slice_range text start at) (drop at text)) ≡ defined → defined ≡ Ok more
read_last ns more line text start at defined last pushed whole = sym whole ∙ ap (λ l. numbers_onto ns l) (word_last text start at line last) ∙ sym (pushed [])

-- and a fault of the last word is the text's
pub fails_last : (fault : InputFault) (ns : List ℤ) (line : ℕ) (text : List ℕ) (start at : ℕ) (defined : Result (List ℤ) InputCause) → at ≡ length text
    → ((ws : List Word) → Fails (numbers_onto ns (word_of line (slice_range text start (length text)) ++ ws)) (told fault))
    → numbers_onto ns (words_from line (slice_range text start at) (drop at text)) ≡ defined → Fails defined (told fault)
fails_last fault ns line text start at defined last failed whole =
    subst (λ (d : Result (List ℤ) InputCause). Fails d (told fault)) (sym (ap (λ l. numbers_onto ns l) (word_last text start at line last)) ∙ whole) (failed [])

-- and so is one of a word that a blank ends
pub fails_within : (fault : InputFault) (ns : List ℤ) (line : ℕ) (text : List ℕ) (start at : ℕ) (defined : Result (List ℤ) InputCause) → at < length text
    → is_blank (get_or text at 0) ≡ true → ((ws : List Word) → Fails (numbers_onto ns (word_of line (slice_range text start at) ++ ws)) (told fault))
    → numbers_onto ns (words_from line (slice_range text start at) (drop at text)) ≡ defined → Fails defined (told fault)
fails_within fault ns line text start at defined within blank failed whole =
    let ws : List Word = words_from (line_after line (get_or text at 0)) [] (drop (at + 1) text) in
    let ended = word_ends text at line (slice_range text start at) within blank in
    subst (λ (d : Result (List ℤ) InputCause). Fails d (told fault)) (ap (λ l. numbers_onto ns l) (sym ended) ∙ whole) (failed ws)
