-- The numbers that a text lists.
use Rattle.std.specs.Prelude.{ℕ, ◌+◌, Bool, ◌&&◌, ◌||◌, if◌then◌else◌, ◌==◌, nat_lt, nat_le, List, [], ◌∷◌, ◌++◌, length, Option, Some, None, Result, Ok, Err, ℤ}
use Rattle.al_source.specs.Steps.{and_then}
use Rattle.al_source.specs.declared.limits.TheConstants.{INPUT_NUMBERS, INPUT_BYTES}
use Rattle.al_text.specs.declared.faults.InputCause.{InputCause}
use Rattle.al_text.specs.declared.faults.InputCause.TheVariants.{TooLong, NotNumber, OutOfRange, TooMany}
use Rattle.al_text.specs.Digits.{is_number, signed_value_of}

-- a tab, line feed, vertical tab, form feed, carriage return or space
abbrev pub is_blank : ℕ → Bool
is_blank b = b == 32 || (nat_le 9 b && nat_le b 13)

-- bytes between blanks, and their line, from 1
pub record Word : Type 0 where
  pub line : ℕ
  pub bytes : List ℕ

-- no bytes are no word
abbrev pub word_of : ℕ → List ℕ → List Word
word_of line [] = []
word_of line (b ∷ bs) = record { line = line; bytes = b ∷ bs } ∷ []

abbrev pub line_after : ℕ → ℕ → ℕ
line_after line b = if b == 10 then line + 1 else line

-- the words of a text that goes on a word
abbrev pub words_from : ℕ → List ℕ → List ℕ → List Word
words_from line word [] = word_of line word
words_from line word (b ∷ bs) =
    if is_blank b then word_of line word ++ words_from (line_after line b) [] bs
    else words_from line (word ++ b ∷ []) bs

abbrev pub words_of : List ℕ → List Word
words_of text = words_from 1 [] text

-- ---- the words as numbers

abbrev pub in_range : ℕ → Option ℤ → Result ℤ InputCause
in_range line (Some n) = Ok n
in_range line None = Err (OutOfRange line)

abbrev pub number_of : Word → Result ℤ InputCause
number_of w = if is_number w.bytes then in_range w.line (signed_value_of w.bytes) else Err (NotNumber w.line)

-- these numbers and those of the words, at most so many in all
abbrev pub numbers_onto : List ℤ → List Word → Result (List ℤ) InputCause
numbers_onto ns [] = Ok ns
numbers_onto ns (w ∷ ws) =
    if nat_lt (length ns) INPUT_NUMBERS then and_then (number_of w) (λ n. numbers_onto (ns ++ n ∷ []) ws)
    else Err TooMany

-- The numbers of a text, or its first fault. A text that is too long is refused before it is read.
abbrev pub numbers_of : List ℕ → Result (List ℤ) InputCause
numbers_of text = if nat_le (length text) INPUT_BYTES then numbers_onto [] (words_of text) else Err TooLong
