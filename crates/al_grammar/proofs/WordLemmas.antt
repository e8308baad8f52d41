-- The mark at the front is the longest, and the reserved words are known by their bytes.
use Rattle.std.proofs.Common.{◌≡◌, ℕ, zero, suc, ◌≤◌, Bool, true, false, cond, List, [], ◌∷◌, length, Option, Some, None, nat_eq, refl, sym, ap, ◌∙◌, subst, arith}
use Rattle.std.specs.Prelude.{find, nat_le, ◌&&◌}
use Rattle.std.proofs.lemmas.Bool.{leb-true, and_parts}
use Rattle.std.specs.List.{starts_with}
use Rattle.al_source.specs.declared.tokens.Key.{Key}
use Rattle.al_source.specs.declared.tokens.Key.TheVariants as key
use Rattle.al_source.specs.declared.tokens.Mark.{Mark}
use Rattle.al_source.specs.declared.tokens.Mark.TheVariants as mark
use Rattle.al_grammar.specs.Characters.{Bytes}
use Rattle.al_grammar.specs.declared.words.TheConstants.{MARKS}
use Rattle.al_grammar.specs.Words.{key_text, mark_text, key_of, mark_at}
use Rattle.al_grammar.proofs.LexemeLemmas.{found_passes}

pub key_known : (k : Key) → key_of (key_text k) ≡ Some k
unfolding key_of
key_known key.Auto = refl
key_known _ = refl

-- where a mark stands in the table
abbrev place : Mark → ℕ
place mark.ShiftLeftAssign = 0
place mark.ShiftRightAssign = 1
place mark.Arrow = 2
place mark.PlusAssign = 3
place mark.MinusAssign = 4
place mark.StarAssign = 5
place mark.SlashAssign = 6
place mark.PercentAssign = 7
place mark.AmpersandAssign = 8
place mark.PipeAssign = 9
place mark.CaretAssign = 10
place mark.Increment = 11
place mark.Decrement = 12
place mark.AndAnd = 13
place mark.OrOr = 14
place mark.ShiftLeft = 15
place mark.ShiftRight = 16
place mark.LessEqual = 17
place mark.GreaterEqual = 18
place mark.EqualEqual = 19
place mark.NotEqual = 20
place mark.LeftParen = 21
place mark.RightParen = 22
place mark.LeftBracket = 23
place mark.RightBracket = 24
place mark.LeftBrace = 25
place mark.RightBrace = 26
place mark.Semicolon = 27
place mark.Comma = 28
place mark.Dot = 29
place mark.Colon = 30
place mark.Assign = 31
place mark.Plus = 32
place mark.Minus = 33
place mark.Star = 34
place mark.Slash = 35
place mark.Percent = 36
place mark.Tilde = 37
place mark.Bang = 38
place mark.Ampersand = 39
place mark.Pipe = 40
place mark.Caret = 41
place mark.Less = 42
place mark.Greater = 43

abbrev nth : ℕ → List Mark → Option Mark
nth k [] = None
nth zero (m ∷ ms) = Some m
nth (suc k) (m ∷ ms) = nth k ms

stands_there : (m : Mark) → nth (place m) MARKS ≡ Some m
stands_there mark.Dot = refl
stands_there _ = refl

-- no mark is longer than the one before it
abbrev Descends : ℕ → List Mark → Type 0
Descends most [] = Unit {0}
Descends most (m ∷ ms) = (length (mark_text m) ≤ most) × Descends (length (mark_text m)) ms

later_shorter : (k most : ℕ) (ms : List Mark) (o : Mark) → Descends most ms → nth k ms ≡ Some o → length (mark_text o) ≤ most
later_shorter k most [] o d e = absurd cc
later_shorter zero most (m ∷ ms) o d e = let same : m ≡ o = cc in subst (λ j. length (mark_text j) ≤ most) same d.0
later_shorter (suc k) most (m ∷ ms) o d e =
    let less : length (mark_text o) ≤ length (mark_text m) = later_shorter k (length (mark_text m)) ms o d.1 e in omega (arith, d.0)

abbrev IsLongest : (Mark → Bool) → Option Mark → Mark → Type 0
IsLongest p None o = p o ≡ false
IsLongest p (Some m) o = length (mark_text o) ≤ length (mark_text m)

longest_next : (p : Mark → Bool) (m : Mark) (ms : List Mark) (o : Mark) (b : Bool)
    → p m ≡ b → (b ≡ true → length (mark_text o) ≤ length (mark_text m)) → (p m ≡ false → IsLongest p (find p ms) o)
    → IsLongest p (cond b (Some m) (find p ms)) o
longest_next p m ms o true is here there = here refl
longest_next p m ms o false is here there = there is

longest_in : (p : Mark → Bool) (k most : ℕ) (ms : List Mark) (o : Mark) → Descends most ms → nth k ms ≡ Some o → p o ≡ true → IsLongest p (find p ms) o
longest_in p k most [] o d e passes = absurd cc
longest_in p zero most (m ∷ ms) o d e passes =
    let same : m ≡ o = cc in
    let yes : p m ≡ true = ap p same ∙ passes in
    longest_next p m ms o (p m) refl (λ _. subst (λ j. length (mark_text j) ≤ length (mark_text m)) same (omega arith))
    (λ no. let both : true ≡ false = sym yes ∙ no in absurd cc)
longest_in p (suc k) most (m ∷ ms) o d e passes =
    longest_next p m ms o (p m) refl (λ _. later_shorter k (length (mark_text m)) ms o d.1 e) (λ _. longest_in p k (length (mark_text m)) ms o d.1 e passes)

-- the same as a test
abbrev descend : ℕ → List Mark → Bool
descend most [] = true
descend most (m ∷ ms) = nat_le (length (mark_text m)) most && descend (length (mark_text m)) ms

by_test : (most : ℕ) (ms : List Mark) → descend most ms ≡ true → Descends most ms
by_test most [] e = tt
by_test most (m ∷ ms) e =
    let (first, rest) = and_parts (nat_le (length (mark_text m)) most) (descend (length (mark_text m)) ms) e in
    (leb-true _ _ first, by_test (length (mark_text m)) ms rest)

descends : Descends 3 MARKS
descends = by_test 3 MARKS refl

-- what the text begins with is no longer than the mark at its front
pub longest : (z : Bytes) (m other : Mark)
    → mark_at z ≡ Some m → starts_with nat_eq z (mark_text other) ≡ true → length (mark_text other) ≤ length (mark_text m)
unfolding mark_at
longest z m other e passes =
    subst (λ o. IsLongest (λ j. starts_with nat_eq z (mark_text j)) o other) e
    (longest_in (λ j. starts_with nat_eq z (mark_text j)) (place other) 3 MARKS other descends (stands_there other) passes)

-- a text without a mark at its front begins with none
pub no_mark : (z : Bytes) (other : Mark) → mark_at z ≡ None → starts_with nat_eq z (mark_text other) ≡ true → ⊥
unfolding mark_at
no_mark z other e passes =
    let fails : starts_with nat_eq z (mark_text other) ≡ false = subst (λ o. IsLongest (λ j. starts_with nat_eq z (mark_text j)) o other) e
    (longest_in (λ j. starts_with nat_eq z (mark_text j)) (place other) 3 MARKS other descends (stands_there other) passes) in
    let both : true ≡ false = sym passes ∙ fails in
    absurd cc

pub mark_begins : (z : Bytes) (m : Mark) → mark_at z ≡ Some m → starts_with nat_eq z (mark_text m) ≡ true
unfolding mark_at
mark_begins z m e = found_passes (λ j. starts_with nat_eq z (mark_text j)) MARKS m e
