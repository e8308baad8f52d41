-- The mark at the front of a text has bytes.
use Rattle.std.proofs.Common.{◌≡◌, ℕ, ◌≤◌, Bool, false, cond, List, [], ◌∷◌, length, get_or, drop, Option, Some, None, nat_eq, refl, ap, sym, IfSome, subst, arith}
use Rattle.std.specs.Prelude.{find}
use Rattle.std.specs.List.{starts_with}
use Rattle.al_source.specs.declared.tokens.Mark.{Mark}
use Rattle.al_source.specs.declared.tokens.Mark.TheVariants as mark
use Rattle.al_grammar.specs.Characters.{Bytes}
use Rattle.al_grammar.specs.declared.words.TheConstants.{MARKS}
use Rattle.al_grammar.specs.Words.{mark_text, mark_at}
use Rattle.al_lexer.specs.Tables.{with_len}

pub mark_is : (z : Bytes) → with_len (find (λ m. starts_with nat_eq z (mark_text m)) MARKS) ≡ with_len (mark_at z)
unfolding mark_at
mark_is z = refl

mark_some : (m : Mark) → 1 ≤ length (mark_text m)
mark_some mark.Dot = omega arith
mark_some _ = omega arith

some_len : (o : Option Mark) → IfSome (with_len o) (λ m. 1 ≤ m.1)
some_len None = tt
some_len (Some m) = mark_some m

pub mark_moves : (o : Option (Mark × ℕ)) (z : Bytes) → o ≡ with_len (mark_at z) → IfSome o (λ m. 1 ≤ m.1)
mark_moves o z e = subst (λ p. IfSome p (λ m. 1 ≤ m.1)) (sym e) (some_len (mark_at z))

pub both : (o : Option (Mark × ℕ)) (z : Bytes) → o ≡ with_len (mark_at z) → IfSome o (λ m. m.1 ≤ length z) → IfSome o (λ m. (1 ≤ m.1) × (m.1 ≤ length z))
both None z e within = tt
both (Some m) z e within = (mark_moves (Some m) z e, within)

-- the first element fails the test, so the search goes on behind it
pub find_behind : {X : Type 0} (p : X → Bool) (xs : List X) (d : X) → 1 ≤ length xs → p (get_or xs 0 d) ≡ false → find p (drop 1 xs) ≡ find p xs
find_behind p [] d some e = absurd (omega arith)
find_behind p (x ∷ xs) d some e = ap (λ b. cond b (Some x) (find p xs)) (sym e)
