-- The parts of the parser that count down, at the count that is left.
use Rattle.std.proofs.Common.{◌≡◌, ℕ, zero, suc, ◌-◌, true, false, Ok, Err, refl, ap, arith}
use Rattle.al_source.specs.declared.tokens.Mark.TheVariants as m
use Rattle.al_source.specs.declared.source_tree.CType.{CType}
use Rattle.al_source.specs.declared.source_tree.CType.TheVariants as type
use Rattle.al_grammar.specs.Phrases.{Tokens}
use Rattle.al_grammar.specs.Steps.{tail, is_mark}
use Rattle.al_grammar.specs.TypeParser.{stars, dimension_by, dimensions}
use Rattle.al_grammar.specs.StatementParser.{statement, statement_step}

pub stars_none : (n : ℕ) (a : CType) (ts : Tokens) → n ≡ 0 → stars n a ts ≡ Ok (a, ts)
unfolding stars
stars_none zero a ts e = refl
stars_none (suc n) a ts e = absurd (omega arith)

pub stars_other : (n : ℕ) (a : CType) (ts : Tokens) → is_mark m.Star ts ≡ false → stars n a ts ≡ Ok (a, ts)
unfolding stars
stars_other zero a ts h = refl
stars_other (suc n) a ts h = rw h refl

pub stars_more : (n : ℕ) (a : CType) (ts : Tokens) → (n ≡ 0 → ⊥) → is_mark m.Star ts ≡ true → stars n a ts ≡ stars (n - 1) (type.Ptr a) (tail ts)
unfolding stars
stars_more zero a ts ne h = absurd (ne refl)
stars_more (suc n) a ts ne h = let e : n ≡ suc n - 1 = omega arith in rw h (ap (λ n. stars n (type.Ptr a) (tail ts)) e)

pub dimensions_none : (n : ℕ) (a : CType) (ts : Tokens) → n ≡ 0 → dimensions n a ts ≡ Ok (a, ts)
unfolding dimensions
dimensions_none zero a ts e = refl
dimensions_none (suc n) a ts e = absurd (omega arith)

pub dimensions_other : (n : ℕ) (a : CType) (ts : Tokens) → is_mark m.LeftBracket ts ≡ false → dimensions n a ts ≡ Ok (a, ts)
unfolding dimensions
dimensions_other zero a ts h = refl
dimensions_other (suc n) a ts h = rw h refl

pub dimensions_more : (n : ℕ) (a : CType) (ts : Tokens)
    → (n ≡ 0 → ⊥) → is_mark m.LeftBracket ts ≡ true → dimensions n a ts ≡ dimension_by (dimensions (n - 1)) a true ts
unfolding dimensions
dimensions_more zero a ts ne h = absurd (ne refl)
dimensions_more (suc n) a ts ne h = let e : n ≡ suc n - 1 = omega arith in rw h (ap (λ n. dimension_by (dimensions n) a true ts) e)

pub statement_none : (d : ℕ) (ts : Tokens) → d ≡ 0 → statement d ts ≡ Err ts
unfolding statement
statement_none zero ts e = refl
statement_none (suc d) ts e = absurd (omega arith)

pub statement_some : (d : ℕ) (ts : Tokens) → (d ≡ 0 → ⊥) → statement d ts ≡ statement_step (d - 1) (statement (d - 1)) ts
unfolding statement
statement_some zero ts ne = absurd (ne refl)
statement_some (suc d) ts ne = let e : d ≡ suc d - 1 = omega arith in ap (λ n. statement_step n (statement n) ts) e

pub ruleset star_steps = (stars_none, stars_other, stars_more)

pub ruleset dimension_steps = (dimensions_none, dimensions_other, dimensions_more)
