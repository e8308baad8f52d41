-- The parser of expressions is a fixed point of its step, with no guard.
use Rattle.std.proofs.Common.{◌≡◌, ℕ, zero, suc, ◌+◌, ◌*◌, ◌<◌, ◌≤◌, Bool, true, false, nat_lt, nat_eq, List, [], ◌∷◌, ◌++◌, length, Option, Some, None, Ok, refl, sym, ap, ◌∙◌, arith}
use Rattle.std.proofs.lemmas.Bool.{ltb-true, lt-ltb, eq-eqb, ne_eqb, le-ltb}
use Rattle.al_source.specs.declared.tokens.TokenKind.{TokenKind}
use Rattle.al_source.specs.declared.tokens.TokenKind.TheVariants.{Word, Key, Mark}
use Rattle.al_source.specs.declared.tokens.Mark as the_mark
use Rattle.al_source.specs.declared.tokens.Mark.TheVariants as m
use Rattle.al_source.specs.declared.tokens.Key.TheVariants as key
use Rattle.al_source.specs.declared.source_tree.Expr.{Expr}
use Rattle.al_source.specs.declared.source_tree.Expr.TheVariants as e
use Rattle.al_grammar.specs.declared.operators.Joint.{Joint}
use Rattle.al_grammar.specs.declared.operators.Prefix.{Prefix}
use Rattle.al_grammar.specs.declared.operators.TheConstants.{LEVELS}
use Rattle.al_grammar.specs.Operators.{infix_of, join, prefix_of, apply}
use Rattle.al_grammar.specs.Phrases.{Tokens, Name, Takes}
use Rattle.al_grammar.specs.Expressions.{State}
use Rattle.al_grammar.specs.Expressions as g
use Rattle.al_source.specs.Steps.{bind}
use Rattle.al_grammar.specs.Steps.{kind_at, mark_at, meaning_at, tail, expect}
use Rattle.al_grammar.specs.ExpressionParser.{Outcome, Parser, lift, spend, Job, whole, climb, unary, postfix, primary, suffix, arguments, more, field, element_size, whole_by, joined_by, climb_by, unary_by, named_by, primary_by, indexed, suffix_by, allocated, arguments_by, more_by, step, measure, guard, parse}
use Rattle.std.proofs.Common.{add-one}
use Rattle.al_grammar.proofs.StepFacts.{takes_shorter, kind_takes, mark_takes, means_shorter, at_means, expect_takes}
use Rattle.al_grammar.proofs.FixedPoint.{then_same, lift_ok, guarded, pass, parse_step}
use Rattle.al_grammar.proofs.SoundExpressions.{Took, Good, good, good_indexed, good_field}

tail_shorter : (ts : Tokens) → length (tail ts) ≤ length ts
tail_shorter [] = omega arith
tail_shorter (t ∷ ts) = omega arith

-- Where N is the parser on what is smaller than the bound, so is the guarded parser.
module _ (N : Job → Parser Expr) (b : ℕ) (same : (j : Job) (s : State) → measure j s < b → N j s ≡ parse j s) where
  abbrev G : Job → Parser Expr
  G = guard parse b

  within : (j : Job) (s : State) → measure j s < b → G j s ≡ N j s
  within j s h = pass parse b j s h ∙ sym (same j s h)

  good_within : (j : Job) (s : State) (y : Expr × State) → G j s ≡ Ok y → Good j s y
  good_within j s y d = good j s y (guarded parse b j s d)

  took : (j : Job) (s : State) (x : Expr) (s' : State) → G j s ≡ Ok (x, s') → Took j s s'
  took j s x s' d = (good_within j s (x, s') d).took

  open_climb : (l : ℕ) (x : Expr) (n : ℕ) (ts : Tokens)
      → length ts * 20 ≤ b → climb_by G l x (meaning_at infix_of ts) (n, ts) ≡ climb_by N l x (meaning_at infix_of ts) (n, ts)
  open_climb l x n ts h = by (meaning_at infix_of ts) refl
    where
      with_op : (op : Joint) (m : ℕ) (c : Bool) → length (tail ts) < length ts → joined_by G l x op c (m, ts) ≡ joined_by N l x op c (m, ts)
      with_op op m false lt = refl
      with_op op zero true lt = refl
      with_op op (suc m) true lt =
          then_same (G (whole (suc l)) (m, tail ts)) (N (whole (suc l)) (m, tail ts)) (λ y. G (climb l (join op x y))) (λ y. N (climb l (join op x y)))
          (within _ _ (omega arith)) (λ y s d. let less = took _ _ _ _ d in within (climb l (join op x y)) s (omega arith))

      by : (v : Option (ℕ × Joint)) → meaning_at infix_of ts ≡ v → climb_by G l x v (n, ts) ≡ climb_by N l x v (n, ts)
      by None d = refl
      by (Some (q, op)) d = with_op op n (nat_eq q l) (means_shorter (at_means ts d))

  open_unary : (n : ℕ) (ts : Tokens) → length ts * 20 + 2 ≤ b → unary_by G (meaning_at prefix_of ts) (n, ts) ≡ unary_by N (meaning_at prefix_of ts) (n, ts)
  open_unary n ts h = by (meaning_at prefix_of ts) refl n
    where
      by : (v : Option Prefix) → meaning_at prefix_of ts ≡ v → (n : ℕ) → unary_by G v (n, ts) ≡ unary_by N v (n, ts)
      by None d n = within postfix (n, ts) (omega arith)
      by (Some op) d zero = refl
      by (Some op) d (suc n) =
          let lt = means_shorter (at_means ts d) in ap (λ r. bind r (λ x s. Ok (apply op x, s))) (within unary (n, tail ts) (omega arith))

  open_primary : (n : ℕ) (ts : Tokens) → length ts * 20 ≤ b → primary_by G (kind_at ts) (n, ts) ≡ primary_by N (kind_at ts) (n, ts)
  open_primary n ts h = by (kind_at ts) refl n
    where
      after : (w : Name) (n : ℕ) (us : Tokens) → length us < length ts → named_by G w (mark_at us) (n, us) ≡ named_by N w (mark_at us) (n, us)
      after w n us lt = at (mark_at us) n
        where
          at : (c : Option the_mark.Mark) (n : ℕ) → named_by G w c (n, us) ≡ named_by N w c (n, us)
          at (Some m.LeftParen) zero = refl
          at (Some m.LeftParen) (suc n) = let le = tail_shorter us in within (arguments w) (n, tail us) (omega arith)
          at _ n = refl

      inside : (n : ℕ) → length (tail ts) < length ts → allocated G (n, ts) ≡ allocated N (n, ts)
      inside zero lt = refl
      inside (suc zero) lt = refl
      inside (suc (suc n)) lt =
          ap (λ r. bind r (λ x s. bind (lift element_size s) (λ a s. Ok (e.Calloc x a, s))))
          (then_same (lift (expect m.LeftParen) (n, tail ts)) (lift (expect m.LeftParen) (n, tail ts)) (λ _. G (whole 0)) (λ _. N (whole 0)) refl
          (λ x s d. let le = lifted (n, tail ts) s d in within (whole 0) s (omega arith)))
        where
          lifted : (s s' : State) → lift (expect m.LeftParen) s ≡ Ok (tt, s') → length s'.1 ≤ length s.1
          lifted s s' d =
              let (q, dq, is) = lift_ok (expect m.LeftParen) s (tt, s') d in
              let lt = takes_shorter (expect_is s.1 q dq) in
              let same : length q.1 ≡ length s'.1 = ap (λ (v : Unit {0} × State). length v.1.1) is in
              omega arith
            where
              expect_is : (ts : Tokens) (q : Unit {0} × Tokens) → expect m.LeftParen ts ≡ Ok q → Takes (Mark m.LeftParen) ts q.1
              expect_is ts q d = expect_takes m.LeftParen ts q d

      by : (k : Option TokenKind) → kind_at ts ≡ k → (n : ℕ) → primary_by G k (n, ts) ≡ primary_by N k (n, ts)
      by (Some (Word w)) d n = after w n (tail ts) (takes_shorter (kind_takes ts d))
      by (Some (Mark m.LeftParen)) d zero = refl
      by (Some (Mark m.LeftParen)) d (suc n) =
          let lt = takes_shorter (kind_takes ts d) in
          ap (λ r. bind r (λ x s. bind (lift (expect m.RightParen) s) (λ _ s. Ok (x, s)))) (within (whole 0) (n, tail ts) (omega arith))
      by (Some (Key key.Calloc)) d n = inside n (takes_shorter (kind_takes ts d))
      by _ d n = refl

  open_indexed : (x : Expr) (n : ℕ) (ts : Tokens) → length (tail ts) < length ts → length ts * 20 ≤ b → indexed G x (n, ts) ≡ indexed N x (n, ts)
  open_indexed x zero ts lt h = refl
  open_indexed x (suc n) ts lt h =
      ap (λ r. bind r (λ i s. bind (lift (expect m.RightBracket) s) (λ _ s. Ok (e.Index x i, s)))) (within (whole 0) (n, tail ts) (omega arith))

  open_suffix : (x : Expr) (n : ℕ) (ts : Tokens) → length ts * 20 ≤ b → suffix_by G x (mark_at ts) (n, ts) ≡ suffix_by N x (mark_at ts) (n, ts)
  open_suffix x n ts h = by (mark_at ts) refl
    where
      after : (o o' : Outcome Expr)
          → o ≡ o' → ((p : Expr × State) → o ≡ Ok p → length p.1.1 < length ts) → bind o (λ y. G (suffix y)) ≡ bind o' (λ y. N (suffix y))
      after o o' same f =
          then_same o o' (λ y. G (suffix y)) (λ y. N (suffix y)) same (λ y s d. let lt = f (y, s) d in within (suffix y) s (omega arith))

      by : (k : Option the_mark.Mark) → mark_at ts ≡ k → suffix_by G x k (n, ts) ≡ suffix_by N x k (n, ts)
      by (Some m.LeftBracket) d =
          after (indexed G x (n, ts)) (indexed N x (n, ts)) (open_indexed x n ts (takes_shorter (mark_takes ts d)) h)
          (λ p c. (good_indexed G good_within x n ts p (mark_takes ts d) c).took)
      by (Some m.Dot) d =
          after (field e.Dot x (n, ts)) (field e.Dot x (n, ts)) refl
          (λ p c. (good_field x e.Dot n ts p (takes_shorter (mark_takes ts d)) (λ s k w us r u. g.dot r (mark_takes ts d) u) c).took)
      by (Some m.Arrow) d =
          after (field e.Arrow x (n, ts)) (field e.Arrow x (n, ts)) refl
          (λ p c. (good_field x e.Arrow n ts p (takes_shorter (mark_takes ts d)) (λ s k w us r u. g.arrow r (mark_takes ts d) u) c).took)
      by _ d = refl

  open_arguments : (w : Name) (n : ℕ) (ts : Tokens)
      → length ts * 20 + 15 ≤ b → arguments_by G w (mark_at ts) (n, ts) ≡ arguments_by N w (mark_at ts) (n, ts)
  open_arguments w n ts h = by (mark_at ts)
    where
      by : (k : Option the_mark.Mark) → arguments_by G w k (n, ts) ≡ arguments_by N w k (n, ts)
      by (Some m.RightParen) = refl
      by _ = within (more w []) (n, ts) (omega arith)

  open_next : (w : Name) (xs : List Expr) (n : ℕ) (ts : Tokens)
      → length ts * 20 ≤ b → more_by G w xs (mark_at ts) (n, ts) ≡ more_by N w xs (mark_at ts) (n, ts)
  open_next w xs n ts h = by (mark_at ts) refl
    where
      by : (k : Option the_mark.Mark) → mark_at ts ≡ k → more_by G w xs k (n, ts) ≡ more_by N w xs k (n, ts)
      by (Some m.Comma) d = let lt = takes_shorter (mark_takes ts d) in within (more w xs) (n, tail ts) (omega arith)
      by _ d = refl

  open_whole : (l : ℕ) (s : State) (c : Bool) → measure (whole l) s ≤ b → nat_lt l LEVELS ≡ c → whole_by G l c s ≡ whole_by N l c s
  open_whole l s true h lt =
      let below : l < LEVELS = ltb-true _ _ lt in
      then_same (G (whole (suc l)) s) (N (whole (suc l)) s) (λ x. G (climb l x)) (λ x. N (climb l x))
      (within (whole (suc l)) s (omega arith)) (λ x s' d. let less = took _ _ _ _ d in within (climb l x) s' (omega arith))
  open_whole l s false h ge = within unary s (omega arith)

  pub opened : (j : Job) (s : State) → measure j s ≤ b → step G j s ≡ step N j s
  opened (whole l) s h = open_whole l s (nat_lt l LEVELS) h refl
  opened (climb l x) s h = open_climb l x s.0 s.1 (omega arith)
  opened unary s h = open_unary s.0 s.1 (omega arith)
  opened postfix s h =
      then_same (G primary s) (N primary s) (λ x. G (suffix x)) (λ x. N (suffix x)) (within primary s (omega arith))
      (λ x s' d. let less = took _ _ _ _ d in within (suffix x) s' (omega arith))
  opened primary s h = open_primary s.0 s.1 (omega arith)
  opened (suffix x) s h = open_suffix x s.0 s.1 (omega arith)
  opened (arguments w) s h = open_arguments w s.0 s.1 (omega arith)
  opened (more w xs) s h =
      then_same (G (whole 0) s) (N (whole 0) s) (λ y s. more_by G w (xs ++ y ∷ []) (mark_at s.1) s)
      (λ y s. more_by N w (xs ++ y ∷ []) (mark_at s.1) s) (within (whole 0) s (omega arith))
      (λ y s' d. let less = took _ _ _ _ d in open_next w (xs ++ y ∷ []) s'.0 s'.1 (omega arith))

-- The parser's equation.
pub parse_is : (j : Job) (s : State) → parse j s ≡ step parse j s
parse_is j s = parse_step j s ∙ opened parse (measure j s) (λ k u h. refl) j s (omega arith)

-- ---- the equation where a test on a level decides

pub whole_tighter : (l : ℕ) (s : State) → l < LEVELS → parse (whole l) s ≡ bind (parse (whole (l + 1)) s) (λ x. parse (climb l x))
whole_tighter l s lt = rw add-one (parse_is (whole l) s ∙ ap (λ b. whole_by parse l b s) (lt-ltb l LEVELS lt))

pub whole_operand : (l : ℕ) (s : State) → LEVELS ≤ l → parse (whole l) s ≡ parse unary s
whole_operand l s ge = parse_is (whole l) s ∙ ap (λ b. whole_by parse l b s) (le-ltb l LEVELS ge)

pub climb_other : (l : ℕ) (x : Expr) (s : State) (q : ℕ) (op : Joint) → meaning_at infix_of s.1 ≡ Some (q, op) → (q ≡ l → ⊥) → parse (climb l x) s ≡ Ok (x, s)
climb_other l x s q op d ne = parse_is (climb l x) s ∙ ap (λ v. climb_by parse l x v s) d ∙ ap (λ b. joined_by parse l x op b s) (ne_eqb q l ne)

pub climb_same : (l : ℕ) (x : Expr) (s : State) (q : ℕ) (op : Joint) → meaning_at infix_of s.1 ≡ Some (q, op) → q ≡ l
    → parse (climb l x) s ≡ bind (bind (spend s) (λ _. parse (whole (l + 1)))) (λ y. parse (climb l (join op x y)))
climb_same l x s q op d eq = rw add-one (parse_is (climb l x) s ∙ ap (λ v. climb_by parse l x v s) d ∙ ap (λ b. joined_by parse l x op b s) (eq-eqb q l eq))

-- a level of binary operators
pub ruleset level_steps = (whole_tighter, whole_operand)

-- what comes behind a left operand
pub ruleset climb_steps = (parse_is, climb_other, climb_same)
