-- What the parser of expressions reads is in the grammar.
use Rattle.std.proofs.Common.{◌≡◌, ℕ, zero, suc, ◌<◌, ◌≤◌, Bool, true, false, nat_lt, nat_eq, List, [], ◌∷◌, ◌++◌, append_assoc, length, Option, Some, None, Ok, Err, refl, sym, ap, subst, ◌∙◌, arith}
use Rattle.std.proofs.lemmas.Bool.{ltb-true, ltb-false, eqb-true}
use Rattle.al_source.specs.declared.tokens.TokenKind.{TokenKind}
use Rattle.al_source.specs.declared.tokens.TokenKind.TheVariants.{Word, Number, Key, Mark}
use Rattle.al_source.specs.declared.tokens.Mark as the_mark
use Rattle.al_source.specs.declared.tokens.Mark.TheVariants as m
use Rattle.al_source.specs.declared.tokens.Key.TheVariants as key
use Rattle.al_source.specs.declared.source_tree.CType.{CType}
use Rattle.al_source.specs.declared.source_tree.Expr.{Expr}
use Rattle.al_source.specs.declared.source_tree.Expr.TheVariants as e
use Rattle.al_source.specs.declared.limits.TheConstants.{EXPRESSION_OPERATORS}
use Rattle.al_grammar.specs.declared.operators.Joint.{Joint}
use Rattle.al_grammar.specs.declared.operators.Prefix.{Prefix}
use Rattle.al_grammar.specs.declared.operators.TheConstants.{LEVELS}
use Rattle.al_grammar.specs.Operators.{infix_of, join, prefix_of, apply}
use Rattle.al_grammar.specs.Phrases.{Tokens, Name, Takes, Means, means}
use Rattle.al_grammar.specs.Types.{SizeOf}
use Rattle.al_grammar.specs.Expressions.{State, Reads, Arguments, More, Expression, Place}
use Rattle.al_grammar.specs.Expressions as g
use Rattle.al_source.specs.Steps.{bind, pure}
use Rattle.al_grammar.specs.Steps.{kind_at, mark_at, meaning_at, tail, expect, word}
use Rattle.al_grammar.specs.TypeParser.{operand_type, size_of}
use Rattle.al_grammar.specs.ExpressionParser.{Outcome, Parser, lift, Job, whole, climb, unary, postfix, primary, suffix, arguments, more, field, sized, element_size, whole_by, joined_by, climb_by, unary_by, named_by, primary_by, indexed, suffix_by, allocated, arguments_by, more_by, step, measure, guard, go, parse, forget, expression, place}
use Rattle.al_grammar.proofs.StepFacts.{some_same, takes_shorter, kind_takes, mark_takes, means_shorter, at_means, expect_takes, word_takes, bind_ok, yields}
use Rattle.al_grammar.proofs.TypeFacts.{sound_operand, size_from, sound_size, size_shorter}
use Rattle.al_grammar.proofs.FixedPoint.{lift_ok, guarded}

abbrev pub Took : Job → State → State → Type 0
Took (climb l x) s s' = length s'.1 ≤ length s.1
Took (suffix x) s s' = length s'.1 ≤ length s.1
Took _ s s' = length s'.1 < length s.1

-- what each job reads; those that go on say what they make of what stands before
abbrev pub Sound : Job → State → Expr → State → Type 0
Sound (whole l) s y s' = l ≤ LEVELS → Reads (g.level l) s y s'
Sound (climb l x) s y s' = (s₀ : State) → Reads (g.level l) s₀ x s → Reads (g.level l) s₀ y s'
Sound unary s y s' = Reads g.unary s y s'
Sound postfix s y s' = Reads g.postfix s y s'
Sound primary s y s' = Reads g.primary s y s'
Sound (suffix x) s y s' = (s₀ : State) → Reads g.postfix s₀ x s → Reads g.postfix s₀ y s'
Sound (arguments w) s y s' = (xs : List Expr) × Arguments s xs s' × (y ≡ e.Call w xs)
Sound (more w xs) s y s' = (ys : List Expr) × More s ys s' × (y ≡ e.Call w (xs ++ ys))

pub record Good (j : Job) (s : State) (y : Expr × State) : Type 0 where
  pub took : Took j s y.1
  pub sound : Sound j s y.0 y.1

gives : (j : Job) (s : State) {x y : Expr × State} → Good j s x → ◌≡◌ {A = Outcome Expr} (Ok x) (Ok y) → Good j s y
gives j s {x} {y} h d = let same : x ≡ y = cc in subst (Good j s) same h

same_level : {p q : ℕ × Joint} → Some p ≡ Some q → p.0 ≡ q.0
same_level d = ap (λ v. v.0) (some_same d)

pub infix_level : (k : TokenKind) (l : ℕ) (op : Joint) → infix_of k ≡ Some (l, op) → l < LEVELS
infix_level (Mark m.OrOr) l op d = let is : 0 ≡ l = same_level d in omega arith
infix_level (Mark m.AndAnd) l op d = let is : 1 ≡ l = same_level d in omega arith
infix_level (Mark m.Pipe) l op d = let is : 2 ≡ l = same_level d in omega arith
infix_level (Mark m.Caret) l op d = let is : 3 ≡ l = same_level d in omega arith
infix_level (Mark m.Ampersand) l op d = let is : 4 ≡ l = same_level d in omega arith
infix_level (Mark m.EqualEqual) l op d = let is : 5 ≡ l = same_level d in omega arith
infix_level (Mark m.NotEqual) l op d = let is : 5 ≡ l = same_level d in omega arith
infix_level (Mark m.Less) l op d = let is : 6 ≡ l = same_level d in omega arith
infix_level (Mark m.LessEqual) l op d = let is : 6 ≡ l = same_level d in omega arith
infix_level (Mark m.Greater) l op d = let is : 6 ≡ l = same_level d in omega arith
infix_level (Mark m.GreaterEqual) l op d = let is : 6 ≡ l = same_level d in omega arith
infix_level (Mark m.ShiftLeft) l op d = let is : 7 ≡ l = same_level d in omega arith
infix_level (Mark m.ShiftRight) l op d = let is : 7 ≡ l = same_level d in omega arith
infix_level (Mark m.Plus) l op d = let is : 8 ≡ l = same_level d in omega arith
infix_level (Mark m.Minus) l op d = let is : 8 ≡ l = same_level d in omega arith
infix_level (Mark m.Star) l op d = let is : 9 ≡ l = same_level d in omega arith
infix_level (Mark m.Slash) l op d = let is : 9 ≡ l = same_level d in omega arith
infix_level (Mark m.Percent) l op d = let is : 9 ≡ l = same_level d in omega arith
infix_level _ l op d = absurd cc

pub means_level : {l : ℕ} {op : Joint} {ts us : Tokens} → Means infix_of (l, op) ts us → l < LEVELS
means_level {l} {op} (means {t = t} d) = infix_level t.kind l op d

-- ---- steps without operators

closed : (k : the_mark.Mark) (s : State) (p : Unit {0} × State) → lift (expect k) s ≡ Ok p → (us : Tokens) × Takes (Mark k) s.1 us × ((s.0, us) ≡ p.1)
closed k s p d = let (q, dq, is) = lift_ok (expect k) s p d in (q.1, expect_takes k s.1 q dq, ap (λ v. v.1) is)

-- the second argument of `calloc`
record Element (ts : Tokens) (p : CType × Tokens) : Type 0 where
  after_comma : Tokens
  close : Tokens
  comma : Takes (Mark m.Comma) ts after_comma
  size : SizeOf after_comma p.0 close
  closes : Takes (Mark m.RightParen) close p.1

sound_element : (ts : Tokens) (p : CType × Tokens) → element_size ts ≡ Ok p → Element ts p
sound_element ts p d =
    let (a, da, dk) = bind_ok (bind (expect m.Comma ts) (λ _. size_of)) (λ a us. bind (expect m.RightParen us) (λ _. pure a)) d in
    let (c, dc, dl) = bind_ok (expect m.Comma ts) (λ _. size_of) da in
    let (r, dr, dm) = bind_ok (expect m.RightParen a.1) (λ _. pure a.0) dk in
    yields (Element ts) (a.0, r.1) p
    (record {
      after_comma = c.1;
      close = a.1;
      comma = expect_takes m.Comma ts c dc;
      size = sound_size c.1 a dl;
      closes = expect_takes m.RightParen a.1 r dr;
    }) dm

element_shorter : {ts : Tokens} {p : CType × Tokens} → Element ts p → length p.1 < length ts
element_shorter q = let a = takes_shorter q.comma in let b = size_shorter q.size in let c = takes_shorter q.closes in omega arith

-- one suffix more
pub record Extends (x : Expr) (s : State) (y : Expr × State) : Type 0 where
  pub took : length y.1.1 < length s.1
  pub sound : (s₀ : State) → Reads g.postfix s₀ x s → Reads g.postfix s₀ y.0 y.1

extends : (x : Expr) (s : State) (p y : Expr × State) → Extends x s p → ◌≡◌ {A = Outcome Expr} (Ok p) (Ok y) → Extends x s y
extends x s p y h d = let same : p ≡ y = cc in subst (Extends x s) same h

pub good_field : (x : Expr) (f : Expr → Name → Expr) (n : ℕ) (ts : Tokens) (y : Expr × State)
    → length (tail ts) < length ts
    → ((s : State) (k : ℕ) (w : Name) (us : Tokens) → Reads g.postfix s x (suc k, ts) → Takes (Word w) (tail ts) us → Reads g.postfix s (f x w) (k, us))
    → field f x (n, ts) ≡ Ok y → Extends x (n, ts) y
good_field x f zero ts y lt rule d = absurd cc
good_field x f (suc n) ts y lt rule d =
    let (p, dp, dk) = bind_ok (lift word (n, tail ts)) (λ w s. Ok (f x w, s)) d in
    let (q, dq, is) = lift_ok word (n, tail ts) p dp in
    let t = word_takes (tail ts) q dq in
    let shorter = takes_shorter t in
    extends x (suc n, ts) (f x p.0, p.1) y
    (subst (λ (p : Name × State). Extends x (suc n, ts) (f x p.0, p.1)) is (record { took = omega arith; sound = λ s₀ r. rule s₀ n q.0 q.1 r t })) dk

module _ (N : Job → Parser Expr) (h : (j : Job) (s : State) (y : Expr × State) → N j s ≡ Ok y → Good j s y) where
  good_whole : (l : ℕ) (s : State) (y : Expr × State) (b : Bool) → nat_lt l LEVELS ≡ b → whole_by N l b s ≡ Ok y → Good (whole l) s y
  good_whole l s y true lt d =
      let (p, dp, dk) = bind_ok (N (whole (suc l)) s) (λ x. N (climb l x)) d in
      let first = h (whole (suc l)) s p dp in
      let further = h (climb l p.0) p.1 y dk in
      let shorter = first.took in
      let shorter_still = further.took in
      record { took = omega arith; sound = λ _. further.sound s (g.tighter (ltb-true _ _ lt) (first.sound (ltb-true _ _ lt))) }
  good_whole l s y false ge d =
      let all = h unary s y d in
      record {
        took = all.took;
        sound = λ le. let is : LEVELS ≡ l = omega (arith, ltb-false _ _ ge) in subst (λ k. Reads (g.level k) s y.0 y.1) is (g.operand all.sound);
      }

  good_joined : (l : ℕ) (x : Expr) (n : ℕ) (ts : Tokens) (op : Joint) (y : Expr × State) (q : ℕ) (b : Bool)
      → nat_eq q l ≡ b → Means infix_of (q, op) ts (tail ts) → joined_by N l x op b (n, ts) ≡ Ok y → Good (climb l x) (n, ts) y
  good_joined l x n ts op y q false ne t d = gives (climb l x) (n, ts) (record { took = omega arith; sound = λ s₀ r. r }) d
  good_joined l x zero ts op y q true eq t d = absurd cc
  good_joined l x (suc n) ts op y q true eq t d =
      let (p, dp, dk) = bind_ok (N (whole (suc l)) (n, tail ts)) (λ z. N (climb l (join op x z))) d in
      let right = h (whole (suc l)) (n, tail ts) p dp in
      let further = h (climb l (join op x p.0)) p.1 y dk in
      let one_less = means_shorter t in
      let shorter = right.took in
      let shorter_still = further.took in
      let here : Means infix_of (l, op) ts (tail ts) = subst (λ q. Means infix_of (q, op) ts (tail ts)) (eqb-true _ _ eq) t in
      record { took = omega arith; sound = λ s₀ r. further.sound s₀ (g.joined r here (right.sound (means_level here))) }

  good_climb : (l : ℕ) (x : Expr) (n : ℕ) (ts : Tokens) (y : Expr × State) → climb_by N l x (meaning_at infix_of ts) (n, ts) ≡ Ok y → Good (climb l x) (n, ts) y
  good_climb l x n ts y d = by (meaning_at infix_of ts) refl d
    where
      by : (v : Option (ℕ × Joint)) → meaning_at infix_of ts ≡ v → climb_by N l x v (n, ts) ≡ Ok y → Good (climb l x) (n, ts) y
      by None di k = gives (climb l x) (n, ts) (record { took = omega arith; sound = λ s₀ r. r }) k
      by (Some (q, op)) di k = good_joined l x n ts op y q (nat_eq q l) refl (at_means ts di) k

  good_prefixed : (n : ℕ) (ts : Tokens) (op : Prefix) (y : Expr × State)
      → Means prefix_of op ts (tail ts) → unary_by N (Some op) (n, ts) ≡ Ok y → Good unary (n, ts) y
  good_prefixed zero ts op y t d = absurd cc
  good_prefixed (suc n) ts op y t d =
      let (p, dp, dk) = bind_ok (N unary (n, tail ts)) (λ x s. Ok (apply op x, s)) d in
      let inner = h unary (n, tail ts) p dp in
      let one_less = means_shorter t in
      let shorter = inner.took in
      gives unary (suc n, ts) (record { took = omega arith; sound = g.prefixed t inner.sound }) dk

  good_unary : (n : ℕ) (ts : Tokens) (y : Expr × State) → unary_by N (meaning_at prefix_of ts) (n, ts) ≡ Ok y → Good unary (n, ts) y
  good_unary n ts y d = by (meaning_at prefix_of ts) refl d
    where
      by : (v : Option Prefix) → meaning_at prefix_of ts ≡ v → unary_by N v (n, ts) ≡ Ok y → Good unary (n, ts) y
      by None di k = let all = h postfix (n, ts) y k in record { took = all.took; sound = g.plain all.sound }
      by (Some op) di k = good_prefixed n ts op y (at_means ts di) k

  good_postfix : (s : State) (y : Expr × State) → step N postfix s ≡ Ok y → Good postfix s y
  good_postfix s y d =
      let (p, dp, dk) = bind_ok (N primary s) (λ x. N (suffix x)) d in
      let first = h primary s p dp in
      let further = h (suffix p.0) p.1 y dk in
      let shorter = first.took in
      let shorter_still = further.took in
      record { took = omega arith; sound = further.sound s (g.bare first.sound) }

  -- after the name
  good_named : (n : ℕ) (w : Name) (ts us : Tokens) (y : Expr × State) → Takes (Word w) ts us → named_by N w (mark_at us) (n, us) ≡ Ok y → Good primary (n, ts) y
  good_named n w ts us y t d = by (mark_at us) refl n d
    where
      one_less : length us < length ts
      one_less = takes_shorter t

      by : (k : Option the_mark.Mark) → mark_at us ≡ k → (n : ℕ) → named_by N w k (n, us) ≡ Ok y → Good primary (n, ts) y
      by (Some m.LeftParen) du zero k = absurd cc
      by (Some m.LeftParen) du (suc n) k =
          let rest = h (arguments w) (n, tail us) y k in
          let (xs, r, is) = rest.sound in
          let u = mark_takes us du in
          let less = takes_shorter u in
          let less_before = takes_shorter t in
          let shorter = rest.took in
          record { took = omega arith; sound = subst (λ x. Reads g.primary (suc n, ts) x y.1) (sym is) (g.call t u r) }
      by _ du n k = gives primary (n, ts) (record { took = takes_shorter t; sound = g.variable t }) k

  good_group : (n : ℕ) (ts : Tokens) (y : Expr × State)
      → Takes (Mark m.LeftParen) ts (tail ts) → primary_by N (Some (Mark m.LeftParen)) (n, ts) ≡ Ok y → Good primary (n, ts) y
  good_group zero ts y t d = absurd cc
  good_group (suc n) ts y t d =
      let (p, dp, dk) = bind_ok (N (whole 0) (n, tail ts)) (λ x s. bind (lift (expect m.RightParen) s) (λ _ s. Ok (x, s))) d in
      let (q, dq, dl) = bind_ok (lift (expect m.RightParen) p.1) (λ _ s. Ok (p.0, s)) dk in
      let (us, u, after) = closed m.RightParen p.1 q dq in
      let inner = h (whole 0) (n, tail ts) p dp in
      let a = takes_shorter t in
      let b = takes_shorter u in
      let c = inner.took in
      gives primary (suc n, ts)
      (subst (λ (s : State). Good primary (suc n, ts) (p.0, s)) after (record { took = omega arith; sound = g.group t (inner.sound (omega arith)) u })) dl

  good_sized : (n : ℕ) (ts : Tokens) (y : Expr × State) → Takes (Key key.Sizeof) ts (tail ts) → sized (n, ts) ≡ Ok y → Good primary (n, ts) y
  good_sized zero ts y t d = absurd cc
  good_sized (suc n) ts y t d =
      let (p, dp, dk) = bind_ok (lift operand_type (n, tail ts)) (λ a s. Ok (e.SizeOf a, s)) d in
      let (q, dq, is) = lift_ok operand_type (n, tail ts) p dp in
      let size = size_from q t (sound_operand (tail ts) q dq) in
      gives primary (suc n, ts)
      (subst (λ (p : CType × State). Good primary (suc n, ts) (e.SizeOf p.0, p.1)) is (record { took = size_shorter size; sound = g.size size })) dk

  good_allocated : (n : ℕ) (ts : Tokens) (y : Expr × State) → Takes (Key key.Calloc) ts (tail ts) → allocated N (n, ts) ≡ Ok y → Good primary (n, ts) y
  good_allocated zero ts y t d = absurd cc
  good_allocated (suc zero) ts y t d = absurd cc
  good_allocated (suc (suc n)) ts y t d =
      let (p, dp, dk) = bind_ok (bind (lift (expect m.LeftParen) (n, tail ts)) (λ _. N (whole 0)))
      (λ x s. bind (lift element_size s) (λ a s. Ok (e.Calloc x a, s))) d in
      let (o, do', dj) = bind_ok (lift (expect m.LeftParen) (n, tail ts)) (λ _. N (whole 0)) dp in
      let (us, u, after) = closed m.LeftParen (n, tail ts) o do' in
      let inner = h (whole 0) (n, us) p (subst (λ s. N (whole 0) s ≡ Ok p) (sym after) dj) in
      let (q, dq, dl) = bind_ok (lift element_size p.1) (λ a s. Ok (e.Calloc p.0 a, s)) dk in
      let (r, dr, is) = lift_ok element_size p.1 q dq in
      let last = sound_element p.1.1 r dr in
      let a = takes_shorter t in
      let b = takes_shorter u in
      let c = inner.took in
      let less = element_shorter last in
      gives primary (suc (suc n), ts) (subst (λ (q : CType × State). Good primary (suc (suc n), ts) (e.Calloc p.0 q.0, q.1)) is
      (record { took = omega arith; sound = g.allocation t u (inner.sound (omega arith)) last.comma last.size last.closes })) dl

  good_primary : (n : ℕ) (ts : Tokens) (y : Expr × State) → primary_by N (kind_at ts) (n, ts) ≡ Ok y → Good primary (n, ts) y
  good_primary n ts y d = by (kind_at ts) refl d
    where
      by : (k : Option TokenKind) → kind_at ts ≡ k → primary_by N k (n, ts) ≡ Ok y → Good primary (n, ts) y
      by (Some (Number v)) dt k = let t = kind_takes ts dt in gives primary (n, ts) (record { took = takes_shorter t; sound = g.number t }) k
      by (Some (Key key.Null)) dt k = let t = kind_takes ts dt in gives primary (n, ts) (record { took = takes_shorter t; sound = g.null t }) k
      by (Some (Word w)) dt k = good_named n w ts (tail ts) y (kind_takes ts dt) k
      by (Some (Mark m.LeftParen)) dt k = good_group n ts y (kind_takes ts dt) k
      by (Some (Key key.Sizeof)) dt k = good_sized n ts y (kind_takes ts dt) k
      by (Some (Key key.Calloc)) dt k = good_allocated n ts y (kind_takes ts dt) k
      by _ dt k = absurd cc

  pub good_indexed : (x : Expr) (n : ℕ) (ts : Tokens) (y : Expr × State)
      → Takes (Mark m.LeftBracket) ts (tail ts) → indexed N x (n, ts) ≡ Ok y → Extends x (n, ts) y
  good_indexed x zero ts y t d = absurd cc
  good_indexed x (suc n) ts y t d =
      let (p, dp, dk) = bind_ok (N (whole 0) (n, tail ts)) (λ i s. bind (lift (expect m.RightBracket) s) (λ _ s. Ok (e.Index x i, s))) d in
      let (q, dq, dl) = bind_ok (lift (expect m.RightBracket) p.1) (λ _ s. Ok (e.Index x p.0, s)) dk in
      let (us, u, after) = closed m.RightBracket p.1 q dq in
      let inner = h (whole 0) (n, tail ts) p dp in
      let a = takes_shorter t in
      let b = takes_shorter u in
      let c = inner.took in
      extends x (suc n, ts) (e.Index x p.0, q.1) y (subst (λ (s : State). Extends x (suc n, ts) (e.Index x p.0, s)) after
      (record { took = omega arith; sound = λ s₀ r. g.index r t (inner.sound (omega arith)) u })) dl

  good_extended : (x : Expr) (s : State) (o : Outcome Expr) (y : Expr × State)
      → ((p : Expr × State) → o ≡ Ok p → Extends x s p) → bind o (λ z. N (suffix z)) ≡ Ok y → Good (suffix x) s y
  good_extended x s o y f d =
      let (p, dp, dk) = bind_ok o (λ z. N (suffix z)) d in
      let one = f p dp in
      let further = h (suffix p.0) p.1 y dk in
      let shorter = one.took in
      let shorter_still = further.took in
      record { took = omega arith; sound = λ s₀ r. further.sound s₀ (one.sound s₀ r) }

  good_suffix : (x : Expr) (n : ℕ) (ts : Tokens) (y : Expr × State) → suffix_by N x (mark_at ts) (n, ts) ≡ Ok y → Good (suffix x) (n, ts) y
  good_suffix x n ts y d = by (mark_at ts) refl d
    where
      by : (k : Option the_mark.Mark) → mark_at ts ≡ k → suffix_by N x k (n, ts) ≡ Ok y → Good (suffix x) (n, ts) y
      by (Some m.LeftBracket) dt k = good_extended x (n, ts) (indexed N x (n, ts)) y (λ p. good_indexed x n ts p (mark_takes ts dt)) k
      by (Some m.Dot) dt k =
          good_extended x (n, ts) (field e.Dot x (n, ts)) y
          (λ p. good_field x e.Dot n ts p (takes_shorter (mark_takes ts dt)) (λ s k w us r u. g.dot r (mark_takes ts dt) u)) k
      by (Some m.Arrow) dt k =
          good_extended x (n, ts) (field e.Arrow x (n, ts)) y
          (λ p. good_field x e.Arrow n ts p (takes_shorter (mark_takes ts dt)) (λ s k w us r u. g.arrow r (mark_takes ts dt) u)) k
      by _ dt k = gives (suffix x) (n, ts) (record { took = omega arith; sound = λ s₀ r. r }) k

  good_some : (w : Name) (s : State) (y : Expr × State) → N (more w []) s ≡ Ok y → Good (arguments w) s y
  good_some w s y d =
      let all = h (more w []) s y d in
      let (xs, r, is) = all.sound in
      record { took = all.took; sound = (xs, g.some r, is) }

  good_arguments : (w : Name) (n : ℕ) (ts : Tokens) (y : Expr × State) → arguments_by N w (mark_at ts) (n, ts) ≡ Ok y → Good (arguments w) (n, ts) y
  good_arguments w n ts y d = by (mark_at ts) refl d
    where
      by : (k : Option the_mark.Mark) → mark_at ts ≡ k → arguments_by N w k (n, ts) ≡ Ok y → Good (arguments w) (n, ts) y
      by (Some m.RightParen) dt k = let t = mark_takes ts dt in gives (arguments w) (n, ts) (record { took = takes_shorter t; sound = ([], g.none t, refl) }) k
      by _ dt k = good_some w (n, ts) y k

  -- after an argument
  good_next : (w : Name) (xs : List Expr) (s : State) (x : Expr) (n : ℕ) (ts : Tokens) (y : Expr × State)
      → length ts < length s.1 → Reads (g.level 0) s x (n, ts) → more_by N w (xs ++ x ∷ []) (mark_at ts) (n, ts) ≡ Ok y → Good (more w xs) s y
  good_next w xs s x n ts y lt r d = by (mark_at ts) refl d
    where
      by : (k : Option the_mark.Mark) → mark_at ts ≡ k → more_by N w (xs ++ x ∷ []) k (n, ts) ≡ Ok y → Good (more w xs) s y
      by (Some m.RightParen) dt k =
          let t = mark_takes ts dt in
          let a = takes_shorter t in
          gives (more w xs) s (record { took = omega arith; sound = (x ∷ [], g.last r t, refl) }) k
      by (Some m.Comma) dt k =
          let t = mark_takes ts dt in
          let a = takes_shorter t in
          let rest = h (more w (xs ++ x ∷ [])) (n, tail ts) y k in
          let (ys, r', is) = rest.sound in
          let shorter = rest.took in
          record { took = omega arith; sound = (x ∷ ys, g.more r t r', is ∙ ap (e.Call w) (append_assoc xs (x ∷ []) ys)) }
      by _ dt k = absurd cc

  good_more : (w : Name) (xs : List Expr) (s : State) (y : Expr × State) → step N (more w xs) s ≡ Ok y → Good (more w xs) s y
  good_more w xs s y d =
      let (p, dp, dk) = bind_ok (N (whole 0) s) (λ x s. more_by N w (xs ++ x ∷ []) (mark_at s.1) s) d in
      let first = h (whole 0) s p dp in
      good_next w xs s p.0 p.1.0 p.1.1 y first.took (first.sound (omega arith)) dk

  good_step : (j : Job) (s : State) (y : Expr × State) → step N j s ≡ Ok y → Good j s y
  good_step (whole l) s y d = good_whole l s y (nat_lt l LEVELS) refl d
  good_step (climb l x) s y d = good_climb l x s.0 s.1 y d
  good_step unary s y d = good_unary s.0 s.1 y d
  good_step postfix s y d = good_postfix s y d
  good_step primary s y d = good_primary s.0 s.1 y d
  good_step (suffix x) s y d = good_suffix x s.0 s.1 y d
  good_step (arguments w) s y d = good_arguments w s.0 s.1 y d
  good_step (more w xs) s y d = good_more w xs s y d

good_go : (f : ℕ) (j : Job) (s : State) (y : Expr × State) → go f j s ≡ Ok y → Good j s y
unfolding go
good_go zero j s y d = absurd cc
good_go (suc f) j s y d = good_step (guard (go f) (measure j s)) (λ k u z c. good_go f k u z (guarded (go f) (measure j s) k u c)) j s y d

-- What the parser reads is in the grammar, and it takes tokens.
pub good : (j : Job) (s : State) (y : Expr × State) → parse j s ≡ Ok y → Good j s y
unfolding parse
good j s y d = good_go (suc (measure j s)) j s y d

forgotten : (o : Outcome Expr) (p : Expr × Tokens) → forget o ≡ Ok p → (q : Expr × State) × (o ≡ Ok q) × ((q.0, q.1.1) ≡ p)
forgotten (Ok q) p e = (q, refl, cc)
forgotten (Err a) p e = absurd cc

pub sound_expression : (ts : Tokens) (p : Expr × Tokens) → expression ts ≡ Ok p → Expression ts p.0 p.1
sound_expression ts p d =
    let (q, dq, is) = forgotten (parse (whole 0) (EXPRESSION_OPERATORS, ts)) p d in
    subst (λ (p : Expr × Tokens). Expression ts p.0 p.1) is
    (record { left = q.1.0; reads = (good (whole 0) (EXPRESSION_OPERATORS, ts) q dq).sound (omega arith) })

pub sound_place : (ts : Tokens) (p : Expr × Tokens) → place ts ≡ Ok p → Place ts p.0 p.1
sound_place ts p d =
    let (q, dq, is) = forgotten (parse unary (EXPRESSION_OPERATORS, ts)) p d in
    subst (λ (p : Expr × Tokens). Place ts p.0 p.1) is (record { left = q.1.0; reads = (good unary (EXPRESSION_OPERATORS, ts) q dq).sound })
