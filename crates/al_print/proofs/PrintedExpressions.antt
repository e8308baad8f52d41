-- The printed tokens of an expression that was read are read as that expression, with no more operators.
use Rattle.std.proofs.Common.{◌≡◌, ℕ, zero, suc, ◌+◌, ◌-◌, ◌<◌, ◌≤◌, Bool, true, false, cond, nat_lt, List, [], ◌∷◌, ◌++◌, Option, Some, refl, sym, ap, subst, ◌∙◌, arith}
use Rattle.std.proofs.lemmas.List.{append-nil}
use Rattle.std.specs.Prelude.{ℤ}
use Rattle.std.proofs.lemmas.Bool.{ltb-true, ltb-false, lt-ltb, le-ltb}
use Rattle.al_source.specs.declared.tokens.TokenKind.{TokenKind}
use Rattle.al_source.specs.declared.tokens.TokenKind.TheVariants.{Word, Number, Key, Mark}
use Rattle.al_source.specs.declared.tokens.Mark as the_mark
use Rattle.al_source.specs.declared.tokens.Mark.TheVariants as m
use Rattle.al_source.specs.declared.tokens.Key.TheVariants as key
use Rattle.al_source.specs.declared.operators.UnOp.TheVariants as u
use Rattle.al_source.specs.declared.operators.BinOp.TheVariants as b
use Rattle.al_source.specs.declared.source_tree.Expr.{Expr}
use Rattle.al_source.specs.declared.source_tree.Expr.TheVariants as e
use Rattle.al_grammar.specs.declared.operators.Joint.{Joint}
use Rattle.al_grammar.specs.declared.operators.Prefix.{Prefix}
use Rattle.al_grammar.specs.declared.operators.TheConstants.{LEVELS}
use Rattle.al_grammar.specs.Operators.{infix_of, join, prefix_of, apply}
use Rattle.al_grammar.specs.Phrases.{Tokens, Name, Takes, takes, Means, means}
use Rattle.al_grammar.specs.Expressions.{State, Sort, level, unary, postfix, primary, Reads, Arguments, More, Expression, Place}
use Rattle.al_grammar.specs.Types.{SizeOf}
use Rattle.al_grammar.specs.Expressions as g
use Rattle.al_grammar.proofs.SoundExpressions.{infix_level}
use Rattle.al_print.specs.Tokens.{Kinds, with_commas, after_commas, size_of, grouped, joined, prefixed, expression, value, values}
use Rattle.al_print.proofs.Cases.{tokens-Number, tokens-Null, tokens-Var, tokens-Unary, tokens-Binary, tokens-And, tokens-Or, tokens-Index, tokens-Dot, tokens-Arrow, tokens-Deref, tokens-Address, tokens-SizeOf, tokens-Calloc, tokens-Call}
use Rattle.al_print.proofs.Front.{Has, none, split, split3, first, only, whole}
use Rattle.al_print.proofs.Plain.{IsName, AllWritable, Orderly, orderly, orderly3, taken, left}
use Rattle.al_print.proofs.Again.{Again, given, tidied}
use Rattle.al_print.proofs.PrintedTypes.{size}

-- ---- places

-- the sort of a place of this level
abbrev pub place : ℕ → Sort
place l = cond (nat_lt l 10) (level l) (cond (nat_lt l 11) unary postfix)

loosen_at : {s s' : State} {x : Expr} (l : ℕ) (p q : Bool) → nat_lt l 9 ≡ p → nat_lt l 10 ≡ q → l ≤ 10 → Reads (place (suc l)) s x s' → Reads (place l) s x s'
loosen_at {s} {s'} {x} l true q d e le r =
    let lt : l < 9 = ltb-true _ _ d in
    let here : nat_lt l 10 ≡ true = lt-ltb _ _ (omega arith) in
    let next : nat_lt (suc l) 10 ≡ true = lt-ltb _ _ (omega arith) in
    subst (λ (c : Bool). Reads (cond c (level l) (cond (nat_lt l 11) unary postfix)) s x s') (sym here)
    (g.tighter (omega arith) (subst (λ (c : Bool). Reads (cond c (level (suc l)) (cond (nat_lt (suc l) 11) unary postfix)) s x s') next r))
loosen_at {s} {s'} {x} l false true d e le r =
    let ge : 9 ≤ l = ltb-false _ _ d in
    let lt : l < 10 = ltb-true _ _ e in
    let is : 9 ≡ l = omega arith in
    subst (λ (k : ℕ). Reads (place (suc k)) s x s' → Reads (place k) s x s') is (λ q. g.tighter (omega arith) (g.operand q)) r
loosen_at {s} {s'} {x} l false false d e le r =
    let ge : 10 ≤ l = ltb-false _ _ e in
    let is : 10 ≡ l = omega arith in
    subst (λ (k : ℕ). Reads (place (suc k)) s x s' → Reads (place k) s x s') is (λ q. g.plain q) r

loosen : {s s' : State} {x : Expr} (l : ℕ) → l ≤ 10 → Reads (place (suc l)) s x s' → Reads (place l) s x s'
loosen l le r = loosen_at l (nat_lt l 9) (nat_lt l 10) refl refl le r

-- what stands at a tighter place stands at a looser one
raise : {s s' : State} {x : Expr} (k l h : ℕ) → l + k ≡ h → h ≤ 11 → Reads (place h) s x s' → Reads (place l) s x s'
raise {s} {s'} {x} zero l h d le r = let is : h ≡ l = omega arith in subst (λ (q : ℕ). Reads (place q) s x s') is r
raise (suc k) l h d le r = loosen l (omega arith) (raise k (suc l) h (omega arith) le r)

to_level_at : {s s' : State} {x : Expr} (l : ℕ) (p : Bool) → nat_lt l 10 ≡ p → l ≤ 10 → Reads (place l) s x s' → Reads (level l) s x s'
to_level_at {s} {s'} {x} l true d le r = subst (λ (c : Bool). Reads (cond c (level l) (cond (nat_lt l 11) unary postfix)) s x s') d r
to_level_at {s} {s'} {x} l false d le r =
    let ge : 10 ≤ l = ltb-false _ _ d in
    let is : 10 ≡ l = omega arith in
    subst (λ (k : ℕ). Reads (place k) s x s' → Reads (level k) s x s') is (λ q. g.operand q) r

to_level : {s s' : State} {x : Expr} (l : ℕ) → l ≤ 10 → Reads (place l) s x s' → Reads (level l) s x s'
to_level l le r = to_level_at l (nat_lt l 10) refl le r

from_level : {s s' : State} {x : Expr} (l : ℕ) → l < 10 → Reads (level l) s x s' → Reads (place l) s x s'
from_level {s} {s'} {x} l lt r = subst (λ (c : Bool). Reads (cond c (level l) (cond (nat_lt l 11) unary postfix)) s x s') (sym (lt-ltb _ _ lt)) r

-- ---- what is printed of an expression

abbrev pub cost : Bool → ℕ
cost true = 1
cost false = 0

-- The level of an expression, its tokens without parentheses round them, and so many operators in these.
pub record Printed (x : Expr) (c : ℕ) : Type 0 where
  pub head : ℕ
  pub core : Kinds
  pub top : head ≤ 11
  pub is : (l : ℕ) → l ≤ 11 → expression x l ≡ grouped (nat_lt head l) core
  pub reads : (n k : ℕ) (vs ws : Tokens) → n ≡ c + k → Has core vs ws → Reads (place head) (n, vs) x (k, ws)
  pub tidy : Orderly false core

-- at a place of some level, with the parentheses that it needs
at_place : {x : Expr} {c : ℕ} (p : Printed x c) (l : ℕ)
    → l ≤ 11 → (b : Bool) → nat_lt p.head l ≡ b → (n k : ℕ) (vs ws : Tokens) → n ≡ (c + cost b) + k → Has (expression x l) vs ws
    → Reads (place l) (n, vs) x (k, ws)
at_place {x} {c} p l le true e n k vs ws room h =
    let (m₁, a₁, h₁) = first (given (p.is l le ∙ ap (λ (b : Bool). grouped b p.core) e) h) in
    let (m₂, h₂, h₃) = split p.core h₁ in
    let inner : Reads (level 0) (c + k, m₁) x (k, m₂) = raise p.head 0 p.head (omega arith) p.top (p.reads (c + k) k m₁ m₂ refl h₂) in
    let is : suc (c + k) ≡ n = omega arith in
    subst (λ (q : ℕ). Reads (place l) (q, vs) x (k, ws)) is (raise (11 - l) l 11 (omega arith) (omega arith) (g.bare (g.group a₁ inner (only h₃))))
at_place {x} {c} p l le false e n k vs ws room h =
    let least : l ≤ p.head = ltb-false _ _ e in
    raise (p.head - l) l p.head (omega arith) p.top
    (p.reads n k vs ws (omega arith) (whole p.core (given (p.is l le ∙ ap (λ (b : Bool). grouped b p.core) e) h)))

tidy_grouped : (b : Bool) (core : Kinds) → Orderly false core → Orderly false (grouped b core)
tidy_grouped true core h = orderly false core _ h tt
tidy_grouped false core h = orderly false core _ h tt

tidy_at : {x : Expr} {c : ℕ} (p : Printed x c) (l : ℕ) → l ≤ 11 → Orderly false (expression x l)
tidy_at p l le = tidied (p.is l le) (tidy_grouped (nat_lt p.head l) p.core p.tidy)

-- What is printed at a place of some level has no more operators than were read.
pub record Law (l : ℕ) (s : State) (x : Expr) (s' : State) : Type 0 where
  pub c : ℕ
  pub printed : Printed x c
  pub fits : (b : Bool) → nat_lt printed.head l ≡ b → (c + cost b) + s'.0 ≤ s.0
  pub rest : AllWritable s'.1

-- so many operators at a place of this level
abbrev all_of : {l : ℕ} {s : State} {x : Expr} {s' : State} → Law l s x s' → ℕ → ℕ
all_of q l = q.c + cost (nat_lt q.printed.head l)

reads_at : {l : ℕ} {s : State} {x : Expr} {s' : State} (q : Law l s x s')
    → l ≤ 11 → (n k : ℕ) (vs ws : Tokens) → n ≡ all_of q l + k → Has (expression x l) vs ws → Reads (place l) (n, vs) x (k, ws)
reads_at {l} q le n k vs ws room h = at_place q.printed l le (nat_lt q.printed.head l) refl n k vs ws room h

fits_at : {l : ℕ} {s : State} {x : Expr} {s' : State} (q : Law l s x s') → all_of q l + s'.0 ≤ s.0
fits_at {l} q = q.fits (nat_lt q.printed.head l) refl

law_looser : {l : ℕ} {s : State} {x : Expr} {s' : State} → Law (suc l) s x s' → Law l s x s'
law_looser {l} {s} {x} {s'} q = record { c = q.c; printed = q.printed; fits = fits; rest = q.rest }
  where
    by : (b : Bool) → nat_lt q.printed.head (suc l) ≡ b → q.c + 0 + s'.0 ≤ s.0
    by true d = let h = q.fits true d in omega arith
    by false d = q.fits false d

    fits : (b : Bool) → nat_lt q.printed.head l ≡ b → (q.c + cost b) + s'.0 ≤ s.0
    fits true e = let lt = ltb-true _ _ e in q.fits true (lt-ltb _ _ (omega arith))
    fits false e = by (nat_lt q.printed.head (suc l)) refl

law_group : {n k : ℕ} {ts us vs ws : Tokens} {x : Expr} → Law 0 (n, us) x (k, vs) → AllWritable ws → Law 11 (suc n, ts) x (k, ws)
law_group {n} {k} q h = record { c = q.c; printed = q.printed; fits = fits; rest = h }
  where
    fits : (b : Bool) → nat_lt q.printed.head 11 ≡ b → (q.c + cost b) + k ≤ suc n
    fits true e = let h = q.fits false (le-ltb _ _ (omega arith)) in omega arith
    fits false e = let h = q.fits false (le-ltb _ _ (omega arith)) in omega arith

-- ---- binary and unary operators

some_same : {A : Type 0} {x y : A} → Some x ≡ Some y → x ≡ y
some_same d = cc

-- a token that means the same
pub means_again : {A : Type 0} {table : TokenKind → Option A} {a : A} {k : TokenKind} {vs ws : Tokens} → table k ≡ Some a → Takes k vs ws → Means table a vs ws
means_again {table = table} d (takes is) = means (ap table is ∙ d)

record Joins (k : TokenKind) (q : ℕ × Joint) : Type 0 where
  mark : the_mark.Mark
  kind : k ≡ Mark mark
  is : (x y : Expr) (l : ℕ) → expression (join q.1 x y) l ≡ joined (q.0, mark) (expression x) (expression y) l

joins : (k : TokenKind) (q : ℕ × Joint) → infix_of k ≡ Some q → Joins k q
joins (Mark m.OrOr) q d = subst (Joins (Mark m.OrOr)) (some_same d) (record { mark = m.OrOr; kind = refl; is = tokens-Or })
joins (Mark m.AndAnd) q d = subst (Joins (Mark m.AndAnd)) (some_same d) (record { mark = m.AndAnd; kind = refl; is = tokens-And })
joins (Mark m.Pipe) q d = subst (Joins (Mark m.Pipe)) (some_same d) (record { mark = m.Pipe; kind = refl; is = tokens-Binary b.BitOr })
joins (Mark m.Caret) q d = subst (Joins (Mark m.Caret)) (some_same d) (record { mark = m.Caret; kind = refl; is = tokens-Binary b.BitXor })
joins (Mark m.Ampersand) q d = subst (Joins (Mark m.Ampersand)) (some_same d) (record { mark = m.Ampersand; kind = refl; is = tokens-Binary b.BitAnd })
joins (Mark m.EqualEqual) q d = subst (Joins (Mark m.EqualEqual)) (some_same d) (record { mark = m.EqualEqual; kind = refl; is = tokens-Binary b.Eq })
joins (Mark m.NotEqual) q d = subst (Joins (Mark m.NotEqual)) (some_same d) (record { mark = m.NotEqual; kind = refl; is = tokens-Binary b.Ne })
joins (Mark m.Less) q d = subst (Joins (Mark m.Less)) (some_same d) (record { mark = m.Less; kind = refl; is = tokens-Binary b.Lt })
joins (Mark m.LessEqual) q d = subst (Joins (Mark m.LessEqual)) (some_same d) (record { mark = m.LessEqual; kind = refl; is = tokens-Binary b.Le })
joins (Mark m.Greater) q d = subst (Joins (Mark m.Greater)) (some_same d) (record { mark = m.Greater; kind = refl; is = tokens-Binary b.Gt })
joins (Mark m.GreaterEqual) q d = subst (Joins (Mark m.GreaterEqual)) (some_same d) (record { mark = m.GreaterEqual; kind = refl; is = tokens-Binary b.Ge })
joins (Mark m.ShiftLeft) q d = subst (Joins (Mark m.ShiftLeft)) (some_same d) (record { mark = m.ShiftLeft; kind = refl; is = tokens-Binary b.Shl })
joins (Mark m.ShiftRight) q d = subst (Joins (Mark m.ShiftRight)) (some_same d) (record { mark = m.ShiftRight; kind = refl; is = tokens-Binary b.Shr })
joins (Mark m.Plus) q d = subst (Joins (Mark m.Plus)) (some_same d) (record { mark = m.Plus; kind = refl; is = tokens-Binary b.Add })
joins (Mark m.Minus) q d = subst (Joins (Mark m.Minus)) (some_same d) (record { mark = m.Minus; kind = refl; is = tokens-Binary b.Sub })
joins (Mark m.Star) q d = subst (Joins (Mark m.Star)) (some_same d) (record { mark = m.Star; kind = refl; is = tokens-Binary b.Mul })
joins (Mark m.Slash) q d = subst (Joins (Mark m.Slash)) (some_same d) (record { mark = m.Slash; kind = refl; is = tokens-Binary b.Div })
joins (Mark m.Percent) q d = subst (Joins (Mark m.Percent)) (some_same d) (record { mark = m.Percent; kind = refl; is = tokens-Binary b.Rem })
joins _ q d = absurd cc

record Prefixes (k : TokenKind) (op : Prefix) : Type 0 where
  mark : the_mark.Mark
  kind : k ≡ Mark mark
  is : (x : Expr) (l : ℕ) → expression (apply op x) l ≡ prefixed mark (expression x) l

prefixes : (k : TokenKind) (op : Prefix) → prefix_of k ≡ Some op → Prefixes k op
prefixes (Mark m.Minus) op d = subst (Prefixes (Mark m.Minus)) (some_same d) (record { mark = m.Minus; kind = refl; is = tokens-Unary u.Neg })
prefixes (Mark m.Tilde) op d = subst (Prefixes (Mark m.Tilde)) (some_same d) (record { mark = m.Tilde; kind = refl; is = tokens-Unary u.BitNot })
prefixes (Mark m.Bang) op d = subst (Prefixes (Mark m.Bang)) (some_same d) (record { mark = m.Bang; kind = refl; is = tokens-Unary u.Not })
prefixes (Mark m.Star) op d = subst (Prefixes (Mark m.Star)) (some_same d) (record { mark = m.Star; kind = refl; is = tokens-Deref })
prefixes (Mark m.Ampersand) op d = subst (Prefixes (Mark m.Ampersand)) (some_same d) (record { mark = m.Ampersand; kind = refl; is = tokens-Address })
prefixes _ op d = absurd cc

joined_fits : (a b p n k l : ℕ) → a + suc n ≤ k → b + l ≤ n → (q : Bool) → nat_lt p p ≡ q → ((a + suc b) + cost q) + l ≤ k
joined_fits a b p n k l h h' true e = absurd (let lt = ltb-true _ _ e in omega arith)
joined_fits a b p n k l h h' false e = omega arith

law_joined : {p n : ℕ} {s s' : State} {x y : Expr} {op : Joint} {k : TokenKind} {ts us : Tokens}
    → p < LEVELS → infix_of k ≡ Some (p, op) → Joins k (p, op) → Law p s x (suc n, ts) → Law (suc p) (n, us) y s' → Law p s (join op x y) s'
law_joined {p} {n} {s} {s'} {x} {y} {op} {k} lt d j a b = record {
  c = all_of a p + suc (all_of b (suc p));
  printed = record {
    head = p;
    core = expression x p ++ Mark j.mark ∷ expression y (suc p);
    top = omega arith;
    is = λ l le. j.is x y l;
    reads = λ i o vs ws room h.
        let (m₁, h₁, h₂) = split (expression x p) h in
        let (m₂, t, h₃) = first h₂ in
        from_level p lt
        (g.joined (to_level p (omega arith) (reads_at a (omega arith) i (suc (all_of b (suc p) + o)) vs m₁ (omega arith) h₁))
        (means_again (ap infix_of (sym j.kind) ∙ d) t)
        (to_level (suc p) (omega arith) (reads_at b (omega arith) (all_of b (suc p) + o) o m₂ ws refl h₃)));
    tidy = orderly false (expression x p) _ (tidy_at a.printed p (omega arith)) (tidy_at b.printed (suc p) (omega arith));
  };
  fits = joined_fits (all_of a p) (all_of b (suc p)) p n s.0 s'.0 (fits_at a) (fits_at b);
  rest = b.rest;
}

law_prefixed : {n : ℕ} {s' : State} {x : Expr} {op : Prefix} {k : TokenKind} {ts us : Tokens}
    → prefix_of k ≡ Some op → Prefixes k op → Law 10 (n, us) x s' → Law 10 (suc n, ts) (apply op x) s'
law_prefixed {n} {s'} {x} {op} {k} d j a = record {
  c = suc (all_of a 10);
  printed = record {
    head = 10;
    core = Mark j.mark ∷ expression x 10;
    top = omega arith;
    is = λ l le. j.is x l;
    reads = λ i o vs ws room h.
        let (m₁, t, h₁) = first h in
        let is : suc (all_of a 10 + o) ≡ i = omega arith in
        subst (λ (q : ℕ). Reads unary (q, vs) (apply op x) (o, ws)) is
        (g.prefixed (means_again (ap prefix_of (sym j.kind) ∙ d) t) (reads_at a (omega arith) (all_of a 10 + o) o m₁ ws refl h₁));
    tidy = tidy_at a.printed 10 (omega arith);
  };
  fits = fits;
  rest = a.rest;
}
  where
    fits : (b : Bool) → nat_lt 10 10 ≡ b → (suc (all_of a 10) + cost b) + s'.0 ≤ suc n
    fits true e = absurd cc
    fits false e = let h = fits_at a in omega arith

-- ---- postfix and primary expressions, which need no parentheses

tight_is : (core ks : Kinds) (l : ℕ) → l ≤ 11 → ks ≡ core → ks ≡ grouped (nat_lt 11 l) core
tight_is core ks l le d = d ∙ sym (append-nil core) ∙ ap (λ (b : Bool). grouped b core) (sym (le-ltb 11 l le))

record Tight (s : State) (x : Expr) (s' : State) : Type 0 where
  c : ℕ
  core : Kinds
  is : (l : ℕ) → expression x l ≡ core
  reads : (n k : ℕ) (vs ws : Tokens) → n ≡ c + k → Has core vs ws → Reads postfix (n, vs) x (k, ws)
  tidy : Orderly false core
  fits : c + s'.0 ≤ s.0
  rest : AllWritable s'.1

law_tight : {s : State} {x : Expr} {s' : State} → Tight s x s' → Law 11 s x s'
law_tight {s} {x} {s'} q = record {
  c = q.c;
  printed = record { head = 11; core = q.core; top = omega arith; is = λ l le. tight_is q.core (expression x l) l le (q.is l); reads = q.reads; tidy = q.tidy };
  fits = fits;
  rest = q.rest;
}
  where
    fits : (b : Bool) → nat_lt 11 11 ≡ b → (q.c + cost b) + s'.0 ≤ s.0
    fits true e = absurd cc
    fits false e = let h = q.fits in omega arith

law_number : {n : ℕ} {ts us : Tokens} {v : ℤ} → Takes (Number v) ts us → AllWritable ts → Law 11 (n, ts) (e.Number v) (n, us)
law_number {v = v} t h = law_tight (record {
  c = 0;
  core = Number v ∷ [];
  is = tokens-Number v;
  reads = λ i o vs ws room k. let same : o ≡ i = omega arith in subst (λ (q : ℕ). Reads postfix (q, vs) (e.Number v) (o, ws)) same (g.bare (g.number (only k)));
  tidy = (taken t h, tt);
  fits = omega arith;
  rest = left t h;
})

law_null : {n : ℕ} {ts us : Tokens} → Takes (Key key.Null) ts us → AllWritable ts → Law 11 (n, ts) e.Null (n, us)
law_null t h = law_tight (record {
  c = 0;
  core = Key key.Null ∷ [];
  is = tokens-Null;
  reads = λ i o vs ws room k. let same : o ≡ i = omega arith in subst (λ (q : ℕ). Reads postfix (q, vs) e.Null (o, ws)) same (g.bare (g.null (only k)));
  tidy = tt;
  fits = omega arith;
  rest = left t h;
})

law_variable : {n : ℕ} {ts us : Tokens} {w : Name} → Takes (Word w) ts us → AllWritable ts → Law 11 (n, ts) (e.Var w) (n, us)
law_variable {w = w} t h = law_tight (record {
  c = 0;
  core = Word w ∷ [];
  is = tokens-Var w;
  reads = λ i o vs ws room k. let same : o ≡ i = omega arith in subst (λ (q : ℕ). Reads postfix (q, vs) (e.Var w) (o, ws)) same (g.bare (g.variable (only k)));
  tidy = (taken t h, tt);
  fits = omega arith;
  rest = left t h;
})

law_size : {n : ℕ} {ts us : Tokens} {a : _} → SizeOf ts a us → AllWritable ts → Law 11 (suc n, ts) (e.SizeOf a) (n, us)
law_size {a = a} z h = let q = size z h in law_tight (record {
  c = 1;
  core = size_of a;
  is = tokens-SizeOf a;
  reads =
      λ i o vs ws room k.
      let same : suc o ≡ i = omega arith in subst (λ (q : ℕ). Reads postfix (q, vs) (e.SizeOf a) (o, ws)) same (g.bare (g.size (q.reads vs ws k)));
  tidy = q.tidy;
  fits = omega arith;
  rest = q.left;
})

law_allocation : {n k : ℕ} {x : Expr} {a : _} {t₀ t₂ t₃ t₄ t₅ t₆ : Tokens}
    → Law 0 (n, t₂) x (k, t₃) → Takes (Mark m.Comma) t₃ t₄ → SizeOf t₄ a t₅ → Takes (Mark m.RightParen) t₅ t₆ → Law 11 (suc (suc n), t₀) (e.Calloc x a) (k, t₆)
law_allocation {n} {k} {x} {a} b c z r = let q = size z (left c b.rest) in law_tight (record {
  c = suc (suc (all_of b 0));
  core = Key key.Calloc ∷ Mark m.LeftParen ∷ value x ++ Mark m.Comma ∷ size_of a ++ Mark m.RightParen ∷ [];
  is = tokens-Calloc x a;
  reads = λ i o vs ws room h.
      let (m₁, a₁, h₁) = first h in
      let (m₂, a₂, h₂) = first h₁ in
      let (m₃, m₅, h₃, h₄, h₇) = split3 (value x) (Mark m.Comma ∷ size_of a) h₂ in
      let (m₄, a₃, h₆) = first h₄ in
      let same : suc (suc (all_of b 0 + o)) ≡ i = omega arith in
      subst (λ (q : ℕ). Reads postfix (q, vs) (e.Calloc x a) (o, ws)) same
      (g.bare (g.allocation a₁ a₂ (to_level 0 (omega arith) (reads_at b (omega arith) (all_of b 0 + o) o m₂ m₃ refl h₃)) a₃ (q.reads m₄ m₅ h₆) (only h₇)));
  tidy = orderly3 (value x) (Mark m.Comma ∷ size_of a) _ (tidy_at b.printed 0 (omega arith)) q.tidy tt;
  fits = let f = fits_at b in omega arith;
  rest = left r q.left;
})

law_index : {n k : ℕ} {s : State} {x i : Expr} {ts us vs ws : Tokens}
    → Law 11 s x (suc n, ts) → Law 0 (n, us) i (k, vs) → Takes (Mark m.RightBracket) vs ws → Law 11 s (e.Index x i) (k, ws)
law_index {n} {k} {s} {x} {i} a b r = law_tight (record {
  c = all_of a 11 + suc (all_of b 0);
  core = expression x 11 ++ Mark m.LeftBracket ∷ value i ++ Mark m.RightBracket ∷ [];
  is = tokens-Index x i;
  reads = λ p o vs ws room h.
      let (m₁, m₃, h₁, h₂, h₅) = split3 (expression x 11) (Mark m.LeftBracket ∷ value i) h in
      let (m₂, a₁, h₄) = first h₂ in
      g.index (reads_at a (omega arith) p (suc (all_of b 0 + o)) vs m₁ (omega arith) h₁) a₁
      (to_level 0 (omega arith) (reads_at b (omega arith) (all_of b 0 + o) o m₂ m₃ refl h₄)) (only h₅);
  tidy = orderly3 (expression x 11) (Mark m.LeftBracket ∷ value i) _ (tidy_at a.printed 11 (omega arith)) (tidy_at b.printed 0 (omega arith)) tt;
  fits = let f = fits_at a in let h = fits_at b in omega arith;
  rest = left r b.rest;
})

law_dot : {n : ℕ} {s : State} {x : Expr} {w : Name} {ts us vs : Tokens}
    → Law 11 s x (suc n, ts) → Takes (Mark m.Dot) ts us → Takes (Word w) us vs → Law 11 s (e.Dot x w) (n, vs)
law_dot {n} {s} {x} {w} a t r = law_tight (record {
  c = all_of a 11 + 1;
  core = expression x 11 ++ Mark m.Dot ∷ Word w ∷ [];
  is = tokens-Dot x w;
  reads = λ p o vs ws room h.
      let (m₁, h₁, h₂) = split (expression x 11) h in
      let (m₂, a₁, h₃) = first h₂ in
      g.dot (reads_at a (omega arith) p (suc o) vs m₁ (omega arith) h₁) a₁ (only h₃);
  tidy = orderly false (expression x 11) _ (tidy_at a.printed 11 (omega arith)) (taken r (left t a.rest), tt);
  fits = let f = fits_at a in omega arith;
  rest = left r (left t a.rest);
})

law_arrow : {n : ℕ} {s : State} {x : Expr} {w : Name} {ts us vs : Tokens}
    → Law 11 s x (suc n, ts) → Takes (Mark m.Arrow) ts us → Takes (Word w) us vs → Law 11 s (e.Arrow x w) (n, vs)
law_arrow {n} {s} {x} {w} a t r = law_tight (record {
  c = all_of a 11 + 1;
  core = expression x 11 ++ Mark m.Arrow ∷ Word w ∷ [];
  is = tokens-Arrow x w;
  reads = λ p o vs ws room h.
      let (m₁, h₁, h₂) = split (expression x 11) h in
      let (m₂, a₁, h₃) = first h₂ in
      g.arrow (reads_at a (omega arith) p (suc o) vs m₁ (omega arith) h₁) a₁ (only h₃);
  tidy = orderly false (expression x 11) _ (tidy_at a.printed 11 (omega arith)) (taken r (left t a.rest), tt);
  fits = let f = fits_at a in omega arith;
  rest = left r (left t a.rest);
})

-- ---- arguments

-- What is printed of arguments, before the `)`.
record ArgumentsAgain (s : State) (xs : List Expr) (s' : State) : Type 0 where
  c : ℕ
  reads : (n k : ℕ) (vs ms ws : Tokens) → n ≡ c + k → Has (with_commas (values xs)) vs ms → Takes (Mark m.RightParen) ms ws → Arguments (n, vs) xs (k, ws)
  tidy : Orderly false (with_commas (values xs))
  fits : c + s'.0 ≤ s.0
  rest : AllWritable s'.1

record MoreAgain (s : State) (xs : List Expr) (s' : State) : Type 0 where
  c : ℕ
  commas : after_commas (values xs) ≡ Mark m.Comma ∷ with_commas (values xs)
  reads : (n k : ℕ) (vs ms ws : Tokens) → n ≡ c + k → Has (with_commas (values xs)) vs ms → Takes (Mark m.RightParen) ms ws → More (n, vs) xs (k, ws)
  tidy : Orderly false (with_commas (values xs))
  fits : c + s'.0 ≤ s.0
  rest : AllWritable s'.1

no_arguments : {n k : ℕ} {vs ms ws : Tokens} → n ≡ 0 + k → Has [] vs ms → Takes (Mark m.RightParen) ms ws → Arguments (n, vs) [] (k, ws)
no_arguments {n} {k} {vs} {ms} {ws} room none t = let same : k ≡ n = omega arith in subst (λ (q : ℕ). Arguments (q, ms) [] (k, ws)) same (g.none t)

last_again : {k : ℕ} {s : State} {x : Expr} {ts us : Tokens} → Law 0 s x (k, ts) → Takes (Mark m.RightParen) ts us → MoreAgain s (x ∷ []) (k, us)
last_again {x = x} a t = record {
  c = all_of a 0;
  commas = refl;
  reads = λ n k vs ms ws room h r. g.last (to_level 0 (omega arith) (reads_at a (omega arith) n k vs ms room (whole (value x) h))) r;
  tidy = orderly false (value x) _ (tidy_at a.printed 0 (omega arith)) tt;
  fits = fits_at a;
  rest = left t a.rest;
}

more_again : {k : ℕ} {s s' : State} {x : Expr} {xs : List Expr} {ts us : Tokens} → Law 0 s x (k, ts) → MoreAgain (k, us) xs s' → MoreAgain s (x ∷ xs) s'
more_again {x = x} a b = record {
  c = all_of a 0 + b.c;
  commas = refl;
  reads = λ n k vs ms ws room h r.
      let (m₁, h₁, h₂) = split (value x) h in
      let (m₂, a₁, h₃) = first (given b.commas h₂) in
      g.more (to_level 0 (omega arith) (reads_at a (omega arith) n (b.c + k) vs m₁ (omega arith) h₁)) a₁ (b.reads (b.c + k) k m₂ ms ws refl h₃ r);
  tidy = orderly false (value x) _ (tidy_at a.printed 0 (omega arith)) (tidied b.commas b.tidy);
  fits = let f = fits_at a in let h = b.fits in omega arith;
  rest = b.rest;
}

law_call : {n : ℕ} {w : Name} {xs : List Expr} {s' : State} {ts vs : Tokens} → IsName w → ArgumentsAgain (n, vs) xs s' → Law 11 (suc n, ts) (e.Call w xs) s'
law_call {n} {w} {xs} {s'} named a = law_tight (record {
  c = suc a.c;
  core = Word w ∷ Mark m.LeftParen ∷ with_commas (values xs) ++ Mark m.RightParen ∷ [];
  is = tokens-Call w xs;
  reads = λ i o vs ws room h.
      let (m₁, a₁, h₁) = first h in
      let (m₂, a₂, h₂) = first h₁ in
      let (m₃, h₃, h₄) = split (with_commas (values xs)) h₂ in
      let same : suc (a.c + o) ≡ i = omega arith in
      subst (λ (q : ℕ). Reads postfix (q, vs) (e.Call w xs) (o, ws)) same (g.bare (g.call a₁ a₂ (a.reads (a.c + o) o m₂ m₃ ws refl h₃ (only h₄))));
  tidy = (named, orderly false (with_commas (values xs)) _ a.tidy tt);
  fits = let f = a.fits in omega arith;
  rest = a.rest;
})

-- ---- all expressions

abbrev place_of : Sort → ℕ
place_of (level p) = p
place_of unary = 10
place_of postfix = 11
place_of primary = 11

pub means_left : {A : Type 0} {table : TokenKind → Option A} {a : A} {ts us : Tokens} → Means table a ts us → AllWritable ts → AllWritable us
means_left (means d) h = h.1

pub record Found {A : Type 0} (table : TokenKind → Option A) (a : A) : Type 0 where
  pub kind : TokenKind
  pub is : table kind ≡ Some a

pub found : {A : Type 0} {table : TokenKind → Option A} {a : A} {ts us : Tokens} → Means table a ts us → Found table a
found (means {t = t} d) = record { kind = t.kind; is = d }

mutual
  pub law : {j : Sort} {s s' : State} {x : Expr} → Reads j s x s' → AllWritable s.1 → Law (place_of j) s x s'
  law (g.joined {p = p} {op = op} r t q) h =
      let a = law r h in
      let f = found t in
      law_joined (infix_level f.kind p op f.is) f.is (joins f.kind (p, op) f.is) a (law q (means_left t a.rest))
  law (g.tighter lt r) h = law_looser (law r h)
  law (g.operand r) h = law r h
  law (g.prefixed {op = op} t r) h = let f = found t in law_prefixed f.is (prefixes f.kind op f.is) (law r (means_left t h))
  law (g.plain r) h = law_looser (law r h)
  law (g.index r t q u) h = let a = law r h in law_index a (law q (left t a.rest)) u
  law (g.dot r t u) h = law_dot (law r h) t u
  law (g.arrow r t u) h = law_arrow (law r h) t u
  law (g.bare r) h = law r h
  law (g.number t) h = law_number t h
  law (g.null t) h = law_null t h
  law (g.variable t) h = law_variable t h
  law (g.call t u r) h = law_call (taken t h) (law_arguments r (left u (left t h)))
  law (g.group t r u) h = let a = law r (left t h) in law_group a (left u a.rest)
  law (g.size z) h = law_size z h
  law (g.allocation t u r c z v) h = law_allocation (law r (left u (left t h))) c z v

  law_arguments : {s s' : State} {xs : List Expr} → Arguments s xs s' → AllWritable s.1 → ArgumentsAgain s xs s'
  law_arguments (g.none t) h = record { c = 0; reads = λ n k vs ms ws room i r. no_arguments room i r; tidy = tt; fits = omega arith; rest = left t h }
  law_arguments (g.some r) h =
      let q = law_more r h in
      record { c = q.c; reads = λ n k vs ms ws room i t. g.some (q.reads n k vs ms ws room i t); tidy = q.tidy; fits = q.fits; rest = q.rest }

  law_more : {s s' : State} {xs : List Expr} → More s xs s' → AllWritable s.1 → MoreAgain s xs s'
  law_more (g.last r t) h = last_again (law r h) t
  law_more (g.more r t q) h = let a = law r h in more_again a (law_more q (left t a.rest))

-- ---- whole expressions and places

pub whole_expression : {ts us : Tokens} {x : Expr} → Expression ts x us → AllWritable ts → Again (λ vs ws. Expression vs x ws) (value x) us
whole_expression {x = x} q h =
    let a = law q.reads h in
    let f = fits_at a in
    record {
      reads =
          λ vs ws k.
          record { left = 128 - all_of a 0; reads = to_level 0 (omega arith) (reads_at a (omega arith) 128 (128 - all_of a 0) vs ws (omega arith) k) };
      tidy = tidy_at a.printed 0 (omega arith);
      left = a.rest;
    }

pub place_again : {ts us : Tokens} {x : Expr} → Place ts x us → AllWritable ts → Again (λ vs ws. Place vs x ws) (expression x 10) us
place_again {x = x} q h =
    let a = law q.reads h in
    let f = fits_at a in
    record {
      reads = λ vs ws k. record { left = 128 - all_of a 10; reads = reads_at a (omega arith) 128 (128 - all_of a 10) vs ws (omega arith) k };
      tidy = tidy_at a.printed 10 (omega arith);
      left = a.rest;
    }

pub literal : {v : ℤ} {vs ws : Tokens} → Takes (Number v) vs ws → Expression vs (e.Number v) ws
literal t = record { left = 128; reads = to_level 0 (omega arith) (raise 11 0 11 (omega arith) (omega arith) (g.bare (g.number t))) }
