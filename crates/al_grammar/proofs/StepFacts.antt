-- The small steps of the parser: what each takes, and the loops.
use Rattle.std.proofs.Common.{◌≡◌, ℕ, zero, suc, ◌<◌, Bool, true, false, [], ◌∷◌, length, Option, Some, None, Result, Ok, Err, refl, ap, subst, ◌∙◌, arith}
use denote.Enum.Bare.{same_true}
use Rattle.al_source.specs.contracts.tokens.Mark.{the_type}
use Rattle.al_source.specs.contracts.tokens.Key as the_key_type
use Rattle.al_source.specs.declared.tokens.TokenKind.{TokenKind}
use Rattle.al_source.specs.declared.tokens.TokenKind.TheVariants.{Word, Key, Mark}
use Rattle.al_source.specs.declared.tokens.Mark as the_mark
use Rattle.al_source.specs.declared.tokens.Mark.TheVariants as m
use Rattle.al_source.specs.declared.tokens.Key as the_key
use Rattle.al_source.specs.declared.tokens.Key.TheVariants as key
use Rattle.al_grammar.specs.Phrases.{Tokens, Name, Takes, takes, Means, means}
use Rattle.al_source.specs.Steps.{bind}
use Rattle.al_grammar.specs.Steps.{Read, Step, kind_at, mark_in, mark_at, key_in, key_at, meaning_at, tail, same_mark, same_key, is_mark_in, is_mark, is_key_in, is_key, expect_by, expect, expect_key, word_by, word, after_turn, loop, repeat}

-- what a step begins with, where it gives an answer
pub bind_ok : {A B S F : Type 0} {y : B × S} → (r : Result (A × S) F) (k : A → S → Result (B × S) F) → bind r k ≡ Ok y
    → (p : A × S) × (r ≡ Ok p) × (k p.0 p.1 ≡ Ok y)
bind_ok (Ok p) k e = (p, refl, e)
bind_ok (Err d) k e = cc

pub yields : {A : Type 0} (P : A × Tokens → Type 0) (x p : A × Tokens) → P x → ◌≡◌ {A = Read A} (Ok x) (Ok p) → P p
yields P x p h d = let same : x ≡ p = cc in subst P same h

pub some_same : {A : Type 0} {x y : A} → Some x ≡ Some y → x ≡ y
some_same d = cc

-- ---- one token

pub takes_kind : {k : TokenKind} {ts us : Tokens} → Takes k ts us → kind_at ts ≡ Some k
takes_kind (takes d) = ap Some d

pub takes_tail : {k : TokenKind} {ts us : Tokens} → Takes k ts us → tail ts ≡ us
takes_tail (takes d) = refl

pub takes_shorter : {k : TokenKind} {ts us : Tokens} → Takes k ts us → length us < length ts
takes_shorter (takes d) = omega arith

pub kind_takes : {k : TokenKind} (ts : Tokens) → kind_at ts ≡ Some k → Takes k ts (tail ts)
kind_takes [] d = absurd cc
kind_takes (t ∷ ts) d = takes cc

pub mark_takes : {c : the_mark.Mark} (ts : Tokens) → mark_at ts ≡ Some c → Takes (Mark c) ts (tail ts)
mark_takes [] d = absurd cc
mark_takes {c} (t ∷ ts) d = by t.kind refl d
  where
    by : (q : TokenKind) → t.kind ≡ q → mark_in (Some q) ≡ Some c → Takes (Mark c) (t ∷ ts) ts
    by (Mark q) d e = takes (d ∙ ap Mark (some_same e))
    by _ d e = absurd cc

pub key_takes : {c : the_key.Key} (ts : Tokens) → key_at ts ≡ Some c → Takes (Key c) ts (tail ts)
key_takes [] d = absurd cc
key_takes {c} (t ∷ ts) d = by t.kind refl d
  where
    by : (q : TokenKind) → t.kind ≡ q → key_in (Some q) ≡ Some c → Takes (Key c) (t ∷ ts) ts
    by (Key q) d e = takes (d ∙ ap Key (some_same e))
    by _ d e = absurd cc

pub means_at : {A : Type 0} {table : TokenKind → Option A} {a : A} {ts us : Tokens} → Means table a ts us → meaning_at table ts ≡ Some a
means_at (means d) = d

pub means_tail : {A : Type 0} {table : TokenKind → Option A} {a : A} {ts us : Tokens} → Means table a ts us → tail ts ≡ us
means_tail (means d) = refl

pub means_shorter : {A : Type 0} {table : TokenKind → Option A} {a : A} {ts us : Tokens} → Means table a ts us → length us < length ts
means_shorter (means d) = omega arith

pub at_means : {A : Type 0} {table : TokenKind → Option A} {a : A} (ts : Tokens) → meaning_at table ts ≡ Some a → Means table a ts (tail ts)
at_means [] d = absurd cc
at_means (t ∷ ts) d = means d

-- ---- marks and reserved words

pub same_mark_refl : (k : the_mark.Mark) → same_mark k k ≡ true
unfolding same_mark
same_mark_refl m.LeftParen = refl
same_mark_refl _ = refl

pub same_key_refl : (k : the_key.Key) → same_key k k ≡ true
unfolding same_key
same_key_refl key.Auto = refl
same_key_refl _ = refl

pub takes_is_mark : {k : the_mark.Mark} {ts us : Tokens} → Takes (Mark k) ts us → is_mark k ts ≡ true
takes_is_mark {k} t = ap (λ c. is_mark_in k (mark_in c)) (takes_kind t) ∙ same_mark_refl k

pub takes_is_key : {k : the_key.Key} {ts us : Tokens} → Takes (Key k) ts us → is_key k ts ≡ true
takes_is_key {k} t = ap (λ c. is_key_in k (key_in c)) (takes_kind t) ∙ same_key_refl k

pub is_mark_takes : (k : the_mark.Mark) (ts : Tokens) → is_mark k ts ≡ true → Takes (Mark k) ts (tail ts)
unfolding same_mark
is_mark_takes k ts e = by (mark_at ts) refl e
  where
    by : (c : Option the_mark.Mark) → mark_at ts ≡ c → is_mark_in k c ≡ true → Takes (Mark k) ts (tail ts)
    by None d e = absurd cc
    by (Some c) d e = mark_takes ts (d ∙ ap Some (same_true the_type tt c k e))

pub is_key_takes : (k : the_key.Key) (ts : Tokens) → is_key k ts ≡ true → Takes (Key k) ts (tail ts)
unfolding same_key
is_key_takes k ts e = by (key_at ts) refl e
  where
    by : (c : Option the_key.Key) → key_at ts ≡ c → is_key_in k c ≡ true → Takes (Key k) ts (tail ts)
    by None d e = absurd cc
    by (Some c) d e = key_takes ts (d ∙ ap Some (same_true the_key_type.the_type tt c k e))

expect_by_is : {b : Bool} {us : Tokens} (ts : Tokens) → b ≡ true → tail ts ≡ us → expect_by b ts ≡ Ok (tt, us)
expect_by_is ts e d = rw (e, d) refl

pub takes_expect : {k : the_mark.Mark} {ts us : Tokens} → Takes (Mark k) ts us → expect k ts ≡ Ok (tt, us)
takes_expect {ts = ts} t = expect_by_is ts (takes_is_mark t) (takes_tail t)

pub takes_expect_key : {k : the_key.Key} {ts us : Tokens} → Takes (Key k) ts us → expect_key k ts ≡ Ok (tt, us)
takes_expect_key {ts = ts} t = expect_by_is ts (takes_is_key t) (takes_tail t)

expected : (b : Bool) (ts : Tokens) (p : Unit {0} × Tokens) → expect_by b ts ≡ Ok p → (b ≡ true) × (tail ts ≡ p.1)
expected true ts p e = (refl, ap (λ q. q.1) (let same : ◌≡◌ {A = Unit {0} × Tokens} (tt, tail ts) p = cc in same))
expected false ts p e = absurd cc

pub expect_takes : (k : the_mark.Mark) (ts : Tokens) (p : Unit {0} × Tokens) → expect k ts ≡ Ok p → Takes (Mark k) ts p.1
expect_takes k ts p e = let (is, after) = expected (is_mark k ts) ts p e in subst (Takes (Mark k) ts) after (is_mark_takes k ts is)

pub expect_key_takes : (k : the_key.Key) (ts : Tokens) (p : Unit {0} × Tokens) → expect_key k ts ≡ Ok p → Takes (Key k) ts p.1
expect_key_takes k ts p e = let (is, after) = expected (is_key k ts) ts p e in subst (Takes (Key k) ts) after (is_key_takes k ts is)

pub takes_word : {w : Name} {ts us : Tokens} → Takes (Word w) ts us → word ts ≡ Ok (w, us)
takes_word (takes {t = t} {ts = ts} d) = ap (λ c. word_by (Some c) (t ∷ ts)) d

pub word_takes : (ts : Tokens) (p : Name × Tokens) → word ts ≡ Ok p → Takes (Word p.0) ts p.1
word_takes [] p e = absurd cc
word_takes (t ∷ ts) p e = by t.kind refl e
  where
    by : (c : TokenKind) → t.kind ≡ c → word_by (Some c) (t ∷ ts) ≡ Ok p → Takes (Word p.0) (t ∷ ts) p.1
    by (Word w) d e = yields (λ (q : Name × Tokens). Takes (Word q.0) (t ∷ ts) q.1) (w, ts) p (takes d) e
    by _ d e = absurd cc

-- ---- loops

module _ {A : Type 0} (turn : A → Step (A × Bool)) (takes_one : (a b : A) (ts us : Tokens) → turn a ts ≡ Ok ((b, false), us) → length us < length ts) where
  pub stable : (f f' : ℕ) (a : A) (ts : Tokens) → length ts < f → length ts < f' → loop turn f a ts ≡ loop turn f' a ts
  unfolding loop
  stable zero f' a ts h h' = absurd (omega arith)
  stable (suc f) zero a ts h h' = absurd (omega arith)
  stable (suc f) (suc f') a ts h h' = by (turn a ts) refl (λ b us lt. stable f f' b us (omega arith) (omega arith))
    where
      by : (o : Read (A × Bool))
          → turn a ts ≡ o → ((b : A) (us : Tokens) → length us < length ts → loop turn f b us ≡ loop turn f' b us)
          → bind o (λ r. after_turn (loop turn f) r.0 r.1) ≡ bind o (λ r. after_turn (loop turn f') r.0 r.1)
      by (Err e) d ih = refl
      by (Ok ((b, true), us)) d ih = refl
      by (Ok ((b, false), us)) d ih = ih b us (takes_one a b ts us d)

  pub repeat_last : (a b : A) (ts us : Tokens) → turn a ts ≡ Ok ((b, true), us) → repeat turn a ts ≡ Ok (b, us)
  unfolding loop repeat
  repeat_last a b ts us d = ap (λ o. bind o (λ r. after_turn (loop turn (length ts)) r.0 r.1)) d

  pub repeat_next : (a b : A) (ts us : Tokens) → turn a ts ≡ Ok ((b, false), us) → repeat turn a ts ≡ repeat turn b us
  unfolding loop repeat
  repeat_next a b ts us d = let lt = takes_one a b ts us d in
      ap (λ o. bind o (λ r. after_turn (loop turn (length ts)) r.0 r.1)) d ∙ stable (length ts) (suc (length us)) b us (omega arith) (omega arith)

  repeat_err : (a : A) (ts us : Tokens) → turn a ts ≡ Err us → repeat turn a ts ≡ Err us
  unfolding loop repeat
  repeat_err a ts us d = ap (λ o. bind o (λ r. after_turn (loop turn (length ts)) r.0 r.1)) d

  pub repeat_is : (a : A) (ts : Tokens) → repeat turn a ts ≡ bind (turn a ts) (λ r. after_turn (repeat turn) r.0 r.1)
  repeat_is a ts = by (turn a ts) refl
    where
      by : (o : Read (A × Bool)) → turn a ts ≡ o → repeat turn a ts ≡ bind o (λ r. after_turn (repeat turn) r.0 r.1)
      by (Err e) d = repeat_err a ts e d
      by (Ok ((b, true), us)) d = repeat_last a b ts us d
      by (Ok ((b, false), us)) d = repeat_next a b ts us d

-- What each turn keeps, the whole loop keeps.
module _ {A : Type 0} (turn : A → Step (A × Bool)) (Q : A → Tokens → A → Tokens → Type 0)
    (stop : (a b : A) (ts us : Tokens) → turn a ts ≡ Ok ((b, true), us) → Q a ts b us)
    (next : (a b c : A) (ts us vs : Tokens) → turn a ts ≡ Ok ((b, false), us) → Q b us c vs → Q a ts c vs) where
  one_turn : (f : ℕ) (a : A) (ts : Tokens) (p : A × Tokens) → ((b : A) (us : Tokens) → loop turn f b us ≡ Ok p → Q b us p.0 p.1)
      → (b : A) (c : Bool) (us : Tokens) → turn a ts ≡ Ok ((b, c), us) → after_turn (loop turn f) b c us ≡ Ok p → Q a ts p.0 p.1
  one_turn f a ts p ih b true us d e = let same : ◌≡◌ {A = A × Tokens} (b, us) p = cc in subst (λ (p : A × Tokens). Q a ts p.0 p.1) same (stop a b ts us d)
  one_turn f a ts p ih b false us d e = next a b p.0 ts us p.1 d (ih b us e)

  loop_keeps : (f : ℕ) (a : A) (ts : Tokens) (p : A × Tokens) → loop turn f a ts ≡ Ok p → Q a ts p.0 p.1
  unfolding loop
  loop_keeps zero a ts p e = absurd cc
  loop_keeps (suc f) a ts p e =
      let (q, dq, dk) = bind_ok (turn a ts) (λ r. after_turn (loop turn f) r.0 r.1) e in
      one_turn f a ts p (λ b us h. loop_keeps f b us p h) q.0.0 q.0.1 q.1 dq dk

  pub repeat_keeps : (a : A) (ts : Tokens) (p : A × Tokens) → repeat turn a ts ≡ Ok p → Q a ts p.0 p.1
  unfolding repeat
  repeat_keeps a ts p e = loop_keeps (suc (length ts)) a ts p e
