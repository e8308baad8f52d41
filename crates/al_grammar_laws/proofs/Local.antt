-- Reading looks at no token behind the one at which it stops. Two lists that are the same up to a token and with it are
-- read alike as long as that token is not passed.
use Rattle.std.proofs.Common.{◌≡◌, ℕ, zero, suc, ◌+◌, ◌<◌, ◌≤◌, Bool, true, false, [], ◌∷◌, length, Option, Some, None, Result, Ok, Err, refl, sym, ap, subst, ◌∙◌, arith}
use Rattle.std.specs.Prelude.{◌&&◌}
use denote.Enum.Bare.{same_true}
use Rattle.al_source.specs.contracts.tokens.Mark.{the_type}
use Rattle.al_source.specs.declared.tokens.Token.{Token}
use Rattle.al_source.specs.declared.tokens.TokenKind.{TokenKind}
use Rattle.al_source.specs.declared.tokens.TokenKind.TheVariants.{Key, Mark}
use Rattle.al_source.specs.declared.tokens.Mark as the_mark
use Rattle.al_source.specs.declared.tokens.Mark.TheVariants as m
use Rattle.al_source.specs.declared.tokens.Key as the_key
use Rattle.al_source.specs.Steps.{bind, pure}
use Rattle.al_grammar.specs.Phrases.{Tokens, line_at}
use Rattle.al_grammar.specs.Expressions.{State}
use Rattle.al_grammar.specs.Steps.{Read, Step, ◌>>=◌, kind_at, mark_in, mark_at, key_in, key_at, meaning_in, meaning_at, tail, skip, same_mark, is_mark_in, is_mark, is_key_in, is_key, after_turn, loop, repeat}
use Rattle.al_grammar.specs.ExpressionParser.{keep, lift, spend_by, spend, spend_two_by, spend_two}
use Rattle.al_grammar.proofs.StepFacts.{stable}

-- ---- ends of a list

pub data Ends : Tokens → Tokens → Type 0 where
  whole : {ts : Tokens} → Ends ts ts
  after : {t : Token} {ts us : Tokens} → Ends ts us → Ends (t ∷ ts) us

pub ends_end : {ts us vs : Tokens} → Ends ts us → Ends us vs → Ends ts vs
ends_end whole f = f
ends_end (after e) f = after (ends_end e f)

pub ends_length : {ts us : Tokens} → Ends ts us → length us ≤ length ts
ends_length whole = omega arith
ends_length (after e) = let h = ends_length e in omega arith

pub ends_tail : (ts : Tokens) → Ends ts (tail ts)
ends_tail [] = whole
ends_tail (t ∷ ts) = after whole

-- ---- tokens that no expression has: those that make a statement of a place

abbrev pub is_plain : TokenKind → Bool
is_plain (Mark m.Assign) = false
is_plain (Mark m.PlusAssign) = false
is_plain (Mark m.MinusAssign) = false
is_plain (Mark m.StarAssign) = false
is_plain (Mark m.SlashAssign) = false
is_plain (Mark m.PercentAssign) = false
is_plain (Mark m.AmpersandAssign) = false
is_plain (Mark m.PipeAssign) = false
is_plain (Mark m.CaretAssign) = false
is_plain (Mark m.ShiftLeftAssign) = false
is_plain (Mark m.ShiftRightAssign) = false
is_plain (Mark m.Increment) = false
is_plain (Mark m.Decrement) = false
is_plain _ = true

abbrev pub plain_kind : Option TokenKind → Bool
plain_kind (Some k) = is_plain k
plain_kind None = false

abbrev pub plain_mark : Option the_mark.Mark → Bool
plain_mark (Some k) = is_plain (Mark k)
plain_mark None = false

abbrev pub is_some : {A : Type 0} → Option A → Bool
is_some (Some a) = true
is_some None = false

-- ---- two lists that are the same up to a token

-- The token, what follows it in either list, and whether it may be passed. What is plain may.
pub record Cut : Type 1 where
  pub token : Token
  pub rest : Tokens
  pub other : Tokens
  pub Passed : Type 0
  pub plain : is_plain token.kind ≡ true → Passed

pub data Alike (c : Cut) : Tokens → Tokens → Type 0 where
  here : Alike c (c.token ∷ c.rest) (c.token ∷ c.other)
  there : {t : Token} {r r' : Tokens} → Alike c r r' → Alike c (t ∷ r) (t ∷ r')

-- What a step reads in: tokens, or tokens with the operators that may still come.
pub record View (S : Type 0) : Type 0 where
  pub tokens : S → Tokens
  pub room : S → ℕ

abbrev pub bare : View Tokens
bare = record { tokens = λ ts. ts; room = λ _. 0 }

abbrev pub counted : View State
counted = record { tokens = λ s. s.1; room = λ s. s.0 }

abbrev pub left : {A S : Type 0} → View S → Result (A × S) Tokens → Tokens
left v (Ok p) = v.tokens p.1
left v (Err r) = r

-- The same was read, and the token is still ahead; or both stopped at the same token, at that one or before it; or
-- both passed it.
pub data Both (c : Cut) {A S : Type 0} (v : View S) : Result (A × S) Tokens → Result (A × S) Tokens → Type 0 where
  reads : (a : A) {s s' : S} → v.room s ≡ v.room s' → Alike c (v.tokens s) (v.tokens s') → Both c v (Ok (a, s)) (Ok (a, s'))
  stops : {r r' : Tokens} → Alike c r r' → Both c v (Err r) (Err r')
  past : {o o' : Result (A × S) Tokens}
      → c.Passed → length (left v o) ≤ length c.rest → length (left v o') ≤ length c.other → Both c v o o'

-- Where b is true, the step is taken before a plain token alone.
pub record Local (c : Cut) {A S : Type 0} (v : View S) (b : Bool) (f : S → Result (A × S) Tokens) : Type 0 where
  pub ends : (s : S) → Ends (v.tokens s) (left v (f s))
  pub both : (s s' : S) → (b ≡ true → plain_kind (kind_at (v.tokens s)) ≡ true) → v.room s ≡ v.room s'
      → Alike c (v.tokens s) (v.tokens s') → Both c v (f s) (f s')

-- ---- how steps are put together

ends_bind : {A B S : Type 0} (v : View S) (ts : Tokens) (o : Result (A × S) Tokens) (k : A → S → Result (B × S) Tokens)
    → Ends ts (left v o) → ((a : A) (s : S) → Ends (v.tokens s) (left v (k a s))) → Ends ts (left v (bind o k))
ends_bind v ts (Ok p) k e h = ends_end e (h p.0 p.1)
ends_bind v ts (Err r) k e h = e

left_bind : {A B S : Type 0} (v : View S) (o : Result (A × S) Tokens) (k : A → S → Result (B × S) Tokens)
    → ((a : A) (s : S) → Ends (v.tokens s) (left v (k a s))) → length (left v (bind o k)) ≤ length (left v o)
left_bind v (Ok p) k h = ends_length (h p.0 p.1)
left_bind v (Err r) k h = omega arith

module _ {c : Cut} {S : Type 0} {v : View S} where
  pub anywhere : {A : Type 0} {b : Bool} {f : S → Result (A × S) Tokens} → Local c v false f → Local c v b f
  anywhere l = record { ends = l.ends; both = λ s s' h r a. l.both s s' (λ e. absurd cc) r a }

  both_bind : {A B : Type 0} {o o' : Result (A × S) Tokens} (k : A → S → Result (B × S) Tokens)
      → Both c v o o' → ((a : A) → Local c v false (k a)) → Both c v (bind o k) (bind o' k)
  both_bind k (reads a {s = s} {s' = s'} r w) h = (h a).both s s' (λ e. absurd cc) r w
  both_bind k (stops w) h = stops w
  both_bind k (past {o = o} {o' = o'} p le le') h =
      let one = left_bind v o k (λ a s. (h a).ends s) in let two = left_bind v o' k (λ a s. (h a).ends s) in past p (omega arith) (omega arith)

  pub binds : {A B : Type 0} {b : Bool} {f : S → Result (A × S) Tokens} {k : A → S → Result (B × S) Tokens}
      → Local c v b f → ((a : A) → Local c v false (k a)) → Local c v b (f >>= k)
  binds {f = f} {k = k} l h = record {
    ends = λ s. ends_bind v (v.tokens s) (f s) k (l.ends s) (λ a t. (h a).ends t);
    both = λ s s' p r w. both_bind k (l.both s s' p r w) h;
  }

  pub pures : {A : Type 0} {b : Bool} (a : A) → Local c v b (pure a)
  pures a = record { ends = λ s. whole; both = λ s s' p r w. reads a r w }

  pub refuses : {A : Type 0} {b : Bool} → Local c {A = A} {S = S} v b (λ s. Err (v.tokens s))
  refuses = record { ends = λ s. whole; both = λ s s' p r w. stops w }

-- ---- what decides

pub alike_kind : {c : Cut} {r r' : Tokens} → Alike c r r' → kind_at r ≡ kind_at r'
alike_kind here = refl
alike_kind (there w) = refl

alike_line : {c : Cut} {r r' : Tokens} → Alike c r r' → line_at r ≡ line_at r'
alike_line here = refl
alike_line (there w) = refl

plain_of_mark : (k : Option TokenKind) → plain_mark (mark_in k) ≡ true → plain_kind k ≡ true
plain_of_mark None d = d
plain_of_mark (Some (Mark q)) d = d
plain_of_mark (Some _) d = absurd cc

plain_of_key : (k : Option TokenKind) → is_some (key_in k) ≡ true → plain_kind k ≡ true
plain_of_key None d = d
plain_of_key (Some (Key q)) d = refl
plain_of_key (Some _) d = absurd cc

plain_of_same : (m : the_mark.Mark) (k : Option TokenKind) → (is_mark_in m (mark_in k) && is_plain (Mark m)) ≡ true → plain_kind k ≡ true
unfolding same_mark
plain_of_same m None d = d
plain_of_same m (Some (Mark q)) d = by (same_mark q m) refl d
  where
    by : (x : Bool) → same_mark q m ≡ x → (x && is_plain (Mark m)) ≡ true → is_plain (Mark q) ≡ true
    by true e d = subst (λ k. is_plain (Mark k) ≡ true) (sym (same_true the_type tt q m e)) d
    by false e d = absurd cc
plain_of_same m (Some _) d = absurd cc

plain_of_same_key : (m : the_key.Key) (k : Option TokenKind) → is_key_in m (key_in k) ≡ true → plain_kind k ≡ true
plain_of_same_key m None d = d
plain_of_same_key m (Some (Key q)) d = refl
plain_of_same_key m (Some _) d = absurd cc

module _ {c : Cut} {S : Type 0} {v : View S} where
  -- the kind of the next token
  pub looks : {A : Type 0} {b : Bool} (F : Option TokenKind → S → Result (A × S) Tokens)
      → ((k : Option TokenKind) → Local c v (plain_kind k) (F k)) → Local c v b (λ s. F (kind_at (v.tokens s)) s)
  looks F h = record {
    ends = λ s. (h (kind_at (v.tokens s))).ends s;
    both = λ s s' p r w.
        subst (λ k. Both c v (F (kind_at (v.tokens s)) s) (F k s')) (alike_kind w) ((h (kind_at (v.tokens s))).both s s' (λ e. e) r w);
  }

  -- its line
  pub looks_line : {A : Type 0} {b : Bool} (F : ℕ → S → Result (A × S) Tokens)
      → ((n : ℕ) → Local c v b (F n)) → Local c v b (λ s. F (line_at (v.tokens s)) s)
  looks_line F h = record {
    ends = λ s. (h (line_at (v.tokens s))).ends s;
    both = λ s s' p r w.
        subst (λ k. Both c v (F (line_at (v.tokens s)) s) (F k s')) (alike_line w) ((h (line_at (v.tokens s))).both s s' p r w);
  }

module _ {c : Cut} {S : Type 0} {v : View S} where
  weaker : {A : Type 0} {a b : Bool} {f : S → Result (A × S) Tokens} → (a ≡ true → b ≡ true) → Local c v a f → Local c v b f
  weaker h l = record { ends = l.ends; both = λ s s' p r w. l.both s s' (λ e. p (h e)) r w }

  pub looks_mark : {A : Type 0} {b : Bool} (F : Option the_mark.Mark → S → Result (A × S) Tokens)
      → ((k : Option the_mark.Mark) → Local c v (plain_mark k) (F k)) → Local c v b (λ s. F (mark_at (v.tokens s)) s)
  looks_mark F h = looks (λ k. F (mark_in k)) (λ k. weaker (plain_of_mark k) (h (mark_in k)))

  pub looks_key : {A : Type 0} {b : Bool} (F : Option the_key.Key → S → Result (A × S) Tokens)
      → ((k : Option the_key.Key) → Local c v (is_some k) (F k)) → Local c v b (λ s. F (key_at (v.tokens s)) s)
  looks_key F h = looks (λ k. F (key_in k)) (λ k. weaker (plain_of_key k) (h (key_in k)))

  -- where any token may be passed
  pub looks_any : {A : Type 0} {b : Bool} (F : Option TokenKind → S → Result (A × S) Tokens)
      → ((k : Option TokenKind) → Local c v false (F k)) → Local c v b (λ s. F (kind_at (v.tokens s)) s)
  looks_any F h = looks F (λ k. anywhere (h k))

  pub looks_table : {A M : Type 0} {b : Bool} (table : TokenKind → Option M) (F : Option M → S → Result (A × S) Tokens)
      → ((k : Option TokenKind) → is_some (meaning_in table k) ≡ true → plain_kind k ≡ true)
      → ((m : Option M) → Local c v (is_some m) (F m)) → Local c v b (λ s. F (meaning_at table (v.tokens s)) s)
  looks_table table F g h = looks (λ k. F (meaning_in table k)) (λ k. weaker (g k) (h (meaning_in table k)))

  pub looks_is_mark : {A : Type 0} {b : Bool} (m : the_mark.Mark) (F : Bool → S → Result (A × S) Tokens)
      → ((x : Bool) → Local c v (x && is_plain (Mark m)) (F x)) → Local c v b (λ s. F (is_mark m (v.tokens s)) s)
  looks_is_mark m F h = looks (λ k. F (is_mark_in m (mark_in k))) (λ k. weaker (plain_of_same m k) (h (is_mark_in m (mark_in k))))

  pub looks_is_key : {A : Type 0} {b : Bool} (m : the_key.Key) (F : Bool → S → Result (A × S) Tokens)
      → ((x : Bool) → Local c v x (F x)) → Local c v b (λ s. F (is_key m (v.tokens s)) s)
  looks_is_key m F h = looks (λ k. F (is_key_in m (key_in k))) (λ k. weaker (plain_of_same_key m k) (h (is_key_in m (key_in k))))

-- ---- taking a token

-- where the token is the first of both lists, it may be passed
tail_both : {c : Cut} {r r' : Tokens}
    → Alike c r r' → (is_plain c.token.kind ≡ plain_kind (kind_at r) → c.Passed) → Both c bare (skip r) (skip r')
tail_both here h = past (h refl) (omega arith) (omega arith)
tail_both (there w) h = reads tt refl w

spend_both : {c : Cut} (n n' : ℕ) {r r' : Tokens}
    → n ≡ n' → Alike c r r' → (is_plain c.token.kind ≡ plain_kind (kind_at r) → c.Passed) → Both c counted (spend_by n r) (spend_by n' r')
spend_both zero zero e w h = stops w
spend_both zero (suc n') e w h = absurd (omega arith)
spend_both (suc n) zero e w h = absurd (omega arith)
spend_both (suc n) (suc n') e here h = past (h refl) (omega arith) (omega arith)
spend_both (suc n) (suc n') e (there w) h = reads tt (omega arith) w

spend_two_both : {c : Cut} (n n' : ℕ) {r r' : Tokens}
    → n ≡ n' → Alike c r r' → (is_plain c.token.kind ≡ plain_kind (kind_at r) → c.Passed) → Both c counted (spend_two_by n r) (spend_two_by n' r')
spend_two_both zero zero e w h = stops w
spend_two_both (suc zero) (suc zero) e w h = stops w
spend_two_both (suc (suc n)) (suc (suc n')) e here h = past (h refl) (omega arith) (omega arith)
spend_two_both (suc (suc n)) (suc (suc n')) e (there w) h = reads tt (omega arith) w
spend_two_both zero (suc n') e w h = absurd (omega arith)
spend_two_both (suc n) zero e w h = absurd (omega arith)
spend_two_both (suc zero) (suc (suc n)) e w h = absurd (omega arith)
spend_two_both (suc (suc n)) (suc zero) e w h = absurd (omega arith)

spend_ends : (n : ℕ) (ts : Tokens) → Ends ts (left counted (spend_by n ts))
spend_ends zero ts = whole
spend_ends (suc n) ts = ends_tail ts

spend_two_ends : (n : ℕ) (ts : Tokens) → Ends ts (left counted (spend_two_by n ts))
spend_two_ends zero ts = whole
spend_two_ends (suc zero) ts = whole
spend_two_ends (suc (suc n)) ts = ends_tail ts

-- a step without operators
kept : {A : Type 0} (n : ℕ) (o : Read A) → left counted (keep n o) ≡ left bare o
kept n (Ok p) = refl
kept n (Err r) = refl

keep_both : {c : Cut} {A : Type 0} (n n' : ℕ) {o o' : Read A} → n ≡ n' → Both c bare o o' → Both c counted (keep n o) (keep n' o')
keep_both n n' e (reads a r w) = reads a e w
keep_both n n' e (stops w) = stops w
keep_both n n' e (past {o = o} {o' = o'} p le le') =
    let one = ap length (kept n o) in let two = ap length (kept n' o') in past p (omega arith) (omega arith)

keep_ends : {A : Type 0} (n : ℕ) (ts : Tokens) (o : Read A) → Ends ts (left bare o) → Ends ts (left counted (keep n o))
keep_ends n ts (Ok p) h = h
keep_ends n ts (Err r) h = h

module _ {c : Cut} where
  -- a plain token
  pub skips : Local c bare true skip
  skips = record { ends = λ ts. ends_tail ts; both = λ s s' p r w. tail_both w (λ e. c.plain (e ∙ p refl)) }

  -- any token
  pub passes : {b : Bool} → c.Passed → Local c bare b skip
  passes h = record { ends = λ ts. ends_tail ts; both = λ s s' p r w. tail_both w (λ e. h) }

  pub spends : Local c counted true spend
  spends = record { ends = λ s. spend_ends s.0 s.1; both = λ s s' p r w. spend_both s.0 s'.0 r w (λ e. c.plain (e ∙ p refl)) }

  pub spends_two : Local c counted true spend_two
  spends_two = record { ends = λ s. spend_two_ends s.0 s.1; both = λ s s' p r w. spend_two_both s.0 s'.0 r w (λ e. c.plain (e ∙ p refl)) }

  pub lifts : {A : Type 0} {b : Bool} {p : Step A} → Local c bare b p → Local c counted b (lift p)
  lifts {p = p} l = record {
    ends = λ s. keep_ends s.0 s.1 (p s.1) (l.ends s.1);
    both = λ s s' h r w. keep_both s.0 s'.0 r (l.both s.1 s'.1 h refl w);
  }

  -- ---- loops

  pub goes_on : {A : Type 0} (again : A → Step A) → ((a : A) → Local c bare false (again a)) → (a : A) (x : Bool) → Local c bare false (after_turn again a x)
  goes_on again l a true = pures a
  goes_on again l a false = l a

  loops : {A : Type 0} (turn : A → Step (A × Bool)) (l : (a : A) → Local c bare false (turn a)) (f : ℕ) (a : A) → Local c bare false (loop turn f a)
  unfolding loop
  loops turn l zero a = refuses
  loops turn l (suc f) a = binds (l a) (λ r. goes_on (loop turn f) (λ a. loops turn l f a) r.0 r.1)

  pub repeats : {A : Type 0} {b : Bool} (turn : A → Step (A × Bool)) → ((a d : A) (ts us : Tokens) → turn a ts ≡ Ok ((d, false), us) → length us < length ts)
      → ((a : A) → Local c bare false (turn a)) → (a : A) → Local c bare b (repeat turn a)
  unfolding repeat
  repeats turn shorter l a = record {
    ends = λ ts. let f = suc (length ts) in subst (λ o. Ends ts (left bare o)) (is f ts (omega arith)) ((loops turn l f a).ends ts);
    both = λ s s' p r w.
        let f = suc (length s + length s') in
        subst (λ o. Both c bare o (repeat turn a s')) (is f s (omega arith))
        (subst (λ o. Both c bare (loop turn f a s) o) (is f s' (omega arith)) ((loops turn l f a).both s s' (λ e. absurd cc) r w));
  }
    where
      is : (f : ℕ) (ts : Tokens) → length ts < f → loop turn f a ts ≡ repeat turn a ts
      is f ts h = stable turn shorter f (suc (length ts)) a ts h (omega arith)
