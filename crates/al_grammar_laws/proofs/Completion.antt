-- Where reading stops for want of tokens, some tokens complete what was being read.
use Rattle.std.proofs.Common.{◌≡◌, ℕ, zero, suc, ◌<◌, Bool, true, false, [], ◌∷◌, ◌++◌, append_assoc, length, Option, Some, Result, Ok, Err, refl, sym, ap, subst, ◌⊎◌, inl, inr, arith}
use Rattle.al_source.specs.declared.tokens.Token.{Token}
use Rattle.al_source.specs.declared.tokens.TokenKind.{TokenKind}
use Rattle.al_source.specs.declared.tokens.TokenKind.TheVariants.{Word, Key, Mark}
use Rattle.al_source.specs.declared.tokens.Mark as the_mark
use Rattle.al_source.specs.declared.tokens.Key as the_key
use Rattle.al_source.specs.Steps.{bind, pure}
use Rattle.al_grammar.specs.Phrases.{Tokens, Name, Takes, takes, Means, means}
use Rattle.al_grammar.specs.Expressions.{State}
use Rattle.al_grammar.specs.Statements.{is_else, else_next}
use Rattle.al_grammar.specs.Steps.{Read, Step, ◌>>=◌, refuse, skip, kind_at, tail, is_mark, is_key, expect_by, expect, expect_key, word_by, word, after_turn, loop, repeat}
use Rattle.al_grammar.proofs.StepFacts.{bind_ok, kind_takes, is_mark_takes, is_key_takes}

-- a token of this kind
abbrev pub token_of : TokenKind → Token
token_of k = record { kind = k; line = 0; start = 0; end = 0 }

pub no_else : (xs ys : Tokens) → else_next xs ≡ false → else_next ys ≡ false → else_next (xs ++ ys) ≡ false
no_else [] ys a b = b
no_else (x ∷ xs) ys a b = a

-- What a step reads in, with what else may follow, and where no token is left.
pub record Feed (S K : Type 0) : Type 0 where
  pub plus : S → Tokens → S
  pub last : K → S

abbrev pub bare : Feed Tokens (Unit {0})
bare = record { plus = λ ts zs. ts ++ zs; last = λ _. [] }

abbrev pub counted : Feed State ℕ
counted = record { plus = λ s zs. (s.0, s.1 ++ zs); last = λ n. (n, []) }

abbrev pub Relation : Type 0 → Type 0 → Type 1
Relation S A = S → A → S → Type 0

-- Some tokens make a phrase of what is there, whatever follows, but for an `else`.
pub record Completed {A S K : Type 0} (v : Feed S K) (R : Relation S A) (s : S) : Type 0 where
  pub more : Tokens
  pub answer : A
  pub end : K
  pub plain : else_next more ≡ false
  pub reads : (zs : Tokens) → else_next zs ≡ false → R (v.plus s (more ++ zs)) answer (v.plus (v.last end) zs)

-- What was read is a phrase, whatever follows, and what was read to the last token can be completed to one.
pub record Fine {A S K : Type 0} (v : Feed S K) (R : Relation S A) (s : S) (o : Result (A × S) Tokens) : Type 0 where
  pub reads : (a : A) (s' : S) → o ≡ Ok (a, s') → (zs : Tokens) → else_next zs ≡ false → R (v.plus s zs) a (v.plus s' zs)
  pub completes : o ≡ Err [] → Completed v R s

-- Such is each answer of the step where the condition holds.
pub record On {A S K : Type 0} (v : Feed S K) (C : S → Type 0) (R : Relation S A) (f : S → Result (A × S) Tokens) : Type 0 where
  pub fine : (s : S) → C s → Fine v R s (f s)

-- Such is each answer of the step, and there is a phrase of some tokens.
pub record Full {A S K : Type 0} (v : Feed S K) (R : Relation S A) (f : S → Result (A × S) Tokens) : Type 0 where
  pub fine : (s : S) → Fine v R s (f s)
  pub phrase : (k : K) → Completed v R (v.last k)

-- one phrase behind another
abbrev pub Then : {A B S : Type 0} → Relation S A → (A → Relation S B) → Relation S B
Then {A} {S = S} R T s b u = (a : A) × (m : S) × R s a m × T a m b u

stuck : {A B S : Type 0} (o : Result (A × S) Tokens) (g : A → S → Result (B × S) Tokens) → bind o g ≡ Err []
    → (o ≡ Err []) ⊎ ((a : A) × (s : S) × (o ≡ Ok (a, s)) × (g a s ≡ Err []))
stuck (Ok p) g e = inr (p.0, p.1, refl, e)
stuck (Err r) g e = inl cc

module _ {S K : Type 0} {v : Feed S K} where
  pub completes_then : {A B : Type 0} {R : Relation S A} {T : A → Relation S B} {s : S}
      → Completed v R s → ((a : A) (k : K) → Completed v (T a) (v.last k)) → Completed v (Then R T) s
  completes_then {R = R} {T = T} {s = s} c h =
      let d = h c.answer c.end in
      record {
        more = c.more ++ d.more;
        answer = d.answer;
        end = d.end;
        plain = no_else c.more d.more c.plain d.plain;
        reads = λ zs z. (
          c.answer,
          v.plus (v.last c.end) (d.more ++ zs),
          subst (λ ms. R (v.plus s ms) c.answer (v.plus (v.last c.end) (d.more ++ zs))) (sym (append_assoc c.more d.more zs))
              (c.reads (d.more ++ zs) (no_else d.more zs d.plain z)),
          d.reads zs z,
        );
      }

  pub completes_as : {A B : Type 0} {R : Relation S A} {T : Relation S B} (h : A → B) {s : S}
      → ((s : S) (a : A) (u : S) → R s a u → T s (h a) u) → Completed v R s → Completed v T s
  completes_as h g c =
      record { more = c.more; answer = h c.answer; end = c.end; plain = c.plain; reads = λ zs z. g _ _ _ (c.reads zs z) }

  then_fine : {A B : Type 0} {R : Relation S A} {T : A → Relation S B} (s : S) (o : Result (A × S) Tokens) (g : A → S → Result (B × S) Tokens)
      → Fine v R s o → ((a : A) → Full v (T a) (g a)) → Fine v (Then R T) s (bind o g)
  then_fine {A} {B} {R} {T} s o g f h = record {
    reads = λ b u e zs z.
        let (p, d, dk) = bind_ok o g e in
        (p.0, v.plus p.1 zs, f.reads p.0 p.1 d zs z, ((h p.0).fine p.1).reads b u dk zs z);
    completes = λ e. by (stuck o g e);
  }
    where
      by : (o ≡ Err []) ⊎ ((a : A) × (m : S) × (o ≡ Ok (a, m)) × (g a m ≡ Err [])) → Completed v (Then R T) s
      by (inl e) = completes_then (f.completes e) (λ a k. (h a).phrase k)
      by (inr (a, m, d, e)) =
          let c = ((h a).fine m).completes e in
          record {
            more = c.more;
            answer = c.answer;
            end = c.end;
            plain = c.plain;
            reads = λ zs z. (a, v.plus m (c.more ++ zs), f.reads a m d (c.more ++ zs) (no_else c.more zs c.plain z), c.reads zs z);
          }

  as_fine : {A B : Type 0} {R : Relation S A} {T : Relation S B} (h : A → B) (s : S) (o : Result (A × S) Tokens)
      → ((s : S) (a : A) (u : S) → R s a u → T s (h a) u) → Fine v R s o → Fine v T s (bind o (λ a. pure (h a)))
  as_fine {A} {B} {R} {T} h s o g f = record {
    reads = λ b u e zs z.
        let (p, d, dk) = bind_ok o (λ a. pure (h a)) e in
        let same : ◌≡◌ {A = B × S} (h p.0, p.1) (b, u) = cc in
        subst (λ (q : B × S). T (v.plus s zs) q.0 (v.plus q.1 zs)) same (g _ _ _ (f.reads p.0 p.1 d zs z));
    completes = λ e. completes_as h g (f.completes (by o e));
  }
    where
      by : (o : Result (A × S) Tokens) → bind o (λ a. pure (h a)) ≡ Err [] → o ≡ Err []
      by (Ok p) e = cc
      by (Err r) e = cc

  -- ---- steps one after another

  pub on_then : {A B : Type 0} {C : S → Type 0} {R : Relation S A} {T : A → Relation S B}
      {f : S → Result (A × S) Tokens} {g : A → S → Result (B × S) Tokens}
      → On v C R f → ((a : A) → Full v (T a) (g a)) → On v C (Then R T) (f >>= g)
  on_then {f = f} {g = g} o h = record { fine = λ s c. then_fine s (f s) g (o.fine s c) h }

  pub then : {A B : Type 0} {R : Relation S A} {T : A → Relation S B}
      {f : S → Result (A × S) Tokens} {g : A → S → Result (B × S) Tokens}
      → Full v R f → ((a : A) → Full v (T a) (g a)) → Full v (Then R T) (f >>= g)
  then {f = f} {g = g} o h =
      record { fine = λ s. then_fine s (f s) g (o.fine s) h; phrase = λ k. completes_then (o.phrase k) (λ a k. (h a).phrase k) }

  pub on_gives : {A B : Type 0} {C : S → Type 0} {R : Relation S A} {T : Relation S B} {f : S → Result (A × S) Tokens} (h : A → B)
      → ((s : S) (a : A) (u : S) → R s a u → T s (h a) u) → On v C R f → On v C T (f >>= (λ a. pure (h a)))
  on_gives {f = f} h g o = record { fine = λ s c. as_fine h s (f s) g (o.fine s c) }

  pub gives : {A B : Type 0} {R : Relation S A} {T : Relation S B} {f : S → Result (A × S) Tokens} (h : A → B)
      → ((s : S) (a : A) (u : S) → R s a u → T s (h a) u) → Full v R f → Full v T (f >>= (λ a. pure (h a)))
  gives {f = f} h g o = record { fine = λ s. as_fine h s (f s) g (o.fine s); phrase = λ k. completes_as h g (o.phrase k) }

  pub maps : {A : Type 0} {R T : Relation S A} {f : S → Result (A × S) Tokens}
      → ((s : S) (a : A) (u : S) → R s a u → T s a u) → Full v R f → Full v T f
  maps {f = f} g o = record {
    fine = λ s. record { reads = λ a u e zs z. g _ _ _ ((o.fine s).reads a u e zs z); completes = λ e. completes_as (λ a. a) g ((o.fine s).completes e) };
    phrase = λ k. completes_as (λ a. a) g (o.phrase k);
  }

  pub on_maps : {A : Type 0} {C : S → Type 0} {R T : Relation S A} {f : S → Result (A × S) Tokens}
      → ((s : S) (a : A) (u : S) → R s a u → T s a u) → On v C R f → On v C T f
  on_maps {f = f} g o = record {
    fine = λ s c. record { reads = λ a u e zs z. g _ _ _ ((o.fine s c).reads a u e zs z); completes = λ e. completes_as (λ a. a) g ((o.fine s c).completes e) };
  }

  pub anywhere : {A : Type 0} {C : S → Type 0} {R : Relation S A} {f : S → Result (A × S) Tokens} → Full v R f → On v C R f
  anywhere o = record { fine = λ s c. o.fine s }

  -- a step decided by what comes next
  pub looks : {A V : Type 0} {C : S → Type 0} {R : Relation S A} (view : S → V) (F : V → S → Result (A × S) Tokens)
      → ((x : V) → On v (λ s. view s ≡ x) R (F x)) → On v C R (λ s. F (view s) s)
  looks view F h = record { fine = λ s c. (h (view s)).fine s refl }

  pub full : {A : Type 0} {R : Relation S A} {f : S → Result (A × S) Tokens}
      → On v (λ s. Unit {0}) R f → ((k : K) → Completed v R (v.last k)) → Full v R f
  full o h = record { fine = λ s. o.fine s tt; phrase = h }

  -- nothing is taken
  pub pures : {A : Type 0} {C : S → Type 0} {R : Relation S A} (a : A)
      → ((s : S) → C s → (zs : Tokens) → else_next zs ≡ false → R (v.plus s zs) a (v.plus s zs)) → On v C R (pure a)
  pures {R = R} a h = record {
    fine = λ s c. record {
      reads = λ b u e zs z.
          let same : ◌≡◌ {A = _ × S} (a, s) (b, u) = cc in
          subst (λ (q : _ × S). R (v.plus s zs) q.0 (v.plus q.1 zs)) same (h s c zs z);
      completes = λ e. cc;
    };
  }

-- ---- one token

-- a phrase of one token
abbrev pub OneToken : (Tokens → Tokens → Type 0) → Relation Tokens (Unit {0})
OneToken R ts a us = R ts us

abbrev remaining : {A : Type 0} → Read A → Tokens
remaining (Ok p) = p.1
remaining (Err r) = r

refused : {A : Type 0} (ts : Tokens) → ◌≡◌ {A = Read A} (Err ts) (Err []) → ts ≡ []
refused ts e = cc

-- a refusal, where there is a phrase that may be meant
pub refuses : {A : Type 0} {C : Tokens → Type 0} {R : Relation Tokens A} → Completed bare R [] → On bare C R refuse
refuses {R = R} d = record {
  fine = λ ts c. record { reads = λ a u e. absurd cc; completes = λ e. subst (Completed bare R) (sym (refused ts e)) d };
}

pub takes_plus : {k : TokenKind} {ts us : Tokens} (zs : Tokens) → Takes k ts us → Takes k (ts ++ zs) (us ++ zs)
takes_plus zs (takes d) = takes d

pub means_plus : {A : Type 0} {table : TokenKind → Option A} {a : A} {ts us : Tokens} (zs : Tokens) → Means table a ts us → Means table a (ts ++ zs) (us ++ zs)
means_plus zs (means d) = means d

pub skips : {C : Tokens → Type 0} {k : TokenKind} → ((ts : Tokens) → C ts → Takes k ts (tail ts)) → On bare C (OneToken (Takes k)) skip
skips {k = k} h = record {
  fine = λ ts c. record {
    reads = λ a u e zs z. let same : tail ts ≡ u = ap remaining e in subst (λ u. Takes k (ts ++ zs) (u ++ zs)) same (takes_plus zs (h ts c));
    completes = λ e. absurd cc;
  };
}

pub skips_means : {C : Tokens → Type 0} {A : Type 0} {table : TokenKind → Option A} {a : A}
    → ((ts : Tokens) → C ts → Means table a ts (tail ts)) → On bare C (OneToken (Means table a)) skip
skips_means {table = table} {a = a} h = record {
  fine = λ ts c. record {
    reads = λ b u e zs z. let same : tail ts ≡ u = ap remaining e in subst (λ u. Means table a (ts ++ zs) (u ++ zs)) same (means_plus zs (h ts c));
    completes = λ e. absurd cc;
  };
}

-- the phrase of one token
pub one_token : (k : TokenKind) → is_else k ≡ false → Completed bare (OneToken (Takes k)) []
one_token k h = record { more = token_of k ∷ []; answer = tt; end = tt; plain = h; reads = λ zs z. takes refl }

pub expects : (k : the_mark.Mark) → Full bare (OneToken (Takes (Mark k))) (expect k)
expects k = full (looks (is_mark k) expect_by by) (λ _. one_token (Mark k) refl)
  where
    by : (x : Bool) → On bare (λ ts. is_mark k ts ≡ x) (OneToken (Takes (Mark k))) (expect_by x)
    by true = skips (λ ts d. is_mark_takes k ts d)
    by false = refuses (one_token (Mark k) refl)

pub expects_key : (k : the_key.Key) → is_else (Key k) ≡ false → Full bare (OneToken (Takes (Key k))) (expect_key k)
expects_key k h = full (looks (is_key k) expect_by by) (λ _. one_token (Key k) h)
  where
    by : (x : Bool) → On bare (λ ts. is_key k ts ≡ x) (OneToken (Takes (Key k))) (expect_by x)
    by true = skips (λ ts d. is_key_takes k ts d)
    by false = refuses (one_token (Key k) h)

-- a name
abbrev pub AName : Relation Tokens Name
AName ts w us = Takes (Word w) ts us

a_name : Completed bare AName []
a_name = record { more = token_of (Word (120 ∷ [])) ∷ []; answer = 120 ∷ []; end = tt; plain = refl; reads = λ zs z. takes refl }

pub names : Full bare AName word
names = full (looks kind_at word_by by) (λ _. a_name)
  where
    by : (k : Option TokenKind) → On bare (λ ts. kind_at ts ≡ k) AName (word_by k)
    by (Some (Word w)) = on_gives (λ _. w) (λ ts _ us t. t) (skips (λ ts d. kind_takes ts d))
    by _ = refuses a_name

-- ---- loops

module _ {A : Type 0} (turn : A → Step (A × Bool)) (shorter : (a d : A) (ts us : Tokens) → turn a ts ≡ Ok ((d, false), us) → length us < length ts)
    (Turn : Relation Tokens Bool) (All : Tokens → Tokens → Type 0)
    (stop : (ts us : Tokens) → Turn ts true us → All ts us) (next : (ts us vs : Tokens) → Turn ts false us → All us vs → All ts vs)
    (each : (a : A) → Full bare (λ ts r us. Turn ts r.1 us) (turn a)) (phrase : Completed bare (λ ts (u : Unit {0}) us. All ts us) []) where
  abbrev Whole : Relation Tokens A
  Whole ts a us = All ts us

  abbrev Turned : Relation Tokens (A × Bool)
  Turned ts r us = Turn ts r.1 us

  turn_completed : (ts : Tokens) (c : Completed bare Turned ts) (x : Bool) → c.answer.1 ≡ x → Completed bare Whole ts
  turn_completed ts c true e = record {
    more = c.more;
    answer = c.answer.0;
    end = tt;
    plain = c.plain;
    reads = λ zs z. stop (ts ++ (c.more ++ zs)) zs (subst (λ x. Turn (ts ++ (c.more ++ zs)) x zs) e (c.reads zs z));
  }
  turn_completed ts c false e = record {
    more = c.more ++ phrase.more;
    answer = c.answer.0;
    end = tt;
    plain = no_else c.more phrase.more c.plain phrase.plain;
    reads = λ zs z.
        next (ts ++ ((c.more ++ phrase.more) ++ zs)) (phrase.more ++ zs) zs
        (subst (λ ms. Turn (ts ++ ms) false (phrase.more ++ zs)) (sym (append_assoc c.more phrase.more zs))
        (subst (λ x. Turn (ts ++ (c.more ++ (phrase.more ++ zs))) x (phrase.more ++ zs)) e
        (c.reads (phrase.more ++ zs) (no_else phrase.more zs phrase.plain z)))) (phrase.reads zs z);
  }

  module _ (f : ℕ) (ih : (b : A) (us : Tokens) → length us < f → Fine bare Whole us (loop turn f b us)) (a : A) (ts : Tokens) (lt : length ts < suc f) where
    turn_reads : (b : A) (x : Bool) (m : Tokens) → turn a ts ≡ Ok ((b, x), m) → (p : A) (us : Tokens) → after_turn (loop turn f) b x m ≡ Ok (p, us)
        → (zs : Tokens) → else_next zs ≡ false → All (ts ++ zs) (us ++ zs)
    turn_reads b true m d p us e zs z =
        let same : m ≡ us = ap remaining e in
        stop (ts ++ zs) (us ++ zs) (subst (λ m. Turn (ts ++ zs) true (m ++ zs)) same (((each a).fine ts).reads (b, true) m d zs z))
    turn_reads b false m d p us e zs z =
        let less = shorter a b ts m d in
        next (ts ++ zs) (m ++ zs) (us ++ zs) (((each a).fine ts).reads (b, false) m d zs z) ((ih b m (omega arith)).reads p us e zs z)

    turn_completes : (b : A) (x : Bool) (m : Tokens) → turn a ts ≡ Ok ((b, x), m) → after_turn (loop turn f) b x m ≡ Err [] → Completed bare Whole ts
    turn_completes b true m d e = absurd cc
    turn_completes b false m d e =
        let less = shorter a b ts m d in
        let c = (ih b m (omega arith)).completes e in
        record {
          more = c.more;
          answer = c.answer;
          end = tt;
          plain = c.plain;
          reads = λ zs z.
              next (ts ++ (c.more ++ zs)) (m ++ (c.more ++ zs)) zs
              (((each a).fine ts).reads (b, false) m d (c.more ++ zs) (no_else c.more zs c.plain z)) (c.reads zs z);
        }

    turn_stuck : (turn a ts ≡ Err []) ⊎ ((r : A × Bool) × (m : Tokens) × (turn a ts ≡ Ok (r, m)) × (after_turn (loop turn f) r.0 r.1 m ≡ Err []))
        → Completed bare Whole ts
    turn_stuck (inl e) = let c = ((each a).fine ts).completes e in turn_completed ts c c.answer.1 refl
    turn_stuck (inr (r, m, d, e)) = turn_completes r.0 r.1 m d e

    loop_turn : Fine bare Whole ts (bind (turn a ts) (λ r. after_turn (loop turn f) r.0 r.1))
    loop_turn = record {
      reads = λ p us e zs z.
          let (q, d, dk) = bind_ok (turn a ts) (λ r. after_turn (loop turn f) r.0 r.1) e in turn_reads q.0.0 q.0.1 q.1 d p us dk zs z;
      completes = λ e. turn_stuck (stuck (turn a ts) (λ r. after_turn (loop turn f) r.0 r.1) e);
    }

  loop_fine : (f : ℕ) (a : A) (ts : Tokens) → length ts < f → Fine bare Whole ts (loop turn f a ts)
  unfolding loop
  loop_fine zero a ts lt = absurd (omega arith)
  loop_fine (suc f) a ts lt = loop_turn f (λ b us l. loop_fine f b us l) a ts lt

  pub repeats : (a : A) → Full bare Whole (repeat turn a)
  unfolding repeat
  repeats a = record {
    fine = λ ts. loop_fine (suc (length ts)) a ts (omega arith);
    phrase = λ _. completes_as (λ _. a) (λ s u us h. h) phrase;
  }
