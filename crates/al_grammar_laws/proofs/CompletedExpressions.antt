-- Expressions that are cut off can be completed, with the operators that are left.
use Rattle.std.proofs.Common.{◌≡◌, ℕ, zero, suc, ◌+◌, ◌-◌, ◌<◌, ◌≤◌, Bool, true, false, nat_lt, nat_eq, List, [], ◌∷◌, ◌++◌, Option, Some, None, Ok, Err, refl, sym, ap, subst, ◌∙◌, arith}
use Rattle.std.specs.Prelude.{pos}
use Rattle.std.proofs.lemmas.Bool.{ltb-true, ltb-false, eqb-true}
use Rattle.al_source.specs.declared.tokens.TokenKind.{TokenKind}
use Rattle.al_source.specs.declared.tokens.TokenKind.TheVariants.{Word, Number, Key, Mark}
use Rattle.al_source.specs.declared.tokens.Mark as the_mark
use Rattle.al_source.specs.declared.tokens.Mark.TheVariants as m
use Rattle.al_source.specs.declared.tokens.Key.TheVariants as key
use Rattle.al_source.specs.declared.source_tree.CType.{CType}
use Rattle.al_source.specs.declared.source_tree.CType.TheVariants as type
use Rattle.al_source.specs.declared.source_tree.Expr.{Expr}
use Rattle.al_source.specs.declared.source_tree.Expr.TheVariants as e
use Rattle.al_source.specs.declared.limits.TheConstants.{EXPRESSION_OPERATORS}
use Rattle.al_grammar.specs.declared.operators.Joint.{Joint}
use Rattle.al_grammar.specs.declared.operators.Prefix.{Prefix}
use Rattle.al_grammar.specs.declared.operators.TheConstants.{LEVELS}
use Rattle.al_source.specs.Steps.{bind, pure}
use Rattle.al_grammar.specs.Operators.{infix_of, join, prefix_of, apply}
use Rattle.al_grammar.specs.Phrases.{Tokens, Name, Takes, takes, Means}
use Rattle.al_grammar.specs.Expressions.{State, Reads, Arguments, More, Expression, Place}
use Rattle.al_grammar.specs.Expressions as g
use Rattle.al_grammar.specs.Types.{SizeOf}
use Rattle.al_grammar.specs.Types as ty
use Rattle.al_grammar.specs.Steps.{Read, Step, kind_at, mark_at, meaning_at, tail, skip, expect}
use Rattle.al_grammar.specs.ExpressionParser.{Outcome, Parser, keep, lift, spend_by, spend, spend_two_by, spend_two, Job, whole, climb, unary, postfix, primary, suffix, arguments, more, field, sized, element_size, whole_by, joined_by, climb_by, unary_by, named_by, named, grouped, allocated, primary_by, indexed, suffix_by, arguments_by, more_by, step, measure, parse, forget, expression, place}
use Rattle.al_grammar.proofs.StepFacts.{takes_kind, means_at, kind_takes, mark_takes, at_means}
use Rattle.al_grammar.proofs.SoundExpressions.{means_level}
use Rattle.al_grammar_laws.proofs.Run.{run, parse_run}
use Rattle.al_grammar_laws.proofs.Completion.{token_of, bare, counted, Relation, Completed, Fine, On, Full, on_then, then, on_gives, gives, maps, on_maps, anywhere, looks, full, pures, OneToken, skips, expects, names, takes_plus, means_plus}
use Rattle.al_grammar_laws.proofs.CompletedTypes.{operand_types, sizes}

-- ---- steps that count operators

-- what no operator is spent on
abbrev Lifted : {A : Type 0} → Relation Tokens A → Relation State A
Lifted R s a u = (s.0 ≡ u.0) × R s.1 a u.1

kept_ok : {A : Type 0} (n : ℕ) (o : Read A) (a : A) (u : State) → keep n o ≡ Ok (a, u) → (o ≡ Ok (a, u.1)) × (n ≡ u.0)
kept_ok {A} n (Ok p) a u d =
    let same : ◌≡◌ {A = A × State} (p.0, (n, p.1)) (a, u) = cc in
    (ap (λ (q : A × State). Ok (q.0, q.1.1)) same, ap (λ (q : A × State). q.1.0) same)
kept_ok n (Err r) a u d = absurd cc

kept_err : {A : Type 0} (n : ℕ) (o : Read A) → keep n o ≡ Err [] → o ≡ Err []
kept_err n (Ok p) d = absurd cc
kept_err n (Err r) d = cc

lift_fine : {A : Type 0} {R : Relation Tokens A} (p : Step A) (s : State) → Fine bare R s.1 (p s.1) → Fine counted (Lifted R) s (lift p s)
lift_fine p s f = record {
  reads = λ a u d zs z. let (e, same) = kept_ok s.0 (p s.1) a u d in (same, f.reads a u.1 e zs z);
  completes = λ d. let c = f.completes (kept_err s.0 (p s.1) d) in
      record { more = c.more; answer = c.answer; end = s.0; plain = c.plain; reads = λ zs z. (refl, c.reads zs z) };
}

on_lifts : {A : Type 0} {C : Tokens → Type 0} {R : Relation Tokens A} {p : Step A} → On bare C R p → On counted (λ s. C s.1) (Lifted R) (lift p)
on_lifts {p = p} o = record { fine = λ s c. lift_fine p s (o.fine s.1 c) }

lifts : {A : Type 0} {R : Relation Tokens A} {p : Step A} → Full bare R p → Full counted (Lifted R) (lift p)
lifts {p = p} o = record {
  fine = λ s. lift_fine p s (o.fine s.1);
  phrase = λ k. let c = o.phrase tt in
      record { more = c.more; answer = c.answer; end = k; plain = c.plain; reads = λ zs z. (refl, c.reads zs z) };
}

refuses : {A : Type 0} {C : State → Type 0} {R : Relation State A} → ((k : ℕ) → Completed counted R (k, [])) → On counted C R (λ s. Err s.1)
refuses {A} {R = R} h = record {
  fine = λ s c. record {
    reads = λ a u e. absurd cc;
    completes = λ e. let none : s.1 ≡ [] = stopped s.1 e in subst (λ ts. Completed counted R (s.0, ts)) (sym none) (h s.0);
  };
}
  where
    stopped : (ts : Tokens) → ◌≡◌ {A = Outcome A} (Err ts) (Err []) → ts ≡ []
    stopped ts e = cc

-- A token is there, whatever follows.
record Drops (D : Tokens → Tokens → Type 0) : Type 0 where
  plus : (ts us zs : Tokens) → D ts us → D (ts ++ zs) (us ++ zs)
  some : (us : Tokens) → D [] us → ⊥

takes_drops : (k : TokenKind) → Drops (Takes k)
takes_drops k = record { plus = λ ts us zs t. takes_plus zs t; some = λ us t. none us t }
  where
    none : (us : Tokens) → Takes k [] us → ⊥
    none us t = let e = kind_of t in cc
      where
        kind_of : {us : Tokens} → Takes k [] us → None ≡ Some k
        kind_of t = takes_kind t

means_drops : {A : Type 0} (table : TokenKind → Option A) (a : A) → Drops (Means table a)
means_drops table a = record { plus = λ ts us zs t. means_plus zs t; some = λ us t. none us t }
  where
    none : (us : Tokens) → Means table a [] us → ⊥
    none us t = let e : None ≡ Some a = means_at t in cc

-- a token for which an operator is spent
abbrev Spends : (Tokens → Tokens → Type 0) → Relation State (Unit {0})
Spends D s _ u = (s.0 ≡ suc u.0) × D s.1 u.1

spends : {C : State → Type 0} {D : Tokens → Tokens → Type 0} → Drops D → ((s : State) → C s → D s.1 (tail s.1)) → On counted C (Spends D) spend
spends {C} {D} p h = record { fine = λ s c. by s.0 s.1 (h s c) }
  where
    by : (n : ℕ) (ts : Tokens) → D ts (tail ts) → Fine counted (Spends D) (n, ts) (spend_by n ts)
    by zero [] d = absurd (p.some [] d)
    by zero (t ∷ ts) d = record { reads = λ a u e. absurd cc; completes = λ e. absurd cc }
    by (suc n) ts d = record {
      reads = λ a u e zs z.
          let same : ◌≡◌ {A = Unit {0} × State} (tt, (n, tail ts)) (a, u) = cc in
          let room : n ≡ u.0 = ap (λ (q : Unit {0} × State). q.1.0) same in
          let rest : tail ts ≡ u.1 = ap (λ (q : Unit {0} × State). q.1.1) same in
          (ap suc room, subst (λ us. D (ts ++ zs) (us ++ zs)) rest (p.plus ts (tail ts) zs d));
      completes = λ e. absurd cc;
    }

abbrev SpendsTwo : (Tokens → Tokens → Type 0) → Relation State (Unit {0})
SpendsTwo D s _ u = (s.0 ≡ suc (suc u.0)) × D s.1 u.1

spends_two : {C : State → Type 0} {D : Tokens → Tokens → Type 0} → Drops D → ((s : State) → C s → D s.1 (tail s.1)) → On counted C (SpendsTwo D) spend_two
spends_two {C} {D} p h = record { fine = λ s c. by s.0 s.1 (h s c) }
  where
    by : (n : ℕ) (ts : Tokens) → D ts (tail ts) → Fine counted (SpendsTwo D) (n, ts) (spend_two_by n ts)
    by zero [] d = absurd (p.some [] d)
    by zero (t ∷ ts) d = record { reads = λ a u e. absurd cc; completes = λ e. absurd cc }
    by (suc zero) [] d = absurd (p.some [] d)
    by (suc zero) (t ∷ ts) d = record { reads = λ a u e. absurd cc; completes = λ e. absurd cc }
    by (suc (suc n)) ts d = record {
      reads = λ a u e zs z.
          let same : ◌≡◌ {A = Unit {0} × State} (tt, (n, tail ts)) (a, u) = cc in
          let room : n ≡ u.0 = ap (λ (q : Unit {0} × State). q.1.0) same in
          let rest : tail ts ≡ u.1 = ap (λ (q : Unit {0} × State). q.1.1) same in
          (ap (λ n. suc (suc n)) room, subst (λ us. D (ts ++ zs) (us ++ zs)) rest (p.plus ts (tail ts) zs d));
      completes = λ e. absurd cc;
    }

-- ---- what each job reads

-- an expression of this sort
abbrev An : g.Sort → State → State → Type 0
An j s u = (x : Expr) × Reads j s x u

abbrev pub JobReads : Job → Relation State Expr
JobReads (whole l) s y u = l ≤ LEVELS → An (g.level l) s u
JobReads (climb l x) s y u = (s₀ : State) → An (g.level l) s₀ s → An (g.level l) s₀ u
JobReads unary s y u = An g.unary s u
JobReads postfix s y u = An g.postfix s u
JobReads primary s y u = An g.primary s u
JobReads (suffix x) s y u = (s₀ : State) → An g.postfix s₀ s → An g.postfix s₀ u
JobReads (arguments w) s y u = (xs : List Expr) × Arguments s xs u
JobReads (more w xs) s y u = (ys : List Expr) × More s ys u

-- ---- the least phrase of each

down : (n l : ℕ) (s u : State) → n + l ≡ LEVELS → An g.unary s u → An (g.level l) s u
down zero l s u e (x, r) = let same : LEVELS ≡ l = omega arith in (x, subst (λ l. Reads (g.level l) s x u) same (g.operand r))
down (suc n) l s u e r =
    let (x, q) = down n (suc l) s u (omega arith) r in let lt : l < LEVELS = omega arith in (x, g.tighter lt q)

zero_read : (k : ℕ) (zs : Tokens) → An g.primary (k, token_of (Number (pos 0)) ∷ zs) (k, zs)
zero_read k zs = (e.Number (pos 0), g.number (takes refl))

unary_of : {s u : State} → An g.primary s u → An g.unary s u
unary_of (x, r) = (x, g.plain (g.bare r))

whole_of : {s u : State} (l : ℕ) → l ≤ LEVELS → An g.primary s u → An (g.level l) s u
whole_of {s} {u} l le r = let n : ℕ = LEVELS - l in down n l s u (omega arith) (unary_of r)

phrase_of : (j : Job) (k : ℕ) → Completed counted (JobReads j) (k, [])
phrase_of (whole l) k = record {
  more = token_of (Number (pos 0)) ∷ [];
  answer = e.Null;
  end = k;
  plain = refl;
  reads = λ zs z le. whole_of l le (zero_read k zs);
}
phrase_of (climb l x) k = record { more = []; answer = e.Null; end = k; plain = refl; reads = λ zs z s₀ r. r }
phrase_of unary k = record {
  more = token_of (Number (pos 0)) ∷ [];
  answer = e.Null;
  end = k;
  plain = refl;
  reads = λ zs z. unary_of (zero_read k zs);
}
phrase_of postfix k = record {
  more = token_of (Number (pos 0)) ∷ [];
  answer = e.Null;
  end = k;
  plain = refl;
  reads = λ zs z. (e.Number (pos 0), g.bare (g.number (takes refl)));
}
phrase_of primary k = record { more = token_of (Number (pos 0)) ∷ []; answer = e.Null; end = k; plain = refl; reads = λ zs z. zero_read k zs }
phrase_of (suffix x) k = record { more = []; answer = e.Null; end = k; plain = refl; reads = λ zs z s₀ r. r }
phrase_of (arguments w) k = record {
  more = token_of (Mark m.RightParen) ∷ [];
  answer = e.Null;
  end = k;
  plain = refl;
  reads = λ zs z. ([], g.none (takes refl));
}
phrase_of (more w xs) k = record {
  more = token_of (Number (pos 0)) ∷ token_of (Mark m.RightParen) ∷ [];
  answer = e.Null;
  end = k;
  plain = refl;
  reads = λ zs z. let (x, r) = whole_of 0 (omega arith) (zero_read k (token_of (Mark m.RightParen) ∷ zs)) in (x ∷ [], g.last r (takes refl));
}

-- ---- the steps

-- an expression between brackets or parentheses, its end
abbrev Closes : the_mark.Mark → Relation State Expr
Closes k s x u = Lifted (OneToken (Takes (Mark k))) s tt u

closes : (k : the_mark.Mark) (x : Expr) → Full counted (Closes k) (λ s. bind (lift (expect k) s) (λ _. pure x))
closes k x = gives (λ _. x) (λ s _ u p. p) (lifts (expects k))

-- what stands behind the name
abbrev AfterName : Name → Relation State Expr
AfterName w m y u = (s : State) → s.0 ≡ m.0 → Takes (Word w) s.1 m.1 → An g.primary s u

-- the second argument of `calloc`
record IsElement (ts us : Tokens) : Type 0 where
  ty : CType
  after_comma : Tokens
  close : Tokens
  comma : Takes (Mark m.Comma) ts after_comma
  size : SizeOf after_comma ty close
  closes : Takes (Mark m.RightParen) close us

abbrev AnElement : Relation Tokens CType
AnElement ts a us = IsElement ts us

elements : Full bare AnElement element_size
elements =
    maps (λ ts a us p. let (_, l, (_, k, t, (b, z)), (_, u)) = p in record { ty = b; after_comma = k; close = l; comma = t; size = z; closes = u })
    (then (then (expects m.Comma) (λ _. sizes))
    (λ a. gives {T = λ ts c us. Unit {0} × Takes (Mark m.RightParen) ts us} (λ _. a) (λ ts _ us t. (tt, t)) (expects m.RightParen)))

-- what stands behind an argument
abbrev Next : Relation State Expr
Next m y u = (s : State) → An (g.level 0) s m → (ys : List Expr) × More s ys u

next_phrase : (k : ℕ) → Completed counted Next (k, [])
next_phrase k = record {
  more = token_of (Mark m.RightParen) ∷ [];
  answer = e.Null;
  end = k;
  plain = refl;
  reads = λ zs z s r. let (x, q) = r in (x ∷ [], g.last q (takes refl));
}

room_after : {j : g.Sort} {s : State} {x : Expr} {n : ℕ} {u : State} → n ≡ u.0 → Reads j s x (n, u.1) → Reads j s x u
room_after {j} {s} {x} {n} {u} e r = subst (λ n. Reads j s x (n, u.1)) e r

room_before : {j : g.Sort} {s u : State} {x : Expr} {n : ℕ} → s.0 ≡ n → Reads j (n, s.1) x u → Reads j s x u
room_before {j} {s} {u} {x} {n} e r = subst (λ n. Reads j (n, s.1) x u) (sym e) r

module _ (N : Job → Parser Expr) (h : (j : Job) → Full counted (JobReads j) (N j)) where
  wholes : (l : ℕ) (b : Bool) → nat_lt l LEVELS ≡ b → Full counted (JobReads (whole l)) (whole_by N l b)
  wholes l true d =
      let lt : l < LEVELS = ltb-true _ _ d in
      maps (λ s y u p le. let (x, k, r, c) = p in let (z, q) = r (omega arith) in c s (z, g.tighter lt q)) (then (h (whole (suc l))) (λ x. h (climb l x)))
  wholes l false d =
      let ge : LEVELS ≤ l = ltb-false _ _ d in
      maps (λ s y u p le. let same : LEVELS ≡ l = omega arith in let (x, r) = p in (x, subst (λ l. Reads (g.level l) s x u) same (g.operand r))) (h unary)

  joints : (l : ℕ) (x : Expr) (q : ℕ) (op : Joint) (b : Bool) → nat_eq q l ≡ b
      → On counted (λ s. meaning_at infix_of s.1 ≡ Some (q, op)) (JobReads (climb l x)) (joined_by N l x op b)
  joints l x q op true eq =
      let same : q ≡ l = eqb-true _ _ eq in
      on_maps (λ s y u p s₀ r.
      let (z, k, (_, i, (room, t), right), further) = p in
      let here : Means infix_of (l, op) s.1 i.1 = subst (λ q. Means infix_of (q, op) s.1 i.1) same t in
      let (left, rl) = r in
      let (operand, ro) = right (means_level here) in
      further s₀ (join op left operand, g.joined (subst (λ n. Reads (g.level l) s₀ left (n, s.1)) room rl) here ro))
      (on_then (on_then (spends (means_drops infix_of (q, op)) (λ s d. at_means s.1 d)) (λ _. h (whole (suc l)))) (λ y. h (climb l (join op x y))))
  joints l x q op false eq = pures x (λ s d zs z s₀ r. r)

  climbs : (l : ℕ) (x : Expr) → Full counted (JobReads (climb l x)) (step N (climb l x))
  climbs l x = full (looks (λ s. meaning_at infix_of s.1) (climb_by N l x) by) (phrase_of (climb l x))
    where
      by : (v : Option (ℕ × Joint)) → On counted (λ s. meaning_at infix_of s.1 ≡ v) (JobReads (climb l x)) (climb_by N l x v)
      by None = pures x (λ s d zs z s₀ r. r)
      by (Some (q, op)) = joints l x q op (nat_eq q l) refl

  unaries : Full counted (JobReads unary) (step N unary)
  unaries = full (looks (λ s. meaning_at prefix_of s.1) (unary_by N) by) (phrase_of unary)
    where
      by : (v : Option Prefix) → On counted (λ s. meaning_at prefix_of s.1 ≡ v) (JobReads unary) (unary_by N v)
      by None = anywhere (maps (λ s y u p. let (x, r) = p in (x, g.plain r)) (h postfix))
      by (Some op) =
          on_gives (apply op) (λ s y u p. let (_, k, (room, t), (x, r)) = p in (apply op x, room_before room (g.prefixed t r)))
          (on_then (spends (means_drops prefix_of op) (λ s d. at_means s.1 d)) (λ _. h unary))

  nameds : (w : Name) → Full counted (AfterName w) (named N w)
  nameds w =
      full (looks (λ s. mark_at s.1) (named_by N w) by)
      (λ k. record { more = []; answer = e.Null; end = k; plain = refl; reads = λ zs z s same t. bare_name (k, zs) s same t })
    where
      bare_name : (m : State) → AfterName w m (e.Var w) m
      bare_name m s same t = (e.Var w, room_after same (g.variable t))

      by : (k : Option the_mark.Mark) → On counted (λ s. mark_at s.1 ≡ k) (AfterName w) (named_by N w k)
      by (Some m.LeftParen) =
          on_maps (λ i y u p s same t. let (_, k, (room, v), (xs, r)) = p in (e.Call w xs, room_before (same ∙ room) (g.call t v r)))
          (on_then (spends (takes_drops (Mark m.LeftParen)) (λ s d. mark_takes s.1 d)) (λ _. h (arguments w)))
      by _ = pures (e.Var w) (λ m d zs z. bare_name (m.0, m.1 ++ zs))

  singles : (k : TokenKind) (x : Expr) → ((n : ℕ) (ts us : Tokens) → Takes k ts us → Reads g.primary (n, ts) x (n, us))
      → On counted (λ s. kind_at s.1 ≡ Some k) (JobReads primary) (λ s. bind (lift skip s) (λ _. pure x))
  singles k x rule =
      on_gives (λ _. x) (λ s _ u p. let (same, t) = p in (x, room_after same (rule s.0 s.1 u.1 t)))
      (on_lifts (skips {C = λ ts. kind_at ts ≡ Some k} (λ ts d. kind_takes ts d)))

  groups : On counted (λ s. kind_at s.1 ≡ Some (Mark m.LeftParen)) (JobReads primary) (grouped N)
  groups =
      on_maps (λ s y u p.
      let (z, k, (_, i, (room, t), inner), (same, v)) = p in
      let (x, r) = inner (omega arith) in
      (x, room_before room (room_after same (g.group t r v))))
      (on_then (on_then (spends (takes_drops (Mark m.LeftParen)) (λ s d. kind_takes s.1 d)) (λ _. h (whole 0))) (λ x. closes m.RightParen x))

  sized_full : On counted (λ s. kind_at s.1 ≡ Some (Key key.Sizeof)) (JobReads primary) sized
  sized_full =
      on_gives e.SizeOf (λ s a u p.
      let (_, i, (room, t), (same, o)) = p in
      (e.SizeOf o.ty, room_before room (room_after same (g.size (ty.size_of t o.opens o.base o.stars o.closes)))))
      (on_then (spends (takes_drops (Key key.Sizeof)) (λ s d. kind_takes s.1 d)) (λ _. lifts operand_types))

  allocations : On counted (λ s. kind_at s.1 ≡ Some (Key key.Calloc)) (JobReads primary) (allocated N)
  allocations =
      on_maps (λ s y u p.
      let (z, k, (_, i, (_, j, (room, t), (same, v)), inner), (after, q)) = p in
      let (x, r) = inner (omega arith) in
      let opened : Reads (g.level 0) (j.0, i.1) x k = room_before same r in
      (e.Calloc x q.ty, room_before room (room_after after (g.allocation t v opened q.comma q.size q.closes))))
      (on_then (on_then (on_then (spends_two (takes_drops (Key key.Calloc)) (λ s d. kind_takes s.1 d)) (λ _. lifts (expects m.LeftParen))) (λ _. h (whole 0)))
      (λ x. gives {T = λ s y u. Lifted AnElement s type.Int u} (λ a. e.Calloc x a) (λ s a u p. p) (lifts elements)))

  primaries : Full counted (JobReads primary) (step N primary)
  primaries = full (looks (λ s. kind_at s.1) (primary_by N) by) (phrase_of primary)
    where
      by : (k : Option TokenKind) → On counted (λ s. kind_at s.1 ≡ k) (JobReads primary) (primary_by N k)
      by (Some (Number v)) = singles (Number v) (e.Number v) (λ n ts us t. g.number t)
      by (Some (Key key.Null)) = singles (Key key.Null) e.Null (λ n ts us t. g.null t)
      by (Some (Word w)) =
          on_maps (λ s y u p. let (_, k, (same, t), rest) = p in rest s same t)
          (on_then (on_lifts (skips {C = λ ts. kind_at ts ≡ Some (Word w)} (λ ts d. kind_takes ts d))) (λ _. nameds w))
      by (Some (Mark m.LeftParen)) = groups
      by (Some (Key key.Sizeof)) = sized_full
      by (Some (Key key.Calloc)) = allocations
      by _ = refuses (phrase_of primary)

  indexes : (x : Expr) → On counted (λ s. mark_at s.1 ≡ Some m.LeftBracket) (JobReads (suffix x)) (indexed N x)
  indexes x =
      on_maps (λ s y u p s₀ r.
      let (z, k, (_, i, (room, t), inner), (same, v)) = p in
      let (i', q) = inner (omega arith) in
      let (x', l) = r in
      (e.Index x' i', room_after same (g.index (subst (λ n. Reads g.postfix s₀ x' (n, s.1)) room l) t q v)))
      (on_then (on_then (spends (takes_drops (Mark m.LeftBracket)) (λ s d. mark_takes s.1 d)) (λ _. h (whole 0))) (λ i. closes m.RightBracket (e.Index x i)))

  fields : (k : the_mark.Mark) (f : Expr → Name → Expr) (x : Expr)
      → ((n : ℕ) (s : State) (x : Expr) (w : Name) (ts us vs : Tokens) → Reads g.postfix s x (suc n, ts) → Takes (Mark k) ts us → Takes (Word w) us vs
      → Reads g.postfix s (f x w) (n, vs))
      → On counted (λ s. mark_at s.1 ≡ Some k) (JobReads (suffix x)) (field f x)
  fields k f x rule =
      on_gives (f x) (λ s w u p s₀ r.
      let (_, i, (room, t), (same, v)) = p in
      let (x', l) = r in
      (f x' w, room_after same (rule i.0 s₀ x' w s.1 i.1 u.1 (subst (λ n. Reads g.postfix s₀ x' (n, s.1)) room l) t v)))
      (on_then (spends (takes_drops (Mark k)) (λ s d. mark_takes s.1 d)) (λ _. lifts names))

  suffixes : (x : Expr) → Full counted (JobReads (suffix x)) (step N (suffix x))
  suffixes x = full (looks (λ s. mark_at s.1) (suffix_by N x) by) (phrase_of (suffix x))
    where
      further : {f : Parser Expr} {k : the_mark.Mark} → On counted (λ s. mark_at s.1 ≡ Some k) (JobReads (suffix x)) f
          → On counted (λ s. mark_at s.1 ≡ Some k) (JobReads (suffix x)) (λ s. bind (f s) (λ y. N (suffix y)))
      further o = on_maps (λ s y u p s₀ r. let (z, k, a, b) = p in b s₀ (a s₀ r)) (on_then o (λ y. h (suffix y)))

      by : (k : Option the_mark.Mark) → On counted (λ s. mark_at s.1 ≡ k) (JobReads (suffix x)) (suffix_by N x k)
      by (Some m.LeftBracket) = further (indexes x)
      by (Some m.Dot) = further (fields m.Dot e.Dot x (λ n s x w ts us vs r t v. g.dot r t v))
      by (Some m.Arrow) = further (fields m.Arrow e.Arrow x (λ n s x w ts us vs r t v. g.arrow r t v))
      by _ = pures x (λ s d zs z s₀ r. r)

  argument_lists : (w : Name) → Full counted (JobReads (arguments w)) (step N (arguments w))
  argument_lists w = full (looks (λ s. mark_at s.1) (arguments_by N w) by) (phrase_of (arguments w))
    where
      some : On counted (λ s. Unit {0}) (JobReads (arguments w)) (N (more w []))
      some = anywhere (maps (λ s y u p. let (xs, r) = p in (xs, g.some r)) (h (more w [])))

      by : (k : Option the_mark.Mark) → On counted (λ s. mark_at s.1 ≡ k) (JobReads (arguments w)) (arguments_by N w k)
      by (Some m.RightParen) =
          on_gives (λ _. e.Call w []) (λ s _ u p. let (same, t) = p in ([], subst (λ n. Arguments s [] (n, u.1)) same (g.none t)))
          (on_lifts (skips {C = λ ts. mark_at ts ≡ Some m.RightParen} (λ ts d. mark_takes ts d)))
      by _ = record { fine = λ s c. some.fine s tt }

  nexts : (w : Name) (xs : List Expr) → Full counted Next (λ s. more_by N w xs (mark_at s.1) s)
  nexts w xs = full (looks (λ s. mark_at s.1) (more_by N w xs) by) next_phrase
    where
      by : (k : Option the_mark.Mark) → On counted (λ s. mark_at s.1 ≡ k) Next (more_by N w xs k)
      by (Some m.Comma) =
          on_maps (λ i y u p s r.
          let (_, k, (same, t), (ys, q)) = p in
          let (x, l) = r in
          (x ∷ ys, g.more l t (subst (λ n. More (n, k.1) ys u) (sym same) q)))
          (on_then (on_lifts (skips {C = λ ts. mark_at ts ≡ Some m.Comma} (λ ts d. mark_takes ts d))) (λ _. h (more w xs)))
      by (Some m.RightParen) =
          on_gives (λ _. e.Call w xs) (λ i _ u p s r.
          let (same, t) = p in
          let (x, l) = r in
          (x ∷ [], subst (λ n. More s (x ∷ []) (n, u.1)) same (g.last l t)))
          (on_lifts (skips {C = λ ts. mark_at ts ≡ Some m.RightParen} (λ ts d. mark_takes ts d)))
      by _ = refuses next_phrase

  mores : (w : Name) (xs : List Expr) → Full counted (JobReads (more w xs)) (step N (more w xs))
  mores w xs =
      maps (λ s y u p. let (x, k, r, n) = p in n s (r (omega arith)))
      (then (h (whole 0)) (λ y. nexts w (xs ++ y ∷ [])))

  steps : (j : Job) → Full counted (JobReads j) (step N j)
  steps (whole l) = wholes l (nat_lt l LEVELS) refl
  steps (climb l x) = climbs l x
  steps unary = unaries
  steps postfix =
      maps (λ s y u p. let (x, k, a, c) = p in let (z, r) = a in c s (z, g.bare r)) (then (h primary) (λ x. h (suffix x)))
  steps primary = primaries
  steps (suffix x) = suffixes x
  steps (arguments w) = argument_lists w
  steps (more w xs) = mores w xs

runs : (f : ℕ) (j : Job) → Full counted (JobReads j) (run f j)
unfolding run
runs zero j = full (refuses (phrase_of j)) (phrase_of j)
runs (suc f) j = steps (run f) (λ k. runs f k) j

parses : (j : Job) → Full counted (JobReads j) (parse j)
parses j = record {
  fine = λ s. let f = suc (measure j s) in
      subst (λ o. Fine counted (JobReads j) s o) (sym (parse_run f j s (omega arith))) ((runs f j).fine s);
  phrase = phrase_of j;
}

-- ---- expressions with room for their own operators

forgotten : (o : Outcome Expr) (a : Expr) (us : Tokens) → forget o ≡ Ok (a, us) → (k : ℕ) × (o ≡ Ok (a, (k, us)))
forgotten (Ok p) a us d =
    let same : ◌≡◌ {A = Expr × Tokens} (p.0, p.1.1) (a, us) = cc in
    (p.1.0, ap (λ (q : Expr × Tokens). Ok (q.0, (p.1.0, q.1))) same)
forgotten (Err r) a us d = absurd cc

forgot : (o : Outcome Expr) → forget o ≡ Err [] → o ≡ Err []
forgot (Ok p) d = absurd cc
forgot (Err r) d = cc

abbrev pub AnExpression : Relation Tokens Expr
AnExpression ts a us = (x : Expr) × Expression ts x us

pub expressions : Full bare AnExpression expression
expressions = record {
  fine = λ ts.
      let f = (parses (whole 0)).fine (EXPRESSION_OPERATORS, ts) in
      record {
        reads = λ a us d zs z.
            let (k, e) = forgotten (parse (whole 0) (EXPRESSION_OPERATORS, ts)) a us d in
            let (x, r) = f.reads a (k, us) e zs z (omega arith) in
            (x, record { left = k; reads = r });
        completes = λ d. expression_of ts (f.completes (forgot (parse (whole 0) (EXPRESSION_OPERATORS, ts)) d));
      };
  phrase = λ _. expression_of [] (phrase_of (whole 0) EXPRESSION_OPERATORS);
}
  where
    expression_of : (ts : Tokens) → Completed counted (JobReads (whole 0)) (EXPRESSION_OPERATORS, ts) → Completed bare AnExpression ts
    expression_of ts c = record {
      more = c.more;
      answer = c.answer;
      end = tt;
      plain = c.plain;
      reads = λ zs z. let (x, r) = c.reads zs z (omega arith) in (x, record { left = c.end; reads = r });
    }

abbrev pub APlace : Relation Tokens Expr
APlace ts a us = (x : Expr) × Place ts x us

pub places : Full bare APlace place
places = record {
  fine = λ ts.
      let f = (parses unary).fine (EXPRESSION_OPERATORS, ts) in
      record {
        reads = λ a us d zs z.
            let (k, e) = forgotten (parse unary (EXPRESSION_OPERATORS, ts)) a us d in
            let (x, r) = f.reads a (k, us) e zs z in
            (x, record { left = k; reads = r });
        completes = λ d. place_of ts (f.completes (forgot (parse unary (EXPRESSION_OPERATORS, ts)) d));
      };
  phrase = λ _. place_of [] (phrase_of unary EXPRESSION_OPERATORS);
}
  where
    place_of : (ts : Tokens) → Completed counted (JobReads unary) (EXPRESSION_OPERATORS, ts) → Completed bare APlace ts
    place_of ts c = record {
      more = c.more;
      answer = c.answer;
      end = tt;
      plain = c.plain;
      reads = λ zs z. let (x, r) = c.reads zs z in (x, record { left = c.end; reads = r });
    }
