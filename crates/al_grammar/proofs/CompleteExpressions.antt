-- The parser of expressions reads what is in the grammar.
use Rattle.std.proofs.Common.{◌≡◌, ℕ, suc, ◌<◌, Bool, true, false, List, [], ◌∷◌, ◌++◌, append_assoc, Option, Some, None, Ok, refl, sym, ap, ◌∙◌, arith}
use Rattle.std.proofs.lemmas.Bool.{lt-ltb, eq-eqb, ne_eqb}
use Rattle.al_source.specs.declared.tokens.Token.{Token}
use Rattle.al_source.specs.declared.tokens.TokenKind.{TokenKind}
use Rattle.al_source.specs.declared.tokens.TokenKind.TheVariants.{Word, Number, Key, Mark}
use Rattle.al_source.specs.declared.tokens.Mark as the_mark
use Rattle.al_source.specs.declared.tokens.Mark.TheVariants as m
use Rattle.al_source.specs.declared.tokens.Key.TheVariants as key
use Rattle.al_source.specs.declared.operators.BinOp.{BinOp}
use Rattle.al_source.specs.declared.source_tree.CType.{CType}
use Rattle.al_source.specs.declared.source_tree.Expr.{Expr}
use Rattle.al_source.specs.declared.source_tree.Expr.TheVariants as e
use Rattle.al_grammar.specs.declared.operators.Joint.{Joint}
use Rattle.al_grammar.specs.declared.operators.Prefix.{Prefix}
use Rattle.al_grammar.specs.declared.operators.TheConstants.{LEVELS}
use Rattle.al_grammar.specs.Operators.{infix_of, join, prefix_of, apply, update_of, step_of}
use Rattle.al_grammar.specs.Phrases.{Tokens, Name, Takes, takes, Means, means}
use Rattle.al_grammar.specs.Types.{SizeOf}
use Rattle.al_grammar.specs.Expressions.{State, Reads, Arguments, More, Expression, Place}
use Rattle.al_grammar.specs.Expressions as g
use Rattle.al_source.specs.Steps.{bind}
use Rattle.al_grammar.specs.Steps.{mark_in, mark_at, meaning_at, expect}
use Rattle.al_grammar.specs.ExpressionParser.{keep, lift, whole, climb, unary, postfix, primary, suffix, arguments, more, element_size, whole_by, joined_by, climb_by, unary_by, named_by, primary_by, suffix_by, arguments_by, more_by, parse, forget, expression, place}
use Rattle.al_grammar.proofs.StepFacts.{takes_kind, takes_expect, takes_word}
use Rattle.al_grammar.proofs.TypeFacts.{size_key, complete_operand, complete_size}
use Rattle.al_grammar.proofs.SoundExpressions.{infix_level}
use Rattle.al_grammar.proofs.ParserEquation.{parse_is}

-- no suffix and no arguments come next
pub record Ends (s : State) : Type 0 where
  pub suffix : (x : Expr) → parse (suffix x) s ≡ Ok (x, s)
  pub name : (w : Name) → named_by parse w (mark_at s.1) s ≡ Ok (e.Var w, s)

-- nor an operator that is tighter than this level
pub record EndsAt (l : ℕ) (s : State) : Type 0 where
  pub operand : Ends s
  pub climb : (k : ℕ) (x : Expr) → l < k → parse (climb k x) s ≡ Ok (x, s)

-- nor any operator
pub record Stops (s : State) : Type 0 where
  pub operand : Ends s
  pub climb : (k : ℕ) (x : Expr) → parse (climb k x) s ≡ Ok (x, s)

stops_at : (l : ℕ) (s : State) → Stops s → EndsAt l s
stops_at l s h = record { operand = h.operand; climb = λ k x _. h.climb k x }

ends_more : (l : ℕ) (s : State) → EndsAt l s → EndsAt (suc l) s
ends_more l s h = record { operand = h.operand; climb = λ k x lt. h.climb k x (omega arith) }

-- ---- which tokens end an expression

quiet_suffix : (k : TokenKind) (v : ℕ × Joint) (x : Expr) (s : State) → infix_of k ≡ Some v → suffix_by parse x (mark_in (Some k)) s ≡ Ok (x, s)
quiet_suffix (Mark m.LeftBracket) v x s d = absurd cc
quiet_suffix (Mark m.Dot) v x s d = absurd cc
quiet_suffix (Mark m.Arrow) v x s d = absurd cc
quiet_suffix _ v x s d = refl

quiet_name : (k : TokenKind) (v : ℕ × Joint) (w : Name) (s : State) → infix_of k ≡ Some v → named_by parse w (mark_in (Some k)) s ≡ Ok (e.Var w, s)
quiet_name (Mark m.LeftParen) v x s d = absurd cc
quiet_name _ v x s d = refl

ends_infix : (p n : ℕ) (op : Joint) (t : Token) (ts : Tokens) → infix_of t.kind ≡ Some (p, op) → EndsAt p (n, t ∷ ts)
ends_infix p n op t ts d = record {
  operand = record {
    suffix = λ x. parse_is (suffix x) (n, t ∷ ts) ∙ quiet_suffix t.kind (p, op) x (n, t ∷ ts) d;
    name = λ w. quiet_name t.kind (p, op) w (n, t ∷ ts) d;
  };
  climb = λ k x lt. parse_is (climb k x) (n, t ∷ ts)
      ∙ ap (λ v. climb_by parse k x v (n, t ∷ ts)) d
      ∙ ap (λ b. joined_by parse k x op b (n, t ∷ ts)) (ne_eqb p k (omega arith));
}

-- the marks that may stand behind a whole expression or a place
abbrev pub is_stop : the_mark.Mark → Bool
is_stop m.RightParen = true
is_stop m.RightBracket = true
is_stop m.Semicolon = true
is_stop m.Comma = true
is_stop m.Assign = true
is_stop m.PlusAssign = true
is_stop m.MinusAssign = true
is_stop m.StarAssign = true
is_stop m.SlashAssign = true
is_stop m.PercentAssign = true
is_stop m.AmpersandAssign = true
is_stop m.PipeAssign = true
is_stop m.CaretAssign = true
is_stop m.ShiftLeftAssign = true
is_stop m.ShiftRightAssign = true
is_stop m.Increment = true
is_stop m.Decrement = true
is_stop _ = false

stops_by : (k : the_mark.Mark) (s : State)
    → is_stop k ≡ true
    → ((x : Expr) → suffix_by parse x (Some k) s ≡ Ok (x, s)) × ((w : Name) → named_by parse w (Some k) s ≡ Ok (e.Var w, s)) × (infix_of (Mark k) ≡ None)
stops_by m.RightParen s d = ((λ x. refl), (λ w. refl), refl)
stops_by m.RightBracket s d = ((λ x. refl), (λ w. refl), refl)
stops_by m.Semicolon s d = ((λ x. refl), (λ w. refl), refl)
stops_by m.Comma s d = ((λ x. refl), (λ w. refl), refl)
stops_by m.Assign s d = ((λ x. refl), (λ w. refl), refl)
stops_by m.PlusAssign s d = ((λ x. refl), (λ w. refl), refl)
stops_by m.MinusAssign s d = ((λ x. refl), (λ w. refl), refl)
stops_by m.StarAssign s d = ((λ x. refl), (λ w. refl), refl)
stops_by m.SlashAssign s d = ((λ x. refl), (λ w. refl), refl)
stops_by m.PercentAssign s d = ((λ x. refl), (λ w. refl), refl)
stops_by m.AmpersandAssign s d = ((λ x. refl), (λ w. refl), refl)
stops_by m.PipeAssign s d = ((λ x. refl), (λ w. refl), refl)
stops_by m.CaretAssign s d = ((λ x. refl), (λ w. refl), refl)
stops_by m.ShiftLeftAssign s d = ((λ x. refl), (λ w. refl), refl)
stops_by m.ShiftRightAssign s d = ((λ x. refl), (λ w. refl), refl)
stops_by m.Increment s d = ((λ x. refl), (λ w. refl), refl)
stops_by m.Decrement s d = ((λ x. refl), (λ w. refl), refl)
stops_by _ s d = absurd cc

pub stops : (k : the_mark.Mark) (n : ℕ) (t : Token) (ts : Tokens) → t.kind ≡ Mark k → is_stop k ≡ true → Stops (n, t ∷ ts)
stops k n t ts dt d =
    let (a, b, c) = stops_by k (n, t ∷ ts) d in
    record {
      operand = record {
        suffix = λ x. parse_is (suffix x) (n, t ∷ ts) ∙ ap (λ q. suffix_by parse x (mark_in (Some q)) (n, t ∷ ts)) dt ∙ a x;
        name = λ w. ap (λ q. named_by parse w (mark_in (Some q)) (n, t ∷ ts)) dt ∙ b w;
      };
      climb = λ q x. parse_is (climb q x) (n, t ∷ ts) ∙ ap (λ v. climb_by parse q x v (n, t ∷ ts)) (ap infix_of dt ∙ c);
    }

pub stops_takes : {k : the_mark.Mark} {us vs : Tokens} (n : ℕ) → Takes (Mark k) us vs → is_stop k ≡ true → Stops (n, us)
stops_takes {k} n (takes {t = t} {ts = ts} d) s = stops k n t ts d s

update_stops : (k : TokenKind) (op : BinOp) → update_of k ≡ Some op → (c : the_mark.Mark) × (k ≡ Mark c) × (is_stop c ≡ true)
update_stops (Mark m.PlusAssign) op d = (m.PlusAssign, refl, refl)
update_stops (Mark m.MinusAssign) op d = (m.MinusAssign, refl, refl)
update_stops (Mark m.StarAssign) op d = (m.StarAssign, refl, refl)
update_stops (Mark m.SlashAssign) op d = (m.SlashAssign, refl, refl)
update_stops (Mark m.PercentAssign) op d = (m.PercentAssign, refl, refl)
update_stops (Mark m.AmpersandAssign) op d = (m.AmpersandAssign, refl, refl)
update_stops (Mark m.PipeAssign) op d = (m.PipeAssign, refl, refl)
update_stops (Mark m.CaretAssign) op d = (m.CaretAssign, refl, refl)
update_stops (Mark m.ShiftLeftAssign) op d = (m.ShiftLeftAssign, refl, refl)
update_stops (Mark m.ShiftRightAssign) op d = (m.ShiftRightAssign, refl, refl)
update_stops _ op d = absurd cc

pub stops_update : {op : BinOp} {us vs : Tokens} (n : ℕ) → Means update_of op us vs → Stops (n, us)
stops_update {op} n (means {t = t} {ts = ts} d) = let (c, is, s) = update_stops t.kind op d in stops c n t ts is s

step_stops : (k : TokenKind) (op : BinOp) → step_of k ≡ Some op → (c : the_mark.Mark) × (k ≡ Mark c) × (is_stop c ≡ true)
step_stops (Mark m.Increment) op d = (m.Increment, refl, refl)
step_stops (Mark m.Decrement) op d = (m.Decrement, refl, refl)
step_stops _ op d = absurd cc

pub stops_step : {op : BinOp} {us vs : Tokens} (n : ℕ) → Means step_of op us vs → Stops (n, us)
stops_step {op} n (means {t = t} {ts = ts} d) = let (c, is, s) = step_stops t.kind op d in stops c n t ts is s

-- an operator of no level
top_ends : (x : Expr) (n : ℕ) (ts : Tokens) → parse (climb LEVELS x) (n, ts) ≡ Ok (x, (n, ts))
top_ends x n [] = parse_is (climb LEVELS x) (n, [])
top_ends x n (t ∷ ts) = parse_is (climb LEVELS x) (n, t ∷ ts) ∙ by (infix_of t.kind) refl
  where
    by : (v : Option (ℕ × Joint)) → infix_of t.kind ≡ v → climb_by parse LEVELS x v (n, t ∷ ts) ≡ Ok (x, (n, t ∷ ts))
    by None d = refl
    by (Some (q, op)) d = let lt : q < LEVELS = infix_level t.kind q op d in ap (λ b. joined_by parse LEVELS x op b (n, t ∷ ts)) (ne_eqb q LEVELS (omega arith))

-- ---- how an expression begins

-- the first token passes this test
pub data Begins (P : TokenKind → Bool) : Tokens → Type 0 where
  begins : {t : Token} {ts : Tokens} → P t.kind ≡ true → Begins P (t ∷ ts)

pub begins_takes : {k : TokenKind} {ts us : Tokens} (P : TokenKind → Bool) → P k ≡ true → Takes k ts us → Begins P ts
begins_takes P e (takes d) = begins (ap P d ∙ e)

-- an expression without an operator in front
abbrev pub begins_primary : TokenKind → Bool
begins_primary (Number v) = true
begins_primary (Word w) = true
begins_primary (Key key.Null) = true
begins_primary (Key key.Sizeof) = true
begins_primary (Key key.Calloc) = true
begins_primary (Mark m.LeftParen) = true
begins_primary _ = false

no_prefix : (k : TokenKind) → begins_primary k ≡ true → prefix_of k ≡ None
no_prefix (Number v) d = refl
no_prefix (Word w) d = refl
no_prefix (Key key.Null) d = refl
no_prefix (Key key.Sizeof) d = refl
no_prefix (Key key.Calloc) d = refl
no_prefix (Mark m.LeftParen) d = refl
no_prefix _ d = absurd cc

begins_bare : {s s' : State} {x : Expr} → Reads g.primary s x s' → Begins begins_primary s.1
begins_bare (g.number t) = begins_takes begins_primary refl t
begins_bare (g.null t) = begins_takes begins_primary refl t
begins_bare (g.variable t) = begins_takes begins_primary refl t
begins_bare (g.call t u r) = begins_takes begins_primary refl t
begins_bare (g.group t r u) = begins_takes begins_primary refl t
begins_bare (g.size z) = begins_takes begins_primary refl (size_key z)
begins_bare (g.allocation t u r c z v) = begins_takes begins_primary refl t

begins_postfix : {s s' : State} {x : Expr} → Reads g.postfix s x s' → Begins begins_primary s.1
begins_postfix (g.index r t q u) = begins_postfix r
begins_postfix (g.dot r t u) = begins_postfix r
begins_postfix (g.arrow r t u) = begins_postfix r
begins_postfix (g.bare r) = begins_bare r

prefix_none : {ts : Tokens} → Begins begins_primary ts → meaning_at prefix_of ts ≡ None
prefix_none (begins {t = t} d) = no_prefix t.kind d

-- what may begin an expression
abbrev pub begins_expr : TokenKind → Bool
begins_expr (Mark m.Minus) = true
begins_expr (Mark m.Tilde) = true
begins_expr (Mark m.Bang) = true
begins_expr (Mark m.Star) = true
begins_expr (Mark m.Ampersand) = true
begins_expr k = begins_primary k

prefix_expr : (k : TokenKind) (op : Prefix) → prefix_of k ≡ Some op → begins_expr k ≡ true
prefix_expr (Mark m.Minus) op d = refl
prefix_expr (Mark m.Tilde) op d = refl
prefix_expr (Mark m.Bang) op d = refl
prefix_expr (Mark m.Star) op d = refl
prefix_expr (Mark m.Ampersand) op d = refl
prefix_expr _ op d = absurd cc

primary_expr : (k : TokenKind) → begins_primary k ≡ true → begins_expr k ≡ true
primary_expr (Mark m.Minus) d = refl
primary_expr (Mark m.Tilde) d = refl
primary_expr (Mark m.Bang) d = refl
primary_expr (Mark m.Star) d = refl
primary_expr (Mark m.Ampersand) d = refl
primary_expr _ d = d

begins_wider : {ts : Tokens} → Begins begins_primary ts → Begins begins_expr ts
begins_wider (begins {t = t} d) = begins (primary_expr t.kind d)

begins_prefix : {op : Prefix} {ts us : Tokens} → Means prefix_of op ts us → Begins begins_expr ts
begins_prefix {op} (means {t = t} d) = begins (prefix_expr t.kind op d)

pub begins_reads : {j : g.Sort} {s s' : State} {x : Expr} → Reads j s x s' → Begins begins_expr s.1
begins_reads (g.joined r t q) = begins_reads r
begins_reads (g.tighter lt r) = begins_reads r
begins_reads (g.operand r) = begins_reads r
begins_reads (g.prefixed t r) = begins_prefix t
begins_reads (g.plain r) = begins_reads r
begins_reads (g.index r t q u) = begins_reads r
begins_reads (g.dot r t u) = begins_reads r
begins_reads (g.arrow r t u) = begins_reads r
begins_reads (g.bare r) = begins_reads r
begins_reads (g.number t) = begins_takes begins_expr refl t
begins_reads (g.null t) = begins_takes begins_expr refl t
begins_reads (g.variable t) = begins_takes begins_expr refl t
begins_reads (g.call t u r) = begins_takes begins_expr refl t
begins_reads (g.group t r u) = begins_takes begins_expr refl t
begins_reads (g.size z) = begins_takes begins_expr refl (size_key z)
begins_reads (g.allocation t u r c z v) = begins_takes begins_expr refl t

begins_more : {s s' : State} {xs : List Expr} → More s xs s' → Begins begins_expr s.1
begins_more (g.last r t) = begins_reads r
begins_more (g.more r t q) = begins_reads r

arguments_open : (w : Name) (n : ℕ) {ts : Tokens} → Begins begins_expr ts → arguments_by parse w (mark_at ts) (n, ts) ≡ parse (more w []) (n, ts)
arguments_open w n (begins {t = t} {ts = ts} d) = by t.kind d
  where
    by : (k : TokenKind) → begins_expr k ≡ true → arguments_by parse w (mark_in (Some k)) (n, t ∷ ts) ≡ parse (more w []) (n, t ∷ ts)
    by (Mark m.RightParen) d = absurd cc
    by _ d = refl

-- ---- the parser reads each derivation

-- no arguments come next
abbrev NoCall : State → Type 0
NoCall s = (w : Name) → named_by parse w (mark_at s.1) s ≡ Ok (e.Var w, s)

-- what may come next
abbrev pub Follow : g.Sort → State → Type 0
Follow (g.level l) s = EndsAt l s
Follow g.unary s = Ends s
Follow g.postfix s = NoCall s
Follow g.primary s = NoCall s

-- Reading leads to where the loop of its sort stands.
abbrev pub Complete : g.Sort → State → Expr → State → Type 0
Complete (g.level l) s x s' = parse (whole l) s ≡ parse (climb l x) s'
Complete g.unary s x s' = parse unary s ≡ Ok (x, s')
Complete g.postfix s x s' = parse postfix s ≡ parse (suffix x) s'
Complete g.primary s x s' = parse primary s ≡ Ok (x, s')

-- a mark that begins no arguments
no_call : (k : the_mark.Mark) (n : ℕ) (t : Token) (ts : Tokens)
    → t.kind ≡ Mark k → ((w : Name) → named_by parse w (Some k) (n, t ∷ ts) ≡ Ok (e.Var w, (n, t ∷ ts))) → NoCall (n, t ∷ ts)
no_call k n t ts dt h w = ap (λ c. named_by parse w (mark_in (Some c)) (n, t ∷ ts)) dt ∙ h w

element_is : {ts us vs ws : Tokens} {a : CType} → Takes (Mark m.Comma) ts us → SizeOf us a vs → Takes (Mark m.RightParen) vs ws → element_size ts ≡ Ok (a, ws)
element_is t z u = rw (takes_expect t, complete_size z, takes_expect u) refl

mutual
  pub complete : {j : g.Sort} {s s' : State} {x : Expr} → Reads j s x s' → Follow j s' → Complete j s x s'
  complete (g.joined {p = p} {n = n} {s = s} {s' = s'} {x = x} {y = y} {op = op} r (means {t = t} {ts = ts} d) q) h =
      complete r (ends_infix p (suc n) op t ts d)
      ∙ parse_is (climb p x) (suc n, t ∷ ts)
      ∙ ap (λ v. climb_by parse p x v (suc n, t ∷ ts)) d
      ∙ ap (λ b. joined_by parse p x op b (suc n, t ∷ ts)) (eq-eqb p p refl)
      ∙ ap (λ o. bind o (λ z. parse (climb p (join op x z)))) (complete q (ends_more p s' h) ∙ h.climb (suc p) y (omega arith))
  complete (g.tighter {p = p} {s = s} {s' = s'} {x = x} lt r) h =
      parse_is (whole p) s
      ∙ ap (λ b. whole_by parse p b s) (lt-ltb p LEVELS lt)
      ∙ ap (λ o. bind o (λ z. parse (climb p z))) (complete r (ends_more p s' h) ∙ h.climb (suc p) x (omega arith))
  complete (g.operand {s = s} {s' = s'} {x = x} r) h =
      parse_is (whole LEVELS) s
      ∙ complete r h.operand
      ∙ sym (top_ends x s'.0 s'.1)
  complete (g.prefixed {n = n} {s' = s'} {x = x} {op = op} (means {t = t} {ts = ts} d) r) h =
      parse_is unary (suc n, t ∷ ts)
      ∙ ap (λ v. unary_by parse v (suc n, t ∷ ts)) d
      ∙ ap (λ o. bind o (λ z s. Ok (apply op z, s))) (complete r h)
  complete (g.plain {s = s} {s' = s'} {x = x} r) h =
      parse_is unary s
      ∙ ap (λ v. unary_by parse v s) (prefix_none (begins_postfix r))
      ∙ complete r h.name
      ∙ h.suffix x
  complete (g.index {n = n} {k = k} {s = s} {x = x} {i = i} r (takes {t = t} {ts = ts} dt) q u) h =
      let end = stops_takes k u refl in
      complete r (no_call m.LeftBracket (suc n) t ts dt (λ w. refl))
      ∙ parse_is (suffix x) (suc n, t ∷ ts)
      ∙ ap (λ c. suffix_by parse x (mark_in (Some c)) (suc n, t ∷ ts)) dt
      ∙ ap (λ o. bind (bind o (λ i s. bind (lift (expect m.RightBracket) s) (λ _ s. Ok (e.Index x i, s)))) (λ y. parse (suffix y)))
      (complete q (stops_at 0 _ end) ∙ end.climb 0 i)
      ∙ ap (λ o. bind (bind (keep k o) (λ _ s. Ok (e.Index x i, s))) (λ y. parse (suffix y))) (takes_expect u)
  complete (g.dot {n = n} {s = s} {x = x} {w = w} r (takes {t = t} dt) (takes {t = u} {ts = ts} du)) h =
      complete r (no_call m.Dot (suc n) t (u ∷ ts) dt (λ w. refl))
      ∙ parse_is (suffix x) (suc n, t ∷ u ∷ ts)
      ∙ ap (λ c. suffix_by parse x (mark_in (Some c)) (suc n, t ∷ u ∷ ts)) dt
      ∙ ap (λ o. bind (bind (keep n o) (λ w s. Ok (e.Dot x w, s))) (λ y. parse (suffix y))) (takes_word (takes du))
  complete (g.arrow {n = n} {s = s} {x = x} {w = w} r (takes {t = t} dt) (takes {t = u} {ts = ts} du)) h =
      complete r (no_call m.Arrow (suc n) t (u ∷ ts) dt (λ w. refl))
      ∙ parse_is (suffix x) (suc n, t ∷ u ∷ ts)
      ∙ ap (λ c. suffix_by parse x (mark_in (Some c)) (suc n, t ∷ u ∷ ts)) dt
      ∙ ap (λ o. bind (bind (keep n o) (λ w s. Ok (e.Arrow x w, s))) (λ y. parse (suffix y))) (takes_word (takes du))
  complete (g.bare {s = s} {s' = s'} {x = x} r) h =
      parse_is postfix s ∙ ap (λ o. bind o (λ z. parse (suffix z))) (complete r h)
  complete (g.number {n = n} {v = v} (takes {t = t} {ts = ts} dt)) h =
      parse_is primary (n, t ∷ ts) ∙ ap (λ k. primary_by parse (Some k) (n, t ∷ ts)) dt
  complete (g.null {n = n} (takes {t = t} {ts = ts} dt)) h =
      parse_is primary (n, t ∷ ts) ∙ ap (λ k. primary_by parse (Some k) (n, t ∷ ts)) dt
  complete (g.variable {n = n} {w = w} (takes {t = t} {ts = ts} dt)) h =
      parse_is primary (n, t ∷ ts) ∙ ap (λ k. primary_by parse (Some k) (n, t ∷ ts)) dt ∙ h w
  complete (g.call {n = n} {w = w} {xs = xs} {s' = s'} (takes {t = t} dt) (takes {t = u} {ts = ts} du) r) h =
      parse_is primary (suc n, t ∷ u ∷ ts)
      ∙ ap (λ c. primary_by parse (Some c) (suc n, t ∷ u ∷ ts)) dt
      ∙ ap (λ c. named_by parse w (mark_in (Some c)) (suc n, u ∷ ts)) du
      ∙ complete_arguments r w
  complete (g.group {n = n} {k = k} {x = x} (takes {t = t} {ts = ts} dt) r u) h =
      let end = stops_takes k u refl in
      parse_is primary (suc n, t ∷ ts)
      ∙ ap (λ c. primary_by parse (Some c) (suc n, t ∷ ts)) dt
      ∙ ap (λ o. bind o (λ x s. bind (lift (expect m.RightParen) s) (λ _ s. Ok (x, s)))) (complete r (stops_at 0 _ end) ∙ end.climb 0 x)
      ∙ ap (λ o. bind (keep k o) (λ _ s. Ok (x, s))) (takes_expect u)
  complete (g.size {n = n} {a = a} {ts = ts} z) h =
      parse_is primary (suc n, ts)
      ∙ ap (λ c. primary_by parse c (suc n, ts)) (takes_kind (size_key z))
      ∙ ap (λ o. bind (keep n o) (λ a s. Ok (e.SizeOf a, s))) (complete_operand z)
  complete (g.allocation {n = n} {k = k} {x = x} {a = a} (takes {t = t} {ts = ts} dt) u r c z v) h =
      let end = stops_takes k c refl in
      parse_is primary (suc (suc n), t ∷ ts)
      ∙ ap (λ c. primary_by parse (Some c) (suc (suc n), t ∷ ts)) dt
      ∙ ap (λ o. bind (bind (keep n o) (λ _. parse (whole 0))) (λ x s. bind (lift element_size s) (λ a s. Ok (e.Calloc x a, s)))) (takes_expect u)
      ∙ ap (λ o. bind o (λ x s. bind (lift element_size s) (λ a s. Ok (e.Calloc x a, s)))) (complete r (stops_at 0 _ end) ∙ end.climb 0 x)
      ∙ ap (λ o. bind (keep k o) (λ a s. Ok (e.Calloc x a, s))) (element_is c z v)

  complete_arguments : {s s' : State} {xs : List Expr} → Arguments s xs s' → (w : Name) → parse (arguments w) s ≡ Ok (e.Call w xs, s')
  complete_arguments (g.none {n = n} (takes {t = t} {ts = ts} dt)) w =
      parse_is (arguments w) (n, t ∷ ts) ∙ ap (λ c. arguments_by parse w (mark_in (Some c)) (n, t ∷ ts)) dt
  complete_arguments (g.some {s = s} r) w =
      parse_is (arguments w) s ∙ arguments_open w s.0 (begins_more r) ∙ complete_more r w []

  complete_more : {s s' : State} {xs : List Expr} → More s xs s' → (w : Name) (found : List Expr) → parse (more w found) s ≡ Ok (e.Call w (found ++ xs), s')
  complete_more (g.last {k = k} {s = s} {x = x} r (takes {t = u} {ts = us} du)) w found =
      let end = stops m.RightParen k u us du refl in
      parse_is (more w found) s
      ∙ ap (λ o. bind o (λ y s. more_by parse w (found ++ y ∷ []) (mark_at s.1) s)) (complete r (stops_at 0 (k, u ∷ us) end) ∙ end.climb 0 x)
      ∙ ap (λ c. more_by parse w (found ++ x ∷ []) (mark_in (Some c)) (k, u ∷ us)) du
  complete_more (g.more {k = k} {s = s} {s' = s'} {x = x} {xs = xs} r (takes {t = u} {ts = us} du) q) w found =
      let end = stops m.Comma k u us du refl in
      parse_is (more w found) s
      ∙ ap (λ o. bind o (λ y s. more_by parse w (found ++ y ∷ []) (mark_at s.1) s)) (complete r (stops_at 0 (k, u ∷ us) end) ∙ end.climb 0 x)
      ∙ ap (λ c. more_by parse w (found ++ x ∷ []) (mark_in (Some c)) (k, u ∷ us)) du
      ∙ complete_more q w (found ++ x ∷ [])
      ∙ ap (λ l. Ok (e.Call w l, s')) (append_assoc found (x ∷ []) xs)

-- ---- whole expressions and places

pub complete_expression : {ts us : Tokens} {x : Expr} → Expression ts x us → ((n : ℕ) → Stops (n, us)) → expression ts ≡ Ok (x, us)
complete_expression {x = x} q h = ap forget (complete q.reads (stops_at 0 _ (h q.left)) ∙ (h q.left).climb 0 x)

pub complete_place : {ts us : Tokens} {x : Expr} → Place ts x us → ((n : ℕ) → Stops (n, us)) → place ts ≡ Ok (x, us)
complete_place q h = ap forget (complete q.reads (h q.left).operand)

-- before a mark that stops
pub expression_before : {k : the_mark.Mark} {ts us vs : Tokens} {x : Expr}
    → is_stop k ≡ true → Expression ts x us → Takes (Mark k) us vs → expression ts ≡ Ok (x, us)
expression_before s q t = complete_expression q (λ n. stops_takes n t s)
