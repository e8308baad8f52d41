-- A call that is a statement looks at no token behind the one at which it stops, and passes none that makes a statement
-- of a place.
use Rattle.std.proofs.Common.{◌≡◌, ℕ, suc, ◌+◌, ◌<◌, ◌≤◌, Bool, true, false, nat_lt, List, [], ◌∷◌, ◌++◌, length, Option, Some, None, Ok, Err, refl, sym, ap, subst, ◌∙◌, arith}
use Rattle.std.proofs.lemmas.Bool.{ltb-true, ltb-false, lt-ltb, le-ltb}
use Rattle.al_source.specs.declared.tokens.Token.{Token}
use Rattle.al_source.specs.declared.tokens.TokenKind.{TokenKind}
use Rattle.al_source.specs.declared.tokens.TokenKind.TheVariants as kinds
use Rattle.al_source.specs.declared.tokens.TokenKind.TheVariants.{Word, Mark}
use Rattle.al_source.specs.declared.tokens.Mark as the_mark
use Rattle.al_source.specs.declared.tokens.Mark.TheVariants as m
use Rattle.al_source.specs.declared.operators.BinOp.{BinOp}
use Rattle.al_source.specs.declared.source_tree.Expr.{Expr}
use Rattle.al_source.specs.declared.source_tree.StmtKind.{StmtKind}
use Rattle.al_source.specs.declared.source_tree.StmtKind.TheVariants as kind
use Rattle.al_source.specs.Steps.{bind}
use Rattle.al_grammar.specs.Operators.{update_of, step_of}
use Rattle.al_grammar.specs.Phrases.{Tokens, Name, Takes, takes}
use Rattle.al_grammar.specs.Statements.{one}
use Rattle.al_grammar.specs.Steps.{Read, kind_at, meaning_in, expect}
use Rattle.al_grammar.specs.ExpressionParser.{expression, place}
use Rattle.al_grammar.specs.StatementParser.{value_by, value, values, call_values_by, call_values, call_end_by, call_end, call, assign_by, assign, placed, later_by, later, second, first, or_else}
use Rattle.al_grammar.proofs.StepFacts.{bind_ok, expect_takes}
use Rattle.al_grammar.proofs.SoundExpressions.{sound_expression}
use Rattle.al_grammar.proofs.SoundStatements.{value_shorter}
use Rattle.al_grammar.proofs.Wider.{expression_shorter}
use Rattle.al_grammar_laws.proofs.Local.{Ends, whole, after, is_plain, plain_kind, plain_mark, is_some, Cut, Alike, here, there, bare, left, Both, reads, stops, past, Local, binds, pures, refuses, looks_mark, looks_any, skips, passes, repeats}
use Rattle.al_grammar_laws.proofs.LocalTypes.{expects, expects_any}
use Rattle.al_grammar_laws.proofs.LocalExpressions.{expressions, places}

module _ {c : Cut} where
  pub value_local : (xs : List Expr) → Local c bare false (value xs)
  value_local xs = binds expressions (λ x. looks_mark (value_by (xs ++ x ∷ [])) (by (xs ++ x ∷ [])))
    where
      by : (xs : List Expr) (k : Option the_mark.Mark) → Local c bare (plain_mark k) (value_by xs k)
      by xs (Some m.Comma) = binds skips (λ _. pures (xs, false))
      by xs (Some m.RightParen) = binds skips (λ _. pures (xs, true))
      by xs _ = refuses

  pub values_local : {b : Bool} → Local c bare b values
  values_local = repeats value value_shorter value_local []

  pub call_values_local : Local c bare false call_values
  call_values_local = looks_mark call_values_by by
    where
      by : (k : Option the_mark.Mark) → Local c bare (plain_mark k) (call_values_by k)
      by (Some m.RightParen) = binds skips (λ _. pures [])
      by _ = values_local

  call_end_local : (k : StmtKind) → Local c bare false (call_end k)
  call_end_local k = looks_mark (call_end_by k) by
    where
      by : (q : Option the_mark.Mark) → Local c bare (plain_mark q) (call_end_by k q)
      by (Some m.Semicolon) = pures k
      by (Some m.RightParen) = pures k
      by _ = refuses

  call_local : (w : Name) → Local c bare true (call w)
  call_local w = binds (binds (binds skips (λ _. expects m.LeftParen refl)) (λ _. call_values_local)) (λ xs. call_end_local (kind.Call w xs))

-- ---- an assignment goes further than a call that begins as it does

pub alike_length : {c : Cut} {r r' : Tokens}
    → Alike c r r' → (k : ℕ) × (length r ≡ k + suc (length c.rest)) × (length r' ≡ k + suc (length c.other))
alike_length here = (0, omega arith, omega arith)
alike_length (there w) = let (k, a, b) = alike_length w in (suc k, omega arith, omega arith)

stopped : {c : Cut} {o o' : Read StmtKind} (a : Tokens) → (c.Passed → ⊥) → Both c bare o o' → o ≡ Err a → length c.rest < length a
stopped a never (reads x r w) e = cc
stopped a never (stops {r = r} w) e = let (k, is, other) = alike_length w in let same : length r ≡ length a = ap (λ o. length (left bare o)) e in omega arith
stopped a never (past p le le') e = absurd (never p)

ends_alike : {c : Cut} {ts us : Tokens} → Ends ts us → Alike c us us → Alike c ts ts
ends_alike whole h = h
ends_alike (after e) h = there (ends_alike e h)

updates : (k : TokenKind) → is_some (update_of k) ≡ true → is_plain k ≡ false
updates (Mark m.PlusAssign) d = refl
updates (Mark m.MinusAssign) d = refl
updates (Mark m.StarAssign) d = refl
updates (Mark m.SlashAssign) d = refl
updates (Mark m.PercentAssign) d = refl
updates (Mark m.AmpersandAssign) d = refl
updates (Mark m.PipeAssign) d = refl
updates (Mark m.CaretAssign) d = refl
updates (Mark m.ShiftLeftAssign) d = refl
updates (Mark m.ShiftRightAssign) d = refl
updates _ d = absurd cc

steps_one : (k : TokenKind) → is_some (step_of k) ≡ true → is_plain k ≡ false
steps_one (Mark m.Increment) d = refl
steps_one (Mark m.Decrement) d = refl
steps_one _ d = absurd cc

-- what makes a statement of a place, and is no part of an expression
record Assigns (ts us : Tokens) : Type 0 where
  token : Token
  rest : Tokens
  is : ts ≡ token ∷ rest
  assigns : is_plain token.kind ≡ false
  behind : length us ≤ length rest

assign_takes : (x : Expr) (ts : Tokens) (q : StmtKind × Tokens) → assign x ts ≡ Ok q → Assigns ts q.1
assign_takes x [] q e = absurd cc
assign_takes x (t ∷ ts) q e = by (update_of t.kind) (step_of t.kind) refl refl e
  where
    value : (k : Expr → StmtKind) → bind (expression ts) (λ y us. Ok (k y, us)) ≡ Ok q → length q.1 ≤ length ts
    value k e =
        let (p, dp, dk) = bind_ok (expression ts) (λ y us. Ok (k y, us)) e in
        let less = expression_shorter (sound_expression ts p dp) in
        let same : length p.1 ≡ length q.1 = ap (λ (o : Read StmtKind). length (left bare o)) dk in
        omega arith

    by_assign : (us : Tokens) → Takes (Mark m.Assign) (t ∷ ts) us → bind (expression us) (λ y us. Ok (kind.Assign x y, us)) ≡ Ok q → Assigns (t ∷ ts) q.1
    by_assign us (takes d) e =
        record { token = t; rest = ts; is = refl; assigns = ap is_plain d; behind = value (kind.Assign x) e }

    by : (u s : Option BinOp) → update_of t.kind ≡ u → step_of t.kind ≡ s → assign_by x u s (t ∷ ts) ≡ Ok q → Assigns (t ∷ ts) q.1
    by (Some op) s du ds e =
        record { token = t; rest = ts; is = refl; assigns = updates t.kind (ap is_some du); behind = value (kind.Update op x) e }
    by None (Some op) du ds e =
        let same : length ts ≡ length q.1 = ap (λ (o : Read StmtKind). length (left bare o)) e in
        record { token = t; rest = ts; is = refl; assigns = steps_one t.kind (ap is_some ds); behind = omega arith }
    by None None du ds e =
        let (y, dy, dk) = bind_ok (bind (expect m.Assign (t ∷ ts)) (λ _. expression)) (λ y us. Ok (kind.Assign x y, us)) e in
        let (o, do', dl) = bind_ok (expect m.Assign (t ∷ ts)) (λ _. expression) dy in
        by_assign o.1 (expect_takes m.Assign (t ∷ ts) o do') (rw dl dk)

-- Where an assignment is read, a call that begins as it does stops before what makes the assignment.
call_stops : (w : Name) (ts a : Tokens) (q : StmtKind × Tokens)
    → kind_at ts ≡ Some (Word w) → placed ts ≡ Ok q → call w ts ≡ Err a → length q.1 < length a
call_stops w ts a q d e f =
    let (x, dx, dk) = bind_ok (place ts) assign e in
    let s = assign_takes x.0 x.1 q dk in
    let never : is_plain s.token.kind ≡ true → ⊥ = λ g. let both : true ≡ false = sym g ∙ s.assigns in cc in
    let c : Cut = record { token = s.token; rest = s.rest; other = s.rest; Passed = is_plain s.token.kind ≡ true; plain = λ g. g } in
    let ends : Ends ts (s.token ∷ s.rest) = subst (Ends ts) s.is (subst (λ o. Ends ts (left bare o)) dx ((places {c = c} {b = false}).ends ts)) in
    let less = stopped {c = c} a never ((call_local w).both ts ts (λ _. ap plain_kind d) refl (ends_alike ends here)) f in
    let behind = s.behind in
    omega arith

-- ---- a call or an assignment

shifted : (k j x y : ℕ) → nat_lt (k + x) (j + x) ≡ nat_lt (k + y) (j + y)
shifted k j x y = by (nat_lt (k + y) (j + y)) refl
  where
    by : (b : Bool) → nat_lt (k + y) (j + y) ≡ b → nat_lt (k + x) (j + x) ≡ b
    by true e = let lt = ltb-true _ _ e in lt-ltb _ _ (omega arith)
    by false e = let le = ltb-false _ _ e in le-ltb _ _ (omega arith)

later_alike : {c : Cut} {a a' b b' : Tokens} → Alike c a a' → Alike c b b' → Alike c (later a b) (later a' b')
later_alike {c} {a} {a'} {b} {b'} v w =
    let (k, ka, ka') = alike_length v in
    let (j, jb, jb') = alike_length w in
    let same : nat_lt (length b) (length a) ≡ nat_lt (length b') (length a') =
    rw (ka, ka', jb, jb') (shifted j k (suc (length c.rest)) (suc (length c.other))) in
    by (nat_lt (length b) (length a)) (nat_lt (length b') (length a')) same
  where
    by : (x y : Bool) → x ≡ y → Alike c (later_by x a b) (later_by y a' b')
    by true true e = w
    by false false e = v
    by true false e = absurd cc
    by false true e = absurd cc

later_least : (a b : Tokens) → (length (later a b) ≤ length a) × (length (later a b) ≤ length b)
later_least a b = by (nat_lt (length b) (length a)) refl
  where
    by : (x : Bool) → nat_lt (length b) (length a) ≡ x → (length (later_by x a b) ≤ length a) × (length (later_by x a b) ≤ length b)
    by true e = let lt = ltb-true _ _ e in (omega arith, omega arith)
    by false e = let le = ltb-false _ _ e in (omega arith, omega arith)

later_ends : (ts a b : Tokens) → Ends ts a → Ends ts b → Ends ts (later a b)
later_ends ts a b v w = by (nat_lt (length b) (length a))
  where
    by : (x : Bool) → Ends ts (later_by x a b)
    by true = w
    by false = v

first_ends : (ts : Tokens) (o q : Read StmtKind) → Ends ts (left bare o) → Ends ts (left bare q) → Ends ts (left bare (first o q))
first_ends ts (Ok p) q v w = v
first_ends ts (Err a) (Ok p) v w = w
first_ends ts (Err a) (Err b) v w = later_ends ts a b v w

-- whether an answer of the second is further than the fault of the first
abbrev Further : Read StmtKind → Read StmtKind → Type 0
Further (Err a) (Ok q) = length q.1 < length a
Further _ _ = Unit {0}

first_past : (n : ℕ) (o q : Read StmtKind) → Further o q → length (left bare o) ≤ n → length (left bare (first o q)) ≤ n
first_past n (Ok p) q f le = le
first_past n (Err a) (Ok p) f le = omega arith
first_past n (Err a) (Err b) f le = let least = later_least a b in omega (arith, least.0)

second_past : (n : ℕ) (r : Tokens) (q : Read StmtKind) → length (left bare q) ≤ n → length (left bare (second r q)) ≤ n
second_past n r (Ok p) le = le
second_past n r (Err b) le = let least = later_least r b in omega (arith, least.1)

second_both : {c : Cut} {q q' : Read StmtKind} (r r' : Tokens) → Alike c r r' → Both c bare q q' → Both c bare (second r q) (second r' q')
second_both r r' v (reads k e w) = reads k e w
second_both r r' v (stops w) = stops (later_alike v w)
second_both {c} r r' v (past {o = q} {o' = q'} p le le') = past p (second_past (length c.rest) r q le) (second_past (length c.other) r' q' le')

first_both : {c : Cut} {o o' q q' : Read StmtKind}
    → Both c bare o o' → Both c bare q q' → Further o q → Further o' q' → Both c bare (first o q) (first o' q')
first_both (reads k e w) b f f' = reads k e w
first_both (stops {r = r} {r' = r'} w) b f f' = second_both r r' w b
first_both {c} {q = q} {q' = q'} (past {o = o} {o' = o'} p le le') b f f' =
    past p (first_past (length c.rest) o q f le) (first_past (length c.other) o' q' f' le')

abbrev pub some_cut : Cut
some_cut = record { token = record { kind = kinds.EndAlter; line = 0; start = 0; end = 0 }; rest = []; other = []; Passed = Unit {0}; plain = λ _. tt }

further : (w : Name) (ts : Tokens) → kind_at ts ≡ Some (Word w) → Further (call w ts) (placed ts)
further w ts d = by (call w ts) (placed ts) refl refl
  where
    by : (o q : Read StmtKind) → call w ts ≡ o → placed ts ≡ q → Further o q
    by (Ok p) q e f = tt
    by (Err a) (Ok q) e f = call_stops w ts a q d f e
    by (Err a) (Err b) e f = tt

module _ {c : Cut} (p : c.Passed) where
  assign_local : (x : Expr) → Local c bare false (assign x)
  assign_local x = looks_any (λ k. assign_by x (meaning_in update_of k) (meaning_in step_of k)) (λ k. by (meaning_in update_of k) (meaning_in step_of k))
    where
      by : (u s : Option BinOp) → Local c bare false (assign_by x u s)
      by (Some op) s = binds (binds (passes p) (λ _. expressions)) (λ y. pures (kind.Update op x y))
      by None (Some op) = binds (passes p) (λ _. pures (kind.Update op x one))
      by None None = binds (binds (expects_any p m.Assign) (λ _. expressions)) (λ y. pures (kind.Assign x y))

  pub placed_local : {b : Bool} → Local c bare b placed
  placed_local = binds places assign_local

  -- Alike lists begin alike.
  pub named_local : (w : Name) (ts us : Tokens) → kind_at ts ≡ Some (Word w) → Alike c ts us → kind_at us ≡ Some (Word w)
      → Both c bare (or_else (call w) placed ts) (or_else (call w) placed us)
  named_local w ts us d a d' =
      first_both ((call_local w).both ts us (λ _. ap plain_kind d) refl a) ((placed_local {b = false}).both ts us (λ e. absurd cc) refl a) (further w ts d)
      (further w us d')

pub named_ends : (w : Name) (ts : Tokens) → Ends ts (left bare (or_else (call w) placed ts))
named_ends w ts = first_ends ts (call w ts) (placed ts) ((call_local {c = some_cut} w).ends ts) ((placed_local {c = some_cut} tt {b = false}).ends ts)
