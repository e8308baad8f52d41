-- Simple statements, annotations and the heads of loops that are cut off can be completed.
use Rattle.std.proofs.Common.{◌≡◌, ℕ, Bool, true, false, nat_lt, List, [], ◌∷◌, ◌++◌, length, Option, Some, None, Ok, Err, refl, ap, subst, ◌⊎◌, inl, inr}
use Rattle.al_source.specs.declared.tokens.TokenKind.{TokenKind}
use Rattle.al_source.specs.declared.tokens.TokenKind.TheVariants.{Word, Text, Key, Mark, EndAlter}
use Rattle.al_source.specs.declared.tokens.Mark as the_mark
use Rattle.al_source.specs.declared.tokens.Mark.TheVariants as m
use Rattle.al_source.specs.declared.tokens.Key.TheVariants as key
use Rattle.al_source.specs.declared.texts.Piece.{Piece}
use Rattle.al_source.specs.declared.operators.BinOp.{BinOp}
use Rattle.al_source.specs.declared.operators.RedOp.{RedOp}
use Rattle.al_source.specs.declared.operators.RedOp.TheVariants as r
use Rattle.al_source.specs.declared.annotations.Policy.{Policy}
use Rattle.al_source.specs.declared.annotations.Policy.TheVariants as policy
use Rattle.al_source.specs.declared.annotations.CommitOrder.{CommitOrder}
use Rattle.al_source.specs.declared.annotations.CommitOrder.TheVariants as order
use Rattle.al_source.specs.declared.annotations.LoopNote.{LoopNote}
use Rattle.al_source.specs.declared.annotations.NamedRed.{NamedRed}
use Rattle.al_source.specs.declared.source_tree.CType.{CType}
use Rattle.al_source.specs.declared.source_tree.Field.{Field}
use Rattle.al_source.specs.declared.source_tree.Expr.{Expr}
use Rattle.al_source.specs.declared.source_tree.Stmt.{Stmt}
use Rattle.al_source.specs.declared.source_tree.StmtKind.{StmtKind}
use Rattle.al_source.specs.declared.source_tree.StmtKind.TheVariants as kind
use Rattle.al_source.specs.Steps.{bind, pure}
use Rattle.al_grammar.specs.declared.operators.NoteWord.{NoteWord}
use Rattle.al_grammar.specs.declared.operators.NoteWord.TheVariants as note
use Rattle.al_grammar.specs.Operators.{update_of, step_of, note_word_of}
use Rattle.al_grammar.specs.Phrases.{Tokens, Name, Takes, takes, Means, means, line_at}
use Rattle.al_grammar.specs.Words.{key_text}
use Rattle.al_grammar.specs.Types.{Base, Declarator}
use Rattle.al_grammar.specs.Expressions.{Expression, Place}
use Rattle.al_grammar.specs.Statements.{else_next, statement_of, at, one, reduced, Values, CallValues, PrintValues, Parenthesized, Simple, NotePolicy, NoteOrder, Reduced, Reductions, Note, Maybe, First, Third, Head, Initializer, Locals}
use Rattle.al_grammar.specs.Statements as g
use Rattle.al_grammar.specs.Steps.{Read, Step, kind_at, mark_at, key_at, meaning_at, tail, is_mark, expect, repeat}
use Rattle.al_grammar.specs.TypeParser.{base}
use Rattle.al_grammar.specs.ExpressionParser.{expression}
use Rattle.al_grammar.specs.StatementParser as p
use Rattle.al_grammar.proofs.StepFacts.{kind_takes, mark_takes, is_mark_takes, at_means}
use Rattle.al_grammar.proofs.SoundStatements.{value_shorter, variable_shorter, reduce_shorter, local_shorter}
use Rattle.al_grammar_laws.proofs.Completion.{token_of, bare, Relation, Completed, On, Full, Then, completes_then, completes_as, on_then, then, on_gives, gives, maps, on_maps, anywhere, looks, full, pures, OneToken, refuses, skips, skips_means, one_token, expects, expects_key, names, repeats}
use Rattle.al_grammar_laws.proofs.CompletedTypes.{bases, declarators}
use Rattle.al_grammar_laws.proofs.CompletedExpressions.{AnExpression, expressions, places}

-- ---- what stands between the parts of a list, and behind the last

abbrev pub mark_for : the_mark.Mark → Bool → the_mark.Mark
mark_for behind true = behind
mark_for behind false = m.Comma

abbrev pub AMark : {A : Type 0} → the_mark.Mark → Relation Tokens (A × Bool)
AMark behind ts r us = Takes (Mark (mark_for behind r.1)) ts us

pub mark_phrase : {A : Type 0} (a : A) (behind : the_mark.Mark) → Completed bare (AMark {A = A} behind) []
mark_phrase a behind = record { more = token_of (Mark behind) ∷ []; answer = (a, true); end = tt; plain = refl; reads = λ zs z. takes refl }

pub between : {A : Type 0} (a : A) (behind : the_mark.Mark) → On bare (λ ts. mark_at ts ≡ Some m.Comma) (AMark {A = A} behind) (λ ts. Ok ((a, false), tail ts))
between a behind = on_gives (λ _. (a, false)) (λ ts _ us t. t) (skips (λ ts d. mark_takes ts d))

pub behind_all : {A : Type 0} (a : A) (behind : the_mark.Mark) → On bare (λ ts. mark_at ts ≡ Some behind) (AMark {A = A} behind) (λ ts. Ok ((a, true), tail ts))
behind_all a behind = on_gives (λ _. (a, true)) (λ ts _ us t. t) (skips (λ ts d. mark_takes ts d))

-- ---- calls that are statements

value_marks : (xs : List Expr) → Full bare (AMark m.RightParen) (λ ts. p.value_by xs (mark_at ts) ts)
value_marks xs = full (looks mark_at (p.value_by xs) by) (λ _. mark_phrase xs m.RightParen)
  where
    by : (k : Option the_mark.Mark) → On bare (λ ts. mark_at ts ≡ k) (AMark m.RightParen) (p.value_by xs k)
    by (Some m.Comma) = between xs m.RightParen
    by (Some m.RightParen) = behind_all xs m.RightParen
    by _ = refuses (mark_phrase xs m.RightParen)

abbrev ValueTurn : Relation Tokens Bool
ValueTurn ts b us = (k : Tokens) × ((x : Expr) × Expression ts x k) × Takes (Mark (mark_for m.RightParen b)) k us

value_turns : (xs : List Expr) → Full bare (λ ts r us. ValueTurn ts r.1 us) (p.value xs)
value_turns xs = maps (λ ts r us p. let (x, k, q, t) = p in (k, q, t)) (then expressions (λ x. value_marks (xs ++ x ∷ [])))

abbrev pub SomeValues : Tokens → Tokens → Type 0
SomeValues ts us = (xs : List Expr) × Values ts xs us

values_stop : (ts us : Tokens) → ValueTurn ts true us → SomeValues ts us
values_stop ts us (k, (x, q), t) = (x ∷ [], g.last q t)

values_next : (ts us vs : Tokens) → ValueTurn ts false us → SomeValues us vs → SomeValues ts vs
values_next ts us vs (k, (x, q), t) (xs, r) = (x ∷ xs, g.more q t r)

abbrev pub AllValues : Relation Tokens (List Expr)
AllValues ts xs us = SomeValues ts us

pub all_values : Full bare AllValues p.values
all_values =
    repeats p.value value_shorter ValueTurn SomeValues values_stop values_next value_turns
    (completes_as (λ r. tt) (λ ts r us q. values_stop ts us q)
    (completes_as {T = λ ts (r : Unit {0}) us. ValueTurn ts true us} (λ _. tt) (λ ts _ us p. let (x, k, q, t) = p in (k, q, t))
    (completes_then (expressions.phrase tt) (λ x _. one_token (Mark m.RightParen) refl)))) []

abbrev SomeCall : Relation Tokens (List Expr)
SomeCall ts _ us = (xs : List Expr) × CallValues ts xs us

call_values : Full bare SomeCall p.call_values
call_values = full (looks mark_at p.call_values_by by) (λ _. completes_as (λ _. []) (λ ts _ us t. ([], g.none t)) (one_token (Mark m.RightParen) refl))
  where
    some : Full bare SomeCall p.values
    some = maps (λ ts _ us p. let (xs, r) = p in (xs, g.some r)) all_values

    by : (k : Option the_mark.Mark) → On bare (λ ts. mark_at ts ≡ k) SomeCall (p.call_values_by k)
    by (Some m.RightParen) = on_gives (λ _. []) (λ ts _ us t. ([], g.none t)) (skips (λ ts d. mark_takes ts d))
    by _ = record { fine = λ ts d. some.fine ts }

abbrev SomePrint : Relation Tokens (List Expr)
SomePrint ts _ us = (xs : List Expr) × PrintValues ts xs us

no_print_values : Completed bare SomePrint []
no_print_values = completes_as (λ _. []) (λ ts _ us t. ([], g.none t)) (one_token (Mark m.RightParen) refl)

print_values : Full bare SomePrint p.print_values
print_values = full (looks mark_at p.print_values_by by) (λ _. no_print_values)
  where
    by : (k : Option the_mark.Mark) → On bare (λ ts. mark_at ts ≡ k) SomePrint (p.print_values_by k)
    by (Some m.RightParen) = on_gives (λ _. []) (λ ts _ us t. ([], g.none t)) (skips (λ ts d. mark_takes ts d))
    by (Some m.Comma) =
        on_maps (λ ts _ us p. let (_, k, t, (xs, r)) = p in (xs, g.some t r)) (on_then (skips (λ ts d. mark_takes ts d)) (λ _. all_values))
    by _ = refuses no_print_values

abbrev AText : Relation Tokens (List Piece)
AText ts f us = Takes (Text f) ts us

a_text : Completed bare AText []
a_text = record { more = token_of (Text []) ∷ []; answer = []; end = tt; plain = refl; reads = λ zs z. takes refl }

texts : Full bare AText p.text
texts = full (looks kind_at p.text_by by) (λ _. a_text)
  where
    by : (k : Option TokenKind) → On bare (λ ts. kind_at ts ≡ k) AText (p.text_by k)
    by (Some (Text f)) = on_gives (λ _. f) (λ ts _ us t. t) (skips (λ ts d. kind_takes ts d))
    by _ = refuses a_text

-- what stands behind the `printf`
record IsPrint (ts us : Tokens) : Type 0 where
  inside : Tokens
  behind : Tokens
  format : List Piece
  values : List Expr
  opens : Takes (Mark m.LeftParen) ts inside
  text : Takes (Text format) inside behind
  reads : PrintValues behind values us

abbrev APrint : Relation Tokens StmtKind
APrint ts k us = IsPrint ts us

prints : Full bare APrint p.print
prints =
    maps (λ ts k us p. let (f, b, (_, i, t, u), (xs, r)) = p in
    record { inside = i; behind = b; format = f; values = xs; opens = t; text = u; reads = r })
    (then (then (expects m.LeftParen) (λ _. texts)) (λ f. gives {T = λ ts k us. SomePrint ts [] us} (λ xs. kind.Print f xs) (λ ts xs us p. p) print_values))

abbrev pub SomeParenthesized : Relation Tokens Expr
SomeParenthesized ts _ us = (x : Expr) × Parenthesized ts x us

pub parentheses : Full bare SomeParenthesized p.parenthesized
parentheses =
    maps (λ ts _ us p. let (_, k, (_, i, t, (x, q)), (_, u)) = p in (x, g.parenthesized t q u))
    (then (then (expects m.LeftParen) (λ _. expressions))
    (λ x. gives {T = λ ts y us. Unit {0} × Takes (Mark m.RightParen) ts us} (λ _. x) (λ ts _ us t. (tt, t)) (expects m.RightParen)))

-- ---- assignments

abbrev pub ASimple : Relation Tokens StmtKind
ASimple ts _ us = (k : StmtKind) × Simple ts k us

-- what stands behind a place
abbrev AfterPlace : Relation Tokens StmtKind
AfterPlace ts _ us = (s : Tokens) → (x : Expr) → Place s x ts → (k : StmtKind) × Simple s k us

by_assign : (x : Expr) → Full bare AfterPlace (λ ts. bind (bind (expect m.Assign ts) (λ _. expression)) (λ y. pure (kind.Assign x y)))
by_assign x =
    gives (kind.Assign x) (λ ts _ us p s x' q. let (_, k, t, (y, r)) = p in (kind.Assign x' y, g.assign q t r)) (then (expects m.Assign) (λ _. expressions))

assigns : (x : Expr) → Full bare AfterPlace (p.assign x)
assigns x = full (looks (meaning_at update_of) (λ u ts. p.assign_by x u (meaning_at step_of ts) ts) by) (by_assign x).phrase
  where
    by_step : (o : Option BinOp) → On bare (λ ts. meaning_at step_of ts ≡ o) AfterPlace (p.assign_by x None o)
    by_step (Some op) =
        on_gives (λ _. kind.Update op x one) (λ ts _ us t s x' q. (kind.Update op x' one, g.step_after q t)) (skips_means (λ ts d. at_means ts d))
    by_step None = anywhere (by_assign x)

    by : (u : Option BinOp) → On bare (λ ts. meaning_at update_of ts ≡ u) AfterPlace (λ ts. p.assign_by x u (meaning_at step_of ts) ts)
    by (Some op) =
        on_gives (kind.Update op x) (λ ts _ us p s x' q. let (_, k, t, (y, r)) = p in (kind.Update op x' y, g.update q t r))
        (on_then (skips_means (λ ts d. at_means ts d)) (λ _. expressions))
    by None = looks (meaning_at step_of) (p.assign_by x None) by_step

pub placed : Full bare ASimple p.placed
placed = maps (λ ts _ us p. let (x, k, (x', q), a) = p in a ts x' q) (then places assigns)

-- ---- a call, where the statement ends behind it

abbrev Here : Relation Tokens StmtKind
Here ts _ us = ts ≡ us

here_phrase : (k : StmtKind) → Completed bare Here []
here_phrase k = record { more = []; answer = k; end = tt; plain = refl; reads = λ zs z. refl }

call_ends : (k : StmtKind) → Full bare Here (p.call_end k)
call_ends k = full (looks mark_at (p.call_end_by k) by) (λ _. here_phrase k)
  where
    by : (q : Option the_mark.Mark) → On bare (λ ts. mark_at ts ≡ q) Here (p.call_end_by k q)
    by (Some m.Semicolon) = pures k (λ ts d zs z. refl)
    by (Some m.RightParen) = pures k (λ ts d zs z. refl)
    by _ = refuses (here_phrase k)

calls : (w : Name) → On bare (λ ts. kind_at ts ≡ Some (Word w)) ASimple (p.call w)
calls w =
    on_maps (λ ts _ us p.
    let (_, k, (_, j, (_, i, t, u), (xs, r)), same) = p in
    (kind.Call w xs, subst (λ us. Simple ts (kind.Call w xs) us) same (g.call t u r)))
    (on_then (on_then (on_then (skips (λ ts d. kind_takes ts d)) (λ _. expects m.LeftParen)) (λ _. call_values)) (λ xs. call_ends (kind.Call w xs)))

-- ---- a call or an assignment

first_ok : {A : Type 0} (o q : Read A) (a : A × Tokens) → p.first o q ≡ Ok a → (o ≡ Ok a) ⊎ (q ≡ Ok a)
first_ok (Ok x) q a e = inl e
first_ok (Err r) (Ok x) a e = inr e
first_ok (Err r) (Err t) a e = absurd cc

later_none : (b : Bool) (r t : Tokens) → p.later_by b r t ≡ [] → (r ≡ []) ⊎ (t ≡ [])
later_none true r t e = inr e
later_none false r t e = inl e

first_err : (o q : Read StmtKind) → p.first o q ≡ Err [] → (o ≡ Err []) ⊎ (q ≡ Err [])
first_err (Ok x) q e = absurd cc
first_err (Err r) (Ok x) e = absurd cc
first_err (Err r) (Err t) e = by (later_none (nat_lt (length t) (length r)) r t cc)
  where
    by : (r ≡ []) ⊎ (t ≡ []) → (◌≡◌ {A = Read StmtKind} (Err r) (Err [])) ⊎ (◌≡◌ {A = Read StmtKind} (Err t) (Err []))
    by (inl d) = inl (ap Err d)
    by (inr d) = inr (ap Err d)

either : {C : Tokens → Type 0} {R : Relation Tokens StmtKind} {f q : Step StmtKind} → On bare C R f → On bare C R q → On bare C R (p.or_else f q)
either {C} {R} {f} {q} o o' = record {
  fine = λ ts c. record {
    reads = λ a u e zs z. read ts c a u zs z (first_ok (f ts) (q ts) (a, u) e);
    completes = λ e. completed ts c (first_err (f ts) (q ts) e);
  };
}
  where
    read : (ts : Tokens) → C ts → (a : StmtKind) (u zs : Tokens) → else_next zs ≡ false → (f ts ≡ Ok (a, u)) ⊎ (q ts ≡ Ok (a, u)) → R (ts ++ zs) a (u ++ zs)
    read ts c a u zs z (inl e) = (o.fine ts c).reads a u e zs z
    read ts c a u zs z (inr e) = (o'.fine ts c).reads a u e zs z

    completed : (ts : Tokens) → C ts → (f ts ≡ Err []) ⊎ (q ts ≡ Err []) → Completed bare R ts
    completed ts c (inl e) = (o.fine ts c).completes e
    completed ts c (inr e) = (o'.fine ts c).completes e

others : Full bare ASimple (λ ts. p.before_by (meaning_at step_of ts) ts)
others = full (looks (meaning_at step_of) p.before_by by) placed.phrase
  where
    by : (o : Option BinOp) → On bare (λ ts. meaning_at step_of ts ≡ o) ASimple (p.before_by o)
    by (Some op) =
        on_gives (λ x. kind.Update op x one) (λ ts _ us p. let (_, k, t, (x, q)) = p in (kind.Update op x one, g.step_before t q))
        (on_then (skips_means (λ ts d. at_means ts d)) (λ _. places))
    by None = anywhere placed

pub simples : Full bare ASimple p.simple
simples = full (looks kind_at p.simple_by by) placed.phrase
  where
    by : (k : Option TokenKind) → On bare (λ ts. kind_at ts ≡ k) ASimple (p.simple_by k)
    by (Some (Word w)) = either (calls w) (anywhere placed)
    by (Some (Key key.Printf)) =
        on_maps (λ ts _ us p. let (_, k, t, q) = p in (kind.Print q.format q.values, g.print t q.opens q.text q.reads))
        (on_then (skips (λ ts d. kind_takes ts d)) (λ _. prints))
    by (Some (Key key.Free)) =
        on_maps (λ ts _ us p. let (_, k, t, (x, q)) = p in (kind.Call (key_text key.Free) (x ∷ []), g.free t q))
        (on_then (skips (λ ts d. kind_takes ts d))
        (λ _. gives {T = λ ts k us. SomeParenthesized ts one us} (λ x. kind.Call (key_text key.Free) (x ∷ [])) (λ ts x us p. p) parentheses))
    by _ = record { fine = λ ts d. others.fine ts }

-- ---- annotations

abbrev SomePolicy : Relation Tokens Policy
SomePolicy ts _ us = (a : Policy) × NotePolicy ts a us

policies : Full bare SomePolicy p.note_policy
policies =
    full (looks (meaning_at note_word_of) p.policy_by by)
    (λ _. record { more = []; answer = policy.Raw; end = tt; plain = refl; reads = λ zs z. (policy.Raw, g.absent) })
  where
    by : (o : Option NoteWord) → On bare (λ ts. meaning_at note_word_of ts ≡ o) SomePolicy (p.policy_by o)
    by (Some (note.Policy a)) = on_gives (λ _. a) (λ ts _ us t. (a, g.written t)) (skips_means (λ ts d. at_means ts d))
    by _ = pures policy.Raw (λ ts d zs z. (policy.Raw, g.absent))

abbrev SomeOrder : Relation Tokens CommitOrder
SomeOrder ts _ us = (a : CommitOrder) × NoteOrder ts a us

orders : Full bare SomeOrder p.note_order
orders =
    full (looks (meaning_at note_word_of) p.order_by by)
    (λ _. record { more = []; answer = order.InOrder; end = tt; plain = refl; reads = λ zs z. (order.InOrder, g.absent) })
  where
    by : (o : Option NoteWord) → On bare (λ ts. meaning_at note_word_of ts ≡ o) SomeOrder (p.order_by o)
    by (Some (note.Order a)) = on_gives (λ _. a) (λ ts _ us t. (a, g.written t)) (skips_means (λ ts d. at_means ts d))
    by _ = pures order.InOrder (λ ts d zs z. (order.InOrder, g.absent))

abbrev AnOperator : Relation Tokens RedOp
AnOperator ts _ us = (op : RedOp) × Means note_word_of (note.Operator op) ts us

an_operator : Completed bare AnOperator []
an_operator = record { more = token_of (Mark m.Plus) ∷ []; answer = r.Add; end = tt; plain = refl; reads = λ zs z. (r.Add, means refl) }

operators : Full bare AnOperator p.operator
operators = full (looks (meaning_at note_word_of) p.operator_by by) (λ _. an_operator)
  where
    by : (o : Option NoteWord) → On bare (λ ts. meaning_at note_word_of ts ≡ o) AnOperator (p.operator_by o)
    by (Some (note.Operator op)) = on_gives (λ _. op) (λ ts _ us t. (op, t)) (skips_means (λ ts d. at_means ts d))
    by _ = refuses an_operator

variable_marks : (rs : List NamedRed) → Full bare (AMark m.RightParen) (λ ts. p.reduced_by rs (mark_at ts) ts)
variable_marks rs = full (looks mark_at (p.reduced_by rs) by) (λ _. mark_phrase rs m.RightParen)
  where
    by : (k : Option the_mark.Mark) → On bare (λ ts. mark_at ts ≡ k) (AMark m.RightParen) (p.reduced_by rs k)
    by (Some m.Comma) = between rs m.RightParen
    by (Some m.RightParen) = behind_all rs m.RightParen
    by _ = refuses (mark_phrase rs m.RightParen)

abbrev VariableTurn : Relation Tokens Bool
VariableTurn ts b us = (k : Tokens) × ((w : Name) × Takes (Word w) ts k) × Takes (Mark (mark_for m.RightParen b)) k us

-- The variables may be reduced by any operator.
abbrev SomeVariables : Tokens → Tokens → Type 0
SomeVariables ts us = (op : RedOp) → (rs : List NamedRed) × Reduced op ts rs us

variables_stop : (ts us : Tokens) → VariableTurn ts true us → SomeVariables ts us
variables_stop ts us (k, (w, t), u) op = (reduced op w ∷ [], g.last t u)

variables_next : (ts us vs : Tokens) → VariableTurn ts false us → SomeVariables us vs → SomeVariables ts vs
variables_next ts us vs (k, (w, t), u) h op = let (rs, q) = h op in (reduced op w ∷ rs, g.more t u q)

all_variables : (op : RedOp) (rs : List NamedRed) → Full bare (λ ts _ us. SomeVariables ts us) (repeat (p.variable op) rs)
all_variables op =
    repeats (p.variable op) (variable_shorter op) VariableTurn SomeVariables variables_stop variables_next
    (λ rs. maps (λ ts r us p. let (w, k, t, u) = p in (k, (w, t), u)) (then names (λ w. variable_marks (rs ++ reduced op w ∷ []))))
    (completes_as (λ r. tt) (λ ts r us p. let (w, k, t, u) = p in variables_stop ts us (k, (w, t), u))
    (completes_then (names.phrase tt) (λ w _. one_token (Mark m.RightParen) refl)))

-- what stands behind one `reduce`
record IsReduction (ts us : Tokens) : Type 0 where
  opened : Tokens
  named : Tokens
  inside : Tokens
  op : RedOp
  opens : Takes (Mark m.LeftParen) ts opened
  operator : Means note_word_of (note.Operator op) opened named
  colon : Takes (Mark m.Colon) named inside
  variables : SomeVariables inside us

reductions : (rs : List NamedRed) → Full bare (λ ts _ us. IsReduction ts us) (p.reduction rs)
reductions rs =
    maps (λ ts _ us p. let (_, n, (_, o, t, (op, u)), (_, i, v, h)) = p in
    record { opened = o; named = n; inside = i; op = op; opens = t; operator = u; colon = v; variables = h })
    (then (then (expects m.LeftParen) (λ _. operators)) (λ op. then (expects m.Colon) (λ _. all_variables op rs)))

abbrev ReduceTurn : Relation Tokens Bool
ReduceTurn ts true us = ts ≡ us
ReduceTurn ts false us = (k : Tokens) × Means note_word_of note.Reduce ts k × IsReduction k us

abbrev SomeReductions : Tokens → Tokens → Type 0
SomeReductions ts us = (rs : List NamedRed) × Reductions ts rs us

reductions_stop : (ts us : Tokens) → ReduceTurn ts true us → SomeReductions ts us
reductions_stop ts us same = ([], subst (Reductions ts []) same g.none)

reductions_next : (ts us vs : Tokens) → ReduceTurn ts false us → SomeReductions us vs → SomeReductions ts vs
reductions_next ts us vs (k, t, q) (rs, r) = let (ns, w) = q.variables q.op in (ns ++ rs, g.reduce t q.opens q.operator q.colon w r)

no_reductions : (rs : List NamedRed) → Completed bare (λ ts (r : List NamedRed × Bool) us. ReduceTurn ts r.1 us) []
no_reductions rs = record { more = []; answer = (rs, true); end = tt; plain = refl; reads = λ zs z. refl }

reduce_turns : (rs : List NamedRed) → Full bare (λ ts r us. ReduceTurn ts r.1 us) (p.reduce_turn rs)
reduce_turns rs = full (looks (meaning_at note_word_of) (p.reduce_by rs) by) (λ _. no_reductions rs)
  where
    by : (o : Option NoteWord) → On bare (λ ts. meaning_at note_word_of ts ≡ o) (λ ts r us. ReduceTurn ts r.1 us) (p.reduce_by rs o)
    by (Some note.Reduce) =
        on_gives (λ all. (all, false)) (λ ts _ us p. let (_, k, t, q) = p in (k, t, q)) (on_then (skips_means (λ ts d. at_means ts d)) (λ _. reductions rs))
    by _ = pures (rs, true) (λ ts d zs z. refl)

abbrev pub SomeNote : Relation Tokens LoopNote
SomeNote ts _ us = (n : LoopNote) × Note ts n us

pub notes : Full bare SomeNote p.loop_note
notes =
    maps (λ ts _ us p. let (_, k, (a, q), (_, l, (o, q'), (rs, r))) = p in (record { policy = a; order = o; reduce = rs }, g.note q q' r))
    (then policies
    (λ a. then orders
    (λ o. gives {T = λ ts n us. SomeReductions ts us} (λ rs. record { policy = a; order = o; reduce = rs }) (λ ts rs us p. p)
    (repeats p.reduce_turn reduce_shorter ReduceTurn SomeReductions reductions_stop reductions_next reduce_turns
    (record { more = []; answer = tt; end = tt; plain = refl; reads = λ zs z. ([], g.none) }) []))))

pub end_notes : Full bare (OneToken (Takes EndAlter)) p.end_note
end_notes = full (looks kind_at p.end_note_by by) (λ _. one_token EndAlter refl)
  where
    by : (k : Option TokenKind) → On bare (λ ts. kind_at ts ≡ k) (OneToken (Takes EndAlter)) (p.end_note_by k)
    by (Some EndAlter) = skips (λ ts d. kind_takes ts d)
    by _ = refuses (one_token EndAlter refl)

-- ---- the head of a loop

-- a statement of the line that stands here
pub lines : {R : Relation Tokens StmtKind} {T : Relation Tokens Stmt} {f : Step StmtKind}
    → ((ts : Tokens) (k : StmtKind) (x : Stmt) (us : Tokens) → R ts k us → T ts x us) → Full bare R f → Full bare T (p.lined f)
lines {R} {T} {f} h o =
    full (looks line_at (λ n ts. bind (f ts) (λ k. pure (statement_of n k))) (λ n. anywhere (lined n))) (λ k. (lined 0).phrase k)
  where
    lined : (n : ℕ) → Full bare T (λ ts. bind (f ts) (λ k. pure (statement_of n k)))
    lined n = gives (statement_of n) (λ ts k us p. h ts k (statement_of n k) us p) o

abbrev pub SomeMaybe : Relation Tokens (Option Expr)
SomeMaybe ts _ us = (x : Option Expr) × Maybe ts x us

pub maybes : Full bare SomeMaybe p.maybe
maybes =
    full (looks mark_at p.maybe_by by) (λ _. record { more = []; answer = None; end = tt; plain = refl; reads = λ zs z. (None, g.nothing) })
  where
    some : Full bare SomeMaybe (λ ts. bind (expression ts) (λ x. pure (Some x)))
    some = gives Some (λ ts _ us p. let (x, q) = p in (Some x, g.just q)) expressions

    by : (k : Option the_mark.Mark) → On bare (λ ts. mark_at ts ≡ k) SomeMaybe (p.maybe_by k)
    by (Some m.Semicolon) = pures None (λ ts d zs z. (None, g.nothing))
    by _ = record { fine = λ ts d. some.fine ts }

-- a first part that is there
abbrev SomeFirst : {A : Type 0} → Relation Tokens A
SomeFirst ts _ us = (s : Option Stmt) × First ts s us

first_kinds : (b : Bool) → Full bare (SomeFirst {A = StmtKind}) (p.first_kind b)
first_kinds true =
    maps (λ ts _ us p.
    let (a, k, b, (_, l, (f, d), (_, n, t, (x, q)))) = p in
    (Some (at ts (kind.Declare f.ty f.name (Some x))), g.declares b d t q))
    (then bases
    (λ a. then (declarators a)
    (λ f. gives {T = Then (OneToken (Takes (Mark m.Assign))) (λ _ ts k us. AnExpression ts one us)} (λ x. kind.Declare f.ty f.name (Some x)) (λ ts _ us p. p)
    (then (expects m.Assign) (λ _. expressions)))))
first_kinds false = maps (λ ts _ us p. let (k, q) = p in (Some (at ts k), g.simple q)) simples

firsts_by : (b : Bool) → Full bare (SomeFirst {A = Option Stmt}) (λ ts. bind (p.lined (p.first_kind b) ts) (λ s. pure (Some s)))
firsts_by b = gives Some (λ ts _ us p. p) (lines {T = SomeFirst {A = Stmt}} (λ ts k x us p. p) (first_kinds b))

no_first : Completed bare (SomeFirst {A = Option Stmt}) []
no_first = record { more = []; answer = None; end = tt; plain = refl; reads = λ zs z. (None, g.nothing) }

firsts : Full bare (SomeFirst {A = Option Stmt}) p.first_part
firsts = full (looks mark_at p.first_by by) (λ _. no_first)
  where
    some : Full bare (SomeFirst {A = Option Stmt}) (λ ts. bind (p.lined (p.first_kind (p.begins_base (key_at ts))) ts) (λ s. pure (Some s)))
    some =
        full (looks key_at (λ k ts. bind (p.lined (p.first_kind (p.begins_base k)) ts) (λ s. pure (Some s))) (λ k. anywhere (firsts_by (p.begins_base k))))
        (λ _. no_first)

    by : (k : Option the_mark.Mark) → On bare (λ ts. mark_at ts ≡ k) (SomeFirst {A = Option Stmt}) (p.first_by k)
    by (Some m.Semicolon) = pures None (λ ts d zs z. (None, g.nothing))
    by _ = record { fine = λ ts d. some.fine ts }

abbrev SomeThird : {A : Type 0} → Relation Tokens A
SomeThird ts _ us = (s : Option Stmt) × Third ts s us

thirds : Full bare (SomeThird {A = Option Stmt}) p.third_part
thirds =
    full (looks mark_at p.third_by by) (λ _. record { more = []; answer = None; end = tt; plain = refl; reads = λ zs z. (None, g.nothing) })
  where
    some : Full bare (SomeThird {A = Option Stmt}) (λ ts. bind (p.lined p.simple ts) (λ s. pure (Some s)))
    some =
        gives Some (λ ts _ us p. p)
        (lines {T = SomeThird {A = Stmt}} (λ ts k x us p. let (k', q) = p in (Some (at ts k'), g.simple q)) simples)

    by : (k : Option the_mark.Mark) → On bare (λ ts. mark_at ts ≡ k) (SomeThird {A = Option Stmt}) (p.third_by k)
    by (Some m.RightParen) = pures None (λ ts d zs z. (None, g.nothing))
    by _ = record { fine = λ ts d. some.fine ts }

abbrev pub SomeHead : Relation Tokens p.Head
SomeHead ts _ us = (a : Option Stmt) × (b : Option Expr) × (c : Option Stmt) × Head ts a b c us

pub heads : Full bare SomeHead p.head
heads =
    maps (λ ts _ us p.
    let (_, t₃, (_, t₂, (_, t₁, f, o), (a, q)), (_, t₅, (_, t₄, s, (b, r)), (_, t₇, (_, t₆, s', (c, u)), (_, v)))) = p in
    (a, b, c, g.head f o q s r s' u v))
    (then (then (then (expects_key key.For refl) (λ _. expects m.LeftParen)) (λ _. firsts))
    (λ a. then (then (expects m.Semicolon) (λ _. maybes))
    (λ b. then (then (expects m.Semicolon) (λ _. thirds))
    (λ c. gives {T = λ ts h us. Unit {0} × Takes (Mark m.RightParen) ts us} (λ _. (a, b, c)) (λ ts _ us t. (tt, t)) (expects m.RightParen)))))

-- ---- declarations

abbrev SomeInitializer : Relation Tokens (Option Expr)
SomeInitializer ts _ us = (x : Option Expr) × Initializer ts x us

initializers : Full bare SomeInitializer p.initializer
initializers =
    full (looks (is_mark m.Assign) p.initializer_by by)
    (λ _. record { more = []; answer = None; end = tt; plain = refl; reads = λ zs z. (None, g.nothing) })
  where
    by : (b : Bool) → On bare (λ ts. is_mark m.Assign ts ≡ b) SomeInitializer (p.initializer_by b)
    by true =
        on_gives Some (λ ts _ us p. let (_, k, t, (x, q)) = p in (Some x, g.just t q))
        (on_then (skips (λ ts d. is_mark_takes m.Assign ts d)) (λ _. expressions))
    by false = pures None (λ ts d zs z. (None, g.nothing))

local_marks : (ss : List Stmt) → Full bare (AMark m.Semicolon) (λ ts. p.local_by ss (mark_at ts) ts)
local_marks ss = full (looks mark_at (p.local_by ss) by) (λ _. mark_phrase ss m.Semicolon)
  where
    by : (k : Option the_mark.Mark) → On bare (λ ts. mark_at ts ≡ k) (AMark m.Semicolon) (p.local_by ss k)
    by (Some m.Comma) = between ss m.Semicolon
    by (Some m.Semicolon) = behind_all ss m.Semicolon
    by _ = refuses (mark_phrase ss m.Semicolon)

abbrev LocalTurn : CType → Relation Tokens Bool
LocalTurn a ts b us =
    (k : Tokens) × (l : Tokens) × ((f : Field) × Declarator a ts f k) × ((x : Option Expr) × Initializer k x l)
    × Takes (Mark (mark_for m.Semicolon b)) l us

-- The declaration may be of any line.
abbrev SomeLocals : CType → Tokens → Tokens → Type 0
SomeLocals a ts us = (line : ℕ) → (ss : List Stmt) × Locals line a ts ss us

locals_stop : (a : CType) (ts us : Tokens) → LocalTurn a ts true us → SomeLocals a ts us
locals_stop a ts us (k, l, (f, d), (x, i), t) line = (statement_of line (kind.Declare f.ty f.name x) ∷ [], g.last d i t)

locals_next : (a : CType) (ts us vs : Tokens) → LocalTurn a ts false us → SomeLocals a us vs → SomeLocals a ts vs
locals_next a ts us vs (k, l, (f, d), (x, i), t) h line =
    let (ss, r) = h line in (statement_of line (kind.Declare f.ty f.name x) ∷ ss, g.more d i t r)

all_locals : (line : ℕ) (a : CType) (ss : List Stmt) → Full bare (λ ts _ us. SomeLocals a ts us) (repeat (p.local line a) ss)
all_locals line a =
    repeats (p.local line a) (local_shorter line a) (LocalTurn a) (SomeLocals a) (locals_stop a) (locals_next a)
    (λ ss. maps (λ ts r us p. let (f, k, d, (x, l, i, t)) = p in (k, l, d, i, t))
    (then (declarators a) (λ f. then initializers (λ x. local_marks (ss ++ statement_of line (kind.Declare f.ty f.name x) ∷ [])))))
    (completes_as (λ r. tt) (λ ts r us p. let (f, k, d, (x, l, i, t)) = p in locals_stop a ts us (k, l, d, i, t))
    (completes_then ((declarators a).phrase tt) (λ f _. completes_then (initializers.phrase tt) (λ x _. one_token (Mark m.Semicolon) refl))))

abbrev pub SomeDeclaration : Relation Tokens (List Stmt)
SomeDeclaration ts _ us = (a : CType) × (k : Tokens) × Base ts a k × ((line : ℕ) → (ss : List Stmt) × Locals line a k ss us)

pub declarations : (ss : List Stmt) → Full bare SomeDeclaration (p.declaration ss)
declarations ss =
    full (looks line_at (λ n ts. bind (base ts) (λ a. repeat (p.local n a) ss)) (λ n. anywhere (lined n))) (λ k. (lined 0).phrase k)
  where
    lined : (n : ℕ) → Full bare SomeDeclaration (λ ts. bind (base ts) (λ a. repeat (p.local n a) ss))
    lined n = then bases (λ a. all_locals n a ss)
