-- What the parser of statements reads is in the grammar.
use Rattle.std.proofs.Common.{◌≡◌, ℕ, zero, suc, ◌<◌, ◌≤◌, Bool, true, false, List, [], ◌∷◌, ◌++◌, append_assoc, length, Option, Some, None, Ok, Err, refl, sym, ap, subst, ◌∙◌, arith}
use Rattle.std.proofs.lemmas.List.{append-nil}
use Rattle.al_source.specs.declared.tokens.TokenKind.{TokenKind}
use Rattle.al_source.specs.declared.tokens.TokenKind.TheVariants.{Word, Text, Key, Mark, Alter, EndAlter}
use Rattle.al_source.specs.declared.tokens.Mark as the_mark
use Rattle.al_source.specs.declared.tokens.Mark.TheVariants as m
use Rattle.al_source.specs.declared.tokens.Key.TheVariants as key
use Rattle.al_source.specs.declared.texts.Piece.{Piece}
use Rattle.al_source.specs.declared.operators.BinOp.{BinOp}
use Rattle.al_source.specs.declared.operators.RedOp.{RedOp}
use Rattle.al_source.specs.declared.annotations.Policy.{Policy}
use Rattle.al_source.specs.declared.annotations.Policy.TheVariants as policy
use Rattle.al_source.specs.declared.annotations.CommitOrder.{CommitOrder}
use Rattle.al_source.specs.declared.annotations.CommitOrder.TheVariants as order
use Rattle.al_source.specs.declared.annotations.LoopNote.{LoopNote}
use Rattle.al_source.specs.declared.annotations.NamedRed.{NamedRed}
use Rattle.al_source.specs.declared.source_tree.CType.{CType}
use Rattle.al_source.specs.declared.source_tree.Field.{Field}
use Rattle.al_source.specs.declared.source_tree.Expr.{Expr}
use Rattle.al_source.specs.declared.source_tree.Stmt.{Stmt}
use Rattle.al_source.specs.declared.source_tree.StmtKind.{StmtKind}
use Rattle.al_source.specs.declared.source_tree.StmtKind.TheVariants as kind
use Rattle.al_grammar.specs.declared.operators.NoteWord.{NoteWord}
use Rattle.al_grammar.specs.declared.operators.NoteWord.TheVariants as note
use Rattle.al_grammar.specs.Operators.{update_of, step_of, note_word_of}
use Rattle.al_grammar.specs.Words.{key_text}
use Rattle.al_grammar.specs.Phrases.{Tokens, Name, Takes, takes, Means, line_at}
use Rattle.al_grammar.specs.Types.{Declarator}
use Rattle.al_grammar.specs.Expressions.{Expression, Place}
use Rattle.al_grammar.specs.Statements.{statement_of, at, one, reduced, is_else, else_next, Values, CallValues, PrintValues, Simple, NotePolicy, NoteOrder, Reduced, Reductions, Note, Maybe, First, Third, Head, Parenthesized, Initializer, Locals, Statement, Inner, Inners}
use Rattle.al_grammar.specs.Statements as g
use Rattle.al_source.specs.Steps.{bind, pure}
use Rattle.al_grammar.specs.Steps.{Read, Step, skip, kind_at, mark_at, key_at, meaning_at, tail, is_mark, expect, expect_key, word, repeat}
use Rattle.al_grammar.specs.TypeParser.{base, declarator}
use Rattle.al_grammar.specs.ExpressionParser.{expression, place}
use Rattle.al_grammar.specs.StatementParser as p
use Rattle.al_grammar.proofs.StepFacts.{bind_ok, yields, takes_shorter, means_shorter, kind_takes, mark_takes, at_means, is_mark_takes, expect_takes, expect_key_takes, word_takes, repeat_keeps}
use Rattle.al_grammar.proofs.TypeFacts.{sound_base, sound_declarator, declarator_shorter}
use Rattle.al_grammar.proofs.SoundExpressions.{sound_expression, sound_place}
use Rattle.al_grammar.proofs.Wider.{expression_shorter}

-- ---- lists that end at a mark: one more, or the last

-- what stands between the elements, and behind the last
pub data Sep {A : Type 0} (between behind : the_mark.Mark) (a : A) (ts : Tokens) : (A × Bool) × Tokens → Type 0 where
  goes_on : {us : Tokens} → Takes (Mark between) ts us → Sep between behind a ts ((a, false), us)
  ends : {us : Tokens} → Takes (Mark behind) ts us → Sep between behind a ts ((a, true), us)

pub sep_shorter : {A : Type 0} {between behind : the_mark.Mark} {a b : A} {c : Bool} {ts us : Tokens}
    → Sep between behind a ts ((b, c), us) → length us < length ts
sep_shorter (goes_on t) = takes_shorter t
sep_shorter (ends t) = takes_shorter t

-- ---- calls

value_sep : (xs : List Expr) (ts : Tokens) (q : (List Expr × Bool) × Tokens) → p.value_by xs (mark_at ts) ts ≡ Ok q → Sep m.Comma m.RightParen xs ts q
value_sep xs ts q e = by (mark_at ts) refl e
  where
    by : (c : Option the_mark.Mark) → mark_at ts ≡ c → p.value_by xs c ts ≡ Ok q → Sep m.Comma m.RightParen xs ts q
    by (Some m.Comma) d e = yields (Sep m.Comma m.RightParen xs ts) ((xs, false), tail ts) q (goes_on (mark_takes ts d)) e
    by (Some m.RightParen) d e = yields (Sep m.Comma m.RightParen xs ts) ((xs, true), tail ts) q (ends (mark_takes ts d)) e
    by _ d e = absurd cc

-- after those that were found before
abbrev FoundValues : List Expr → Tokens → List Expr → Tokens → Type 0
FoundValues xs ts ys us = (zs : List Expr) × Values ts zs us × (ys ≡ xs ++ zs)

values_last : (xs : List Expr) (ts : Tokens) (x : Expr) (us : Tokens) (ys : List Expr) (vs : Tokens)
    → Expression ts x us → Sep m.Comma m.RightParen (xs ++ x ∷ []) us ((ys, true), vs) → FoundValues xs ts ys vs
values_last xs ts x us ys vs e (ends t) = (x ∷ [], g.last e t, refl)

values_more : (xs : List Expr) (ts : Tokens) (x : Expr) (us : Tokens) (ys : List Expr) (vs : Tokens) (zs : List Expr) (ws : Tokens)
    → Expression ts x us → Sep m.Comma m.RightParen (xs ++ x ∷ []) us ((ys, false), vs) → FoundValues ys vs zs ws → FoundValues xs ts zs ws
values_more xs ts x us ys vs zs ws e (goes_on t) (bs, r, is) = (x ∷ bs, g.more e t r, is ∙ append_assoc xs (x ∷ []) bs)

one_value : (xs : List Expr) (ts : Tokens) (q : (List Expr × Bool) × Tokens)
    → p.value xs ts ≡ Ok q → (x : Expr) × (us : Tokens) × Expression ts x us × Sep m.Comma m.RightParen (xs ++ x ∷ []) us q
one_value xs ts q e =
    let (x, dx, dk) = bind_ok (expression ts) (λ x us. p.value_by (xs ++ x ∷ []) (mark_at us) us) e in
    (x.0, x.1, sound_expression ts x dx, value_sep (xs ++ x.0 ∷ []) x.1 q dk)

pub value_shorter : (a b : List Expr) (ts us : Tokens) → p.value a ts ≡ Ok ((b, false), us) → length us < length ts
value_shorter a b ts us e = let (x, vs, r, s) = one_value a ts ((b, false), us) e in let lt = expression_shorter r in let le = sep_shorter s in omega arith

sound_values : (ts : Tokens) (q : List Expr × Tokens) → p.values ts ≡ Ok q → Values ts q.0 q.1
sound_values ts q e =
    let (zs, r, is) = repeat_keeps p.value FoundValues
    (λ a b ts us d. let (x, vs, r, s) = one_value a ts ((b, true), us) d in values_last a ts x vs b us r s)
    (λ a b c ts us vs d k. let (x, ws, r, s) = one_value a ts ((b, false), us) d in values_more a ts x ws b us c vs r s k)
    [] ts q e in
    subst (λ xs. Values ts xs q.1) (sym is) r

sound_call_values : (ts : Tokens) (q : List Expr × Tokens) → p.call_values ts ≡ Ok q → CallValues ts q.0 q.1
sound_call_values ts q e = by (mark_at ts) refl e
  where
    by : (c : Option the_mark.Mark) → mark_at ts ≡ c → p.call_values_by c ts ≡ Ok q → CallValues ts q.0 q.1
    by (Some m.RightParen) d e = yields (λ q. CallValues ts q.0 q.1) ([], tail ts) q (g.none (mark_takes ts d)) e
    by _ d e = g.some (sound_values ts q e)

sound_print_values : (ts : Tokens) (q : List Expr × Tokens) → p.print_values ts ≡ Ok q → PrintValues ts q.0 q.1
sound_print_values ts q e = by (mark_at ts) refl e
  where
    by : (c : Option the_mark.Mark) → mark_at ts ≡ c → p.print_values_by c ts ≡ Ok q → PrintValues ts q.0 q.1
    by (Some m.RightParen) d e = yields (λ q. PrintValues ts q.0 q.1) ([], tail ts) q (g.none (mark_takes ts d)) e
    by (Some m.Comma) d e = g.some (mark_takes ts d) (sound_values (tail ts) q e)
    by _ d e = absurd cc

text_takes : (ts : Tokens) (q : List Piece × Tokens) → p.text ts ≡ Ok q → Takes (Text q.0) ts q.1
text_takes ts q e = by (kind_at ts) refl e
  where
    by : (c : Option TokenKind) → kind_at ts ≡ c → p.text_by c ts ≡ Ok q → Takes (Text q.0) ts q.1
    by (Some (Text f)) d e = yields (λ (q : List Piece × Tokens). Takes (Text q.0) ts q.1) (f, tail ts) q (kind_takes ts d) e
    by _ d e = absurd cc

abbrev IsSimple : Tokens → StmtKind × Tokens → Type 0
IsSimple ts q = Simple ts q.0 q.1

sound_print : (ts us : Tokens) (q : StmtKind × Tokens) → Takes (Key key.Printf) ts us → p.print us ≡ Ok q → IsSimple ts q
sound_print ts us q t e =
    let (f, df, dk) = bind_ok (bind (expect m.LeftParen us) (λ _. p.text)) (λ f vs. bind (p.print_values vs) (λ xs. pure (kind.Print f xs))) e in
    let (o, do', dj) = bind_ok (expect m.LeftParen us) (λ _. p.text) df in
    let (x, dx, dl) = bind_ok (p.print_values f.1) (λ xs. pure (kind.Print f.0 xs)) dk in
    yields (IsSimple ts) (kind.Print f.0 x.0, x.1) q (g.print t (expect_takes m.LeftParen us o do') (text_takes o.1 f dj) (sound_print_values f.1 x dx)) dl

sound_parenthesized : (ts : Tokens) (q : Expr × Tokens) → p.parenthesized ts ≡ Ok q → Parenthesized ts q.0 q.1
sound_parenthesized ts q e =
    let (x, dx, dk) = bind_ok (bind (expect m.LeftParen ts) (λ _. expression)) (λ c us. bind (expect m.RightParen us) (λ _. pure c)) e in
    let (r, dr, dl) = bind_ok (expect m.LeftParen ts) (λ _. expression) dx in
    let (s, ds, dm) = bind_ok (expect m.RightParen x.1) (λ _. pure x.0) dk in
    yields (λ (q : Expr × Tokens). Parenthesized ts q.0 q.1) (x.0, s.1) q
    (g.parenthesized (expect_takes m.LeftParen ts r dr) (sound_expression r.1 x dl) (expect_takes m.RightParen x.1 s ds)) dm

sound_free : (ts us : Tokens) (q : StmtKind × Tokens) → Takes (Key key.Free) ts us → p.free us ≡ Ok q → IsSimple ts q
sound_free ts us q t e =
    let (x, dx, dk) = bind_ok (p.parenthesized us) (λ x. pure (kind.Call (key_text key.Free) (x ∷ []))) e in
    yields (IsSimple ts) (kind.Call (key_text key.Free) (x.0 ∷ []), x.1) q (g.free t (sound_parenthesized us x dx)) dk

-- what a call is made of
pub record IsCall (w : Name) (ts : Tokens) (q : StmtKind × Tokens) : Type 0 where
  pub inside : Tokens
  pub xs : List Expr
  pub opens : Takes (Mark m.LeftParen) (tail ts) inside
  pub arguments : CallValues inside xs q.1
  pub is : kind.Call w xs ≡ q.0

-- a call ends its statement
pub data EndsCall : Tokens → Type 0 where
  semicolon : {ts us : Tokens} → Takes (Mark m.Semicolon) ts us → EndsCall ts
  paren : {ts us : Tokens} → Takes (Mark m.RightParen) ts us → EndsCall ts

call_ended : (k : StmtKind) (ts : Tokens) (q : StmtKind × Tokens) → p.call_end k ts ≡ Ok q → ((k, ts) ≡ q) × EndsCall ts
call_ended k ts q e = by (mark_at ts) refl e
  where
    by : (c : Option the_mark.Mark) → mark_at ts ≡ c → p.call_end_by k c ts ≡ Ok q → ((k, ts) ≡ q) × EndsCall ts
    by (Some m.Semicolon) d e = (cc, semicolon (mark_takes ts d))
    by (Some m.RightParen) d e = (cc, paren (mark_takes ts d))
    by _ d e = absurd cc

pub sound_call : (w : Name) (ts : Tokens) (q : StmtKind × Tokens) → p.call w ts ≡ Ok q → IsCall w ts q × EndsCall q.1
sound_call w ts q e =
    let (x, dx, dk) = bind_ok (bind (expect m.LeftParen (tail ts)) (λ _. p.call_values)) (λ xs. p.call_end (kind.Call w xs)) e in
    let (r, dr, dl) = bind_ok (expect m.LeftParen (tail ts)) (λ _. p.call_values) dx in
    let (is, end) = call_ended (kind.Call w x.0) x.1 q dk in
    subst (λ (q : StmtKind × Tokens). IsCall w ts q × EndsCall q.1) is
    (record { inside = r.1; xs = x.0; opens = expect_takes m.LeftParen (tail ts) r dr; arguments = sound_call_values r.1 x dl; is = refl }, end)

-- ---- assignments

sound_assign : (ts us : Tokens) (x : Expr) (q : StmtKind × Tokens) → Place ts x us → p.assign x us ≡ Ok q → IsSimple ts q
sound_assign ts us x q pl e = by (meaning_at update_of us) (meaning_at step_of us) refl refl e
  where
    by : (a b : Option BinOp) → meaning_at update_of us ≡ a → meaning_at step_of us ≡ b → p.assign_by x a b us ≡ Ok q → IsSimple ts q
    by (Some op) b da db e =
        let (y, dy, dk) = bind_ok (expression (tail us)) (λ y. pure (kind.Update op x y)) e in
        yields (IsSimple ts) (kind.Update op x y.0, y.1) q (g.update pl (at_means us da) (sound_expression (tail us) y dy)) dk
    by None (Some op) da db e = yields (IsSimple ts) (kind.Update op x one, tail us) q (g.step_after pl (at_means us db)) e
    by None None da db e =
        let (y, dy, dk) = bind_ok (bind (expect m.Assign us) (λ _. expression)) (λ y. pure (kind.Assign x y)) e in
        let (r, dr, dl) = bind_ok (expect m.Assign us) (λ _. expression) dy in
        yields (IsSimple ts) (kind.Assign x y.0, y.1) q (g.assign pl (expect_takes m.Assign us r dr) (sound_expression r.1 y dl)) dk

sound_placed : (ts : Tokens) (q : StmtKind × Tokens) → p.placed ts ≡ Ok q → IsSimple ts q
sound_placed ts q e =
    let (x, dx, dk) = bind_ok (place ts) p.assign e in
    sound_assign ts x.1 x.0 q (sound_place ts x dx) dk

sound_word : (w : Name) (ts : Tokens) (q : StmtKind × Tokens) → Takes (Word w) ts (tail ts) → p.or_else (p.call w) p.placed ts ≡ Ok q → IsSimple ts q
sound_word w ts q t e = by (p.call w ts) refl e
  where
    other : (a : Tokens) (o : Read StmtKind) → p.placed ts ≡ o → p.second a o ≡ Ok q → IsSimple ts q
    other a (Ok r) c e = sound_placed ts q (c ∙ e)
    other a (Err b) c e = absurd cc

    by : (o : Read StmtKind) → p.call w ts ≡ o → p.first o (p.placed ts) ≡ Ok q → IsSimple ts q
    by (Ok r) c e =
        let (s, end) = sound_call w ts q (c ∙ e) in
        subst (λ (k : StmtKind). Simple ts k q.1) s.is (g.call t s.opens s.arguments)
    by (Err a) c e = other a (p.placed ts) refl e

sound_before : (ts : Tokens) (q : StmtKind × Tokens) → p.before_by (meaning_at step_of ts) ts ≡ Ok q → IsSimple ts q
sound_before ts q e = by (meaning_at step_of ts) refl e
  where
    by : (o : Option BinOp) → meaning_at step_of ts ≡ o → p.before_by o ts ≡ Ok q → IsSimple ts q
    by (Some op) d e =
        let (x, dx, dk) = bind_ok (place (tail ts)) (λ x. pure (kind.Update op x one)) e in
        yields (IsSimple ts) (kind.Update op x.0 one, x.1) q (g.step_before (at_means ts d) (sound_place (tail ts) x dx)) dk
    by None d e = sound_placed ts q e

pub sound_simple : (ts : Tokens) (q : StmtKind × Tokens) → p.simple ts ≡ Ok q → Simple ts q.0 q.1
sound_simple ts q e = by (kind_at ts) refl e
  where
    by : (c : Option TokenKind) → kind_at ts ≡ c → p.simple_by c ts ≡ Ok q → IsSimple ts q
    by (Some (Word w)) d e = sound_word w ts q (kind_takes ts d) e
    by (Some (Key key.Printf)) d e = sound_print ts (tail ts) q (kind_takes ts d) e
    by (Some (Key key.Free)) d e = sound_free ts (tail ts) q (kind_takes ts d) e
    by _ d e = sound_before ts q e

-- ---- annotations

sound_policy : (ts : Tokens) (q : Policy × Tokens) → p.note_policy ts ≡ Ok q → NotePolicy ts q.0 q.1
sound_policy ts q e = by (meaning_at note_word_of ts) refl e
  where
    Is : Policy × Tokens → Type 0
    Is q = NotePolicy ts q.0 q.1

    by : (c : Option NoteWord) → meaning_at note_word_of ts ≡ c → p.policy_by c ts ≡ Ok q → NotePolicy ts q.0 q.1
    by (Some (note.Policy a)) d e = yields (λ q. NotePolicy ts q.0 q.1) (a, tail ts) q (g.written (at_means ts d)) e
    by _ d e = yields (λ q. NotePolicy ts q.0 q.1) (policy.Raw, ts) q g.absent e

sound_order : (ts : Tokens) (q : CommitOrder × Tokens) → p.note_order ts ≡ Ok q → NoteOrder ts q.0 q.1
sound_order ts q e = by (meaning_at note_word_of ts) refl e
  where
    by : (c : Option NoteWord) → meaning_at note_word_of ts ≡ c → p.order_by c ts ≡ Ok q → NoteOrder ts q.0 q.1
    by (Some (note.Order a)) d e = yields (λ q. NoteOrder ts q.0 q.1) (a, tail ts) q (g.written (at_means ts d)) e
    by _ d e = yields (λ q. NoteOrder ts q.0 q.1) (order.InOrder, ts) q g.absent e

operator_means : (ts : Tokens) (q : RedOp × Tokens) → p.operator ts ≡ Ok q → Means note_word_of (note.Operator q.0) ts q.1
operator_means ts q e = by (meaning_at note_word_of ts) refl e
  where
    by : (c : Option NoteWord) → meaning_at note_word_of ts ≡ c → p.operator_by c ts ≡ Ok q → Means note_word_of (note.Operator q.0) ts q.1
    by (Some (note.Operator op)) d e = yields (λ (q : RedOp × Tokens). Means note_word_of (note.Operator q.0) ts q.1) (op, tail ts) q (at_means ts d) e
    by _ d e = absurd cc

reduced_sep : (rs : List NamedRed) (ts : Tokens) (q : (List NamedRed × Bool) × Tokens)
    → p.reduced_by rs (mark_at ts) ts ≡ Ok q → Sep m.Comma m.RightParen rs ts q
reduced_sep rs ts q e = by (mark_at ts) refl e
  where
    by : (c : Option the_mark.Mark) → mark_at ts ≡ c → p.reduced_by rs c ts ≡ Ok q → Sep m.Comma m.RightParen rs ts q
    by (Some m.Comma) d e = yields (Sep m.Comma m.RightParen rs ts) ((rs, false), tail ts) q (goes_on (mark_takes ts d)) e
    by (Some m.RightParen) d e = yields (Sep m.Comma m.RightParen rs ts) ((rs, true), tail ts) q (ends (mark_takes ts d)) e
    by _ d e = absurd cc

one_variable : (op : RedOp) (rs : List NamedRed) (ts : Tokens) (q : (List NamedRed × Bool) × Tokens) → p.variable op rs ts ≡ Ok q
    → (w : Name) × (us : Tokens) × Takes (Word w) ts us × Sep m.Comma m.RightParen (rs ++ reduced op w ∷ []) us q
one_variable op rs ts q e =
    let (w, dw, dk) = bind_ok (word ts) (λ w us. p.reduced_by (rs ++ reduced op w ∷ []) (mark_at us) us) e in
    (w.0, w.1, word_takes ts w dw, reduced_sep (rs ++ reduced op w.0 ∷ []) w.1 q dk)

pub variable_shorter : (op : RedOp) (a b : List NamedRed) (ts us : Tokens) → p.variable op a ts ≡ Ok ((b, false), us) → length us < length ts
variable_shorter op a b ts us e =
    let (w, vs, t, s) = one_variable op a ts ((b, false), us) e in let lt = takes_shorter t in let le = sep_shorter s in omega arith

abbrev FoundReduced : RedOp → List NamedRed → Tokens → List NamedRed → Tokens → Type 0
FoundReduced op xs ts ys us = (zs : List NamedRed) × Reduced op ts zs us × (ys ≡ xs ++ zs)

reduced_last : (op : RedOp) (xs : List NamedRed) (ts : Tokens) (w : Name) (us : Tokens) (ys : List NamedRed) (vs : Tokens) → Takes (Word w) ts us
    → Sep m.Comma m.RightParen (xs ++ reduced op w ∷ []) us ((ys, true), vs) → FoundReduced op xs ts ys vs
reduced_last op xs ts w us ys vs t (ends u) = (reduced op w ∷ [], g.last t u, refl)

reduced_more : (op : RedOp) (xs : List NamedRed) (ts : Tokens) (w : Name) (us : Tokens) (ys : List NamedRed) (vs : Tokens) (zs : List NamedRed) (ws : Tokens)
    → Takes (Word w) ts us → Sep m.Comma m.RightParen (xs ++ reduced op w ∷ []) us ((ys, false), vs) → FoundReduced op ys vs zs ws → FoundReduced op xs ts zs ws
reduced_more op xs ts w us ys vs zs ws t (goes_on u) (bs, r, is) = (reduced op w ∷ bs, g.more t u r, is ∙ append_assoc xs (reduced op w ∷ []) bs)

sound_reduced : (op : RedOp) (rs : List NamedRed) (ts : Tokens) (q : List NamedRed × Tokens)
    → repeat (p.variable op) rs ts ≡ Ok q → FoundReduced op rs ts q.0 q.1
sound_reduced op rs ts q e =
    repeat_keeps (p.variable op) (FoundReduced op)
    (λ a b ts us d. let (w, vs, t, s) = one_variable op a ts ((b, true), us) d in reduced_last op a ts w vs b us t s)
    (λ a b c ts us vs d k. let (w, ws, t, s) = one_variable op a ts ((b, false), us) d in reduced_more op a ts w ws b us c vs t s k)
    rs ts q e

-- one `reduce`
pub record OneReduction (rs : List NamedRed) (ts : Tokens) (q : List NamedRed × Tokens) : Type 0 where
  op : RedOp
  names : List NamedRed
  opened : Tokens
  behind : Tokens
  inside : Tokens
  opens : Takes (Mark m.LeftParen) ts opened
  operator : Means note_word_of (note.Operator op) opened behind
  colon : Takes (Mark m.Colon) behind inside
  reads : Reduced op inside names q.1
  is : q.0 ≡ rs ++ names

sound_reduction : (rs : List NamedRed) (ts : Tokens) (q : List NamedRed × Tokens) → p.reduction rs ts ≡ Ok q → OneReduction rs ts q
sound_reduction rs ts q e =
    let (op, dop, dk) = bind_ok (bind (expect m.LeftParen ts) (λ _. p.operator)) (λ op us. bind (expect m.Colon us) (λ _. repeat (p.variable op) rs)) e in
    let (o, do', dj) = bind_ok (expect m.LeftParen ts) (λ _. p.operator) dop in
    let (c, dc, dl) = bind_ok (expect m.Colon op.1) (λ _. repeat (p.variable op.0) rs) dk in
    let (ns, r, is) = sound_reduced op.0 rs c.1 q dl in
    record {
      op = op.0;
      names = ns;
      opened = o.1;
      behind = op.1;
      inside = c.1;
      opens = expect_takes m.LeftParen ts o do';
      operator = operator_means o.1 op dj;
      colon = expect_takes m.Colon op.1 c dc;
      reads = r;
      is = is;
    }

pub data ReduceTurn (rs : List NamedRed) (ts : Tokens) : (List NamedRed × Bool) × Tokens → Type 0 where
  no_more : ReduceTurn rs ts ((rs, true), ts)
  again : {us vs : Tokens} {all : List NamedRed} → Means note_word_of note.Reduce ts us → OneReduction rs us (all, vs) → ReduceTurn rs ts ((all, false), vs)

pub reduce_turn : (rs : List NamedRed) (ts : Tokens) (q : (List NamedRed × Bool) × Tokens) → p.reduce_turn rs ts ≡ Ok q → ReduceTurn rs ts q
reduce_turn rs ts q e = by (meaning_at note_word_of ts) refl e
  where
    by : (c : Option NoteWord) → meaning_at note_word_of ts ≡ c → p.reduce_by rs c ts ≡ Ok q → ReduceTurn rs ts q
    by (Some note.Reduce) d e =
        let (a, da, dk) = bind_ok (p.reduction rs (tail ts)) (λ all. pure (all, false)) e in
        yields (ReduceTurn rs ts) ((a.0, false), a.1) q (again (at_means ts d) (sound_reduction rs (tail ts) a da)) dk
    by _ d e = yields (ReduceTurn rs ts) ((rs, true), ts) q no_more e

pub reduced_shorter : {op : RedOp} {ts us : Tokens} {rs : List NamedRed} → Reduced op ts rs us → length us < length ts
reduced_shorter (g.last t u) = let a = takes_shorter t in let b = takes_shorter u in omega arith
reduced_shorter (g.more t u r) = let a = takes_shorter t in let b = takes_shorter u in let c = reduced_shorter r in omega arith

turn_takes : (a b : List NamedRed) (ts us : Tokens) → ReduceTurn a ts ((b, false), us) → length us < length ts
turn_takes a b ts us (again t r) =
    let x = means_shorter t in
    let y = takes_shorter r.opens in
    let z = means_shorter r.operator in
    let u = takes_shorter r.colon in
    let v = reduced_shorter r.reads in
    omega arith

pub reduce_shorter : (a b : List NamedRed) (ts us : Tokens) → p.reduce_turn a ts ≡ Ok ((b, false), us) → length us < length ts
reduce_shorter a b ts us e = turn_takes a b ts us (reduce_turn a ts ((b, false), us) e)

abbrev FoundReductions : List NamedRed → Tokens → List NamedRed → Tokens → Type 0
FoundReductions xs ts ys us = (zs : List NamedRed) × Reductions ts zs us × (ys ≡ xs ++ zs)

reductions_last : (a b : List NamedRed) (ts us : Tokens) → ReduceTurn a ts ((b, true), us) → FoundReductions a ts b us
reductions_last a b ts us no_more = ([], g.none, sym (append-nil a))

reductions_next : (a b c : List NamedRed) (ts us vs : Tokens) → ReduceTurn a ts ((b, false), us) → FoundReductions b us c vs → FoundReductions a ts c vs
reductions_next a b c ts us vs (again t r) (zs, k, is) =
    (r.names ++ zs, g.reduce t r.opens r.operator r.colon r.reads k, is ∙ ap (λ l. l ++ zs) r.is ∙ append_assoc a r.names zs)

sound_reductions : (ts : Tokens) (q : List NamedRed × Tokens) → repeat p.reduce_turn [] ts ≡ Ok q → Reductions ts q.0 q.1
sound_reductions ts q e =
    let (zs, r, is) = repeat_keeps p.reduce_turn FoundReductions
    (λ a b ts us d. reductions_last a b ts us (reduce_turn a ts ((b, true), us) d))
    (λ a b c ts us vs d k. reductions_next a b c ts us vs (reduce_turn a ts ((b, false), us) d) k) [] ts q e in
    subst (λ rs. Reductions ts rs q.1) (sym is) r

sound_note : (ts : Tokens) (q : LoopNote × Tokens) → p.loop_note ts ≡ Ok q → Note ts q.0 q.1
sound_note ts q e =
    let (a, da, dk) = bind_ok (p.note_policy ts)
    (λ a us. bind (p.note_order us) (λ o vs. bind (repeat p.reduce_turn [] vs) (λ rs. pure (record { policy = a; order = o; reduce = rs })))) e in
    let (o, do', dl) = bind_ok (p.note_order a.1) (λ o vs. bind (repeat p.reduce_turn [] vs) (λ rs. pure (record { policy = a.0; order = o; reduce = rs })))
    dk in
    let (r, dr, dm) = bind_ok (repeat p.reduce_turn [] o.1) (λ rs. pure (record { policy = a.0; order = o.0; reduce = rs })) dl in
    yields (λ (q : LoopNote × Tokens). Note ts q.0 q.1) (record { policy = a.0; order = o.0; reduce = r.0 }, r.1) q
    (g.note (sound_policy ts a da) (sound_order a.1 o do') (sound_reductions o.1 r dr)) dm

-- ---- the parts of a loop's head

sound_maybe : (ts : Tokens) (q : Option Expr × Tokens) → p.maybe ts ≡ Ok q → Maybe ts q.0 q.1
sound_maybe ts q e = by (mark_at ts) e
  where
    some : bind (expression ts) (λ x. pure (Some x)) ≡ Ok q → Maybe ts q.0 q.1
    some e = let (x, dx, dk) = bind_ok (expression ts) (λ x. pure (Some x)) e in
        yields (λ (q : Option Expr × Tokens). Maybe ts q.0 q.1) (Some x.0, x.1) q (g.just (sound_expression ts x dx)) dk

    by : (c : Option the_mark.Mark) → p.maybe_by c ts ≡ Ok q → Maybe ts q.0 q.1
    by (Some m.Semicolon) e = yields (λ (q : Option Expr × Tokens). Maybe ts q.0 q.1) (None, ts) q g.nothing e
    by _ e = some e

sound_first_declaration : (ts : Tokens) (q : StmtKind × Tokens) → p.first_declaration ts ≡ Ok q → First ts (Some (at ts q.0)) q.1
sound_first_declaration ts q e =
    let (a, da, dk) = bind_ok (base ts)
    (λ a us. bind (declarator a us) (λ f vs. bind (bind (expect m.Assign vs) (λ _. expression)) (λ x. pure (kind.Declare f.ty f.name (Some x))))) e in
    let (f, df, dl) = bind_ok (declarator a.0 a.1)
    (λ f vs. bind (bind (expect m.Assign vs) (λ _. expression)) (λ x. pure (kind.Declare f.ty f.name (Some x)))) dk in
    let (x, dx, dm) = bind_ok (bind (expect m.Assign f.1) (λ _. expression)) (λ x. pure (kind.Declare f.0.ty f.0.name (Some x))) dl in
    let (r, dr, dn) = bind_ok (expect m.Assign f.1) (λ _. expression) dx in
    yields (λ (q : StmtKind × Tokens). First ts (Some (at ts q.0)) q.1) (kind.Declare f.0.ty f.0.name (Some x.0), x.1) q
    (g.declares (sound_base ts a da) (sound_declarator a.0 a.1 f df) (expect_takes m.Assign f.1 r dr) (sound_expression r.1 x dn)) dm

sound_first : (ts : Tokens) (q : Option Stmt × Tokens) → p.first_part ts ≡ Ok q → First ts q.0 q.1
sound_first ts q e = by (mark_at ts) e
  where
    Is : Option Stmt × Tokens → Type 0
    Is q = First ts q.0 q.1

    of : (b : Bool) → bind (p.lined (p.first_kind b) ts) (λ s. pure (Some s)) ≡ Ok q → First ts q.0 q.1
    of true e =
        let (s, ds, dk) = bind_ok (bind (p.first_declaration ts) (λ k. pure (at ts k))) (λ s. pure (Some s)) e in
        let (k, dl, dm) = bind_ok (p.first_declaration ts) (λ k. pure (at ts k)) ds in
        yields (λ (q : Option Stmt × Tokens). First ts q.0 q.1) (Some s.0, s.1) q
        (yields (λ (s : Stmt × Tokens). First ts (Some s.0) s.1) (at ts k.0, k.1) s (sound_first_declaration ts k dl) dm) dk
    of false e =
        let (s, ds, dk) = bind_ok (bind (p.simple ts) (λ k. pure (at ts k))) (λ s. pure (Some s)) e in
        let (k, dl, dm) = bind_ok (p.simple ts) (λ k. pure (at ts k)) ds in
        yields (λ (q : Option Stmt × Tokens). First ts q.0 q.1) (Some s.0, s.1) q
        (yields (λ (s : Stmt × Tokens). First ts (Some s.0) s.1) (at ts k.0, k.1) s (g.simple (sound_simple ts k dl)) dm) dk

    by : (c : Option the_mark.Mark) → p.first_by c ts ≡ Ok q → First ts q.0 q.1
    by (Some m.Semicolon) e = yields (λ (q : Option Stmt × Tokens). First ts q.0 q.1) (None, ts) q g.nothing e
    by _ e = of (p.begins_base (key_at ts)) e

sound_third : (ts : Tokens) (q : Option Stmt × Tokens) → p.third_part ts ≡ Ok q → Third ts q.0 q.1
sound_third ts q e = by (mark_at ts) e
  where
    some : bind (bind (p.simple ts) (λ k. pure (at ts k))) (λ s. pure (Some s)) ≡ Ok q → Third ts q.0 q.1
    some e =
        let (s, ds, dk) = bind_ok (bind (p.simple ts) (λ k. pure (at ts k))) (λ s. pure (Some s)) e in
        let (k, dl, dm) = bind_ok (p.simple ts) (λ k. pure (at ts k)) ds in
        yields (λ (q : Option Stmt × Tokens). Third ts q.0 q.1) (Some s.0, s.1) q
        (yields (λ (s : Stmt × Tokens). Third ts (Some s.0) s.1) (at ts k.0, k.1) s (g.simple (sound_simple ts k dl)) dm) dk

    by : (c : Option the_mark.Mark) → p.third_by c ts ≡ Ok q → Third ts q.0 q.1
    by (Some m.RightParen) e = yields (λ (q : Option Stmt × Tokens). Third ts q.0 q.1) (None, ts) q g.nothing e
    by _ e = some e

abbrev IsHead : Tokens → p.Head × Tokens → Type 0
IsHead ts q = Head ts q.0.0 q.0.1 q.0.2 q.1

sound_head : (ts : Tokens) (q : p.Head × Tokens) → p.head ts ≡ Ok q → IsHead ts q
sound_head ts q e =
    let after_test : Option Stmt → Option Expr → Step p.Head = λ a b us.
    bind (bind (expect m.Semicolon us) (λ _. p.third_part)) (λ c vs. bind (expect m.RightParen vs) (λ _. pure (a, b, c))) in
    let after_first : Option Stmt → Step p.Head = λ a us. bind (bind (expect m.Semicolon us) (λ _. p.maybe)) (after_test a) in
    let (a, da, dk) = bind_ok (bind (bind (expect_key key.For ts) (λ _. expect m.LeftParen)) (λ _. p.first_part)) after_first e in
    let (o, do', dj) = bind_ok (bind (expect_key key.For ts) (λ _. expect m.LeftParen)) (λ _. p.first_part) da in
    let (f, df, dh) = bind_ok (expect_key key.For ts) (λ _. expect m.LeftParen) do' in
    let (b, db, dl) = bind_ok (bind (expect m.Semicolon a.1) (λ _. p.maybe)) (after_test a.0) dk in
    let (s, ds, dm) = bind_ok (expect m.Semicolon a.1) (λ _. p.maybe) db in
    let (c, dc, dn) = bind_ok (bind (expect m.Semicolon b.1) (λ _. p.third_part)) (λ c vs. bind (expect m.RightParen vs) (λ _. pure (a.0, b.0, c))) dl in
    let (u, du, dp) = bind_ok (expect m.Semicolon b.1) (λ _. p.third_part) dc in
    let (r, dr, dq) = bind_ok (expect m.RightParen c.1) (λ _. pure (a.0, b.0, c.0)) dn in
    yields (IsHead ts) ((a.0, b.0, c.0), r.1) q
    (g.head (expect_key_takes key.For ts f df) (expect_takes m.LeftParen f.1 o dh) (sound_first o.1 a dj) (expect_takes m.Semicolon a.1 s ds)
    (sound_maybe s.1 b dm) (expect_takes m.Semicolon b.1 u du) (sound_third u.1 c dp) (expect_takes m.RightParen c.1 r dr)) dq

-- ---- declarations

sound_initializer : (ts : Tokens) (q : Option Expr × Tokens) → p.initializer ts ≡ Ok q → Initializer ts q.0 q.1
sound_initializer ts q e = by (is_mark m.Assign ts) refl e
  where
    by : (b : Bool) → is_mark m.Assign ts ≡ b → p.initializer_by b ts ≡ Ok q → Initializer ts q.0 q.1
    by true d e =
        let (x, dx, dk) = bind_ok (expression (tail ts)) (λ x. pure (Some x)) e in
        yields (λ (q : Option Expr × Tokens). Initializer ts q.0 q.1) (Some x.0, x.1) q (g.just (is_mark_takes m.Assign ts d) (sound_expression (tail ts) x dx))
        dk
    by false d e = yields (λ (q : Option Expr × Tokens). Initializer ts q.0 q.1) (None, ts) q g.nothing e

local_sep : (ss : List Stmt) (ts : Tokens) (q : (List Stmt × Bool) × Tokens) → p.local_by ss (mark_at ts) ts ≡ Ok q → Sep m.Comma m.Semicolon ss ts q
local_sep ss ts q e = by (mark_at ts) refl e
  where
    by : (c : Option the_mark.Mark) → mark_at ts ≡ c → p.local_by ss c ts ≡ Ok q → Sep m.Comma m.Semicolon ss ts q
    by (Some m.Comma) d e = yields (Sep m.Comma m.Semicolon ss ts) ((ss, false), tail ts) q (goes_on (mark_takes ts d)) e
    by (Some m.Semicolon) d e = yields (Sep m.Comma m.Semicolon ss ts) ((ss, true), tail ts) q (ends (mark_takes ts d)) e
    by _ d e = absurd cc

-- one declared name
record OneLocal (line : ℕ) (a : CType) (ss : List Stmt) (ts : Tokens) (q : (List Stmt × Bool) × Tokens) : Type 0 where
  f : Field
  x : Option Expr
  named : Tokens
  behind : Tokens
  declares : Declarator a ts f named
  begins : Initializer named x behind
  sep : Sep m.Comma m.Semicolon (ss ++ statement_of line (kind.Declare f.ty f.name x) ∷ []) behind q

one_local : (line : ℕ) (a : CType) (ss : List Stmt) (ts : Tokens) (q : (List Stmt × Bool) × Tokens) → p.local line a ss ts ≡ Ok q → OneLocal line a ss ts q
one_local line a ss ts q e =
    let (f, df, dk) = bind_ok (declarator a ts)
    (λ f us. bind (p.initializer us) (λ x vs. p.local_by (ss ++ statement_of line (kind.Declare f.ty f.name x) ∷ []) (mark_at vs) vs)) e in
    let (x, dx, dl) = bind_ok (p.initializer f.1) (λ x vs. p.local_by (ss ++ statement_of line (kind.Declare f.0.ty f.0.name x) ∷ []) (mark_at vs) vs) dk in
    record {
      f = f.0;
      x = x.0;
      named = f.1;
      behind = x.1;
      declares = sound_declarator a ts f df;
      begins = sound_initializer f.1 x dx;
      sep = local_sep (ss ++ statement_of line (kind.Declare f.0.ty f.0.name x.0) ∷ []) x.1 q dl;
    }

pub initializer_shorter : {ts us : Tokens} {x : Option Expr} → Initializer ts x us → length us ≤ length ts
initializer_shorter g.nothing = omega arith
initializer_shorter (g.just t x) = let a = takes_shorter t in let b = expression_shorter x in omega arith

pub local_shorter : (line : ℕ) (a : CType) (b c : List Stmt) (ts us : Tokens) → p.local line a b ts ≡ Ok ((c, false), us) → length us < length ts
local_shorter line a b c ts us e =
    let r = one_local line a b ts ((c, false), us) e in
    let x = declarator_shorter r.declares in
    let y = initializer_shorter r.begins in
    let z = sep_shorter r.sep in
    omega arith

abbrev FoundLocals : ℕ → CType → List Stmt → Tokens → List Stmt → Tokens → Type 0
FoundLocals line a xs ts ys us = (zs : List Stmt) × Locals line a ts zs us × (ys ≡ xs ++ zs)

locals_last : (line : ℕ) (a : CType) (xs : List Stmt) (ts : Tokens) (f : Field) (x : Option Expr) (us vs : Tokens) (ys : List Stmt) (ws : Tokens)
    → Declarator a ts f us → Initializer us x vs → Sep m.Comma m.Semicolon (xs ++ statement_of line (kind.Declare f.ty f.name x) ∷ []) vs ((ys, true), ws)
    → FoundLocals line a xs ts ys ws
locals_last line a xs ts f x us vs ys ws d i (ends t) = (statement_of line (kind.Declare f.ty f.name x) ∷ [], g.last d i t, refl)

locals_more :
    (line : ℕ) (a : CType) (xs : List Stmt) (ts : Tokens) (f : Field) (x : Option Expr) (us vs : Tokens) (ys : List Stmt) (ws : Tokens) (zs : List Stmt)
    (rs : Tokens)
    → Declarator a ts f us → Initializer us x vs → Sep m.Comma m.Semicolon (xs ++ statement_of line (kind.Declare f.ty f.name x) ∷ []) vs ((ys, false), ws)
    → FoundLocals line a ys ws zs rs → FoundLocals line a xs ts zs rs
locals_more line a xs ts f x us vs ys ws zs rs d i (goes_on t) (bs, r, is) =
    (statement_of line (kind.Declare f.ty f.name x) ∷ bs, g.more d i t r, is ∙ append_assoc xs (statement_of line (kind.Declare f.ty f.name x) ∷ []) bs)

sound_locals : (line : ℕ) (a : CType) (ss : List Stmt) (ts : Tokens) (q : List Stmt × Tokens)
    → repeat (p.local line a) ss ts ≡ Ok q → FoundLocals line a ss ts q.0 q.1
sound_locals line a ss ts q e =
    repeat_keeps (p.local line a) (FoundLocals line a)
    (λ b c ts us d. let r = one_local line a b ts ((c, true), us) d in locals_last line a b ts r.f r.x r.named r.behind c us r.declares r.begins r.sep)
    (λ b c h ts us vs d k.
    let r = one_local line a b ts ((c, false), us) d in locals_more line a b ts r.f r.x r.named r.behind c us h vs r.declares r.begins r.sep k)
    ss ts q e

-- ---- statements

abbrev Kind : ℕ → Tokens → StmtKind × Tokens → Type 0
Kind d ts q = Statement (suc d) ts (at ts q.0) q.1

gated : {A : Type 0} (d : ℕ) (r : Step A) (ts : Tokens) (q : A × Tokens) → bind (p.gate d ts) (λ _. r) ≡ Ok q → (n : ℕ) × (d ≡ suc n) × (r ts ≡ Ok q)
gated zero r ts q e = absurd cc
gated (suc n) r ts q e = (n, refl, e)

-- statements that end with a `;`
sound_ended : (d : ℕ) (ts us : Tokens) (k : StmtKind) (q : StmtKind × Tokens)
    → ((vs : Tokens) → Takes (Mark m.Semicolon) us vs → Kind d ts (k, vs)) → p.ended k us ≡ Ok q → Kind d ts q
sound_ended d ts us k q rule e =
    let (s, ds, dk) = bind_ok (expect m.Semicolon us) (λ _. pure k) e in
    yields (Kind d ts) (k, s.1) q (rule s.1 (expect_takes m.Semicolon us s ds)) dk

sound_plain : (d : ℕ) (ts : Tokens) (q : StmtKind × Tokens) → bind (p.simple ts) p.ended ≡ Ok q → Kind d ts q
sound_plain d ts q e =
    let (k, dk, dl) = bind_ok (p.simple ts) p.ended e in
    sound_ended d ts k.1 k.0 q (λ vs t. g.simple (sound_simple ts k dk) t) dl

sound_returns : (d : ℕ) (ts : Tokens) (q : StmtKind × Tokens) → Takes (Key key.Return) ts (tail ts) → p.returns (tail ts) ≡ Ok q → Kind d ts q
sound_returns d ts q t e =
    let (x, dx, dk) = bind_ok (p.maybe (tail ts)) (λ x. p.ended (kind.Return x)) e in
    sound_ended d ts x.1 (kind.Return x.0) q (λ vs u. g.return_value t (sound_maybe (tail ts) x dx) u) dk

end_takes : (ts : Tokens) (q : Unit {0} × Tokens) → p.end_note ts ≡ Ok q → Takes EndAlter ts q.1
end_takes ts q e = by (kind_at ts) refl e
  where
    by : (c : Option TokenKind) → kind_at ts ≡ c → p.end_note_by c ts ≡ Ok q → Takes EndAlter ts q.1
    by (Some EndAlter) d e = yields (λ (q : Unit {0} × Tokens). Takes EndAlter ts q.1) (tt, tail ts) q (kind_takes ts d) e
    by _ d e = absurd cc

skipped : (d : ℕ) (ts : Tokens) (q : Unit {0} × Tokens) → bind (p.gate d ts) (λ _. skip) ≡ Ok q → tail ts ≡ q.1
skipped d ts q e = let (n, is, c) = gated d skip ts q e in ap (λ q. q.1) (let same : ◌≡◌ {A = Unit {0} × Tokens} (tt, tail ts) q = cc in same)

sound_declaration : (d : ℕ) (ss : List Stmt) (ts : Tokens) (q : List Stmt × Tokens)
    → p.declaration ss ts ≡ Ok q → (rs : List Stmt) × Inner (suc d) ts rs q.1 × (q.0 ≡ ss ++ rs)
sound_declaration d ss ts q e =
    let (a, da, dk) = bind_ok (base ts) (λ a. repeat (p.local (line_at ts) a) ss) e in
    let (zs, r, is) = sound_locals (line_at ts) a.0 ss a.1 q dk in
    (zs, g.declares (sound_base ts a da) r, is)

module _ (d : ℕ) (nested : Step Stmt) (h : (ts : Tokens) (q : Stmt × Tokens) → nested ts ≡ Ok q → Statement d ts q.0 q.1) where
  abbrev MoreInner : List Stmt → Tokens → List Stmt × Tokens → Type 0
  MoreInner ss ts q = (rs : List Stmt) × Inner d ts rs q.1 × (q.0 ≡ ss ++ rs)

  pub sound_inner : (ss : List Stmt) (ts : Tokens) (q : List Stmt × Tokens) → p.inner d nested ss ts ≡ Ok q → MoreInner ss ts q
  sound_inner ss ts q e =
      let (n, is, c) = gated d (λ ts. p.inner_by d nested ss (p.begins_base (key_at ts)) ts) ts q e in by (p.begins_base (key_at ts)) n is c
    where
      by : (b : Bool) (n : ℕ) → d ≡ suc n → p.inner_by d nested ss b ts ≡ Ok q → MoreInner ss ts q
      by true n is e =
          let (rs, r, all) = sound_declaration n ss ts q e in
          (rs, subst (λ d. Inner d ts rs q.1) (sym is) r, all)
      by false n is e =
          let (x, dx, dk) = bind_ok (nested ts) (λ x. pure (ss ++ x ∷ [])) e in
          yields (MoreInner ss ts) (ss ++ x.0 ∷ [], x.1) q (x.0 ∷ [], g.statement (h ts x dx), refl) dk

  pub data InnerTurn (ss : List Stmt) (ts : Tokens) : (List Stmt × Bool) × Tokens → Type 0 where
    closes : InnerTurn ss ts ((ss, true), ts)
    again : {all : List Stmt} {us : Tokens} → MoreInner ss ts (all, us) → InnerTurn ss ts ((all, false), us)

  pub inner_turn : (ss : List Stmt) (ts : Tokens) (q : (List Stmt × Bool) × Tokens) → p.inner_turn d nested ss ts ≡ Ok q → InnerTurn ss ts q
  inner_turn ss ts q e = by (is_mark m.RightBrace ts) e
    where
      by : (b : Bool) → p.inner_turn_by d nested ss b ts ≡ Ok q → InnerTurn ss ts q
      by true e = yields (InnerTurn ss ts) ((ss, true), ts) q closes e
      by false e =
          let (a, da, dk) = bind_ok (p.inner d nested ss ts) (λ all. pure (all, false)) e in
          yields (InnerTurn ss ts) ((a.0, false), a.1) q (again (sound_inner ss ts a da)) dk

  abbrev FoundInners : List Stmt → Tokens → List Stmt → Tokens → Type 0
  FoundInners xs ts ys us = (zs : List Stmt) × Inners d ts zs us × (ys ≡ xs ++ zs)

  inners_last : (a b : List Stmt) (ts us : Tokens) → InnerTurn a ts ((b, true), us) → FoundInners a ts b us
  inners_last a b ts us closes = ([], g.done, sym (append-nil a))

  inners_next : (a b c : List Stmt) (ts us vs : Tokens) → InnerTurn a ts ((b, false), us) → FoundInners b us c vs → FoundInners a ts c vs
  inners_next a b c ts us vs (again (rs, r, all)) (zs, k, is) = (rs ++ zs, g.next r k, is ∙ ap (λ l. l ++ zs) all ∙ append_assoc a rs zs)

  pub record IsBraced (ts : Tokens) (q : List Stmt × Tokens) : Type 0 where
    pub close : Tokens
    pub inners : Inners d ts q.0 close
    pub closes : Takes (Mark m.RightBrace) close q.1

  pub sound_braced : (ts : Tokens) (q : List Stmt × Tokens) → p.braced d nested ts ≡ Ok q → IsBraced ts q
  sound_braced ts q e =
      let (s, ds, dk) = bind_ok (repeat (p.inner_turn d nested) [] ts) (λ ss us. bind (expect m.RightBrace us) (λ _. pure ss)) e in
      let (r, dr, dl) = bind_ok (expect m.RightBrace s.1) (λ _. pure s.0) dk in
      let (zs, k, is) = repeat_keeps (p.inner_turn d nested) FoundInners
      (λ a b ts us e. inners_last a b ts us (inner_turn a ts ((b, true), us) e))
      (λ a b c ts us vs e k. inners_next a b c ts us vs (inner_turn a ts ((b, false), us) e) k) [] ts s ds in
      yields (IsBraced ts) (s.0, r.1) q
      (record { close = s.1; inners = subst (λ l. Inners d ts l s.1) (sym is) k; closes = expect_takes m.RightBrace s.1 r dr }) dl

  sound_else : (ts us vs : Tokens) (c : Expr) (x : Stmt) (q : StmtKind × Tokens)
      → Takes (Key key.If) ts (tail ts) → Parenthesized (tail ts) c us → Statement d us x vs
      → p.else_by d nested c x (else_next vs) vs ≡ Ok q → Kind d ts q
  sound_else ts us [] c x q t a b e = yields (Kind d ts) (kind.If c x None, []) q (g.if_only t a b refl) e
  sound_else ts us (v ∷ vs) c x q t a b e = by v.kind refl e
    where
      none : (k : TokenKind) → v.kind ≡ k → is_else k ≡ false → ◌≡◌ {A = Read StmtKind} (Ok (kind.If c x None, v ∷ vs)) (Ok q) → Kind d ts q
      none k dv f e = yields (Kind d ts) (kind.If c x None, v ∷ vs) q (g.if_only t a b (ap is_else dv ∙ f)) e

      by : (k : TokenKind) → v.kind ≡ k → p.else_by d nested c x (is_else k) (v ∷ vs) ≡ Ok q → Kind d ts q
      by (Key key.Else) dv e =
          let (y, dy, dk) = bind_ok (nested vs) (λ y. pure (kind.If c x (Some y))) e in
          yields (Kind d ts) (kind.If c x (Some y.0), y.1) q (g.if_else t a b (takes dv) (h vs y dy)) dk
      by k dv e = none k dv refl e

  sound_branch : (ts : Tokens) (q : StmtKind × Tokens) → Takes (Key key.If) ts (tail ts) → p.branch d nested ts ≡ Ok q → Kind d ts q
  sound_branch ts q t e =
      let (c, dc, dk) = bind_ok (bind (bind (p.gate d ts) (λ _. skip)) (λ _. p.parenthesized))
      (λ c us. bind (nested us) (λ x vs. p.else_by d nested c x (else_next vs) vs)) e in
      let (r, dr, dl) = bind_ok (bind (p.gate d ts) (λ _. skip)) (λ _. p.parenthesized) dc in
      let (s, ds, dm) = bind_ok (nested c.1) (λ x vs. p.else_by d nested c.0 x (else_next vs) vs) dk in
      sound_else ts c.1 s.1 c.0 s.0 q t (subst (λ us. Parenthesized us c.0 c.1) (sym (skipped d ts r dr)) (sound_parenthesized r.1 c dl)) (h c.1 s ds) dm

  sound_while : (ts : Tokens) (q : StmtKind × Tokens) → Takes (Key key.While) ts (tail ts) → p.while_loop d nested ts ≡ Ok q → Kind d ts q
  sound_while ts q t e =
      let (c, dc, dk) = bind_ok (bind (bind (p.gate d ts) (λ _. skip)) (λ _. p.parenthesized)) (λ c us. bind (nested us) (λ x. pure (kind.While c x))) e in
      let (r, dr, dl) = bind_ok (bind (p.gate d ts) (λ _. skip)) (λ _. p.parenthesized) dc in
      let (s, ds, dm) = bind_ok (nested c.1) (λ x. pure (kind.While c.0 x)) dk in
      yields (Kind d ts) (kind.While c.0 s.0, s.1) q
      (g.while_loop t (subst (λ us. Parenthesized us c.0 c.1) (sym (skipped d ts r dr)) (sound_parenthesized r.1 c dl)) (h c.1 s ds)) dm

  -- a loop with the parts that its head has
  record IsFor (n : Option LoopNote) (ts : Tokens) (q : StmtKind × Tokens) : Type 0 where
    first : Option Stmt
    test : Option Expr
    third : Option Stmt
    body : Stmt
    inside : Tokens
    head : Head ts first test third inside
    reads : Statement d inside body q.1
    is : kind.For first test third body n ≡ q.0

  sound_for : (n : Option LoopNote) (ts : Tokens) (q : StmtKind × Tokens) → p.for_loop d nested n ts ≡ Ok q → IsFor n ts q
  sound_for n ts q e =
      let (a, da, dk) = bind_ok (p.head ts) (λ a us. bind (nested us) (λ x. pure (kind.For a.0 a.1 a.2 x n))) e in
      let (x, dx, dl) = bind_ok (nested a.1) (λ x. pure (kind.For a.0.0 a.0.1 a.0.2 x n)) dk in
      yields (IsFor n ts) (kind.For a.0.0 a.0.1 a.0.2 x.0 n, x.1) q
      (record { first = a.0.0; test = a.0.1; third = a.0.2; body = x.0; inside = a.1; head = sound_head ts a da; reads = h a.1 x dx; is = refl }) dl

  sound_plain_for : (ts : Tokens) (q : StmtKind × Tokens) → bind (p.gate d ts) (λ _. p.for_loop d nested None) ≡ Ok q → Kind d ts q
  sound_plain_for ts q e =
      let (n, is, c) = gated d (p.for_loop d nested None) ts q e in
      let f = sound_for None ts q c in
      subst (λ (k : StmtKind). Statement (suc d) ts (at ts k) q.1) f.is (g.for_loop f.head f.reads)

  sound_noted : (ts : Tokens) (q : Stmt × Tokens) → Takes Alter ts (tail ts) → p.noted_loop d nested ts ≡ Ok q → Statement (suc d) ts q.0 q.1
  sound_noted ts q t e =
      let loop : LoopNote → Step Stmt = λ n vs. bind (p.for_loop d nested (Some n) vs) (λ k. pure (at vs k)) in
      let (n, dn, dk) = bind_ok (bind (bind (p.gate d ts) (λ _. skip)) (λ _. p.loop_note)) (λ n us. bind (p.end_note us) (λ _. loop n)) e in
      let (r, dr, dl) = bind_ok (bind (p.gate d ts) (λ _. skip)) (λ _. p.loop_note) dn in
      let (s, ds, dm) = bind_ok (p.end_note n.1) (λ _. loop n.0) dk in
      let (k, dk', do') = bind_ok (p.for_loop d nested (Some n.0) s.1) (λ k. pure (at s.1 k)) dm in
      let f = sound_for (Some n.0) s.1 k dk' in
      yields (λ (q : Stmt × Tokens). Statement (suc d) ts q.0 q.1) (at s.1 k.0, k.1) q
      (subst (λ (c : StmtKind). Statement (suc d) ts (at s.1 c) k.1) f.is
      (g.noted_loop t (subst (λ us. Note us n.0 n.1) (sym (skipped d ts r dr)) (sound_note r.1 n dl)) (end_takes n.1 s ds) f.head f.reads)) do'

  sound_block : (ts : Tokens) (q : StmtKind × Tokens)
      → Takes (Mark m.LeftBrace) ts (tail ts) → bind (p.braced d nested (tail ts)) (λ ss. pure (kind.Block ss)) ≡ Ok q → Kind d ts q
  sound_block ts q t e =
      let (s, ds, dk) = bind_ok (p.braced d nested (tail ts)) (λ ss. pure (kind.Block ss)) e in
      let b = sound_braced (tail ts) s ds in
      yields (Kind d ts) (kind.Block s.0, s.1) q (g.block t b.inners b.closes) dk

  sound_kind : (c : Option TokenKind) (ts : Tokens) (q : StmtKind × Tokens) → kind_at ts ≡ c → p.kind_by d nested c ts ≡ Ok q → Kind d ts q
  sound_kind (Some (Mark m.Semicolon)) ts q dt e = yields (Kind d ts) (kind.Empty, tail ts) q (g.empty (kind_takes ts dt)) e
  sound_kind (Some (Mark m.LeftBrace)) ts q dt e = sound_block ts q (kind_takes ts dt) e
  sound_kind (Some (Key key.If)) ts q dt e = sound_branch ts q (kind_takes ts dt) e
  sound_kind (Some (Key key.While)) ts q dt e = sound_while ts q (kind_takes ts dt) e
  sound_kind (Some (Key key.For)) ts q dt e = sound_plain_for ts q e
  sound_kind (Some (Key key.Return)) ts q dt e = sound_returns d ts q (kind_takes ts dt) e
  sound_kind (Some (Key key.Break)) ts q dt e = sound_ended d ts (tail ts) kind.Break q (λ vs u. g.break_loop (kind_takes ts dt) u) e
  sound_kind (Some (Key key.Continue)) ts q dt e = sound_ended d ts (tail ts) kind.Continue q (λ vs u. g.continue_loop (kind_takes ts dt) u) e
  sound_kind _ ts q dt e = sound_plain d ts q e

  sound_lined : (c : Option TokenKind) (ts : Tokens) (q : Stmt × Tokens)
      → kind_at ts ≡ c → p.lined (p.kind_by d nested c) ts ≡ Ok q → Statement (suc d) ts q.0 q.1
  sound_lined c ts q dt e =
      let (k, dk, dl) = bind_ok (p.kind_by d nested c ts) (λ k. pure (at ts k)) e in
      yields (λ (q : Stmt × Tokens). Statement (suc d) ts q.0 q.1) (at ts k.0, k.1) q (sound_kind c ts k dt dk) dl

  sound_step : (ts : Tokens) (q : Stmt × Tokens) → p.statement_step d nested ts ≡ Ok q → Statement (suc d) ts q.0 q.1
  sound_step ts q e = by (kind_at ts) refl e
    where
      by : (c : Option TokenKind) → kind_at ts ≡ c → p.statement_by d nested c ts ≡ Ok q → Statement (suc d) ts q.0 q.1
      by (Some Alter) dt e = sound_noted ts q (kind_takes ts dt) e
      by c dt e = sound_lined c ts q dt e

pub sound_statement : (d : ℕ) (ts : Tokens) (q : Stmt × Tokens) → p.statement d ts ≡ Ok q → Statement d ts q.0 q.1
unfolding p.statement
sound_statement zero ts q e = absurd cc
sound_statement (suc d) ts q e = sound_step d (p.statement d) (sound_statement d) ts q e
