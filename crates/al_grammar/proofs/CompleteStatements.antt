-- The parser of statements reads what is in the grammar.
use Rattle.std.proofs.Common.{◌≡◌, ℕ, suc, ◌+◌, ◌<◌, Bool, true, false, List, [], ◌∷◌, ◌++◌, append_assoc, length, Option, Some, None, Ok, Err, refl, sym, ap, subst, ◌∙◌, arith}
use Rattle.std.proofs.lemmas.List.{append-nil}
use Rattle.al_source.specs.declared.tokens.TokenKind.{TokenKind}
use Rattle.al_source.specs.declared.tokens.TokenKind.TheVariants.{Word, Text, Key, Mark, Alter, EndAlter}
use Rattle.al_source.specs.declared.tokens.Mark as the_mark
use Rattle.al_source.specs.declared.tokens.Mark.TheVariants as m
use Rattle.al_source.specs.declared.tokens.Key.TheVariants as key
use Rattle.al_source.specs.declared.texts.Piece.{Piece}
use Rattle.al_source.specs.declared.operators.BinOp.{BinOp}
use Rattle.al_source.specs.declared.operators.RedOp.{RedOp}
use Rattle.al_source.specs.declared.annotations.Policy.{Policy}
use Rattle.al_source.specs.declared.annotations.Policy.TheVariants as policy
use Rattle.al_source.specs.declared.annotations.CommitOrder.{CommitOrder}
use Rattle.al_source.specs.declared.annotations.CommitOrder.TheVariants as order
use Rattle.al_source.specs.declared.annotations.LoopNote.{LoopNote}
use Rattle.al_source.specs.declared.annotations.NamedRed.{NamedRed}
use Rattle.al_source.specs.declared.source_tree.CType.{CType}
use Rattle.al_source.specs.declared.source_tree.Field.{Field}
use Rattle.al_source.specs.declared.source_tree.Expr.{Expr}
use Rattle.al_source.specs.declared.source_tree.Expr.TheVariants as e
use Rattle.al_source.specs.declared.source_tree.Stmt.{Stmt}
use Rattle.al_source.specs.declared.source_tree.StmtKind.{StmtKind}
use Rattle.al_source.specs.declared.source_tree.StmtKind.TheVariants as kind
use Rattle.al_source.specs.declared.limits.TheConstants.{EXPRESSION_OPERATORS}
use Rattle.al_grammar.specs.declared.operators.NoteWord.{NoteWord}
use Rattle.al_grammar.specs.declared.operators.NoteWord.TheVariants as note
use Rattle.al_grammar.specs.Operators.{update_of, step_of, note_word_of}
use Rattle.al_grammar.specs.Phrases.{Tokens, Name, Takes, takes, Means, means, line_at}
use Rattle.al_grammar.specs.Types.{Base, Declarator}
use Rattle.al_grammar.specs.Types as ty
use Rattle.al_grammar.specs.Expressions.{Reads, Expression, Place}
use Rattle.al_grammar.specs.Expressions as gr
use Rattle.al_grammar.specs.Statements.{statement_of, at, one, reduced, is_else, else_next, Values, CallValues, PrintValues, Simple, NotePolicy, NoteOrder, Reduced, Reductions, Note, Maybe, First, Third, Head, Parenthesized, Initializer, Locals, Statement, Inner, Inners}
use Rattle.al_grammar.specs.Statements as g
use Rattle.al_source.specs.Steps.{bind, pure}
use Rattle.al_grammar.specs.Steps.{Read, Step, mark_in, mark_at, key_in, key_at, meaning_in, meaning_at, tail, same_mark, is_mark_in, is_mark, repeat}
use Rattle.al_grammar.specs.ExpressionParser.{expression, place, parse, unary, forget}
use Rattle.al_grammar.specs.StatementParser as p
use Rattle.al_grammar.proofs.StepFacts.{takes_kind, takes_tail, means_at, means_tail, takes_is_mark, takes_expect, takes_expect_key, takes_word, repeat_last, repeat_next}
use Rattle.al_grammar.proofs.Shorter.{turn_takes}
use Rattle.al_grammar.proofs.TypeFacts.{EndsType, not_mark, complete_base, complete_declarator, ends_declarator}
use Rattle.al_grammar.proofs.CompleteExpressions.{complete, Stops, stops_takes, stops_update, stops_step, is_stop, Begins, begins, begins_takes, begins_expr, begins_reads, complete_expression, complete_place, expression_before}
use Rattle.al_grammar.proofs.Wider.{roomier, roomier_more}
use Rattle.al_grammar.proofs.SoundStatements.{value_shorter, variable_shorter, reduce_shorter, local_shorter, EndsCall, semicolon, paren, sound_call, sound_statement, inner_turn}

-- ---- small steps

takes_mark : {c : the_mark.Mark} {ts us : Tokens} → Takes (Mark c) ts us → mark_at ts ≡ Some c
takes_mark t = ap mark_in (takes_kind t)

-- an option of a token's meaning, by its kind
no_meaning : {A : Type 0} {k : TokenKind} {ts us : Tokens} (table : TokenKind → Option A) → Takes k ts us → table k ≡ None → meaning_at table ts ≡ None
no_meaning table t e = ap (λ o. meaning_in table o) (takes_kind t) ∙ e

begins_mark : {A : Type 0} {ts : Tokens} (f : Option the_mark.Mark → A) (x : A)
    → Begins begins_expr ts → ((k : TokenKind) → begins_expr k ≡ true → f (mark_in (Some k)) ≡ x) → f (mark_at ts) ≡ x
begins_mark f x (begins {t = t} d) h = h t.kind d

-- ---- calls

complete_values : {ts us : Tokens} {xs : List Expr} (found : List Expr) → Values ts xs us → repeat p.value found ts ≡ Ok (found ++ xs, us)
complete_values {ts} {us} found (g.last {x = x} q t) =
    repeat_last p.value value_shorter found (found ++ x ∷ []) ts us (rw (expression_before refl q t, takes_mark t, takes_tail t) refl)
complete_values {ts} {us} found (g.more {vs = vs} {x = x} {xs = xs} q t r) =
    repeat_next p.value value_shorter found (found ++ x ∷ []) ts vs (rw (expression_before refl q t, takes_mark t, takes_tail t) refl)
    ∙ complete_values (found ++ x ∷ []) r
    ∙ ap (λ l. Ok (l, us)) (append_assoc found (x ∷ []) xs)

begins_values : {ts us : Tokens} {xs : List Expr} → Values ts xs us → Begins begins_expr ts
begins_values (g.last q t) = begins_reads q.reads
begins_values (g.more q t r) = begins_reads q.reads

call_open : {ts : Tokens} → Begins begins_expr ts → p.call_values_by (mark_at ts) ts ≡ p.values ts
call_open (begins {t = t} {ts = ts} d) = by t.kind d
  where
    by : (c : TokenKind) → begins_expr c ≡ true → p.call_values_by (mark_in (Some c)) (t ∷ ts) ≡ p.values (t ∷ ts)
    by (Mark m.RightParen) d = absurd cc
    by _ d = refl

complete_call_values : {ts us : Tokens} {xs : List Expr} → CallValues ts xs us → p.call_values ts ≡ Ok (xs, us)
complete_call_values (g.none t) = rw (takes_mark t, takes_tail t) refl
complete_call_values (g.some r) = call_open (begins_values r) ∙ complete_values [] r

complete_print_values : {ts us : Tokens} {xs : List Expr} → PrintValues ts xs us → p.print_values ts ≡ Ok (xs, us)
complete_print_values (g.none t) = rw (takes_mark t, takes_tail t) refl
complete_print_values (g.some t r) = rw (takes_mark t, takes_tail t) (complete_values [] r)

takes_text : {f : List Piece} {ts us : Tokens} → Takes (Text f) ts us → p.text ts ≡ Ok (f, us)
takes_text t = rw (takes_kind t, takes_tail t) refl

complete_parenthesized : {ts us : Tokens} {c : Expr} → Parenthesized ts c us → p.parenthesized ts ≡ Ok (c, us)
complete_parenthesized (g.parenthesized a q b) = rw (takes_expect a, expression_before refl q b, takes_expect b) refl

call_ends : {ts : Tokens} (k : StmtKind) → EndsCall ts → p.call_end k ts ≡ Ok (k, ts)
call_ends k (semicolon t) = rw (takes_mark t) refl
call_ends k (paren t) = rw (takes_mark t) refl

call_is : {w : Name} {ts us vs ws : Tokens} {xs : List Expr}
    → Takes (Word w) ts us → Takes (Mark m.LeftParen) us vs → CallValues vs xs ws → EndsCall ws → p.call w ts ≡ Ok (kind.Call w xs, ws)
call_is {w} {xs = xs} t u r h = rw (takes_tail t, takes_expect u, complete_call_values r) (call_ends (kind.Call w xs) h)

-- ---- a call that ends its statement is no place of an assignment

-- an assignment goes on behind a place
data Assigns : Tokens → Type 0 where
  by_assign : {ts us : Tokens} → Takes (Mark m.Assign) ts us → Assigns ts
  by_update : {ts us : Tokens} {op : BinOp} → Means update_of op ts us → Assigns ts
  by_step : {ts us : Tokens} {op : BinOp} → Means step_of op ts us → Assigns ts

stops_assigns : {ts : Tokens} (n : ℕ) → Assigns ts → Stops (n, ts)
stops_assigns n (by_assign t) = stops_takes n t refl
stops_assigns n (by_update t) = stops_update n t
stops_assigns n (by_step t) = stops_step n t

stops_call : {ts : Tokens} (n : ℕ) → EndsCall ts → Stops (n, ts)
stops_call n (semicolon t) = stops_takes n t refl
stops_call n (paren t) = stops_takes n t refl

some_none : {A : Type 0} {x : A} → ◌≡◌ {A = Option A} (Some x) None → ⊥
some_none e = cc

marks_apart : {a b : the_mark.Mark} {ts us vs : Tokens} → Takes (Mark a) ts us → Takes (Mark b) ts vs → (Some (Mark a) ≡ Some (Mark b) → ⊥) → ⊥
marks_apart t u h = h (sym (takes_kind t) ∙ takes_kind u)

assigns_no_call : {ts : Tokens} → Assigns ts → EndsCall ts → ⊥
assigns_no_call (by_assign t) (semicolon u) = marks_apart t u (λ e. cc)
assigns_no_call (by_assign t) (paren u) = marks_apart t u (λ e. cc)
assigns_no_call (by_update t) (semicolon u) = some_none (sym (means_at t) ∙ no_meaning update_of u refl)
assigns_no_call (by_update t) (paren u) = some_none (sym (means_at t) ∙ no_meaning update_of u refl)
assigns_no_call (by_step t) (semicolon u) = some_none (sym (means_at t) ∙ no_meaning step_of u refl)
assigns_no_call (by_step t) (paren u) = some_none (sym (means_at t) ∙ no_meaning step_of u refl)

-- arguments with some room in front, and some left
record RoomyMore (ts : Tokens) (xs : List Expr) (us : Tokens) : Type 0 where
  room : ℕ
  left : ℕ
  reads : gr.More (room, ts) xs (left, us)

roomy_more : {ts us : Tokens} {xs : List Expr} → Values ts xs us → RoomyMore ts xs us
roomy_more (g.last q t) = record { room = EXPRESSION_OPERATORS; left = q.left; reads = gr.last q.reads t }
roomy_more (g.more {vs = vs} {ws = ws} {xs = xs} q t r) =
    let k = roomy_more r in
    let swap : q.left + k.room ≡ k.room + q.left = omega arith in
    record {
      room = k.room + EXPRESSION_OPERATORS;
      left = q.left + k.left;
      reads = gr.more (roomier k.room q.reads) t (subst (λ n. gr.More (n, vs) xs (q.left + k.left, ws)) swap (roomier_more q.left k.reads));
    }

record Roomy (ts : Tokens) (xs : List Expr) (us : Tokens) : Type 0 where
  room : ℕ
  left : ℕ
  reads : gr.Arguments (room, ts) xs (left, us)

roomy : {ts us : Tokens} {xs : List Expr} → CallValues ts xs us → Roomy ts xs us
roomy (g.none t) = record { room = 0; left = 0; reads = gr.none t }
roomy (g.some r) = let q = roomy_more r in record { room = q.room; left = q.left; reads = gr.some q.reads }

one_call : {w : Name} {ts us vs ws : Tokens} {xs : List Expr} {n l : ℕ}
    → Takes (Word w) ts us → Takes (Mark m.LeftParen) us vs → gr.Arguments (n, vs) xs (l, ws) → Reads gr.unary (suc n, ts) (e.Call w xs) (l, ws)
one_call t u r = gr.plain (gr.bare (gr.call t u r))

unwrap : {x y : Expr × Tokens} → ◌≡◌ {A = Read Expr} (Ok x) (Ok y) → x ≡ y
unwrap d = cc

not_both : (w : Name) (ts us : Tokens) (x : Expr) (q : StmtKind × Tokens) → Takes (Word w) ts (tail ts) → p.call w ts ≡ Ok q → Place ts x us → Assigns us → ⊥
not_both w ts us x q t c place a =
    let (k, end) = sound_call w ts q c in
    let r = roomy k.arguments in
    let wide_place = roomier (suc r.room) place.reads in
    let wide_call = roomier EXPRESSION_OPERATORS (one_call t k.opens r.reads) in
    let same_room : suc r.room + EXPRESSION_OPERATORS ≡ EXPRESSION_OPERATORS + suc r.room = omega arith in
    let first = complete wide_place (stops_assigns (suc r.room + place.left) a).operand in
    let second = complete wide_call (stops_call (EXPRESSION_OPERATORS + r.left) end).operand in
    let both : ◌≡◌ {A = Read Expr} (Ok (x, us)) (Ok (e.Call w k.xs, q.1)) = ap forget (sym first ∙ ap (λ n. parse unary (n, ts)) same_room ∙ second) in
    assigns_no_call (subst Assigns (ap (λ o. o.1) (unwrap both)) a) end

-- ---- assignments

place_is : {ts us : Tokens} {x : Expr} → Place ts x us → Assigns us → place ts ≡ Ok (x, us)
place_is q a = complete_place q (λ n. stops_assigns n a)

-- what follows a simple statement
pub data Follows : Tokens → Type 0 where
  by_semicolon : {ts us : Tokens} → Takes (Mark m.Semicolon) ts us → Follows ts
  by_paren : {ts us : Tokens} → Takes (Mark m.RightParen) ts us → Follows ts

ends_call : {ts : Tokens} → Follows ts → EndsCall ts
ends_call (by_semicolon t) = semicolon t
ends_call (by_paren t) = paren t

stops_follows : {ts : Tokens} → Follows ts → (n : ℕ) → Stops (n, ts)
stops_follows (by_semicolon t) n = stops_takes n t refl
stops_follows (by_paren t) n = stops_takes n t refl

update_no_step : (k : TokenKind) (op : BinOp) → step_of k ≡ Some op → update_of k ≡ None
update_no_step (Mark m.Increment) op d = refl
update_no_step (Mark m.Decrement) op d = refl
update_no_step _ op d = absurd cc

step_no_update : {op : BinOp} {ts us : Tokens} → Means step_of op ts us → meaning_at update_of ts ≡ None
step_no_update {op} (means {t = t} d) = update_no_step t.kind op d

-- From a place on: what a place and what follows it give, whatever the first token.
record IsPlaced (ts : Tokens) (k : StmtKind) (us : Tokens) : Type 0 where
  x : Expr
  behind : Tokens
  place : Place ts x behind
  assigns : Assigns behind
  is : p.assign x behind ≡ Ok (k, us)

assigned : {ts us vs ws : Tokens} {x y : Expr}
    → Place ts x us → Takes (Mark m.Assign) us vs → Expression vs y ws → Follows ws → IsPlaced ts (kind.Assign x y) ws
assigned {us = us} {x = x} q t r h = record {
  x = x;
  behind = us;
  place = q;
  assigns = by_assign t;
  is = rw (no_meaning update_of t refl, no_meaning step_of t refl, takes_expect t, complete_expression r (stops_follows h)) refl;
}

updated : {ts us vs ws : Tokens} {x y : Expr} {op : BinOp}
    → Place ts x us → Means update_of op us vs → Expression vs y ws → Follows ws → IsPlaced ts (kind.Update op x y) ws
updated {us = us} {x = x} q t r h = record {
  x = x;
  behind = us;
  place = q;
  assigns = by_update t;
  is = rw (means_at t, means_tail t, complete_expression r (stops_follows h)) refl;
}

stepped : {ts us vs : Tokens} {x : Expr} {op : BinOp} → Place ts x us → Means step_of op us vs → IsPlaced ts (kind.Update op x one) vs
stepped {us = us} {x = x} q t = record { x = x; behind = us; place = q; assigns = by_step t; is = rw (step_no_update t, means_at t, means_tail t) refl }

placed_is : {ts us : Tokens} {k : StmtKind} → IsPlaced ts k us → p.placed ts ≡ Ok (k, us)
placed_is {ts} {us} {k} q = ap (λ o. bind o p.assign) (place_is q.place q.assigns) ∙ q.is

-- what begins an expression is no step
expr_no_step : (k : TokenKind) → begins_expr k ≡ true → step_of k ≡ None
expr_no_step (Mark m.Increment) d = absurd cc
expr_no_step (Mark m.Decrement) d = absurd cc
expr_no_step _ d = refl

placed_simple : {ts us : Tokens} {k : StmtKind} → IsPlaced ts k us → p.simple ts ≡ Ok (k, us)
placed_simple {ts} {us} {k} q = from (begins_reads q.place.reads) (placed_is q) (λ w a t c. not_both w ts q.behind q.x a t c q.place q.assigns)
  where
    from : {ts us : Tokens} {k : StmtKind} → Begins begins_expr ts → p.placed ts ≡ Ok (k, us)
        → ((w : Name) (a : StmtKind × Tokens) → Takes (Word w) ts (tail ts) → p.call w ts ≡ Ok a → ⊥) → p.simple ts ≡ Ok (k, us)
    from {us = us} {k = k} (begins {t = t} {ts = ts} d) is never = by t.kind refl d
      where
        no_call : (w : Name) (o : Read StmtKind) → p.call w (t ∷ ts) ≡ o → Takes (Word w) (t ∷ ts) ts → p.first o (p.placed (t ∷ ts)) ≡ Ok (k, us)
        no_call w (Ok a) c tw = absurd (never w a tw c)
        no_call w (Err b) c tw = ap (p.second b) is

        plain : (c : TokenKind) → t.kind ≡ c → begins_expr c ≡ true → p.before_by (step_of t.kind) (t ∷ ts) ≡ Ok (k, us)
        plain c dt f = ap (λ o. p.before_by o (t ∷ ts)) (ap step_of dt ∙ expr_no_step c f) ∙ is

        by : (c : TokenKind) → t.kind ≡ c → begins_expr t.kind ≡ true → p.simple_by (Some c) (t ∷ ts) ≡ Ok (k, us)
        by (Word w) dt f = no_call w (p.call w (t ∷ ts)) refl (takes dt)
        by (Key key.Printf) dt f = absurd (let no : false ≡ true = sym (ap begins_expr dt) ∙ f in cc)
        by (Key key.Free) dt f = absurd (let no : false ≡ true = sym (ap begins_expr dt) ∙ f in cc)
        by c dt f = plain c dt (ap begins_expr (sym dt) ∙ f)

-- what begins with a step goes on as one
step_first : (k : TokenKind) (op : BinOp) (ts : Tokens) → step_of k ≡ Some op → p.simple_by (Some k) ts ≡ p.before_by (meaning_at step_of ts) ts
step_first (Mark m.Increment) op ts d = refl
step_first (Mark m.Decrement) op ts d = refl
step_first _ op ts d = absurd cc

before_simple : {op : BinOp} {ts us : Tokens} → Means step_of op ts us → p.simple ts ≡ p.before_by (Some op) ts
before_simple {op} (means {t = t} {ts = ts} d) = step_first t.kind op (t ∷ ts) d ∙ ap (λ o. p.before_by o (t ∷ ts)) d

call_simple : {w : Name} {ts us vs ws : Tokens} {xs : List Expr}
    → Takes (Word w) ts us → Takes (Mark m.LeftParen) us vs → CallValues vs xs ws → EndsCall ws → p.simple ts ≡ Ok (kind.Call w xs, ws)
call_simple {w} {ts} t u r h = ap (λ c. p.simple_by c ts) (takes_kind t) ∙ ap (λ o. p.first o (p.placed ts)) (call_is t u r h)

pub complete_simple : {ts us : Tokens} {k : StmtKind} → Simple ts k us → Follows us → p.simple ts ≡ Ok (k, us)
complete_simple (g.assign q t r) h = placed_simple (assigned q t r h)
complete_simple (g.update q t r) h = placed_simple (updated q t r h)
complete_simple (g.step_after q t) h = placed_simple (stepped q t)
complete_simple (g.step_before {op = op} t q) h = before_simple t ∙ rw (means_tail t, complete_place q (stops_follows h)) refl
complete_simple (g.call t u r) h = call_simple t u r (ends_call h)
complete_simple (g.print t u f r) h = rw (takes_kind t, takes_tail t, takes_expect u, takes_text f, complete_print_values r) refl
complete_simple (g.free t q) h = rw (takes_kind t, takes_tail t, complete_parenthesized q) refl

-- ---- annotations

complete_policy : {ts us : Tokens} {a : Policy}
    → NotePolicy ts a us → ((b : Policy) → meaning_at note_word_of us ≡ Some (note.Policy b) → ⊥) → p.note_policy ts ≡ Ok (a, us)
complete_policy (g.absent {ts = ts}) h = by (meaning_at note_word_of ts) refl
  where
    by : (o : Option NoteWord) → meaning_at note_word_of ts ≡ o → p.policy_by o ts ≡ Ok (policy.Raw, ts)
    by (Some (note.Policy b)) d = absurd (h b d)
    by _ d = refl
complete_policy (g.written t) h = rw (means_at t, means_tail t) refl

complete_order : {ts us : Tokens} {a : CommitOrder}
    → NoteOrder ts a us → ((b : CommitOrder) → meaning_at note_word_of us ≡ Some (note.Order b) → ⊥) → p.note_order ts ≡ Ok (a, us)
complete_order (g.absent {ts = ts}) h = by (meaning_at note_word_of ts) refl
  where
    by : (o : Option NoteWord) → meaning_at note_word_of ts ≡ o → p.order_by o ts ≡ Ok (order.InOrder, ts)
    by (Some (note.Order b)) d = absurd (h b d)
    by _ d = refl
complete_order (g.written t) h = rw (means_at t, means_tail t) refl

complete_variables : {op : RedOp} {ts us : Tokens} {rs : List NamedRed} (found : List NamedRed)
    → Reduced op ts rs us → repeat (p.variable op) found ts ≡ Ok (found ++ rs, us)
complete_variables {op} {ts} {us} found (g.last {w = w} t u) =
    repeat_last (p.variable op) (variable_shorter op) found (found ++ reduced op w ∷ []) ts us (rw (takes_word t, takes_mark u, takes_tail u) refl)
complete_variables {op} {ts} {us} found (g.more {vs = vs} {w = w} {xs = xs} t u r) =
    repeat_next (p.variable op) (variable_shorter op) found (found ++ reduced op w ∷ []) ts vs (rw (takes_word t, takes_mark u, takes_tail u) refl)
    ∙ complete_variables (found ++ reduced op w ∷ []) r
    ∙ ap (λ l. Ok (l, us)) (append_assoc found (reduced op w ∷ []) xs)

-- the end of an annotation says nothing
end_says : {ts us : Tokens} → Takes EndAlter ts us → meaning_at note_word_of ts ≡ None
end_says t = no_meaning note_word_of t refl

complete_reductions : {ts us vs : Tokens} {rs : List NamedRed} (found : List NamedRed)
    → Reductions ts rs us → Takes EndAlter us vs → repeat p.reduce_turn found ts ≡ Ok (found ++ rs, us)
complete_reductions found (g.none {ts = ts}) t =
    repeat_last p.reduce_turn reduce_shorter found found ts ts (rw (end_says t) refl) ∙ ap (λ l. Ok (l, ts)) (sym (append-nil found))
complete_reductions {ts} {us} found (g.reduce {ys = ys} {ns = ns} {rs = rs} a b c d r q) t =
    repeat_next p.reduce_turn reduce_shorter found (found ++ ns) ts ys
    (rw (means_at a, means_tail a, takes_expect b, means_at c, means_tail c, takes_expect d, complete_variables found r) refl)
    ∙ complete_reductions (found ++ ns) q t
    ∙ ap (λ l. Ok (l, us)) (append_assoc found ns rs)

-- what may come behind a policy and an order
pub data Says (table : NoteWord → Bool) : Tokens → Type 0 where
  nothing : {ts us : Tokens} → Takes EndAlter ts us → Says table ts
  says : {ts us : Tokens} {a : NoteWord} → Means note_word_of a ts us → table a ≡ true → Says table ts

abbrev is_reduce : NoteWord → Bool
is_reduce note.Reduce = true
is_reduce _ = false

abbrev is_order_or_reduce : NoteWord → Bool
is_order_or_reduce (note.Order o) = true
is_order_or_reduce note.Reduce = true
is_order_or_reduce _ = false

says_reductions : {ts us vs : Tokens} {rs : List NamedRed} → Reductions ts rs us → Takes EndAlter us vs → Says is_reduce ts
says_reductions g.none t = nothing t
says_reductions (g.reduce a b c d r q) t = says a refl

says_order : {ts us vs ws : Tokens} {a : CommitOrder} {rs : List NamedRed}
    → NoteOrder ts a us → Reductions us rs vs → Takes EndAlter vs ws → Says is_order_or_reduce ts
says_order (g.written a) r t = says a refl
says_order g.absent r t = wider (says_reductions r t)
  where
    more : (a : NoteWord) → is_reduce a ≡ true → is_order_or_reduce a ≡ true
    more note.Reduce d = refl
    more _ d = absurd cc

    wider : {ts : Tokens} → Says is_reduce ts → Says is_order_or_reduce ts
    wider (nothing t) = nothing t
    wider (says {a = a} t d) = says t (more a d)

word_same : {a b : NoteWord} → Some a ≡ Some b → a ≡ b
word_same d = cc

says_no_order : {ts : Tokens} → Says is_reduce ts → (b : CommitOrder) → meaning_at note_word_of ts ≡ Some (note.Order b) → ⊥
says_no_order (nothing t) b d = some_none (sym d ∙ end_says t)
says_no_order (says {a = a} t e) b d = let is : a ≡ note.Order b = word_same (sym (means_at t) ∙ d) in let no : false ≡ true = ap is_reduce (sym is) ∙ e in cc

says_no_policy : {ts : Tokens} → Says is_order_or_reduce ts → (b : Policy) → meaning_at note_word_of ts ≡ Some (note.Policy b) → ⊥
says_no_policy (nothing t) b d = some_none (sym d ∙ end_says t)
says_no_policy (says {a = a} t e) b d =
    let is : a ≡ note.Policy b = word_same (sym (means_at t) ∙ d) in let no : false ≡ true = ap is_order_or_reduce (sym is) ∙ e in cc

complete_note : {ts us vs : Tokens} {n : LoopNote} → Note ts n us → Takes EndAlter us vs → p.loop_note ts ≡ Ok (n, us)
complete_note (g.note a b r) t =
    rw (complete_policy a (says_no_policy (says_order b r t)), complete_order b (says_no_order (says_reductions r t)), complete_reductions [] r t) refl

takes_end : {ts us : Tokens} → Takes EndAlter ts us → p.end_note ts ≡ Ok (tt, us)
takes_end t = rw (takes_kind t, takes_tail t) refl

-- ---- the parts of a loop's head

maybe_open : {ts : Tokens} → Begins begins_expr ts → p.maybe ts ≡ bind (expression ts) (λ x. pure (Some x))
maybe_open (begins {t = t} {ts = ts} d) = by t.kind d
  where
    by : (c : TokenKind) → begins_expr c ≡ true → p.maybe_by (mark_in (Some c)) (t ∷ ts) ≡ bind (expression (t ∷ ts)) (λ x. pure (Some x))
    by (Mark m.Semicolon) d = absurd cc
    by _ d = refl

complete_maybe : {ts us vs : Tokens} {x : Option Expr} → Maybe ts x us → Takes (Mark m.Semicolon) us vs → p.maybe ts ≡ Ok (x, us)
complete_maybe g.nothing t = rw (takes_mark t) refl
complete_maybe (g.just q) t = maybe_open (begins_reads q.reads) ∙ rw (expression_before refl q t) refl

-- what begins a simple statement
abbrev pub begins_simple : TokenKind → Bool
begins_simple (Key key.Printf) = true
begins_simple (Key key.Free) = true
begins_simple (Mark m.Increment) = true
begins_simple (Mark m.Decrement) = true
begins_simple k = begins_expr k

expr_simple : (k : TokenKind) → begins_expr k ≡ true → begins_simple k ≡ true
expr_simple (Key key.Printf) d = refl
expr_simple (Key key.Free) d = refl
expr_simple (Mark m.Increment) d = refl
expr_simple (Mark m.Decrement) d = refl
expr_simple _ d = d

step_simple : (k : TokenKind) (op : BinOp) → step_of k ≡ Some op → begins_simple k ≡ true
step_simple (Mark m.Increment) op d = refl
step_simple (Mark m.Decrement) op d = refl
step_simple _ op d = absurd cc

begins_place : {ts us : Tokens} {x : Expr} → Place ts x us → Begins begins_simple ts
begins_place q = so (begins_reads q.reads)
  where
    so : {ts : Tokens} → Begins begins_expr ts → Begins begins_simple ts
    so (begins {t = t} d) = begins (expr_simple t.kind d)

begins_step : {op : BinOp} {ts us : Tokens} → Means step_of op ts us → Begins begins_simple ts
begins_step {op} (means {t = t} d) = begins (step_simple t.kind op d)

pub first_simple : {ts us : Tokens} {k : StmtKind} → Simple ts k us → Begins begins_simple ts
first_simple (g.assign q t r) = begins_place q
first_simple (g.update q t r) = begins_place q
first_simple (g.step_after q t) = begins_place q
first_simple (g.step_before t q) = begins_step t
first_simple (g.call t u r) = begins_takes begins_simple refl t
first_simple (g.print t u f r) = begins_takes begins_simple refl t
first_simple (g.free t q) = begins_takes begins_simple refl t

-- a statement of the line that stands here
lined_is : (q : Step StmtKind) (ts us : Tokens) (k : StmtKind) → q ts ≡ Ok (k, us) → p.lined q ts ≡ Ok (at ts k, us)
lined_is q ts us k e = ap (λ o. bind o (λ k. pure (at ts k))) e

simple_open : {ts : Tokens} → Begins begins_simple ts → p.first_part ts ≡ bind (p.lined p.simple ts) (λ s. pure (Some s))
simple_open (begins {t = t} {ts = ts} d) = by t.kind refl d
  where
    no_base : (c : TokenKind) → begins_simple c ≡ true → p.begins_base (key_in (Some c)) ≡ false
    no_base (Key key.Int) d = absurd cc
    no_base (Key key.Long) d = absurd cc
    no_base (Key key.Struct) d = absurd cc
    no_base _ d = refl

    plain : (c : TokenKind)
        → t.kind ≡ c → begins_simple c ≡ true
        → bind (p.lined (p.first_kind (p.begins_base (key_at (t ∷ ts)))) (t ∷ ts)) (λ s. pure (Some s)) ≡ bind (p.lined p.simple (t ∷ ts)) (λ s. pure (Some s))
    plain c dt f = ap (λ b. bind (p.lined (p.first_kind b) (t ∷ ts)) (λ s. pure (Some s))) (ap (λ k. p.begins_base (key_in (Some k))) dt ∙ no_base c f)

    by : (c : TokenKind)
        → t.kind ≡ c → begins_simple t.kind ≡ true → p.first_by (mark_in (Some c)) (t ∷ ts) ≡ bind (p.lined p.simple (t ∷ ts)) (λ s. pure (Some s))
    by (Mark m.Semicolon) dt f = absurd (let no : false ≡ true = sym (ap begins_simple dt) ∙ f in cc)
    by c dt f = plain c dt (ap begins_simple (sym dt) ∙ f)

third_open : {ts : Tokens} → Begins begins_simple ts → p.third_part ts ≡ bind (p.lined p.simple ts) (λ s. pure (Some s))
third_open (begins {t = t} {ts = ts} d) = by t.kind d
  where
    by : (c : TokenKind) → begins_simple c ≡ true → p.third_by (mark_in (Some c)) (t ∷ ts) ≡ bind (p.lined p.simple (t ∷ ts)) (λ s. pure (Some s))
    by (Mark m.RightParen) d = absurd cc
    by _ d = refl

-- what begins a declaration
pub data FirstBase : Tokens → Type 0 where
  by_int : {ts us : Tokens} → Takes (Key key.Int) ts us → FirstBase ts
  by_long : {ts us : Tokens} → Takes (Key key.Long) ts us → FirstBase ts
  by_struct : {ts us : Tokens} → Takes (Key key.Struct) ts us → FirstBase ts

pub first_base : {ts us : Tokens} {a : CType} → Base ts a us → FirstBase ts
first_base (ty.int t) = by_int t
first_base (ty.long t u v) = by_long t
first_base (ty.structure t u) = by_struct t

pub base_begins : {ts : Tokens} → FirstBase ts → p.begins_base (key_at ts) ≡ true
base_begins (by_int t) = rw (takes_kind t) refl
base_begins (by_long t) = rw (takes_kind t) refl
base_begins (by_struct t) = rw (takes_kind t) refl

base_mark : {ts : Tokens} → FirstBase ts → mark_at ts ≡ None
base_mark (by_int t) = ap mark_in (takes_kind t)
base_mark (by_long t) = ap mark_in (takes_kind t)
base_mark (by_struct t) = ap mark_in (takes_kind t)

base_open : {ts : Tokens} → FirstBase ts → p.first_part ts ≡ bind (p.lined p.first_declaration ts) (λ s. pure (Some s))
base_open {ts} f = ap (λ k. p.first_by k ts) (base_mark f) ∙ ap (λ b. bind (p.lined (p.first_kind b) ts) (λ s. pure (Some s))) (base_begins f)

first_declaration_is : {ts us vs ws xs ys : Tokens} {a : CType} {f : Field} {x : Expr}
    → Base ts a us → Declarator a us f vs → Takes (Mark m.Assign) vs ws → Expression ws x xs → Takes (Mark m.Semicolon) xs ys
    → p.first_declaration ts ≡ Ok (kind.Declare f.ty f.name (Some x), xs)
unfolding same_mark
first_declaration_is b d t q u =
    rw (complete_base b (ends_declarator d), complete_declarator d (not_mark m.LeftBracket t refl), takes_expect t, expression_before refl q u) refl

complete_first : {ts us vs : Tokens} {x : Option Stmt} → First ts x us → Takes (Mark m.Semicolon) us vs → p.first_part ts ≡ Ok (x, us)
complete_first g.nothing t = rw (takes_mark t) refl
complete_first (g.declares {ts = ts} {xs = xs} {f = f} {x = x} b d t q) u =
    base_open (first_base b)
    ∙ ap (λ o. bind o (λ s. pure (Some s))) (lined_is p.first_declaration ts xs (kind.Declare f.ty f.name (Some x)) (first_declaration_is b d t q u))
complete_first (g.simple {ts = ts} {us = us} {k = k} s) t =
    simple_open (first_simple s) ∙ ap (λ o. bind o (λ s. pure (Some s))) (lined_is p.simple ts us k (complete_simple s (by_semicolon t)))

complete_third : {ts us vs : Tokens} {x : Option Stmt} → Third ts x us → Takes (Mark m.RightParen) us vs → p.third_part ts ≡ Ok (x, us)
complete_third g.nothing t = rw (takes_mark t) refl
complete_third (g.simple {ts = ts} {us = us} {k = k} s) t =
    third_open (first_simple s) ∙ ap (λ o. bind o (λ s. pure (Some s))) (lined_is p.simple ts us k (complete_simple s (by_paren t)))

complete_head : {ts us : Tokens} {a c : Option Stmt} {b : Option Expr} → Head ts a b c us → p.head ts ≡ Ok ((a, b, c), us)
complete_head (g.head f o a s b t c r) =
    rw (takes_expect_key f, takes_expect o, complete_first a s, takes_expect s, complete_maybe b t, takes_expect t, complete_third c r, takes_expect r) refl

-- ---- declarations

complete_initializer : {k : the_mark.Mark} {ts us vs : Tokens} {x : Option Expr}
    → Initializer ts x us → Takes (Mark k) us vs → is_stop k ≡ true → is_mark_in m.Assign (Some k) ≡ false → p.initializer ts ≡ Ok (x, us)
complete_initializer g.nothing t s h = rw (not_mark m.Assign t h) refl
complete_initializer (g.just u q) t s h = rw (takes_is_mark u, takes_tail u, expression_before s q t) refl

-- no `[` comes behind a declared name
no_bracket : {k : the_mark.Mark} {ts us vs : Tokens} {x : Option Expr}
    → Initializer ts x us → Takes (Mark k) us vs → is_mark_in m.LeftBracket (Some k) ≡ false → is_mark m.LeftBracket ts ≡ false
unfolding same_mark
no_bracket g.nothing t h = not_mark m.LeftBracket t h
no_bracket (g.just u q) t h = not_mark m.LeftBracket u refl

complete_locals : {line : ℕ} {a : CType} {ts us : Tokens} {ss : List Stmt} (found : List Stmt)
    → Locals line a ts ss us → repeat (p.local line a) found ts ≡ Ok (found ++ ss, us)
unfolding same_mark
complete_locals {line} {a} {ts} {us} found (g.last {f = f} {x = x} d i t) =
    repeat_last (p.local line a) (local_shorter line a) found (found ++ statement_of line (kind.Declare f.ty f.name x) ∷ []) ts us
    (rw (complete_declarator d (no_bracket i t refl), complete_initializer i t refl refl, takes_mark t, takes_tail t) refl)
complete_locals {line} {a} {ts} {us} found (g.more {ws = ws} {f = f} {x = x} {ss = ss} d i t r) =
    repeat_next (p.local line a) (local_shorter line a) found (found ++ statement_of line (kind.Declare f.ty f.name x) ∷ []) ts ws
    (rw (complete_declarator d (no_bracket i t refl), complete_initializer i t refl refl, takes_mark t, takes_tail t) refl)
    ∙ complete_locals (found ++ statement_of line (kind.Declare f.ty f.name x) ∷ []) r
    ∙ ap (λ l. Ok (l, us)) (append_assoc found (statement_of line (kind.Declare f.ty f.name x) ∷ []) ss)

ends_locals : {line : ℕ} {a : CType} {ts us : Tokens} {ss : List Stmt} → Locals line a ts ss us → EndsType ts
ends_locals (g.last d i t) = ends_declarator d
ends_locals (g.more d i t r) = ends_declarator d

complete_declaration : {ts us vs : Tokens} {a : CType} {ss : List Stmt} (found : List Stmt)
    → Base ts a us → Locals (line_at ts) a us ss vs → p.declaration found ts ≡ Ok (found ++ ss, vs)
complete_declaration found b r = rw (complete_base b (ends_locals r)) (complete_locals found r)

-- ---- statements

gate_open : {d : ℕ} {ts us : Tokens} {x : Stmt} (vs : Tokens) → Statement d ts x us → p.gate d vs ≡ Ok (tt, vs)
gate_open vs (g.empty t) = refl
gate_open vs _ = refl

takes_else : {ts us : Tokens} → Takes (Key key.Else) ts us → else_next ts ≡ true
takes_else (takes d) = ap is_else d

-- what begins a statement
abbrev pub begins_statement : TokenKind → Bool
begins_statement (Mark m.Semicolon) = true
begins_statement (Mark m.LeftBrace) = true
begins_statement (Key key.If) = true
begins_statement (Key key.While) = true
begins_statement (Key key.For) = true
begins_statement Alter = true
begins_statement (Key key.Return) = true
begins_statement (Key key.Break) = true
begins_statement (Key key.Continue) = true
begins_statement k = begins_simple k

simple_statement : (k : TokenKind) → begins_simple k ≡ true → begins_statement k ≡ true
simple_statement (Mark m.Semicolon) d = refl
simple_statement (Mark m.LeftBrace) d = refl
simple_statement (Key key.If) d = refl
simple_statement (Key key.While) d = refl
simple_statement (Key key.For) d = refl
simple_statement Alter d = refl
simple_statement (Key key.Return) d = refl
simple_statement (Key key.Break) d = refl
simple_statement (Key key.Continue) d = refl
simple_statement _ d = d

head_first : {ts us : Tokens} {a c : Option Stmt} {b : Option Expr} → Head ts a b c us → Takes (Key key.For) ts (tail ts)
head_first (g.head (takes d) o a s b t c r) = takes d

first_statement : {d : ℕ} {ts us : Tokens} {x : Stmt} → Statement d ts x us → Begins begins_statement ts
first_statement (g.empty t) = begins_takes begins_statement refl t
first_statement (g.block t r u) = begins_takes begins_statement refl t
first_statement (g.simple s t) = wider (first_simple s)
  where
    wider : {ts : Tokens} → Begins begins_simple ts → Begins begins_statement ts
    wider (begins {t = t} d) = begins (simple_statement t.kind d)
first_statement (g.if_only t c s n) = begins_takes begins_statement refl t
first_statement (g.if_else t c s u q) = begins_takes begins_statement refl t
first_statement (g.while_loop t c s) = begins_takes begins_statement refl t
first_statement (g.for_loop h s) = begins_takes begins_statement refl (head_first h)
first_statement (g.noted_loop t n u h s) = begins_takes begins_statement refl t
first_statement (g.return_value t x u) = begins_takes begins_statement refl t
first_statement (g.break_loop t u) = begins_takes begins_statement refl t
first_statement (g.continue_loop t u) = begins_takes begins_statement refl t

-- neither a declaration nor a `}`
statement_no_base : {ts : Tokens} → Begins begins_statement ts → p.begins_base (key_at ts) ≡ false
statement_no_base (begins {t = t} d) = by t.kind d
  where
    by : (c : TokenKind) → begins_statement c ≡ true → p.begins_base (key_in (Some c)) ≡ false
    by (Key key.Int) d = absurd cc
    by (Key key.Long) d = absurd cc
    by (Key key.Struct) d = absurd cc
    by _ d = refl

statement_no_brace : {ts : Tokens} → Begins begins_statement ts → is_mark m.RightBrace ts ≡ false
unfolding same_mark
statement_no_brace (begins {t = t} d) = by t.kind d
  where
    mark : (c : the_mark.Mark) → begins_statement (Mark c) ≡ true → is_mark_in m.RightBrace (Some c) ≡ false
    mark m.RightBrace d = absurd cc
    mark _ d = refl

    by : (c : TokenKind) → begins_statement c ≡ true → is_mark_in m.RightBrace (mark_in (Some c)) ≡ false
    by (Mark c) d = mark c d
    by _ d = refl

base_no_brace : {ts : Tokens} → FirstBase ts → is_mark m.RightBrace ts ≡ false
base_no_brace (by_int t) = not_mark m.RightBrace t refl
base_no_brace (by_long t) = not_mark m.RightBrace t refl
base_no_brace (by_struct t) = not_mark m.RightBrace t refl

inner_no_brace : {d : ℕ} {ts us : Tokens} {ss : List Stmt} → Inner d ts ss us → is_mark m.RightBrace ts ≡ false
inner_no_brace (g.declares b r) = base_no_brace (first_base b)
inner_no_brace (g.statement s) = statement_no_brace (first_statement s)

-- a token that begins a simple statement chooses it
kind_simple : (d : ℕ) (nested : Step Stmt) {ts : Tokens}
    → Begins begins_simple ts → p.statement_step d nested ts ≡ p.lined (λ us. bind (p.simple us) p.ended) ts
kind_simple d nested (begins {t = t} {ts = ts} f) = by t.kind f
  where
    by : (c : TokenKind) → begins_simple c ≡ true → p.statement_by d nested (Some c) (t ∷ ts) ≡ p.lined (λ us. bind (p.simple us) p.ended) (t ∷ ts)
    by (Mark m.Semicolon) f = absurd cc
    by (Mark m.LeftBrace) f = absurd cc
    by (Key key.If) f = absurd cc
    by (Key key.While) f = absurd cc
    by (Key key.For) f = absurd cc
    by (Key key.Return) f = absurd cc
    by (Key key.Break) f = absurd cc
    by (Key key.Continue) f = absurd cc
    by Alter f = absurd cc
    by _ f = refl

pub inner_shorter_turn : (d : ℕ) (a b : List Stmt) (ts us : Tokens) → p.inner_turn d (p.statement d) a ts ≡ Ok ((b, false), us) → length us < length ts
inner_shorter_turn d a b ts us e = turn_takes d a b ts us (inner_turn d (p.statement d) (sound_statement d) a ts ((b, false), us) e)

mutual
  unfolding p.statement

  pub complete_statement : {d : ℕ} {ts us : Tokens} {x : Stmt} → Statement d ts x us → p.statement d ts ≡ Ok (x, us)
  complete_statement (g.empty t) = rw (takes_kind t, takes_tail t) refl
  complete_statement (g.block {d = d} t r u) = rw (takes_kind t, takes_tail t, complete_inners [] r u, takes_expect u) refl
  complete_statement (g.simple {d = d} {ts = ts} {vs = vs} {k = k} s t) =
      kind_simple d (p.statement d) (first_simple s)
      ∙ lined_is (λ us. bind (p.simple us) p.ended) ts vs k (rw (complete_simple s (by_semicolon t), takes_expect t) refl)
  complete_statement (g.if_only {ts = ts} t b s n) = rw (takes_kind t, gate_open ts s, takes_tail t, complete_parenthesized b, complete_statement s, n) refl
  complete_statement (g.if_else {ts = ts} t b s u q) =
      rw (takes_kind t, gate_open ts s, takes_tail t, complete_parenthesized b, complete_statement s, takes_else u, takes_tail u, complete_statement q) refl
  complete_statement (g.while_loop {ts = ts} t b s) = rw (takes_kind t, gate_open ts s, takes_tail t, complete_parenthesized b, complete_statement s) refl
  complete_statement (g.for_loop {ts = ts} h s) = rw (takes_kind (head_first h), gate_open ts s, complete_head h, complete_statement s) refl
  complete_statement (g.noted_loop {ts = ts} t n u h s) =
      rw (takes_kind t, gate_open ts s, takes_tail t, complete_note n u, takes_end u, complete_head h, complete_statement s) refl
  complete_statement (g.return_value t x u) = rw (takes_kind t, takes_tail t, complete_maybe x u, takes_expect u) refl
  complete_statement (g.break_loop t u) = rw (takes_kind t, takes_tail t, takes_expect u) refl
  complete_statement (g.continue_loop t u) = rw (takes_kind t, takes_tail t, takes_expect u) refl

  complete_inner : {d : ℕ} {ts us : Tokens} {ss : List Stmt} (found : List Stmt) → Inner d ts ss us → p.inner d (p.statement d) found ts ≡ Ok (found ++ ss, us)
  complete_inner found (g.declares b r) = rw (base_begins (first_base b)) (complete_declaration found b r)
  complete_inner found (g.statement {d = d} {ts = ts} s) = rw (gate_open ts s, statement_no_base (first_statement s), complete_statement s) refl

  pub complete_inners : {d : ℕ} {ts us vs : Tokens} {ss : List Stmt} (found : List Stmt)
      → Inners d ts ss us → Takes (Mark m.RightBrace) us vs → repeat (p.inner_turn d (p.statement d)) found ts ≡ Ok (found ++ ss, us)
  complete_inners found (g.done {d = d} {ts = ts}) u =
      repeat_last (p.inner_turn d (p.statement d)) (inner_shorter_turn d) found found ts ts (rw (takes_is_mark u) refl)
      ∙ ap (λ l. Ok (l, ts)) (sym (append-nil found))
  complete_inners found (g.next {d = d} {ts = ts} {us = us} {vs = vs} {ss = ss} {rs = rs} r q) u =
      repeat_next (p.inner_turn d (p.statement d)) (inner_shorter_turn d) found (found ++ ss) ts us (rw (inner_no_brace r, complete_inner found r) refl)
      ∙ complete_inners (found ++ ss) q u
      ∙ ap (λ l. Ok (l, vs)) (append_assoc found ss rs)
