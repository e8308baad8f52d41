-- The parser of statements looks at no token behind the one at which it stops.
use Rattle.std.proofs.Common.{◌≡◌, ℕ, zero, suc, Bool, true, false, List, [], ◌∷◌, ◌++◌, Option, Some, None, refl, sym, subst}
use Rattle.al_source.specs.declared.tokens.TokenKind.{TokenKind}
use Rattle.al_source.specs.declared.tokens.TokenKind.TheVariants.{Word, Text, Key, Mark, Alter, EndAlter}
use Rattle.al_source.specs.declared.tokens.Mark as the_mark
use Rattle.al_source.specs.declared.tokens.Mark.TheVariants as m
use Rattle.al_source.specs.declared.tokens.Key.TheVariants as key
use Rattle.al_source.specs.declared.operators.BinOp.{BinOp}
use Rattle.al_source.specs.declared.operators.RedOp.{RedOp}
use Rattle.al_source.specs.declared.annotations.Policy.TheVariants as policy
use Rattle.al_source.specs.declared.annotations.CommitOrder.TheVariants as order
use Rattle.al_source.specs.declared.annotations.LoopNote.{LoopNote}
use Rattle.al_source.specs.declared.annotations.NamedRed.{NamedRed}
use Rattle.al_source.specs.declared.source_tree.CType.{CType}
use Rattle.al_source.specs.declared.source_tree.Expr.{Expr}
use Rattle.al_source.specs.declared.source_tree.Stmt.{Stmt}
use Rattle.al_source.specs.declared.source_tree.StmtKind.{StmtKind}
use Rattle.al_source.specs.declared.source_tree.StmtKind.TheVariants as kind
use Rattle.al_grammar.specs.declared.operators.NoteWord.{NoteWord}
use Rattle.al_grammar.specs.declared.operators.NoteWord.TheVariants as note
use Rattle.al_grammar.specs.Operators.{step_of, note_word_of}
use Rattle.al_grammar.specs.Phrases.{Tokens}
use Rattle.al_grammar.specs.Words.{key_text}
use Rattle.al_grammar.specs.Statements.{statement_of, one, reduced, else_next}
use Rattle.al_source.specs.Steps.{bind, pure}
use Rattle.al_grammar.specs.Steps.{Step, kind_at, mark_in, key_in, meaning_in, is_mark_in, repeat}
use Rattle.al_grammar.specs.TypeParser.{base}
use Rattle.al_grammar.specs.StatementParser as p
use Rattle.al_grammar.proofs.SoundStatements.{variable_shorter, reduce_shorter, local_shorter}
use Rattle.al_grammar.proofs.CompleteStatements.{inner_shorter_turn}
use Rattle.al_grammar_laws.proofs.Local.{Ends, Cut, Alike, here, there, alike_kind, bare, left, Both, Local, binds, pures, refuses, looks_any, looks_line, passes, repeats}
use Rattle.al_grammar_laws.proofs.LocalTypes.{expects_any, expects_key, words, bases, declarators}
use Rattle.al_grammar_laws.proofs.LocalExpressions.{expressions, places}
use Rattle.al_grammar_laws.proofs.LocalCalls.{values_local, placed_local, named_local, named_ends, some_cut}

alike_else : {c : Cut} {r r' : Tokens} → Alike c r r' → else_next r ≡ else_next r'
alike_else here = refl
alike_else (there w) = refl

looks_else : {c : Cut} {A : Type 0} {b : Bool} (F : Bool → Step A)
    → ((x : Bool) → Local c bare false (F x)) → Local c bare b (λ ts. F (else_next ts) ts)
looks_else {c} F h = record {
  ends = λ ts. (h (else_next ts)).ends ts;
  both = λ ts us p r w.
      subst (λ x. Both c bare (F (else_next ts) ts) (F x us)) (alike_else w) ((h (else_next ts)).both ts us (λ e. absurd cc) r w);
}

module _ {c : Cut} (go : c.Passed) where
  texts : Local c bare false p.text
  texts = looks_any p.text_by by
    where
      by : (k : Option TokenKind) → Local c bare false (p.text_by k)
      by (Some (Text f)) = binds (passes go) (λ _. pures f)
      by _ = refuses

  print_values_local : Local c bare false p.print_values
  print_values_local = looks_any (λ k. p.print_values_by (mark_in k)) (λ k. by (mark_in k))
    where
      by : (k : Option the_mark.Mark) → Local c bare false (p.print_values_by k)
      by (Some m.RightParen) = binds (passes go) (λ _. pures [])
      by (Some m.Comma) = binds (passes go) (λ _. values_local)
      by _ = refuses

  prints : {b : Bool} → Local c bare b p.print
  prints = binds (binds (expects_any go m.LeftParen) (λ _. texts)) (λ f. binds print_values_local (λ xs. pures (kind.Print f xs)))

  parentheses : {b : Bool} → Local c bare b p.parenthesized
  parentheses = binds (binds (expects_any go m.LeftParen) (λ _. expressions)) (λ x. binds (expects_any go m.RightParen) (λ _. pures x))

  frees : {b : Bool} → Local c bare b p.free
  frees = binds parentheses (λ x. pures (kind.Call (key_text key.Free) (x ∷ [])))

  befores : (o : Option BinOp) → Local c bare false (p.before_by o)
  befores (Some op) = binds (binds (passes go) (λ _. places)) (λ x. pures (kind.Update op x one))
  befores None = placed_local go

  otherwise : Local c bare false (λ ts. p.before_by (meaning_in step_of (kind_at ts)) ts)
  otherwise = looks_any (λ k. p.before_by (meaning_in step_of k)) (λ k. befores (meaning_in step_of k))

  simples_both : (k : Option TokenKind) (ts us : Tokens) → kind_at ts ≡ k → kind_at us ≡ k → Alike c ts us → Both c bare (p.simple_by k ts) (p.simple_by k us)
  simples_both (Some (Word w)) ts us d e a = named_local go w ts us d a e
  simples_both (Some (Key key.Printf)) ts us d e a = (binds (passes {b = false} go) (λ _. prints)).both ts us (λ e. absurd cc) refl a
  simples_both (Some (Key key.Free)) ts us d e a = (binds (passes {b = false} go) (λ _. frees)).both ts us (λ e. absurd cc) refl a
  simples_both _ ts us d e a = otherwise.both ts us (λ e. absurd cc) refl a

simples_ends : (k : Option TokenKind) (ts : Tokens) → Ends ts (left bare (p.simple_by k ts))
simples_ends (Some (Word w)) ts = named_ends w ts
simples_ends (Some (Key key.Printf)) ts = (binds {c = some_cut} (passes {b = false} tt) (λ _. prints tt)).ends ts
simples_ends (Some (Key key.Free)) ts = (binds {c = some_cut} (passes {b = false} tt) (λ _. frees tt)).ends ts
simples_ends _ ts = (otherwise {c = some_cut} tt).ends ts

module _ {c : Cut} (go : c.Passed) where
  simples : {b : Bool} → Local c bare b p.simple
  simples = record {
    ends = λ ts. simples_ends (kind_at ts) ts;
    both = λ ts us h r a.
        subst (λ k. Both c bare (p.simple ts) (p.simple_by k us)) (alike_kind a) (simples_both go (kind_at ts) ts us refl (sym (alike_kind a)) a);
  }

  -- ---- annotations

  policies : {b : Bool} → Local c bare b p.note_policy
  policies = looks_any (λ k. p.policy_by (meaning_in note_word_of k)) (λ k. by (meaning_in note_word_of k))
    where
      by : (n : Option NoteWord) → Local c bare false (p.policy_by n)
      by (Some (note.Policy q)) = binds (passes go) (λ _. pures q)
      by _ = pures policy.Raw

  orders : {b : Bool} → Local c bare b p.note_order
  orders = looks_any (λ k. p.order_by (meaning_in note_word_of k)) (λ k. by (meaning_in note_word_of k))
    where
      by : (n : Option NoteWord) → Local c bare false (p.order_by n)
      by (Some (note.Order q)) = binds (passes go) (λ _. pures q)
      by _ = pures order.InOrder

  operators : {b : Bool} → Local c bare b p.operator
  operators = looks_any (λ k. p.operator_by (meaning_in note_word_of k)) (λ k. by (meaning_in note_word_of k))
    where
      by : (n : Option NoteWord) → Local c bare false (p.operator_by n)
      by (Some (note.Operator q)) = binds (passes go) (λ _. pures q)
      by _ = refuses

  variables : (op : RedOp) (rs : List NamedRed) → Local c bare false (p.variable op rs)
  variables op rs = binds words (λ w. looks_any (λ k. p.reduced_by (rs ++ reduced op w ∷ []) (mark_in k)) (λ k. by (rs ++ reduced op w ∷ []) (mark_in k)))
    where
      by : (rs : List NamedRed) (k : Option the_mark.Mark) → Local c bare false (p.reduced_by rs k)
      by rs (Some m.Comma) = binds (passes go) (λ _. pures (rs, false))
      by rs (Some m.RightParen) = binds (passes go) (λ _. pures (rs, true))
      by rs _ = refuses

  reductions : {b : Bool} (rs : List NamedRed) → Local c bare b (p.reduction rs)
  reductions rs =
      binds (binds (expects_any go m.LeftParen) (λ _. operators))
      (λ op. binds (expects_any go m.Colon) (λ _. repeats (p.variable op) (variable_shorter op) (variables op) rs))

  reduce_turns : (rs : List NamedRed) → Local c bare false (p.reduce_turn rs)
  reduce_turns rs = looks_any (λ k. p.reduce_by rs (meaning_in note_word_of k)) (λ k. by (meaning_in note_word_of k))
    where
      by : (n : Option NoteWord) → Local c bare false (p.reduce_by rs n)
      by (Some note.Reduce) = binds (binds (passes go) (λ _. reductions rs)) (λ all. pures (all, false))
      by _ = pures (rs, true)

  notes : {b : Bool} → Local c bare b p.loop_note
  notes =
      binds policies
      (λ q. binds orders (λ o. binds (repeats p.reduce_turn reduce_shorter reduce_turns []) (λ rs. pures (record { policy = q; order = o; reduce = rs }))))

  end_notes : {b : Bool} → Local c bare b p.end_note
  end_notes = looks_any p.end_note_by by
    where
      by : (k : Option TokenKind) → Local c bare false (p.end_note_by k)
      by (Some EndAlter) = passes go
      by _ = refuses

  -- ---- the head of a loop

  maybes : {b : Bool} → Local c bare b p.maybe
  maybes = looks_any (λ k. p.maybe_by (mark_in k)) (λ k. by (mark_in k))
    where
      by : (k : Option the_mark.Mark) → Local c bare false (p.maybe_by k)
      by (Some m.Semicolon) = pures None
      by _ = binds expressions (λ x. pures (Some x))

  lines : {b : Bool} {f : Step StmtKind} → Local c bare b f → Local c bare b (p.lined f)
  lines {f = f} l = looks_line (λ n ts. bind (f ts) (λ k. pure (statement_of n k))) (λ n. binds l (λ k. pures (statement_of n k)))

  first_kinds : (x : Bool) → Local c bare false (p.first_kind x)
  first_kinds true =
      binds bases
      (λ a. binds (declarators a)
      (λ f. binds (binds (expects_any go m.Assign) (λ _. expressions)) (λ x. pures (kind.Declare f.ty f.name (Some x)))))
  first_kinds false = simples

  some_first : Local c bare false (λ ts. bind (p.lined (p.first_kind (p.begins_base (key_in (kind_at ts)))) ts) (λ s. pure (Some s)))
  some_first =
      looks_any (λ k ts. bind (p.lined (p.first_kind (p.begins_base (key_in k))) ts) (λ s. pure (Some s)))
      (λ k. binds (lines (first_kinds (p.begins_base (key_in k)))) (λ s. pures (Some s)))

  firsts : {b : Bool} → Local c bare b p.first_part
  firsts = looks_any (λ k. p.first_by (mark_in k)) (λ k. by (mark_in k))
    where
      by : (k : Option the_mark.Mark) → Local c bare false (p.first_by k)
      by (Some m.Semicolon) = pures None
      by _ = some_first

  thirds : {b : Bool} → Local c bare b p.third_part
  thirds = looks_any (λ k. p.third_by (mark_in k)) (λ k. by (mark_in k))
    where
      by : (k : Option the_mark.Mark) → Local c bare false (p.third_by k)
      by (Some m.RightParen) = pures None
      by _ = binds (lines simples) (λ s. pures (Some s))

  heads : {b : Bool} → Local c bare b p.head
  heads =
      binds (binds (binds (expects_key key.For) (λ _. expects_any go m.LeftParen)) (λ _. firsts))
      (λ a. binds (binds (expects_any go m.Semicolon) (λ _. maybes))
      (λ b. binds (binds (expects_any go m.Semicolon) (λ _. thirds)) (λ d. binds (expects_any go m.RightParen) (λ _. pures (a, b, d)))))

  -- ---- declarations

  initializers : {b : Bool} → Local c bare b p.initializer
  initializers = looks_any (λ k. p.initializer_by (is_mark_in m.Assign (mark_in k))) (λ k. by (is_mark_in m.Assign (mark_in k)))
    where
      by : (x : Bool) → Local c bare false (p.initializer_by x)
      by true = binds (binds (passes go) (λ _. expressions)) (λ x. pures (Some x))
      by false = pures None

  local_local : (line : ℕ) (a : CType) (ss : List Stmt) → Local c bare false (p.local line a ss)
  local_local line a ss =
      binds (declarators a)
      (λ f. binds initializers
      (λ x. let all : List Stmt = ss ++ statement_of line (kind.Declare f.ty f.name x) ∷ [] in
      looks_any (λ k. p.local_by all (mark_in k)) (λ k. by all (mark_in k))))
    where
      by : (ss : List Stmt) (k : Option the_mark.Mark) → Local c bare false (p.local_by ss k)
      by ss (Some m.Comma) = binds (passes go) (λ _. pures (ss, false))
      by ss (Some m.Semicolon) = binds (passes go) (λ _. pures (ss, true))
      by ss _ = refuses

  declarations : {b : Bool} (ss : List Stmt) → Local c bare b (p.declaration ss)
  declarations ss =
      looks_line (λ n ts. bind (base ts) (λ a. repeat (p.local n a) ss))
      (λ n. binds bases (λ a. repeats (p.local n a) (local_shorter n a) (local_local n a) ss))

  -- ---- statements

  gates : {b : Bool} (d : ℕ) → Local c bare b (p.gate d)
  gates zero = refuses
  gates (suc d) = pures tt

  ends_here : {b : Bool} (k : StmtKind) → Local c bare b (p.ended k)
  ends_here k = binds (expects_any go m.Semicolon) (λ _. pures k)

  module _ (d : ℕ) (h : Local c bare false (p.statement d)) where
    abbrev N : Step Stmt
    N = p.statement d

    inner_by_local : (ss : List Stmt) (x : Bool) → Local c bare false (p.inner_by d N ss x)
    inner_by_local ss true = declarations ss
    inner_by_local ss false = binds h (λ x. pures (ss ++ x ∷ []))

    inners_local : (ss : List Stmt) → Local c bare false (p.inner d N ss)
    inners_local ss =
        binds (gates d)
        (λ _. looks_any (λ k. p.inner_by d N ss (p.begins_base (key_in k))) (λ k. inner_by_local ss (p.begins_base (key_in k))))

    inner_turns : (ss : List Stmt) → Local c bare false (p.inner_turn d N ss)
    inner_turns ss =
        looks_any (λ k. p.inner_turn_by d N ss (is_mark_in m.RightBrace (mark_in k))) (λ k. by (is_mark_in m.RightBrace (mark_in k)))
      where
        by : (x : Bool) → Local c bare false (p.inner_turn_by d N ss x)
        by true = pures (ss, true)
        by false = binds (inners_local ss) (λ all. pures (all, false))

    pub braces : {b : Bool} → Local c bare b (p.braced d N)
    braces = binds (repeats (p.inner_turn d N) (inner_shorter_turn d) inner_turns []) (λ ss. binds (expects_any go m.RightBrace) (λ _. pures ss))

    branches : {b : Bool} → Local c bare b (p.branch d N)
    branches =
        binds (binds (binds (gates d) (λ _. passes go)) (λ _. parentheses go))
        (λ q. binds h (λ x. looks_else (p.else_by d N q x) (by q x)))
      where
        by : (q : Expr) (x : Stmt) (y : Bool) → Local c bare false (p.else_by d N q x y)
        by q x true = binds (binds (passes go) (λ _. h)) (λ y. pures (kind.If q x (Some y)))
        by q x false = pures (kind.If q x None)

    whiles : {b : Bool} → Local c bare b (p.while_loop d N)
    whiles = binds (binds (binds (gates d) (λ _. passes go)) (λ _. parentheses go)) (λ q. binds h (λ x. pures (kind.While q x)))

    fors : {b : Bool} (n : Option LoopNote) → Local c bare b (p.for_loop d N n)
    fors n = binds heads (λ a. binds h (λ x. pures (kind.For a.0 a.1 a.2 x n)))

    noted : {b : Bool} → Local c bare b (p.noted_loop d N)
    noted =
        binds (binds (binds (gates d) (λ _. passes go)) (λ _. notes))
        (λ n. binds end_notes (λ _. lines (fors (Some n))))

    kinds : (k : Option TokenKind) → Local c bare false (p.kind_by d N k)
    kinds (Some (Mark m.Semicolon)) = binds (passes go) (λ _. pures kind.Empty)
    kinds (Some (Mark m.LeftBrace)) = binds (binds (passes go) (λ _. braces)) (λ ss. pures (kind.Block ss))
    kinds (Some (Key key.If)) = branches
    kinds (Some (Key key.While)) = whiles
    kinds (Some (Key key.For)) = binds (gates d) (λ _. fors None)
    kinds (Some (Key key.Return)) = binds (passes go) (λ _. binds maybes (λ x. ends_here (kind.Return x)))
    kinds (Some (Key key.Break)) = binds (passes go) (λ _. ends_here kind.Break)
    kinds (Some (Key key.Continue)) = binds (passes go) (λ _. ends_here kind.Continue)
    kinds _ = binds simples (λ k. ends_here k)

    statement_kinds : (k : Option TokenKind) → Local c bare false (p.statement_by d N k)
    statement_kinds (Some Alter) = noted
    statement_kinds k = lines (kinds k)

  pub statements : (d : ℕ) → Local c bare false (p.statement d)
  unfolding p.statement
  statements zero = refuses
  statements (suc d) = looks_any (p.statement_by d (p.statement d)) (statement_kinds d (statements d))
