-- The parser of expressions looks at no token behind the one at which it stops.
use Rattle.std.proofs.Common.{◌≡◌, ℕ, zero, suc, ◌+◌, Bool, true, false, nat_lt, nat_eq, List, [], ◌∷◌, ◌++◌, length, Option, Some, None, Ok, Err, refl, sym, ap, subst, arith}
use Rattle.al_source.specs.declared.tokens.TokenKind.{TokenKind}
use Rattle.al_source.specs.declared.tokens.TokenKind.TheVariants.{Word, Number, Key, Mark}
use Rattle.al_source.specs.declared.tokens.Mark as the_mark
use Rattle.al_source.specs.declared.tokens.Mark.TheVariants as m
use Rattle.al_source.specs.declared.tokens.Key.TheVariants as key
use Rattle.al_source.specs.declared.source_tree.Expr.{Expr}
use Rattle.al_source.specs.declared.source_tree.Expr.TheVariants as e
use Rattle.al_source.specs.declared.limits.TheConstants.{EXPRESSION_OPERATORS}
use Rattle.al_grammar.specs.declared.operators.Joint.{Joint}
use Rattle.al_grammar.specs.declared.operators.Prefix.{Prefix}
use Rattle.al_grammar.specs.declared.operators.TheConstants.{LEVELS}
use Rattle.al_grammar.specs.Operators.{infix_of, join, prefix_of, apply}
use Rattle.al_grammar.specs.Phrases.{Tokens, Name}
use Rattle.al_grammar.specs.Steps.{meaning_in}
use Rattle.al_grammar.specs.ExpressionParser.{Outcome, Parser, Job, whole, climb, unary, postfix, primary, suffix, arguments, more, field, sized, element_size, whole_by, joined_by, climb_by, unary_by, named_by, named, grouped, allocated, primary_by, indexed, suffix_by, arguments_by, more_by, step, measure, parse, forget, expression, place}
use Rattle.al_grammar_laws.proofs.Run.{run, parse_run}
use Rattle.al_grammar_laws.proofs.Local.{Ends, plain_kind, plain_mark, is_some, Cut, bare, counted, left, Both, reads, stops, past, Local, anywhere, binds, pures, refuses, looks, looks_mark, looks_table, skips, spends, spends_two, lifts}
use Rattle.al_grammar_laws.proofs.LocalTypes.{expects, words, operand_types, sizes}

plain_infix : (k : Option TokenKind) → is_some (meaning_in infix_of k) ≡ true → plain_kind k ≡ true
plain_infix None d = d
plain_infix (Some (Mark m.Assign)) d = absurd cc
plain_infix (Some (Mark m.PlusAssign)) d = absurd cc
plain_infix (Some (Mark m.MinusAssign)) d = absurd cc
plain_infix (Some (Mark m.StarAssign)) d = absurd cc
plain_infix (Some (Mark m.SlashAssign)) d = absurd cc
plain_infix (Some (Mark m.PercentAssign)) d = absurd cc
plain_infix (Some (Mark m.AmpersandAssign)) d = absurd cc
plain_infix (Some (Mark m.PipeAssign)) d = absurd cc
plain_infix (Some (Mark m.CaretAssign)) d = absurd cc
plain_infix (Some (Mark m.ShiftLeftAssign)) d = absurd cc
plain_infix (Some (Mark m.ShiftRightAssign)) d = absurd cc
plain_infix (Some (Mark m.Increment)) d = absurd cc
plain_infix (Some (Mark m.Decrement)) d = absurd cc
plain_infix (Some _) d = refl

plain_prefix : (k : Option TokenKind) → is_some (meaning_in prefix_of k) ≡ true → plain_kind k ≡ true
plain_prefix None d = d
plain_prefix (Some (Mark m.Minus)) d = refl
plain_prefix (Some (Mark m.Tilde)) d = refl
plain_prefix (Some (Mark m.Bang)) d = refl
plain_prefix (Some (Mark m.Star)) d = refl
plain_prefix (Some (Mark m.Ampersand)) d = refl
plain_prefix (Some _) d = absurd cc

forget_ends : (ts : Tokens) (o : Outcome Expr) → Ends ts (left counted o) → Ends ts (left bare (forget o))
forget_ends ts (Ok p) h = h
forget_ends ts (Err r) h = h

forgotten : (o : Outcome Expr) → left bare (forget o) ≡ left counted o
forgotten (Ok p) = refl
forgotten (Err r) = refl

forget_both : {c : Cut} {o o' : Outcome Expr} → Both c counted o o' → Both c bare (forget o) (forget o')
forget_both (reads a r w) = reads a refl w
forget_both (stops w) = stops w
forget_both (past {o = o} {o' = o'} p le le') =
    let one = ap length (forgotten o) in let two = ap length (forgotten o') in past p (omega arith) (omega arith)

module _ {c : Cut} where
  fields : (f : Expr → Name → Expr) (x : Expr) → Local c counted true (field f x)
  fields f x = binds (binds spends (λ _. lifts words)) (λ w. pures (f x w))

  sized_local : Local c counted true sized
  sized_local = binds (binds spends (λ _. lifts operand_types)) (λ a. pures (e.SizeOf a))

  elements : {b : Bool} → Local c bare b element_size
  elements = binds (binds (expects m.Comma refl) (λ _. sizes)) (λ a. binds (expects m.RightParen refl) (λ _. pures a))

  module _ (N : Job → Parser Expr) (h : (j : Job) → Local c counted false (N j)) where
    wholes : (l : ℕ) (x : Bool) → Local c counted false (whole_by N l x)
    wholes l true = binds (h (whole (suc l))) (λ x. h (climb l x))
    wholes l false = h unary

    joints : (l : ℕ) (x : Expr) (op : Joint) (y : Bool) → Local c counted true (joined_by N l x op y)
    joints l x op true = binds (binds spends (λ _. h (whole (suc l)))) (λ y. h (climb l (join op x y)))
    joints l x op false = pures x

    climbs : (l : ℕ) (x : Expr) → Local c counted false (step N (climb l x))
    climbs l x = looks_table infix_of (climb_by N l x) plain_infix by
      where
        by : (v : Option (ℕ × Joint)) → Local c counted (is_some v) (climb_by N l x v)
        by None = pures x
        by (Some (p, op)) = joints l x op (nat_eq p l)

    unaries : Local c counted false (step N unary)
    unaries = looks_table prefix_of (unary_by N) plain_prefix by
      where
        by : (v : Option Prefix) → Local c counted (is_some v) (unary_by N v)
        by None = h postfix
        by (Some op) = binds (binds spends (λ _. h unary)) (λ x. pures (apply op x))

    names : (w : Name) → Local c counted false (named N w)
    names w = looks_mark (named_by N w) by
      where
        by : (k : Option the_mark.Mark) → Local c counted (plain_mark k) (named_by N w k)
        by (Some m.LeftParen) = binds spends (λ _. h (arguments w))
        by _ = pures (e.Var w)

    groups : Local c counted true (grouped N)
    groups = binds (binds spends (λ _. h (whole 0))) (λ x. binds (lifts (expects m.RightParen refl)) (λ _. pures x))

    allocations : Local c counted true (allocated N)
    allocations =
        binds (binds (binds spends_two (λ _. lifts (expects m.LeftParen refl))) (λ _. h (whole 0)))
        (λ x. binds (lifts elements) (λ a. pures (e.Calloc x a)))

    primaries : Local c counted false (step N primary)
    primaries = looks (primary_by N) by
      where
        by : (k : Option TokenKind) → Local c counted (plain_kind k) (primary_by N k)
        by (Some (Number v)) = binds (lifts skips) (λ _. pures (e.Number v))
        by (Some (Key key.Null)) = binds (lifts skips) (λ _. pures e.Null)
        by (Some (Word w)) = binds (lifts skips) (λ _. names w)
        by (Some (Mark m.LeftParen)) = groups
        by (Some (Key key.Sizeof)) = sized_local
        by (Some (Key key.Calloc)) = allocations
        by _ = refuses

    indexes : (x : Expr) → Local c counted true (indexed N x)
    indexes x = binds (binds spends (λ _. h (whole 0))) (λ i. binds (lifts (expects m.RightBracket refl)) (λ _. pures (e.Index x i)))

    suffixes : (x : Expr) → Local c counted false (step N (suffix x))
    suffixes x = looks_mark (suffix_by N x) by
      where
        by : (k : Option the_mark.Mark) → Local c counted (plain_mark k) (suffix_by N x k)
        by (Some m.LeftBracket) = binds (indexes x) (λ y. h (suffix y))
        by (Some m.Dot) = binds (fields e.Dot x) (λ y. h (suffix y))
        by (Some m.Arrow) = binds (fields e.Arrow x) (λ y. h (suffix y))
        by _ = pures x

    argument_lists : (w : Name) → Local c counted false (step N (arguments w))
    argument_lists w = looks_mark (arguments_by N w) by
      where
        by : (k : Option the_mark.Mark) → Local c counted (plain_mark k) (arguments_by N w k)
        by (Some m.RightParen) = binds (lifts skips) (λ _. pures (e.Call w []))
        by _ = anywhere (h (more w []))

    mores : (w : Name) (xs : List Expr) → Local c counted false (step N (more w xs))
    mores w xs = binds (h (whole 0)) (λ y. looks_mark (more_by N w (xs ++ y ∷ [])) (by (xs ++ y ∷ [])))
      where
        by : (xs : List Expr) (k : Option the_mark.Mark) → Local c counted (plain_mark k) (more_by N w xs k)
        by xs (Some m.Comma) = binds (lifts skips) (λ _. h (more w xs))
        by xs (Some m.RightParen) = binds (lifts skips) (λ _. pures (e.Call w xs))
        by xs _ = refuses

    steps : (j : Job) → Local c counted false (step N j)
    steps (whole l) = wholes l (nat_lt l LEVELS)
    steps (climb l x) = climbs l x
    steps unary = unaries
    steps postfix = binds (h primary) (λ x. h (suffix x))
    steps primary = primaries
    steps (suffix x) = suffixes x
    steps (arguments w) = argument_lists w
    steps (more w xs) = mores w xs

  runs : (f : ℕ) (j : Job) → Local c counted false (run f j)
  unfolding run
  runs zero j = refuses
  runs (suc f) j = steps (run f) (λ k. runs f k) j

  parses : (j : Job) → Local c counted false (parse j)
  parses j = record {
    ends = λ s. let f = suc (measure j s) in
        subst (λ o. Ends s.1 (left counted o)) (sym (parse_run f j s (omega arith))) ((runs f j).ends s);
    both = λ s s' p r w.
        let f = suc (measure j s + measure j s') in
        subst (λ o. Both c counted o (parse j s')) (sym (parse_run f j s (omega arith)))
        (subst (λ o. Both c counted (run f j s) o) (sym (parse_run f j s' (omega arith))) ((runs f j).both s s' p r w));
  }

  forgets : {b : Bool} (j : Job) → Local c bare b (λ ts. forget (parse j (EXPRESSION_OPERATORS, ts)))
  forgets j = record {
    ends = λ ts. forget_ends ts (parse j (EXPRESSION_OPERATORS, ts)) ((parses j).ends (EXPRESSION_OPERATORS, ts));
    both = λ s s' p r w. forget_both ((parses j).both (EXPRESSION_OPERATORS, s) (EXPRESSION_OPERATORS, s') (λ e. absurd cc) refl w);
  }

  pub expressions : {b : Bool} → Local c bare b expression
  expressions = forgets (whole 0)

  pub places : {b : Bool} → Local c bare b place
  places = forgets unary
