-- The parser of statements, as a function on lists. It recurs on the levels of nesting that are left.
use Rattle.std.specs.Prelude.{ℕ, zero, suc, Bool, true, false, nat_lt, List, [], ◌∷◌, ◌++◌, length, Option, Some, None, Ok, Err}
use Rattle.al_source.specs.declared.tokens.TokenKind.{TokenKind}
use Rattle.al_source.specs.declared.tokens.TokenKind.TheVariants.{Word, Text, Key, Mark, Alter, EndAlter}
use Rattle.al_source.specs.declared.tokens.Mark as the_mark
use Rattle.al_source.specs.declared.tokens.Mark.TheVariants as m
use Rattle.al_source.specs.declared.tokens.Key as the_key
use Rattle.al_source.specs.declared.tokens.Key.TheVariants as key
use Rattle.al_source.specs.declared.texts.Piece.{Piece}
use Rattle.al_source.specs.declared.operators.BinOp.{BinOp}
use Rattle.al_source.specs.declared.operators.RedOp.{RedOp}
use Rattle.al_source.specs.declared.annotations.Policy.{Policy}
use Rattle.al_source.specs.declared.annotations.Policy.TheVariants as policy
use Rattle.al_source.specs.declared.annotations.CommitOrder.{CommitOrder}
use Rattle.al_source.specs.declared.annotations.CommitOrder.TheVariants as order
use Rattle.al_source.specs.declared.annotations.LoopNote.{LoopNote}
use Rattle.al_source.specs.declared.annotations.NamedRed.{NamedRed}
use Rattle.al_source.specs.declared.source_tree.CType.{CType}
use Rattle.al_source.specs.declared.source_tree.Expr.{Expr}
use Rattle.al_source.specs.declared.source_tree.Stmt.{Stmt}
use Rattle.al_source.specs.declared.source_tree.StmtKind.{StmtKind}
use Rattle.al_source.specs.declared.source_tree.StmtKind.TheVariants as kind
use Rattle.al_grammar.specs.declared.operators.NoteWord.{NoteWord}
use Rattle.al_grammar.specs.declared.operators.NoteWord.TheVariants as note
use Rattle.al_grammar.specs.Operators.{update_of, step_of, note_word_of}
use Rattle.al_grammar.specs.Phrases.{Tokens, Name, line_at}
use Rattle.al_grammar.specs.Statements.{statement_of, at, one, reduced, else_next}
use Rattle.al_source.specs.Steps.{bind, pure}
use Rattle.al_grammar.specs.Words.{key_text}
use Rattle.al_grammar.specs.Steps.{Read, Step, ◌>>=◌, ◌>>◌, refuse, skip, kind_at, mark_at, key_at, meaning_at, is_mark, expect, expect_key, word, repeat}
use Rattle.al_grammar.specs.TypeParser.{base, declarator}
use Rattle.al_grammar.specs.ExpressionParser.{expression, place}

-- ---- calls that are statements

abbrev pub value_by : List Expr → Option the_mark.Mark → Step (List Expr × Bool)
value_by xs (Some m.Comma) = skip >> pure (xs, false)
value_by xs (Some m.RightParen) = skip >> pure (xs, true)
value_by xs _ = refuse

-- one argument, with the mark behind it
abbrev pub value : List Expr → Step (List Expr × Bool)
value xs = expression >>= λ x. λ ts. value_by (xs ++ x ∷ []) (mark_at ts) ts

abbrev pub values : Step (List Expr)
values = repeat value []

abbrev pub call_values_by : Option the_mark.Mark → Step (List Expr)
call_values_by (Some m.RightParen) = skip >> pure []
call_values_by _ = values

abbrev pub call_values : Step (List Expr)
call_values = λ ts. call_values_by (mark_at ts) ts

abbrev pub print_values_by : Option the_mark.Mark → Step (List Expr)
print_values_by (Some m.RightParen) = skip >> pure []
print_values_by (Some m.Comma) = skip >> values
print_values_by _ = refuse

abbrev pub print_values : Step (List Expr)
print_values = λ ts. print_values_by (mark_at ts) ts

abbrev pub text_by : Option TokenKind → Step (List Piece)
text_by (Some (Text f)) = skip >> pure f
text_by _ = refuse

abbrev pub text : Step (List Piece)
text = λ ts. text_by (kind_at ts) ts

-- after the `printf`
abbrev pub print : Step StmtKind
print = expect m.LeftParen >> text >>= λ f. print_values >>= λ xs. pure (kind.Print f xs)

-- an expression in parentheses
abbrev pub parenthesized : Step Expr
parenthesized = expect m.LeftParen >> expression >>= λ x. expect m.RightParen >> pure x

-- after the `free`
abbrev pub free : Step StmtKind
free = parenthesized >>= λ x. pure (kind.Call (key_text key.Free) (x ∷ []))

abbrev pub call_end_by : StmtKind → Option the_mark.Mark → Step StmtKind
call_end_by k (Some m.Semicolon) = pure k
call_end_by k (Some m.RightParen) = pure k
call_end_by k _ = refuse

-- A call is a statement where the statement ends behind it.
abbrev pub call_end : StmtKind → Step StmtKind
call_end k = λ ts. call_end_by k (mark_at ts) ts

-- from the name on
abbrev pub call : Name → Step StmtKind
call w = skip >> expect m.LeftParen >> call_values >>= λ xs. call_end (kind.Call w xs)

-- ---- assignments

abbrev pub assign_by : Expr → Option BinOp → Option BinOp → Step StmtKind
assign_by x (Some op) _ = skip >> expression >>= λ y. pure (kind.Update op x y)
assign_by x None (Some op) = skip >> pure (kind.Update op x one)
assign_by x None None = expect m.Assign >> expression >>= λ y. pure (kind.Assign x y)

-- after the place
abbrev pub assign : Expr → Step StmtKind
assign x = λ ts. assign_by x (meaning_at update_of ts) (meaning_at step_of ts) ts

abbrev pub placed : Step StmtKind
placed = place >>= assign

-- ---- a call or an assignment, which both may begin with a name

-- the one that comes further
abbrev pub later_by : Bool → Tokens → Tokens → Tokens
later_by true a b = b
later_by false a b = a

abbrev pub later : Tokens → Tokens → Tokens
later a b = later_by (nat_lt (length b) (length a)) a b

abbrev pub second : {A : Type 0} → Tokens → Read A → Read A
second a (Ok p) = Ok p
second a (Err b) = Err (later a b)

abbrev pub first : {A : Type 0} → Read A → Read A → Read A
first (Ok p) other = Ok p
first (Err a) other = second a other

-- The first, or else the second. A fault is the one that comes further.
abbrev pub or_else : {A : Type 0} → Step A → Step A → Step A
or_else p q = λ ts. first (p ts) (q ts)

abbrev pub before_by : Option BinOp → Step StmtKind
before_by (Some op) = skip >> place >>= λ x. pure (kind.Update op x one)
before_by None = placed

abbrev pub simple_by : Option TokenKind → Step StmtKind
simple_by (Some (Word w)) = or_else (call w) placed
simple_by (Some (Key key.Printf)) = skip >> print
simple_by (Some (Key key.Free)) = skip >> free
simple_by _ = λ ts. before_by (meaning_at step_of ts) ts

abbrev pub simple : Step StmtKind
simple = λ ts. simple_by (kind_at ts) ts

-- ---- annotations

abbrev pub policy_by : Option NoteWord → Step Policy
policy_by (Some (note.Policy p)) = skip >> pure p
policy_by _ = pure policy.Raw

abbrev pub note_policy : Step Policy
note_policy = λ ts. policy_by (meaning_at note_word_of ts) ts

abbrev pub order_by : Option NoteWord → Step CommitOrder
order_by (Some (note.Order o)) = skip >> pure o
order_by _ = pure order.InOrder

abbrev pub note_order : Step CommitOrder
note_order = λ ts. order_by (meaning_at note_word_of ts) ts

abbrev pub operator_by : Option NoteWord → Step RedOp
operator_by (Some (note.Operator op)) = skip >> pure op
operator_by _ = refuse

abbrev pub operator : Step RedOp
operator = λ ts. operator_by (meaning_at note_word_of ts) ts

abbrev pub reduced_by : List NamedRed → Option the_mark.Mark → Step (List NamedRed × Bool)
reduced_by rs (Some m.Comma) = skip >> pure (rs, false)
reduced_by rs (Some m.RightParen) = skip >> pure (rs, true)
reduced_by rs _ = refuse

-- one variable, with the mark behind it
abbrev pub variable : RedOp → List NamedRed → Step (List NamedRed × Bool)
variable op rs = word >>= λ w. λ ts. reduced_by (rs ++ reduced op w ∷ []) (mark_at ts) ts

-- one `reduce`, from its `(` on
abbrev pub reduction : List NamedRed → Step (List NamedRed)
reduction rs = expect m.LeftParen >> operator >>= λ op. expect m.Colon >> repeat (variable op) rs

abbrev pub reduce_by : List NamedRed → Option NoteWord → Step (List NamedRed × Bool)
reduce_by rs (Some note.Reduce) = skip >> reduction rs >>= λ all. pure (all, false)
reduce_by rs _ = pure (rs, true)

abbrev pub reduce_turn : List NamedRed → Step (List NamedRed × Bool)
reduce_turn rs = λ ts. reduce_by rs (meaning_at note_word_of ts) ts

abbrev pub loop_note : Step LoopNote
loop_note =
    note_policy >>= λ p.
    note_order >>= λ o.
    repeat reduce_turn [] >>= λ rs.
    pure (record { policy = p; order = o; reduce = rs })

abbrev pub end_note_by : Option TokenKind → Step (Unit {0})
end_note_by (Some EndAlter) = skip
end_note_by _ = refuse

abbrev pub end_note : Step (Unit {0})
end_note = λ ts. end_note_by (kind_at ts) ts

-- ---- the parts of a loop's head

abbrev pub maybe_by : Option the_mark.Mark → Step (Option Expr)
maybe_by (Some m.Semicolon) = pure None
maybe_by _ = expression >>= λ x. pure (Some x)

-- an expression, where no `;` comes next
abbrev pub maybe : Step (Option Expr)
maybe = λ ts. maybe_by (mark_at ts) ts

-- a statement of the line that stands here
abbrev pub lined : Step StmtKind → Step Stmt
lined p = λ ts. bind (p ts) (λ k. pure (at ts k))

abbrev pub begins_base : Option the_key.Key → Bool
begins_base (Some key.Int) = true
begins_base (Some key.Long) = true
begins_base (Some key.Struct) = true
begins_base _ = false

abbrev pub first_declaration : Step StmtKind
first_declaration =
    base >>= λ a.
    declarator a >>= λ f.
    expect m.Assign >> expression >>= λ x.
    pure (kind.Declare f.ty f.name (Some x))

abbrev pub first_kind : Bool → Step StmtKind
first_kind true = first_declaration
first_kind false = simple

abbrev pub first_by : Option the_mark.Mark → Step (Option Stmt)
first_by (Some m.Semicolon) = pure None
first_by _ = λ ts. bind (lined (first_kind (begins_base (key_at ts))) ts) (λ s. pure (Some s))

abbrev pub first_part : Step (Option Stmt)
first_part = λ ts. first_by (mark_at ts) ts

abbrev pub third_by : Option the_mark.Mark → Step (Option Stmt)
third_by (Some m.RightParen) = pure None
third_by _ = lined simple >>= λ s. pure (Some s)

abbrev pub third_part : Step (Option Stmt)
third_part = λ ts. third_by (mark_at ts) ts

abbrev pub Head : Type 0
Head = Option Stmt × Option Expr × Option Stmt

-- from the `for` to the `)`
abbrev pub head : Step Head
head =
    expect_key key.For >> expect m.LeftParen >> first_part >>= λ a.
    expect m.Semicolon >> maybe >>= λ b.
    expect m.Semicolon >> third_part >>= λ c.
    expect m.RightParen >> pure (a, b, c)

-- ---- declarations

abbrev pub initializer_by : Bool → Step (Option Expr)
initializer_by true = skip >> expression >>= λ x. pure (Some x)
initializer_by false = pure None

abbrev pub initializer : Step (Option Expr)
initializer = λ ts. initializer_by (is_mark m.Assign ts) ts

abbrev pub local_by : List Stmt → Option the_mark.Mark → Step (List Stmt × Bool)
local_by ss (Some m.Comma) = skip >> pure (ss, false)
local_by ss (Some m.Semicolon) = skip >> pure (ss, true)
local_by ss _ = refuse

-- one declared name, with the mark behind it
abbrev pub local : ℕ → CType → List Stmt → Step (List Stmt × Bool)
local line a ss =
    declarator a >>= λ f.
    initializer >>= λ x.
    λ ts. local_by (ss ++ statement_of line (kind.Declare f.ty f.name x) ∷ []) (mark_at ts) ts

-- a whole declaration, behind those that were read before
abbrev pub declaration : List Stmt → Step (List Stmt)
declaration ss = λ ts. bind (base ts) (λ a. repeat (local (line_at ts) a) ss)

-- ---- statements

-- whether a level of nesting is left
abbrev pub gate : ℕ → Step (Unit {0})
gate zero = refuse
gate (suc d) = pure tt

abbrev pub ended : StmtKind → Step StmtKind
ended k = expect m.Semicolon >> pure k

abbrev pub returns : Step StmtKind
returns = maybe >>= λ x. ended (kind.Return x)

-- What nests has d levels left.
module _ (d : ℕ) (nested : Step Stmt) where
  abbrev pub inner_by : List Stmt → Bool → Step (List Stmt)
  inner_by ss true = declaration ss
  inner_by ss false = nested >>= λ x. pure (ss ++ x ∷ [])

  abbrev pub inner : List Stmt → Step (List Stmt)
  inner ss = gate d >> (λ ts. inner_by ss (begins_base (key_at ts)) ts)

  abbrev pub inner_turn_by : List Stmt → Bool → Step (List Stmt × Bool)
  inner_turn_by ss true = pure (ss, true)
  inner_turn_by ss false = inner ss >>= λ all. pure (all, false)

  abbrev pub inner_turn : List Stmt → Step (List Stmt × Bool)
  inner_turn ss = λ ts. inner_turn_by ss (is_mark m.RightBrace ts) ts

  -- after a `{`, to its `}`
  abbrev pub braced : Step (List Stmt)
  braced = repeat inner_turn [] >>= λ ss. expect m.RightBrace >> pure ss

  abbrev pub else_by : Expr → Stmt → Bool → Step StmtKind
  else_by c x true = skip >> nested >>= λ y. pure (kind.If c x (Some y))
  else_by c x false = pure (kind.If c x None)

  abbrev pub branch : Step StmtKind
  branch = gate d >> skip >> parenthesized >>= λ c. nested >>= λ x. λ ts. else_by c x (else_next ts) ts

  abbrev pub while_loop : Step StmtKind
  while_loop = gate d >> skip >> parenthesized >>= λ c. nested >>= λ x. pure (kind.While c x)

  -- from the `for` on
  abbrev pub for_loop : Option LoopNote → Step StmtKind
  for_loop n = head >>= λ h. nested >>= λ x. pure (kind.For h.0 h.1 h.2 x n)

  -- from the annotation on
  abbrev pub noted_loop : Step Stmt
  noted_loop = gate d >> skip >> loop_note >>= λ n. end_note >> lined (for_loop (Some n))

  abbrev pub kind_by : Option TokenKind → Step StmtKind
  kind_by (Some (Mark m.Semicolon)) = skip >> pure kind.Empty
  kind_by (Some (Mark m.LeftBrace)) = skip >> braced >>= λ ss. pure (kind.Block ss)
  kind_by (Some (Key key.If)) = branch
  kind_by (Some (Key key.While)) = while_loop
  kind_by (Some (Key key.For)) = gate d >> for_loop None
  kind_by (Some (Key key.Return)) = skip >> returns
  kind_by (Some (Key key.Break)) = skip >> ended kind.Break
  kind_by (Some (Key key.Continue)) = skip >> ended kind.Continue
  kind_by _ = simple >>= ended

  abbrev pub statement_by : Option TokenKind → Step Stmt
  statement_by (Some Alter) = noted_loop
  statement_by k = lined (kind_by k)

  abbrev pub statement_step : Step Stmt
  statement_step = λ ts. statement_by (kind_at ts) ts

-- a statement, where so many levels may nest
unfoldable pub statement : ℕ → Step Stmt
statement zero = refuse
statement (suc d) = statement_step d (statement d)
