-- The parser of expressions, as a function on lists.
use Rattle.std.specs.Prelude.{ℕ, zero, suc, ◌+◌, ◌-◌, ◌*◌, Bool, true, false, nat_lt, nat_eq, if◌then◌else◌, List, [], ◌∷◌, ◌++◌, length, Option, Some, None, Result, Ok, Err}
use Rattle.al_source.specs.declared.tokens.TokenKind.{TokenKind}
use Rattle.al_source.specs.declared.tokens.TokenKind.TheVariants.{Word, Number, Key, Mark}
use Rattle.al_source.specs.declared.tokens.Mark as the_mark
use Rattle.al_source.specs.declared.tokens.Mark.TheVariants as m
use Rattle.al_source.specs.declared.tokens.Key.TheVariants as key
use Rattle.al_source.specs.declared.source_tree.CType.{CType}
use Rattle.al_source.specs.declared.source_tree.Expr.{Expr}
use Rattle.al_source.specs.declared.source_tree.Expr.TheVariants as e
use Rattle.al_grammar.specs.declared.operators.Joint.{Joint}
use Rattle.al_grammar.specs.declared.operators.Prefix.{Prefix}
use Rattle.al_source.specs.declared.limits.TheConstants.{EXPRESSION_OPERATORS}
use Rattle.al_grammar.specs.declared.operators.TheConstants.{LEVELS}
use Rattle.al_grammar.specs.Operators.{infix_of, join, prefix_of, apply}
use Rattle.al_grammar.specs.Phrases.{Tokens, Name}
use Rattle.al_grammar.specs.Expressions.{State}
use Rattle.al_source.specs.Steps.{pure}
use Rattle.al_grammar.specs.Steps
use Rattle.al_grammar.specs.Steps.{Read, Step, ◌>>=◌, ◌>>◌, skip, kind_at, mark_at, meaning_at, tail, expect, word}
use Rattle.al_grammar.specs.TypeParser.{operand_type, size_of}

-- What was read and the state after it, or the tokens from the first bad one on.
abbrev pub Outcome : Type 0 → Type 0
Outcome A = Result (A × State) Tokens

abbrev pub Parser : Type 0 → Type 0
Parser A = State → Outcome A

abbrev pub keep : {A : Type 0} → ℕ → Read A → Outcome A
keep n (Ok p) = Ok (p.0, (n, p.1))
keep n (Err e) = Err e

-- a step without operators
abbrev pub lift : {A : Type 0} → Step A → Parser A
lift p = λ s. keep s.0 (p s.1)

-- takes the next token
abbrev pub advance : Parser (Unit {0})
advance = lift skip

abbrev pub refuse : {A : Type 0} → Parser A
refuse = lift Steps.refuse

abbrev pub spend_by : ℕ → Tokens → Outcome (Unit {0})
spend_by zero ts = Err ts
spend_by (suc n) ts = Ok (tt, (n, tail ts))

-- takes the next token, an operator
abbrev pub spend : Parser (Unit {0})
spend = λ s. spend_by s.0 s.1

abbrev pub spend_two_by : ℕ → Tokens → Outcome (Unit {0})
spend_two_by zero ts = Err ts
spend_two_by (suc zero) ts = Err ts
spend_two_by (suc (suc n)) ts = Ok (tt, (n, tail ts))

-- takes the next token, to which two operators belong
abbrev pub spend_two : Parser (Unit {0})
spend_two = λ s. spend_two_by s.0 s.1

-- what is to be read next, which in each case ends as an expression
pub data Job : Type 0 where
  whole : ℕ → Job
  climb : ℕ → Expr → Job
  unary postfix primary : Job
  suffix : Expr → Job
  arguments : Name → Job
  more : Name → List Expr → Job

-- the name of a field behind `.` or `->`
abbrev pub field : (Expr → Name → Expr) → Expr → Parser Expr
field f x = spend >> lift word >>= λ w. pure (f x w)

-- `sizeof ( base * )`
abbrev pub sized : Parser Expr
sized = spend >> lift operand_type >>= λ a. pure (e.SizeOf a)

-- the second argument of `calloc`, with the `,` before and the `)` behind
abbrev pub element_size : Step CType
element_size = expect m.Comma >> size_of >>= λ a. expect m.RightParen >> pure a

-- The steps, where N reads what nests.
module _ (N : Job → Parser Expr) where
  -- whether there is a tighter level of binary operators
  abbrev pub whole_by : ℕ → Bool → Parser Expr
  whole_by l true = N (whole (suc l)) >>= λ x. N (climb l x)
  whole_by l false = N unary

  -- whether the operator is of this level
  abbrev pub joined_by : ℕ → Expr → Joint → Bool → Parser Expr
  joined_by l x op true = spend >> N (whole (suc l)) >>= λ y. N (climb l (join op x y))
  joined_by l x op false = pure x

  abbrev pub climb_by : ℕ → Expr → Option (ℕ × Joint) → Parser Expr
  climb_by l x None = pure x
  climb_by l x (Some (p, op)) = joined_by l x op (nat_eq p l)

  abbrev pub unary_by : Option Prefix → Parser Expr
  unary_by None = N postfix
  unary_by (Some op) = spend >> N unary >>= λ x. pure (apply op x)

  abbrev pub named_by : Name → Option the_mark.Mark → Parser Expr
  named_by w (Some m.LeftParen) = spend >> N (arguments w)
  named_by w _ = pure (e.Var w)

  abbrev pub named : Name → Parser Expr
  named w = λ s. named_by w (mark_at s.1) s

  abbrev pub grouped : Parser Expr
  grouped = spend >> N (whole 0) >>= λ x. lift (expect m.RightParen) >> pure x

  abbrev pub allocated : Parser Expr
  allocated =
      spend_two >> lift (expect m.LeftParen) >> N (whole 0) >>= λ x.
      lift element_size >>= λ a.
      pure (e.Calloc x a)

  abbrev pub primary_by : Option TokenKind → Parser Expr
  primary_by (Some (Number v)) = advance >> pure (e.Number v)
  primary_by (Some (Key key.Null)) = advance >> pure e.Null
  primary_by (Some (Word w)) = advance >> named w
  primary_by (Some (Mark m.LeftParen)) = grouped
  primary_by (Some (Key key.Sizeof)) = sized
  primary_by (Some (Key key.Calloc)) = allocated
  primary_by _ = refuse

  abbrev pub indexed : Expr → Parser Expr
  indexed x = spend >> N (whole 0) >>= λ i. lift (expect m.RightBracket) >> pure (e.Index x i)

  abbrev pub suffix_by : Expr → Option the_mark.Mark → Parser Expr
  suffix_by x (Some m.LeftBracket) = indexed x >>= λ y. N (suffix y)
  suffix_by x (Some m.Dot) = field e.Dot x >>= λ y. N (suffix y)
  suffix_by x (Some m.Arrow) = field e.Arrow x >>= λ y. N (suffix y)
  suffix_by x _ = pure x

  abbrev pub arguments_by : Name → Option the_mark.Mark → Parser Expr
  arguments_by w (Some m.RightParen) = advance >> pure (e.Call w [])
  arguments_by w _ = N (more w [])

  abbrev pub more_by : Name → List Expr → Option the_mark.Mark → Parser Expr
  more_by w xs (Some m.Comma) = advance >> N (more w xs)
  more_by w xs (Some m.RightParen) = advance >> pure (e.Call w xs)
  more_by w xs _ = refuse

  abbrev pub step : Job → Parser Expr
  step (whole l) = whole_by l (nat_lt l LEVELS)
  step (climb l x) = λ s. climb_by l x (meaning_at infix_of s.1) s
  step unary = λ s. unary_by (meaning_at prefix_of s.1) s
  step postfix = N primary >>= λ x. N (suffix x)
  step primary = λ s. primary_by (kind_at s.1) s
  step (suffix x) = λ s. suffix_by x (mark_at s.1) s
  step (arguments w) = λ s. arguments_by w (mark_at s.1) s
  step (more w xs) = N (whole 0) >>= λ y. λ s. more_by w (xs ++ y ∷ []) (mark_at s.1) s

-- A job that goes on at the same token has a lower rank.
abbrev pub rank : Job → ℕ
rank (arguments w) = 15
rank (more w xs) = 14
rank (whole l) = 3 + (LEVELS - l)
rank unary = 2
rank postfix = 1
rank primary = 0
rank (climb l x) = 0
rank (suffix x) = 0

abbrev pub measure : Job → State → ℕ
measure j s = length s.1 * 20 + rank j

-- only where less is left than the bound
unfoldable pub guard : (Job → Parser Expr) → ℕ → Job → Parser Expr
guard N bound j s = if nat_lt (measure j s) bound then N j s else Err []

unfoldable pub go : ℕ → Job → Parser Expr
go zero j s = Err []
go (suc f) j s = step (guard (go f) (measure j s)) j s

-- Each step leaves less to be done, so as many are enough.
unfoldable pub parse : Job → Parser Expr
parse j s = go (suc (measure j s)) j s

-- ---- expressions with room for their own operators

abbrev pub forget : Outcome Expr → Read Expr
forget (Ok p) = Ok (p.0, p.1.1)
forget (Err e) = Err e

abbrev pub expression : Step Expr
expression = λ ts. forget (parse (whole 0) (EXPRESSION_OPERATORS, ts))

abbrev pub place : Step Expr
place = λ ts. forget (parse unary (EXPRESSION_OPERATORS, ts))
