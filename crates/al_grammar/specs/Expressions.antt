-- The grammar of expressions. A state is how many operators may still come, and the tokens that are left.
use Rattle.std.specs.Prelude.{ℕ, suc, ◌<◌, ℤ, List, [], ◌∷◌}
use Rattle.al_source.specs.declared.tokens.TokenKind.TheVariants.{Word, Number, Key, Mark}
use Rattle.al_source.specs.declared.tokens.Mark.TheVariants as m
use Rattle.al_source.specs.declared.tokens.Key.TheVariants as key
use Rattle.al_source.specs.declared.source_tree.CType.{CType}
use Rattle.al_source.specs.declared.source_tree.Expr.{Expr}
use Rattle.al_source.specs.declared.source_tree.Expr.TheVariants as e
use Rattle.al_grammar.specs.declared.operators.Joint.{Joint}
use Rattle.al_grammar.specs.declared.operators.Prefix.{Prefix}
use Rattle.al_source.specs.declared.limits.TheConstants.{EXPRESSION_OPERATORS}
use Rattle.al_grammar.specs.declared.operators.TheConstants.{LEVELS}
use Rattle.al_grammar.specs.Operators.{infix_of, join, prefix_of, apply}
use Rattle.al_grammar.specs.Phrases.{Tokens, Name, Takes, Means}
use Rattle.al_grammar.specs.Types.{SizeOf}

abbrev pub State : Type 0
State = ℕ × Tokens

-- A level has the binary operators of that level and of each tighter one.
pub data Sort : Type 0 where
  level : ℕ → Sort
  unary postfix primary : Sort

-- From the first state the tokens begin with an expression of this sort, and leave the second state. An operator is
-- each unary and each binary one, `[`, `.`, `->` and each `(` of the expression.
mutual
  pub data Reads : Sort → State → Expr → State → Type 0 where
    joined : {p n : ℕ} {s s' : State} {x y : Expr} {op : Joint} {ts us : Tokens}
        → Reads (level p) s x (suc n, ts) → Means infix_of (p, op) ts us → Reads (level (suc p)) (n, us) y s'
        → Reads (level p) s (join op x y) s'
    tighter : {p : ℕ} {s s' : State} {x : Expr} → p < LEVELS → Reads (level (suc p)) s x s' → Reads (level p) s x s'
    operand : {s s' : State} {x : Expr} → Reads unary s x s' → Reads (level LEVELS) s x s'
    prefixed : {n : ℕ} {s' : State} {x : Expr} {op : Prefix} {ts us : Tokens}
        → Means prefix_of op ts us → Reads unary (n, us) x s' → Reads unary (suc n, ts) (apply op x) s'
    plain : {s s' : State} {x : Expr} → Reads postfix s x s' → Reads unary s x s'
    index : {n k : ℕ} {s : State} {x i : Expr} {ts us vs ws : Tokens}
        → Reads postfix s x (suc n, ts) → Takes (Mark m.LeftBracket) ts us → Reads (level 0) (n, us) i (k, vs)
        → Takes (Mark m.RightBracket) vs ws
        → Reads postfix s (e.Index x i) (k, ws)
    dot : {n : ℕ} {s : State} {x : Expr} {w : Name} {ts us vs : Tokens}
        → Reads postfix s x (suc n, ts) → Takes (Mark m.Dot) ts us → Takes (Word w) us vs
        → Reads postfix s (e.Dot x w) (n, vs)
    arrow : {n : ℕ} {s : State} {x : Expr} {w : Name} {ts us vs : Tokens}
        → Reads postfix s x (suc n, ts) → Takes (Mark m.Arrow) ts us → Takes (Word w) us vs
        → Reads postfix s (e.Arrow x w) (n, vs)
    bare : {s s' : State} {x : Expr} → Reads primary s x s' → Reads postfix s x s'
    number : {n : ℕ} {v : ℤ} {ts us : Tokens} → Takes (Number v) ts us → Reads primary (n, ts) (e.Number v) (n, us)
    null : {n : ℕ} {ts us : Tokens} → Takes (Key key.Null) ts us → Reads primary (n, ts) e.Null (n, us)
    variable : {n : ℕ} {w : Name} {ts us : Tokens} → Takes (Word w) ts us → Reads primary (n, ts) (e.Var w) (n, us)
    call : {n : ℕ} {w : Name} {xs : List Expr} {s' : State} {ts us vs : Tokens}
        → Takes (Word w) ts us → Takes (Mark m.LeftParen) us vs → Arguments (n, vs) xs s'
        → Reads primary (suc n, ts) (e.Call w xs) s'
    group : {n k : ℕ} {x : Expr} {ts us vs ws : Tokens}
        → Takes (Mark m.LeftParen) ts us → Reads (level 0) (n, us) x (k, vs) → Takes (Mark m.RightParen) vs ws
        → Reads primary (suc n, ts) x (k, ws)
    -- its `(` counts, a star of the type does not
    size : {n : ℕ} {a : CType} {ts us : Tokens} → SizeOf ts a us → Reads primary (suc n, ts) (e.SizeOf a) (n, us)
    -- its own `(` counts, and that of its `sizeof`
    allocation : {n k : ℕ} {x : Expr} {a : CType} {ts us vs ws xs ys zs : Tokens}
        → Takes (Key key.Calloc) ts us → Takes (Mark m.LeftParen) us vs → Reads (level 0) (n, vs) x (k, ws)
        → Takes (Mark m.Comma) ws xs
        → SizeOf xs a ys → Takes (Mark m.RightParen) ys zs → Reads primary (suc (suc n), ts) (e.Calloc x a) (k, zs)

  -- the arguments of a call, after its `(`, to its `)`
  pub data Arguments : State → List Expr → State → Type 0 where
    none : {n : ℕ} {ts us : Tokens} → Takes (Mark m.RightParen) ts us → Arguments (n, ts) [] (n, us)
    some : {s s' : State} {xs : List Expr} → More s xs s' → Arguments s xs s'

  -- at least one argument
  pub data More : State → List Expr → State → Type 0 where
    last : {k : ℕ} {s : State} {x : Expr} {ts us : Tokens}
        → Reads (level 0) s x (k, ts) → Takes (Mark m.RightParen) ts us → More s (x ∷ []) (k, us)
    more : {k : ℕ} {s s' : State} {x : Expr} {xs : List Expr} {ts us : Tokens}
        → Reads (level 0) s x (k, ts) → Takes (Mark m.Comma) ts us → More (k, us) xs s' → More s (x ∷ xs) s'

-- a whole expression
pub record Expression (ts : Tokens) (x : Expr) (us : Tokens) : Type 0 where
  pub left : ℕ
  pub reads : Reads (level 0) (EXPRESSION_OPERATORS, ts) x (left, us)

-- the place of an assignment
pub record Place (ts : Tokens) (x : Expr) (us : Tokens) : Type 0 where
  pub left : ℕ
  pub reads : Reads unary (EXPRESSION_OPERATORS, ts) x (left, us)
