-- The grammar of statements and of what may stand in a block.
use Rattle.std.specs.Prelude.{◌≡◌, ℕ, suc, pos, Bool, true, false, List, [], ◌∷◌, ◌++◌, Option, Some, None}
use Rattle.al_source.specs.declared.tokens.TokenKind.{TokenKind}
use Rattle.al_source.specs.declared.tokens.TokenKind.TheVariants.{Word, Text, Key, Mark, Alter, EndAlter}
use Rattle.al_source.specs.declared.tokens.Mark.TheVariants as m
use Rattle.al_source.specs.declared.tokens.Key.TheVariants as key
use Rattle.al_source.specs.declared.texts.Piece.{Piece}
use Rattle.al_source.specs.declared.operators.BinOp.{BinOp}
use Rattle.al_source.specs.declared.operators.RedOp.{RedOp}
use Rattle.al_source.specs.declared.annotations.Policy.{Policy}
use Rattle.al_source.specs.declared.annotations.Policy.TheVariants as policy
use Rattle.al_source.specs.declared.annotations.CommitOrder.{CommitOrder}
use Rattle.al_source.specs.declared.annotations.CommitOrder.TheVariants as order
use Rattle.al_source.specs.declared.annotations.LoopNote.{LoopNote}
use Rattle.al_source.specs.declared.annotations.NamedRed.{NamedRed}
use Rattle.al_source.specs.declared.source_tree.CType.{CType}
use Rattle.al_source.specs.declared.source_tree.Field.{Field}
use Rattle.al_source.specs.declared.source_tree.Expr.{Expr}
use Rattle.al_source.specs.declared.source_tree.Expr.TheVariants as e
use Rattle.al_source.specs.declared.source_tree.Stmt.{Stmt, roll-Stmt}
use Rattle.al_source.specs.declared.source_tree.StmtKind.{StmtKind}
use Rattle.al_source.specs.declared.source_tree.StmtKind.TheVariants as kind
use Rattle.al_grammar.specs.declared.operators.NoteWord.TheVariants as word
use Rattle.al_grammar.specs.Operators.{update_of, step_of, note_word_of}
use Rattle.al_grammar.specs.Phrases.{Tokens, Name, Takes, Means, line_at}
use Rattle.al_grammar.specs.Words.{key_text}
use Rattle.al_grammar.specs.Types.{Base, Declarator}
use Rattle.al_grammar.specs.Expressions.{Expression, Place}

-- a statement of this line
abbrev pub statement_of : ℕ → StmtKind → Stmt
statement_of line k = roll-Stmt (record { line = line; kind = k })

-- a statement with the line of its first token
abbrev pub at : Tokens → StmtKind → Stmt
at ts k = statement_of (line_at ts) k

-- what `++` adds and `--` takes away
abbrev pub one : Expr
one = e.Number (pos 1)

-- ---- calls that are statements: each argument is a whole expression

-- at least one argument, to the `)`
pub data Values : Tokens → List Expr → Tokens → Type 0 where
  last : {ts us vs : Tokens} {x : Expr} → Expression ts x us → Takes (Mark m.RightParen) us vs → Values ts (x ∷ []) vs
  more : {ts us vs ws : Tokens} {x : Expr} {xs : List Expr}
      → Expression ts x us → Takes (Mark m.Comma) us vs → Values vs xs ws → Values ts (x ∷ xs) ws

-- args: after the `(` of a call, to its `)`
pub data CallValues : Tokens → List Expr → Tokens → Type 0 where
  none : {ts us : Tokens} → Takes (Mark m.RightParen) ts us → CallValues ts [] us
  some : {ts us : Tokens} {xs : List Expr} → Values ts xs us → CallValues ts xs us

-- after the text of a `printf`, to the `)`
pub data PrintValues : Tokens → List Expr → Tokens → Type 0 where
  none : {ts us : Tokens} → Takes (Mark m.RightParen) ts us → PrintValues ts [] us
  some : {ts us vs : Tokens} {xs : List Expr} → Takes (Mark m.Comma) ts us → Values us xs vs → PrintValues ts xs vs

-- an expression in parentheses
pub data Parenthesized : Tokens → Expr → Tokens → Type 0 where
  parenthesized : {ts us vs ws : Tokens} {x : Expr}
      → Takes (Mark m.LeftParen) ts us → Expression us x vs → Takes (Mark m.RightParen) vs ws → Parenthesized ts x ws

-- ---- simple: a statement without its `;`

pub data Simple : Tokens → StmtKind → Tokens → Type 0 where
  assign : {ts us vs ws : Tokens} {x y : Expr}
      → Place ts x us → Takes (Mark m.Assign) us vs → Expression vs y ws → Simple ts (kind.Assign x y) ws
  update : {ts us vs ws : Tokens} {x y : Expr} {op : BinOp}
      → Place ts x us → Means update_of op us vs → Expression vs y ws → Simple ts (kind.Update op x y) ws
  step_after : {ts us vs : Tokens} {x : Expr} {op : BinOp}
      → Place ts x us → Means step_of op us vs → Simple ts (kind.Update op x one) vs
  step_before : {ts us vs : Tokens} {x : Expr} {op : BinOp}
      → Means step_of op ts us → Place us x vs → Simple ts (kind.Update op x one) vs
  call : {ts us vs ws : Tokens} {w : Name} {xs : List Expr}
      → Takes (Word w) ts us → Takes (Mark m.LeftParen) us vs → CallValues vs xs ws → Simple ts (kind.Call w xs) ws
  print : {ts us vs ws zs : Tokens} {f : List Piece} {xs : List Expr}
      → Takes (Key key.Printf) ts us → Takes (Mark m.LeftParen) us vs → Takes (Text f) vs ws → PrintValues ws xs zs
      → Simple ts (kind.Print f xs) zs
  -- in the tree a call of the name `free`, which no function can have
  free : {ts us vs : Tokens} {x : Expr}
      → Takes (Key key.Free) ts us → Parenthesized us x vs → Simple ts (kind.Call (key_text key.Free) (x ∷ [])) vs

-- ---- note: what stands between the ends of an annotation

pub data NotePolicy : Tokens → Policy → Tokens → Type 0 where
  absent : {ts : Tokens} → NotePolicy ts policy.Raw ts
  written : {ts us : Tokens} {p : Policy} → Means note_word_of (word.Policy p) ts us → NotePolicy ts p us

pub data NoteOrder : Tokens → CommitOrder → Tokens → Type 0 where
  absent : {ts : Tokens} → NoteOrder ts order.InOrder ts
  written : {ts us : Tokens} {o : CommitOrder} → Means note_word_of (word.Order o) ts us → NoteOrder ts o us

-- a variable that is reduced by this operator
abbrev pub reduced : RedOp → Name → NamedRed
reduced op w = record { op = op; name = w }

-- the variables of one `reduce`, to its `)`
pub data Reduced (op : RedOp) : Tokens → List NamedRed → Tokens → Type 0 where
  last : {ts us vs : Tokens} {w : Name}
      → Takes (Word w) ts us → Takes (Mark m.RightParen) us vs → Reduced op ts (reduced op w ∷ []) vs
  more : {ts us vs ws : Tokens} {w : Name} {xs : List NamedRed}
      → Takes (Word w) ts us → Takes (Mark m.Comma) us vs → Reduced op vs xs ws → Reduced op ts (reduced op w ∷ xs) ws

pub data Reductions : Tokens → List NamedRed → Tokens → Type 0 where
  none : {ts : Tokens} → Reductions ts [] ts
  reduce : {ts us vs ws xs ys zs : Tokens} {op : RedOp} {ns rs : List NamedRed}
      → Means note_word_of word.Reduce ts us → Takes (Mark m.LeftParen) us vs
      → Means note_word_of (word.Operator op) vs ws → Takes (Mark m.Colon) ws xs
      → Reduced op xs ns ys → Reductions ys rs zs → Reductions ts (ns ++ rs) zs

pub data Note : Tokens → LoopNote → Tokens → Type 0 where
  note : {ts us vs ws : Tokens} {p : Policy} {o : CommitOrder} {rs : List NamedRed}
      → NotePolicy ts p us → NoteOrder us o vs → Reductions vs rs ws
      → Note ts (record { policy = p; order = o; reduce = rs }) ws

-- ---- the head of a `for`

pub data Maybe : Tokens → Option Expr → Tokens → Type 0 where
  nothing : {ts : Tokens} → Maybe ts None ts
  just : {ts us : Tokens} {x : Expr} → Expression ts x us → Maybe ts (Some x) us

-- the first part
pub data First : Tokens → Option Stmt → Tokens → Type 0 where
  nothing : {ts : Tokens} → First ts None ts
  declares : {ts us vs ws xs : Tokens} {a : CType} {f : Field} {x : Expr}
      → Base ts a us → Declarator a us f vs → Takes (Mark m.Assign) vs ws → Expression ws x xs
      → First ts (Some (at ts (kind.Declare f.ty f.name (Some x)))) xs
  simple : {ts us : Tokens} {k : StmtKind} → Simple ts k us → First ts (Some (at ts k)) us

-- the third part
pub data Third : Tokens → Option Stmt → Tokens → Type 0 where
  nothing : {ts : Tokens} → Third ts None ts
  simple : {ts us : Tokens} {k : StmtKind} → Simple ts k us → Third ts (Some (at ts k)) us

-- from the `for` to the `)` before its body
pub data Head : Tokens → Option Stmt → Option Expr → Option Stmt → Tokens → Type 0 where
  head : {t₀ t₁ t₂ t₃ t₄ t₅ t₆ t₇ t₈ : Tokens} {first third : Option Stmt} {test : Option Expr}
      → Takes (Key key.For) t₀ t₁ → Takes (Mark m.LeftParen) t₁ t₂ → First t₂ first t₃ → Takes (Mark m.Semicolon) t₃ t₄
      → Maybe t₄ test t₅ → Takes (Mark m.Semicolon) t₅ t₆ → Third t₆ third t₇ → Takes (Mark m.RightParen) t₇ t₈
      → Head t₀ first test third t₈

-- ---- the declarations of a block

-- ldecl: what is behind the declared name
pub data Initializer : Tokens → Option Expr → Tokens → Type 0 where
  nothing : {ts : Tokens} → Initializer ts None ts
  just : {ts us vs : Tokens} {x : Expr} → Takes (Mark m.Assign) ts us → Expression us x vs → Initializer ts (Some x) vs

-- the declared names, to the `;`: a declaration for each, of one line
pub data Locals (line : ℕ) (a : CType) : Tokens → List Stmt → Tokens → Type 0 where
  last : {ts us vs ws : Tokens} {f : Field} {x : Option Expr}
      → Declarator a ts f us → Initializer us x vs → Takes (Mark m.Semicolon) vs ws
      → Locals line a ts (statement_of line (kind.Declare f.ty f.name x) ∷ []) ws
  more : {ts us vs ws zs : Tokens} {f : Field} {x : Option Expr} {ss : List Stmt}
      → Declarator a ts f us → Initializer us x vs → Takes (Mark m.Comma) vs ws → Locals line a ws ss zs
      → Locals line a ts (statement_of line (kind.Declare f.ty f.name x) ∷ ss) zs

-- ---- statements

abbrev pub is_else : TokenKind → Bool
is_else (Key key.Else) = true
is_else _ = false

-- whether an `else` comes next
abbrev pub else_next : Tokens → Bool
else_next [] = false
else_next (t ∷ ts) = is_else t.kind

-- The number is how many levels of statements there may be from here on.
mutual
  pub data Statement : ℕ → Tokens → Stmt → Tokens → Type 0 where
    empty : {d : ℕ} {ts us : Tokens} → Takes (Mark m.Semicolon) ts us → Statement (suc d) ts (at ts kind.Empty) us
    block : {d : ℕ} {ts us vs ws : Tokens} {ss : List Stmt}
        → Takes (Mark m.LeftBrace) ts us → Inners d us ss vs → Takes (Mark m.RightBrace) vs ws
        → Statement (suc d) ts (at ts (kind.Block ss)) ws
    simple : {d : ℕ} {ts us vs : Tokens} {k : StmtKind}
        → Simple ts k us → Takes (Mark m.Semicolon) us vs → Statement (suc d) ts (at ts k) vs
    -- An `else` belongs to the nearest `if`.
    if_only : {d : ℕ} {ts us vs ws : Tokens} {c : Expr} {x : Stmt}
        → Takes (Key key.If) ts us → Parenthesized us c vs → Statement d vs x ws → else_next ws ≡ false
        → Statement (suc d) ts (at ts (kind.If c x None)) ws
    if_else : {d : ℕ} {ts us vs ws xs ys : Tokens} {c : Expr} {x y : Stmt}
        → Takes (Key key.If) ts us → Parenthesized us c vs → Statement d vs x ws → Takes (Key key.Else) ws xs
        → Statement d xs y ys
        → Statement (suc d) ts (at ts (kind.If c x (Some y))) ys
    while_loop : {d : ℕ} {ts us vs ws : Tokens} {c : Expr} {x : Stmt}
        → Takes (Key key.While) ts us → Parenthesized us c vs → Statement d vs x ws
        → Statement (suc d) ts (at ts (kind.While c x)) ws
    for_loop : {d : ℕ} {ts us vs : Tokens} {first third : Option Stmt} {test : Option Expr} {x : Stmt}
        → Head ts first test third us → Statement d us x vs
        → Statement (suc d) ts (at ts (kind.For first test third x None)) vs
    -- An annotated loop has the line of its `for`.
    noted_loop :
        {d : ℕ} {ts us vs ws xs ys : Tokens} {n : LoopNote} {first third : Option Stmt} {test : Option Expr} {x : Stmt}
        → Takes Alter ts us → Note us n vs → Takes EndAlter vs ws → Head ws first test third xs → Statement d xs x ys
        → Statement (suc d) ts (at ws (kind.For first test third x (Some n))) ys
    return_value : {d : ℕ} {ts us vs ws : Tokens} {x : Option Expr}
        → Takes (Key key.Return) ts us → Maybe us x vs → Takes (Mark m.Semicolon) vs ws
        → Statement (suc d) ts (at ts (kind.Return x)) ws
    break_loop : {d : ℕ} {ts us vs : Tokens}
        → Takes (Key key.Break) ts us → Takes (Mark m.Semicolon) us vs → Statement (suc d) ts (at ts kind.Break) vs
    continue_loop : {d : ℕ} {ts us vs : Tokens}
        → Takes (Key key.Continue) ts us → Takes (Mark m.Semicolon) us vs
        → Statement (suc d) ts (at ts kind.Continue) vs

  -- inner: a declaration, which is a statement too, or a statement
  pub data Inner : ℕ → Tokens → List Stmt → Tokens → Type 0 where
    declares : {d : ℕ} {ts us vs : Tokens} {a : CType} {ss : List Stmt}
        → Base ts a us → Locals (line_at ts) a us ss vs → Inner (suc d) ts ss vs
    statement : {d : ℕ} {ts us : Tokens} {x : Stmt} → Statement d ts x us → Inner d ts (x ∷ []) us

  pub data Inners : ℕ → Tokens → List Stmt → Tokens → Type 0 where
    done : {d : ℕ} {ts : Tokens} → Inners d ts [] ts
    next : {d : ℕ} {ts us vs : Tokens} {ss rs : List Stmt}
        → Inner d ts ss us → Inners d us rs vs → Inners d ts (ss ++ rs) vs
