-- What a single token says in an expression, a statement or an annotation.
use Rattle.std.specs.Prelude.{ℕ, List, Option, Some, None, if◌then◌else◌, codes}
use Rattle.std.specs.Str.{bytes_eq}
use Rattle.al_source.specs.declared.tokens.TokenKind.{TokenKind}
use Rattle.al_source.specs.declared.tokens.TokenKind.TheVariants.{Word, Mark}
use Rattle.al_source.specs.declared.tokens.Mark.TheVariants as m
use Rattle.al_source.specs.declared.operators.UnOp.TheVariants as u
use Rattle.al_source.specs.declared.operators.BinOp.{BinOp}
use Rattle.al_source.specs.declared.operators.BinOp.TheVariants as b
use Rattle.al_source.specs.declared.operators.RedOp.TheVariants as r
use Rattle.al_source.specs.declared.annotations.Policy.TheVariants as policy
use Rattle.al_source.specs.declared.annotations.CommitOrder.TheVariants as order
use Rattle.al_source.specs.declared.source_tree.Expr.{Expr}
use Rattle.al_source.specs.declared.source_tree.Expr.TheVariants as e
use Rattle.al_grammar.specs.declared.operators.Joint.{Joint}
use Rattle.al_grammar.specs.declared.operators.Joint.TheVariants as joint
use Rattle.al_grammar.specs.declared.operators.Prefix.{Prefix}
use Rattle.al_grammar.specs.declared.operators.Prefix.TheVariants as prefix
use Rattle.al_grammar.specs.declared.operators.NoteWord.{NoteWord}
use Rattle.al_grammar.specs.declared.operators.NoteWord.TheVariants as note

-- a binary operator's level, from 0, the loosest, and what it makes of its operands (C99 6.5.5 to 6.5.14)
abbrev pub infix_of : TokenKind → Option (ℕ × Joint)
infix_of (Mark m.OrOr) = Some (0, joint.Or)
infix_of (Mark m.AndAnd) = Some (1, joint.And)
infix_of (Mark m.Pipe) = Some (2, joint.Op b.BitOr)
infix_of (Mark m.Caret) = Some (3, joint.Op b.BitXor)
infix_of (Mark m.Ampersand) = Some (4, joint.Op b.BitAnd)
infix_of (Mark m.EqualEqual) = Some (5, joint.Op b.Eq)
infix_of (Mark m.NotEqual) = Some (5, joint.Op b.Ne)
infix_of (Mark m.Less) = Some (6, joint.Op b.Lt)
infix_of (Mark m.LessEqual) = Some (6, joint.Op b.Le)
infix_of (Mark m.Greater) = Some (6, joint.Op b.Gt)
infix_of (Mark m.GreaterEqual) = Some (6, joint.Op b.Ge)
infix_of (Mark m.ShiftLeft) = Some (7, joint.Op b.Shl)
infix_of (Mark m.ShiftRight) = Some (7, joint.Op b.Shr)
infix_of (Mark m.Plus) = Some (8, joint.Op b.Add)
infix_of (Mark m.Minus) = Some (8, joint.Op b.Sub)
infix_of (Mark m.Star) = Some (9, joint.Op b.Mul)
infix_of (Mark m.Slash) = Some (9, joint.Op b.Div)
infix_of (Mark m.Percent) = Some (9, joint.Op b.Rem)
infix_of _ = None

-- what a binary operator makes of its operands
abbrev pub join : Joint → Expr → Expr → Expr
join joint.Or x y = e.Or x y
join joint.And x y = e.And x y
join (joint.Op op) x y = e.Binary op x y

-- what an operator before an expression is
abbrev pub prefix_of : TokenKind → Option Prefix
prefix_of (Mark m.Minus) = Some (prefix.Op u.Neg)
prefix_of (Mark m.Tilde) = Some (prefix.Op u.BitNot)
prefix_of (Mark m.Bang) = Some (prefix.Op u.Not)
prefix_of (Mark m.Star) = Some prefix.Deref
prefix_of (Mark m.Ampersand) = Some prefix.Address
prefix_of _ = None

-- what it makes of the expression
abbrev pub apply : Prefix → Expr → Expr
apply (prefix.Op op) x = e.Unary op x
apply prefix.Deref x = e.Deref x
apply prefix.Address x = e.Address x

-- the operator of an assignment such as `+=`
abbrev pub update_of : TokenKind → Option BinOp
update_of (Mark m.PlusAssign) = Some b.Add
update_of (Mark m.MinusAssign) = Some b.Sub
update_of (Mark m.StarAssign) = Some b.Mul
update_of (Mark m.SlashAssign) = Some b.Div
update_of (Mark m.PercentAssign) = Some b.Rem
update_of (Mark m.AmpersandAssign) = Some b.BitAnd
update_of (Mark m.PipeAssign) = Some b.BitOr
update_of (Mark m.CaretAssign) = Some b.BitXor
update_of (Mark m.ShiftLeftAssign) = Some b.Shl
update_of (Mark m.ShiftRightAssign) = Some b.Shr
update_of _ = None

-- `++` adds 1 and `--` takes 1 away
abbrev pub step_of : TokenKind → Option BinOp
step_of (Mark m.Increment) = Some b.Add
step_of (Mark m.Decrement) = Some b.Sub
step_of _ = None

-- what a name says in an annotation
abbrev pub note_name : List ℕ → Option NoteWord
note_name w =
    if bytes_eq w (codes "FULL") then Some (note.Policy policy.Full) else
    if bytes_eq w (codes "RAW") then Some (note.Policy policy.Raw) else
    if bytes_eq w (codes "WAW") then Some (note.Policy policy.Waw) else
    if bytes_eq w (codes "NONE") then Some (note.Policy policy.None) else
    if bytes_eq w (codes "InOrder") then Some (note.Order order.InOrder) else
    if bytes_eq w (codes "OutOfOrder") then Some (note.Order order.OutOfOrder) else
    if bytes_eq w (codes "reduce") then Some note.Reduce else
    if bytes_eq w (codes "min") then Some (note.Operator r.Min) else
    if bytes_eq w (codes "max") then Some (note.Operator r.Max) else
    None

-- what a token says in an annotation
abbrev pub note_word_of : TokenKind → Option NoteWord
note_word_of (Mark m.Plus) = Some (note.Operator r.Add)
note_word_of (Mark m.Star) = Some (note.Operator r.Mul)
note_word_of (Mark m.Ampersand) = Some (note.Operator r.BitAnd)
note_word_of (Mark m.Pipe) = Some (note.Operator r.BitOr)
note_word_of (Mark m.Caret) = Some (note.Operator r.BitXor)
note_word_of (Word w) = note_name w
note_word_of _ = None
