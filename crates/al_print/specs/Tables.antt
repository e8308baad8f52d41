-- The tokens of operators and of the words of an annotation.
use Rattle.std.specs.Prelude.{ℕ, codes}
use Rattle.al_source.specs.declared.tokens.Mark.{Mark}
use Rattle.al_source.specs.declared.tokens.Mark.TheVariants as m
use Rattle.al_source.specs.declared.tokens.TokenKind.{TokenKind}
use Rattle.al_source.specs.declared.tokens.TokenKind.TheVariants as kind
use Rattle.al_source.specs.declared.operators.UnOp.{UnOp}
use Rattle.al_source.specs.declared.operators.UnOp.TheVariants as u
use Rattle.al_source.specs.declared.operators.BinOp.{BinOp}
use Rattle.al_source.specs.declared.operators.BinOp.TheVariants as b
use Rattle.al_source.specs.declared.operators.RedOp.{RedOp}
use Rattle.al_source.specs.declared.operators.RedOp.TheVariants as r
use Rattle.al_source.specs.declared.annotations.Policy.{Policy}
use Rattle.al_source.specs.declared.annotations.Policy.TheVariants as policy
use Rattle.al_source.specs.declared.annotations.CommitOrder.{CommitOrder}
use Rattle.al_source.specs.declared.annotations.CommitOrder.TheVariants as order

abbrev pub unary_mark : UnOp → Mark
unary_mark u.Neg = m.Minus
unary_mark u.BitNot = m.Tilde
unary_mark u.Not = m.Bang

-- the level of a binary operator, from 0, the loosest, and its mark (C99 6.5.5 to 6.5.14)
abbrev pub binary : BinOp → ℕ × Mark
binary b.BitOr = (2, m.Pipe)
binary b.BitXor = (3, m.Caret)
binary b.BitAnd = (4, m.Ampersand)
binary b.Eq = (5, m.EqualEqual)
binary b.Ne = (5, m.NotEqual)
binary b.Lt = (6, m.Less)
binary b.Le = (6, m.LessEqual)
binary b.Gt = (6, m.Greater)
binary b.Ge = (6, m.GreaterEqual)
binary b.Shl = (7, m.ShiftLeft)
binary b.Shr = (7, m.ShiftRight)
binary b.Add = (8, m.Plus)
binary b.Sub = (8, m.Minus)
binary b.Mul = (9, m.Star)
binary b.Div = (9, m.Slash)
binary b.Rem = (9, m.Percent)

-- the mark of an assignment such as `+=`; a comparison has none and keeps its own
abbrev pub update_mark : BinOp → Mark
update_mark b.Add = m.PlusAssign
update_mark b.Sub = m.MinusAssign
update_mark b.Mul = m.StarAssign
update_mark b.Div = m.SlashAssign
update_mark b.Rem = m.PercentAssign
update_mark b.BitAnd = m.AmpersandAssign
update_mark b.BitOr = m.PipeAssign
update_mark b.BitXor = m.CaretAssign
update_mark b.Shl = m.ShiftLeftAssign
update_mark b.Shr = m.ShiftRightAssign
update_mark op = (binary op).1

abbrev pub reduction : RedOp → TokenKind
reduction r.Add = kind.Mark m.Plus
reduction r.Mul = kind.Mark m.Star
reduction r.Min = kind.Word (codes "min")
reduction r.Max = kind.Word (codes "max")
reduction r.BitAnd = kind.Mark m.Ampersand
reduction r.BitOr = kind.Mark m.Pipe
reduction r.BitXor = kind.Mark m.Caret

abbrev pub policy_word : Policy → TokenKind
policy_word policy.Full = kind.Word (codes "FULL")
policy_word policy.Raw = kind.Word (codes "RAW")
policy_word policy.Waw = kind.Word (codes "WAW")
policy_word policy.None = kind.Word (codes "NONE")

abbrev pub order_word : CommitOrder → TokenKind
order_word order.InOrder = kind.Word (codes "InOrder")
order_word order.OutOfOrder = kind.Word (codes "OutOfOrder")
