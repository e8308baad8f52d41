-- The source tree of the small source, by the order of its first loop.
use Rattle.std.specs.Prelude.{ℕ, List, [], ◌∷◌, Some, None, pos, codes}
use Rattle.al_source.specs.declared.annotations.Policy.{Policy}
use Rattle.al_source.specs.declared.annotations.Policy.TheVariants as policy
use Rattle.al_source.specs.declared.annotations.CommitOrder.{CommitOrder}
use Rattle.al_source.specs.declared.annotations.CommitOrder.TheVariants as order
use Rattle.al_source.specs.declared.annotations.LoopNote.{LoopNote}
use Rattle.al_source.specs.declared.annotations.NamedRed.{NamedRed}
use Rattle.al_source.specs.declared.operators.BinOp.TheVariants as binary
use Rattle.al_source.specs.declared.operators.RedOp.TheVariants as red
use Rattle.al_source.specs.declared.texts.Piece.TheVariants as piece
use Rattle.al_source.specs.declared.source_tree.CType.TheVariants as type
use Rattle.al_source.specs.declared.source_tree.Expr.{Expr}
use Rattle.al_source.specs.declared.source_tree.Expr.TheVariants as e
use Rattle.al_source.specs.declared.source_tree.Stmt.{Stmt}
use Rattle.al_source.specs.declared.source_tree.StmtKind.{StmtKind}
use Rattle.al_source.specs.declared.source_tree.StmtKind.TheVariants as kind
use Rattle.al_source.specs.declared.source_tree.Start.TheVariants as start
use Rattle.al_source.specs.declared.source_tree.Func.{Func}
use Rattle.al_source.specs.declared.source_tree.Item.{Item}
use Rattle.al_source.specs.declared.source_tree.Item.TheVariants as item
use Rattle.al_source.specs.declared.source_tree.Program.{Program}
use Rattle.al_grammar.specs.Phrases.{Name}
use Rattle.al_grammar.specs.Statements.{statement_of}

abbrev pub number : ℕ → Expr
number n = e.Number (pos n)

abbrev pub x_name : Name
x_name = codes "x"

abbrev pub y_name : Name
y_name = codes "y"

abbrev pub i_name : Name
i_name = codes "i"

abbrev pub s_name : Name
s_name = codes "s"

abbrev pub x : Expr
x = e.Var x_name

abbrev pub y : Expr
y = e.Var y_name

abbrev pub i : Expr
i = e.Var i_name

abbrev pub s : Expr
s = e.Var s_name

-- ---- statements, each as its kind

abbrev pub zero : Name → StmtKind
zero name = kind.Declare type.Int name (Some (number 0))

abbrev pub from_zero : StmtKind
from_zero = kind.Assign i (number 0)

abbrev pub below : ℕ → Expr
below n = e.Binary binary.Lt i (number n)

abbrev pub next : StmtKind
next = kind.Update binary.Add i (number 1)

abbrev pub is : ℕ → Expr
is n = e.Binary binary.Eq i (number n)

abbrev pub x_is_one : StmtKind
x_is_one = kind.Assign x (number 1)

abbrev pub first_if : StmtKind
first_if = kind.If (is 0) (statement_of 7 x_is_one) None

abbrev pub y_is_x : StmtKind
y_is_x = kind.Assign y x

abbrev pub second_if : StmtKind
second_if = kind.If (is 1) (statement_of 8 y_is_x) None

abbrev pub print : StmtKind
print = kind.Print (piece.Number ∷ []) (i ∷ [])

-- if (i == 0) x = 1; if (i == 1) y = x; printf("%ld", i);
abbrev pub first_stmts : List Stmt
first_stmts = statement_of 7 first_if ∷ statement_of 8 second_if ∷ statement_of 9 print ∷ []

abbrev pub first_body : StmtKind
first_body = kind.Block first_stmts

abbrev pub sum : StmtKind
sum = kind.Update binary.Add s i

abbrev pub greatest_of : Expr
greatest_of = e.Call (codes "max") (x ∷ i ∷ [])

abbrev pub greatest : StmtKind
greatest = kind.Assign x greatest_of

-- s += i; x = max(x, i);
abbrev pub second_stmts : List Stmt
second_stmts = statement_of 12 sum ∷ statement_of 13 greatest ∷ []

abbrev pub second_body : StmtKind
second_body = kind.Block second_stmts

abbrev pub note : Policy → CommitOrder → List NamedRed → LoopNote
note p o rs = record { policy = p; order = o; reduce = rs }

abbrev pub first_note : CommitOrder → LoopNote
first_note o = note policy.Raw o []

abbrev pub second_note : LoopNote
second_note =
    note
    policy.Full
    order.InOrder
    (record { op = red.Add; name = s_name } ∷ record { op = red.Max; name = x_name } ∷ [])

abbrev pub loop : ℕ → ℕ → StmtKind → LoopNote → StmtKind
loop line n body note =
    kind.For
    (Some (statement_of line from_zero))
    (Some (below n))
    (Some (statement_of line next))
    (statement_of line body)
    (Some note)

abbrev pub first_loop : CommitOrder → StmtKind
first_loop o = loop 6 3 first_body (first_note o)

abbrev pub second_loop : StmtKind
second_loop = loop 11 9 second_body second_note

abbrev pub result : StmtKind
result = kind.Return (Some s)

abbrev pub body : CommitOrder → List Stmt
body o =
    statement_of 3 (zero i_name) ∷ statement_of 4 (zero s_name) ∷ statement_of 6 (first_loop o)
    ∷ statement_of 11 second_loop ∷ statement_of 14 result ∷ []

abbrev pub global : Name → Item
global name = item.Global (record { name = name; ty = type.Int; start = start.Zero; line = 1 })

abbrev pub main : CommitOrder → Func
main o = record { name = codes "main"; result = type.Int; params = []; body = body o; line = 2 }

abbrev pub program : CommitOrder → Program
program o = record { items = global x_name ∷ global y_name ∷ item.Func (main o) ∷ [] }
