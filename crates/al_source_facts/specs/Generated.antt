-- The tokens and the source tree of the generated program.
use Rattle.std.specs.Prelude.{ℕ, List, [], ◌∷◌, Some, None, pos, codes}
use Rattle.al_source.specs.declared.annotations.Policy.TheVariants as policy
use Rattle.al_source.specs.declared.annotations.CommitOrder.TheVariants as order
use Rattle.al_source.specs.declared.annotations.LoopNote.{LoopNote}
use Rattle.al_source.specs.declared.operators.BinOp.TheVariants as binary
use Rattle.al_source.specs.declared.operators.RedOp.TheVariants as red
use Rattle.al_source.specs.declared.tokens.TokenKind.TheVariants as kind
use Rattle.al_source.specs.declared.tokens.Key.TheVariants as key
use Rattle.al_source.specs.declared.tokens.Mark.TheVariants as mark
use Rattle.al_source.specs.declared.texts.Piece.{Piece}
use Rattle.al_source.specs.declared.texts.Piece.TheVariants as piece
use Rattle.al_source.specs.declared.source_tree.CType.{CType}
use Rattle.al_source.specs.declared.source_tree.CType.TheVariants as type
use Rattle.al_source.specs.declared.source_tree.Expr.{Expr}
use Rattle.al_source.specs.declared.source_tree.Expr.TheVariants as e
use Rattle.al_source.specs.declared.source_tree.Stmt.{Stmt}
use Rattle.al_source.specs.declared.source_tree.StmtKind.{StmtKind}
use Rattle.al_source.specs.declared.source_tree.StmtKind.TheVariants as statement
use Rattle.al_source.specs.declared.source_tree.Start.TheVariants as start
use Rattle.al_source.specs.declared.source_tree.Func.{Func}
use Rattle.al_source.specs.declared.source_tree.Item.TheVariants as item
use Rattle.al_source.specs.declared.source_tree.Program.{Program}
use Rattle.al_grammar.specs.Phrases.{Tokens, Name}
use Rattle.al_grammar.specs.Statements.{statement_of}
use Rattle.al_source_facts.specs.Texts.{token}

abbrev pub tokens : Tokens
tokens =
    token 0 4 1 (kind.Key key.Long) ∷ token 5 9 1 (kind.Word (codes "hist")) ∷
    token 9 10 1 (kind.Mark mark.LeftBracket) ∷ token 10 12 1 (kind.Number (pos 16)) ∷
    token 12 13 1 (kind.Mark mark.RightBracket) ∷ token 13 14 1 (kind.Mark mark.Semicolon) ∷
    token 15 18 2 (kind.Key key.Int) ∷ token 19 23 2 (kind.Word (codes "main")) ∷
    token 23 24 2 (kind.Mark mark.LeftParen) ∷ token 24 28 2 (kind.Key key.Void) ∷
    token 28 29 2 (kind.Mark mark.RightParen) ∷ token 30 31 2 (kind.Mark mark.LeftBrace) ∷
    token 34 38 3 (kind.Key key.Long) ∷ token 39 40 3 (kind.Word (codes "n")) ∷
    token 41 42 3 (kind.Mark mark.Assign) ∷ token 43 49 3 (kind.Word (codes "inputs")) ∷
    token 49 50 3 (kind.Mark mark.LeftParen) ∷ token 50 51 3 (kind.Mark mark.RightParen) ∷
    token 51 52 3 (kind.Mark mark.Semicolon) ∷ token 55 59 4 (kind.Key key.Long) ∷
    token 60 61 4 (kind.Word (codes "s")) ∷ token 62 63 4 (kind.Mark mark.Assign) ∷
    token 64 65 4 (kind.Number (pos 0)) ∷ token 65 66 4 (kind.Mark mark.Semicolon) ∷ token 67 80 5 kind.Alter ∷
    token 81 84 5 (kind.Word (codes "RAW")) ∷ token 85 95 5 (kind.Word (codes "OutOfOrder")) ∷
    token 96 102 5 (kind.Word (codes "reduce")) ∷ token 102 103 5 (kind.Mark mark.LeftParen) ∷
    token 103 104 5 (kind.Mark mark.Plus) ∷ token 104 105 5 (kind.Mark mark.Colon) ∷
    token 106 107 5 (kind.Word (codes "s")) ∷ token 107 108 5 (kind.Mark mark.RightParen) ∷
    token 108 108 5 kind.EndAlter ∷ token 111 114 6 (kind.Key key.For) ∷
    token 115 116 6 (kind.Mark mark.LeftParen) ∷ token 116 120 6 (kind.Key key.Long) ∷
    token 121 122 6 (kind.Word (codes "i")) ∷ token 123 124 6 (kind.Mark mark.Assign) ∷
    token 125 126 6 (kind.Number (pos 0)) ∷ token 126 127 6 (kind.Mark mark.Semicolon) ∷
    token 128 129 6 (kind.Word (codes "i")) ∷ token 130 131 6 (kind.Mark mark.Less) ∷
    token 132 133 6 (kind.Word (codes "n")) ∷ token 133 134 6 (kind.Mark mark.Semicolon) ∷
    token 135 136 6 (kind.Word (codes "i")) ∷ token 136 138 6 (kind.Mark mark.Increment) ∷
    token 138 139 6 (kind.Mark mark.RightParen) ∷ token 140 141 6 (kind.Mark mark.LeftBrace) ∷
    token 146 150 7 (kind.Word (codes "hist")) ∷ token 150 151 7 (kind.Mark mark.LeftBracket) ∷
    token 151 156 7 (kind.Word (codes "input")) ∷ token 156 157 7 (kind.Mark mark.LeftParen) ∷
    token 157 158 7 (kind.Word (codes "i")) ∷ token 158 159 7 (kind.Mark mark.RightParen) ∷
    token 160 161 7 (kind.Mark mark.Percent) ∷ token 162 164 7 (kind.Number (pos 16)) ∷
    token 164 165 7 (kind.Mark mark.RightBracket) ∷ token 166 168 7 (kind.Mark mark.PlusAssign) ∷
    token 169 170 7 (kind.Number (pos 1)) ∷ token 170 171 7 (kind.Mark mark.Semicolon) ∷
    token 176 177 8 (kind.Word (codes "s")) ∷ token 178 180 8 (kind.Mark mark.PlusAssign) ∷
    token 181 186 8 (kind.Word (codes "input")) ∷ token 186 187 8 (kind.Mark mark.LeftParen) ∷
    token 187 188 8 (kind.Word (codes "i")) ∷ token 188 189 8 (kind.Mark mark.RightParen) ∷
    token 189 190 8 (kind.Mark mark.Semicolon) ∷ token 193 194 9 (kind.Mark mark.RightBrace) ∷
    token 197 200 10 (kind.Key key.For) ∷ token 201 202 10 (kind.Mark mark.LeftParen) ∷
    token 202 206 10 (kind.Key key.Long) ∷ token 207 208 10 (kind.Word (codes "k")) ∷
    token 209 210 10 (kind.Mark mark.Assign) ∷ token 211 212 10 (kind.Number (pos 0)) ∷
    token 212 213 10 (kind.Mark mark.Semicolon) ∷ token 214 215 10 (kind.Word (codes "k")) ∷
    token 216 217 10 (kind.Mark mark.Less) ∷ token 218 220 10 (kind.Number (pos 16)) ∷
    token 220 221 10 (kind.Mark mark.Semicolon) ∷ token 222 223 10 (kind.Word (codes "k")) ∷
    token 223 225 10 (kind.Mark mark.Increment) ∷ token 225 226 10 (kind.Mark mark.RightParen) ∷
    token 227 233 10 (kind.Key key.Printf) ∷ token 233 234 10 (kind.Mark mark.LeftParen) ∷
    token 234 240 10 (kind.Text (piece.Number ∷ piece.Plain (32 ∷ []) ∷ [])) ∷
    token 240 241 10 (kind.Mark mark.Comma) ∷ token 242 246 10 (kind.Word (codes "hist")) ∷
    token 246 247 10 (kind.Mark mark.LeftBracket) ∷ token 247 248 10 (kind.Word (codes "k")) ∷
    token 248 249 10 (kind.Mark mark.RightBracket) ∷ token 249 250 10 (kind.Mark mark.RightParen) ∷
    token 250 251 10 (kind.Mark mark.Semicolon) ∷ token 254 260 11 (kind.Key key.Printf) ∷
    token 260 261 11 (kind.Mark mark.LeftParen) ∷
    token 261 268 11 (kind.Text (piece.Number ∷ piece.Plain (10 ∷ []) ∷ [])) ∷
    token 268 269 11 (kind.Mark mark.Comma) ∷ token 270 271 11 (kind.Word (codes "s")) ∷
    token 271 272 11 (kind.Mark mark.RightParen) ∷ token 272 273 11 (kind.Mark mark.Semicolon) ∷
    token 276 282 12 (kind.Key key.Return) ∷ token 283 284 12 (kind.Number (pos 0)) ∷
    token 284 285 12 (kind.Mark mark.Semicolon) ∷ token 286 287 13 (kind.Mark mark.RightBrace) ∷ []

-- ---- expressions

abbrev pub number : ℕ → Expr
number n = e.Number (pos n)

abbrev pub hist_name : Name
hist_name = codes "hist"

abbrev pub n_name : Name
n_name = codes "n"

abbrev pub s_name : Name
s_name = codes "s"

abbrev pub i_name : Name
i_name = codes "i"

abbrev pub k_name : Name
k_name = codes "k"

abbrev pub hist : Expr
hist = e.Var hist_name

abbrev pub n : Expr
n = e.Var n_name

abbrev pub s : Expr
s = e.Var s_name

abbrev pub i : Expr
i = e.Var i_name

abbrev pub k : Expr
k = e.Var k_name

abbrev pub inputs : Expr
inputs = e.Call (codes "inputs") []

abbrev pub input : Expr
input = e.Call (codes "input") (i ∷ [])

-- ---- statements

abbrev pub declare : Name → Expr → StmtKind
declare name value = statement.Declare type.Int name (Some value)

abbrev pub slot : Expr
slot = e.Index hist (e.Binary binary.Rem input (number 16))

abbrev pub counts : StmtKind
counts = statement.Update binary.Add slot (number 1)

abbrev pub sums : StmtKind
sums = statement.Update binary.Add s input

abbrev pub body_stmts : List Stmt
body_stmts = statement_of 7 counts ∷ statement_of 8 sums ∷ []

abbrev pub body : StmtKind
body = statement.Block body_stmts

abbrev pub note : LoopNote
note = record {
  policy = policy.Raw;
  order = order.OutOfOrder;
  reduce = record { op = red.Add; name = s_name } ∷ [];
}

abbrev pub next : Expr → StmtKind
next x = statement.Update binary.Add x (number 1)

abbrev pub less : Expr → Expr → Expr
less x y = e.Binary binary.Lt x y

abbrev pub loop : StmtKind
loop =
    statement.For
    (Some (statement_of 6 (declare i_name (number 0))))
    (Some (less i n))
    (Some (statement_of 6 (next i)))
    (statement_of 6 body)
    (Some note)

abbrev pub slot_format : List Piece
slot_format = piece.Number ∷ piece.Plain (32 ∷ []) ∷ []

abbrev pub shown : Expr
shown = e.Index hist k

abbrev pub print_slot : StmtKind
print_slot = statement.Print slot_format (shown ∷ [])

abbrev pub prints : StmtKind
prints =
    statement.For
    (Some (statement_of 10 (declare k_name (number 0))))
    (Some (less k (number 16)))
    (Some (statement_of 10 (next k)))
    (statement_of 10 print_slot)
    None

abbrev pub sum_format : List Piece
sum_format = piece.Number ∷ piece.Plain (10 ∷ []) ∷ []

abbrev pub print_sum : StmtKind
print_sum = statement.Print sum_format (s ∷ [])

abbrev pub result : StmtKind
result = statement.Return (Some (number 0))

-- ---- the program

abbrev pub numbers : CType
numbers = type.Array type.Int 16

abbrev pub main : Func
main = record {
  name = codes "main";
  result = type.Int;
  params = [];
  body =
      statement_of 3 (declare n_name inputs) ∷ statement_of 4 (declare s_name (number 0)) ∷ statement_of 6 loop
      ∷ statement_of 10 prints ∷ statement_of 11 print_sum ∷ statement_of 12 result ∷ [];
  line = 2;
}

abbrev pub program : Program
program = record {
  items =
      item.Global (record { name = hist_name; ty = numbers; start = start.Zero; line = 1 }) ∷ item.Func main ∷ [];
}
