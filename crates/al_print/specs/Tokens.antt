-- The canonical tokens of a tree: a case a node, with parentheses only where its place needs them.
use Rattle.std.specs.Prelude.{ℕ, suc, ◌+◌, Bool, true, false, if◌then◌else◌, nat_lt, ℤ, pos, negsuc, List, [], ◌∷◌, ◌++◌, map, Option, Some, None, codes}
use Rattle.std.specs.Str.{bytes_eq}
use Rattle.al_source.specs.declared.tokens.Mark as the_mark
use Rattle.al_source.specs.declared.tokens.Mark.TheVariants as m
use Rattle.al_source.specs.declared.tokens.Key as the_key
use Rattle.al_source.specs.declared.tokens.Key.TheVariants as key
use Rattle.al_source.specs.declared.texts.Piece.{Piece}
use Rattle.al_source.specs.declared.tokens.TokenKind.{TokenKind}
use Rattle.al_source.specs.declared.tokens.TokenKind.TheVariants.{Word, Key, Number, Text, Mark, Alter, EndAlter}
use Rattle.al_source.specs.declared.annotations.LoopNote.{LoopNote}
use Rattle.al_source.specs.declared.annotations.NamedRed.{NamedRed}
use Rattle.al_source.specs.declared.source_tree.CType.{CType, fold-CType}
use Rattle.al_source.specs.declared.source_tree.CType.TheOpen.{CType-F}
use Rattle.al_source.specs.declared.source_tree.Field.{Field}
use Rattle.al_source.specs.declared.source_tree.Start.{Start}
use Rattle.al_source.specs.declared.source_tree.Start.TheVariants as start
use Rattle.al_source.specs.declared.source_tree.Expr.{Expr, fold-Expr}
use Rattle.al_source.specs.declared.source_tree.Expr.TheOpen.{Expr-F}
use Rattle.al_source.specs.declared.source_tree.Stmt.{Stmt, fold-Stmt}
use Rattle.al_source.specs.declared.source_tree.StmtKind.{StmtKind, fold-StmtKind}
use Rattle.al_source.specs.declared.source_tree.StmtKind.TheOpen.{Stmt-F, StmtKind-F}
use Rattle.al_source.specs.declared.source_tree.StructDef.{StructDef}
use Rattle.al_source.specs.declared.source_tree.GlobalDef.{GlobalDef}
use Rattle.al_source.specs.declared.source_tree.Func.{Func}
use Rattle.al_source.specs.declared.source_tree.Item.{Item}
use Rattle.al_source.specs.declared.source_tree.Item.TheVariants as item
use Rattle.al_source.specs.declared.source_tree.Program.{Program}
use Rattle.al_grammar.specs.declared.operators.TheConstants.{LEVELS}
use Rattle.al_grammar.specs.Words.{key_text}
use Rattle.al_print.specs.Tables.{unary_mark, binary, update_mark, reduction, policy_word, order_word}

abbrev pub Kinds : Type 0
Kinds = List TokenKind

abbrev pub comma : Bool → Kinds
comma true = Mark m.Comma ∷ []
comma false = []

-- a list with commas between its parts, and one before it where it goes on
abbrev pub listed : Bool → List Kinds → Kinds
listed goes_on [] = []
listed goes_on (x ∷ xs) = comma goes_on ++ x ++ listed true xs

abbrev pub with_commas : List Kinds → Kinds
with_commas = listed false

abbrev pub after_commas : List Kinds → Kinds
after_commas = listed true

-- ---- types and declared names

-- what stands before a name of the type: the base and the stars
abbrev pub front_case : CType-F Kinds → Kinds
front_case CType-F.Int = Key key.Int ∷ []
front_case CType-F.Void = Key key.Void ∷ []
front_case (CType-F.Struct w) = Key key.Struct ∷ Word w ∷ []
front_case (CType-F.Ptr a) = a ++ Mark m.Star ∷ []
front_case (CType-F.Array a n) = a

unfoldable pub type_front : CType → Kinds
type_front = fold-CType Kinds front_case

-- what stands after the name: the dimensions
abbrev pub dimensions_case : CType-F Kinds → Kinds
dimensions_case (CType-F.Ptr a) = a
dimensions_case (CType-F.Array a n) = Mark m.LeftBracket ∷ Number (pos n) ∷ Mark m.RightBracket ∷ a
dimensions_case _ = []

unfoldable pub dimensions : CType → Kinds
dimensions = fold-CType Kinds dimensions_case

abbrev pub declared : CType → List ℕ → Kinds
declared a w = type_front a ++ Word w ∷ dimensions a

abbrev pub size_of : CType → Kinds
size_of a = Key key.Sizeof ∷ Mark m.LeftParen ∷ type_front a ++ Mark m.RightParen ∷ []

-- ---- expressions. A place has a level: from 0 those of the binary operators, the loosest first, then one for operands
-- of unary operators and one for operands of `[`, `.` and `->`.

abbrev pub unary_level : ℕ
unary_level = LEVELS

abbrev pub postfix_level : ℕ
postfix_level = LEVELS + 1

-- the tokens at a place of some level
abbrev pub Placed : Type 0
Placed = ℕ → Kinds

abbrev pub opening : Bool → Kinds
opening true = Mark m.LeftParen ∷ []
opening false = []

abbrev pub closing : Bool → Kinds
closing true = Mark m.RightParen ∷ []
closing false = []

-- with parentheses, or without
abbrev pub grouped : Bool → Kinds → Kinds
grouped needed ks = opening needed ++ ks ++ closing needed

-- A binary operator has its own level at its left and a tighter one at its right.
abbrev pub joined : ℕ × the_mark.Mark → Placed → Placed → Placed
joined op x y level = grouped (nat_lt op.0 level) (x op.0 ++ Mark op.1 ∷ y (suc op.0))

abbrev pub prefixed : the_mark.Mark → Placed → Placed
prefixed mark x level = grouped (nat_lt unary_level level) (Mark mark ∷ x unary_level)

abbrev pub value_of : Placed → Kinds
value_of x = x 0

abbrev pub expression_case : Expr-F Placed → Placed
expression_case (Expr-F.Number v) level = Number v ∷ []
expression_case Expr-F.Null level = Key key.Null ∷ []
expression_case (Expr-F.Var w) level = Word w ∷ []
expression_case (Expr-F.Unary op x) level = prefixed (unary_mark op) x level
expression_case (Expr-F.Binary op x y) level = joined (binary op) x y level
expression_case (Expr-F.And x y) level = joined (1, m.AndAnd) x y level
expression_case (Expr-F.Or x y) level = joined (0, m.OrOr) x y level
expression_case (Expr-F.Index x i) level = x postfix_level ++ Mark m.LeftBracket ∷ i 0 ++ Mark m.RightBracket ∷ []
expression_case (Expr-F.Dot x w) level = x postfix_level ++ Mark m.Dot ∷ Word w ∷ []
expression_case (Expr-F.Arrow x w) level = x postfix_level ++ Mark m.Arrow ∷ Word w ∷ []
expression_case (Expr-F.Deref x) level = prefixed m.Star x level
expression_case (Expr-F.Address x) level = prefixed m.Ampersand x level
expression_case (Expr-F.Call w xs) level =
    Word w ∷ Mark m.LeftParen ∷ with_commas (map value_of xs) ++ Mark m.RightParen ∷ []
expression_case (Expr-F.SizeOf a) level = size_of a
expression_case (Expr-F.Calloc x a) level =
    Key key.Calloc ∷ Mark m.LeftParen ∷ x 0 ++ Mark m.Comma ∷ size_of a ++ Mark m.RightParen ∷ []

unfoldable pub expression : Expr → Placed
expression = fold-Expr Placed expression_case

-- a whole expression
abbrev pub value : Expr → Kinds
value x = expression x 0

abbrev pub values : List Expr → List Kinds
values [] = []
values (x ∷ xs) = value x ∷ values xs

-- a whole expression that may be absent
abbrev pub optional_value : Option Expr → Kinds
optional_value None = []
optional_value (Some x) = value x

abbrev pub initializer : Option Expr → Kinds
initializer None = []
initializer (Some x) = Mark m.Assign ∷ value x

-- ---- annotations

abbrev pub reduced : NamedRed → Kinds
reduced r =
    Word (codes "reduce") ∷ Mark m.LeftParen ∷ reduction r.op ∷ Mark m.Colon ∷ Word r.name ∷ Mark m.RightParen ∷ []

abbrev pub all_reduced : List NamedRed → Kinds
all_reduced [] = []
all_reduced (r ∷ rs) = reduced r ++ all_reduced rs

abbrev pub note : LoopNote → Kinds
note n = Alter ∷ policy_word n.policy ∷ order_word n.order ∷ all_reduced n.reduce ++ EndAlter ∷ []

abbrev pub optional_note : Option LoopNote → Kinds
optional_note None = []
optional_note (Some n) = note n

-- ---- statements

-- The tokens of a statement that stands alone, or in the head of a `for`, where it has no `;`.
abbrev pub Standing : Type 0
Standing = Bool → Kinds

abbrev pub end : Bool → Kinds
end true = Mark m.Semicolon ∷ []
end false = []

abbrev pub alone : List Standing → Kinds
alone [] = []
alone (x ∷ xs) = x true ++ alone xs

abbrev pub part : Option Standing → Kinds
part None = []
part (Some x) = x false

abbrev pub otherwise : Option Standing → Kinds
otherwise None = []
otherwise (Some x) = Key key.Else ∷ x true

abbrev pub condition : the_key.Key → Expr → Kinds
condition k c = Key k ∷ Mark m.LeftParen ∷ value c ++ Mark m.RightParen ∷ []

-- the head of a `for`
abbrev pub head : Kinds → Option Expr → Kinds → Kinds
head first test third =
    Key key.For ∷ Mark m.LeftParen ∷ first
    ++ Mark m.Semicolon ∷ optional_value test
    ++ Mark m.Semicolon ∷ third
    ++ Mark m.RightParen ∷ []

abbrev pub declaration : CType → List ℕ → Option Expr → Standing
declaration a w x stands = declared a w ++ initializer x ++ end stands

abbrev pub assignment : Expr → the_mark.Mark → Expr → Standing
assignment x mark y stands = expression x unary_level ++ Mark mark ∷ value y ++ end stands

-- the called name of a statement: `free` is a reserved word, and any other a name
abbrev pub callee : List ℕ → TokenKind
callee w = if bytes_eq w (key_text key.Free) then Key key.Free else Word w

abbrev pub call : List ℕ → List Expr → Standing
call w xs stands = callee w ∷ Mark m.LeftParen ∷ with_commas (values xs) ++ Mark m.RightParen ∷ end stands

abbrev pub print : List Piece → List Expr → Standing
print f xs stands =
    Key key.Printf ∷ Mark m.LeftParen ∷ Text f ∷ after_commas (values xs) ++ Mark m.RightParen ∷ end stands

abbrev pub jump : the_key.Key → Option Expr → Standing
jump k x stands = Key k ∷ optional_value x ++ end stands

abbrev pub kind_case : StmtKind-F Standing Standing → Standing
kind_case StmtKind-F.Empty stands = end stands
kind_case (StmtKind-F.Declare a w x) stands = declaration a w x stands
kind_case (StmtKind-F.Assign x y) stands = assignment x m.Assign y stands
kind_case (StmtKind-F.Update op x y) stands = assignment x (update_mark op) y stands
kind_case (StmtKind-F.Call w xs) stands = call w xs stands
kind_case (StmtKind-F.Print f xs) stands = print f xs stands
kind_case (StmtKind-F.If c x y) stands = condition key.If c ++ x true ++ otherwise y
kind_case (StmtKind-F.While c x) stands = condition key.While c ++ x true
kind_case (StmtKind-F.For first test third x n) stands =
    optional_note n ++ head (part first) test (part third) ++ x true
kind_case (StmtKind-F.Block ss) stands = Mark m.LeftBrace ∷ alone ss ++ Mark m.RightBrace ∷ []
kind_case (StmtKind-F.Return x) stands = jump key.Return x stands
kind_case StmtKind-F.Break stands = jump key.Break None stands
kind_case StmtKind-F.Continue stands = jump key.Continue None stands

abbrev pub statement_case : Stmt-F Standing Standing → Standing
statement_case s = s.kind

unfoldable pub statement : Stmt → Standing
statement = fold-Stmt Standing Standing kind_case statement_case

unfoldable pub statement_kind : StmtKind → Standing
statement_kind = fold-StmtKind Standing Standing kind_case statement_case

abbrev pub statements : List Stmt → Kinds
statements [] = []
statements (s ∷ ss) = statement s true ++ statements ss

abbrev pub part_of : Option Stmt → Kinds
part_of None = []
part_of (Some s) = statement s false

abbrev pub otherwise_of : Option Stmt → Kinds
otherwise_of None = []
otherwise_of (Some s) = Key key.Else ∷ statement s true

-- ---- items

abbrev pub signed : ℤ → Kinds
signed (pos n) = Number (pos n) ∷ []
signed (negsuc n) = Mark m.Minus ∷ Number (pos (suc n)) ∷ []

abbrev pub start_value : Start → Kinds
start_value start.Zero = []
start_value (start.Number v) = Mark m.Assign ∷ signed v
start_value start.Null = Mark m.Assign ∷ Key key.Null ∷ []

abbrev pub field : Field → Kinds
field f = declared f.ty f.name ++ Mark m.Semicolon ∷ []

abbrev pub fields : List Field → Kinds
fields [] = []
fields (f ∷ fs) = field f ++ fields fs

abbrev pub parameter : Field → Kinds
parameter f = declared f.ty f.name

abbrev pub more_parameters : List Field → Kinds
more_parameters [] = []
more_parameters (f ∷ fs) = Mark m.Comma ∷ parameter f ++ more_parameters fs

abbrev pub parameters : List Field → Kinds
parameters [] = Key key.Void ∷ []
parameters (f ∷ fs) = parameter f ++ more_parameters fs

abbrev pub structure : StructDef → Kinds
structure s =
    Key key.Struct ∷ Word s.name ∷ Mark m.LeftBrace ∷ fields s.fields ++ Mark m.RightBrace ∷ Mark m.Semicolon ∷ []

abbrev pub global : GlobalDef → Kinds
global g = declared g.ty g.name ++ start_value g.start ++ Mark m.Semicolon ∷ []

abbrev pub signature : Func → Kinds
signature f = type_front f.result ++ Word f.name ∷ Mark m.LeftParen ∷ parameters f.params ++ Mark m.RightParen ∷ []

abbrev pub function : Func → Kinds
function f = signature f ++ Mark m.LeftBrace ∷ statements f.body ++ Mark m.RightBrace ∷ []

abbrev pub item_tokens : Item → Kinds
item_tokens (item.Struct s) = structure s
item_tokens (item.Global g) = global g
item_tokens (item.Func f) = function f

abbrev pub items_tokens : List Item → Kinds
items_tokens [] = []
items_tokens (i ∷ is) = item_tokens i ++ items_tokens is

abbrev pub tokens_of : Program → Kinds
tokens_of p = items_tokens p.items
