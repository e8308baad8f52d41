-- The tokens of each kind of node.
use Rattle.std.proofs.Common.{◌≡◌, ℕ, Bool, true, List, [], ◌∷◌, ◌++◌, map, Option, Some, None, refl, sym, ap, ◌∙◌}
use Rattle.std.specs.Prelude.{ℤ, pos}
use Rattle.std.proofs.lemmas.Grind.{fold-append}
use Rattle.al_source.specs.declared.texts.Piece.{Piece}
use Rattle.al_source.specs.declared.operators.UnOp.{UnOp}
use Rattle.al_source.specs.declared.operators.BinOp.{BinOp}
use Rattle.al_source.specs.declared.annotations.LoopNote.{LoopNote}
use Rattle.al_source.specs.declared.tokens.Mark.TheVariants as m
use Rattle.al_source.specs.declared.tokens.Key.TheVariants as key
use Rattle.al_source.specs.declared.tokens.TokenKind.TheVariants.{Word, Key, Number, Mark}
use Rattle.al_source.specs.declared.source_tree.CType.{CType, roll-CType, map-CType, fold-CType, fold-roll-CType}
use Rattle.al_source.specs.declared.source_tree.CType.TheOpen.{CType-F}
use Rattle.al_source.specs.declared.source_tree.CType.TheVariants as type
use Rattle.al_source.specs.declared.source_tree.Expr.{Expr, roll-Expr, map-Expr, fold-Expr, fold-roll-Expr}
use Rattle.al_source.specs.declared.source_tree.Expr.TheOpen.{Expr-F}
use Rattle.al_source.specs.declared.source_tree.Expr.TheVariants as e
use Rattle.al_source.specs.declared.source_tree.Stmt.{Stmt, fold_out-Stmt}
use Rattle.al_source.specs.declared.source_tree.StmtKind.{StmtKind, map-StmtKind, fold-StmtKind, fold-roll-StmtKind}
use Rattle.al_source.specs.declared.source_tree.StmtKind.TheViews.{roll-StmtKind}
use Rattle.al_source.specs.declared.source_tree.StmtKind.TheOpen.{StmtKind-F}
use Rattle.al_source.specs.declared.source_tree.StmtKind.TheVariants as k
use Rattle.al_print.specs.Tables.{unary_mark, binary, update_mark}
use Rattle.al_print.specs.Tokens.{Kinds, Placed, Standing, front_case, type_front, dimensions_case, dimensions, size_of, value_of, with_commas, joined, prefixed, postfix_level, expression_case, expression, value, values, optional_note, end, alone, condition, head, declaration, assignment, call, print, jump, kind_case, statement_case, statement, statement_kind, statements, part_of, otherwise_of}

-- ---- types

front_of : (x : CType-F CType) (d : CType) → roll-CType x ≡ d → type_front d ≡ front_case (map-CType CType Kinds type_front x)
unfolding type_front
front_of x d is = ap (λ d. fold-CType Kinds front_case d) (sym is) ∙ fold-roll-CType Kinds front_case x

pub front-Int : type_front type.Int ≡ Key key.Int ∷ []
front-Int = front_of CType-F.Int _ type.rolls-Int

pub front-Void : type_front type.Void ≡ Key key.Void ∷ []
front-Void = front_of CType-F.Void _ type.rolls-Void

pub front-Struct : (w : List ℕ) → type_front (type.Struct w) ≡ Key key.Struct ∷ Word w ∷ []
front-Struct w = front_of (CType-F.Struct w) _ (type.rolls-Struct w)

pub front-Ptr : (a : CType) → type_front (type.Ptr a) ≡ type_front a ++ Mark m.Star ∷ []
front-Ptr a = front_of (CType-F.Ptr a) _ (type.rolls-Ptr a)

pub front-Array : (a : CType) (n : ℕ) → type_front (type.Array a n) ≡ type_front a
front-Array a n = front_of (CType-F.Array a n) _ (type.rolls-Array a n)

pub ruleset type_fronts = (fold-append, front-Int, front-Void, front-Struct, front-Ptr, front-Array)

dimensions_of : (x : CType-F CType) (d : CType) → roll-CType x ≡ d → dimensions d ≡ dimensions_case (map-CType CType Kinds dimensions x)
unfolding dimensions
dimensions_of x d is = ap (λ d. fold-CType Kinds dimensions_case d) (sym is) ∙ fold-roll-CType Kinds dimensions_case x

pub dimensions-Int : dimensions type.Int ≡ []
dimensions-Int = dimensions_of CType-F.Int _ type.rolls-Int

pub dimensions-Void : dimensions type.Void ≡ []
dimensions-Void = dimensions_of CType-F.Void _ type.rolls-Void

pub dimensions-Struct : (w : List ℕ) → dimensions (type.Struct w) ≡ []
dimensions-Struct w = dimensions_of (CType-F.Struct w) _ (type.rolls-Struct w)

pub dimensions-Ptr : (a : CType) → dimensions (type.Ptr a) ≡ dimensions a
dimensions-Ptr a = dimensions_of (CType-F.Ptr a) _ (type.rolls-Ptr a)

pub dimensions-Array : (a : CType) (n : ℕ) → dimensions (type.Array a n) ≡ Mark m.LeftBracket ∷ Number (pos n) ∷ Mark m.RightBracket ∷ dimensions a
dimensions-Array a n = dimensions_of (CType-F.Array a n) _ (type.rolls-Array a n)

pub ruleset all_dimensions = (fold-append, dimensions-Int, dimensions-Void, dimensions-Struct, dimensions-Ptr, dimensions-Array)

-- ---- expressions

expression_of : (x : Expr-F Expr) (d : Expr) → roll-Expr x ≡ d → expression d ≡ expression_case (map-Expr Expr Placed expression x)
unfolding expression
expression_of x d is = ap (λ d. fold-Expr Placed expression_case d) (sym is) ∙ fold-roll-Expr Placed expression_case x

values_of : (xs : List Expr) → map value_of (map expression xs) ≡ values xs
values_of [] = refl
values_of (x ∷ xs) = ap (λ ys. value x ∷ ys) (values_of xs)

pub tokens-Number : (v : ℤ) (l : ℕ) → expression (e.Number v) l ≡ Number v ∷ []
tokens-Number v l = ap (λ f. f l) (expression_of (Expr-F.Number v) _ (e.rolls-Number v))

pub tokens-Null : (l : ℕ) → expression e.Null l ≡ Key key.Null ∷ []
tokens-Null l = ap (λ f. f l) (expression_of Expr-F.Null _ e.rolls-Null)

pub tokens-Var : (w : List ℕ) (l : ℕ) → expression (e.Var w) l ≡ Word w ∷ []
tokens-Var w l = ap (λ f. f l) (expression_of (Expr-F.Var w) _ (e.rolls-Var w))

pub tokens-Unary : (op : UnOp) (x : Expr) (l : ℕ) → expression (e.Unary op x) l ≡ prefixed (unary_mark op) (expression x) l
tokens-Unary op x l = ap (λ f. f l) (expression_of (Expr-F.Unary op x) _ (e.rolls-Unary op x))

pub tokens-Binary : (op : BinOp) (x y : Expr) (l : ℕ) → expression (e.Binary op x y) l ≡ joined (binary op) (expression x) (expression y) l
tokens-Binary op x y l = ap (λ f. f l) (expression_of (Expr-F.Binary op x y) _ (e.rolls-Binary op x y))

pub tokens-And : (x y : Expr) (l : ℕ) → expression (e.And x y) l ≡ joined (1, m.AndAnd) (expression x) (expression y) l
tokens-And x y l = ap (λ f. f l) (expression_of (Expr-F.And x y) _ (e.rolls-And x y))

pub tokens-Or : (x y : Expr) (l : ℕ) → expression (e.Or x y) l ≡ joined (0, m.OrOr) (expression x) (expression y) l
tokens-Or x y l = ap (λ f. f l) (expression_of (Expr-F.Or x y) _ (e.rolls-Or x y))

pub tokens-Index : (x y : Expr) (l : ℕ) → expression (e.Index x y) l ≡ expression x postfix_level ++ Mark m.LeftBracket ∷ value y ++ Mark m.RightBracket ∷ []
tokens-Index x y l = ap (λ f. f l) (expression_of (Expr-F.Index x y) _ (e.rolls-Index x y))

pub tokens-Dot : (x : Expr) (w : List ℕ) (l : ℕ) → expression (e.Dot x w) l ≡ expression x postfix_level ++ Mark m.Dot ∷ Word w ∷ []
tokens-Dot x w l = ap (λ f. f l) (expression_of (Expr-F.Dot x w) _ (e.rolls-Dot x w))

pub tokens-Arrow : (x : Expr) (w : List ℕ) (l : ℕ) → expression (e.Arrow x w) l ≡ expression x postfix_level ++ Mark m.Arrow ∷ Word w ∷ []
tokens-Arrow x w l = ap (λ f. f l) (expression_of (Expr-F.Arrow x w) _ (e.rolls-Arrow x w))

pub tokens-Deref : (x : Expr) (l : ℕ) → expression (e.Deref x) l ≡ prefixed m.Star (expression x) l
tokens-Deref x l = ap (λ f. f l) (expression_of (Expr-F.Deref x) _ (e.rolls-Deref x))

pub tokens-Address : (x : Expr) (l : ℕ) → expression (e.Address x) l ≡ prefixed m.Ampersand (expression x) l
tokens-Address x l = ap (λ f. f l) (expression_of (Expr-F.Address x) _ (e.rolls-Address x))

pub tokens-SizeOf : (a : CType) (l : ℕ) → expression (e.SizeOf a) l ≡ size_of a
tokens-SizeOf a l = ap (λ f. f l) (expression_of (Expr-F.SizeOf a) _ (e.rolls-SizeOf a))

pub tokens-Calloc : (x : Expr) (a : CType) (l : ℕ)
    → expression (e.Calloc x a) l ≡ Key key.Calloc ∷ Mark m.LeftParen ∷ value x ++ Mark m.Comma ∷ size_of a ++ Mark m.RightParen ∷ []
tokens-Calloc x a l = ap (λ f. f l) (expression_of (Expr-F.Calloc x a) _ (e.rolls-Calloc x a))

pub tokens-Call : (w : List ℕ) (xs : List Expr) (l : ℕ)
    → expression (e.Call w xs) l ≡ Word w ∷ Mark m.LeftParen ∷ with_commas (values xs) ++ Mark m.RightParen ∷ []
tokens-Call w xs l =
    ap (λ f. f l) (expression_of (Expr-F.Call w xs) _ (e.rolls-Call w xs))
    ∙ ap (λ ks. Word w ∷ Mark m.LeftParen ∷ with_commas ks ++ Mark m.RightParen ∷ []) (values_of xs)

pub ruleset all_expressions = (
  fold-append,
  tokens-Number,
  tokens-Null,
  tokens-Var,
  tokens-Unary,
  tokens-Binary,
  tokens-And,
  tokens-Or,
  tokens-Index,
  tokens-Dot,
  tokens-Arrow,
  tokens-Deref,
  tokens-Address,
  tokens-SizeOf,
  tokens-Calloc,
  tokens-Call,
)

-- ---- statements

kind_of : (x : StmtKind-F StmtKind Stmt) (d : StmtKind)
    → roll-StmtKind x ≡ d → statement_kind d ≡ kind_case (map-StmtKind StmtKind Stmt Standing Standing statement_kind statement x)
unfolding statement_kind statement
kind_of x d is = ap (λ d. fold-StmtKind Standing Standing kind_case statement_case d) (sym is) ∙ fold-roll-StmtKind Standing Standing kind_case statement_case x

statements_of : (ss : List Stmt) → alone (map statement ss) ≡ statements ss
statements_of [] = refl
statements_of (s ∷ ss) = ap (λ ks. statement s true ++ ks) (statements_of ss)

pub kind-Empty : (b : Bool) → statement_kind k.Empty b ≡ end b
kind-Empty b = ap (λ f. f b) (kind_of StmtKind-F.Empty _ k.rolls-Empty)

pub kind-Declare : (a : CType) (w : List ℕ) (x : Option Expr) (b : Bool) → statement_kind (k.Declare a w x) b ≡ declaration a w x b
kind-Declare a w x b = ap (λ f. f b) (kind_of (StmtKind-F.Declare a w x) _ (k.rolls-Declare a w x))

pub kind-Assign : (x y : Expr) (b : Bool) → statement_kind (k.Assign x y) b ≡ assignment x m.Assign y b
kind-Assign x y b = ap (λ f. f b) (kind_of (StmtKind-F.Assign x y) _ (k.rolls-Assign x y))

pub kind-Update : (op : BinOp) (x y : Expr) (b : Bool) → statement_kind (k.Update op x y) b ≡ assignment x (update_mark op) y b
kind-Update op x y b = ap (λ f. f b) (kind_of (StmtKind-F.Update op x y) _ (k.rolls-Update op x y))

pub kind-Call : (w : List ℕ) (xs : List Expr) (b : Bool) → statement_kind (k.Call w xs) b ≡ call w xs b
kind-Call w xs b = ap (λ f. f b) (kind_of (StmtKind-F.Call w xs) _ (k.rolls-Call w xs))

pub kind-Print : (f : List Piece) (xs : List Expr) (b : Bool) → statement_kind (k.Print f xs) b ≡ print f xs b
kind-Print f xs b = ap (λ f. f b) (kind_of (StmtKind-F.Print f xs) _ (k.rolls-Print f xs))

pub kind-While : (c : Expr) (x : Stmt) (b : Bool) → statement_kind (k.While c x) b ≡ condition key.While c ++ statement x true
kind-While c x b = ap (λ f. f b) (kind_of (StmtKind-F.While c x) _ (k.rolls-While c x))

pub kind-Return : (x : Option Expr) (b : Bool) → statement_kind (k.Return x) b ≡ jump key.Return x b
kind-Return x b = ap (λ f. f b) (kind_of (StmtKind-F.Return x) _ (k.rolls-Return x))

pub kind-Break : (b : Bool) → statement_kind k.Break b ≡ jump key.Break None b
kind-Break b = ap (λ f. f b) (kind_of StmtKind-F.Break _ k.rolls-Break)

pub kind-Continue : (b : Bool) → statement_kind k.Continue b ≡ jump key.Continue None b
kind-Continue b = ap (λ f. f b) (kind_of StmtKind-F.Continue _ k.rolls-Continue)

pub kind-If : (c : Expr) (x : Stmt) (y : Option Stmt) (b : Bool) → statement_kind (k.If c x y) b ≡ condition key.If c ++ statement x true ++ otherwise_of y
kind-If c x None b = ap (λ f. f b) (kind_of (StmtKind-F.If c x None) _ (k.rolls-If c x None))
kind-If c x (Some y) b = ap (λ f. f b) (kind_of (StmtKind-F.If c x (Some y)) _ (k.rolls-If c x (Some y)))

pub kind-For : (first : Option Stmt) (test : Option Expr) (third : Option Stmt) (x : Stmt) (n : Option LoopNote) (b : Bool)
    → statement_kind (k.For first test third x n) b ≡ optional_note n ++ head (part_of first) test (part_of third) ++ statement x true
kind-For None test None x n b = ap (λ f. f b) (kind_of (StmtKind-F.For None test None x n) _ (k.rolls-For None test None x n))
kind-For None test (Some c) x n b = ap (λ f. f b) (kind_of (StmtKind-F.For None test (Some c) x n) _ (k.rolls-For None test (Some c) x n))
kind-For (Some a) test None x n b = ap (λ f. f b) (kind_of (StmtKind-F.For (Some a) test None x n) _ (k.rolls-For (Some a) test None x n))
kind-For (Some a) test (Some c) x n b = ap (λ f. f b) (kind_of (StmtKind-F.For (Some a) test (Some c) x n) _ (k.rolls-For (Some a) test (Some c) x n))

pub kind-Block : (ss : List Stmt) (b : Bool) → statement_kind (k.Block ss) b ≡ Mark m.LeftBrace ∷ statements ss ++ Mark m.RightBrace ∷ []
kind-Block ss b =
    ap (λ f. f b) (kind_of (StmtKind-F.Block ss) _ (k.rolls-Block ss)) ∙ ap (λ ks. Mark m.LeftBrace ∷ ks ++ Mark m.RightBrace ∷ []) (statements_of ss)

pub ruleset all_kinds = (
  fold-append,
  kind-Empty,
  kind-Declare,
  kind-Assign,
  kind-Update,
  kind-Call,
  kind-Print,
  kind-If,
  kind-While,
  kind-For,
  kind-Block,
  kind-Return,
  kind-Break,
  kind-Continue,
)

pub statement_is : (s : Stmt) (b : Bool) → statement s b ≡ statement_kind s.kind b
unfolding statement_kind statement
statement_is s b = ap (λ f. f b) (fold_out-Stmt Standing Standing kind_case statement_case s)
