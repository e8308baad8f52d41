-- The parser of items and of programs, as a function on lists.
use Rattle.std.specs.Prelude.{ℕ, pos, neg_ℤ, Bool, true, false, List, [], ◌∷◌, ◌++◌, Option, Some, Ok}
use Rattle.al_source.specs.declared.tokens.TokenKind.{TokenKind}
use Rattle.al_source.specs.declared.tokens.TokenKind.TheVariants.{Number, Key, Mark}
use Rattle.al_source.specs.declared.tokens.Mark as the_mark
use Rattle.al_source.specs.declared.tokens.Mark.TheVariants as m
use Rattle.al_source.specs.declared.tokens.Key as the_key
use Rattle.al_source.specs.declared.tokens.Key.TheVariants as key
use Rattle.al_source.specs.declared.source_tree.CType.{CType}
use Rattle.al_source.specs.declared.source_tree.CType.TheVariants as type
use Rattle.al_source.specs.declared.source_tree.Field.{Field}
use Rattle.al_source.specs.declared.source_tree.Start.{Start}
use Rattle.al_source.specs.declared.source_tree.Start.TheVariants as start
use Rattle.al_source.specs.declared.source_tree.Stmt.{Stmt}
use Rattle.al_source.specs.declared.source_tree.Item.{Item}
use Rattle.al_source.specs.declared.source_tree.Item.TheVariants as item
use Rattle.al_grammar.specs.Phrases.{Name, line_at}
use Rattle.al_source.specs.declared.limits.TheConstants.{DECLARATOR_DIMENSIONS, STATEMENT_NESTING}
use Rattle.al_source.specs.Steps.{bind, pure}
use Rattle.al_grammar.specs.Programs.{global}
use Rattle.al_grammar.specs.Steps.{Step, ◌>>=◌, ◌>>◌, refuse, skip, kind_at, mark_at, key_at, is_mark, expect, word, after_turn, repeat}
use Rattle.al_grammar.specs.TypeParser.{base, named, dimensions, declarator}
use Rattle.al_grammar.specs.StatementParser.{braced, statement}

-- ---- structs

abbrev pub field_by : List Field → Option the_mark.Mark → Step (List Field × Bool)
field_by fs (Some m.Comma) = skip >> pure (fs, false)
field_by fs (Some m.Semicolon) = skip >> pure (fs, true)
field_by fs _ = refuse

-- one name of a field line, with the mark behind it
abbrev pub field_name : CType → List Field → Step (List Field × Bool)
field_name a fs = declarator a >>= λ f. λ ts. field_by (fs ++ f ∷ []) (mark_at ts) ts

abbrev pub field_line : List Field → Step (List Field)
field_line fs = base >>= λ a. repeat (field_name a) fs

-- one field line, and whether a `}` comes next
abbrev pub field_turn : List Field → Step (List Field × Bool)
field_turn fs = field_line fs >>= λ all. λ ts. pure (all, is_mark m.RightBrace ts) ts

-- from the `{` to the `;`
abbrev pub struct_body : Step (List Field)
struct_body =
    expect m.LeftBrace >> repeat field_turn [] >>= λ fs.
    expect m.RightBrace >> expect m.Semicolon >> pure fs

-- ---- globals

abbrev pub negative_by : Option TokenKind → Step Start
negative_by (Some (Number (pos n))) = skip >> pure (start.Number (neg_ℤ (pos n)))
negative_by _ = refuse

abbrev pub start_value_by : Option TokenKind → Step Start
start_value_by (Some (Number v)) = skip >> pure (start.Number v)
start_value_by (Some (Mark m.Minus)) = skip >> (λ ts. negative_by (kind_at ts) ts)
start_value_by (Some (Key key.Null)) = skip >> pure start.Null
start_value_by _ = refuse

abbrev pub start_by : Bool → Step Start
start_by true = skip >> (λ ts. start_value_by (kind_at ts) ts)
start_by false = pure start.Zero

abbrev pub starts : Step Start
starts = λ ts. start_by (is_mark m.Assign ts) ts

abbrev pub global_by : List Item → Option the_mark.Mark → Step (List Item × Bool)
global_by is (Some m.Comma) = skip >> pure (is, false)
global_by is (Some m.Semicolon) = skip >> pure (is, true)
global_by is _ = refuse

-- one declared name, with the mark behind it
abbrev pub global_name : ℕ → CType → List Item → Step (List Item × Bool)
global_name line a is =
    declarator a >>= λ f.
    starts >>= λ s.
    λ ts. global_by (is ++ global line f s ∷ []) (mark_at ts) ts

-- after the first declared name
abbrev pub first_global : ℕ → Field → List Item → Step (List Item × Bool)
first_global line f is =
    dimensions DECLARATOR_DIMENSIONS f.ty >>= λ a.
    starts >>= λ s.
    λ ts. global_by (is ++ global line (record { name = f.name; ty = a }) s ∷ []) (mark_at ts) ts

-- ---- functions

abbrev pub param : Step Field
param = base >>= named

abbrev pub param_by : List Field → Option the_mark.Mark → Step (List Field × Bool)
param_by fs (Some m.Comma) = skip >> pure (fs, false)
param_by fs (Some m.RightParen) = skip >> pure (fs, true)
param_by fs _ = refuse

abbrev pub param_turn : List Field → Step (List Field × Bool)
param_turn fs = param >>= λ f. λ ts. param_by (fs ++ f ∷ []) (mark_at ts) ts

abbrev pub params_by : Option TokenKind → Step (List Field)
params_by (Some (Mark m.RightParen)) = skip >> pure []
params_by (Some (Key key.Void)) = skip >> expect m.RightParen >> pure []
params_by _ = repeat param_turn []

abbrev pub params : Step (List Field)
params = λ ts. params_by (kind_at ts) ts

abbrev pub body : Step (List Stmt)
body = expect m.LeftBrace >> braced STATEMENT_NESTING (statement STATEMENT_NESTING)

-- after the name, which has the result's type
abbrev pub function : ℕ → Field → Step Item
function line f =
    expect m.LeftParen >> params >>= λ fs.
    body >>= λ ss.
    pure (item.Func (record { name = f.name; result = f.ty; params = fs; body = ss; line = line }))

-- ---- programs

-- whether a function has the name
abbrev pub declared_by : ℕ → CType → Field → List Item → Bool → Step (List Item)
declared_by line a f is true = function line f >>= λ i. pure (is ++ i ∷ [])
declared_by line a f is false =
    λ ts. bind (first_global line f is ts) (λ r. after_turn (repeat (global_name line a)) r.0 r.1)

-- after the base, of this line
abbrev pub declared : ℕ → CType → List Item → Step (List Item)
declared line a is = named a >>= λ f. λ ts. declared_by line a f is (is_mark m.LeftParen ts) ts

-- whether the struct of this name is defined
abbrev pub struct_by : ℕ → Name → List Item → Bool → Step (List Item)
struct_by line w is true =
    struct_body >>= λ fs. pure (is ++ item.Struct (record { name = w; fields = fs; line = line }) ∷ [])
struct_by line w is false = declared line (type.Struct w) is

abbrev pub item_by : ℕ → List Item → Option the_key.Key → Step (List Item)
item_by line is (Some key.Struct) = skip >> word >>= λ w. λ ts. struct_by line w is (is_mark m.LeftBrace ts) ts
item_by line is (Some key.Void) = skip >> named type.Void >>= λ f. function line f >>= λ i. pure (is ++ i ∷ [])
item_by line is _ = base >>= λ a. declared line a is

-- an item, behind those that were read before
abbrev pub items_step : List Item → Step (List Item)
items_step is = λ ts. item_by (line_at ts) is (key_at ts) ts

abbrev pub item_turn : List Item → Step (List Item × Bool)
item_turn is [] = Ok ((is, true), [])
item_turn is (t ∷ ts) = bind (items_step is (t ∷ ts)) (λ all. pure (all, false))

abbrev pub all_items : Step (List Item)
all_items = repeat item_turn []
