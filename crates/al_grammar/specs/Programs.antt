-- The grammar of items and of programs.
use Rattle.std.specs.Prelude.{ℕ, pos, neg_ℤ, ℤ, List, [], ◌∷◌, ◌++◌}
use Rattle.al_source.specs.declared.tokens.TokenKind.TheVariants.{Word, Number, Key, Mark}
use Rattle.al_source.specs.declared.tokens.Mark.TheVariants as m
use Rattle.al_source.specs.declared.tokens.Key.TheVariants as key
use Rattle.al_source.specs.declared.source_tree.CType.{CType}
use Rattle.al_source.specs.declared.source_tree.CType.TheVariants as type
use Rattle.al_source.specs.declared.source_tree.Field.{Field}
use Rattle.al_source.specs.declared.source_tree.Start.{Start}
use Rattle.al_source.specs.declared.source_tree.Start.TheVariants as start
use Rattle.al_source.specs.declared.source_tree.Stmt.{Stmt}
use Rattle.al_source.specs.declared.source_tree.Item.{Item}
use Rattle.al_source.specs.declared.source_tree.Item.TheVariants as item
use Rattle.al_source.specs.declared.source_tree.Program.{Program}
use Rattle.al_grammar.specs.Phrases.{Tokens, Name, Takes, line_at}
use Rattle.al_source.specs.declared.limits.TheConstants.{DECLARATOR_STARS, STATEMENT_NESTING}
use Rattle.al_grammar.specs.Types.{Base, Stars, Declarator}
use Rattle.al_grammar.specs.Statements.{Inners}

-- ---- structs

-- the names of one field line, to its `;`
pub data FieldNames (a : CType) : Tokens → List Field → Tokens → Type 0 where
  last : {ts us vs : Tokens} {f : Field}
      → Declarator a ts f us → Takes (Mark m.Semicolon) us vs → FieldNames a ts (f ∷ []) vs
  more : {ts us vs ws : Tokens} {f : Field} {fs : List Field}
      → Declarator a ts f us → Takes (Mark m.Comma) us vs → FieldNames a vs fs ws → FieldNames a ts (f ∷ fs) ws

-- at least one field line
pub data Fields : Tokens → List Field → Tokens → Type 0 where
  last : {ts us vs : Tokens} {a : CType} {fs : List Field} → Base ts a us → FieldNames a us fs vs → Fields ts fs vs
  more : {ts us vs ws : Tokens} {a : CType} {fs gs : List Field}
      → Base ts a us → FieldNames a us fs vs → Fields vs gs ws → Fields ts (fs ++ gs) ws

-- ---- globals

-- gdecl: what is behind the declared name. The number of a token is not negative.
pub data Starts : Tokens → Start → Tokens → Type 0 where
  nothing : {ts : Tokens} → Starts ts start.Zero ts
  number : {ts us vs : Tokens} {v : ℤ}
      → Takes (Mark m.Assign) ts us → Takes (Number v) us vs → Starts ts (start.Number v) vs
  negative : {ts us vs ws : Tokens} {n : ℕ}
      → Takes (Mark m.Assign) ts us → Takes (Mark m.Minus) us vs → Takes (Number (pos n)) vs ws
      → Starts ts (start.Number (neg_ℤ (pos n))) ws
  null : {ts us vs : Tokens} → Takes (Mark m.Assign) ts us → Takes (Key key.Null) us vs → Starts ts start.Null vs

-- the global of this line
abbrev pub global : ℕ → Field → Start → Item
global line f s = item.Global (record { name = f.name; ty = f.ty; start = s; line = line })

-- the declared names, to the `;`: a global for each, of one line
pub data Globals (line : ℕ) (a : CType) : Tokens → List Item → Tokens → Type 0 where
  last : {ts us vs ws : Tokens} {f : Field} {s : Start}
      → Declarator a ts f us → Starts us s vs → Takes (Mark m.Semicolon) vs ws
      → Globals line a ts (global line f s ∷ []) ws
  more : {ts us vs ws zs : Tokens} {f : Field} {s : Start} {is : List Item}
      → Declarator a ts f us → Starts us s vs → Takes (Mark m.Comma) vs ws → Globals line a ws is zs
      → Globals line a ts (global line f s ∷ is) zs

-- ---- functions

-- what a function may give, without the stars
pub data ResultBase : Tokens → CType → Tokens → Type 0 where
  base : {ts us : Tokens} {a : CType} → Base ts a us → ResultBase ts a us
  void : {ts us : Tokens} → Takes (Key key.Void) ts us → ResultBase ts type.Void us

pub data Param : Tokens → Field → Tokens → Type 0 where
  param : {ts us vs ws : Tokens} {a b : CType} {w : Name}
      → Base ts a us → Stars DECLARATOR_STARS a us b vs → Takes (Word w) vs ws
      → Param ts (record { name = w; ty = b }) ws

-- at least one parameter, to the `)`
pub data ParamList : Tokens → List Field → Tokens → Type 0 where
  last : {ts us vs : Tokens} {f : Field} → Param ts f us → Takes (Mark m.RightParen) us vs → ParamList ts (f ∷ []) vs
  more : {ts us vs ws : Tokens} {f : Field} {fs : List Field}
      → Param ts f us → Takes (Mark m.Comma) us vs → ParamList vs fs ws → ParamList ts (f ∷ fs) ws

-- params: after the `(`, to the `)`
pub data Params : Tokens → List Field → Tokens → Type 0 where
  none : {ts us : Tokens} → Takes (Mark m.RightParen) ts us → Params ts [] us
  void : {ts us vs : Tokens} → Takes (Key key.Void) ts us → Takes (Mark m.RightParen) us vs → Params ts [] vs
  some : {ts us : Tokens} {fs : List Field} → ParamList ts fs us → Params ts fs us

-- ---- programs

-- One item, or a global for each name that is declared. Each has the line of the first token.
pub data Items : Tokens → List Item → Tokens → Type 0 where
  structure : {t₀ t₁ t₂ t₃ t₄ t₅ t₆ : Tokens} {w : Name} {fs : List Field}
      → Takes (Key key.Struct) t₀ t₁ → Takes (Word w) t₁ t₂ → Takes (Mark m.LeftBrace) t₂ t₃ → Fields t₃ fs t₄
      → Takes (Mark m.RightBrace) t₄ t₅ → Takes (Mark m.Semicolon) t₅ t₆
      → Items t₀ (item.Struct (record { name = w; fields = fs; line = line_at t₀ }) ∷ []) t₆
  globals : {ts us vs : Tokens} {a : CType} {is : List Item}
      → Base ts a us → Globals (line_at ts) a us is vs → Items ts is vs
  function : {t₀ t₁ t₂ t₃ t₄ t₅ t₆ t₇ t₈ : Tokens} {a b : CType} {w : Name} {fs : List Field} {ss : List Stmt}
      → ResultBase t₀ a t₁ → Stars DECLARATOR_STARS a t₁ b t₂ → Takes (Word w) t₂ t₃ → Takes (Mark m.LeftParen) t₃ t₄
      → Params t₄ fs t₅
      → Takes (Mark m.LeftBrace) t₅ t₆ → Inners STATEMENT_NESTING t₆ ss t₇ → Takes (Mark m.RightBrace) t₇ t₈
      → Items t₀ (item.Func (record { name = w; result = b; params = fs; body = ss; line = line_at t₀ }) ∷ []) t₈

pub data AllItems : Tokens → List Item → Type 0 where
  end : AllItems [] []
  next : {ts us : Tokens} {is js : List Item} → Items ts is us → AllItems us js → AllItems ts (is ++ js)

-- The grammar derives the program from the tokens.
abbrev pub Derives : Tokens → Program → Type 0
Derives ts p = AllItems ts p.items
