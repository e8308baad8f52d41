-- Items that are cut off can be completed.
use Rattle.std.proofs.Common.{◌≡◌, ℕ, Bool, true, false, List, [], ◌∷◌, ◌++◌, Option, Some, Err, refl, sym, subst}
use Rattle.std.specs.Prelude.{pos, neg_ℤ}
use Rattle.al_source.specs.declared.tokens.TokenKind.{TokenKind}
use Rattle.al_source.specs.declared.tokens.TokenKind.TheVariants.{Word, Number, Key, Mark}
use Rattle.al_source.specs.declared.tokens.Mark as the_mark
use Rattle.al_source.specs.declared.tokens.Mark.TheVariants as m
use Rattle.al_source.specs.declared.tokens.Key as the_key
use Rattle.al_source.specs.declared.tokens.Key.TheVariants as key
use Rattle.al_source.specs.declared.limits.TheConstants.{DECLARATOR_DIMENSIONS, STATEMENT_NESTING}
use Rattle.al_source.specs.declared.source_tree.CType.{CType}
use Rattle.al_source.specs.declared.source_tree.CType.TheVariants as type
use Rattle.al_source.specs.declared.source_tree.Field.{Field}
use Rattle.al_source.specs.declared.source_tree.Start.{Start}
use Rattle.al_source.specs.declared.source_tree.Start.TheVariants as start
use Rattle.al_source.specs.declared.source_tree.Item.{Item}
use Rattle.al_source.specs.declared.source_tree.Item.TheVariants as item
use Rattle.al_source.specs.Steps.{bind, pure}
use Rattle.al_grammar.specs.Phrases.{Tokens, Name, Takes, takes, line_at}
use Rattle.al_grammar.specs.Types.{Base, Stars, Dimensions, Declarator}
use Rattle.al_grammar.specs.Types as ty
use Rattle.al_grammar.specs.Statements.{Inners}
use Rattle.al_grammar.specs.Programs.{FieldNames, Fields, Starts, global, Globals, ResultBase, Param, ParamList, Params, Items, AllItems}
use Rattle.al_grammar.specs.Programs as g
use Rattle.al_grammar.specs.Steps.{kind_at, mark_at, key_at, is_mark, after_turn, repeat}
use Rattle.al_grammar.specs.TypeParser.{base}
use Rattle.al_grammar.specs.ProgramParser as p
use Rattle.al_grammar.proofs.StepFacts.{kind_takes, key_takes, is_mark_takes}
use Rattle.al_grammar.proofs.ProgramFacts.{field_shorter, line_shorter, global_shorter, param_turn_shorter, item_turn_shorter}
use Rattle.al_grammar_laws.proofs.Completion.{token_of, bare, Relation, Completed, Fine, On, Full, Then, completes_then, completes_as, on_then, then, on_gives, gives, maps, on_maps, anywhere, looks, full, pures, OneToken, refuses, skips, one_token, expects, names, repeats}
use Rattle.al_grammar_laws.proofs.CompletedTypes.{bases, all_dimensions, ANamed, named_full, declarators}
use Rattle.al_grammar_laws.proofs.CompletedSimple.{mark_for, AMark, mark_phrase, between, behind_all}
use Rattle.al_grammar_laws.proofs.CompletedStatements.{SomeBlock, braces}

-- ---- structs

field_marks : (fs : List Field) → Full bare (AMark m.Semicolon) (λ ts. p.field_by fs (mark_at ts) ts)
field_marks fs = full (looks mark_at (p.field_by fs) by) (λ _. mark_phrase fs m.Semicolon)
  where
    by : (k : Option the_mark.Mark) → On bare (λ ts. mark_at ts ≡ k) (AMark m.Semicolon) (p.field_by fs k)
    by (Some m.Comma) = between fs m.Semicolon
    by (Some m.Semicolon) = behind_all fs m.Semicolon
    by _ = refuses (mark_phrase fs m.Semicolon)

abbrev FieldTurn : CType → Relation Tokens Bool
FieldTurn a ts b us = (k : Tokens) × ((f : Field) × Declarator a ts f k) × Takes (Mark (mark_for m.Semicolon b)) k us

abbrev SomeNames : CType → Tokens → Tokens → Type 0
SomeNames a ts us = (fs : List Field) × FieldNames a ts fs us

names_stop : (a : CType) (ts us : Tokens) → FieldTurn a ts true us → SomeNames a ts us
names_stop a ts us (k, (f, d), t) = (f ∷ [], g.last d t)

names_next : (a : CType) (ts us vs : Tokens) → FieldTurn a ts false us → SomeNames a us vs → SomeNames a ts vs
names_next a ts us vs (k, (f, d), t) (fs, r) = (f ∷ fs, g.more d t r)

field_names : (a : CType) (fs : List Field) → Full bare (λ ts _ us. SomeNames a ts us) (repeat (p.field_name a) fs)
field_names a =
    repeats (p.field_name a) (field_shorter a) (FieldTurn a) (SomeNames a) (names_stop a) (names_next a)
    (λ fs. maps (λ ts r us p. let (f, k, d, t) = p in (k, d, t)) (then (declarators a) (λ f. field_marks (fs ++ f ∷ []))))
    (completes_as (λ r. tt) (λ ts r us p. let (f, k, d, t) = p in names_stop a ts us (k, d, t))
    (completes_then ((declarators a).phrase tt) (λ f _. one_token (Mark m.Semicolon) refl)))

abbrev SomeLine : {A : Type 0} → Relation Tokens A
SomeLine ts _ us = (a : CType) × (k : Tokens) × Base ts a k × SomeNames a k us

field_lines : (fs : List Field) → Full bare (SomeLine {A = List Field}) (p.field_line fs)
field_lines fs = then bases (λ a. field_names a fs)

-- The turn says whether a `}` comes next, and a further line may come all the same.
abbrev LineTurn : Relation Tokens Bool
LineTurn ts b us = SomeLine {A = Bool} ts b us

abbrev SomeFields : Tokens → Tokens → Type 0
SomeFields ts us = (fs : List Field) × Fields ts fs us

fields_stop : (ts us : Tokens) → LineTurn ts true us → SomeFields ts us
fields_stop ts us (a, k, b, (fs, r)) = (fs, g.last b r)

fields_next : (ts us vs : Tokens) → LineTurn ts false us → SomeFields us vs → SomeFields ts vs
fields_next ts us vs (a, k, b, (fs, r)) (gs, q) = (fs ++ gs, g.more b r q)

line_turns : (fs : List Field) → Full bare (λ ts r us. LineTurn ts r.1 us) (p.field_turn fs)
line_turns fs =
    maps (λ ts r us p. let (all, k, l, same) = p in subst (λ us. SomeLine {A = Bool} ts true us) same l) (then (field_lines fs) marked)
  where
    marked : (all : List Field) → Full bare (λ ts (r : List Field × Bool) us. ts ≡ us) (λ ts. pure (all, is_mark m.RightBrace ts) ts)
    marked all =
        full (looks (is_mark m.RightBrace) (λ b. pure (all, b)) (λ b. pures (all, b) (λ ts d zs z. refl)))
        (λ _. record { more = []; answer = (all, true); end = tt; plain = refl; reads = λ zs z. refl })

all_fields : Full bare (λ ts _ us. SomeFields ts us) (repeat p.field_turn [])
all_fields =
    repeats p.field_turn line_shorter LineTurn SomeFields fields_stop fields_next line_turns
    (completes_as (λ r. tt) (λ ts r us p. fields_stop ts us p) ((field_lines []).phrase tt)) []

-- from the `{` to the `;`
record IsStructBody (ts us : Tokens) : Type 0 where
  inside : Tokens
  close : Tokens
  closed : Tokens
  fields : List Field
  brace : Takes (Mark m.LeftBrace) ts inside
  reads : Fields inside fields close
  closes : Takes (Mark m.RightBrace) close closed
  ends : Takes (Mark m.Semicolon) closed us

struct_bodies : Full bare (λ ts (fs : List Field) us. IsStructBody ts us) p.struct_body
struct_bodies =
    maps (λ ts _ us p. let (_, k, (_, i, t, (fs, r)), (_, l, u, v)) = p in
    record { inside = i; close = k; closed = l; fields = fs; brace = t; reads = r; closes = u; ends = v })
    (then (then (expects m.LeftBrace) (λ _. all_fields))
    (λ fs. gives {T = λ ts gs us. Then (OneToken (Takes (Mark m.RightBrace))) (λ _. OneToken (Takes (Mark m.Semicolon))) ts tt us} (λ _. fs) (λ ts _ us p. p)
    (then (expects m.RightBrace) (λ _. expects m.Semicolon))))

-- ---- globals

abbrev SomeStart : Relation Tokens Start
SomeStart ts _ us = (s : Start) × Starts ts s us

-- what stands behind the `=`
abbrev StartValue : Relation Tokens Start
StartValue ts _ us = (ks : Tokens) → Takes (Mark m.Assign) ks ts → (s : Start) × Starts ks s us

no_start_value : Completed bare StartValue []
no_start_value = record {
  more = token_of (Number (pos 0)) ∷ [];
  answer = start.Zero;
  end = tt;
  plain = refl;
  reads = λ zs z ks t. (start.Number (pos 0), g.number t (takes refl));
}

abbrev ANegative : Relation Tokens Start
ANegative ts _ us = (n : ℕ) × Takes (Number (pos n)) ts us

a_negative : Completed bare ANegative []
a_negative = record { more = token_of (Number (pos 0)) ∷ []; answer = start.Zero; end = tt; plain = refl; reads = λ zs z. (0, takes refl) }

negatives : Full bare ANegative (λ ts. p.negative_by (kind_at ts) ts)
negatives = full (looks kind_at p.negative_by by) (λ _. a_negative)
  where
    by : (k : Option TokenKind) → On bare (λ ts. kind_at ts ≡ k) ANegative (p.negative_by k)
    by (Some (Number (pos n))) = on_gives (λ _. start.Number (neg_ℤ (pos n))) (λ ts _ us t. (n, t)) (skips (λ ts d. kind_takes ts d))
    by _ = refuses a_negative

start_values : Full bare StartValue (λ ts. p.start_value_by (kind_at ts) ts)
start_values = full (looks kind_at p.start_value_by by) (λ _. no_start_value)
  where
    by : (k : Option TokenKind) → On bare (λ ts. kind_at ts ≡ k) StartValue (p.start_value_by k)
    by (Some (Number v)) = on_gives (λ _. start.Number v) (λ ts _ us t ks a. (start.Number v, g.number a t)) (skips (λ ts d. kind_takes ts d))
    by (Some (Mark m.Minus)) =
        on_maps (λ ts _ us p ks a. let (_, k, t, (n, u)) = p in (start.Number (neg_ℤ (pos n)), g.negative a t u))
        (on_then (skips (λ ts d. kind_takes ts d)) (λ _. negatives))
    by (Some (Key key.Null)) = on_gives (λ _. start.Null) (λ ts _ us t ks a. (start.Null, g.null a t)) (skips (λ ts d. kind_takes ts d))
    by _ = refuses no_start_value

starts : Full bare SomeStart p.starts
starts =
    full (looks (is_mark m.Assign) p.start_by by)
    (λ _. record { more = []; answer = start.Zero; end = tt; plain = refl; reads = λ zs z. (start.Zero, g.nothing) })
  where
    by : (b : Bool) → On bare (λ ts. is_mark m.Assign ts ≡ b) SomeStart (p.start_by b)
    by true = on_maps (λ ts _ us p. let (_, k, t, v) = p in v ts t) (on_then (skips (λ ts d. is_mark_takes m.Assign ts d)) (λ _. start_values))
    by false = pures start.Zero (λ ts d zs z. (start.Zero, g.nothing))

global_marks : (is : List Item) → Full bare (AMark m.Semicolon) (λ ts. p.global_by is (mark_at ts) ts)
global_marks is = full (looks mark_at (p.global_by is) by) (λ _. mark_phrase is m.Semicolon)
  where
    by : (k : Option the_mark.Mark) → On bare (λ ts. mark_at ts ≡ k) (AMark m.Semicolon) (p.global_by is k)
    by (Some m.Comma) = between is m.Semicolon
    by (Some m.Semicolon) = behind_all is m.Semicolon
    by _ = refuses (mark_phrase is m.Semicolon)

abbrev GlobalTurn : CType → Relation Tokens Bool
GlobalTurn a ts b us =
    (k : Tokens) × (l : Tokens) × ((f : Field) × Declarator a ts f k) × ((s : Start) × Starts k s l) × Takes (Mark (mark_for m.Semicolon b)) l us

-- The globals may be of any line.
abbrev SomeGlobals : CType → Tokens → Tokens → Type 0
SomeGlobals a ts us = (line : ℕ) → (is : List Item) × Globals line a ts is us

globals_stop : (a : CType) (ts us : Tokens) → GlobalTurn a ts true us → SomeGlobals a ts us
globals_stop a ts us (k, l, (f, d), (s, i), t) line = (global line f s ∷ [], g.last d i t)

globals_next : (a : CType) (ts us vs : Tokens) → GlobalTurn a ts false us → SomeGlobals a us vs → SomeGlobals a ts vs
globals_next a ts us vs (k, l, (f, d), (s, i), t) h line = let (is, r) = h line in (global line f s ∷ is, g.more d i t r)

all_globals : (line : ℕ) (a : CType) (is : List Item) → Full bare (λ ts _ us. SomeGlobals a ts us) (repeat (p.global_name line a) is)
all_globals line a =
    repeats (p.global_name line a) (global_shorter line a) (GlobalTurn a) (SomeGlobals a) (globals_stop a) (globals_next a)
    (λ is. maps (λ ts r us p. let (f, k, d, (s, l, i, t)) = p in (k, l, d, i, t))
    (then (declarators a) (λ f. then starts (λ s. global_marks (is ++ global line f s ∷ [])))))
    (completes_as (λ r. tt) (λ ts r us p. let (f, k, d, (s, l, i, t)) = p in globals_stop a ts us (k, l, d, i, t))
    (completes_then ((declarators a).phrase tt) (λ f _. completes_then (starts.phrase tt) (λ s _. one_token (Mark m.Semicolon) refl))))

-- what stands behind the first declared name, which has this type without its dimensions
abbrev FirstGlobal : CType → Relation Tokens (List Item × Bool)
FirstGlobal a ts r us =
    (k : Tokens) × (l : Tokens) × ((b : CType) × Dimensions DECLARATOR_DIMENSIONS a ts b k) × ((s : Start) × Starts k s l)
    × Takes (Mark (mark_for m.Semicolon r.1)) l us

first_globals : (line : ℕ) (f : Field) (is : List Item) → Full bare (FirstGlobal f.ty) (p.first_global line f is)
first_globals line f is =
    maps (λ ts r us p. let (b, k, d, (s, l, i, t)) = p in (k, l, d, i, t))
    (then (all_dimensions DECLARATOR_DIMENSIONS f.ty)
    (λ a. then starts (λ s. global_marks (is ++ global line (record { name = f.name; ty = a }) s ∷ []))))

-- ---- functions

abbrev AParam : Relation Tokens Field
AParam ts _ us = (f : Field) × Param ts f us

parameters : Full bare AParam p.param
parameters = maps (λ ts f us p. let (a, k, b, (l, s, t)) = p in (f, g.param b s t)) (then bases named_full)

param_marks : (fs : List Field) → Full bare (AMark m.RightParen) (λ ts. p.param_by fs (mark_at ts) ts)
param_marks fs = full (looks mark_at (p.param_by fs) by) (λ _. mark_phrase fs m.RightParen)
  where
    by : (k : Option the_mark.Mark) → On bare (λ ts. mark_at ts ≡ k) (AMark m.RightParen) (p.param_by fs k)
    by (Some m.Comma) = between fs m.RightParen
    by (Some m.RightParen) = behind_all fs m.RightParen
    by _ = refuses (mark_phrase fs m.RightParen)

abbrev ParamTurn : Relation Tokens Bool
ParamTurn ts b us = (k : Tokens) × ((f : Field) × Param ts f k) × Takes (Mark (mark_for m.RightParen b)) k us

abbrev SomeList : Tokens → Tokens → Type 0
SomeList ts us = (fs : List Field) × ParamList ts fs us

list_stop : (ts us : Tokens) → ParamTurn ts true us → SomeList ts us
list_stop ts us (k, (f, d), t) = (f ∷ [], g.last d t)

list_next : (ts us vs : Tokens) → ParamTurn ts false us → SomeList us vs → SomeList ts vs
list_next ts us vs (k, (f, d), t) (fs, r) = (f ∷ fs, g.more d t r)

param_lists : Full bare (λ ts _ us. SomeList ts us) (repeat p.param_turn [])
param_lists =
    repeats p.param_turn param_turn_shorter ParamTurn SomeList list_stop list_next
    (λ fs. maps (λ ts r us p. let (f, k, d, t) = p in (k, d, t)) (then parameters (λ f. param_marks (fs ++ f ∷ []))))
    (completes_as (λ r. tt) (λ ts r us p. let (f, k, d, t) = p in list_stop ts us (k, d, t))
    (completes_then (parameters.phrase tt) (λ f _. one_token (Mark m.RightParen) refl))) []

abbrev SomeParams : Relation Tokens (List Field)
SomeParams ts _ us = (fs : List Field) × Params ts fs us

all_params : Full bare SomeParams p.params
all_params = full (looks kind_at p.params_by by) (λ _. completes_as (λ _. []) (λ ts _ us t. ([], g.none t)) (one_token (Mark m.RightParen) refl))
  where
    some : Full bare SomeParams (repeat p.param_turn [])
    some = maps (λ ts _ us p. let (fs, r) = p in (fs, g.some r)) param_lists

    by : (k : Option TokenKind) → On bare (λ ts. kind_at ts ≡ k) SomeParams (p.params_by k)
    by (Some (Mark m.RightParen)) = on_gives (λ _. []) (λ ts _ us t. ([], g.none t)) (skips (λ ts d. kind_takes ts d))
    by (Some (Key key.Void)) =
        on_gives (λ _. []) (λ ts _ us p. let (_, k, t, u) = p in ([], g.void t u)) (on_then (skips (λ ts d. kind_takes ts d)) (λ _. expects m.RightParen))
    by _ = record { fine = λ ts d. some.fine ts }

-- what stands behind the name of a function
record IsFunction (ts us : Tokens) : Type 0 where
  opened : Tokens
  closed : Tokens
  inside : Tokens
  close : Tokens
  parameters : List Field
  statements : List _
  opens : Takes (Mark m.LeftParen) ts opened
  params : Params opened parameters closed
  brace : Takes (Mark m.LeftBrace) closed inside
  body : Inners STATEMENT_NESTING inside statements close
  closes : Takes (Mark m.RightBrace) close us

functions : (line : ℕ) (f : Field) → Full bare (λ ts (i : Item) us. IsFunction ts us) (p.function line f)
functions line f =
    maps (λ ts _ us p. let (_, k, (_, o, t, (fs, q)), (_, i, b, (c, ss, r, u))) = p in
    record { opened = o; closed = k; inside = i; close = c; parameters = fs; statements = ss; opens = t; params = q; brace = b; body = r; closes = u })
    (then (then (expects m.LeftParen) (λ _. all_params))
    (λ fs. gives {T = λ ts i us. Then (OneToken (Takes (Mark m.LeftBrace))) (λ _. SomeBlock STATEMENT_NESTING) ts [] us}
    (λ ss. item.Func (record { name = f.name; result = f.ty; params = fs; body = ss; line = line })) (λ ts ss us p. p)
    (then (expects m.LeftBrace) (λ _. braces STATEMENT_NESTING))))

-- ---- items

abbrev SomeItems : {A : Type 0} → Relation Tokens A
SomeItems ts _ us = (is : List Item) × Items ts is us

function_of : (ts us ks vs : Tokens) (a : CType) (f : Field) → ResultBase ts a us → ANamed a us f ks → IsFunction ks vs → SomeItems {A = Unit {0}} ts tt vs
function_of ts us ks vs a f r (k, s, t) q = (
  item.Func (record { name = f.name; result = f.ty; params = q.parameters; body = q.statements; line = line_at ts }) ∷ [],
  g.function r s t q.opens q.params q.brace q.body q.closes,
)

-- what stands behind the base: the name of a function, or the first of some globals
abbrev Declared : {A : Type 0} → CType → Relation Tokens A
Declared a us _ vs = (ts : Tokens) → Base ts a us → SomeItems {A = Unit {0}} ts tt vs

-- what stands behind the first name
abbrev BehindName : CType → Field → Relation Tokens (List Item)
BehindName a f ks _ vs = (us : Tokens) → ANamed a us f ks → Declared {A = Unit {0}} a us tt vs

globals_of : (a : CType) (f : Field) (us ks ls vs : Tokens) (b : Bool) → ANamed a us f ks → FirstGlobal f.ty ks ([], b) ls → (b ≡ false → SomeGlobals a ls vs)
    → (b ≡ true → ls ≡ vs) → Declared {A = Unit {0}} a us tt vs
globals_of a f us ks ls vs true (k, s, t) (i, j, (c, d), (st, q), u) more none ts base =
    let one : Item = global (line_at ts) (record { name = f.name; ty = c }) st in
    (one ∷ [], g.globals base (subst (Globals (line_at ts) a us (one ∷ [])) (none refl) (g.last (ty.declarator s t d) q u)))
globals_of a f us ks ls vs false (k, s, t) (i, j, (c, d), (st, q), u) more none ts base =
    let (is, r) = more refl (line_at ts) in
    (global (line_at ts) (record { name = f.name; ty = c }) st ∷ is, g.globals base (g.more (ty.declarator s t d) q u r))

-- after the first global, where a `,` stood behind it
abbrev Rest : CType → Bool → Relation Tokens (List Item)
Rest a b ts _ us = (b ≡ false → SomeGlobals a ts us) × (b ≡ true → ts ≡ us)

rests : (line : ℕ) (a : CType) (is : List Item) (b : Bool) → Full bare (Rest a b) (after_turn (repeat (p.global_name line a)) is b)
rests line a is true =
    full (pures is (λ ts d zs z. (λ e. absurd cc, λ e. refl)))
    (λ _. record { more = []; answer = is; end = tt; plain = refl; reads = λ zs z. (λ e. absurd cc, λ e. refl) })
rests line a is false = maps (λ ts _ us h. (λ e. h, λ e. absurd cc)) (all_globals line a is)

behind_names : (line : ℕ) (a : CType) (f : Field) (is : List Item) → Full bare (BehindName a f) (λ ts. p.declared_by line a f is (is_mark m.LeftParen ts) ts)
behind_names line a f is = full (looks (is_mark m.LeftParen) (p.declared_by line a f is) (λ b. anywhere (by b))) (by true).phrase
  where
    by : (b : Bool) → Full bare (BehindName a f) (p.declared_by line a f is b)
    by true = gives (λ i. is ++ i ∷ []) (λ ks _ vs q us n ts b. function_of ts us ks vs a f (g.base b) n q) (functions line f)
    by false =
        maps (λ ks _ vs p us n. let (r, ls, q, (more, none)) = p in globals_of a f us ks ls vs r.1 n q more none)
        (then (first_globals line f is) (λ r. rests line a r.0 r.1))

declared : (line : ℕ) (a : CType) (is : List Item) → Full bare (Declared {A = List Item} a) (p.declared line a is)
declared line a is = maps (λ us _ vs p. let (f, ks, n, q) = p in q us n) (then (named_full a) (λ f. behind_names line a f is))

-- what stands behind `struct` and a name
abbrev BehindStruct : Name → Relation Tokens (List Item)
BehindStruct w us _ vs = (ts ks : Tokens) → Takes (Key key.Struct) ts ks → Takes (Word w) ks us → SomeItems {A = Unit {0}} ts tt vs

behind_struct : (line : ℕ) (w : Name) (is : List Item) → Full bare (BehindStruct w) (λ ts. p.struct_by line w is (is_mark m.LeftBrace ts) ts)
behind_struct line w is = full (looks (is_mark m.LeftBrace) (p.struct_by line w is) (λ b. anywhere (by b))) (by true).phrase
  where
    by : (b : Bool) → Full bare (BehindStruct w) (p.struct_by line w is b)
    by true =
        gives (λ fs. is ++ item.Struct (record { name = w; fields = fs; line = line }) ∷ [])
        (λ us _ vs q ts ks t u.
        (item.Struct (record { name = w; fields = q.fields; line = line_at ts }) ∷ [], g.structure t u q.brace q.reads q.closes q.ends))
        struct_bodies
    by false = maps (λ us _ vs h ts ks t u. h ts (ty.structure t u)) (declared line (type.Struct w) is)

by_base : (line : ℕ) (is : List Item) → Full bare (SomeItems {A = List Item}) (λ ts. bind (base ts) (λ a. p.declared line a is))
by_base line is = maps (λ ts _ us p. let (a, k, b, h) = p in h ts b) (then bases (λ a. declared line a is))

items : (is : List Item) → Full bare (SomeItems {A = List Item}) (p.items_step is)
items is =
    full (looks line_at (λ n ts. p.item_by n is (key_at ts) ts) (λ n. looks key_at (p.item_by n is) (by n))) (by_base 0 is).phrase
  where
    by : (n : ℕ) (k : Option the_key.Key) → On bare (λ ts. key_at ts ≡ k) (SomeItems {A = List Item}) (p.item_by n is k)
    by n (Some key.Struct) =
        on_maps (λ ts _ vs p. let (w, us, (_, ks, t, u), h) = p in h ts ks t u)
        (on_then (on_then (skips (λ ts d. key_takes ts d)) (λ _. names)) (λ w. behind_struct n w is))
    by n (Some key.Void) =
        on_maps (λ ts _ vs p. let (f, us, (_, ks, t, q), r) = p in function_of ts ks us vs type.Void f (g.void t) q r)
        (on_then (on_then (skips (λ ts d. key_takes ts d)) (λ _. named_full type.Void))
        (λ f. gives {T = λ ts _ us. IsFunction ts us} (λ i. is ++ i ∷ []) (λ ts i us q. q) (functions n f)))
    by n _ = record { fine = λ ts d. (by_base n is).fine ts }

-- ---- programs

-- What follows may be any items.
abbrev ItemsTo : Tokens → Tokens → Type 0
ItemsTo ts us = (js : List Item) → AllItems us js → (is : List Item) × AllItems ts is

abbrev ItemTurn : Relation Tokens Bool
ItemTurn ts true us = ts ≡ us
ItemTurn ts false us = (is : List Item) × Items ts is us

items_stop : (ts us : Tokens) → ItemTurn ts true us → ItemsTo ts us
items_stop ts us same js r = (js, subst (λ ts. AllItems ts js) (sym same) r)

items_next : (ts us vs : Tokens) → ItemTurn ts false us → ItemsTo us vs → ItemsTo ts vs
items_next ts us vs (is, i) h js r = let (ks, q) = h js r in (is ++ ks, g.next i q)

item_turns : (is : List Item) → Full bare (λ ts r us. ItemTurn ts r.1 us) (p.item_turn is)
item_turns is = record { fine = by; phrase = λ _. record { more = []; answer = (is, true); end = tt; plain = refl; reads = λ zs z. refl } }
  where
    one : Full bare (λ ts (r : List Item × Bool) us. ItemTurn ts r.1 us) (λ ts. bind (p.items_step is ts) (λ all. pure (all, false)))
    one = gives (λ all. (all, false)) (λ ts _ us p. p) (items is)

    over : On bare (λ ts. Unit {0}) (λ ts (r : List Item × Bool) us. ItemTurn ts r.1 us) (pure (is, true))
    over = pures (is, true) (λ ts d zs z. refl)

    by : (ts : Tokens) → Fine bare (λ ts (r : List Item × Bool) us. ItemTurn ts r.1 us) ts (p.item_turn is ts)
    by [] = over.fine [] tt
    by (t ∷ ts) = one.fine (t ∷ ts)

programs : Full bare (λ ts _ us. ItemsTo ts us) p.all_items
programs =
    repeats p.item_turn item_turn_shorter ItemTurn ItemsTo items_stop items_next item_turns
    (record { more = []; answer = tt; end = tt; plain = refl; reads = λ zs z js r. (js, r) }) []

-- Where tokens are missing, some make a program of those that are there.
pub missing : (ts : Tokens) → p.all_items ts ≡ Err [] → (more : Tokens) × (is : List Item) × AllItems (ts ++ more) is
missing ts e = let c = (programs.fine ts).completes e in let (is, r) = c.reads [] refl [] g.end in (c.more ++ [], is, r)
