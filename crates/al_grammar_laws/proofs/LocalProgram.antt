-- The parser of programs looks at no token behind the one at which it stops.
use Rattle.std.proofs.Common.{ℕ, Bool, true, false, List, [], ◌∷◌, ◌++◌, Option, Some, refl}
use Rattle.std.specs.Prelude.{pos, neg_ℤ}
use Rattle.al_source.specs.declared.tokens.TokenKind.{TokenKind}
use Rattle.al_source.specs.declared.tokens.TokenKind.TheVariants.{Number, Key, Mark}
use Rattle.al_source.specs.declared.tokens.Mark as the_mark
use Rattle.al_source.specs.declared.tokens.Mark.TheVariants as m
use Rattle.al_source.specs.declared.tokens.Key as the_key
use Rattle.al_source.specs.declared.tokens.Key.TheVariants as key
use Rattle.al_source.specs.declared.limits.TheConstants.{DECLARATOR_DIMENSIONS, STATEMENT_NESTING}
use Rattle.al_source.specs.declared.source_tree.CType.{CType}
use Rattle.al_source.specs.declared.source_tree.CType.TheVariants as type
use Rattle.al_source.specs.declared.source_tree.Field.{Field}
use Rattle.al_source.specs.declared.source_tree.Start.TheVariants as start
use Rattle.al_source.specs.declared.source_tree.Item.{Item}
use Rattle.al_source.specs.declared.source_tree.Item.TheVariants as item
use Rattle.al_source.specs.Steps.{bind, pure}
use Rattle.al_grammar.specs.Phrases.{Tokens, Name}
use Rattle.al_grammar.specs.Programs.{global}
use Rattle.al_grammar.specs.Steps.{kind_at, mark_in, key_in, is_mark_in, repeat}
use Rattle.al_grammar.specs.ProgramParser as p
use Rattle.al_grammar.proofs.ProgramFacts.{field_shorter, line_shorter, global_shorter, param_turn_shorter, item_turn_shorter}
use Rattle.al_grammar_laws.proofs.Local.{Ends, whole, Cut, Alike, here, there, bare, left, Both, Local, binds, pures, refuses, looks_any, looks_line, passes, goes_on, repeats}
use Rattle.al_grammar_laws.proofs.LocalTypes.{expects_any, words, bases, named_local, all_dimensions, declarators}
use Rattle.al_grammar_laws.proofs.LocalCalls.{some_cut}
use Rattle.al_grammar_laws.proofs.LocalStatements.{braces, statements}

module _ {c : Cut} (go : c.Passed) where
  field_names : (a : CType) (fs : List Field) → Local c bare false (p.field_name a fs)
  field_names a fs = binds (declarators a) (λ f. looks_any (λ k. p.field_by (fs ++ f ∷ []) (mark_in k)) (λ k. by (fs ++ f ∷ []) (mark_in k)))
    where
      by : (fs : List Field) (k : Option the_mark.Mark) → Local c bare false (p.field_by fs k)
      by fs (Some m.Comma) = binds (passes go) (λ _. pures (fs, false))
      by fs (Some m.Semicolon) = binds (passes go) (λ _. pures (fs, true))
      by fs _ = refuses

  field_turns : (fs : List Field) → Local c bare false (p.field_turn fs)
  field_turns fs =
      binds (binds bases (λ a. repeats (p.field_name a) (field_shorter a) (field_names a) fs))
      (λ all. looks_any (λ k. pure (all, is_mark_in m.RightBrace (mark_in k))) (λ k. pures (all, is_mark_in m.RightBrace (mark_in k))))

  struct_bodies : Local c bare false p.struct_body
  struct_bodies =
      binds (binds (expects_any go m.LeftBrace) (λ _. repeats p.field_turn line_shorter field_turns []))
      (λ fs. binds (binds (expects_any go m.RightBrace) (λ _. expects_any go m.Semicolon)) (λ _. pures fs))

  -- ---- globals

  negatives : Local c bare false (λ ts. p.negative_by (kind_at ts) ts)
  negatives = looks_any p.negative_by by
    where
      by : (k : Option TokenKind) → Local c bare false (p.negative_by k)
      by (Some (Number (pos n))) = binds (passes go) (λ _. pures (start.Number (neg_ℤ (pos n))))
      by _ = refuses

  start_values : Local c bare false (λ ts. p.start_value_by (kind_at ts) ts)
  start_values = looks_any p.start_value_by by
    where
      by : (k : Option TokenKind) → Local c bare false (p.start_value_by k)
      by (Some (Number v)) = binds (passes go) (λ _. pures (start.Number v))
      by (Some (Mark m.Minus)) = binds (passes go) (λ _. negatives)
      by (Some (Key key.Null)) = binds (passes go) (λ _. pures start.Null)
      by _ = refuses

  starts_local : Local c bare false p.starts
  starts_local = looks_any (λ k. p.start_by (is_mark_in m.Assign (mark_in k))) (λ k. by (is_mark_in m.Assign (mark_in k)))
    where
      by : (x : Bool) → Local c bare false (p.start_by x)
      by true = binds (passes go) (λ _. start_values)
      by false = pures start.Zero

  global_seps : (is : List Item) → Local c bare false (λ ts. p.global_by is (mark_in (kind_at ts)) ts)
  global_seps is = looks_any (λ k. p.global_by is (mark_in k)) (λ k. by (mark_in k))
    where
      by : (k : Option the_mark.Mark) → Local c bare false (p.global_by is k)
      by (Some m.Comma) = binds (passes go) (λ _. pures (is, false))
      by (Some m.Semicolon) = binds (passes go) (λ _. pures (is, true))
      by _ = refuses

  global_names : (line : ℕ) (a : CType) (is : List Item) → Local c bare false (p.global_name line a is)
  global_names line a is = binds (declarators a) (λ f. binds starts_local (λ s. global_seps (is ++ global line f s ∷ [])))

  first_globals : (line : ℕ) (f : Field) (is : List Item) → Local c bare false (p.first_global line f is)
  first_globals line f is =
      binds (all_dimensions DECLARATOR_DIMENSIONS f.ty)
      (λ a. binds starts_local (λ s. global_seps (is ++ global line (record { name = f.name; ty = a }) s ∷ [])))

  -- ---- functions

  param_turns : (fs : List Field) → Local c bare false (p.param_turn fs)
  param_turns fs =
      binds (binds bases named_local)
      (λ f. looks_any (λ k. p.param_by (fs ++ f ∷ []) (mark_in k)) (λ k. by (fs ++ f ∷ []) (mark_in k)))
    where
      by : (fs : List Field) (k : Option the_mark.Mark) → Local c bare false (p.param_by fs k)
      by fs (Some m.Comma) = binds (passes go) (λ _. pures (fs, false))
      by fs (Some m.RightParen) = binds (passes go) (λ _. pures (fs, true))
      by fs _ = refuses

  params_local : Local c bare false p.params
  params_local = looks_any p.params_by by
    where
      by : (k : Option TokenKind) → Local c bare false (p.params_by k)
      by (Some (Mark m.RightParen)) = binds (passes go) (λ _. pures [])
      by (Some (Key key.Void)) = binds (binds (passes go) (λ _. expects_any go m.RightParen)) (λ _. pures [])
      by _ = repeats p.param_turn param_turn_shorter param_turns []

  bodies : Local c bare false p.body
  bodies = binds (expects_any go m.LeftBrace) (λ _. braces go STATEMENT_NESTING (statements go STATEMENT_NESTING))

  functions : (line : ℕ) (f : Field) → Local c bare false (p.function line f)
  functions line f =
      binds (binds (expects_any go m.LeftParen) (λ _. params_local))
      (λ fs. binds bodies (λ ss. pures (item.Func (record { name = f.name; result = f.ty; params = fs; body = ss; line = line }))))

  -- ---- items

  declared_local : (line : ℕ) (a : CType) (is : List Item) → Local c bare false (p.declared line a is)
  declared_local line a is =
      binds (named_local a)
      (λ f. looks_any (λ k. p.declared_by line a f is (is_mark_in m.LeftParen (mark_in k))) (λ k. by f (is_mark_in m.LeftParen (mark_in k))))
    where
      by : (f : Field) (x : Bool) → Local c bare false (p.declared_by line a f is x)
      by f true = binds (functions line f) (λ i. pures (is ++ i ∷ []))
      by f false =
          binds (first_globals line f is)
          (λ r. goes_on (repeat (p.global_name line a)) (λ js. repeats (p.global_name line a) (global_shorter line a) (global_names line a) js) r.0 r.1)

  struct_local : (line : ℕ) (w : Name) (is : List Item) (x : Bool) → Local c bare false (p.struct_by line w is x)
  struct_local line w is true = binds struct_bodies (λ fs. pures (is ++ item.Struct (record { name = w; fields = fs; line = line }) ∷ []))
  struct_local line w is false = declared_local line (type.Struct w) is

  item_local : (line : ℕ) (is : List Item) (k : Option the_key.Key) → Local c bare false (p.item_by line is k)
  item_local line is (Some key.Struct) =
      binds (binds (passes go) (λ _. words))
      (λ w. looks_any (λ k. p.struct_by line w is (is_mark_in m.LeftBrace (mark_in k))) (λ k. struct_local line w is (is_mark_in m.LeftBrace (mark_in k))))
  item_local line is (Some key.Void) =
      binds (binds (passes go) (λ _. named_local type.Void)) (λ f. binds (functions line f) (λ i. pures (is ++ i ∷ [])))
  item_local line is _ = binds bases (λ a. declared_local line a is)

  items_local : (is : List Item) → Local c bare false (p.items_step is)
  items_local is =
      looks_line (λ n ts. p.item_by n is (key_in (kind_at ts)) ts)
      (λ n. looks_any (λ k. p.item_by n is (key_in k)) (λ k. item_local n is (key_in k)))

  some_item : (is : List Item) → Local c {A = List Item × Bool} bare false (λ ts. bind (p.items_step is ts) (λ all. pure (all, false)))
  some_item is = binds (items_local is) (λ all. pures (all, false))

  item_both : (is : List Item) {ts us : Tokens} → Alike c ts us → Both c bare (p.item_turn is ts) (p.item_turn is us)
  item_both is here = (some_item is).both (c.token ∷ c.rest) (c.token ∷ c.other) (λ e. absurd cc) refl here
  item_both is (there {t = t} {r = r} {r' = r'} w) = (some_item is).both (t ∷ r) (t ∷ r') (λ e. absurd cc) refl (there w)

item_ends : (is : List Item) (ts : Tokens) → Ends ts (left bare (p.item_turn is ts))
item_ends is [] = whole
item_ends is (t ∷ ts) = (some_item {c = some_cut} tt is).ends (t ∷ ts)

pub programs : {c : Cut} → c.Passed → Local c bare false p.all_items
programs go =
    repeats p.item_turn item_turn_shorter (λ is. record { ends = λ ts. item_ends is ts; both = λ ts us h r a. item_both go is a }) []
