-- The parser of items and programs reads what the grammar has, and nothing else.
use Rattle.std.proofs.Common.{◌≡◌, ℕ, ◌<◌, ◌≤◌, Bool, true, false, List, [], ◌∷◌, ◌++◌, append_assoc, length, Option, Some, Ok, Err, refl, sym, ap, subst, ◌∙◌, arith}
use Rattle.std.specs.Prelude.{pos, neg_ℤ}
use Rattle.std.proofs.lemmas.List.{append-nil}
use Rattle.al_source.specs.declared.tokens.TokenKind.{TokenKind}
use Rattle.al_source.specs.declared.tokens.TokenKind.TheVariants.{Word, Number, Key, Mark}
use Rattle.al_source.specs.declared.tokens.Mark as the_mark
use Rattle.al_source.specs.declared.tokens.Mark.TheVariants as m
use Rattle.al_source.specs.declared.tokens.Key as the_key
use Rattle.al_source.specs.declared.tokens.Key.TheVariants as key
use Rattle.al_source.specs.declared.source_tree.CType.{CType}
use Rattle.al_source.specs.declared.source_tree.CType.TheVariants as type
use Rattle.al_source.specs.declared.source_tree.Field.{Field}
use Rattle.al_source.specs.declared.source_tree.Start.{Start}
use Rattle.al_source.specs.declared.source_tree.Start.TheVariants as start
use Rattle.al_source.specs.declared.source_tree.Stmt.{Stmt}
use Rattle.al_source.specs.declared.source_tree.Item.{Item}
use Rattle.al_source.specs.declared.source_tree.Item.TheVariants as item
use Rattle.al_source.specs.declared.limits.TheConstants.{DECLARATOR_STARS, DECLARATOR_DIMENSIONS, STATEMENT_NESTING}
use Rattle.al_grammar.specs.Phrases.{Tokens, Name, Takes, takes, line_at}
use Rattle.al_grammar.specs.Types.{Base, Stars, Dimensions, Declarator}
use Rattle.al_grammar.specs.Types as ty
use Rattle.al_grammar.specs.Statements.{Inners}
use Rattle.al_grammar.specs.Programs.{FieldNames, Fields, Starts, global, Globals, ResultBase, Param, ParamList, Params, Items, AllItems}
use Rattle.al_grammar.specs.Programs as g
use Rattle.al_source.specs.Steps.{bind, pure}
use Rattle.al_grammar.specs.Steps.{Read, Step, kind_at, mark_in, mark_at, key_in, key_at, tail, same_mark, is_mark_in, is_mark, expect, word, after_turn, repeat}
use Rattle.al_grammar.specs.TypeParser.{base, stars, named, dimensions, declarator}
use Rattle.al_grammar.specs.StatementParser.{statement, braced}
use Rattle.al_grammar.specs.ProgramParser as p
use Rattle.al_grammar.proofs.StepFacts.{bind_ok, yields, takes_kind, takes_tail, takes_shorter, kind_takes, mark_takes, key_takes, is_mark_takes, takes_is_mark, takes_expect, expect_takes, takes_word, word_takes, repeat_last, repeat_next, repeat_is, repeat_keeps}
use Rattle.al_grammar.proofs.TypeFacts.{EndsType, not_mark, sound_base, IsNamed, sound_named, sound_declarator, complete_base, complete_named, complete_stars, complete_declarator, ends_stars, ends_declarator, base_shorter, stars_shorter, declarator_shorter}
use Rattle.al_grammar.proofs.SoundStatements.{Sep, goes_on, ends, sep_shorter, sound_braced, sound_statement}
use Rattle.al_grammar.proofs.Shorter.{inners_shorter}
use Rattle.al_grammar.proofs.CompleteStatements.{complete_inners, FirstBase, by_int, by_long, by_struct, first_base}

-- ---- structs

field_sep : (fs : List Field) (ts : Tokens) (q : (List Field × Bool) × Tokens) → p.field_by fs (mark_at ts) ts ≡ Ok q → Sep m.Comma m.Semicolon fs ts q
field_sep fs ts q e = by (mark_at ts) refl e
  where
    by : (c : Option the_mark.Mark) → mark_at ts ≡ c → p.field_by fs c ts ≡ Ok q → Sep m.Comma m.Semicolon fs ts q
    by (Some m.Comma) d e = yields (Sep m.Comma m.Semicolon fs ts) ((fs, false), tail ts) q (goes_on (mark_takes ts d)) e
    by (Some m.Semicolon) d e = yields (Sep m.Comma m.Semicolon fs ts) ((fs, true), tail ts) q (ends (mark_takes ts d)) e
    by _ d e = absurd cc

one_field : (a : CType) (fs : List Field) (ts : Tokens) (q : (List Field × Bool) × Tokens) → p.field_name a fs ts ≡ Ok q
    → (f : Field) × (us : Tokens) × Declarator a ts f us × Sep m.Comma m.Semicolon (fs ++ f ∷ []) us q
one_field a fs ts q e =
    let (f, df, dk) = bind_ok (declarator a ts) (λ f us. p.field_by (fs ++ f ∷ []) (mark_at us) us) e in
    (f.0, f.1, sound_declarator a ts f df, field_sep (fs ++ f.0 ∷ []) f.1 q dk)

pub field_shorter : (a : CType) (b c : List Field) (ts us : Tokens) → p.field_name a b ts ≡ Ok ((c, false), us) → length us < length ts
field_shorter a b c ts us e = let (f, vs, d, s) = one_field a b ts ((c, false), us) e in let lt = declarator_shorter d in let le = sep_shorter s in omega arith

abbrev FoundFields : CType → List Field → Tokens → List Field → Tokens → Type 0
FoundFields a xs ts ys us = (zs : List Field) × FieldNames a ts zs us × (ys ≡ xs ++ zs)

fields_last : (a : CType) (xs : List Field) (ts : Tokens) (f : Field) (us : Tokens) (ys : List Field) (vs : Tokens)
    → Declarator a ts f us → Sep m.Comma m.Semicolon (xs ++ f ∷ []) us ((ys, true), vs) → FoundFields a xs ts ys vs
fields_last a xs ts f us ys vs d (ends t) = (f ∷ [], g.last d t, refl)

fields_more : (a : CType) (xs : List Field) (ts : Tokens) (f : Field) (us : Tokens) (ys : List Field) (vs : Tokens) (zs : List Field) (ws : Tokens)
    → Declarator a ts f us → Sep m.Comma m.Semicolon (xs ++ f ∷ []) us ((ys, false), vs) → FoundFields a ys vs zs ws → FoundFields a xs ts zs ws
fields_more a xs ts f us ys vs zs ws d (goes_on t) (bs, r, is) = (f ∷ bs, g.more d t r, is ∙ append_assoc xs (f ∷ []) bs)

-- one field line
abbrev FoundLine : List Field → Tokens → List Field × Tokens → Type 0
FoundLine fs ts q = (a : CType) × (us : Tokens) × (ns : List Field) × Base ts a us × FieldNames a us ns q.1 × (q.0 ≡ fs ++ ns)

sound_line : (fs : List Field) (ts : Tokens) (q : List Field × Tokens) → p.field_line fs ts ≡ Ok q → FoundLine fs ts q
sound_line fs ts q e =
    let (a, da, dk) = bind_ok (base ts) (λ a. repeat (p.field_name a) fs) e in
    let (ns, r, is) = repeat_keeps (p.field_name a.0) (FoundFields a.0)
    (λ b c ts us d. let (f, vs, r, s) = one_field a.0 b ts ((c, true), us) d in fields_last a.0 b ts f vs c us r s)
    (λ b c h ts us vs d k. let (f, ws, r, s) = one_field a.0 b ts ((c, false), us) d in fields_more a.0 b ts f ws c us h vs r s k)
    fs a.1 q dk in
    (a.0, a.1, ns, sound_base ts a da, r, is)

names_shorter : {a : CType} {ts us : Tokens} {fs : List Field} → FieldNames a ts fs us → length us < length ts
names_shorter (g.last d t) = let x = declarator_shorter d in let y = takes_shorter t in omega arith
names_shorter (g.more d t r) = let x = declarator_shorter d in let y = takes_shorter t in let z = names_shorter r in omega arith

-- one field line, and what comes next
record LineTurn (fs : List Field) (ts : Tokens) (q : (List Field × Bool) × Tokens) : Type 0 where
  line : FoundLine fs ts (q.0.0, q.1)
  next : is_mark m.RightBrace q.1 ≡ q.0.1

line_turn : (fs : List Field) (ts : Tokens) (q : (List Field × Bool) × Tokens) → p.field_turn fs ts ≡ Ok q → LineTurn fs ts q
line_turn fs ts q e =
    let (l, dl, dk) = bind_ok (p.field_line fs ts) (λ all us. pure (all, is_mark m.RightBrace us) us) e in
    yields (LineTurn fs ts) ((l.0, is_mark m.RightBrace l.1), l.1) q (record { line = sound_line fs ts l dl; next = refl }) dk

pub line_shorter : (a b : List Field) (ts us : Tokens) → p.field_turn a ts ≡ Ok ((b, false), us) → length us < length ts
line_shorter a b ts us e =
    let r = line_turn a ts ((b, false), us) e in
    let (c, vs, ns, base, names, is) = r.line in
    let x = base_shorter base in let y = names_shorter names in omega arith

abbrev FoundAll : List Field → Tokens → List Field → Tokens → Type 0
FoundAll xs ts ys us = (zs : List Field) × Fields ts zs us × (ys ≡ xs ++ zs)

sound_fields : (ts : Tokens) (q : List Field × Tokens) → repeat p.field_turn [] ts ≡ Ok q → Fields ts q.0 q.1
sound_fields ts q e =
    let (zs, r, is) = repeat_keeps p.field_turn FoundAll
    (λ a b ts us d. let r = line_turn a ts ((b, true), us) d in let (c, vs, ns, base, names, is) = r.line in (ns, g.last base names, is))
    (λ a b c ts us vs d k.
    let r = line_turn a ts ((b, false), us) d in
    let (t, ws, ns, base, names, is) = r.line in
    let (zs, rest, all) = k in
    (ns ++ zs, g.more base names rest, all ∙ ap (λ l. l ++ zs) is ∙ append_assoc a ns zs))
    [] ts q e in
    subst (λ l. Fields ts l q.1) (sym is) r

abbrev IsItems : Tokens → List Item × Tokens → Type 0
IsItems ts q = Items ts q.0 q.1

record IsStructBody (ts : Tokens) (q : List Field × Tokens) : Type 0 where
  inside : Tokens
  close : Tokens
  closed : Tokens
  brace : Takes (Mark m.LeftBrace) ts inside
  fields : Fields inside q.0 close
  closes : Takes (Mark m.RightBrace) close closed
  ends : Takes (Mark m.Semicolon) closed q.1

sound_body : (ts : Tokens) (q : List Field × Tokens) → p.struct_body ts ≡ Ok q → IsStructBody ts q
sound_body ts q e =
    let last : List Field → Step (List Field) = λ fs us. bind (bind (expect m.RightBrace us) (λ _. expect m.Semicolon)) (λ _. pure fs) in
    let (fs, df, dl) = bind_ok (bind (expect m.LeftBrace ts) (λ _. repeat p.field_turn [])) last e in
    let (b, db, dm) = bind_ok (expect m.LeftBrace ts) (λ _. repeat p.field_turn []) df in
    let (c, dc, dn) = bind_ok (bind (expect m.RightBrace fs.1) (λ _. expect m.Semicolon)) (λ _. pure fs.0) dl in
    let (r, dr, dp) = bind_ok (expect m.RightBrace fs.1) (λ _. expect m.Semicolon) dc in
    yields (IsStructBody ts) (fs.0, c.1) q
    (record {
      inside = b.1;
      close = fs.1;
      closed = r.1;
      brace = expect_takes m.LeftBrace ts b db;
      fields = sound_fields b.1 fs dm;
      closes = expect_takes m.RightBrace fs.1 r dr;
      ends = expect_takes m.Semicolon r.1 c dp;
    }) dn

-- one item, as a list
abbrev IsItem : Tokens → Item × Tokens → Type 0
IsItem ts q = Items ts (q.0 ∷ []) q.1

-- ---- globals

abbrev IsStart : Tokens → Start × Tokens → Type 0
IsStart ts q = Starts ts q.0 q.1

sound_negative : (ts us vs : Tokens) (q : Start × Tokens)
    → Takes (Mark m.Assign) ts us → Takes (Mark m.Minus) us vs → p.negative_by (kind_at vs) vs ≡ Ok q → IsStart ts q
sound_negative ts us vs q t u e = by (kind_at vs) refl e
  where
    by : (c : Option TokenKind) → kind_at vs ≡ c → p.negative_by c vs ≡ Ok q → IsStart ts q
    by (Some (Number (pos n))) d e = yields (IsStart ts) (start.Number (neg_ℤ (pos n)), tail vs) q (g.negative t u (kind_takes vs d)) e
    by _ d e = absurd cc

sound_start_value : (ts us : Tokens) (q : Start × Tokens) → Takes (Mark m.Assign) ts us → p.start_value_by (kind_at us) us ≡ Ok q → IsStart ts q
sound_start_value ts us q t e = by (kind_at us) refl e
  where
    by : (c : Option TokenKind) → kind_at us ≡ c → p.start_value_by c us ≡ Ok q → IsStart ts q
    by (Some (Number v)) d e = yields (IsStart ts) (start.Number v, tail us) q (g.number t (kind_takes us d)) e
    by (Some (Mark m.Minus)) d e = sound_negative ts us (tail us) q t (kind_takes us d) e
    by (Some (Key key.Null)) d e = yields (IsStart ts) (start.Null, tail us) q (g.null t (kind_takes us d)) e
    by _ d e = absurd cc

sound_starts : (ts : Tokens) (q : Start × Tokens) → p.starts ts ≡ Ok q → IsStart ts q
sound_starts ts q e = by (is_mark m.Assign ts) refl e
  where
    by : (b : Bool) → is_mark m.Assign ts ≡ b → p.start_by b ts ≡ Ok q → IsStart ts q
    by true d e = sound_start_value ts (tail ts) q (is_mark_takes m.Assign ts d) e
    by false d e = yields (IsStart ts) (start.Zero, ts) q g.nothing e

global_sep : (is : List Item) (ts : Tokens) (q : (List Item × Bool) × Tokens) → p.global_by is (mark_at ts) ts ≡ Ok q → Sep m.Comma m.Semicolon is ts q
global_sep is ts q e = by (mark_at ts) refl e
  where
    by : (c : Option the_mark.Mark) → mark_at ts ≡ c → p.global_by is c ts ≡ Ok q → Sep m.Comma m.Semicolon is ts q
    by (Some m.Comma) d e = yields (Sep m.Comma m.Semicolon is ts) ((is, false), tail ts) q (goes_on (mark_takes ts d)) e
    by (Some m.Semicolon) d e = yields (Sep m.Comma m.Semicolon is ts) ((is, true), tail ts) q (ends (mark_takes ts d)) e
    by _ d e = absurd cc

record OneGlobal (line : ℕ) (a : CType) (is : List Item) (ts : Tokens) (q : (List Item × Bool) × Tokens) : Type 0 where
  f : Field
  s : Start
  named : Tokens
  behind : Tokens
  declares : Declarator a ts f named
  starts : Starts named s behind
  sep : Sep m.Comma m.Semicolon (is ++ global line f s ∷ []) behind q

one_global : (line : ℕ) (a : CType) (is : List Item) (ts : Tokens) (q : (List Item × Bool) × Tokens)
    → p.global_name line a is ts ≡ Ok q → OneGlobal line a is ts q
one_global line a is ts q e =
    let (f, df, dk) = bind_ok (declarator a ts) (λ f us. bind (p.starts us) (λ s vs. p.global_by (is ++ global line f s ∷ []) (mark_at vs) vs)) e in
    let (s, ds, dl) = bind_ok (p.starts f.1) (λ s vs. p.global_by (is ++ global line f.0 s ∷ []) (mark_at vs) vs) dk in
    record {
      f = f.0;
      s = s.0;
      named = f.1;
      behind = s.1;
      declares = sound_declarator a ts f df;
      starts = sound_starts f.1 s ds;
      sep = global_sep (is ++ global line f.0 s.0 ∷ []) s.1 q dl;
    }

starts_shorter : {ts us : Tokens} {s : Start} → Starts ts s us → length us ≤ length ts
starts_shorter g.nothing = omega arith
starts_shorter (g.number t u) = let a = takes_shorter t in let b = takes_shorter u in omega arith
starts_shorter (g.negative t u v) = let a = takes_shorter t in let b = takes_shorter u in let c = takes_shorter v in omega arith
starts_shorter (g.null t u) = let a = takes_shorter t in let b = takes_shorter u in omega arith

pub global_shorter : (line : ℕ) (a : CType) (b c : List Item) (ts us : Tokens) → p.global_name line a b ts ≡ Ok ((c, false), us) → length us < length ts
global_shorter line a b c ts us e =
    let r = one_global line a b ts ((c, false), us) e in
    let x = declarator_shorter r.declares in
    let y = starts_shorter r.starts in
    let z = sep_shorter r.sep in
    omega arith

abbrev FoundGlobals : ℕ → CType → List Item → Tokens → List Item → Tokens → Type 0
FoundGlobals line a xs ts ys us = (zs : List Item) × Globals line a ts zs us × (ys ≡ xs ++ zs)

globals_last : (line : ℕ) (a : CType) (xs : List Item) (ts : Tokens) (f : Field) (s : Start) (us vs : Tokens) (ys : List Item) (ws : Tokens)
    → Declarator a ts f us → Starts us s vs → Sep m.Comma m.Semicolon (xs ++ global line f s ∷ []) vs ((ys, true), ws) → FoundGlobals line a xs ts ys ws
globals_last line a xs ts f s us vs ys ws d i (ends t) = (global line f s ∷ [], g.last d i t, refl)

globals_more :
    (line : ℕ) (a : CType) (xs : List Item) (ts : Tokens) (f : Field) (s : Start) (us vs : Tokens) (ys : List Item) (ws : Tokens) (zs : List Item) (rs : Tokens)
    → Declarator a ts f us → Starts us s vs → Sep m.Comma m.Semicolon (xs ++ global line f s ∷ []) vs ((ys, false), ws)
    → FoundGlobals line a ys ws zs rs → FoundGlobals line a xs ts zs rs
globals_more line a xs ts f s us vs ys ws zs rs d i (goes_on t) (bs, r, is) =
    (global line f s ∷ bs, g.more d i t r, is ∙ append_assoc xs (global line f s ∷ []) bs)

sound_globals : (line : ℕ) (a : CType) (is : List Item) (ts : Tokens) (q : List Item × Tokens)
    → repeat (p.global_name line a) is ts ≡ Ok q → FoundGlobals line a is ts q.0 q.1
sound_globals line a is ts q e =
    repeat_keeps (p.global_name line a) (FoundGlobals line a)
    (λ b c ts us d. let r = one_global line a b ts ((c, true), us) d in globals_last line a b ts r.f r.s r.named r.behind c us r.declares r.starts r.sep)
    (λ b c h ts us vs d k.
    let r = one_global line a b ts ((c, false), us) d in globals_more line a b ts r.f r.s r.named r.behind c us h vs r.declares r.starts r.sep k)
    is ts q e

-- ---- functions

sound_param : (ts : Tokens) (q : Field × Tokens) → p.param ts ≡ Ok q → Param ts q.0 q.1
sound_param ts q e =
    let (a, da, dk) = bind_ok (base ts) named e in
    let n = sound_named a.0 a.1 q dk in
    g.param (sound_base ts a da) n.stars n.takes

param_sep : (fs : List Field) (ts : Tokens) (q : (List Field × Bool) × Tokens) → p.param_by fs (mark_at ts) ts ≡ Ok q → Sep m.Comma m.RightParen fs ts q
param_sep fs ts q e = by (mark_at ts) refl e
  where
    by : (c : Option the_mark.Mark) → mark_at ts ≡ c → p.param_by fs c ts ≡ Ok q → Sep m.Comma m.RightParen fs ts q
    by (Some m.Comma) d e = yields (Sep m.Comma m.RightParen fs ts) ((fs, false), tail ts) q (goes_on (mark_takes ts d)) e
    by (Some m.RightParen) d e = yields (Sep m.Comma m.RightParen fs ts) ((fs, true), tail ts) q (ends (mark_takes ts d)) e
    by _ d e = absurd cc

one_param : (fs : List Field) (ts : Tokens) (q : (List Field × Bool) × Tokens)
    → p.param_turn fs ts ≡ Ok q → (f : Field) × (us : Tokens) × Param ts f us × Sep m.Comma m.RightParen (fs ++ f ∷ []) us q
one_param fs ts q e =
    let (f, df, dk) = bind_ok (p.param ts) (λ f us. p.param_by (fs ++ f ∷ []) (mark_at us) us) e in
    (f.0, f.1, sound_param ts f df, param_sep (fs ++ f.0 ∷ []) f.1 q dk)

param_shorter : {ts us : Tokens} {f : Field} → Param ts f us → length us < length ts
param_shorter (g.param b s t) = let x = base_shorter b in let y = stars_shorter s in let z = takes_shorter t in omega arith

pub param_turn_shorter : (b c : List Field) (ts us : Tokens) → p.param_turn b ts ≡ Ok ((c, false), us) → length us < length ts
param_turn_shorter b c ts us e = let (f, vs, d, s) = one_param b ts ((c, false), us) e in let lt = param_shorter d in let le = sep_shorter s in omega arith

abbrev FoundParams : List Field → Tokens → List Field → Tokens → Type 0
FoundParams xs ts ys us = (zs : List Field) × ParamList ts zs us × (ys ≡ xs ++ zs)

params_last : (xs : List Field) (ts : Tokens) (f : Field) (us : Tokens) (ys : List Field) (vs : Tokens)
    → Param ts f us → Sep m.Comma m.RightParen (xs ++ f ∷ []) us ((ys, true), vs) → FoundParams xs ts ys vs
params_last xs ts f us ys vs d (ends t) = (f ∷ [], g.last d t, refl)

params_more : (xs : List Field) (ts : Tokens) (f : Field) (us : Tokens) (ys : List Field) (vs : Tokens) (zs : List Field) (ws : Tokens)
    → Param ts f us → Sep m.Comma m.RightParen (xs ++ f ∷ []) us ((ys, false), vs) → FoundParams ys vs zs ws → FoundParams xs ts zs ws
params_more xs ts f us ys vs zs ws d (goes_on t) (bs, r, is) = (f ∷ bs, g.more d t r, is ∙ append_assoc xs (f ∷ []) bs)

abbrev IsParams : Tokens → List Field × Tokens → Type 0
IsParams ts q = Params ts q.0 q.1

sound_list : (ts : Tokens) (q : List Field × Tokens) → repeat p.param_turn [] ts ≡ Ok q → ParamList ts q.0 q.1
sound_list ts q e =
    let (zs, r, is) = repeat_keeps p.param_turn FoundParams
    (λ a b ts us d. let (f, vs, r, s) = one_param a ts ((b, true), us) d in params_last a ts f vs b us r s)
    (λ a b c ts us vs d k. let (f, ws, r, s) = one_param a ts ((b, false), us) d in params_more a ts f ws b us c vs r s k)
    [] ts q e in
    subst (λ l. ParamList ts l q.1) (sym is) r

sound_params : (ts : Tokens) (q : List Field × Tokens) → p.params ts ≡ Ok q → IsParams ts q
sound_params ts q e = by (kind_at ts) refl e
  where
    by : (c : Option TokenKind) → kind_at ts ≡ c → p.params_by c ts ≡ Ok q → IsParams ts q
    by (Some (Mark m.RightParen)) d e = yields (IsParams ts) ([], tail ts) q (g.none (kind_takes ts d)) e
    by (Some (Key key.Void)) d e =
        let (r, dr, dk) = bind_ok (expect m.RightParen (tail ts)) (λ _. pure []) e in
        yields (IsParams ts) ([], r.1) q (g.void (kind_takes ts d) (expect_takes m.RightParen (tail ts) r dr)) dk
    by _ d e = g.some (sound_list ts q e)

record IsBody (ts : Tokens) (q : List Stmt × Tokens) : Type 0 where
  inside : Tokens
  close : Tokens
  opens : Takes (Mark m.LeftBrace) ts inside
  inners : Inners STATEMENT_NESTING inside q.0 close
  closes : Takes (Mark m.RightBrace) close q.1

sound_function_body : (ts : Tokens) (q : List Stmt × Tokens) → p.body ts ≡ Ok q → IsBody ts q
sound_function_body ts q e =
    let (o, do', dk) = bind_ok (expect m.LeftBrace ts) (λ _. braced STATEMENT_NESTING (statement STATEMENT_NESTING)) e in
    let b = sound_braced STATEMENT_NESTING (statement STATEMENT_NESTING) (sound_statement STATEMENT_NESTING) o.1 q dk in
    record { inside = o.1; close = b.close; opens = expect_takes m.LeftBrace ts o do'; inners = b.inners; closes = b.closes }

sound_function : (ts us vs : Tokens) (a : CType) (f : Field) (q : Item × Tokens)
    → ResultBase ts a us → IsNamed a us (f, vs) → p.function (line_at ts) f vs ≡ Ok q → IsItem ts q
sound_function ts us vs a f q r n e =
    let made : List Field → List Stmt → Item = λ fs ss.
    item.Func (record { name = f.name; result = f.ty; params = fs; body = ss; line = line_at ts }) in
    let after_params : List Field → Step Item = λ fs vs. bind (p.body vs) (λ ss. pure (made fs ss)) in
    let (fs, df, dm) = bind_ok (bind (expect m.LeftParen vs) (λ _. p.params)) after_params e in
    let (o, do', dn) = bind_ok (expect m.LeftParen vs) (λ _. p.params) df in
    let (ss, ds, dp) = bind_ok (p.body fs.1) (λ ss. pure (made fs.0 ss)) dm in
    let body = sound_function_body fs.1 ss ds in
    yields (IsItem ts) (made fs.0 ss.0, ss.1) q
    (g.function r n.stars n.takes (expect_takes m.LeftParen vs o do') (sound_params o.1 fs dn) body.opens body.inners body.closes) dp

-- ---- programs

-- an item behind those that were read before
abbrev FoundItems : List Item → Tokens → List Item × Tokens → Type 0
FoundItems is ts q = (js : List Item) × Items ts js q.1 × (q.0 ≡ is ++ js)

one_item : (is : List Item) (ts : Tokens) (o : Read Item) (q : List Item × Tokens)
    → ((r : Item × Tokens) → o ≡ Ok r → IsItem ts r) → bind o (λ i. pure (is ++ i ∷ [])) ≡ Ok q → FoundItems is ts q
one_item is ts o q h e =
    let (i, di, dk) = bind_ok o (λ i. pure (is ++ i ∷ [])) e in
    yields (FoundItems is ts) (is ++ i.0 ∷ [], i.1) q (i.0 ∷ [], h i di, refl) dk

-- The stars and the name of the first global are read once, before it is known to be one.
regrouped : {A B C : Type 0} (o : Read A) (x : A → B) (k : B → Step C) → bind (bind o (λ a. pure (x a))) k ≡ bind o (λ a. k (x a))
regrouped (Ok p) x k = refl
regrouped (Err e) x k = refl

globals_named : (line : ℕ) (a : CType) (f : Field) (is : List Item) (ts us : Tokens)
    → named a ts ≡ Ok (f, us) → repeat (p.global_name line a) is ts ≡ p.declared_by line a f is false us
globals_named line a f is ts us n =
    let typed : CType → Field = λ c. record { name = f.name; ty = c } in
    let behind : Field → Step (List Item × Bool) = λ f us. bind (p.starts us) (λ s vs. p.global_by (is ++ global line f s ∷ []) (mark_at vs) vs) in
    repeat_is (p.global_name line a) (global_shorter line a) is ts
    ∙ ap
    (λ o. bind (bind (bind o (λ f us. bind (dimensions DECLARATOR_DIMENSIONS f.ty us) (λ c. pure (record { name = f.name; ty = c })))) behind)
    (λ r. after_turn (repeat (p.global_name line a)) r.0 r.1)) n
    ∙ ap (λ o. bind o (λ r. after_turn (repeat (p.global_name line a)) r.0 r.1)) (regrouped (dimensions DECLARATOR_DIMENSIONS f.ty us) typed behind)

sound_declared : (is : List Item) (ts us : Tokens) (a : CType) (q : List Item × Tokens)
    → Base ts a us → p.declared (line_at ts) a is us ≡ Ok q → FoundItems is ts q
sound_declared is ts us a q b e =
    let (f, df, dk) = bind_ok (named a us) (λ f vs. p.declared_by (line_at ts) a f is (is_mark m.LeftParen vs) vs) e in
    by f.0 f.1 df (is_mark m.LeftParen f.1) dk
  where
    by : (f : Field) (vs : Tokens) → named a us ≡ Ok (f, vs) → (c : Bool) → p.declared_by (line_at ts) a f is c vs ≡ Ok q → FoundItems is ts q
    by f vs d true e =
        one_item is ts (p.function (line_at ts) f vs) q (λ r k. sound_function ts us vs a f r (g.base b) (sound_named a us (f, vs) d) k) e
    by f vs d false e =
        let (js, r, all) = sound_globals (line_at ts) a is us q (globals_named (line_at ts) a f is us vs d ∙ e) in (js, g.globals b r, all)

sound_struct : (is : List Item) (ts us vs : Tokens) (w : Name) (q : List Item × Tokens) → Takes (Key key.Struct) ts us → Takes (Word w) us vs
    → (c : Bool) → p.struct_by (line_at ts) w is c vs ≡ Ok q → FoundItems is ts q
sound_struct is ts us vs w q k t true e =
    let made : List Field → Item = λ fs. item.Struct (record { name = w; fields = fs; line = line_at ts }) in
    let (fs, df, dk) = bind_ok (p.struct_body vs) (λ fs. pure (is ++ made fs ∷ [])) e in
    let s = sound_body vs fs df in
    yields (FoundItems is ts) (is ++ made fs.0 ∷ [], fs.1) q (made fs.0 ∷ [], g.structure k t s.brace s.fields s.closes s.ends, refl) dk
sound_struct is ts us vs w q k t false e = sound_declared is ts vs (type.Struct w) q (ty.structure k t) e

sound_item : (is : List Item) (ts : Tokens) (q : List Item × Tokens) → p.items_step is ts ≡ Ok q → FoundItems is ts q
sound_item is ts q e = by (key_at ts) refl e
  where
    by_base : bind (base ts) (λ a. p.declared (line_at ts) a is) ≡ Ok q → FoundItems is ts q
    by_base e =
        let (a, da, dk) = bind_ok (base ts) (λ a. p.declared (line_at ts) a is) e in
        sound_declared is ts a.1 a.0 q (sound_base ts a da) dk

    by : (c : Option the_key.Key) → key_at ts ≡ c → p.item_by (line_at ts) is c ts ≡ Ok q → FoundItems is ts q
    by (Some key.Struct) d e =
        let (w, dw, dk) = bind_ok (word (tail ts)) (λ w vs. p.struct_by (line_at ts) w is (is_mark m.LeftBrace vs) vs) e in
        sound_struct is ts (tail ts) w.1 w.0 q (key_takes ts d) (word_takes (tail ts) w dw) (is_mark m.LeftBrace w.1) dk
    by (Some key.Void) d e =
        let (f, df, dk) = bind_ok (named type.Void (tail ts)) (λ f vs. bind (p.function (line_at ts) f vs) (λ i. pure (is ++ i ∷ []))) e in
        one_item is ts (p.function (line_at ts) f.0 f.1) q
        (λ r k. sound_function ts (tail ts) f.1 type.Void f.0 r (g.void (key_takes ts d)) (sound_named type.Void (tail ts) f df) k) dk
    by _ d e = by_base e

pub data ItemTurn (is : List Item) : Tokens → (List Item × Bool) × Tokens → Type 0 where
  over : ItemTurn is [] ((is, true), [])
  again : {ts us : Tokens} {js all : List Item} → Items ts js us → all ≡ is ++ js → ItemTurn is ts ((all, false), us)

pub item_turn : (is : List Item) (ts : Tokens) (q : (List Item × Bool) × Tokens) → p.item_turn is ts ≡ Ok q → ItemTurn is ts q
item_turn is [] q e = yields (ItemTurn is []) ((is, true), []) q over e
item_turn is (t ∷ ts) q e =
    let (a, da, dk) = bind_ok (p.items_step is (t ∷ ts)) (λ all. pure (all, false)) e in
    let (js, r, all) = sound_item is (t ∷ ts) a da in
    yields (ItemTurn is (t ∷ ts)) ((a.0, false), a.1) q (again r all) dk

globals_shorter : {line : ℕ} {a : CType} {ts us : Tokens} {is : List Item} → Globals line a ts is us → length us < length ts
globals_shorter (g.last d s t) = let x = declarator_shorter d in let y = starts_shorter s in let z = takes_shorter t in omega arith
globals_shorter (g.more d s t r) =
    let x = declarator_shorter d in let y = starts_shorter s in let z = takes_shorter t in let u = globals_shorter r in omega arith

fields_shorter : {ts us : Tokens} {fs : List Field} → Fields ts fs us → length us < length ts
fields_shorter (g.last b r) = let x = base_shorter b in let y = names_shorter r in omega arith
fields_shorter (g.more b r q) = let x = base_shorter b in let y = names_shorter r in let z = fields_shorter q in omega arith

result_shorter : {ts us : Tokens} {a : CType} → ResultBase ts a us → length us < length ts
result_shorter (g.base b) = base_shorter b
result_shorter (g.void t) = takes_shorter t

list_shorter : {ts us : Tokens} {fs : List Field} → ParamList ts fs us → length us < length ts
list_shorter (g.last d t) = let x = param_shorter d in let y = takes_shorter t in omega arith
list_shorter (g.more d t r) = let x = param_shorter d in let y = takes_shorter t in let z = list_shorter r in omega arith

params_shorter : {ts us : Tokens} {fs : List Field} → Params ts fs us → length us < length ts
params_shorter (g.none t) = takes_shorter t
params_shorter (g.void t u) = let x = takes_shorter t in let y = takes_shorter u in omega arith
params_shorter (g.some r) = list_shorter r

pub items_shorter : {ts us : Tokens} {is : List Item} → Items ts is us → length us < length ts
items_shorter (g.structure a b c d e f) =
    let x = takes_shorter a in
    let y = takes_shorter b in
    let z = takes_shorter c in
    let u = fields_shorter d in
    let v = takes_shorter e in
    let w = takes_shorter f in
    omega arith
items_shorter (g.globals b r) = let x = base_shorter b in let y = globals_shorter r in omega arith
items_shorter (g.function r s t o q b i c) =
    let x = result_shorter r in
    let y = stars_shorter s in
    let z = takes_shorter t in
    let u = takes_shorter o in
    let v = params_shorter q in
    let w = takes_shorter b in
    let j = inners_shorter i in
    let k = takes_shorter c in
    omega arith

pub step_shorter : (is : List Item) (ts : Tokens) (q : List Item × Tokens) → p.items_step is ts ≡ Ok q → length q.1 < length ts
step_shorter is ts q e = let (js, r, all) = sound_item is ts q e in items_shorter r

turn_takes : (a b : List Item) (ts us : Tokens) → ItemTurn a ts ((b, false), us) → length us < length ts
turn_takes a b ts us (again r all) = items_shorter r

pub item_turn_shorter : (a b : List Item) (ts us : Tokens) → p.item_turn a ts ≡ Ok ((b, false), us) → length us < length ts
item_turn_shorter a b ts us e = turn_takes a b ts us (item_turn a ts ((b, false), us) e)

abbrev FoundProgram : List Item → Tokens → List Item → Tokens → Type 0
FoundProgram xs ts ys us = (zs : List Item) × AllItems ts zs × (ys ≡ xs ++ zs)

program_last : (a b : List Item) (ts us : Tokens) → ItemTurn a ts ((b, true), us) → FoundProgram a ts b us
program_last a b ts us over = ([], g.end, sym (append-nil a))

program_next : (a b c : List Item) (ts us vs : Tokens) → ItemTurn a ts ((b, false), us) → FoundProgram b us c vs → FoundProgram a ts c vs
program_next a b c ts us vs (again {js = js} r all) (zs, q, is) = (js ++ zs, g.next r q, is ∙ ap (λ l. l ++ zs) all ∙ append_assoc a js zs)

-- What the parser reads is in the grammar.
pub sound_program : (ts : Tokens) (q : List Item × Tokens) → p.all_items ts ≡ Ok q → AllItems ts q.0
sound_program ts q e =
    let (zs, r, is) = repeat_keeps p.item_turn FoundProgram
    (λ a b ts us e. program_last a b ts us (item_turn a ts ((b, true), us) e))
    (λ a b c ts us vs e k. program_next a b c ts us vs (item_turn a ts ((b, false), us) e) k) [] ts q e in
    subst (AllItems ts) (sym is) r

-- ---- what is in the grammar the parser reads

takes_mark : {c : the_mark.Mark} {ts us : Tokens} → Takes (Mark c) ts us → mark_at ts ≡ Some c
takes_mark t = ap mark_in (takes_kind t)

takes_key : {c : the_key.Key} {ts us : Tokens} → Takes (Key c) ts us → key_at ts ≡ Some c
takes_key (takes d) = ap (λ k. key_in (Some k)) d

complete_names : {a : CType} {ts us : Tokens} {fs : List Field} (found : List Field)
    → FieldNames a ts fs us → repeat (p.field_name a) found ts ≡ Ok (found ++ fs, us)
unfolding same_mark
complete_names {a} {ts} {us} found (g.last {f = f} d t) =
    repeat_last (p.field_name a) (field_shorter a) found (found ++ f ∷ []) ts us
    (rw (complete_declarator d (not_mark m.LeftBracket t refl), takes_mark t, takes_tail t) refl)
complete_names {a} {ts} {us} found (g.more {vs = vs} {f = f} {fs = fs} d t r) =
    repeat_next (p.field_name a) (field_shorter a) found (found ++ f ∷ []) ts vs
    (rw (complete_declarator d (not_mark m.LeftBracket t refl), takes_mark t, takes_tail t) refl)
    ∙ complete_names (found ++ f ∷ []) r
    ∙ ap (λ l. Ok (l, us)) (append_assoc found (f ∷ []) fs)

ends_names : {a : CType} {ts us : Tokens} {fs : List Field} → FieldNames a ts fs us → EndsType ts
ends_names (g.last d t) = ends_declarator d
ends_names (g.more d t r) = ends_declarator d

complete_line : {a : CType} {ts us vs : Tokens} {fs : List Field} (found : List Field)
    → Base ts a us → FieldNames a us fs vs → p.field_line found ts ≡ Ok (found ++ fs, vs)
complete_line found b r = rw (complete_base b (ends_names r)) (complete_names found r)

base_no_brace : {ts : Tokens} → FirstBase ts → is_mark m.RightBrace ts ≡ false
base_no_brace (by_int t) = not_mark m.RightBrace t refl
base_no_brace (by_long t) = not_mark m.RightBrace t refl
base_no_brace (by_struct t) = not_mark m.RightBrace t refl

fields_no_brace : {ts us : Tokens} {fs : List Field} → Fields ts fs us → is_mark m.RightBrace ts ≡ false
fields_no_brace (g.last b r) = base_no_brace (first_base b)
fields_no_brace (g.more b r q) = base_no_brace (first_base b)

complete_fields : {ts us vs : Tokens} {fs : List Field} (found : List Field)
    → Fields ts fs us → Takes (Mark m.RightBrace) us vs → repeat p.field_turn found ts ≡ Ok (found ++ fs, us)
complete_fields found (g.last {ts = ts} {vs = us} {fs = fs} b r) t =
    repeat_last p.field_turn line_shorter found (found ++ fs) ts us (rw (complete_line found b r, takes_is_mark t) refl)
complete_fields {us = us} found (g.more {ts = ts} {vs = vs} {fs = fs} {gs = gs} b r q) t =
    repeat_next p.field_turn line_shorter found (found ++ fs) ts vs (rw (complete_line found b r, fields_no_brace q) refl)
    ∙ complete_fields (found ++ fs) q t
    ∙ ap (λ l. Ok (l, us)) (append_assoc found fs gs)

complete_starts : {k : the_mark.Mark} {ts us vs : Tokens} {s : Start}
    → Starts ts s us → Takes (Mark k) us vs → is_mark_in m.Assign (Some k) ≡ false → p.starts ts ≡ Ok (s, us)
complete_starts g.nothing t h = rw (not_mark m.Assign t h) refl
complete_starts (g.number a b) t h = rw (takes_is_mark a, takes_tail a, takes_kind b, takes_tail b) refl
complete_starts (g.negative a b c) t h = rw (takes_is_mark a, takes_tail a, takes_kind b, takes_tail b, takes_kind c, takes_tail c) refl
complete_starts (g.null a b) t h = rw (takes_is_mark a, takes_tail a, takes_kind b, takes_tail b) refl

no_bracket : {k : the_mark.Mark} {ts us vs : Tokens} {s : Start}
    → Starts ts s us → Takes (Mark k) us vs → is_mark_in m.LeftBracket (Some k) ≡ false → is_mark m.LeftBracket ts ≡ false
unfolding same_mark
no_bracket g.nothing t h = not_mark m.LeftBracket t h
no_bracket (g.number a b) t h = not_mark m.LeftBracket a refl
no_bracket (g.negative a b c) t h = not_mark m.LeftBracket a refl
no_bracket (g.null a b) t h = not_mark m.LeftBracket a refl

complete_globals : {line : ℕ} {a : CType} {ts us : Tokens} {is : List Item} (found : List Item)
    → Globals line a ts is us → repeat (p.global_name line a) found ts ≡ Ok (found ++ is, us)
unfolding same_mark
complete_globals {line} {a} {ts} {us} found (g.last {f = f} {s = s} d i t) =
    repeat_last (p.global_name line a) (global_shorter line a) found (found ++ global line f s ∷ []) ts us
    (rw (complete_declarator d (no_bracket i t refl), complete_starts i t refl, takes_mark t, takes_tail t) refl)
complete_globals {line} {a} {ts} {us} found (g.more {ws = ws} {f = f} {s = s} {is = is} d i t r) =
    repeat_next (p.global_name line a) (global_shorter line a) found (found ++ global line f s ∷ []) ts ws
    (rw (complete_declarator d (no_bracket i t refl), complete_starts i t refl, takes_mark t, takes_tail t) refl)
    ∙ complete_globals (found ++ global line f s ∷ []) r
    ∙ ap (λ l. Ok (l, us)) (append_assoc found (global line f s ∷ []) is)

complete_param : {ts us : Tokens} {f : Field} → Param ts f us → p.param ts ≡ Ok (f, us)
complete_param (g.param b s t) = rw (complete_base b (ends_stars s t refl refl), complete_stars s (not_mark m.Star t refl), takes_word t) refl

complete_list : {ts us : Tokens} {fs : List Field} (found : List Field) → ParamList ts fs us → repeat p.param_turn found ts ≡ Ok (found ++ fs, us)
complete_list {ts} {us} found (g.last {f = f} d t) =
    repeat_last p.param_turn param_turn_shorter found (found ++ f ∷ []) ts us (rw (complete_param d, takes_mark t, takes_tail t) refl)
complete_list {ts} {us} found (g.more {vs = vs} {f = f} {fs = fs} d t r) =
    repeat_next p.param_turn param_turn_shorter found (found ++ f ∷ []) ts vs (rw (complete_param d, takes_mark t, takes_tail t) refl)
    ∙ complete_list (found ++ f ∷ []) r
    ∙ ap (λ l. Ok (l, us)) (append_assoc found (f ∷ []) fs)

first_param : {ts us : Tokens} {f : Field} → Param ts f us → FirstBase ts
first_param (g.param b s t) = first_base b

first_list : {ts us : Tokens} {fs : List Field} → ParamList ts fs us → FirstBase ts
first_list (g.last d t) = first_param d
first_list (g.more d t r) = first_param d

params_open : {ts : Tokens} → FirstBase ts → p.params ts ≡ repeat p.param_turn [] ts
params_open {ts} (by_int t) = ap (λ c. p.params_by c ts) (takes_kind t)
params_open {ts} (by_long t) = ap (λ c. p.params_by c ts) (takes_kind t)
params_open {ts} (by_struct t) = ap (λ c. p.params_by c ts) (takes_kind t)

complete_params : {ts us : Tokens} {fs : List Field} → Params ts fs us → p.params ts ≡ Ok (fs, us)
complete_params (g.none t) = rw (takes_kind t, takes_tail t) refl
complete_params (g.void t u) = rw (takes_kind t, takes_tail t, takes_expect u) refl
complete_params (g.some r) = params_open (first_list r) ∙ complete_list [] r

complete_body : {ts us vs ws : Tokens} {ss : List Stmt}
    → Takes (Mark m.LeftBrace) ts us → Inners STATEMENT_NESTING us ss vs → Takes (Mark m.RightBrace) vs ws → p.body ts ≡ Ok (ss, ws)
complete_body o i c = rw (takes_expect o, complete_inners [] i c, takes_expect c) refl

complete_function : {b : CType} {w : Name} {t₃ t₄ t₅ t₆ t₇ t₈ : Tokens} {fs : List Field} {ss : List Stmt} (line : ℕ)
    → Takes (Mark m.LeftParen) t₃ t₄ → Params t₄ fs t₅ → Takes (Mark m.LeftBrace) t₅ t₆
    → Inners STATEMENT_NESTING t₆ ss t₇ → Takes (Mark m.RightBrace) t₇ t₈
    → p.function line (record { name = w; ty = b }) t₃ ≡ Ok (item.Func (record { name = w; result = b; params = fs; body = ss; line = line }), t₈)
complete_function line o q b i c = rw (takes_expect o, complete_params q, complete_body b i c) refl

-- ---- which item it is

dimensions_no_call : {n : ℕ} {a b : CType} {ts us : Tokens} → Dimensions n a ts b us → is_mark m.LeftParen us ≡ false → is_mark m.LeftParen ts ≡ false
unfolding same_mark
dimensions_no_call ty.none h = h
dimensions_no_call (ty.dimension t v low high u r) h = not_mark m.LeftParen t refl

starts_no_call : {k : the_mark.Mark} {ts us vs : Tokens} {s : Start}
    → Starts ts s us → Takes (Mark k) us vs → is_mark_in m.LeftParen (Some k) ≡ false → is_mark m.LeftParen ts ≡ false
unfolding same_mark
starts_no_call g.nothing t h = not_mark m.LeftParen t h
starts_no_call (g.number a b) t h = not_mark m.LeftParen a refl
starts_no_call (g.negative a b c) t h = not_mark m.LeftParen a refl
starts_no_call (g.null a b) t h = not_mark m.LeftParen a refl

-- the first name of some globals, which no `(` follows
record FirstName (a : CType) (ts : Tokens) : Type 0 where
  name : Name
  ty : CType
  at : Tokens
  behind : Tokens
  stars : Stars DECLARATOR_STARS a ts ty at
  takes : Takes (Word name) at behind
  no_call : is_mark m.LeftParen behind ≡ false

first_name : {a : CType} {ts us : Tokens} {f : Field} → Declarator a ts f us → is_mark m.LeftParen us ≡ false → FirstName a ts
first_name (ty.declarator {b = b} {w = w} {us = us} {vs = vs} s t d) h =
    record { name = w; ty = b; at = us; behind = vs; stars = s; takes = t; no_call = dimensions_no_call d h }

first_of : {line : ℕ} {a : CType} {ts us : Tokens} {is : List Item} → Globals line a ts is us → FirstName a ts
unfolding same_mark
first_of (g.last d s t) = first_name d (starts_no_call s t refl)
first_of (g.more d s t r) = first_name d (starts_no_call s t refl)

complete_declared : {line : ℕ} {a : CType} {ts us : Tokens} {js : List Item} (is : List Item)
    → Globals line a ts js us → FirstName a ts → p.declared line a is ts ≡ Ok (is ++ js, us)
complete_declared {line} {a} {ts} is r n =
    ap (λ o. bind o (λ f vs. p.declared_by line a f is (is_mark m.LeftParen vs) vs)) (complete_named n.stars n.takes)
    ∙ ap (λ c. p.declared_by line a (record { name = n.name; ty = n.ty }) is c n.behind) n.no_call
    ∙ sym (globals_named line a (record { name = n.name; ty = n.ty }) is ts n.behind (complete_named n.stars n.takes))
    ∙ complete_globals is r

ends_globals : {line : ℕ} {a : CType} {ts us : Tokens} {is : List Item} → Globals line a ts is us → EndsType ts
ends_globals (g.last d s t) = ends_declarator d
ends_globals (g.more d s t r) = ends_declarator d

stars_no_brace : {w : Name} {n : ℕ} {a b : CType} {ts us vs : Tokens} → Stars n a ts b us → Takes (Word w) us vs → is_mark m.LeftBrace ts ≡ false
unfolding same_mark
stars_no_brace ty.none t = not_mark m.LeftBrace t refl
stars_no_brace (ty.star s r) t = not_mark m.LeftBrace s refl

declarator_no_brace : {a : CType} {ts us : Tokens} {f : Field} → Declarator a ts f us → is_mark m.LeftBrace ts ≡ false
declarator_no_brace (ty.declarator s t d) = stars_no_brace s t

globals_no_brace : {line : ℕ} {a : CType} {ts us : Tokens} {is : List Item} → Globals line a ts is us → is_mark m.LeftBrace ts ≡ false
globals_no_brace (g.last d s t) = declarator_no_brace d
globals_no_brace (g.more d s t r) = declarator_no_brace d

-- what comes behind a type's base is no `{`
by_base : {ts us : Tokens} {a : CType} (is : List Item)
    → Base ts a us → EndsType us → is_mark m.LeftBrace us ≡ false → p.items_step is ts ≡ p.declared (line_at ts) a is us
by_base {ts} {us} {a} is (ty.int t) end h = ap (λ c. p.item_by (line_at ts) is c ts) (takes_key t) ∙ rw (complete_base (ty.int t) end) refl
by_base {ts} {us} {a} is (ty.long t u v) end h =
    ap (λ c. p.item_by (line_at ts) is c ts) (takes_key t)
    ∙ ap (λ o. bind o (λ a. p.declared (line_at ts) a is)) (complete_base (ty.long t u v) end)
by_base {ts} {us} is (ty.structure {w = w} t u) end h =
    ap (λ c. p.item_by (line_at ts) is c ts) (takes_key t)
    ∙ ap (λ z. bind (word z) (λ w vs. p.struct_by (line_at ts) w is (is_mark m.LeftBrace vs) vs)) (takes_tail t)
    ∙ ap (λ o. bind o (λ w vs. p.struct_by (line_at ts) w is (is_mark m.LeftBrace vs) vs)) (takes_word u)
    ∙ ap (λ c. p.struct_by (line_at ts) w is c us) h

declared_function : {a b : CType} {w : Name} {ts us vs : Tokens} (line : ℕ) (is : List Item) (q : Item × Tokens)
    → Stars DECLARATOR_STARS a ts b us → Takes (Word w) us vs → is_mark m.LeftParen vs ≡ true
    → p.function line (record { name = w; ty = b }) vs ≡ Ok q → p.declared line a is ts ≡ Ok (is ++ q.0 ∷ [], q.1)
declared_function {a} {b} {w} {vs = vs} line is q s t h e =
    ap (λ o. bind o (λ f vs. p.declared_by line a f is (is_mark m.LeftParen vs) vs)) (complete_named s t)
    ∙ ap (λ c. p.declared_by line a (record { name = w; ty = b }) is c vs) h
    ∙ ap (λ o. bind o (λ i. pure (is ++ i ∷ []))) e

complete_items : {ts us : Tokens} {js : List Item} (is : List Item) → Items ts js us → p.items_step is ts ≡ Ok (is ++ js, us)
complete_items is (g.structure {t₀ = ts} {t₂ = us} {w = w} a b c d e f) =
    ap (λ c. p.item_by (line_at ts) is c ts) (takes_key a)
    ∙ ap (λ z. bind (word z) (λ w vs. p.struct_by (line_at ts) w is (is_mark m.LeftBrace vs) vs)) (takes_tail a)
    ∙ ap (λ o. bind o (λ w vs. p.struct_by (line_at ts) w is (is_mark m.LeftBrace vs) vs)) (takes_word b)
    ∙ ap (λ c. p.struct_by (line_at ts) w is c us) (takes_is_mark c)
    ∙ rw (takes_expect c, complete_fields [] d e, takes_expect e, takes_expect f) refl
complete_items is (g.globals b r) = by_base is b (ends_globals r) (globals_no_brace r) ∙ complete_declared is r (first_of r)
complete_items is (g.function {t₀ = ts} (g.base k) s t o q b i c) =
    by_base is k (ends_stars s t refl refl) (stars_no_brace s t)
    ∙ declared_function (line_at ts) is _ s t (takes_is_mark o) (complete_function (line_at ts) o q b i c)
complete_items is (g.function {t₀ = ts} {t₃ = vs} {b = r} {w = w} (g.void k) s t o q b i c) =
    ap (λ c. p.item_by (line_at ts) is c ts) (takes_key k)
    ∙ ap (λ z. bind (named type.Void z) (λ f us. bind (p.function (line_at ts) f us) (λ i. pure (is ++ i ∷ [])))) (takes_tail k)
    ∙ ap (λ z. bind z (λ f us. bind (p.function (line_at ts) f us) (λ i. pure (is ++ i ∷ [])))) (complete_named s t)
    ∙ ap (λ z. bind z (λ i. pure (is ++ i ∷ []))) (complete_function (line_at ts) o q b i c)

-- an item takes tokens, so there are some
some_left : (is : List Item) {ts us : Tokens} {js : List Item} → Items ts js us → p.item_turn is ts ≡ bind (p.items_step is ts) (λ all. pure (all, false))
some_left is {ts} {us} r = by ts us (items_shorter r)
  where
    by : (ts us : Tokens) → length us < length ts → p.item_turn is ts ≡ bind (p.items_step is ts) (λ all. pure (all, false))
    by [] us lt = absurd (omega arith)
    by (t ∷ ts) us lt = refl

complete_all : {ts : Tokens} {js : List Item} (found : List Item) → AllItems ts js → repeat p.item_turn found ts ≡ Ok (found ++ js, [])
complete_all found g.end = repeat_last p.item_turn item_turn_shorter found found [] [] refl ∙ ap (λ l. Ok (l, [])) (sym (append-nil found))
complete_all found (g.next {ts = ts} {us = us} {is = is} {js = js} r q) =
    repeat_next p.item_turn item_turn_shorter found (found ++ is) ts us
    (some_left found r ∙ ap (λ o. bind o (λ all. pure (all, false))) (complete_items found r))
    ∙ complete_all (found ++ is) q
    ∙ ap (λ l. Ok (l, [])) (append_assoc found is js)

-- Tokens in the grammar are read, as what they derive.
pub complete_program : {ts : Tokens} {is : List Item} → AllItems ts is → p.all_items ts ≡ Ok (is, [])
complete_program r = complete_all [] r

same_pair : {x y : List Item × Tokens} → ◌≡◌ {A = Read (List Item)} (Ok x) (Ok y) → x ≡ y
same_pair d = cc

pub one_list : {ts : Tokens} {is js : List Item} → AllItems ts is → AllItems ts js → is ≡ js
one_list r q = ap (λ p. p.0) (same_pair (sym (complete_program r) ∙ complete_program q))
