-- The printed tokens of a program that was derived derive that program, but for its lines.
use Rattle.std.proofs.Common.{◌≡◌, ℕ, zero, suc, false, List, [], ◌∷◌, ◌++◌, append_assoc, map, refl, sym, ap, subst, ◌∙◌, ℤ, pos, negsuc}
use Rattle.std.proofs.lemmas.List.{map-append}
use Rattle.std.specs.Prelude.{neg_ℤ}
use Rattle.al_source.specs.declared.tokens.TokenKind.TheVariants.{Word, Mark}
use Rattle.al_source.specs.declared.tokens.Mark.TheVariants as m
use Rattle.al_source.specs.declared.source_tree.CType.{CType}
use Rattle.al_source.specs.declared.source_tree.Field.{Field}
use Rattle.al_source.specs.declared.source_tree.Start.{Start}
use Rattle.al_source.specs.declared.source_tree.Start.TheVariants as start
use Rattle.al_source.specs.declared.source_tree.Stmt.{Stmt}
use Rattle.al_source.specs.declared.source_tree.Func.{Func}
use Rattle.al_source.specs.declared.source_tree.StructDef.{StructDef}
use Rattle.al_source.specs.declared.source_tree.Item.{Item}
use Rattle.al_source.specs.declared.source_tree.Item.TheVariants as item
use Rattle.al_grammar.specs.Phrases.{Tokens, Takes, line_at}
use Rattle.al_grammar.specs.Programs.{FieldNames, Fields, Starts, Globals, ResultBase, Param, ParamList, Params, Items, AllItems, Derives, global}
use Rattle.al_grammar.specs.Programs as g
use Rattle.al_print.specs.Lines.{unlined_item}
use Rattle.al_print.specs.Tokens.{Kinds, type_front, dimensions, declared, start_value, field, fields, parameter, more_parameters, parameters, structure, signature, function, item_tokens, items_tokens, statements}
use Rattle.al_print.proofs.Cases.{front-Void}
use Rattle.al_print.proofs.Front.{Has, none, split, split3, first, only, whole}
use Rattle.al_print.proofs.Plain.{IsNumber, AllWritable, Orderly, orderly, orderly3, taken, left}
use Rattle.al_print.proofs.Again.{Again, given, tidied}
use Rattle.al_print.proofs.PrintedTypes.{BaseAgain, base, DeclaredAgain, declarator, stars}
use Rattle.al_print.proofs.PrintedStatements.{inners_again}
use Rattle.al_print.proofs.NoElse.{takes_other}

-- ---- structs

fields-append : (fs gs : List Field) → fields (fs ++ gs) ≡ fields fs ++ fields gs
fields-append [] gs = refl
fields-append (f ∷ fs) gs = ap (λ (ks : Kinds). field f ++ ks) (fields-append fs gs) ∙ sym (append_assoc (field f) (fields fs) (fields gs))

join_fields : {ts us vs : Tokens} {fs gs : List Field} → Fields ts fs us → Fields us gs vs → Fields ts (fs ++ gs) vs
join_fields (g.last b n) k = g.more b n k
join_fields {ts} {us} {vs} {gs = gs} (g.more {fs = fs} {gs = hs} b n r) k =
    subst (λ (xs : List Field). Fields ts xs vs) (sym (append_assoc fs hs gs)) (g.more b n (join_fields r k))

-- the fields of one line, each on its own
field_names : {a : CType} {ts us bs : Tokens} {fs : List Field}
    → FieldNames a ts fs us → BaseAgain a bs → AllWritable ts → Again (λ vs ws. Fields vs fs ws) (fields fs) us
field_names (g.last {f = f} d t) p h =
    let c = declarator d p.flat h in
    record {
      reads = λ vs ws k.
          let (m₁, k₁, k₂) = split (declared f.ty f.name) (whole (field f) k) in
          let (m₂, k₃, e) = c.reads vs m₁ k₁ in
          g.last (p.again.reads vs m₂ k₃) (g.last e (only k₂));
      tidy = orderly false (field f) _ (orderly false (declared f.ty f.name) _ (c.tidy p.again.tidy) tt) tt;
      left = left t c.left;
    }
field_names (g.more {f = f} {fs = fs} d t r) p h =
    let c = declarator d p.flat h in
    let b = field_names r p (left t c.left) in
    record {
      reads = λ vs ws k.
          let (m₁, k₁, k₂) = split (field f) k in
          let (m₂, k₃, k₄) = split (declared f.ty f.name) k₁ in
          let (m₃, k₅, e) = c.reads vs m₂ k₃ in
          g.more (p.again.reads vs m₃ k₅) (g.last e (only k₄)) (b.reads m₁ ws k₂);
      tidy = orderly false (field f) _ (orderly false (declared f.ty f.name) _ (c.tidy p.again.tidy) tt) b.tidy;
      left = b.left;
    }

all_fields : {ts us : Tokens} {fs : List Field} → Fields ts fs us → AllWritable ts → Again (λ vs ws. Fields vs fs ws) (fields fs) us
all_fields (g.last b n) h = let p = base b h in field_names n p p.again.left
all_fields (g.more {fs = fs} {gs = gs} b n r) h =
    let p = base b h in
    let c = field_names n p p.again.left in
    let d = all_fields r c.left in
    record {
      reads = λ vs ws k. let (m₁, k₁, k₂) = split (fields fs) (given (fields-append fs gs) k) in join_fields (c.reads vs m₁ k₁) (d.reads m₁ ws k₂);
      tidy = tidied (fields-append fs gs) (orderly false (fields fs) _ c.tidy d.tidy);
      left = d.left;
    }

-- ---- globals

no_start : {vs ws : Tokens} → Has [] vs ws → Starts vs start.Zero ws
no_start none = g.nothing

number_start : (v : ℤ) {us : Tokens} → IsNumber v → AllWritable us → Again (λ vs ws. Starts vs (start.Number v) ws) (start_value (start.Number v)) us
number_start (pos n) i h = record { reads = λ vs ws k. let (m₁, a₁, k₁) = first k in g.number a₁ (only k₁); tidy = (i, tt); left = h }
number_start (negsuc n) i h = absurd i

negative_start : (n : ℕ) {us : Tokens}
    → IsNumber (pos n) → AllWritable us → Again (λ vs ws. Starts vs (start.Number (neg_ℤ (pos n))) ws) (start_value (start.Number (neg_ℤ (pos n)))) us
negative_start zero i h = number_start (pos 0) i h
negative_start (suc n) i h = record {
  reads = λ vs ws k. let (m₁, a₁, k₁) = first k in let (m₂, a₂, k₂) = first k₁ in g.negative a₁ a₂ (only k₂);
  tidy = (i, tt);
  left = h;
}

starts : {ts us : Tokens} {s : Start} → Starts ts s us → AllWritable ts → Again (λ vs ws. Starts vs s ws) (start_value s) us
starts g.nothing h = record { reads = λ vs ws k. no_start k; tidy = tt; left = h }
starts (g.number {v = v} t u) h = number_start v (taken u (left t h)) (left u (left t h))
starts (g.negative {n = n} t u v) h = let i = left u (left t h) in negative_start n (taken v i) (left v i)
starts (g.null t u) h = record { reads = λ vs ws k. let (m₁, a₁, k₁) = first k in g.null a₁ (only k₁); tidy = tt; left = left u (left t h) }

-- ---- lists of items

record SameItems (xs ys : List Item) : Type 0 where
  is : map unlined_item xs ≡ map unlined_item ys

-- items before others
record ItemsAgain (is : List Item) (us : Tokens) : Type 0 where
  reads : (vs ws : Tokens) (qs : List Item) → Has (items_tokens is) vs ws → AllItems ws qs → (js : List Item) × AllItems vs (js ++ qs) × SameItems js is
  tidy : Orderly false (items_tokens is)
  left : AllWritable us

items-append : (is js : List Item) → items_tokens (is ++ js) ≡ items_tokens is ++ items_tokens js
items-append [] js = refl
items-append (i ∷ is) js =
    ap (λ (ks : Kinds). item_tokens i ++ ks) (items-append is js) ∙ sym (append_assoc (item_tokens i) (items_tokens is) (items_tokens js))

one_global : {a : CType} {bs us : Tokens} (l : ℕ) (f : Field) (s : Start) → BaseAgain a bs → DeclaredAgain a f us
    → ((vs ws : Tokens) → Has (start_value s) vs ws → Starts vs s ws)
    → (vs ws : Tokens) → Has (item_tokens (global l f s)) vs ws → Items vs (global (line_at vs) f s ∷ []) ws
one_global l f s p c r vs ws k =
    let (m₁, m₂, k₁, k₂, k₃) = split3 (declared f.ty f.name) (start_value s) k in
    let (m₃, k₄, e) = c.reads vs m₁ k₁ in
    g.globals (p.again.reads vs m₃ k₄) (g.last e (r m₁ m₂ k₂) (only k₃))

globals : {l : ℕ} {a : CType} {ts us bs : Tokens} {is : List Item} → Globals l a ts is us → BaseAgain a bs → AllWritable ts → ItemsAgain is us
globals {l} (g.last {f = f} {s = s} d r t) p h =
    let c = declarator d p.flat h in
    let v = starts r c.left in
    record {
      reads =
          λ vs ws qs k q.
          (global (line_at vs) f s ∷ [], g.next (one_global l f s p c v.reads vs ws (whole (item_tokens (global l f s)) k)) q, record { is = refl });
      tidy = orderly false (item_tokens (global l f s)) _ (orderly3 (declared f.ty f.name) (start_value s) _ (c.tidy p.again.tidy) v.tidy tt) tt;
      left = left t v.left;
    }
globals {l} (g.more {f = f} {s = s} d r t n) p h =
    let c = declarator d p.flat h in
    let v = starts r c.left in
    let b = globals n p (left t v.left) in
    record {
      reads = λ vs ws qs k q.
          let (m₁, k₁, k₂) = split (item_tokens (global l f s)) k in
          let (js, o, z) = b.reads m₁ ws qs k₂ q in
          (global (line_at vs) f s ∷ js, g.next (one_global l f s p c v.reads vs m₁ k₁) o, record { is = ap (λ (xs : List Item). global 0 f s ∷ xs) z.is });
      tidy = orderly false (item_tokens (global l f s)) _ (orderly3 (declared f.ty f.name) (start_value s) _ (c.tidy p.again.tidy) v.tidy tt) b.tidy;
      left = b.left;
    }

-- ---- functions

record ResultAgain (a : CType) (us : Tokens) : Type 0 where
  again : Again (λ vs ws. ResultBase vs a ws) (type_front a) us

result_base : {ts us : Tokens} {a : CType} → ResultBase ts a us → AllWritable ts → ResultAgain a us
result_base (g.base b) h =
    let p = base b h in record { again = record { reads = λ vs ws k. g.base (p.again.reads vs ws k); tidy = p.again.tidy; left = p.again.left } }
result_base (g.void t) h = record { again = record { reads = λ vs ws k. g.void (only (given front-Void k)); tidy = tidied front-Void tt; left = left t h } }

param : {ts us : Tokens} {f : Field} → Param ts f us → AllWritable ts → Again (λ vs ws. Param vs f ws) (parameter f) us
param (g.param {a = a} {b = b} {w = w} x s t) h =
    let p = base x h in
    let q = stars s p.again.left in
    let flat : dimensions b ≡ [] = q.flat ∙ p.flat in
    let is : parameter (record { name = w; ty = b }) ≡ (type_front a ++ q.marks) ++ Word w ∷ [] =
    ap (λ (ks : Kinds). type_front b ++ Word w ∷ ks) flat ∙ ap (λ (ks : Kinds). ks ++ Word w ∷ []) q.front in
    record {
      reads = λ vs ws k.
          let (m₁, m₂, k₁, k₂, k₃) = split3 (type_front a) q.marks (given is k) in
          g.param (p.again.reads vs m₁ k₁) (q.again.reads m₁ m₂ k₂) (only k₃);
      tidy = tidied is (orderly3 (type_front a) q.marks _ p.again.tidy q.again.tidy (taken t q.again.left, tt));
      left = left t q.again.left;
    }

-- parameters before the `)`
record ParamsAgain (fs : List Field) (us : Tokens) : Type 0 where
  commas : more_parameters fs ≡ Mark m.Comma ∷ parameters fs
  reads : (vs ms ws : Tokens) → Has (parameters fs) vs ms → Takes (Mark m.RightParen) ms ws → ParamList vs fs ws
  tidy : Orderly false (parameters fs)
  left : AllWritable us

param_list : {ts us : Tokens} {fs : List Field} → ParamList ts fs us → AllWritable ts → ParamsAgain fs us
param_list (g.last {f = f} x t) h = let a = param x h in record {
  commas = refl;
  reads = λ vs ms ws k r. g.last (a.reads vs ms (whole (parameter f) k)) r;
  tidy = orderly false (parameter f) _ a.tidy tt;
  left = left t a.left;
}
param_list (g.more {f = f} x t n) h = let a = param x h in let b = param_list n (left t a.left) in record {
  commas = refl;
  reads = λ vs ms ws k r.
      let (m₁, k₁, k₂) = split (parameter f) k in
      let (m₂, a₁, k₃) = first (given b.commas k₂) in
      g.more (a.reads vs m₁ k₁) a₁ (b.reads m₂ ms ws k₃ r);
  tidy = orderly false (parameter f) _ a.tidy (tidied b.commas b.tidy);
  left = b.left;
}

record AllParamsAgain (fs : List Field) (us : Tokens) : Type 0 where
  reads : (vs ms ws : Tokens) → Has (parameters fs) vs ms → Takes (Mark m.RightParen) ms ws → Params vs fs ws
  tidy : Orderly false (parameters fs)
  left : AllWritable us

no_params : {us : Tokens} → AllWritable us → AllParamsAgain [] us
no_params h = record { reads = λ vs ms ws k r. g.void (only k) r; tidy = tt; left = h }

all_params : {ts us : Tokens} {fs : List Field} → Params ts fs us → AllWritable ts → AllParamsAgain fs us
all_params (g.none t) h = no_params (left t h)
all_params (g.void t u) h = no_params (left u (left t h))
all_params (g.some q) h = let a = param_list q h in record { reads = λ vs ms ws k r. g.some (a.reads vs ms ws k r); tidy = a.tidy; left = a.left }

-- ---- items and programs

items : {ts us : Tokens} {is : List Item} → Items ts is us → AllWritable ts → ItemsAgain is us
items (g.structure {t₀ = t₀} {w = w} {fs = fs} t u v q x y) h =
    let a = all_fields q (left v (left u (left t h))) in
    let s : StructDef = record { name = w; fields = fs; line = line_at t₀ } in
    record {
      reads = λ vs ws qs k q.
          let (m₁, a₁, k₁) = first (whole (structure s) k) in
          let (m₂, a₂, k₂) = first k₁ in
          let (m₃, a₃, k₃) = first k₂ in
          let (m₄, k₄, k₅) = split (fields fs) k₃ in
          let (m₅, a₄, k₆) = first k₅ in
          let made : StructDef = record { name = w; fields = fs; line = line_at vs } in
          (item.Struct made ∷ [], g.next (g.structure a₁ a₂ a₃ (a.reads m₃ m₄ k₄) a₄ (only k₆)) q, record { is = refl });
      tidy = orderly false (structure s) _ (taken u (left t h), orderly false (fields fs) _ a.tidy tt) tt;
      left = left y (left x a.left);
    }
items (g.globals b n) h = let p = base b h in globals n p p.again.left
items (g.function {t₀ = t₀} {a = a} {b = b} {w = w} {fs = fs} {ss = ss} x s t u p v q y) h =
    let c = result_base x h in
    let d = stars s c.again.left in
    let e = all_params p (left u (left t d.again.left)) in
    let i = inners_again q (left v e.left) in
    let f : Func = record { name = w; result = b; params = fs; body = ss; line = line_at t₀ } in
    record {
      reads = λ vs ws qs k q.
          let (m₁, m₂, k₁, k₂, k₃) = split3 (signature f) (Mark m.LeftBrace ∷ statements ss) (whole (function f) k) in
          let (m₃, m₄, k₄, k₅, k₆) = split3 (type_front b) (Word w ∷ Mark m.LeftParen ∷ parameters fs) k₁ in
          let (m₅, k₇, k₈) = split (type_front a) (given d.front k₄) in
          let (m₆, a₁, k₉) = first k₅ in
          let (m₇, a₂, k₁₀) = first k₉ in
          let (m₈, a₃, k₁₁) = first k₂ in
          let a₄ = only k₃ in
          let (rs, n, z) = i.reads m₈ m₂ (takes_other a₄ refl) k₁₁ in (
            item.Func (record { name = w; result = b; params = fs; body = rs; line = line_at vs }) ∷ [],
            g.next (g.function (c.again.reads vs m₅ k₇) (d.again.reads m₅ m₃ k₈) a₁ a₂ (e.reads m₇ m₄ m₁ k₁₀ (only k₆)) a₃ n a₄) q,
            record { is = ap (λ (xs : List Stmt). item.Func (record { name = w; result = b; params = fs; body = xs; line = 0 }) ∷ []) z.is },
          );
      tidy = orderly false (function f) _
          (orderly3 (signature f) (Mark m.LeftBrace ∷ statements ss) _
          (orderly3 (type_front b) (Word w ∷ Mark m.LeftParen ∷ parameters fs) _ (tidied d.front (orderly false (type_front a) _ c.again.tidy d.again.tidy))
          (taken t d.again.left, e.tidy) tt) i.tidy tt) tt;
      left = left y i.left;
    }

-- what is printed of a whole program
pub record ProgramAgain (is : List Item) : Type 0 where
  pub reads : (vs : Tokens) → Has (items_tokens is) vs [] → (js : List Item) × AllItems vs js × (map unlined_item js ≡ map unlined_item is)
  pub tidy : Orderly false (items_tokens is)

at_end : {vs : Tokens} → Has [] vs [] → (js : List Item) × AllItems vs js × (map unlined_item js ≡ map unlined_item [])
at_end none = ([], g.end, refl)

pub program : {ts : Tokens} {is : List Item} → AllItems ts is → AllWritable ts → ProgramAgain is
program g.end h = record { reads = λ vs k. at_end k; tidy = tt }
program (g.next {is = is} {js = js} q r) h =
    let a = items q h in
    let b = program r a.left in
    record {
      reads = λ vs k.
          let (m₁, k₁, k₂) = split (items_tokens is) (given (items-append is js) k) in
          let (ys, o, z) = b.reads m₁ k₂ in
          let (xs, p, w) = a.reads vs m₁ ys k₁ o in
          let first = ap (λ (l : List Item). l ++ map unlined_item ys) w.is in
          let rest = ap (λ (l : List Item). map unlined_item is ++ l) z in
          (xs ++ ys, p, map-append unlined_item xs ys ∙ first ∙ rest ∙ sym (map-append unlined_item is js));
      tidy = tidied (items-append is js) (orderly false (items_tokens is) _ a.tidy b.tidy);
    }
