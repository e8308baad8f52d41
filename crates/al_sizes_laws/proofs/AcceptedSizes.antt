-- The numbers in the tree of an accepted source have their sizes.
use Rattle.std.proofs.Common.{◌≡◌, ℕ, zero, suc, ◌*◌, ◌^◌, ◌≤◌, ◌<◌, Bool, true, false, nat_lt, if◌then◌else◌, List, [], ◌∷◌, map, length, Result, Ok, Err, slice_get, refl, sym, ap, ◌∙◌, subst, arith}
use Rattle.std.specs.Prelude.{ℤ, pos}
use Rattle.std.specs.List.{AllByRecursion}
use Rattle.std.proofs.lemmas.Option.{slice_get_within}
use Rattle.al_source.specs.declared.limits.TheConstants.{SOURCE_BYTES, OBJECT_WORDS}
use Rattle.al_source.specs.declared.source_tree.CType.{CType}
use Rattle.al_source.specs.declared.source_tree.Expr.{Expr}
use Rattle.al_source.specs.declared.source_tree.Stmt.{Stmt}
use Rattle.al_source.specs.declared.source_tree.StmtKind.{StmtKind}
use Rattle.al_source.specs.declared.source_tree.GlobalDef.{GlobalDef}
use Rattle.al_source.specs.declared.source_tree.Item.{Item}
use Rattle.al_source.specs.declared.source_tree.Program.{Program}
use Rattle.al_grammar.specs.Characters.{Bytes}
use Rattle.al_grammar.specs.Phrases.{Tokens}
use Rattle.al_grammar.specs.Steps.{Read}
use Rattle.al_grammar.specs.Programs.{AllItems}
use Rattle.al_grammar.specs.ProgramParser as parser
use Rattle.al_grammar.specs.Reading.{reading}
use Rattle.al_grammar.proofs.ProgramFacts.{sound_program}
use Rattle.al_core.specs.declared.typed_tree.TExpr.{TExpr, map-TExpr, fold-TExpr, fold-roll-TExpr}
use Rattle.al_core.specs.declared.typed_tree.TPlace.{TPlace, map-TPlace, fold-TPlace, fold-roll-TPlace}
use Rattle.al_core.specs.declared.typed_tree.TExpr.TheViews.{roll-TExpr, roll-TPlace}
use Rattle.al_core.specs.declared.typed_tree.TExpr.TheOpen.{TExpr-F, TPlace-F}
use Rattle.al_core.specs.declared.typed_tree.TExpr.TheVariants as te
use Rattle.al_core.specs.declared.typed_tree.TPlace.TheVariants as tp
use Rattle.al_core.specs.declared.typed_tree.TFunc.{TFunc}
use Rattle.al_core.specs.declared.typed_tree.TGlobal.{TGlobal}
use Rattle.al_core.specs.declared.typed_tree.TNote.{TNote}
use Rattle.al_core.specs.declared.typed_tree.Typed.{Typed}
use Rattle.al_core.specs.Accepted.{terms_of}
use Rattle.al_core.specs.Meaning.{body_of}
use Rattle.al_rules.specs.declared.faults.Refusal.{Refusal}
use Rattle.al_rules.specs.declared.faults.Refusal.TheVariants.{Lexical}
use Rattle.al_rules.specs.declared.faults.LexicalCause.TheVariants.{TooLong}
use Rattle.al_rules.specs.declared.layout.Layout as the_layout
use Rattle.al_rules.specs.Names.{AllOf}
use Rattle.al_rules.specs.Names as n
use Rattle.al_rules.specs.Types.{form, is_sized}
use Rattle.al_rules.specs.Scopes.{Known, size, globals_in, funcs_in, known_of}
use Rattle.al_rules.specs.Layouts.{no_layout, layout_of}
use Rattle.al_rules.specs.Programs.{funcs_typed, globals_typed, typed_with}
use Rattle.al_rules.specs.Refusals.{because, lexical_cause, tokens_of, derived, program_of}
use Rattle.al_rules_laws.proofs.Logic.{and_both}
use Rattle.al_graded_laws.specs.Rules.{every, expr_obeys, place_obeys, obeys, obeys_at, stmts_obey}
use Rattle.al_graded_laws.specs.InRange.{has_64_bits, in_range}
use Rattle.al_graded_laws.proofs.Values.{fits_64}
use Rattle.al_runs_laws.specs.Accepted.{IsSized}
use Rattle.al_runs_laws.proofs.NumberedTrees.{ExprCases, StmtCases}
use Rattle.al_runs_laws.proofs.Making.{Kept, GlobalAt, FineAnywhere, fine_anywhere}
use Rattle.al_runs_laws.proofs.MakingStatements.{Stands}
use Rattle.al_runs_laws.proofs.MakingStatements as made
use Rattle.al_runs_laws.proofs.MakingPrograms.{FineFunc, MadeFunc, funcs_made, tree_of, at_index}
use Rattle.al_runs_laws.proofs.AcceptedParts.{because_ok, accepted_as}
use Rattle.al_sizes_laws.specs.Sized.{AcceptedAreSized}
use Rattle.al_sizes_laws.proofs.TokenNumbers.{TokenSized, reading_sized}
use Rattle.al_sizes_laws.proofs.TreesOfTokens.{Sized}
use Rattle.al_sizes_laws.proofs.ProgramNumbers.{StartSized, few_globals, bodies_sized, starts_sized}
use Rattle.al_sizes_laws.proofs.SizeBounds.{laid_small, words_small}
use Rattle.al_sizes_laws.proofs.TermsObey.{ExprObeys, PlaceObeys, stmts_of_terms}

-- ---- what typing makes

below : (k : ℕ) → k < 2 ^ 32 → nat_lt k (2 ^ 32) ≡ true
below k h = grind arith

words_fit : (k : ℕ) → k ≤ OBJECT_WORDS → has_64_bits (pos (8 * k)) ≡ true
words_fit k h = grind arith

module _ (known : Known) (few : length known.globals < 2 ^ 32) (small : (a : CType) → is_sized (form a) ≡ true → size known a ≤ OBJECT_WORDS) where
  abbrev P : TExpr → Type 0
  P v = obeys in_range v ≡ true

  -- a place obeys, and its address may be taken
  abbrev R : TPlace → Type 0
  R q = ((obeys_at in_range q).0 ≡ true) × ((obeys_at in_range q).1 ≡ true)

  abbrev Q : CType → TPlace → Type 0
  Q a q = R q

  of_expr : (x : TExpr-F TExpr TPlace) (d : TExpr) → roll-TExpr x ≡ d
      → obeys in_range d ≡ expr_obeys in_range (map-TExpr TExpr TPlace Bool (Bool × Bool) (obeys in_range) (obeys_at in_range) x)
  unfolding obeys obeys_at
  of_expr x d is =
      ap (λ d. fold-TExpr Bool (Bool × Bool) (expr_obeys in_range) (place_obeys in_range) d) (sym is)
      ∙ fold-roll-TExpr Bool (Bool × Bool) (expr_obeys in_range) (place_obeys in_range) x

  of_place : (x : TPlace-F TExpr TPlace) (d : TPlace) → roll-TPlace x ≡ d
      → obeys_at in_range d ≡ place_obeys in_range (map-TPlace TExpr TPlace Bool (Bool × Bool) (obeys in_range) (obeys_at in_range) x)
  unfolding obeys obeys_at
  of_place x d is =
      ap (λ d. fold-TPlace Bool (Bool × Bool) (expr_obeys in_range) (place_obeys in_range) d) (sym is)
      ∙ fold-roll-TPlace Bool (Bool × Bool) (expr_obeys in_range) (place_obeys in_range) x

  as_place : (q : TPlace) (b : Bool × Bool) → obeys_at in_range q ≡ b → b.0 ≡ true → b.1 ≡ true → R q
  as_place q b is h i = (ap (λ (z : Bool × Bool). z.0) is ∙ h, ap (λ (z : Bool × Bool). z.1) is ∙ i)

  every_true : (vs : List TExpr) → AllOf P vs → every (map (obeys in_range) vs) ≡ true
  every_true [] n.none = refl
  every_true (v ∷ vs) (n.more h hs) = and_both h (every_true vs hs)

  global_fits : (k : ℕ) (a : CType) → GlobalAt known k a → nat_lt k (2 ^ 32) ≡ true
  global_fits k a g = let lt = slice_get_within known.globals k g.global g.there in below k (omega arith)

  number_obeys : (m : ℤ) → Sized m → P (te.Number m)
  number_obeys m h = of_expr (TExpr-F.Number m) _ (te.rolls-Number m) ∙ h

  kept : Kept Sized known P Q R
  kept = record {
    number = number_obeys;
    zero = number_obeys (pos 0) refl;
    sizes = λ a h. number_obeys (pos (8 * size known a)) (words_fit (size known a) (small a h));
    local = λ k. of_expr (TExpr-F.Local k) _ (te.rolls-Local k);
    load = λ a k q h. of_expr (TExpr-F.Load k q) _ (te.rolls-Load k q) ∙ h.0;
    addr = λ a q h. of_expr (TExpr-F.Addr q) _ (te.rolls-Addr q) ∙ and_both h.0 h.1;
    unary = λ op v h. of_expr (TExpr-F.Unary op v) _ (te.rolls-Unary op v) ∙ h;
    binary = λ op v w h i. of_expr (TExpr-F.Binary op v w) _ (te.rolls-Binary op v w) ∙ and_both h i;
    same = λ equal v w h i. of_expr (TExpr-F.Same equal v w) _ (te.rolls-Same equal v w) ∙ and_both h i;
    both = λ v w h i. of_expr (TExpr-F.And v w) _ (te.rolls-And v w) ∙ and_both h i;
    either = λ v w h i. of_expr (TExpr-F.Or v w) _ (te.rolls-Or v w) ∙ and_both h i;
    called = λ f vs hs. of_expr (TExpr-F.Call f vs) _ (te.rolls-Call f vs) ∙ every_true vs hs;
    input = λ v h. of_expr (TExpr-F.Input v) _ (te.rolls-Input v) ∙ h;
    inputs = of_expr TExpr-F.Inputs _ te.rolls-Inputs;
    choose = λ op v w h i. of_expr (TExpr-F.Choose op v w) _ (te.rolls-Choose op v w) ∙ and_both h i;
    calloc = λ v words h. of_expr (TExpr-F.Calloc v words) _ (te.rolls-Calloc v words) ∙ h;
    free = λ v h. of_expr (TExpr-F.Free v) _ (te.rolls-Free v) ∙ h;
    global = λ k a g. as_place (tp.Global k) _ (of_place (TPlace-F.Global k) _ (tp.rolls-Global k)) (global_fits k a g) (global_fits k a g);
    at = λ a v h. as_place (tp.At v) _ (of_place (TPlace-F.At v) _ (tp.rolls-At v)) h refl;
    plus = λ a q m r. as_place (tp.Plus q m) _ (of_place (TPlace-F.Plus q m) _ (tp.rolls-Plus q m)) r.0 r.1;
    elem = λ a q v words r h.
        as_place (tp.Elem q v words) _ (of_place (TPlace-F.Elem q v words) _ (tp.rolls-Elem q v words)) (and_both r.0 h) r.1;
    of_struct = λ a q name is h. h;
    of_array = λ a b q is h. h;
    of_pointer = λ v h. as_place (tp.At v) _ (of_place (TPlace-F.At v) _ (tp.rolls-At v)) h refl;
  }

  -- ---- functions

  abbrev FineExpr : Expr → Type 0
  FineExpr = FineAnywhere Sized known P Q R kept

  abbrev FineStmt : ℕ → CType → Stmt → Type 0
  FineStmt m a = made.Fine Sized known P Q R kept m a

  abbrev FineKind : ℕ → CType → StmtKind → Type 0
  FineKind m a = made.KindFine Sized known P Q R kept m a

  fine_exprs : ExprCases Sized FineExpr
  fine_exprs = fine_anywhere Sized known P Q R kept

  fine_stmts : (m : ℕ) (a : CType) → StmtCases FineExpr (FineStmt m a) (FineKind m a)
  fine_stmts m a = made.fine_cases Sized known P Q R kept m a

  exprs_of : (vs : List TExpr) → AllOf P vs → AllByRecursion ExprObeys vs
  exprs_of [] n.none = tt
  exprs_of (v ∷ vs) (n.more h hs) = (h, exprs_of vs hs)

  places_of : (qs : List TPlace) → AllOf (Stands Q) qs → AllByRecursion PlaceObeys qs
  places_of [] n.none = tt
  places_of (q ∷ qs) (n.more h hs) = (h.1.0, places_of qs hs)

  abbrev FuncSized : TFunc → Type 0
  FuncSized t = stmts_obey in_range t.body ≡ true

  funcs_sized : (ts : List TFunc) → AllOf (MadeFunc Sized known P Q R kept) ts → AllOf FuncSized ts
  funcs_sized [] n.none = n.none
  funcs_sized (t ∷ ts) (n.more h hs) =
      n.more (stmts_of_terms t.body (record { exprs = exprs_of (terms_of t.body).exprs h.exprs; places = places_of (terms_of t.body).places h.places }))
      (funcs_sized ts hs)

-- ---- the whole tree

bodies_obey : (fs : List TFunc) → AllOf (λ t. stmts_obey in_range t.body ≡ true) fs → (f : ℕ) → stmts_obey in_range (body_of (slice_get fs f)) ≡ true
bodies_obey [] h f = refl
bodies_obey (t ∷ ts) (n.more h hs) zero = h
bodies_obey (t ∷ ts) (n.more h hs) (suc f) = bodies_obey ts hs f

global_starts : (known : Known) (gs : List GlobalDef) → AllOf (λ (x : GlobalDef). StartSized x.start) gs
    → AllOf (λ (x : TGlobal). has_64_bits x.start ≡ true) (globals_typed known gs)
global_starts known [] n.none = n.none
global_starts known (g ∷ gs) (n.more h hs) = n.more h (global_starts known gs hs)

-- a program that the grammar derives from tokens whose numbers have 64 bits
module _ (ts : Tokens) (sized : AllByRecursion TokenSized ts) (short : length ts ≤ 2 ^ 21) (p : Program) (derives : AllItems ts p.items)
    (layout : the_layout.Layout) (laid : layout_of p ≡ Ok layout) where
  few : length (globals_in p.items) < 2 ^ 32
  few = let le = few_globals derives in omega arith

  small : (a : CType) → is_sized (form a) ≡ true → size (known_of layout p.items) a ≤ OBJECT_WORDS
  unfolding layout_of
  small = words_small layout.structs (laid_small no_layout p.items layout tt laid)

  abbrev at : Known
  at = known_of layout p.items

  funcs_fine : AllOf (FineFunc Sized at (P at few small) (Q at few small) (R at few small) (kept at few small)) (funcs_in p.items)
  funcs_fine =
      bodies_sized (FineExpr at few small) (fine_exprs at few small) (FineStmt at few small) (FineKind at few small) (fine_stmts at few small) derives sized

  starts_fine : AllOf (λ (x : GlobalDef). StartSized x.start) (globals_in p.items)
  starts_fine =
      starts_sized (FineExpr at few small) (fine_exprs at few small) (FineStmt at few small) (FineKind at few small) (fine_stmts at few small) derives sized

  -- what holds of the functions of the tree
  funcs_obey : (z : List TFunc × List TNote) → funcs_typed at 0 (funcs_in p.items) [] ≡ Ok z → AllOf (FuncSized at few small) z.0
  funcs_obey z e =
      funcs_sized at few small z.0
      (funcs_made Sized at (P at few small) (Q at few small) (R at few small) (kept at few small) 0 (funcs_in p.items) [] z funcs_fine e)

  typed_sized : (typed : Typed) → typed_with layout p ≡ Ok typed → IsSized typed
  typed_sized typed e =
      let t = tree_of layout p typed e in
      subst IsSized t.is (record {
        code = bodies_obey t.funcs.0 (funcs_obey t.funcs t.funcs_are);
        starts = λ k g is.
            fits_64 g.start (at_index (λ (x : TGlobal). has_64_bits x.start ≡ true) (globals_typed at (globals_in p.items)) k g
            (global_starts at (globals_in p.items) starts_fine) is);
      })

-- ---- accepted sources

-- the tokens of a source that is short enough
record ReadTokens (source : Bytes) (ts : Tokens) : Type 0 where
  read : reading source ≡ Ok ts
  short : length source ≤ SOURCE_BYTES

tokens_read : (source : Bytes) (ts : Tokens) → tokens_of source ≡ Ok ts → ReadTokens source ts
tokens_read source ts e = by (nat_lt SOURCE_BYTES (length source)) refl e
  where
    by : (b : Bool) → nat_lt SOURCE_BYTES (length source) ≡ b
        → (if b then Err (Lexical TooLong) else because (λ fault. Lexical (lexical_cause fault)) (reading source)) ≡ Ok ts → ReadTokens source ts
    by true is e = absurd cc
    by false is e = record { read = because_ok (λ fault. Lexical (lexical_cause fault)) (reading source) ts e; short = grind arith }

items_derived : (ts : Tokens) (p : Program) → program_of ts ≡ Ok p → AllItems ts p.items
items_derived ts p e = by (parser.all_items ts) refl e
  where
    by : (r : Read (List Item)) → parser.all_items ts ≡ r → derived r ≡ Ok p → AllItems ts p.items
    by (Ok q) is e = subst (AllItems ts) (same q e) (sound_program ts q is)
      where
        same : (q : List Item × Tokens) → ◌≡◌ {A = Result Program Refusal} (Ok (record { items = q.0 })) (Ok p) → q.0 ≡ p.items
        same q e = cc
    by (Err rest) is e = absurd cc

pub accepted_are_sized : AcceptedAreSized
accepted_are_sized source typed infos e =
    let a = accepted_as source typed infos e in
    let r = tokens_read source a.tokens a.are_tokens in
    let read = reading_sized source a.tokens r.read in
    let short : length a.tokens ≤ 2 ^ 21 = let few = read.1 in let bytes = r.short in omega arith in
    typed_sized a.tokens read.0 short a.program (items_derived a.tokens a.program a.is_program) a.tree.layout a.tree.laid_out typed a.tree.is_typed
