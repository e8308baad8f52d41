-- The typed tree of a program is well formed.
use Rattle.std.proofs.Common.{◌≡◌, ℕ, zero, suc, ◌+◌, ◌≤◌, Bool, true, false, ◌&&◌, List, [], ◌∷◌, ◌++◌, map, length, take, if◌then◌else◌, Option, Some, None, Result, Ok, Err, option_map, slice_get, pos, codes, refl, sym, ap, ◌∙◌, subst, arith, append_assoc, append-nil, add-zero}
use Rattle.al_source.specs.Steps.{and_then}
use Rattle.al_source.specs.declared.source_tree.CType.{CType, out-CType}
use Rattle.al_source.specs.declared.source_tree.CType.TheOpen.{CType-F}
use Rattle.al_source.specs.declared.source_tree.CType.TheVariants as t
use Rattle.al_source.specs.declared.source_tree.Field.{Field}
use Rattle.al_source.specs.declared.source_tree.Start.{Start}
use Rattle.al_source.specs.declared.source_tree.GlobalDef.{GlobalDef}
use Rattle.al_source.specs.declared.source_tree.Func.{Func}
use Rattle.al_source.specs.declared.source_tree.Item.{Item}
use Rattle.al_source.specs.declared.source_tree.Item.TheVariants as item
use Rattle.al_source.specs.declared.source_tree.Program.{Program}
use Rattle.al_core.specs.declared.values.Kind.{Kind}
use Rattle.al_core.specs.declared.values.Kind.TheVariants as kind
use Rattle.al_core.specs.declared.typed_tree.TLocal.{TLocal}
use Rattle.al_core.specs.declared.typed_tree.TNote.{TNote}
use Rattle.al_core.specs.declared.typed_tree.TFunc.{TFunc}
use Rattle.al_core.specs.declared.typed_tree.TStmt.{TStmt}
use Rattle.al_core.specs.declared.typed_tree.Typed.{Typed}
use Rattle.al_ast.specs.Nodes.{capped, program_nodes}
use Rattle.al_rules.specs.declared.faults.TypeKind.TheVariants.{Main}
use Rattle.al_rules.specs.declared.faults.TypeCause.{TypeCause}
use Rattle.al_rules.specs.declared.layout.Layout.{Layout}
use Rattle.al_rules.specs.Names.{Name, AllOf, none, more, place_named}
use Rattle.al_rules.specs.Layouts.{sizes, layout_of, words_of}
use Rattle.al_rules.specs.Types.{is_int, kind_case, kind_of}
use Rattle.al_rules.specs.Scopes.{Known, no_scope, globals_in, funcs_in, known_of}
use Rattle.al_rules.specs.Walks.{Progress, local_of, or_integer}
use Rattle.al_rules.specs.Statements as w
use Rattle.al_rules.specs.Programs.{is_empty, items_checked, main_by, main_at, main_of, with_params, begun, func_typed, funcs_typed, start_of, global_typed, globals_typed, typed_with, typed_of, Resolved}
use Rattle.al_rules.specs.ExpressionRules as r
use Rattle.al_rules.specs.ProgramRules as p
use Rattle.al_rules.specs.WellFormed.{body_formed, counted_all, loops_from, notes_from, IsFormedFunc, IsFormedGlobal, IsWellFormed}
use Rattle.al_rules.proofs.TypeNodes.{kind-Int}
use Rattle.al_rules.proofs.LayoutNodes.{words-Int, words-Ptr}
use Rattle.al_rules_laws.proofs.Logic.{then_ok, some_is, and_parts}
use Rattle.al_rules_laws.proofs.TypeFacts.{is_int_type, is_pointer_type}
use Rattle.al_rules_laws.proofs.WalkFacts.{added, Ends}
use Rattle.al_rules_laws.proofs.StatementsSound.{int_true}
use Rattle.al_rules_laws.proofs.ProgramsSound.{no_fault, well_typed}
use Rattle.al_rules_laws.proofs.FormedExpressions.{Context, FuncOf}
use Rattle.al_rules_laws.proofs.FormedSteps.{Prefix, prefix_refl, prefix_trans, prefix_length, ScopeGood, Noted, step_add}
use Rattle.al_rules_laws.proofs.FormedStatements.{scalar_kind, statements_formed}

-- ---- lists

get_map : {A B : Type 0} (f : A → B) (xs : List A) (k : ℕ) (x : A) → slice_get xs k ≡ Some x → slice_get (map f xs) k ≡ Some (f x)
get_map f [] k x e = absurd cc
get_map f (y ∷ ys) zero x e = ap (option_map f) e
get_map f (y ∷ ys) (suc k) x e = get_map f ys k x e

map_length : {A B : Type 0} (f : A → B) (xs : List A) → length (map f xs) ≡ length xs
map_length f [] = refl
map_length f (x ∷ xs) = ap suc (map_length f xs)

map_map : {A B C : Type 0} (f : A → B) (g : B → C) (xs : List A) → map g (map f xs) ≡ map (λ a. g (f a)) xs
map_map f g [] = refl
map_map f g (x ∷ xs) = ap (λ us. g (f x) ∷ us) (map_map f g xs)

take_front : {A : Type 0} (xs ys : List A) → take (length xs) (xs ++ ys) ≡ xs
take_front [] [] = refl
take_front [] (y ∷ ys) = refl
take_front (x ∷ xs) ys = ap (λ us. x ∷ us) (take_front xs ys)

all_at : {A : Type 0} {P : A → Type 0} (xs : List A) (k : ℕ) (x : A) → AllOf P xs → slice_get xs k ≡ Some x → P x
all_at [] k x h e = absurd cc
all_at {P = P} (y ∷ ys) zero x (more h hs) e = subst P (some_is e) h
all_at (y ∷ ys) (suc k) x (more h hs) e = all_at ys k x hs e

-- ---- parameters

abbrev ScalarField : Field → Type 0
ScalarField f = (k : Kind) × (kind_of f.ty ≡ Some k)

field_local : Field → TLocal
field_local f = local_of f.name f.ty

params_locals : (fs : List Field) (s : Progress) → (with_params s fs).locals ≡ s.locals ++ map (λ f. local_of f.name f.ty) fs
params_locals [] s = sym (append-nil s.locals)
params_locals (f ∷ fs) s = params_locals fs (added f.name f.ty s) ∙ append_assoc s.locals (local_of f.name f.ty ∷ []) (map (λ f. local_of f.name f.ty) fs)

params_loops : (fs : List Field) (s : Progress) → (with_params s fs).loops ≡ s.loops
params_loops [] s = refl
params_loops (f ∷ fs) s = params_loops fs (added f.name f.ty s)

params_good : (typed : Typed) (fs : List Field) (s : Progress) → AllOf ScalarField fs → ScopeGood s → ScopeGood (with_params s fs)
params_good typed [] s none ok = ok
params_good typed (f ∷ fs) s (more h hs) ok = params_good typed fs (added f.name f.ty s) hs ((step_add typed [] f.name f.ty s h.0 h.1 ok).scope)

begun_good : (typed : Typed) (fs : List Field) (loops : List TNote) → AllOf ScalarField fs → ScopeGood (begun fs loops)
begun_good typed fs loops hs = params_good typed fs (record { scope = no_scope; locals = []; loops = loops }) hs none

begun_length : (fs : List Field) (loops : List TNote) → length (begun fs loops).locals ≡ length fs
begun_length fs loops = ap length (params_locals fs (record { scope = no_scope; locals = []; loops = loops })) ∙ map_length (λ f. local_of f.name f.ty) fs

scalar_fields : {known : Name → Bool} (before fs : List Field) → p.Fields (r.Scalar known) before fs → AllOf ScalarField fs
scalar_fields before [] d = none
scalar_fields before (f ∷ fs) (p.next new d ds) = more (scalar_kind d) (scalar_fields (before ++ f ∷ []) fs ds)

-- ---- functions, one after another

pub data Typings (known : Known) : ℕ → List Func → List TNote → List TFunc → List TNote → Type 0 where
  done : {n : ℕ} {loops : List TNote} → Typings known n [] loops [] loops
  next : {n : ℕ} {f : Func} {fs : List Func} {l0 l1 l2 : List TNote} {t : TFunc} {ts : List TFunc}
      → func_typed known n f l0 ≡ Ok (t, l1) → Typings known (n + 1) fs l1 ts l2 → Typings known n (f ∷ fs) l0 (t ∷ ts) l2

typings : (known : Known) (n : ℕ) (fs : List Func) (loops : List TNote) (z : List TFunc × List TNote) → funcs_typed known n fs loops ≡ Ok z
    → Typings known n fs loops z.0 z.1
typings known n [] loops z e = subst (λ (z : List TFunc × List TNote). Typings known n [] loops z.0 z.1) (same e) done
  where
    same : ◌≡◌ {A = Result (List TFunc × List TNote) TypeCause} (Ok ([], loops)) (Ok z) → ◌≡◌ {A = List TFunc × List TNote} ([], loops) z
    same e = cc
typings known n (f ∷ fs) loops z e =
    let a = then_ok (func_typed known n f loops) (λ t. and_then (funcs_typed known (n + 1) fs t.1) (λ ts. Ok (t.0 ∷ ts.0, ts.1))) z e in
    let b = then_ok (funcs_typed known (n + 1) fs a.0.1) (λ ts. Ok (a.0.0 ∷ ts.0, ts.1)) z a.2 in
    subst (λ (z : List TFunc × List TNote). Typings known n (f ∷ fs) loops z.0 z.1) (same a.0 b.0 b.2) (next a.1 (typings known (n + 1) fs a.0.1 b.0 b.1))
  where
    same : (a : TFunc × List TNote) (b : List TFunc × List TNote) → ◌≡◌ {A = Result (List TFunc × List TNote) TypeCause} (Ok (a.0 ∷ b.0, b.1)) (Ok z)
        → ◌≡◌ {A = List TFunc × List TNote} (a.0 ∷ b.0, b.1) z
    same a b e = cc

-- one of them
pub record TypingAt (known : Known) (n : ℕ) (fs : List Func) (k : ℕ) (t : TFunc) : Type 0 where
  pub func : Func
  pub there : slice_get fs k ≡ Some func
  pub before : List TNote
  pub after : List TNote
  pub typed : func_typed known (n + k) func before ≡ Ok (t, after)

typing_at : {known : Known} {n : ℕ} {fs : List Func} {l0 l1 : List TNote} {ts : List TFunc} (k : ℕ) (t : TFunc) → Typings known n fs l0 ts l1
    → slice_get ts k ≡ Some t → TypingAt known n fs k t
typing_at k t done e = absurd cc
typing_at {known = known} {n = n} zero t (next {f = f} {l0 = l0} {l1 = l1} {t = u} d ds) e =
    record { func = f; there = refl; before = l0; after = l1; typed = ap (λ m. func_typed known m f l0) (add-zero n) ∙ d ∙ ap (λ t. Ok (t, l1)) (some_is e) }
typing_at {known = known} {n = n} (suc k) t (next d ds) e =
    let h = typing_at k t ds e in
    record { func = h.func; there = h.there; before = h.before; after = h.after; typed = ap (λ m. func_typed known m h.func h.before) (omega arith) ∙ h.typed }

source_at : {known : Known} {n : ℕ} {fs : List Func} {l0 l1 : List TNote} {ts : List TFunc} (k : ℕ) (f : Func) → Typings known n fs l0 ts l1
    → slice_get fs k ≡ Some f → (t : TFunc) × (slice_get ts k ≡ Some t)
source_at k f done e = absurd cc
source_at zero f (next {t = t} d ds) e = (t, refl)
source_at (suc k) f (next d ds) e = source_at k f ds e

typings_length : {known : Known} {n : ℕ} {fs : List Func} {l0 l1 : List TNote} {ts : List TFunc} → Typings known n fs l0 ts l1 → length ts ≡ length fs
typings_length done = refl
typings_length (next d ds) = ap suc (typings_length ds)

-- the body of a function that is typed, and what it leaves
pub record BodyOf (known : Known) (n : ℕ) (f : Func) (before : List TNote) (t : TFunc) (after : List TNote) : Type 0 where
  pub end : List TStmt × Progress
  pub ends : Ends (w.statements known n f.result false f.body (begun f.params before)) end
  pub is : ◌≡◌ {A = TFunc × List TNote} (record { params = length f.params; locals = end.1.locals; body = end.0; line = f.line }, end.1.loops) (t, after)

body_of : (known : Known) (n : ℕ) (f : Func) (before : List TNote) (t : TFunc) (after : List TNote) → func_typed known n f before ≡ Ok (t, after)
    → BodyOf known n f before t after
body_of known n f before t after e =
    let q = then_ok (w.statements known n f.result false f.body (begun f.params before))
    (λ r. Ok (record { params = length f.params; locals = r.1.locals; body = r.0; line = f.line }, r.1.loops)) (t, after) e in
    record { end = q.0; ends = q.1; is = same q.0 q.2 }
  where
    same : (r : List TStmt × Progress)
        → ◌≡◌ {A = Result (TFunc
        × List TNote) TypeCause} (Ok (record { params = length f.params; locals = r.1.locals; body = r.0; line = f.line }, r.1.loops)) (Ok (t, after))
        → ◌≡◌ {A = TFunc × List TNote} (record { params = length f.params; locals = r.1.locals; body = r.0; line = f.line }, r.1.loops) (t, after)
    same r e = cc

-- ---- a tree of signatures alone

-- Locals grow whatever the tree is, so this is shown over a tree that is there without a walk.
abbrev signature : Func → TFunc
signature f = record { params = length f.params; locals = map (λ p. local_of p.name p.ty) f.params; body = []; line = f.line }

abbrev signatures : Known → Typed
signatures known = record { globals = globals_typed known known.globals; funcs = map signature known.funcs; main = 0; loops = []; nodes = 0 }

abbrev gives_of : List Func → List (Option Kind)
gives_of fs = map (λ f. kind_of f.result) fs

globals_at : (known : Known) (gs : List GlobalDef) (k : ℕ) (x : GlobalDef) → slice_get gs k ≡ Some x
    → slice_get (globals_typed known gs) k ≡ Some (global_typed known x)
globals_at known [] k x e = absurd cc
globals_at known (g ∷ gs) zero x e = ap (option_map (global_typed known)) e
globals_at known (g ∷ gs) (suc k) x e = globals_at known gs k x e

kinds_of_params : (fs : List Field) (rest : List TLocal)
    → map (λ (v : TLocal). v.kind) (take (length fs) (map (λ p. local_of p.name p.ty) fs ++ rest)) ≡ map (λ p. or_integer (kind_of p.ty)) fs
kinds_of_params fs rest =
    ap (λ m. map (λ (v : TLocal). v.kind) (take m (map (λ p. local_of p.name p.ty) fs ++ rest))) (sym (map_length (λ p. local_of p.name p.ty) fs))
    ∙ ap (map (λ (v : TLocal). v.kind)) (take_front (map (λ p. local_of p.name p.ty) fs) rest)
    ∙ map_map (λ p. local_of p.name p.ty) (λ (v : TLocal). v.kind) fs

module _ (known : Known) (scalars : (k : ℕ) (f : Func) → slice_get known.funcs k ≡ Some f → AllOf ScalarField f.params) where
  signature_context : Context (signatures known) (gives_of known.funcs) known
  signature_context = record {
    globals = λ k x e. record { global = global_typed known x; stands = globals_at known known.globals k x e; scalar = refl };
    funcs = λ k f e. record {
      func = signature f;
      stands = get_map signature known.funcs k f e;
      params = ap (λ us. map (λ (v : TLocal). v.kind) (take (length f.params) us)) (sym (append-nil (map (λ p. local_of p.name p.ty) f.params)))
          ∙ kinds_of_params f.params [];
      gives = get_map (λ f. kind_of f.result) known.funcs k f e;
      scalars = scalars k f e;
    };
  }

  -- the parameters are the first locals of the typed function
  grown : (k : ℕ) (f : Func) (before after : List TNote) (t : TFunc) → slice_get known.funcs k ≡ Some f → BodyOf known k f before t after
      → Prefix (map (λ p. local_of p.name p.ty) f.params) t.locals
  grown k f before after t e b =
      let h = statements_formed (signatures known) (gives_of known.funcs) known k (signature f) f.result
      (get_map signature known.funcs k f e) signature_context f.body false (begun f.params before) b.end b.ends
      (begun_good (signatures known) f.params before (scalars k f e)) in
      let start : Prefix (map (λ p. local_of p.name p.ty) f.params) (begun f.params before).locals =
      record {
        rest = [];
        is = append-nil (map (λ p. local_of p.name p.ty) f.params)
            ∙ sym (params_locals f.params (record { scope = no_scope; locals = []; loops = before }));
      } in
      subst (λ us. Prefix (map (λ p. local_of p.name p.ty) f.params) us) (ap (λ (q : TFunc × List TNote). q.0.locals) b.is) (prefix_trans start h.grows)

-- ---- the tree of a program

module _ (items : List Item) (layout : Layout) (typed : Typed) (ts : List TFunc) (loops : List TNote)
    (scalars : (k : ℕ) (f : Func) → slice_get (funcs_in items) k ≡ Some f → AllOf ScalarField f.params)
    (globals_are : typed.globals ≡ globals_typed (known_of layout items) (globals_in items))
    (funcs_are : typed.funcs ≡ ts)
    (all : Typings (known_of layout items) 0 (funcs_in items) [] ts loops) where
  abbrev known : Known
  known = known_of layout items

  abbrev results : List (Option Kind)
  results = gives_of (funcs_in items)

  func_of : (k : ℕ) (f : Func) → slice_get (funcs_in items) k ≡ Some f → FuncOf typed results k f
  func_of k f e =
      let s = source_at k f all e in
      let h = typing_at k s.0 all s.1 in
      let same : h.func ≡ f = some_is (sym h.there ∙ e) in
      let b = body_of known (0 + k) h.func h.before s.0 h.after h.typed in
      let b' : BodyOf known k f h.before s.0 h.after =
      subst (λ (m : ℕ). BodyOf known m f h.before s.0 h.after) (omega arith) (subst (λ g. BodyOf known (0 + k) g h.before s.0 h.after) same b) in
      let g = grown known scalars k f h.before h.after s.0 e b' in
      let params : s.0.params ≡ length f.params = sym (ap (λ (q : TFunc × List TNote). q.0.params) b'.is) in
      record {
        func = s.0;
        stands = ap (λ us. slice_get us k) funcs_are ∙ s.1;
        params = ap (λ m. map (λ (v : TLocal). v.kind) (take m s.0.locals)) params
            ∙ ap (λ us. map (λ (v : TLocal). v.kind) (take (length f.params) us)) (sym g.is) ∙ kinds_of_params f.params g.rest;
        gives = get_map (λ f. kind_of f.result) (funcs_in items) k f e;
        scalars = scalars k f e;
      }

  context : Context typed results known
  context = record {
    globals = λ k x e. record {
      global = global_typed known x;
      stands = ap (λ us. slice_get us k) globals_are
          ∙ globals_at known (globals_in items) k x e;
      scalar = refl;
    };
    funcs = func_of;
  }

  -- a typed function, with all that its walk says
  pub record Walked (k : ℕ) (f : Func) (before after : List TNote) (t : TFunc) : Type 0 where
    pub params : t.params ≡ length f.params
    pub within : length f.params ≤ length t.locals
    pub body : body_formed typed results t.locals (kind_of f.result) t.body ≡ true
    pub locals : (counted_all k t.body).after t.params ≡ length t.locals
    pub notes : notes_from 0 after ≡ notes_from 0 before ++ (counted_all k t.body).loops t.params
    pub reductions : AllOf (Noted typed t.locals) before → AllOf (Noted typed t.locals) after

  walked_end : (k : ℕ) (f : Func) (before : List TNote) (end : List TStmt × Progress) (t : TFunc) (after : List TNote)
      → ◌≡◌ {A = TFunc × List TNote} (record { params = length f.params; locals = end.1.locals; body = end.0; line = f.line }, end.1.loops) (t, after)
      → slice_get (funcs_in items) k ≡ Some f → slice_get typed.funcs k ≡ Some t → Ends (w.statements known k f.result false f.body (begun f.params before)) end
      → Walked k f before after t
  walked_end k f before end t after is e stands ends =
      let h = statements_formed typed results known k t f.result stands context f.body false (begun f.params before) end ends
      (begun_good typed f.params before (scalars k f e)) in
      let locals : t.locals ≡ end.1.locals = sym (ap (λ (q : TFunc × List TNote). q.0.locals) is) in
      let body : t.body ≡ end.0 = sym (ap (λ (q : TFunc × List TNote). q.0.body) is) in
      let params : t.params ≡ length f.params = sym (ap (λ (q : TFunc × List TNote). q.0.params) is) in
      let last : after ≡ end.1.loops = sym (ap (λ (q : TFunc × List TNote). q.1) is) in
      let from = begun_length f.params before in
      let whole : Prefix end.1.locals t.locals = subst (λ us. Prefix end.1.locals us) (sym locals) (prefix_refl end.1.locals) in
      let here = params_loops f.params (record { scope = no_scope; locals = []; loops = before }) in
      record {
        params = params;
        within = subst (λ m. m ≤ length t.locals) from (subst (λ us. length (begun f.params before).locals ≤ length us) (sym locals) (prefix_length h.grows));
        body = ap (body_formed typed results t.locals (kind_of f.result)) body ∙ h.facts whole;
        locals = ap (λ ss. (counted_all k ss).after t.params) body ∙ ap (λ m. (counted_all k end.0).after m) (params ∙ sym from) ∙ h.counts
            ∙ ap length (sym locals);
        notes =
            ap (notes_from 0) last ∙ h.notes
            ∙ ap (λ us. notes_from 0 us ++ (counted_all k end.0).loops (length (begun f.params before).locals)) here
            ∙ ap (λ m. notes_from 0 before ++ (counted_all k end.0).loops m) (from ∙ sym params)
            ∙ ap (λ ss. notes_from 0 before ++ (counted_all k ss).loops t.params) (sym body);
        reductions =
            λ g. subst (λ us. AllOf (Noted typed t.locals) us) (sym last) (h.reductions whole (subst (λ us. AllOf (Noted typed t.locals) us) (sym here) g));
      }

  walked : (k : ℕ) (f : Func) (before after : List TNote) (t : TFunc) → slice_get (funcs_in items) k ≡ Some f → slice_get typed.funcs k ≡ Some t
      → func_typed known k f before ≡ Ok (t, after) → Walked k f before after t
  walked k f before after t e stands d =
      let b = body_of known k f before t after d in walked_end k f before b.end t after b.is e stands b.ends

  -- what the notes say of one function's locals, they say of any
  renoted : (a b : List TLocal) {notes : List TNote} → AllOf (Noted typed a) notes → AllOf (Noted typed b) notes
  renoted a b none = none
  renoted a b (more h hs) = more h (renoted a b hs)

  pub record AllWalked (n : ℕ) (fs : List TFunc) (before after : List TNote) : Type 0 where
    pub notes : notes_from 0 after ≡ notes_from 0 before ++ loops_from n fs
    pub reductions : AllOf (Noted typed []) before → AllOf (Noted typed []) after

  all_walked : {n : ℕ} {fs : List Func} {l0 l1 : List TNote} {us : List TFunc} → Typings known n fs l0 us l1
      → ((k : ℕ) (f : Func) → slice_get fs k ≡ Some f → slice_get (funcs_in items) (n + k) ≡ Some f)
      → ((k : ℕ) (t : TFunc) → slice_get us k ≡ Some t → slice_get typed.funcs (n + k) ≡ Some t) → AllWalked n us l0 l1
  all_walked {l0 = l0} done there stands = record { notes = sym (append-nil (notes_from 0 l0)); reductions = λ g. g }
  all_walked {n = n} (next {f = f} {fs = fs} {l0 = l0} {l1 = l1} {l2 = l2} {t = t} {ts = us} d ds) there stands =
      let a = walked n f l0 l1 t (ap (λ m. slice_get (funcs_in items) m) (sym (add-zero n))
      ∙ there 0 f refl) (ap (λ m. slice_get typed.funcs m) (sym (add-zero n)) ∙ stands 0 t refl) d in
      let b = all_walked ds (λ k g e. ap (λ m. slice_get (funcs_in items) m) (omega arith)
      ∙ there (suc k) g e) (λ k g e. ap (λ m. slice_get typed.funcs m) (omega arith) ∙ stands (suc k) g e) in
      record {
        notes = b.notes ∙ ap (λ ns. ns ++ loops_from (n + 1) us) a.notes
            ∙ append_assoc (notes_from 0 l0) ((counted_all n t.body).loops t.params) (loops_from (n + 1) us);
        reductions = λ g. b.reductions (renoted t.locals [] (a.reductions (renoted [] t.locals g)));
      }

  whole_walked : AllWalked 0 ts [] loops
  whole_walked =
      all_walked all (λ k f e. ap (λ m. slice_get (funcs_in items) m) (omega arith) ∙ e) (λ k t e. ap (λ m. slice_get typed.funcs m) (omega arith)
      ∙ ap (λ us. slice_get us k) funcs_are ∙ e)

  formed_func : (k : ℕ) (t : TFunc) → slice_get typed.funcs k ≡ Some t → IsFormedFunc typed results k t
  formed_func k t e =
      let h = typing_at k t all (ap (λ us. slice_get us k) (sym funcs_are) ∙ e) in
      let g = walked k h.func h.before h.after t h.there e (ap (λ m. func_typed known m h.func h.before) (omega arith) ∙ h.typed) in
      record {
        params = subst (λ m. m ≤ length t.locals) (sym g.params) g.within;
        result = kind_of h.func.result;
        gives = get_map (λ f. kind_of f.result) (funcs_in items) k h.func h.there;
        body = g.body;
        locals = g.locals;
      }

-- ---- globals

words_by : (layout : Layout) (a : CType) (k : Kind) (y : CType-F CType) → out-CType a ≡ y → kind_case y ≡ Some k → words_of layout.structs a ≡ 1
words_by layout a k CType-F.Int is e = ap (words_of layout.structs) (is_int_type a is) ∙ words-Int layout.structs
words_by layout a k (CType-F.Ptr b) is e = ap (words_of layout.structs) (is_pointer_type a b is) ∙ words-Ptr layout.structs b
words_by layout a k CType-F.Void is e = absurd cc
words_by layout a k (CType-F.Struct name) is e = absurd cc
words_by layout a k (CType-F.Array b n) is e = absurd cc

scalar_words : (layout : Layout) (a : CType) (k : Kind) → kind_of a ≡ Some k → words_of layout.structs a ≡ 1
unfolding kind_of
scalar_words layout a k e = words_by layout a k (out-CType a) refl e

holds_kind : {s : Start} {a : CType} → p.Holds s a → (start_of s ≡ pos 0 → ⊥) → kind_of a ≡ Some kind.Int
holds_kind p.zeroed never = absurd (never refl)
holds_kind p.number never = kind-Int
holds_kind (p.null a) never = absurd (never refl)
holds_kind (p.zero_pointer a) never = absurd (never refl)

formed_globals : (items before is : List Item) (layout : Layout) → p.ItemsTyped items before is
    → AllOf IsFormedGlobal (globals_typed (known_of layout items) (globals_in is))
formed_globals items before [] layout d = none
formed_globals items before (item.Struct s ∷ is) layout (p.next h d) = formed_globals items (before ++ item.Struct s ∷ []) is layout d
formed_globals items before (item.Func f ∷ is) layout (p.next h d) = formed_globals items (before ++ item.Func f ∷ []) is layout d
formed_globals items before (item.Global g ∷ is) layout (p.next (p.global free held start) d) =
    more (record { words = λ k e. scalar_words layout g.ty k e; starts = holds_kind start }) (formed_globals items (before ++ item.Global g ∷ []) is layout d)

func_scalars : (items before is : List Item) → p.ItemsTyped items before is → AllOf (λ f. AllOf ScalarField f.params) (funcs_in is)
func_scalars items before [] d = none
func_scalars items before (item.Struct s ∷ is) (p.next h d) = func_scalars items (before ++ item.Struct s ∷ []) is d
func_scalars items before (item.Global g ∷ is) (p.next h d) = func_scalars items (before ++ item.Global g ∷ []) is d
func_scalars items before (item.Func f ∷ is) (p.next (p.function free result params) d) =
    more (scalar_fields [] f.params params) (func_scalars items (before ++ item.Func f ∷ []) is d)

-- ---- main

pub record MainIs (fs : List Func) (k : ℕ) : Type 0 where
  pub func : Func
  pub stands : slice_get fs k ≡ Some func
  pub no_params : func.params ≡ []
  pub gives_int : func.result ≡ t.Int

abbrev no_main : Func → Result ℕ TypeCause
no_main f = Err (record { kind = Main; line = f.line })

main_is : (fs : List Func) (o : Option ℕ) (k : ℕ) → main_at fs o ≡ Ok k → MainIs fs k
main_is fs None k e = absurd cc
main_is fs (Some n) k e = by (slice_get fs n) refl e
  where
    same : ◌≡◌ {A = Result ℕ TypeCause} (Ok n) (Ok k) → n ≡ k
    same e = cc

    empty : (hs : List Field) → is_empty hs ≡ true → hs ≡ []
    empty [] e = refl
    empty (h ∷ hs) e = absurd cc

    of : (f : Func) → slice_get fs n ≡ Some f → (b : Bool) → (is_empty f.params && is_int f.result) ≡ b → (if b then Ok n else no_main f) ≡ Ok k
        → MainIs fs k
    of f s true both e =
        let q = and_parts (is_empty f.params) (is_int f.result) both in
        record { func = f; stands = ap (slice_get fs) (sym (same e)) ∙ s; no_params = empty f.params q.0; gives_int = int_true f.result q.1 }
    of f s false both e = absurd cc

    by : (m : Option Func) → slice_get fs n ≡ m → main_by n m ≡ Ok k → MainIs fs k
    by None s e = absurd cc
    by (Some f) s e = of f s (is_empty f.params && is_int f.result) refl e

-- ---- the whole

abbrev tree_of : Program → ℕ → List TFunc × List TNote → Typed
tree_of q main fs = record {
  globals = globals_typed (known_of (sizes q) q.items) (globals_in q.items);
  funcs = fs.0;
  main = main;
  loops = fs.1;
  nodes = capped (program_nodes q);
}

tree_formed : (q : Program) (main : ℕ) (fs : List TFunc × List TNote) → p.WellTyped q → MainIs (funcs_in q.items) main
    → Typings (known_of (sizes q) q.items) 0 (funcs_in q.items) [] fs.0 fs.1 → IsWellFormed (tree_of q main fs)
tree_formed q main fs wt m all =
    let scalars : (k : ℕ) (f : Func) → slice_get (funcs_in q.items) k ≡ Some f → AllOf ScalarField f.params =
    λ k f e. all_at (funcs_in q.items) k f (func_scalars q.items [] q.items wt.items) e in
    let whole = whole_walked q.items (sizes q) (tree_of q main fs) fs.0 fs.1 scalars refl refl all in
    let t = source_at main m.func all m.stands in
    let h = typing_at main t.0 all t.1 in
    let b = body_of (known_of (sizes q) q.items) (0 + main) h.func h.before t.0 h.after h.typed in
    let none_params : t.0.params ≡ 0 =
    sym (ap (λ (q : TFunc × List TNote). q.0.params) b.is) ∙ ap (λ (f : Func). length f.params) (some_is (sym h.there ∙ m.stands))
    ∙ ap length m.no_params in
    record {
      results = gives_of (funcs_in q.items);
      as_many = map_length (λ f. kind_of f.result) (funcs_in q.items) ∙ sym (typings_length all);
      funcs = formed_func q.items (sizes q) (tree_of q main fs) fs.0 fs.1 scalars refl refl all;
      globals = formed_globals q.items [] q.items (sizes q) wt.items;
      main = (t.0, t.1, none_params, get_map (λ f. kind_of f.result) (funcs_in q.items) main m.func m.stands ∙ ap Some (ap kind_of m.gives_int ∙ kind-Int));
      loops = sym whole.notes;
      reductions = whole.reductions none;
    }

resolved_formed : (q : Program) (l : Layout) (typed : Typed) → layout_of q ≡ Ok l → typed_of q ≡ Ok typed → IsWellFormed typed
unfolding typed_with
resolved_formed q l typed laid e =
    let known = known_of (sizes q) q.items in
    let a = then_ok (items_checked q.items [] q.items)
    (λ _. and_then (main_of (funcs_in q.items)) (λ main. and_then (funcs_typed known 0 (funcs_in q.items) []) (λ fs. Ok (tree_of q main fs)))) typed e in
    let b = then_ok (main_of (funcs_in q.items)) (λ main. and_then (funcs_typed known 0 (funcs_in q.items) []) (λ fs. Ok (tree_of q main fs))) typed a.2 in
    let c = then_ok (funcs_typed known 0 (funcs_in q.items) []) (λ fs. Ok (tree_of q b.0 fs)) typed b.2 in
    subst IsWellFormed (same (tree_of q b.0 c.0) c.2)
    (tree_formed q b.0 c.0 (well_typed q l typed laid e) (main_is (funcs_in q.items) (place_named (λ f. f.name) (codes "main") (funcs_in q.items)) b.0 b.1)
    (typings known 0 (funcs_in q.items) [] c.0 c.1))
  where
    same : (u : Typed) → ◌≡◌ {A = Result Typed TypeCause} (Ok u) (Ok typed) → u ≡ typed
    same u e = cc

pub resolved_is_well_formed : (q : Program) (typed : Typed) → Resolved q typed → IsWellFormed typed
resolved_is_well_formed q typed h =
    let l = no_fault (layout_of q) h.laid_out in
    resolved_formed q l.0 typed l.1 h.is_typed
