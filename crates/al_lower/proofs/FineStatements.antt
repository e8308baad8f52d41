-- What is planned for a well-formed statement is fine, and has its loops in order.
use Rattle.std.proofs.Common.{◌≡◌, ℕ, suc, ◌+◌, Bool, true, false, ◌&&◌, ◌||◌, ◌==◌, List, [], ◌∷◌, ◌++◌, length, map, Option, Some, None, refl, sym, ap, ◌∙◌, subst, append-nil, arith}
use Rattle.std.specs.Prelude.{slice_get, cond}
use Rattle.std.proofs.lemmas.List.Recursion.{is_count_by}
use Rattle.std.specs.List.{list_all, list_any}
use Rattle.std.proofs.lemmas.Bool.{eqb-true}
use Rattle.std.proofs.lemmas.Option.{slice_get_within}
use Rattle.al_source.specs.declared.texts.Piece.{Piece}
use Rattle.al_source.specs.declared.texts.Piece.TheVariants as piece
use Rattle.al_core.specs.declared.choices.Bound.{Bound}
use Rattle.al_core.specs.declared.choices.LoopInfo.{LoopInfo}
use Rattle.al_core.specs.declared.values.Kind.{Kind}
use Rattle.al_core.specs.declared.values.Kind.TheVariants.{Int}
use Rattle.al_core.specs.declared.typed_tree.TExpr.{TExpr, out-TExpr}
use Rattle.al_core.specs.declared.typed_tree.TStmt.{TStmt, out-TStmt, roll-out-TStmt, map-TStmt, para-TStmt, para-roll-TStmt, fold-TStmt, fold-roll-TStmt}
use Rattle.al_core.specs.declared.typed_tree.TKind.{TKind, out-TKind, roll-out-TKind, map-TKind, para-TKind, para-roll-TKind, fold-TKind, fold-roll-TKind}
use Rattle.al_core.specs.declared.typed_tree.TKind.TheViews.{roll-TStmt, roll-TKind}
use Rattle.al_core.specs.declared.typed_tree.TKind.TheOpen.{TStmt-F, TKind-F}
use Rattle.al_core.specs.declared.typed_tree.TLocal.{TLocal}
use Rattle.al_core.specs.declared.typed_tree.TFunc.{TFunc}
use Rattle.al_core.specs.declared.typed_tree.Typed.{Typed}
use Rattle.al_core.specs.Loops.{ForLoop, Seen, SeenKind, all_loops, loops_here, for_loops, for_loops_of, for_loops_in, Start, start_in, start_of, bound_of}
use Rattle.al_laws.proofs.Induction.{With, stmt_induct}
use Rattle.al_rules.specs.Names.{AllOf, none, more}
use Rattle.al_rules.specs.Bodies.{breaks_case, has_break, breaks_in}
use Rattle.al_rules.specs.Statements.{is_number, numbers_in}
use Rattle.al_rules.specs.WellFormed.{local_kind, is_int_local, may_want, fits_want, fits_either, fits, place_kind, param_kinds, simple_kind, is_simple, FormedStmt, FormedKind, sets_formed, test_formed, return_formed, all_formed, kind_formed, formed, formed_in, body_formed}
use Rattle.al_rules_laws.proofs.Logic.{and_parts, some_is}
use Rattle.al_code.specs.declared.instructions.Instr.TheVariants as i
use Rattle.al_code.specs.Machine.{holes}
use Rattle.al_code_laws.specs.declared.plan.Op.TheVariants.{As, EndOf}
use Rattle.al_code_laws.specs.Planned.{planned, Emit, nothing, one, ◌⨟◌}
use Rattle.al_code_laws.specs.Tree.{Ended, Part, expr_code, block_code, test_code, loop_code, trips_code, annotated_code, out_op, result_code, kind_code, stmt_code_case, stmt_code, code_of_kind, stmts_code}
use Rattle.al_lower.specs.Fine.{IsLoop}
use Rattle.al_lower.proofs.FineTrees.{Fitted, Fit, ExprFit, fit_nothing, fitted_append, fitted_cons, fit_one, fit_seq, fit_same, plain, local_there, expr_fine, place_fine, test_fine, want_fine, statement_fine, exprs_fine}

hole_counts : (x : Piece) (f : List Piece) → holes (x ∷ f) ≡ cond (is_number x) (1 + holes f) (holes f)
hole_counts (piece.Plain bytes) f = refl
hole_counts piece.Number f = omega arith

holes_count : (f : List Piece) → holes f ≡ numbers_in f
holes_count = is_count_by holes is_number refl hole_counts

pub all_split : {A : Type 0} {P : A → Type 0} (xs ys : List A) → AllOf P (xs ++ ys) → AllOf P xs × AllOf P ys
all_split [] ys h = (none, h)
all_split (x ∷ xs) ys (more h hs) = let q = all_split xs ys hs in (more h q.0, q.1)

or_both : (a b : Bool) → (a || b) ≡ false → (a ≡ false) × (b ≡ false)
or_both true b e = absurd (cc)
or_both false true e = absurd (cc)
or_both false false e = (refl, refl)

-- ---- simple statements

simple_kind_loops : (y : TKind-F TKind TStmt) → simple_kind y ≡ true
    → loops_here (map-TKind TKind TStmt SeenKind Seen (λ d. (d, for_loops_of d)) (λ d. (d, for_loops d)) y) ≡ []
simple_kind_loops (TKind-F.SetLocal n x) e = refl
simple_kind_loops (TKind-F.Store p x) e = refl
simple_kind_loops (TKind-F.UpdateLocal op n x) e = refl
simple_kind_loops (TKind-F.UpdateAt op p x) e = refl
simple_kind_loops (TKind-F.Call x) e = refl
simple_kind_loops (TKind-F.Print format xs) e = refl
simple_kind_loops TKind-F.Empty e = absurd cc
simple_kind_loops (TKind-F.If x a b) e = absurd cc
simple_kind_loops (TKind-F.While x a) e = absurd cc
simple_kind_loops (TKind-F.For first test third body number) e = absurd cc
simple_kind_loops (TKind-F.Block ss) e = absurd cc
simple_kind_loops (TKind-F.Return x) e = absurd cc
simple_kind_loops TKind-F.Break e = absurd cc
simple_kind_loops TKind-F.Continue e = absurd cc

pub simple_loops : (s : TStmt) → is_simple s ≡ true → for_loops s ≡ []
unfolding is_simple for_loops for_loops_of
simple_loops s e =
    ap (para-TStmt (List ForLoop) (List ForLoop) loops_here (λ s. s.kind.1)) (sym (roll-out-TStmt s))
    ∙ para-roll-TStmt (List ForLoop) (List ForLoop) loops_here (λ s. s.kind.1) (out-TStmt s)
    ∙ ap (para-TKind (List ForLoop) (List ForLoop) loops_here (λ s. s.kind.1)) (sym (roll-out-TKind (out-TStmt s).kind))
    ∙ para-roll-TKind (List ForLoop) (List ForLoop) loops_here (λ s. s.kind.1) (out-TKind (out-TStmt s).kind)
    ∙ simple_kind_loops (out-TKind (out-TStmt s).kind) e

simple_kind_breaks : (y : TKind-F TKind TStmt) → simple_kind y ≡ true → breaks_case (map-TKind TKind TStmt Bool Bool breaks_in has_break y) ≡ false
simple_kind_breaks (TKind-F.SetLocal n x) e = refl
simple_kind_breaks (TKind-F.Store p x) e = refl
simple_kind_breaks (TKind-F.UpdateLocal op n x) e = refl
simple_kind_breaks (TKind-F.UpdateAt op p x) e = refl
simple_kind_breaks (TKind-F.Call x) e = refl
simple_kind_breaks (TKind-F.Print format xs) e = refl
simple_kind_breaks TKind-F.Empty e = absurd cc
simple_kind_breaks (TKind-F.If x a b) e = absurd cc
simple_kind_breaks (TKind-F.While x a) e = absurd cc
simple_kind_breaks (TKind-F.For first test third body number) e = absurd cc
simple_kind_breaks (TKind-F.Block ss) e = absurd cc
simple_kind_breaks (TKind-F.Return x) e = absurd cc
simple_kind_breaks TKind-F.Break e = absurd cc
simple_kind_breaks TKind-F.Continue e = absurd cc

pub simple_breaks : (s : TStmt) → is_simple s ≡ true → has_break s ≡ false
unfolding is_simple has_break breaks_in
simple_breaks s e =
    ap (fold-TStmt Bool Bool breaks_case (λ s. s.kind)) (sym (roll-out-TStmt s))
    ∙ fold-roll-TStmt Bool Bool breaks_case (λ s. s.kind) (out-TStmt s)
    ∙ ap (fold-TKind Bool Bool breaks_case (λ s. s.kind)) (sym (roll-out-TKind (out-TStmt s).kind))
    ∙ fold-roll-TKind Bool Bool breaks_case (λ s. s.kind) (out-TKind (out-TStmt s).kind)
    ∙ simple_kind_breaks (out-TKind (out-TStmt s).kind) e

-- a loop that has its entry and its start, and that no `break` leaves
pub record LoopFine (infos : List LoopInfo) (l : ForLoop) : Type 0 where
  pub info : LoopInfo
  pub has : slice_get infos l.number ≡ Some info
  pub start : Start
  pub starts : start_of l.first ≡ Some start
  pub counts : info.counter ≡ start.counter
  pub bounds : info.bound ≡ bound_of l.test
  pub no_break : has_break l.body ≡ false

module _ (typed : Typed) (infos : List LoopInfo) (locals : List TLocal) (results : List (Option Kind))
    (params : (g : ℕ) (f : TFunc) → slice_get typed.funcs g ≡ Some f → length (param_kinds f) ≡ f.params) (result : Option Kind) where
  abbrev FitOf : Emit → List ForLoop → Type 0
  FitOf = Fit typed infos locals

  abbrev ExprFits : TExpr → Type 0
  ExprFits = ExprFit typed infos locals results

  abbrev LoopsFine : List ForLoop → Type 0
  LoopsFine = AllOf (LoopFine infos)

  abbrev is_formed : TStmt → Bool → Bool
  is_formed s = formed typed results locals result s

  -- ---- the start of a loop

  start_kind : (line : ℕ) (y : TKind-F TKind TStmt) (looped : Bool) (start : Start)
      → kind_formed typed results locals result (map-TKind TKind TStmt FormedKind FormedStmt (λ d. (d, formed_in typed results locals result d)) (λ d.
      (d, is_formed d)) y) looped ≡ true
      → start_in line y ≡ Some start → ExprFits start.value
  start_kind line (TKind-F.SetLocal n x) looped start e is = by (local_kind (slice_get locals n)) e
    where
      by : (m : Option Kind) → sets_formed typed results locals m x ≡ true → ExprFits start.value
      by (Some k) e = subst (λ (s : Start). ExprFits s.value) (some_is is) (expr_fine typed infos locals results params x k e)
      by None e = absurd cc
  start_kind line TKind-F.Empty looped start e is = absurd cc
  start_kind line (TKind-F.Store p x) looped start e is = absurd cc
  start_kind line (TKind-F.UpdateLocal op n x) looped start e is = absurd cc
  start_kind line (TKind-F.UpdateAt op p x) looped start e is = absurd cc
  start_kind line (TKind-F.Call x) looped start e is = absurd cc
  start_kind line (TKind-F.Print format xs) looped start e is = absurd cc
  start_kind line (TKind-F.If x a b) looped start e is = absurd cc
  start_kind line (TKind-F.While x a) looped start e is = absurd cc
  start_kind line (TKind-F.For first test third body number) looped start e is = absurd cc
  start_kind line (TKind-F.Block ss) looped start e is = absurd cc
  start_kind line (TKind-F.Return x) looped start e is = absurd cc
  start_kind line TKind-F.Break looped start e is = absurd cc
  start_kind line TKind-F.Continue looped start e is = absurd cc

  start_fine : (s : TStmt) (looped : Bool) (start : Start) → is_formed s looped ≡ true → start_of (Some s) ≡ Some start → ExprFits start.value
  unfolding formed formed_in
  start_fine s looped start e is =
      start_kind (out-TStmt s).line (out-TKind (out-TStmt s).kind) looped start (sym unrolled ∙ e) is
    where
      unrolled : is_formed s looped
          ≡ kind_formed typed results locals result (map-TKind TKind TStmt FormedKind FormedStmt (λ d. (d, formed_in typed results locals result d)) (λ d.
          (d, is_formed d)) (out-TKind (out-TStmt s).kind)) looped
      unrolled =
          ap (λ s. para-TStmt (Bool → Bool) (Bool → Bool) (kind_formed typed results locals result) (λ s. s.kind.1) s looped) (sym (roll-out-TStmt s))
          ∙ ap (λ (f : Bool → Bool). f looped) (para-roll-TStmt (Bool → Bool) (Bool
          → Bool) (kind_formed typed results locals result) (λ s. s.kind.1) (out-TStmt s))
          ∙ ap (λ d. para-TKind (Bool → Bool) (Bool → Bool) (kind_formed typed results locals result) (λ s. s.kind.1) d looped) (sym (roll-out-TKind
          (out-TStmt s).kind))
          ∙ ap (λ (f : Bool → Bool). f looped) (para-roll-TKind (Bool → Bool) (Bool
          → Bool) (kind_formed typed results locals result) (λ s. s.kind.1) (out-TKind (out-TStmt s).kind))

  -- ---- loops

  test_fit : (test : Option TExpr) → test_formed typed results locals test ≡ true → (line exit : ℕ) → FitOf (test_code test line exit) []
  test_fit (Some x) e line exit = fit_seq typed infos locals (test_fine typed infos locals results params x e line 0) (fit_one typed infos locals tt refl)
  test_fit None e line exit = fit_nothing typed infos locals

  loop_fit : (line : ℕ) (test : Option TExpr) (body : Ended) (third : Emit) (ls : List ForLoop) → test_formed typed results locals test ≡ true
      → ((exit m : ℕ) → FitOf (body (Some exit) m) ls) → FitOf third [] → FitOf (loop_code line test body third) ls
  loop_fit line test body third ls e b t n =
      let turn = fit_seq typed infos locals {a = one (As i.Step) line 0} (plain typed infos locals tt tt)
      (fit_seq typed infos locals (test_fit test e line n)
      (fit_seq typed infos locals {a = λ m. body (Some n) m m} {b = third} (λ m. b n m m) t)) (suc n) in
      subst (λ l. Fitted typed infos locals (loop_code line test body third n) l) (append-nil (ls ++ []) ∙ append-nil ls)
      (fitted_append typed infos locals turn (fitted_cons typed infos locals tt refl (fit_nothing typed infos locals n)))

  trips_fit : (line k counter : ℕ) (bound : Bound) (body : Ended) (l : ForLoop) (ls : List ForLoop) → l.number ≡ k → IsLoop infos k counter bound
      → ((m : ℕ) → FitOf (body None m) ls) → FitOf (trips_code line k counter bound body) (l ∷ ls)
  trips_fit line k counter bound body l ls is f b n =
      let rest = fitted_append typed infos locals (b (suc n) (suc n))
      (fitted_cons typed infos locals {op = EndOf k} {line = line} {h = 0} tt refl (fit_nothing typed infos locals n)) in
      let all = subst (λ l. Fitted typed infos locals (body None (suc n) (suc n) ++ (planned (EndOf k) line 0 ∷ [])) l) (append-nil ls) rest in
      record { fine = more f all.fine; numbers = (λ j. sym is j ∷ all.numbers j) }

  -- ---- nodes

  abbrev BreaksAt : Option ℕ → Bool → Type 0
  BreaksAt out b = out ≡ None → b ≡ false

  inside : (exit : ℕ) (b : Bool) → BreaksAt (Some exit) b
  inside exit b e = absurd cc

  abbrev KindFine : TKind → Type 0
  KindFine d = (line : ℕ) (looped : Bool) → formed_in typed results locals result d looped ≡ true → LoopsFine (for_loops_of d) → (out : Option ℕ) (cont : ℕ)
      → BreaksAt out (breaks_in d) → FitOf (code_of_kind d line out cont) (for_loops_of d)

  abbrev StmtFine : TStmt → Type 0
  StmtFine s = (looped : Bool) → is_formed s looped ≡ true → LoopsFine (for_loops s) → (out : Option ℕ) (cont : ℕ) → BreaksAt out (has_break s)
      → FitOf (stmt_code s out cont) (for_loops s)

  abbrev W : Type 0
  W = With TKind KindFine

  abbrev Z : Type 0
  Z = With TStmt StmtFine

  abbrev kind_layer : TKind-F W Z → TKind-F TKind TStmt
  kind_layer y = map-TKind W Z TKind TStmt (λ e. e.0) (λ e. e.0) y

  abbrev formed_pair : TStmt → FormedStmt
  formed_pair d = (d, is_formed d)

  abbrev seen_pair : TStmt → Seen
  seen_pair d = (d, for_loops d)

  abbrev code_pair : TStmt → Part
  code_pair d = (d, stmt_code d)

  abbrev map_formed : TKind-F TKind TStmt → TKind-F FormedKind FormedStmt
  map_formed x = map-TKind TKind TStmt FormedKind FormedStmt (λ d. (d, formed_in typed results locals result d)) formed_pair x

  abbrev map_seen : TKind-F TKind TStmt → TKind-F SeenKind Seen
  map_seen x = map-TKind TKind TStmt SeenKind Seen (λ d. (d, for_loops_of d)) seen_pair x

  abbrev map_breaks : TKind-F TKind TStmt → TKind-F Bool Bool
  map_breaks x = map-TKind TKind TStmt Bool Bool breaks_in has_break x

  abbrev map_code : TKind-F TKind TStmt → TKind-F (TKind × (ℕ → Ended)) Part
  map_code x = map-TKind TKind TStmt (TKind × (ℕ → Ended)) Part (λ d. (d, code_of_kind d)) code_pair x

  block_fine : (zs : List Z) (looped : Bool) → all_formed typed results locals (map formed_pair (map (λ e. e.0) zs)) looped ≡ true
      → LoopsFine (all_loops (map seen_pair (map (λ e. e.0) zs))) → (out : Option ℕ) (cont : ℕ)
      → BreaksAt out (list_any (λ s. s) (map has_break (map (λ e. e.0) zs)))
      → FitOf (block_code (map code_pair (map (λ e. e.0) zs)) out cont) (all_loops (map seen_pair (map (λ e. e.0) zs)))
  block_fine [] looped e l out cont b = fit_nothing typed infos locals
  block_fine (z ∷ zs) looped e l out cont b =
      let q = and_parts (is_formed z.0 looped) (all_formed typed results locals (map formed_pair (map (λ e. e.0) zs)) looped) e in
      let p = all_split (for_loops z.0) (all_loops (map seen_pair (map (λ e. e.0) zs))) l in
      let c = λ (n : out ≡ None). or_both (has_break z.0) (list_any (λ s. s) (map has_break (map (λ e. e.0) zs))) (b n) in
      fit_seq typed infos locals (z.1 looped q.0 p.0 out cont (λ n. (c n).0)) (block_fine zs looped q.1 p.1 out cont (λ n. (c n).1))

  -- a first or third part
  abbrev IsPart : Z → Bool → Type 0
  IsPart a looped = (is_simple a.0 && is_formed a.0 looped) ≡ true

  part_fit : (a : Z) (looped : Bool) → IsPart a looped → (out : Option ℕ) (cont : ℕ) → FitOf (stmt_code a.0 out cont) []
  part_fit a looped e out cont =
      let q = and_parts (is_simple a.0) (is_formed a.0 looped) e in
      fit_same typed infos locals (simple_loops a.0 q.0)
      (a.1 looped q.1 (subst LoopsFine (sym (simple_loops a.0 q.0)) none) out cont (λ n. simple_breaks a.0 q.0))

  part_none : (a : Z) (looped : Bool) → IsPart a looped → for_loops a.0 ≡ []
  part_none a looped e = simple_loops a.0 (and_parts (is_simple a.0) (is_formed a.0 looped) e).0

  -- a body, whatever leads out of it
  body_fit : (a : Z) → is_formed a.0 true ≡ true → LoopsFine (for_loops a.0) → (exit m : ℕ) → FitOf (stmt_code a.0 (Some exit) m) (for_loops a.0)
  body_fit a e l exit m = a.1 true e l (Some exit) m (inside exit (has_break a.0))

  annotated_fit : (line k : ℕ) (l : ForLoop) (a body : Z) (looped : Bool) → l.number ≡ k → l.first ≡ Some a.0 → l.body ≡ body.0 → IsPart a looped
      → is_formed body.0 true ≡ true → LoopFine infos l → LoopsFine (for_loops body.0)
      → FitOf (annotated_code line k (start_of (Some a.0)) (bound_of l.test) (stmt_code body.0)) (l ∷ for_loops body.0)
  annotated_fit line k l a body looped is first at e formed f ls =
      let q = and_parts (is_simple a.0) (is_formed a.0 looped) e in
      let starts : start_of (Some a.0) ≡ Some f.start = ap start_of (sym first) ∙ f.starts in
      subst (λ s. FitOf (annotated_code line k s (bound_of l.test) (stmt_code body.0)) (l ∷ for_loops body.0)) (sym starts)
      (fit_seq typed infos locals (start_fine a.0 looped f.start q.1 starts f.start.line 0)
      (trips_fit line k f.start.counter (bound_of l.test) (stmt_code body.0) l (for_loops body.0) is
      (record { info = f.info; has = ap (slice_get infos) (sym is) ∙ f.has; counts = f.counts; bounds = f.bounds })
      (λ m. body.1 true formed ls None m (λ n. ap has_break (sym at) ∙ f.no_break))))

  return_fine : (r : Option Kind) (x : Option TExpr) (line : ℕ) → return_formed typed results locals r x ≡ true → FitOf (result_code x line) []
  return_fine (Some k) (Some x) line e = expr_fine typed infos locals results params x k e line 0
  return_fine None None line e = plain typed infos locals tt tt
  return_fine (Some k) None line e = absurd cc
  return_fine None (Some x) line e = absurd cc

  set_fine : (n : ℕ) (x : TExpr) (m : Option TLocal) (line : ℕ) → slice_get locals n ≡ m → sets_formed typed results locals (local_kind m) x ≡ true
      → FitOf (expr_code x line 0 ⨟ one (As (i.SetLocal n)) line 1) []
  set_fine n x (Some v) line at e =
      fit_seq typed infos locals (expr_fine typed infos locals results params x v.kind e line 0)
      (plain typed infos locals (slice_get_within locals n v at) tt)
  set_fine n x None line at e = absurd cc

  break_fine : (out : Option ℕ) (line : ℕ) → BreaksAt out true → FitOf (one (out_op out) line 0) []
  break_fine (Some out) line b = fit_one typed infos locals tt refl
  break_fine None line b = absurd (true_false (b refl))
    where
      true_false : true ≡ false → ⊥
      true_false e = absurd cc

  layer_fine : (y : TKind-F W Z) (line : ℕ) (looped : Bool) → kind_formed typed results locals result (map_formed (kind_layer y)) looped ≡ true
      → LoopsFine (loops_here (map_seen (kind_layer y))) → (out : Option ℕ) (cont : ℕ) → BreaksAt out (breaks_case (map_breaks (kind_layer y)))
      → FitOf (kind_code (map_code (kind_layer y)) line out cont) (loops_here (map_seen (kind_layer y)))
  layer_fine TKind-F.Empty line looped e l out cont b = fit_nothing typed infos locals
  layer_fine (TKind-F.SetLocal n x) line looped e l out cont b = set_fine n x (slice_get locals n) line refl e
  layer_fine (TKind-F.Store q x) line looped e l out cont b =
      let h = and_parts (place_kind typed results locals q).formed (fits_want (place_kind typed results locals q).wants (fits typed results locals x)) e in
      fit_seq typed infos locals (place_fine typed infos locals results params q h.0 line 0)
      (fit_seq typed infos locals (want_fine typed infos locals results params x (place_kind typed results locals q).wants h.1 line 1)
      (plain typed infos locals tt tt))
  layer_fine (TKind-F.UpdateLocal op n x) line looped e l out cont b =
      let h = and_parts (is_int_local locals n) (fits typed results locals x Int) e in
      let there = local_there typed infos locals results n Int (slice_get locals n) refl h.0 in
      fit_seq typed infos locals {a = one (As (i.GetLocal n)) line 0} (plain typed infos locals there tt)
      (fit_seq typed infos locals (expr_fine typed infos locals results params x Int h.1 line 1)
      (fit_seq typed infos locals {a = one (As (i.Binary op)) line 2} {b = one (As (i.SetLocal n)) line 1} (plain typed infos locals tt tt)
      (plain typed infos locals there tt)))
  layer_fine (TKind-F.UpdateAt op q x) line looped e l out cont b =
      let h = and_parts ((place_kind typed results locals q).formed && may_want (place_kind typed results locals q).wants Int)
      (fits typed results locals x Int) e in
      let g = and_parts (place_kind typed results locals q).formed (may_want (place_kind typed results locals q).wants Int) h.0 in
      fit_seq typed infos locals (place_fine typed infos locals results params q g.0 line 0)
      (fit_seq typed infos locals {a = one (As i.Dup) line 1} (plain typed infos locals tt tt)
      (fit_seq typed infos locals {a = one (As (i.Load Int)) line 2} (plain typed infos locals tt tt)
      (fit_seq typed infos locals (expr_fine typed infos locals results params x Int h.1 line 2)
      (fit_seq typed infos locals {a = one (As (i.Binary op)) line 3} {b = one (As i.Store) line 2} (plain typed infos locals tt tt)
      (plain typed infos locals tt tt)))))
  layer_fine (TKind-F.Call x) line looped e l out cont b =
      fit_seq typed infos locals (statement_fine typed infos locals results params x (out-TExpr x) refl e line 0) (plain typed infos locals tt tt)
  layer_fine (TKind-F.Print format xs) line looped e l out cont b =
      let h = and_parts (length xs == numbers_in format) (list_all (λ x. fits typed results locals x Int) xs) e in
      fit_seq typed infos locals (exprs_fine typed infos locals results params xs h.1 line 0)
      (fit_one typed infos locals (holes_count format ∙ sym (eqb-true (length xs) (numbers_in format) h.0)) refl)
  layer_fine (TKind-F.If x a None) line looped e l out cont b =
      let h = and_parts (fits_either (fits typed results locals x) && is_formed a.0 looped) true e in
      let k = and_parts (fits_either (fits typed results locals x)) (is_formed a.0 looped) h.0 in
      let p = all_split (for_loops a.0) [] l in
      let c = λ (n : out ≡ None). or_both (has_break a.0) false (b n) in
      fit_seq typed infos locals (test_fine typed infos locals results params x k.0 line 0)
      (λ n. fitted_cons typed infos locals tt refl
      (fit_same typed infos locals (sym (append-nil (for_loops a.0))) (a.1 looped k.1 p.0 out cont (λ n. (c n).0)) n))
  layer_fine (TKind-F.If x a (Some d)) line looped e l out cont b =
      let h = and_parts (fits_either (fits typed results locals x) && is_formed a.0 looped) (is_formed d.0 looped) e in
      let k = and_parts (fits_either (fits typed results locals x)) (is_formed a.0 looped) h.0 in
      let p = all_split (for_loops a.0) (for_loops d.0) l in
      let c = λ (n : out ≡ None). or_both (has_break a.0) (has_break d.0) (b n) in
      fit_seq typed infos locals (test_fine typed infos locals results params x k.0 line 0)
      (λ n. fitted_cons typed infos locals tt refl
      (fitted_append typed infos locals (a.1 looped k.1 p.0 out cont (λ n. (c n).0) _)
      (fitted_cons typed infos locals tt refl (d.1 looped h.1 p.1 out cont (λ n. (c n).1) n))))
  layer_fine (TKind-F.While x a) line looped e l out cont b =
      let h = and_parts (fits_either (fits typed results locals x)) (is_formed a.0 true) e in
      loop_fit line (Some x) (stmt_code a.0) nothing (for_loops a.0) h.0 (body_fit a h.1 l) (fit_nothing typed infos locals)
  layer_fine (TKind-F.For None test None body None) line looped e l out cont b =
      let h = and_parts (true && (test_formed typed results locals test) && true) (is_formed body.0 true) e in
      let c = and_parts (true && (test_formed typed results locals test)) true h.0 in
      let d = and_parts true (test_formed typed results locals test) c.0 in
      fit_seq typed infos locals (fit_nothing typed infos locals)
      (loop_fit line test (stmt_code body.0) nothing (for_loops body.0) d.1 (body_fit body h.1 l) (fit_nothing typed infos locals))
  layer_fine (TKind-F.For None test (Some third) body None) line looped e l out cont b =
      let h = and_parts (true && (test_formed typed results locals test) && (is_simple third.0 && is_formed third.0 looped)) (is_formed body.0 true) e in
      let c = and_parts (true && (test_formed typed results locals test)) (is_simple third.0 && is_formed third.0 looped) h.0 in
      let d = and_parts true (test_formed typed results locals test) c.0 in
      let p = all_split (for_loops third.0) (for_loops body.0) l in
      fit_same typed infos locals (ap (λ t. t ++ for_loops body.0) (sym (part_none third looped c.1)))
      (fit_seq typed infos locals (fit_nothing typed infos locals)
      (loop_fit line test (stmt_code body.0) (stmt_code third.0 out cont) (for_loops body.0) d.1 (body_fit body h.1 p.1)
      (part_fit third looped c.1 out cont)))
  layer_fine (TKind-F.For (Some first) test None body None) line looped e l out cont b =
      let h = and_parts ((is_simple first.0 && is_formed first.0 looped) && (test_formed typed results locals test) && true) (is_formed body.0 true) e in
      let c = and_parts ((is_simple first.0 && is_formed first.0 looped) && (test_formed typed results locals test)) true h.0 in
      let d = and_parts (is_simple first.0 && is_formed first.0 looped) (test_formed typed results locals test) c.0 in
      let p = all_split (for_loops first.0 ++ []) (for_loops body.0) l in
      fit_same typed infos locals (ap (λ t. (t ++ []) ++ for_loops body.0) (sym (part_none first looped d.0)))
      (fit_seq typed infos locals (part_fit first looped d.0 out cont)
      (loop_fit line test (stmt_code body.0) nothing (for_loops body.0) d.1 (body_fit body h.1 p.1) (fit_nothing typed infos locals)))
  layer_fine (TKind-F.For (Some first) test (Some third) body None) line looped e l out cont b =
      let h = and_parts ((is_simple first.0 && is_formed first.0 looped) && (test_formed typed results locals test) &&
      (is_simple third.0 && is_formed third.0 looped)) (is_formed body.0 true) e in
      let c = and_parts ((is_simple first.0 && is_formed first.0 looped) && (test_formed typed results locals test))
      (is_simple third.0 && is_formed third.0 looped) h.0 in
      let d = and_parts (is_simple first.0 && is_formed first.0 looped) (test_formed typed results locals test) c.0 in
      let p = all_split (for_loops first.0 ++ for_loops third.0) (for_loops body.0) l in
      fit_same typed infos locals (λ j. (sym (part_none first looped d.0) j ++ sym (part_none third looped c.1) j) ++ for_loops body.0)
      (fit_seq typed infos locals (part_fit first looped d.0 out cont)
      (loop_fit line test (stmt_code body.0) (stmt_code third.0 out cont) (for_loops body.0) d.1 (body_fit body h.1 p.1)
      (part_fit third looped c.1 out cont)))
  layer_fine (TKind-F.For (Some first) test None body (Some k)) line looped e (more f l) out cont b =
      let h = and_parts ((is_simple first.0 && is_formed first.0 looped) && (test_formed typed results locals test) && true) (is_formed body.0 true) e in
      let c = and_parts ((is_simple first.0 && is_formed first.0 looped) && (test_formed typed results locals test)) true h.0 in
      let d = and_parts (is_simple first.0 && is_formed first.0 looped) (test_formed typed results locals test) c.0 in
      let this : ForLoop = record { number = k; first = Some first.0; test = test; third = None; body = body.0 } in
      let p = all_split (for_loops first.0 ++ []) (for_loops body.0) l in
      fit_same typed infos locals (ap (λ t. this ∷ ((t ++ []) ++ for_loops body.0)) (sym (part_none first looped d.0)))
      (annotated_fit line k this first body looped refl refl refl d.0 h.1 f p.1)
  layer_fine (TKind-F.For (Some first) test (Some third) body (Some k)) line looped e (more f l) out cont b =
      let h = and_parts ((is_simple first.0 && is_formed first.0 looped) && (test_formed typed results locals test) &&
      (is_simple third.0 && is_formed third.0 looped)) (is_formed body.0 true) e in
      let c = and_parts ((is_simple first.0 && is_formed first.0 looped) && (test_formed typed results locals test))
      (is_simple third.0 && is_formed third.0 looped) h.0 in
      let d = and_parts (is_simple first.0 && is_formed first.0 looped) (test_formed typed results locals test) c.0 in
      let this : ForLoop = record { number = k; first = Some first.0; test = test; third = Some third.0; body = body.0 } in
      let p = all_split (for_loops first.0 ++ for_loops third.0) (for_loops body.0) l in
      fit_same typed infos locals (λ j. this ∷ ((sym (part_none first looped d.0) j ++ sym (part_none third looped c.1) j) ++ for_loops body.0))
      (annotated_fit line k this first body looped refl refl refl d.0 h.1 f p.1)
  layer_fine (TKind-F.For None test third body (Some k)) line looped e (more f l) out cont b = absurd (no_start f.starts)
    where
      no_start : ◌≡◌ {A = Option Start} None (Some f.start) → ⊥
      no_start e = absurd cc
  layer_fine (TKind-F.Block zs) line looped e l out cont b = block_fine zs looped e l out cont b
  layer_fine (TKind-F.Return x) line looped e l out cont b =
      fit_seq typed infos locals (return_fine result x line e) (plain typed infos locals tt tt)
  layer_fine TKind-F.Break line looped e l out cont b = break_fine out line b
  layer_fine TKind-F.Continue line looped e l out cont b = fit_one typed infos locals tt refl

  kind_step : (y : TKind-F W Z) → KindFine (roll-TKind (kind_layer y))
  unfolding formed formed_in stmt_code code_of_kind for_loops for_loops_of has_break breaks_in
  kind_step y line looped e l out cont b =
      let d = kind_layer y in
      let loops = para-roll-TKind (List ForLoop) (List ForLoop) loops_here (λ s. s.kind.1) d in
      subst (λ (c : ℕ → Ended). FitOf (c line out cont) (for_loops_of (roll-TKind d))) (sym (para-roll-TKind (ℕ → Ended) Ended kind_code stmt_code_case d))
      (fit_same typed infos locals (sym loops)
      (layer_fine y line looped
      (sym (ap (λ (f : Bool → Bool). f looped) (para-roll-TKind (Bool → Bool) (Bool → Bool) (kind_formed typed results locals result) (λ s. s.kind.1) d)) ∙ e)
      (subst LoopsFine loops l) out cont (λ n. sym (fold-roll-TKind Bool Bool breaks_case (λ s. s.kind) d) ∙ b n)))

  abbrev stmt_layer : TStmt-F W Z → TStmt-F TKind TStmt
  stmt_layer y = map-TStmt W Z TKind TStmt (λ e. e.0) (λ e. e.0) y

  stmt_step : (y : TStmt-F W Z) → StmtFine (roll-TStmt (stmt_layer y))
  unfolding formed formed_in stmt_code code_of_kind for_loops for_loops_of has_break breaks_in
  stmt_step y looped e l out cont b =
      let d = stmt_layer y in
      let loops = para-roll-TStmt (List ForLoop) (List ForLoop) loops_here (λ s. s.kind.1) d in
      subst (λ (c : Ended). FitOf (c out cont) (for_loops (roll-TStmt d))) (sym (para-roll-TStmt (ℕ → Ended) Ended kind_code stmt_code_case d))
      (fit_same typed infos locals (sym loops)
      (fit_seq typed infos locals {a = one (As i.Step) y.line 0} (plain typed infos locals tt tt)
      (y.kind.1 y.line looped
      (sym (ap (λ (f : Bool → Bool). f looped) (para-roll-TStmt (Bool → Bool) (Bool → Bool) (kind_formed typed results locals result) (λ s. s.kind.1) d)) ∙ e)
      (subst LoopsFine loops l) out cont (λ n. sym (fold-roll-TStmt Bool Bool breaks_case (λ s. s.kind) d) ∙ b n))))

  pub stmt_fine : (s : TStmt) → StmtFine s
  stmt_fine = stmt_induct KindFine StmtFine kind_step stmt_step

  -- a function's statements, in which no `break` stands outside loops
  pub stmts_fine : (ss : List TStmt) → body_formed typed results locals result ss ≡ true → LoopsFine (for_loops_in ss) → (end cont : ℕ)
      → FitOf (stmts_code ss (Some end) cont) (for_loops_in ss)
  stmts_fine [] e l end cont = fit_nothing typed infos locals
  stmts_fine (s ∷ ss) e l end cont =
      let q = and_parts (is_formed s false) (list_all (λ s. is_formed s false) ss) e in
      let p = all_split (for_loops s) (for_loops_in ss) l in
      fit_seq typed infos locals (stmt_fine s false q.0 p.0 (Some end) cont (inside end (has_break s))) (stmts_fine ss q.1 p.1 end cont)
