-- Statements of a well-formed tree, over kinds.
use Rattle.std.proofs.Common.{◌==◌, length, ◌≡◌, ℕ, zero, suc, ◌+◌, ◌<◌, List, [], ◌∷◌, ◌++◌, Option, Some, None, Result, Ok, Err, ◌^◌, Bool, true, false, ◌&&◌, refl, sym, ap, subst, ◌∙◌, arith}
use Rattle.std.specs.Prelude.{ℤ, pos, ◌+ℤ◌, if◌then◌else◌, map, slice_get}
use Rattle.std.specs.List.{AllByRecursion, list_all}
use Rattle.std.specs.Int.{int_max}
use Rattle.std.proofs.Math.Bool.{true≢false}
use Rattle.al_source.specs.declared.operators.BinOp.{BinOp}
use Rattle.al_core.specs.declared.values.Obj.TheVariants.{Global}
use Rattle.al_core.specs.declared.values.Val.{Val}
use Rattle.al_core.specs.declared.values.Val.TheVariants.{Int, Ptr}
use Rattle.al_core.specs.declared.values.Kind.{Kind}
use Rattle.al_core.specs.declared.values.Kind.TheVariants as kind
use Rattle.al_core.specs.declared.values.Trap.{Trap}
use Rattle.al_core.specs.declared.values.Trap.TheVariants as trap
use Rattle.al_core.specs.declared.choices.Bound.{Bound}
use Rattle.al_core.specs.declared.choices.Bound.TheVariants as bound
use Rattle.al_core.specs.declared.typed_tree.TExpr.{TExpr, map-TExpr, out-TExpr, fold_out-TExpr}
use Rattle.al_core.specs.declared.typed_tree.TPlace.{TPlace}
use Rattle.al_core.specs.declared.typed_tree.TExpr.TheOpen.{TExpr-F}
use Rattle.al_core.specs.declared.typed_tree.TStmt.{TStmt, map-TStmt, out-TStmt, roll-out-TStmt, para-roll-TStmt, fold-roll-TStmt, fold_out-TStmt}
use Rattle.al_core.specs.declared.typed_tree.TKind.{TKind, map-TKind, out-TKind, roll-out-TKind, fold-TKind, para-roll-TKind, fold-roll-TKind, fold_out-TKind}
use Rattle.al_core.specs.declared.typed_tree.TKind.TheViews.{roll-TStmt, roll-TKind}
use Rattle.al_core.specs.declared.typed_tree.TKind.TheOpen.{TStmt-F, TKind-F}
use Rattle.al_core.specs.declared.typed_tree.TLocal.{TLocal}
use Rattle.al_core.specs.declared.typed_tree.TFunc.{TFunc}
use Rattle.al_core.specs.declared.typed_tree.Typed.{Typed}
use Rattle.al_core.specs.World.{Pointer, World}
use Rattle.al_core.specs.Values.{truth, number, numbers, operate, text, trips}
use Rattle.al_core.specs.Action.{Act, At, pure, all, ◌>>=◌, ◌>>◌, set_local, store, free}
use Rattle.al_core.specs.Loops.{ForLoop, Start, start_in, start_of, bound_of, loops_here, all_loops, for_loops, for_loops_of, for_loops_in}
use Rattle.al_core.specs.Accepted.{Terms, no_terms, one_expr, if_expr, both_terms, all_terms, kind_terms, terms, terms_of}
use Rattle.al_core.specs.Meaning.{Flow, Next, Broke, Continued, Returned, Where, Outside, Inside, then_flow, sequence, at_each, all_do, turn_end, turns_to, turns, bound_value, trips_to, annotated, annotated_loop, expr_case, place_case, value, place, values, test_value, result_value, start_value, kind_does, stmt_does, execute, execute_kind, execute_all}
use Rattle.al_laws.proofs.Induction.{With, stmt_induct}
use Rattle.al_rules.specs.Statements.{numbers_in}
use Rattle.al_rules.specs.WellFormed.{is_one, local_kind, is_some_kind, is_int_local, FitsKind, PlaceKind, may_want, fits_either, fits_want, fit_all, param_kinds, fit_params, gives, fits, place_kind, is_simple, call_formed, sets_formed, test_formed, return_formed, kind_formed, all_formed, formed, formed_in}
use Rattle.al_graded_laws.specs.Rules.{Rules, every, expr_obeys, place_obeys, obeys, obeys_at, all_obey, any_obeys, bound_obeys, start_obeys, each_obeys, kind_obeys, stmt_obeys, stmt_kind_obeys, stmts_obey}
use Rattle.al_graded_laws.proofs.Graded.{Fineness, Fine, FineNumbers, OkIs, Any, each_left, each_right, both_left, both_right}
use Rattle.al_graded_laws.proofs.Watched.{outer_rules}
use Rattle.al_kinds_laws.specs.Whole.{WholePlace, all_whole, expr_whole, place_whole, whole, whole_at}
use Rattle.al_kinds_laws.proofs.WholeTerms.{WholeTerms, whole_left, whole_right}
use Rattle.al_kinds_laws.proofs.Kinded.{IsNumber, Says, says_number, says_weaker, HaveKinds, Ends, Kinded}
use Rattle.al_kinds_laws.proofs.KindedExpressions.{Globals, Lies, either_int, either_ptr, either_kind, of_int, kinded_value, kinded_place, same_wants, of_free_at, says_binary}

module _ {S T : Type 0} (v : World S) (w : World T) (F : Fineness) (taken : ℕ → Bool) (literal : ℤ → Bool) (shut : ℕ → Bool) (typed : Typed)
    (results : List (Option Kind)) (locals : List TLocal) (Stands : ℕ → Type 0) (Rel : (A : Type 0) → (A → Type 0) → Act S A → Act T A → Type 0)
    (c : Kinded v w F shut locals Stands Rel) (here : Where) (input : List ℤ) (n : FineNumbers F (outer_rules taken literal) input)
    (g : Globals F typed taken shut) (call : ℕ → List Val → At S Val) (dial : ℕ → List Val → At T Val)
    (calls_related : (f : ℕ) (func : TFunc) (vs : List Val) (line : ℕ) → slice_get typed.funcs f ≡ Some func → HaveKinds F (param_kinds func) vs
    → Rel Val (Says F (gives (slice_get results f) kind.Int)) (call f vs line) (dial f vs line)) (result : Option Kind) where
  abbrev r : Rules
  r = outer_rules taken literal

  abbrev Fit : TExpr → FitsKind
  Fit e = fits typed results locals e

  abbrev Kind_of : TPlace → PlaceKind
  Kind_of p = place_kind typed results locals p

  abbrev Flows : Act S Flow → Act T Flow → Type 0
  Flows p q = Rel Flow (Ends F result) p q

  abbrev val : TExpr → ℕ → (Act S Val → Act T Val → Type 0) → Type 0
  val e line R = R (value v here input call e line) (value w here input dial e line)

  of_value : (e : TExpr) → fits_either (Fit e) ≡ true → obeys r e ≡ true → whole typed e ≡ true → (line : ℕ)
      → Rel Val (Says F (Fit e kind.Int)) (value v here input call e line) (value w here input dial e line)
  of_value = kinded_value v w F taken literal shut typed results locals Stands Rel c here input n g call dial calls_related

  abbrev LiesAt : TPlace → Pointer → Type 0
  LiesAt p = Lies v w F taken literal shut typed results locals Stands Rel c here input n g call dial calls_related (whole_at typed p).1 (obeys_at r p).1

  of_place : (p : TPlace) → (Kind_of p).formed ≡ true → (obeys_at r p).0 ≡ true → (whole_at typed p).0 ≡ true → (line : ℕ)
      → Rel Pointer (LiesAt p) (place v here input call p line) (place w here input dial p line)
  of_place = kinded_place v w F taken literal shut typed results locals Stands Rel c here input n g call dial calls_related

  of_cond : {A : Type 0} {P : A → Type 0} (b : Bool) {p p' : Act S A} {q q' : Act T A} → Rel A P p q → Rel A P p' q'
      → Rel A P (if b then p else p') (if b then q else q')
  of_cond true h k = h
  of_cond false h k = k

  fine_number : (x : Val) → Fine F x → OkIs F.num (number x)
  fine_number (Int m) h = h
  fine_number (Ptr o i) h = tt

  any_numbers : (e : Result (List ℤ) Trap) → OkIs Any e
  any_numbers (Ok a) = tt
  any_numbers (Err t) = tt

  -- ---- flows and loops

  of_then_flow : {p : Act S Flow} {q : Act T Flow} → Flows p q → (f : Flow) → Ends F result f → Flows (then_flow p f) (then_flow q f)
  of_then_flow h Next k = h
  of_then_flow h Broke k = c.of_pure Broke tt
  of_then_flow h Continued k = c.of_pure Continued tt
  of_then_flow h (Returned x) k = c.of_pure (Returned x) k

  of_turn_end : {p : Act S Flow} {q : Act T Flow} → Flows p q → (f : Flow) → Ends F result f → Flows (turn_end p f) (turn_end q f)
  of_turn_end h Next k = h
  of_turn_end h Broke k = c.of_pure Next tt
  of_turn_end h Continued k = h
  of_turn_end h (Returned x) k = c.of_pure (Returned x) k

  of_turns_to : (m line : ℕ) {P : Val → Type 0} {test : Act S Val} {test' : Act T Val} {body third : Act S Flow} {body' third' : Act T Flow}
      → Rel Val P test test'
      → Flows body body' → Flows third third' → Flows (turns_to m line test body third) (turns_to m line test' body' third')
  of_turns_to zero line t b h = c.of_lift line (Err trap.Steps) tt
  of_turns_to (suc m) line t b h =
      c.of_bind (c.of_spend line) (λ u _. c.of_bind t
      (λ x _. of_cond (truth x) (c.of_bind b (of_turn_end (c.of_bind h (of_then_flow (of_turns_to m line t b h))))) (c.of_pure Next tt)))

  of_turns : (line : ℕ) {P : Val → Type 0} {test : Act S Val} {test' : Act T Val} {body third : Act S Flow} {body' third' : Act T Flow} → Rel Val P test test'
      → Flows body body' → Flows third third' → Flows (turns line test body third) (turns line test' body' third')
  of_turns line t b h = c.of_bind c.of_get_budget (λ m _. of_turns_to (suc m) line t b h)

  of_bound_value : (b : Bound) (line : ℕ) → bound_obeys r b ≡ true → Rel ℤ F.num (bound_value v b line) (bound_value w b line)
  of_bound_value (bound.Number m) line h = c.of_pure m (n.literal m h)
  of_bound_value (bound.Local k) line h = c.of_bind (c.of_get_local k line) (λ x s. c.of_lift line (number x) (fine_number x s.fine))

  of_trips_to : (m line counter : ℕ) (lo : ℤ) (j : ℕ) {body : Act S Flow} {body' : Act T Flow} → ((i : ℕ) → i < j + m → F.num (lo +ℤ pos i))
      → Flows body body'
      → Flows (trips_to v m line counter lo j body) (trips_to w m line counter lo j body')
  of_trips_to zero line counter lo j k b = c.of_pure Next tt
  of_trips_to (suc m) line counter lo j k b =
      c.of_bind (c.of_spend line) (λ u _.
      c.of_bind (c.of_set_local counter (Int (lo +ℤ pos j)) line (says_number F (is_int_local locals counter) _ (k j (omega arith))))
      (λ u _. c.of_bind b (of_turn_end (of_trips_to m line counter lo (suc j) (λ i h. k i (omega arith)) b))))

  of_annotated : (side : Where) (loop line counter : ℕ) (lo hi : ℤ) {body : Act S Flow} {body' : Act T Flow} → Stands loop → F.num lo → F.num hi
      → Flows body body' → Flows (annotated v side loop line counter lo hi body) (annotated w side loop line counter lo hi body')
  of_annotated Outside loop line counter lo hi s f k b = c.of_bind (c.of_visit loop lo hi s f k) (λ u _. c.of_pure Next tt)
  of_annotated Inside loop line counter lo hi s f k b =
      c.of_bind {P = λ m. (j : ℕ) → j < m → F.num (lo +ℤ pos j)} (c.of_lift line (trips lo hi) (n.counter lo hi f k))
      (λ m l. c.of_bind (of_trips_to m line counter lo 0 (λ i h. l i (omega arith)) b)
      (of_then_flow (c.of_bind (c.of_set_local counter (Int (int_max lo hi)) line
      (says_number F (is_int_local locals counter) _ (n.greater lo hi f k))) (λ u _. c.of_pure Next tt))))

  -- ---- terms and loops of a statement

  -- each annotated loop stands in the function
  abbrev pub AllStand : List ForLoop → Type 0
  AllStand ls = AllByRecursion (λ l. Stands l.number) ls

  stand_left : (ls ms : List ForLoop) → AllStand (ls ++ ms) → AllStand ls
  stand_left = each_left (λ l. Stands l.number)

  stand_right : (ls ms : List ForLoop) → AllStand (ls ++ ms) → AllStand ms
  stand_right = each_right (λ l. Stands l.number)

  -- ---- statements that call

  plain_args : (es : List TExpr) (ks : List Kind) (line : ℕ) → fit_all (map Fit es) ks ≡ true → every (map (obeys r) es) ≡ true
      → all_whole (map (whole typed) es) ≡ true
      → Rel (List Val) (HaveKinds F ks) (all (at_each line (map (value v here input call) es))) (all (at_each line (map (value w here input dial) es)))
  plain_args [] [] line f o u = c.of_pure [] tt
  plain_args [] (k ∷ ks) line f o u = absurd (true≢false (sym f))
  plain_args (e ∷ es) [] line f o u = absurd (true≢false (sym f))
  plain_args (e ∷ es) (k ∷ ks) line f o u =
      let this = both_left (Fit e k) _ f in
      c.of_bind (of_value e (either_kind (Fit e) k this) (both_left (obeys r e) _ o) (both_left (whole typed e) _ u) line)
      (λ x s. c.of_bind (plain_args es ks line (both_right (Fit e k) _ f) (both_right (obeys r e) _ o) (both_right (whole typed e) _ u))
      (λ xs k2. c.of_pure (x ∷ xs) (says_weaker F (Fit e kind.Int) (is_one k kind.Int) x (of_int (Fit e) k this) s, k2)))

  plain_call : (f : ℕ) (es : List TExpr) (line : ℕ) (func : Option TFunc) → slice_get typed.funcs f ≡ func → fit_params (map Fit es) func ≡ true
      → every (map (obeys r) es) ≡ true → all_whole (map (whole typed) es) ≡ true
      → Rel Val (Fine F) (all (at_each line (map (value v here input call) es)) >>= (λ vs. call f vs line))
      (all (at_each line (map (value w here input dial) es)) >>= (λ vs. dial f vs line))
  plain_call f es line (Some func) is p o u =
      c.of_weaker (c.of_bind (plain_args es (param_kinds func) line p o u) (λ vs h. calls_related f func vs line is h)) (λ a s. s.fine)
  plain_call f es line None is p o u = absurd (true≢false (sym p))

  value_out : (e : TExpr) → value v here input call e
      ≡ expr_case v here input call (map-TExpr TExpr TPlace (At S Val) (At S Pointer) (value v here input call) (place v here input call) (out-TExpr e))
  unfolding value place
  value_out e = fold_out-TExpr (At S Val) (At S Pointer) (expr_case v here input call) (place_case v here input call) e

  value_out' : (e : TExpr) → value w here input dial e
      ≡ expr_case w here input dial (map-TExpr TExpr TPlace (At T Val) (At T Pointer) (value w here input dial) (place w here input dial) (out-TExpr e))
  unfolding value place
  value_out' e = fold_out-TExpr (At T Val) (At T Pointer) (expr_case w here input dial) (place_case w here input dial) e

  obeys_out : (e : TExpr) → obeys r e ≡ expr_obeys r (map-TExpr TExpr TPlace Bool (Bool × Bool) (obeys r) (obeys_at r) (out-TExpr e))
  unfolding obeys obeys_at
  obeys_out e = fold_out-TExpr Bool (Bool × Bool) (expr_obeys r) (place_obeys r) e

  whole_out : (e : TExpr) → whole typed e ≡ expr_whole typed (map-TExpr TExpr TPlace Bool WholePlace (whole typed) (whole_at typed) (out-TExpr e))
  unfolding whole whole_at
  whole_out e = fold_out-TExpr Bool WholePlace (expr_whole typed) (place_whole typed) e

  -- a call that is a statement, and what frees an object, need give no value
  called_as : (y : TExpr-F TExpr TPlace) (e : TExpr) (line : ℕ) → call_formed typed results locals y e ≡ true → obeys r e ≡ true → whole typed e ≡ true
      → expr_obeys r (map-TExpr TExpr TPlace Bool (Bool × Bool) (obeys r) (obeys_at r) y) ≡ true
      → expr_whole typed (map-TExpr TExpr TPlace Bool WholePlace (whole typed) (whole_at typed) y) ≡ true
      → value v here input call e ≡ expr_case v here input call (map-TExpr TExpr TPlace (At S Val) (At S Pointer) (value v here input call)
      (place v here input call) y)
      → value w here input dial e ≡ expr_case w here input dial (map-TExpr TExpr TPlace (At T Val) (At T Pointer) (value w here input dial)
      (place w here input dial) y)
      → Rel Val (Fine F) (value v here input call e line) (value w here input dial e line)
  called_as (TExpr-F.Call q es) e line f o u o' u' i j =
      subst (λ (x : At S Val). Rel Val (Fine F) (x line) (value w here input dial e line)) (sym i)
      (subst (λ (y : At T Val). Rel Val (Fine F) (all (at_each line (map (value v here input call) es)) >>= (λ vs. call q vs line)) (y line)) (sym j)
      (plain_call q es line (slice_get typed.funcs q) refl f o' u'))
  called_as (TExpr-F.Free p) e line f o u o' u' i j =
      subst (λ (x : At S Val). Rel Val (Fine F) (x line) (value w here input dial e line)) (sym i)
      (subst (λ (y : At T Val). Rel Val (Fine F) (value v here input call p line >>= (λ x. free v x line)) (y line)) (sym j)
      (c.of_bind (of_value p (either_ptr (Fit p) f) o' u' line)
      (λ x s. of_free_at v w F taken literal shut typed results locals Stands Rel c here input n g call dial calls_related x line s.fine)))
  called_as (TExpr-F.Number m) e line f o u o' u' i j = c.of_weaker (of_value e f o u line) (λ x s. s.fine)
  called_as (TExpr-F.Local k) e line f o u o' u' i j = c.of_weaker (of_value e f o u line) (λ x s. s.fine)
  called_as (TExpr-F.Load want p) e line f o u o' u' i j = c.of_weaker (of_value e f o u line) (λ x s. s.fine)
  called_as (TExpr-F.Addr p) e line f o u o' u' i j = c.of_weaker (of_value e f o u line) (λ x s. s.fine)
  called_as (TExpr-F.Unary op x) e line f o u o' u' i j = c.of_weaker (of_value e f o u line) (λ x s. s.fine)
  called_as (TExpr-F.Binary op x y) e line f o u o' u' i j = c.of_weaker (of_value e f o u line) (λ x s. s.fine)
  called_as (TExpr-F.Same equal x y) e line f o u o' u' i j = c.of_weaker (of_value e f o u line) (λ x s. s.fine)
  called_as (TExpr-F.And x y) e line f o u o' u' i j = c.of_weaker (of_value e f o u line) (λ x s. s.fine)
  called_as (TExpr-F.Or x y) e line f o u o' u' i j = c.of_weaker (of_value e f o u line) (λ x s. s.fine)
  called_as (TExpr-F.Input x) e line f o u o' u' i j = c.of_weaker (of_value e f o u line) (λ x s. s.fine)
  called_as TExpr-F.Inputs e line f o u o' u' i j = c.of_weaker (of_value e f o u line) (λ x s. s.fine)
  called_as (TExpr-F.Choose op x y) e line f o u o' u' i j = c.of_weaker (of_value e f o u line) (λ x s. s.fine)
  called_as (TExpr-F.Calloc x size) e line f o u o' u' i j = c.of_weaker (of_value e f o u line) (λ x s. s.fine)

  of_called : (e : TExpr) (line : ℕ) → call_formed typed results locals (out-TExpr e) e ≡ true → obeys r e ≡ true → whole typed e ≡ true
      → Rel Val (Fine F) (value v here input call e line) (value w here input dial e line)
  of_called e line f o u =
      called_as (out-TExpr e) e line f o u (sym (obeys_out e) ∙ o) (sym (whole_out e) ∙ u) (value_out e) (value_out' e)

  -- ---- the parts of a statement

  of_values : (es : List TExpr) (line : ℕ) → list_all (λ e. Fit e kind.Int) es ≡ true → all_obey r es ≡ true
      → AllByRecursion (λ e. whole typed e ≡ true) es
      → Rel (List Val) Any (values v here input call es line) (values w here input dial es line)
  of_values [] line f o u = c.of_pure [] tt
  of_values (e ∷ es) line f o u =
      c.of_bind (of_value e (either_int (Fit e) (both_left (Fit e kind.Int) _ f)) (both_left (obeys r e) (all_obey r es) o) u.0 line)
      (λ x _. c.of_bind (of_values es line (both_right (Fit e kind.Int) _ f) (both_right (obeys r e) (all_obey r es) o) u.1) (λ xs _. c.of_pure (x ∷ xs) tt))

  of_test : (e : Option TExpr) (line : ℕ) → test_formed typed results locals e ≡ true → any_obeys r e ≡ true → WholeTerms typed (if_expr e)
      → Rel Val Any (test_value v here input call e line) (test_value w here input dial e line)
  of_test (Some e) line f o u = c.of_weaker (of_value e f o u.exprs.0 line) (λ x s. tt)
  of_test None line f o u = c.of_pure (Int (pos 1)) tt

  of_result : (k : Option Kind) (e : Option TExpr) (line : ℕ) → return_formed typed results locals k e ≡ true → any_obeys r e ≡ true
      → WholeTerms typed (if_expr e)
      → Rel Val (Says F (is_some_kind k kind.Int)) (result_value v here input call e line) (result_value w here input dial e line)
  of_result (Some k) (Some e) line f o u =
      c.of_weaker (of_value e (either_kind (Fit e) k f) o u.exprs.0 line)
      (λ x. says_weaker F (Fit e kind.Int) (is_one k kind.Int) x (of_int (Fit e) k f))
  of_result None None line f o u = c.of_pure (Int (pos 0)) (says_number F false _ (n.tested false))
  of_result (Some k) None line f o u = absurd (true≢false (sym f))
  of_result None (Some e) line f o u = absurd (true≢false (sym f))

  set_then : (k line : ℕ) (x : Val) → Says F (is_int_local locals k) x
      → Flows (set_local v k x line >> pure Next) (set_local w k x line >> pure Next)
  set_then k line x s = c.of_bind (c.of_set_local k x line s) (λ u _. c.of_pure Next tt)

  store_then : (q : Pointer) (line : ℕ) (x : Val) → q.1 < 2 ^ 32 → Fine F x → ((k : ℕ) → q.0 ≡ Global k → shut k ≡ true → IsNumber x)
      → Flows (store v q x line >> pure Next) (store w q x line >> pure Next)
  store_then q line x s f k = c.of_bind (c.of_store q x line s f k) (λ u _. c.of_pure Next tt)

  -- what is set fits the local
  of_set : (k : ℕ) (e : TExpr) (line : ℕ) (x : Option Kind) → local_kind (slice_get locals k) ≡ x → sets_formed typed results locals x e ≡ true
      → obeys r e ≡ true → whole typed e ≡ true
      → Rel Val (Says F (is_int_local locals k)) (value v here input call e line) (value w here input dial e line)
  of_set k e line (Some want) is f o u =
      c.of_weaker (of_value e (either_kind (Fit e) want f) o u line)
      (λ x. says_weaker F (Fit e kind.Int) (is_int_local locals k) x (λ t. of_int (Fit e) want f (sym (ap (λ z. is_some_kind z kind.Int) is) ∙ t)))
  of_set k e line None is f o u = absurd (true≢false (sym f))

  want_either : (wants : Option Kind) (x : FitsKind) → fits_want wants x ≡ true → fits_either x ≡ true
  want_either (Some k) x f = either_kind x k f
  want_either None x f = f

  -- what is stored to a shut global is a number
  stores_number : (p : TPlace) (e : TExpr) → fits_want (Kind_of p).wants (Fit e) ≡ true → (whole_at typed p).1 ≡ Some kind.Int → Fit e kind.Int ≡ true
  stores_number p e f is =
      ap (λ z. fits_want z (Fit e)) (sym is
      ∙ same_wants v w F taken literal shut typed results locals Stands Rel c here input n g call dial calls_related p) ∙ f

  number_result : (op : BinOp) (b : Bool) (x y : Val) → Fine F x → Fine F y → OkIs (Says F b) (operate op x y)
  number_result op b x y f h = says_binary v w F taken literal shut typed results locals Stands Rel c here input n g call dial calls_related b op x y f h

  -- ---- the start of an annotated loop

  abbrev kind_terms_of : TKind → Terms
  kind_terms_of = fold-TKind Terms Terms kind_terms (λ s. s.kind)

  abbrev Formed : TStmt → Bool → Bool
  Formed d = formed typed results locals result d

  abbrev formed_layer : TKind-F TKind TStmt → TKind-F (TKind × (Bool → Bool)) (TStmt × (Bool → Bool))
  formed_layer y =
      map-TKind TKind TStmt (TKind × (Bool → Bool)) (TStmt × (Bool → Bool)) (λ d. (d, formed_in typed results locals result d)) (λ d. (d, Formed d)) y

  formed_out : (d : TStmt) (looped : Bool) → Formed d looped ≡ kind_formed typed results locals result (formed_layer (out-TKind (out-TStmt d).kind)) looped
  unfolding formed formed_in
  formed_out d looped =
      ap (λ z. Formed z looped) (sym (roll-out-TStmt d))
      ∙ ap (λ z. z looped) (para-roll-TStmt (Bool → Bool) (Bool → Bool) (kind_formed typed results locals result) (λ s. s.kind.1) (out-TStmt d))
      ∙ ap (λ z. formed_in typed results locals result z looped) (sym (roll-out-TKind (out-TStmt d).kind))
      ∙ ap (λ z. z looped) (para-roll-TKind (Bool → Bool) (Bool → Bool) (kind_formed typed results locals result) (λ s. s.kind.1)
      (out-TKind (out-TStmt d).kind))

  abbrev StartFits : Option Start → Type 0
  StartFits (Some start) = (fits_either (Fit start.value) ≡ true) × (whole typed start.value ≡ true)
  StartFits None = Unit {0}

  set_either : (k : Option Kind) (e : TExpr) → sets_formed typed results locals k e ≡ true → fits_either (Fit e) ≡ true
  set_either (Some k) e f = either_kind (Fit e) k f
  set_either None e f = absurd (true≢false (sym f))

  start_in_fits : (line : ℕ) (y : TKind-F TKind TStmt) (looped : Bool) → kind_formed typed results locals result (formed_layer y) looped ≡ true
      → WholeTerms typed (kind_terms (map-TKind TKind TStmt Terms Terms kind_terms_of terms y)) → StartFits (start_in line y)
  start_in_fits line (TKind-F.SetLocal k e) looped f u = (set_either (local_kind (slice_get locals k)) e f, u.exprs.0)
  start_in_fits line TKind-F.Empty looped f u = tt
  start_in_fits line (TKind-F.Store p e) looped f u = tt
  start_in_fits line (TKind-F.UpdateLocal op k e) looped f u = tt
  start_in_fits line (TKind-F.UpdateAt op p e) looped f u = tt
  start_in_fits line (TKind-F.Call e) looped f u = tt
  start_in_fits line (TKind-F.Print format es) looped f u = tt
  start_in_fits line (TKind-F.If e a b) looped f u = tt
  start_in_fits line (TKind-F.While e a) looped f u = tt
  start_in_fits line (TKind-F.For first test third body loop) looped f u = tt
  start_in_fits line (TKind-F.Block ss) looped f u = tt
  start_in_fits line (TKind-F.Return e) looped f u = tt
  start_in_fits line TKind-F.Break looped f u = tt
  start_in_fits line TKind-F.Continue looped f u = tt

  start_fits : (d : TStmt) (looped : Bool) → Formed d looped ≡ true → WholeTerms typed (terms d) → StartFits (start_of (Some d))
  unfolding terms
  start_fits d looped f u =
      start_in_fits (out-TStmt d).line (out-TKind (out-TStmt d).kind) looped (sym (formed_out d looped) ∙ f)
      (subst (WholeTerms typed) (fold_out-TStmt Terms Terms kind_terms (λ s. s.kind) d ∙ fold_out-TKind Terms Terms kind_terms (λ s. s.kind)
      (out-TStmt d).kind) u)

  of_start : (loop line : ℕ) (start : Option Start) (b : Bound) {body : Act S Flow} {body' : Act T Flow} → Stands loop → StartFits start
      → start_obeys r start ≡ true → bound_obeys r b ≡ true → Flows body body'
      → Flows (annotated_loop v here loop line (start_value v here input call start) b body)
      (annotated_loop w here loop line (start_value w here input dial start) b body')
  of_start loop line (Some start) b s f o p h =
      c.of_bind (of_value start.value f.0 o f.1 start.line) (λ x fine.
      c.of_bind (c.of_lift line (number x) (fine_number x fine.fine)) (λ lo l.
      c.of_bind (of_bound_value b line p) (λ hi k. of_annotated here loop line start.counter lo hi s l k h)))
  of_start loop line None b s f o p h = c.of_pure Next tt

  -- ---- the induction

  abbrev OfKind : TKind → Type 0
  OfKind d =
      (looped : Bool) → formed_in typed results locals result d looped ≡ true → stmt_kind_obeys r d ≡ true → WholeTerms typed (kind_terms_of d)
      → AllStand (for_loops_of d) → (line : ℕ) → Flows (execute_kind v here input call d line) (execute_kind w here input dial d line)

  abbrev OfStmt : TStmt → Type 0
  OfStmt d =
      (looped : Bool) → Formed d looped ≡ true → stmt_obeys r d ≡ true → WholeTerms typed (terms d) → AllStand (for_loops d)
      → Flows (execute v here input call d) (execute w here input dial d)

  abbrev K : Type 0
  K = With TKind OfKind

  abbrev Z : Type 0
  Z = With TStmt OfStmt

  abbrev bare : TKind-F K Z → TKind-F TKind TStmt
  bare y = map-TKind K Z TKind TStmt (λ e. e.0) (λ p. p.0) y

  abbrev layer_o : TKind-F K Z → TKind-F (TKind × Bool) (TStmt × Bool)
  layer_o y = map-TKind TKind TStmt (TKind × Bool) (TStmt × Bool) (λ d. (d, stmt_kind_obeys r d)) (λ d. (d, stmt_obeys r d)) (bare y)

  abbrev layer_t : TKind-F K Z → TKind-F Terms Terms
  layer_t y = map-TKind TKind TStmt Terms Terms kind_terms_of terms (bare y)

  abbrev layer_l : TKind-F K Z → TKind-F (TKind × List ForLoop) (TStmt × List ForLoop)
  layer_l y = map-TKind TKind TStmt (TKind × List ForLoop) (TStmt × List ForLoop) (λ d. (d, for_loops_of d)) (λ d. (d, for_loops d)) (bare y)

  abbrev stmt_v : TStmt → TStmt × Act S Flow
  stmt_v d = (d, execute v here input call d)

  abbrev stmt_w : TStmt → TStmt × Act T Flow
  stmt_w d = (d, execute w here input dial d)

  abbrev layer_v : TKind-F K Z → TKind-F (TKind × At S Flow) (TStmt × Act S Flow)
  layer_v y = map-TKind TKind TStmt (TKind × At S Flow) (TStmt × Act S Flow) (λ d. (d, execute_kind v here input call d)) stmt_v (bare y)

  abbrev layer_w : TKind-F K Z → TKind-F (TKind × At T Flow) (TStmt × Act T Flow)
  layer_w y = map-TKind TKind TStmt (TKind × At T Flow) (TStmt × Act T Flow) (λ d. (d, execute_kind w here input dial d)) stmt_w (bare y)

  block : (zs : List Z) (looped : Bool) → all_formed typed results locals (map (λ d. (d, Formed d)) (map (λ e. e.0) zs)) looped ≡ true
      → each_obeys (map (λ d. (d, stmt_obeys r d)) (map (λ e. e.0) zs)) ≡ true → WholeTerms typed (all_terms (map terms (map (λ e. e.0) zs)))
      → AllStand (all_loops (map (λ d. (d, for_loops d)) (map (λ e. e.0) zs)))
      → Flows (sequence (all_do (map stmt_v (map (λ e. e.0) zs)))) (sequence (all_do (map stmt_w (map (λ e. e.0) zs))))
  block [] looped f o u l = c.of_pure Next tt
  block (z ∷ zs) looped f o u l =
      c.of_bind (z.1 looped (both_left (Formed z.0 looped) _ f) (both_left (stmt_obeys r z.0) _ o) (whole_left typed (terms z.0) _ u)
      (stand_left (for_loops z.0) _ l))
      (of_then_flow (block zs looped (both_right (Formed z.0 looped) _ f) (both_right (stmt_obeys r z.0) _ o) (whole_right typed (terms z.0) _ u)
      (stand_right (for_loops z.0) _ l)))

  -- a part of a `for`, or none
  abbrev part : (TStmt → Bool) → Option Z → Bool
  part f (Some z) = f z.0
  part f None = true

  abbrev part_terms : Option Z → Terms
  part_terms (Some z) = terms z.0
  part_terms None = no_terms

  abbrev part_loops : Option Z → List ForLoop
  part_loops (Some z) = for_loops z.0
  part_loops None = []

  abbrev part_v : Option Z → Act S Flow
  part_v (Some z) = execute v here input call z.0
  part_v None = pure Next

  abbrev part_w : Option Z → Act T Flow
  part_w (Some z) = execute w here input dial z.0
  part_w None = pure Next

  abbrev part_formed : Bool → Option Z → Bool
  part_formed looped (Some z) = is_simple z.0 && Formed z.0 looped
  part_formed looped None = true

  of_part : (z : Option Z) (looped : Bool) → part_formed looped z ≡ true → part (stmt_obeys r) z ≡ true → WholeTerms typed (part_terms z)
      → AllStand (part_loops z)
      → Flows (part_v z) (part_w z)
  of_part (Some z) looped f o u l = z.1 looped (both_right (is_simple z.0) (Formed z.0 looped) f) o u l
  of_part None looped f o u l = c.of_pure Next tt

  abbrev for_terms : Option Z → Option TExpr → Option Z → Z → Terms
  for_terms first test third body = both_terms (part_terms first) (both_terms (if_expr test) (both_terms (part_terms third) (terms body.0)))

  abbrev for_formed : Bool → Option Z → Option TExpr → Option Z → Z → Bool
  for_formed looped first test third body =
      part_formed looped first && test_formed typed results locals test && part_formed looped third && Formed body.0 true

  ordinary : (first : Option Z) (test : Option TExpr) (third : Option Z) (body : Z) (looped : Bool) (line : ℕ)
      → for_formed looped first test third body ≡ true
      → (part (stmt_obeys r) first && (any_obeys r test && (part (stmt_obeys r) third && stmt_obeys r body.0))) ≡ true
      → WholeTerms typed (for_terms first test third body) → AllStand (part_loops first) → AllStand (part_loops third) → AllStand (for_loops body.0)
      → Flows (part_v first >>= then_flow (turns line (test_value v here input call test line) (execute v here input call body.0) (part_v third)))
      (part_w first >>= then_flow (turns line (test_value w here input dial test line) (execute w here input dial body.0) (part_w third)))
  ordinary first test third body looped line f o u l m k =
      let tested = test_formed typed results locals test in
      let f3 = both_left (part_formed looped first && tested && part_formed looped third) (Formed body.0 true) f in
      let f2 = both_left (part_formed looped first && tested) (part_formed looped third) f3 in
      let o1 = both_right (part (stmt_obeys r) first) _ o in
      let o2 = both_right (any_obeys r test) _ o1 in
      let u1 = whole_right typed (part_terms first) _ u in
      let u2 = whole_right typed (if_expr test) _ u1 in
      c.of_bind (of_part first looped (both_left (part_formed looped first) tested f2) (both_left (part (stmt_obeys r) first) _ o)
      (whole_left typed (part_terms first) _ u) l)
      (of_then_flow (of_turns line
      (of_test test line (both_right (part_formed looped first) tested f2) (both_left (any_obeys r test) _ o1) (whole_left typed (if_expr test) _ u1))
      (body.1 true (both_right (part_formed looped first && tested && part_formed looped third) (Formed body.0 true) f)
      (both_right (part (stmt_obeys r) third) _ o2) (whole_right typed (part_terms third) _ u2) k)
      (of_part third looped (both_right (part_formed looped first && tested) (part_formed looped third) f3) (both_left (part (stmt_obeys r) third) _ o2)
      (whole_left typed (part_terms third) _ u2) m)))

  abbrev bare_part : Option Z → Option TStmt
  bare_part (Some z) = Some z.0
  bare_part None = None

  part_start : (first : Option Z) (looped : Bool) → part_formed looped first ≡ true → WholeTerms typed (part_terms first)
      → StartFits (start_of (bare_part first))
  part_start (Some z) looped f u = start_fits z.0 looped (both_right (is_simple z.0) (Formed z.0 looped) f) u
  part_start None looped f u = tt

  noted : (number : ℕ) (first : Option Z) (test : Option TExpr) (third : Option Z) (body : Z) (looped : Bool) (line : ℕ) → Stands number
      → for_formed looped first test third body ≡ true
      → (start_obeys r (start_of (bare_part first)) && (bound_obeys r (bound_of test) && stmt_obeys r body.0)) ≡ true
      → WholeTerms typed (for_terms first test third body) → AllStand (part_loops first) → AllStand (part_loops third) → AllStand (for_loops body.0)
      → Flows (annotated_loop v here number line (start_value v here input call (start_of (bare_part first))) (bound_of test)
      (execute v here input call body.0))
      (annotated_loop w here number line (start_value w here input dial (start_of (bare_part first))) (bound_of test) (execute w here input dial body.0))
  noted number first test third body looped line s f o u l m k =
      let tested = test_formed typed results locals test in
      let f3 = both_left (part_formed looped first && tested && part_formed looped third) (Formed body.0 true) f in
      let f2 = both_left (part_formed looped first && tested) (part_formed looped third) f3 in
      let o1 = both_right (start_obeys r (start_of (bare_part first))) _ o in
      let u2 = whole_right typed (if_expr test) _ (whole_right typed (part_terms first) _ u) in
      of_start number line (start_of (bare_part first)) (bound_of test) s
      (part_start first looped (both_left (part_formed looped first) tested f2) (whole_left typed (part_terms first) _ u))
      (both_left (start_obeys r (start_of (bare_part first))) _ o) (both_left (bound_obeys r (bound_of test)) _ o1)
      (body.1 true (both_right (part_formed looped first && tested && part_formed looped third) (Formed body.0 true) f)
      (both_right (bound_obeys r (bound_of test)) _ o1) (whole_right typed (part_terms third) _ u2) k)

  does_layer : (y : TKind-F K Z) (looped : Bool) → kind_formed typed results locals result (formed_layer (bare y)) looped ≡ true
      → kind_obeys r (layer_o y) ≡ true → WholeTerms typed (kind_terms (layer_t y)) → AllStand (loops_here (layer_l y)) → (line : ℕ)
      → Flows (kind_does v here input call (layer_v y) line) (kind_does w here input dial (layer_w y) line)
  does_layer TKind-F.Empty looped f o u l line = c.of_pure Next tt
  does_layer (TKind-F.SetLocal k e) looped f o u l line =
      c.of_bind (of_set k e line (local_kind (slice_get locals k)) refl f o u.exprs.0) (λ x s. set_then k line x s)
  does_layer (TKind-F.Store p e) looped f o u l line =
      let formed_p = (Kind_of p).formed in
      let wanted = both_right formed_p (fits_want (Kind_of p).wants (Fit e)) f in
      c.of_bind (of_place p (both_left formed_p (fits_want (Kind_of p).wants (Fit e)) f) (both_left (obeys_at r p).0 (obeys r e) o) u.places.0 line)
      (λ q a. c.of_bind (of_value e (want_either (Kind_of p).wants (Fit e) wanted) (both_right (obeys_at r p).0 (obeys r e) o) u.exprs.0 line)
      (λ x s. store_then q line x a.small s.fine (λ k i t. s.number (stores_number p e wanted (a.shuts k i t)))))
  does_layer (TKind-F.UpdateLocal op k e) looped f o u l line =
      let is_int = is_int_local locals k in
      c.of_bind (c.of_get_local k line) (λ x s.
      c.of_bind (of_value e (either_int (Fit e) (both_right is_int (Fit e kind.Int) f)) o u.exprs.0 line)
      (λ y t. c.of_bind (c.of_lift line (operate op x y) (number_result op is_int x y s.fine t.fine)) (λ z i. set_then k line z i)))
  does_layer (TKind-F.UpdateAt op p e) looped f o u l line =
      let formed_p = (Kind_of p).formed in
      let may = may_want (Kind_of p).wants kind.Int in
      let f1 = both_left (formed_p && may) (Fit e kind.Int) f in
      c.of_bind (of_place p (both_left formed_p may f1) (both_left (obeys_at r p).0 (obeys r e) o) u.places.0 line)
      (λ q a. c.of_bind (c.of_load q kind.Int line a.small)
      (λ x s. c.of_bind (of_value e (either_int (Fit e) (both_right (formed_p && may) (Fit e kind.Int) f))
      (both_right (obeys_at r p).0 (obeys r e) o) u.exprs.0 line)
      (λ y t. c.of_bind (c.of_lift line (operate op x y) (number_result op true x y s.fine t.fine))
      (λ z i. store_then q line z a.small i.fine (λ k j t. i.number refl)))))
  does_layer (TKind-F.Call e) looped f o u l line = c.of_bind (of_called e line f o u.exprs.0) (λ x _. c.of_pure Next tt)
  does_layer (TKind-F.Print format es) looped f o u l line =
      c.of_bind (of_values es line (both_right (length es == numbers_in format) _ f) o u.exprs) (λ vs _.
      c.of_bind {P = Any} (c.of_lift line (numbers vs) (any_numbers (numbers vs)))
      (λ ns _. c.of_bind (c.of_print line (text format ns)) (λ u _. c.of_pure Next tt)))
  does_layer (TKind-F.If e a (Some b)) looped f o u l line =
      let f1 = both_left (fits_either (Fit e) && Formed a.0 looped) (Formed b.0 looped) f in
      let o1 = both_right (obeys r e) _ o in
      let u1 = whole_right typed (one_expr e) _ u in
      c.of_bind (of_value e (both_left (fits_either (Fit e)) (Formed a.0 looped) f1) (both_left (obeys r e) _ o) u.exprs.0 line)
      (λ z _. of_cond (truth z)
      (a.1 looped (both_right (fits_either (Fit e)) (Formed a.0 looped) f1) (both_left (stmt_obeys r a.0) _ o1) (whole_left typed (terms a.0) _ u1)
      (stand_left (for_loops a.0) _ l))
      (b.1 looped (both_right (fits_either (Fit e) && Formed a.0 looped) (Formed b.0 looped) f) (both_right (stmt_obeys r a.0) _ o1)
      (whole_right typed (terms a.0) _ u1) (stand_right (for_loops a.0) _ l)))
  does_layer (TKind-F.If e a None) looped f o u l line =
      let f1 = both_left (fits_either (Fit e) && Formed a.0 looped) true f in
      let o1 = both_right (obeys r e) _ o in
      let u1 = whole_right typed (one_expr e) _ u in
      c.of_bind (of_value e (both_left (fits_either (Fit e)) (Formed a.0 looped) f1) (both_left (obeys r e) _ o) u.exprs.0 line)
      (λ z _. of_cond (truth z)
      (a.1 looped (both_right (fits_either (Fit e)) (Formed a.0 looped) f1) (both_left (stmt_obeys r a.0) _ o1) (whole_left typed (terms a.0) _ u1)
      (stand_left (for_loops a.0) _ l)) (c.of_pure Next tt))
  does_layer (TKind-F.While e a) looped f o u l line =
      of_turns line (of_value e (both_left (fits_either (Fit e)) (Formed a.0 true) f) (both_left (obeys r e) _ o) u.exprs.0 line)
      (a.1 true (both_right (fits_either (Fit e)) (Formed a.0 true) f) (both_right (obeys r e) _ o) (whole_right typed (one_expr e) _ u) l)
      (c.of_pure Next tt)
  does_layer (TKind-F.For (Some first) test (Some third) body None) looped f o u l line =
      let heads = stand_left ((for_loops first.0) ++ (for_loops third.0)) (for_loops body.0) l in
      ordinary (Some first) test (Some third) body looped line f o u (stand_left (for_loops first.0) (for_loops third.0) heads)
      (stand_right (for_loops first.0) (for_loops third.0) heads)
      (stand_right ((for_loops first.0) ++ (for_loops third.0)) (for_loops body.0) l)
  does_layer (TKind-F.For (Some first) test None body None) looped f o u l line =
      let heads = stand_left ((for_loops first.0) ++ []) (for_loops body.0) l in
      ordinary (Some first) test None body looped line f o u (stand_left (for_loops first.0) [] heads) (stand_right (for_loops first.0) [] heads)
      (stand_right ((for_loops first.0) ++ []) (for_loops body.0) l)
  does_layer (TKind-F.For None test (Some third) body None) looped f o u l line =
      let heads = stand_left ([] ++ (for_loops third.0)) (for_loops body.0) l in
      ordinary None test (Some third) body looped line f o u (stand_left [] (for_loops third.0) heads) (stand_right [] (for_loops third.0) heads)
      (stand_right ([] ++ (for_loops third.0)) (for_loops body.0) l)
  does_layer (TKind-F.For None test None body None) looped f o u l line =
      let heads = stand_left ([] ++ []) (for_loops body.0) l in
      ordinary None test None body looped line f o u (stand_left [] [] heads) (stand_right [] [] heads)
      (stand_right ([] ++ []) (for_loops body.0) l)
  does_layer (TKind-F.For (Some first) test (Some third) body (Some loop)) looped f o u l line =
      let heads = stand_left ((for_loops first.0) ++ (for_loops third.0)) (for_loops body.0) l.1 in
      noted loop (Some first) test (Some third) body looped line l.0 f o u (stand_left (for_loops first.0) (for_loops third.0) heads)
      (stand_right (for_loops first.0) (for_loops third.0) heads)
      (stand_right ((for_loops first.0) ++ (for_loops third.0)) (for_loops body.0) l.1)
  does_layer (TKind-F.For (Some first) test None body (Some loop)) looped f o u l line =
      let heads = stand_left ((for_loops first.0) ++ []) (for_loops body.0) l.1 in
      noted loop (Some first) test None body looped line l.0 f o u (stand_left (for_loops first.0) [] heads) (stand_right (for_loops first.0) [] heads)
      (stand_right ((for_loops first.0) ++ []) (for_loops body.0) l.1)
  does_layer (TKind-F.For None test (Some third) body (Some loop)) looped f o u l line =
      let heads = stand_left ([] ++ (for_loops third.0)) (for_loops body.0) l.1 in
      noted loop None test (Some third) body looped line l.0 f o u (stand_left [] (for_loops third.0) heads) (stand_right [] (for_loops third.0) heads)
      (stand_right ([] ++ (for_loops third.0)) (for_loops body.0) l.1)
  does_layer (TKind-F.For None test None body (Some loop)) looped f o u l line =
      let heads = stand_left ([] ++ []) (for_loops body.0) l.1 in
      noted loop None test None body looped line l.0 f o u (stand_left [] [] heads) (stand_right [] [] heads)
      (stand_right ([] ++ []) (for_loops body.0) l.1)
  does_layer (TKind-F.Block zs) looped f o u l line = block zs looped f o u l
  does_layer (TKind-F.Return e) looped f o u l line = c.of_bind (of_result result e line f o u) (λ x s. c.of_pure (Returned x) s)
  does_layer TKind-F.Break looped f o u l line = c.of_pure Broke tt
  does_layer TKind-F.Continue looped f o u l line = c.of_pure Continued tt

  equal_flows : (p p' : Act S Flow) (q q' : Act T Flow) → p' ≡ p → q' ≡ q → Flows p q → Flows p' q'
  equal_flows p p' q q' e f h = subst (λ (x : Act S Flow). Flows x q') (sym e) (subst (λ (y : Act T Flow). Flows p y) (sym f) h)

  kind_step : (y : TKind-F K Z) → OfKind (roll-TKind (bare y))
  unfolding execute execute_kind stmt_obeys stmt_kind_obeys terms formed formed_in for_loops for_loops_of
  kind_step y looped f o u l line =
      let d = bare y in
      let is_v = para-roll-TKind (At S Flow) (Act S Flow) (kind_does v here input call) (stmt_does v here input call) d in
      let is_w = para-roll-TKind (At T Flow) (Act T Flow) (kind_does w here input dial) (stmt_does w here input dial) d in
      let is_f = para-roll-TKind (Bool → Bool) (Bool → Bool) (kind_formed typed results locals result) (λ s. s.kind.1) d in
      let is_o = para-roll-TKind Bool Bool (kind_obeys r) (λ s. s.kind.1) d in
      let is_t = fold-roll-TKind Terms Terms kind_terms (λ s. s.kind) d in
      let is_l = para-roll-TKind (List ForLoop) (List ForLoop) loops_here (λ s. s.kind.1) d in
      equal_flows _ _ _ _ (ap (λ z. z line) is_v) (ap (λ z. z line) is_w)
      (does_layer y looped (ap (λ z. z looped) (sym is_f) ∙ f) (sym is_o ∙ o) (subst (WholeTerms typed) is_t u) (subst AllStand is_l l) line)

  stmt_step : (y : TStmt-F K Z) → OfStmt (roll-TStmt (map-TStmt K Z TKind TStmt (λ e. e.0) (λ p. p.0) y))
  unfolding execute execute_kind stmt_obeys stmt_kind_obeys terms formed formed_in for_loops for_loops_of
  stmt_step y looped f o u l =
      let d = map-TStmt K Z TKind TStmt (λ e. e.0) (λ p. p.0) y in
      let is_v = para-roll-TStmt (At S Flow) (Act S Flow) (kind_does v here input call) (stmt_does v here input call) d in
      let is_w = para-roll-TStmt (At T Flow) (Act T Flow) (kind_does w here input dial) (stmt_does w here input dial) d in
      let is_f = para-roll-TStmt (Bool → Bool) (Bool → Bool) (kind_formed typed results locals result) (λ s. s.kind.1) d in
      let is_o = para-roll-TStmt Bool Bool (kind_obeys r) (λ s. s.kind.1) d in
      let is_t = fold-roll-TStmt Terms Terms kind_terms (λ s. s.kind) d in
      let is_l = para-roll-TStmt (List ForLoop) (List ForLoop) loops_here (λ s. s.kind.1) d in
      equal_flows _ _ _ _ is_v is_w (c.of_bind (c.of_spend y.line) (λ z _.
      y.kind.1 looped (ap (λ z. z looped) (sym is_f) ∙ f) (sym is_o ∙ o) (subst (WholeTerms typed) is_t u) (subst AllStand is_l l) y.line))

  -- a statement that is well formed
  pub kinded_execute : (d : TStmt) → OfStmt d
  kinded_execute = stmt_induct OfKind OfStmt kind_step stmt_step

  pub kinded_execute_all : (ds : List TStmt) (looped : Bool) → list_all (λ d. formed typed results locals result d looped) ds ≡ true → stmts_obey r ds ≡ true
      → WholeTerms typed (terms_of ds) → AllStand (for_loops_in ds) → Flows (execute_all v here input call ds) (execute_all w here input dial ds)
  kinded_execute_all [] looped f o u l = c.of_pure Next tt
  kinded_execute_all (d ∷ ds) looped f o u l =
      c.of_bind (kinded_execute d looped (both_left (Formed d looped) _ f) (both_left (stmt_obeys r d) _ o) (whole_left typed (terms d) _ u)
      (stand_left (for_loops d) _ l))
      (of_then_flow (kinded_execute_all ds looped (both_right (Formed d looped) _ f) (both_right (stmt_obeys r d) _ o) (whole_right typed (terms d) _ u)
      (stand_right (for_loops d) _ l)))
