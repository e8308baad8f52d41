-- The second abstraction theorem: two worlds in which a program answers the same, where what it answers is known to be
-- fine, and where some statements are exempt and are related for a reason of their own.
use Rattle.std.proofs.Common.{◌≡◌, ℕ, zero, suc, ◌+◌, ◌<◌, List, [], ◌∷◌, ◌++◌, Option, Some, None, Result, Ok, Err, ◌^◌, refl, sym, ap, subst, ◌∙◌, arith}
use Rattle.std.specs.Prelude.{ℤ, pos, negsuc, ◌+ℤ◌, ◌*ℤ◌, Bool, true, false, not, ◌&&◌, ◌||◌, if◌then◌else◌, nat_lt, map, length}
use Rattle.std.specs.List.{AllByRecursion}
use Rattle.std.specs.Int.{int_max}
use Rattle.std.proofs.Math.Bool.{true≢false}
use Rattle.al_source.specs.Steps.{and_then}
use Rattle.al_source.specs.declared.operators.BinOp.{BinOp}
use Rattle.al_source.specs.declared.operators.UnOp.{UnOp}
use Rattle.al_source.specs.declared.operators.UnOp.TheVariants.{Neg, BitNot, Not}
use Rattle.al_source.specs.declared.operators.RedOp.{RedOp}
use Rattle.al_core.specs.declared.values.Obj.TheVariants.{Global}
use Rattle.al_core.specs.declared.values.Val.TheVariants.{Int, Ptr}
use Rattle.al_core.specs.declared.values.Kind.TheVariants as kind
use Rattle.al_core.specs.declared.values.Trap.TheVariants as trap
use Rattle.al_core.specs.declared.choices.Bound.{Bound}
use Rattle.al_core.specs.declared.choices.Bound.TheVariants as bound
use Rattle.al_core.specs.declared.typed_tree.TExpr.{TExpr, map-TExpr, fold-roll-TExpr}
use Rattle.al_core.specs.declared.typed_tree.TExpr.TheViews.{roll-TExpr, roll-TPlace}
use Rattle.al_core.specs.declared.typed_tree.TPlace.{TPlace, map-TPlace, fold-roll-TPlace}
use Rattle.al_core.specs.declared.typed_tree.TExpr.TheOpen.{TExpr-F, TPlace-F}
use Rattle.al_core.specs.declared.typed_tree.TStmt.{TStmt, map-TStmt, out-TStmt, para-roll-TStmt, fold-roll-TStmt, fold_out-TStmt}
use Rattle.al_core.specs.declared.typed_tree.TKind.{TKind, map-TKind, out-TKind, fold-TKind, para-roll-TKind, fold-roll-TKind, fold_out-TKind}
use Rattle.al_core.specs.declared.typed_tree.TKind.TheViews.{roll-TStmt, roll-TKind}
use Rattle.al_core.specs.declared.typed_tree.TKind.TheOpen.{TStmt-F, TKind-F}
use Rattle.al_core.specs.declared.values.Obj.{Obj}
use Rattle.al_core.specs.declared.values.Val.{Val}
use Rattle.al_core.specs.declared.values.Kind.{Kind}
use Rattle.al_core.specs.declared.values.Trap.{Trap}
use Rattle.al_core.specs.World.{Pointer, World}
use Rattle.al_core.specs.Arithmetic.{truth_value, operated, unary}
use Rattle.al_core.specs.Reductions.{red_apply}
use Rattle.al_core.specs.Values.{truth, of_test, number, numbers, operate, operate_one, choose, compare, same, point, offset_at, shift, element, input_at, words_of, text, trips}
use Rattle.al_core.specs.Action.{Act, At, pure, lift, asks, spend, get_budget, ◌>>=◌, ◌>>◌, all, get_local, set_local, load, store, make, free, print, visit}
use Rattle.al_core.specs.Loops.{Start, start_in, start_of, bound_of}
use Rattle.al_core.specs.Accepted.{Terms, no_terms, one_expr, if_expr, both_terms, all_terms, kind_terms, terms, terms_of, calls, calls_at, expr_calls, place_calls, all_called}
use Rattle.al_core.specs.Meaning.{Flow, Next, Broke, Continued, Returned, Where, Outside, Inside, then_flow, sequence, at_each, all_do, turn_end, turns_to, turns, bound_value, trips_to, annotated, annotated_loop, expr_case, place_case, value, place, values, test_value, result_value, start_value, kind_does, stmt_does, execute, execute_kind, execute_all}
use Rattle.al_laws.proofs.Induction.{With, expr_induct, place_induct, stmt_induct}
use Rattle.al_graded_laws.specs.Rules.{Rules, every, expr_obeys, place_obeys, obeys, obeys_at, all_obey, any_obeys, bound_obeys, start_obeys, each_obeys, kind_obeys, stmt_obeys, stmt_kind_obeys, stmts_obey, MayCall, MayCallAt, MayCallIn, AnyFunction}

-- ---- lists

module _ {X : Type 0} (P : X → Type 0) where
  pub each_left : (xs ys : List X) → AllByRecursion P (xs ++ ys) → AllByRecursion P xs
  each_left [] ys h = tt
  each_left (x ∷ xs) ys h = (h.0, each_left xs ys h.1)

  pub each_right : (xs ys : List X) → AllByRecursion P (xs ++ ys) → AllByRecursion P ys
  each_right [] ys h = h
  each_right (x ∷ xs) ys h = each_right xs ys h.1

-- ---- calls

each_of : {X : Type 0} (P : X → Type 0) → ((x : X) → P x) → (xs : List X) → AllByRecursion P xs
each_of P h [] = tt
each_of P h (x ∷ xs) = (h x, each_of P h xs)

-- where every function may be called
pub may_call_all : (t : Terms) → MayCallIn AnyFunction t
may_call_all t = record {
  exprs = each_of (MayCall AnyFunction) (λ e. each_of AnyFunction (λ f. tt) (calls e)) t.exprs;
  places = each_of (MayCallAt AnyFunction) (λ p. each_of AnyFunction (λ f. tt) (calls_at p)) t.places;
}

-- ---- fine values

-- an answer, if there is one, has the property
abbrev pub OkIs : {A : Type 0} → (A → Type 0) → Result A Trap → Type 0
OkIs P (Ok a) = P a
OkIs P (Err t) = Unit {0}

-- which numbers are fine, and into which objects a pointer may lead
pub record Fineness : Type 1 where
  pub num : ℤ → Type 0
  -- where a pointer may lead, and where a place may lie
  pub obj : Obj → Type 0
  pub at : Obj → Type 0
  pub reach : (o : Obj) → obj o → at o

module _ (F : Fineness) where
  abbrev pub Fine : Val → Type 0
  Fine (Int n) = F.num n
  Fine (Ptr o w) = F.obj o × (w < 2 ^ 32)

  abbrev pub FineAll : List Val → Type 0
  FineAll [] = Unit {0}
  FineAll (v ∷ vs) = Fine v × FineAll vs

  -- a place, and whether its address may be taken
  abbrev pub FineAt : Bool → Pointer → Type 0
  FineAt b q = F.at q.0 × (q.1 < 2 ^ 32) × (b ≡ true → F.obj q.0)

  abbrev pub FineFlow : Flow → Type 0
  FineFlow (Returned v) = Fine v
  FineFlow _ = Unit {0}

  -- what is computed of fine numbers is fine
  pub record FineNumbers (r : Rules) (input : List ℤ) : Type 0 where
    pub tested : (b : Bool) → F.num (truth_value b)
    pub literal : (n : ℤ) → r.literal n ≡ true → F.num n
    pub operated : (op : BinOp) (x y : ℤ) → F.num x → F.num y → OkIs F.num (operated op x y)
    pub unary : (op : UnOp) (x : ℤ) → F.num x → F.num (unary op x)
    pub chosen : (op : RedOp) (x y : ℤ) → F.num x → F.num y → F.num (red_apply op x y)
    pub read : (i : ℤ) → OkIs Fine (input_at input i)
    pub count : F.num (pos (length input))
    pub counter : (lo hi : ℤ) → F.num lo → F.num hi → OkIs (λ n. (j : ℕ) → j < n → F.num (lo +ℤ pos j)) (trips lo hi)
    pub greater : (lo hi : ℤ) → F.num lo → F.num hi → F.num (int_max lo hi)

abbrev pub Any : {A : Type 0} → A → Type 0
Any a = Unit {0}

-- ---- the premises, one a word

-- A relation between actions in two worlds that answer the same, where an answer has the property P: it is kept by the words.
pub record Graded {S T : Type 0} (v : World S) (w : World T) (F : Fineness) (r : Rules)
    (Rel : (A : Type 0) → (A → Type 0) → Act S A → Act T A → Type 0) : Type 1 where
  pub of_pure : {A : Type 0} {P : A → Type 0} (a : A) → P a → Rel A P (pure a) (pure a)
  pub of_lift : {A : Type 0} {P : A → Type 0} (line : ℕ) (e : Result A Trap) → OkIs P e → Rel A P (lift line e) (lift line e)
  pub of_bind : {A B : Type 0} {P : A → Type 0} {Q : B → Type 0} {p : Act S A} {q : Act T A} {f : A → Act S B} {g : A → Act T B} → Rel A P p q
      → ((a : A) → P a → Rel B Q (f a) (g a)) → Rel B Q (p >>= f) (q >>= g)
  pub of_spend : (line : ℕ) → Rel (Unit {0}) Any (spend line) (spend line)
  pub of_get_budget : Rel ℕ Any get_budget get_budget
  pub of_get_local : (k line : ℕ) → r.local k ≡ true → Rel Val (Fine F) (get_local v k line) (get_local w k line)
  pub of_set_local : (k : ℕ) (x : Val) (line : ℕ) → r.local k ≡ true → Fine F x → Rel (Unit {0}) Any (set_local v k x line) (set_local w k x line)
  pub of_global : (k : ℕ) → r.global k ≡ true → F.at (Global k)
  pub of_taken : (k : ℕ) → r.taken k ≡ true → F.obj (Global k)
  pub of_load : (q : Pointer) (k : Kind) (line : ℕ) → F.at q.0 → q.1 < 2 ^ 32 → Rel Val (Fine F) (load v q k line) (load w q k line)
  pub of_store : (q : Pointer) (x : Val) (line : ℕ) → F.at q.0 → q.1 < 2 ^ 32 → Fine F x → Rel (Unit {0}) Any (store v q x line) (store w q x line)
  pub of_make : (words line : ℕ) → Rel Val (Fine F) (make v words line) (make w words line)
  pub of_free : (o : Obj) (i line : ℕ) → F.obj o → i < 2 ^ 32 → Rel (Unit {0}) Any (asks line (v.free o i)) (asks line (w.free o i))
  pub of_print : (line : ℕ) (bytes : List ℕ) → Rel (Unit {0}) Any (print v bytes line) (print w bytes line)
  pub of_visit : (loop : ℕ) (lo hi : ℤ) → F.num lo → F.num hi → Rel (Unit {0}) Any (visit v loop lo hi) (visit w loop lo hi)

pub both_left : (a b : Bool) → (a && b) ≡ true → a ≡ true
both_left true b h = refl
both_left false b h = h

pub both_right : (a b : Bool) → (a && b) ≡ true → b ≡ true
both_right true b h = h
both_right false b h = absurd (true≢false (sym h))

int_result : (F : Fineness) (e : Result ℤ Trap) → OkIs F.num e → OkIs (Fine F) (and_then e (λ z. Ok (Int z)))
int_result F (Ok z) h = h
int_result F (Err t) h = tt

module _ {S T : Type 0} (v : World S) (w : World T) (F : Fineness) (r : Rules) (Rel : (A : Type 0) → (A → Type 0) → Act S A → Act T A → Type 0)
    (c : Graded v w F r Rel) (input : List ℤ) (numbers_fine : FineNumbers F r input) where
  abbrev N : FineNumbers F r input
  N = numbers_fine

  pub of_cond : {A : Type 0} {P : A → Type 0} (b : Bool) {p p' : Act S A} {q q' : Act T A} → Rel A P p q → Rel A P p' q'
      → Rel A P (if b then p else p') (if b then q else q')
  of_cond true h k = h
  of_cond false h k = k

  -- ---- what is computed of values

  pub fine_number : (x : Val) → Fine F x → OkIs F.num (number x)
  fine_number (Int m) h = h
  fine_number (Ptr o i) h = tt

  fine_binary : (op : BinOp) (x y : Val) → Fine F x → Fine F y → OkIs (Fine F) (operate op x y)
  unfolding operate
  fine_binary op (Int m) (Int n) h k = int_result F (operated op m n) (N.operated op m n h k)
  fine_binary op (Int m) (Ptr o i) h k = tt
  fine_binary op (Ptr o i) y h k = tt

  fine_one : (op : UnOp) (x : Val) → Fine F x → OkIs (Fine F) (operate_one op x)
  unfolding operate_one
  fine_one Neg (Int n) h = N.unary Neg n h
  fine_one Neg (Ptr o i) h = tt
  fine_one BitNot (Int n) h = N.unary BitNot n h
  fine_one BitNot (Ptr o i) h = tt
  fine_one Not x h = N.tested (not (truth x))

  fine_choose : (op : RedOp) (x y : Val) → Fine F x → Fine F y → OkIs (Fine F) (choose op x y)
  unfolding choose
  fine_choose op (Int m) (Int n) h k = N.chosen op m n h k
  fine_choose op (Int m) (Ptr o i) h k = tt
  fine_choose op (Ptr o i) y h k = tt

  fine_compare : (equal : Bool) (x y : Val) → Fine F (compare equal x y)
  unfolding compare
  fine_compare true x y = N.tested (same x y)
  fine_compare false x y = N.tested (not (same x y))

  fine_point : (x : Val) → Fine F x → OkIs (FineAt F true) (point x)
  fine_point (Int n) h = tt
  fine_point (Ptr o i) h = (F.reach o h.0, h.1, λ _. h.0)

  small : (n : ℕ) → nat_lt n (2 ^ 32) ≡ true → n < 2 ^ 32
  small n e = grind arith

  fine_offset_if : (o : Obj) (n : ℕ) (b : Bool) (t : Bool) → (b ≡ true → n < 2 ^ 32) → F.at o → (t ≡ true → F.obj o)
      → OkIs (FineAt F t) (if b then Ok (o, n) else Err trap.Bounds)
  fine_offset_if o n true t l h k = (h, l refl, k)
  fine_offset_if o n false t l h k = tt

  fine_offset : (o : Obj) (n : ℤ) (t : Bool) → F.at o → (t ≡ true → F.obj o) → OkIs (FineAt F t) (offset_at o n)
  fine_offset o (pos n) t h k = fine_offset_if o n (nat_lt n (2 ^ 32)) t (small n) h k
  fine_offset o (negsuc n) t h k = tt

  fine_shift : (q : Pointer) (n : ℕ) (t : Bool) → FineAt F t q → OkIs (FineAt F t) (shift q n)
  unfolding shift
  fine_shift q n t h = fine_offset q.0 (pos (q.1 + n)) t h.0 h.2

  fine_element : (q : Pointer) (i : Val) (size : ℕ) (t : Bool) → FineAt F t q → OkIs (FineAt F t) (element q i size)
  unfolding element
  fine_element q (Int n) size t h = fine_offset q.0 (pos q.1 +ℤ (n *ℤ pos size)) t h.0 h.2
  fine_element q (Ptr o i) size t h = tt

  pub fine_input : (x : Val) → OkIs (Fine F) (and_then (number x) (input_at input))
  fine_input (Int n) = N.read n
  fine_input (Ptr o i) = tt

  pub any_ok : {A : Type 0} (e : Result A Trap) → OkIs Any e
  any_ok (Ok a) = tt
  any_ok (Err t) = tt

  -- freeing an object, or nothing
  pub of_free_at : (x : Val) (line : ℕ) → Fine F x → Rel Val (Fine F) (free v x line) (free w x line)
  of_free_at (Int n) line h = c.of_pure (Int (pos 0)) (N.tested false)
  of_free_at (Ptr o i) line h = c.of_bind (c.of_free o i line h.0 h.1) (λ u _. c.of_pure (Int (pos 0)) (N.tested false))

  -- ---- loops

  of_then_flow : {p : Act S Flow} {q : Act T Flow} → Rel Flow (FineFlow F) p q → (f : Flow) → FineFlow F f
      → Rel Flow (FineFlow F) (then_flow p f) (then_flow q f)
  of_then_flow h Next g = h
  of_then_flow h Broke g = c.of_pure Broke tt
  of_then_flow h Continued g = c.of_pure Continued tt
  of_then_flow h (Returned x) g = c.of_pure (Returned x) g

  of_turn_end : {p : Act S Flow} {q : Act T Flow} → Rel Flow (FineFlow F) p q → (f : Flow) → FineFlow F f → Rel Flow (FineFlow F) (turn_end p f) (turn_end q f)
  of_turn_end h Next g = h
  of_turn_end h Broke g = c.of_pure Next tt
  of_turn_end h Continued g = h
  of_turn_end h (Returned x) g = c.of_pure (Returned x) g

  of_turns_to : (n line : ℕ) {test : Act S Val} {test' : Act T Val} {body third : Act S Flow} {body' third' : Act T Flow} → Rel Val (Fine F) test test'
      → Rel Flow (FineFlow F) body body' → Rel Flow (FineFlow F) third third'
      → Rel Flow (FineFlow F) (turns_to n line test body third) (turns_to n line test' body' third')
  of_turns_to zero line t b h = c.of_lift line (Err trap.Steps) tt
  of_turns_to (suc n) line t b h =
      c.of_bind (c.of_spend line) (λ u _. c.of_bind t
      (λ x _. of_cond (truth x) (c.of_bind b (of_turn_end (c.of_bind h (of_then_flow (of_turns_to n line t b h))))) (c.of_pure Next tt)))

  of_turns : (line : ℕ) {test : Act S Val} {test' : Act T Val} {body third : Act S Flow} {body' third' : Act T Flow} → Rel Val (Fine F) test test'
      → Rel Flow (FineFlow F) body body' → Rel Flow (FineFlow F) third third'
      → Rel Flow (FineFlow F) (turns line test body third) (turns line test' body' third')
  of_turns line t b h = c.of_bind c.of_get_budget (λ n _. of_turns_to (suc n) line t b h)

  of_bound_value : (b : Bound) (line : ℕ) → bound_obeys r b ≡ true → Rel ℤ F.num (bound_value v b line) (bound_value w b line)
  of_bound_value (bound.Number n) line h = c.of_pure n (N.literal n h)
  of_bound_value (bound.Local k) line h = c.of_bind (c.of_get_local k line h) (λ x fine. c.of_lift line (number x) (fine_number x fine))

  of_trips_to : (n line counter : ℕ) (lo : ℤ) (j : ℕ) {body : Act S Flow} {body' : Act T Flow} → r.local counter ≡ true
      → ((i : ℕ) → i < j + n → F.num (lo +ℤ pos i)) → Rel Flow (FineFlow F) body body'
      → Rel Flow (FineFlow F) (trips_to v n line counter lo j body) (trips_to w n line counter lo j body')
  of_trips_to zero line counter lo j l k b = c.of_pure Next tt
  of_trips_to (suc n) line counter lo j l k b =
      c.of_bind (c.of_spend line) (λ u _. c.of_bind (c.of_set_local counter (Int (lo +ℤ pos j)) line l (k j (omega arith)))
      (λ u _. c.of_bind b (of_turn_end (of_trips_to n line counter lo (suc j) l (λ i h. k i (omega arith)) b))))

  of_annotated : (here : Where) (loop line counter : ℕ) (lo hi : ℤ) {body : Act S Flow} {body' : Act T Flow} → r.local counter ≡ true → F.num lo → F.num hi
      → Rel Flow (FineFlow F) body body'
      → Rel Flow (FineFlow F) (annotated v here loop line counter lo hi body) (annotated w here loop line counter lo hi body')
  of_annotated Outside loop line counter lo hi l f g b = c.of_bind (c.of_visit loop lo hi f g) (λ u _. c.of_pure Next tt)
  of_annotated Inside loop line counter lo hi l f g b =
      c.of_bind {P = λ n. (j : ℕ) → j < n → F.num (lo +ℤ pos j)} (c.of_lift line (trips lo hi) (N.counter lo hi f g))
      (λ n k. c.of_bind (of_trips_to n line counter lo 0 l (λ i h. k i (omega arith)) b)
      (of_then_flow (c.of_bind (c.of_set_local counter (Int (int_max lo hi)) line l (N.greater lo hi f g)) (λ u _. c.of_pure Next tt))))

  of_annotated_loop : (here : Where) (loop line counter : ℕ) {start : Act S Val} {start' : Act T Val} (b : Bound) {body : Act S Flow} {body' : Act T Flow}
      → r.local counter ≡ true → bound_obeys r b ≡ true → Rel Val (Fine F) start start' → Rel Flow (FineFlow F) body body'
      → Rel Flow (FineFlow F) (annotated_loop v here loop line (Some (counter, start)) b body)
      (annotated_loop w here loop line (Some (counter, start')) b body')
  of_annotated_loop here loop line counter b l o s h =
      c.of_bind s (λ x fine. c.of_bind (c.of_lift line (number x) (fine_number x fine))
      (λ lo f. c.of_bind (of_bound_value b line o) (λ hi g. of_annotated here loop line counter lo hi l f g h)))

-- ---- the tree, for calls that are related

module _ {S T : Type 0} (v : World S) (w : World T) (F : Fineness) (r : Rules) (Rel : (A : Type 0) → (A → Type 0) → Act S A → Act T A → Type 0)
    (c : Graded v w F r Rel) (here : Where) (input : List ℤ) (n : FineNumbers F r input) (call : ℕ → List Val → At S Val) (dial : ℕ → List Val → At T Val)
    (calls_related : (f : ℕ) (vs : List Val) (line : ℕ) → r.called f → FineAll F vs → Rel Val (Fine F) (call f vs line) (dial f vs line)) where
  -- every function that is called may be
  abbrev Calls : List ℕ → Type 0
  Calls = AllByRecursion r.called

  left : (xs ys : List ℕ) → Calls (xs ++ ys) → Calls xs
  left = each_left r.called

  right : (xs ys : List ℕ) → Calls (xs ++ ys) → Calls ys
  right = each_right r.called

  abbrev OfValue : TExpr → Type 0
  OfValue e = obeys r e ≡ true → Calls (calls e) → (line : ℕ) → Rel Val (Fine F) (value v here input call e line) (value w here input dial e line)

  abbrev OfPlace : TPlace → Type 0
  OfPlace p =
      (obeys_at r p).0 ≡ true → Calls (calls_at p) → (line : ℕ) → Rel Pointer (FineAt F (obeys_at r p).1) (place v here input call p line)
      (place w here input dial p line)

  abbrev E : Type 0
  E = With TExpr OfValue

  abbrev Q : Type 0
  Q = With TPlace OfPlace

  of_args : (es : List E) (line : ℕ) → every (map (obeys r) (map (λ e. e.0) es)) ≡ true → Calls (all_called (map calls (map (λ e. e.0) es)))
      → Rel (List Val) (FineAll F) (all (at_each line (map (value v here input call) (map (λ e. e.0) es))))
      (all (at_each line (map (value w here input dial) (map (λ e. e.0) es))))
  of_args [] line o k = c.of_pure [] tt
  of_args (e ∷ es) line o k = c.of_bind (e.1 (both_left (obeys r e.0) _ o) (left (calls e.0) _ k) line)
      (λ x f. c.of_bind (of_args es line (both_right (obeys r e.0) _ o) (right (calls e.0) _ k)) (λ xs g. c.of_pure (x ∷ xs) (f, g)))

  abbrev obeyed : TExpr-F E Q → TExpr-F Bool (Bool × Bool)
  obeyed y = map-TExpr TExpr TPlace Bool (Bool × Bool) (obeys r) (obeys_at r) (map-TExpr E Q TExpr TPlace (λ e. e.0) (λ p. p.0) y)

  abbrev calling : TExpr-F E Q → TExpr-F (List ℕ) (List ℕ)
  calling y = map-TExpr TExpr TPlace (List ℕ) (List ℕ) calls calls_at (map-TExpr E Q TExpr TPlace (λ e. e.0) (λ p. p.0) y)

  of_two : (a b : E) (line : ℕ) → (obeys r a.0 && obeys r b.0) ≡ true → Calls (calls a.0 ++ calls b.0)
      → {P : Val → Type 0} {f : Val → Val → Act S Val} {g : Val → Val → Act T Val} → ((x y : Val) → Fine F x → Fine F y → Rel Val P (f x y) (g x y))
      → Rel Val P (value v here input call a.0 line >>= (λ x. value v here input call b.0 line >>= (λ y. f x y)))
      (value w here input dial a.0 line >>= (λ x. value w here input dial b.0 line >>= (λ y. g x y)))
  of_two a b line o i k = c.of_bind (a.1 (both_left (obeys r a.0) (obeys r b.0) o) (left (calls a.0) (calls b.0) i) line)
      (λ x h. c.of_bind (b.1 (both_right (obeys r a.0) (obeys r b.0) o) (right (calls a.0) (calls b.0) i) line) (λ y j. k x y h j))

  value_layer : (y : TExpr-F E Q) (line : ℕ) → expr_obeys r (obeyed y) ≡ true → Calls (expr_calls (calling y))
      → Rel Val (Fine F) (expr_case v here input call (map-TExpr TExpr TPlace (At S Val) (At S Pointer) (value v here input call) (place v here input call)
      (map-TExpr E Q TExpr TPlace (λ e. e.0) (λ p. p.0) y)) line)
      (expr_case w here input dial (map-TExpr TExpr TPlace (At T Val) (At T Pointer) (value w here input dial) (place w here input dial)
      (map-TExpr E Q TExpr TPlace (λ e. e.0) (λ p. p.0) y)) line)
  value_layer (TExpr-F.Number m) line o k = c.of_pure (Int m) (n.literal m o)
  value_layer (TExpr-F.Local j) line o k = c.of_get_local j line o
  value_layer (TExpr-F.Load want p) line o k = c.of_bind (p.1 o k line) (λ q h. c.of_load q want line h.0 h.1)
  value_layer (TExpr-F.Addr p) line o k =
      c.of_bind (p.1 (both_left (obeys_at r p.0).0 (obeys_at r p.0).1 o) k line)
      (λ q h. c.of_pure (Ptr q.0 q.1) (h.2 (both_right (obeys_at r p.0).0 (obeys_at r p.0).1 o), h.1))
  value_layer (TExpr-F.Unary op a) line o k = c.of_bind (a.1 o k line) (λ x h. c.of_lift line (operate_one op x) (fine_one v w F r Rel c input n op x h))
  value_layer (TExpr-F.Binary op a b) line o k = of_two a b line o k (λ x y h i. c.of_lift line (operate op x y) (fine_binary v w F r Rel c input n op x y h i))
  value_layer (TExpr-F.Same equal a b) line o k = of_two a b line o k (λ x y h i. c.of_pure (compare equal x y) (fine_compare v w F r Rel c input n equal x y))
  value_layer (TExpr-F.And a b) line o k =
      c.of_bind (a.1 (both_left (obeys r a.0) (obeys r b.0) o) (left (calls a.0) (calls b.0) k) line)
      (λ x _. of_cond v w F r Rel c input n (truth x) (c.of_bind (b.1 (both_right (obeys r a.0) (obeys r b.0) o) (right (calls a.0) (calls b.0) k) line)
      (λ y _. c.of_pure (of_test (truth y)) (n.tested (truth y)))) (c.of_pure (of_test false) (n.tested false)))
  value_layer (TExpr-F.Or a b) line o k =
      c.of_bind (a.1 (both_left (obeys r a.0) (obeys r b.0) o) (left (calls a.0) (calls b.0) k) line)
      (λ x _. of_cond v w F r Rel c input n (truth x) (c.of_pure (of_test true) (n.tested true))
      (c.of_bind (b.1 (both_right (obeys r a.0) (obeys r b.0) o) (right (calls a.0) (calls b.0) k) line)
      (λ y _. c.of_pure (of_test (truth y)) (n.tested (truth y)))))
  value_layer (TExpr-F.Call f args) line o k = c.of_bind (of_args args line o k.1) (λ vs h. calls_related f vs line k.0 h)
  value_layer (TExpr-F.Input a) line o k =
      c.of_bind (a.1 o k line) (λ x _. c.of_lift line (and_then (number x) (input_at input)) (fine_input v w F r Rel c input n x))
  value_layer TExpr-F.Inputs line o k = c.of_pure (Int (pos (length input))) n.count
  value_layer (TExpr-F.Choose op a b) line o k = of_two a b line o k (λ x y h i. c.of_lift line (choose op x y) (fine_choose v w F r Rel c input n op x y h i))
  value_layer (TExpr-F.Calloc a size) line o k =
      c.of_bind (a.1 o k line) (λ x _. c.of_bind {P = Any}
      (c.of_lift line (and_then (number x) (λ n. words_of n size)) (any_ok v w F r Rel c input n (and_then (number x) (λ n. words_of n size))))
      (λ words _. c.of_make words line))
  value_layer (TExpr-F.Free a) line o k = c.of_bind (a.1 o k line) (λ x h. of_free_at v w F r Rel c input n x line h)

  abbrev obeyed_at : TPlace-F E Q → TPlace-F Bool (Bool × Bool)
  obeyed_at y = map-TPlace TExpr TPlace Bool (Bool × Bool) (obeys r) (obeys_at r) (map-TPlace E Q TExpr TPlace (λ e. e.0) (λ p. p.0) y)

  abbrev calling_at : TPlace-F E Q → TPlace-F (List ℕ) (List ℕ)
  calling_at y = map-TPlace TExpr TPlace (List ℕ) (List ℕ) calls calls_at (map-TPlace E Q TExpr TPlace (λ e. e.0) (λ p. p.0) y)

  place_layer : (y : TPlace-F E Q) (line : ℕ) → (place_obeys r (obeyed_at y)).0 ≡ true → Calls (place_calls (calling_at y))
      → Rel Pointer (FineAt F (place_obeys r (obeyed_at y)).1)
      (place_case v here input call (map-TPlace TExpr TPlace (At S Val) (At S Pointer) (value v here input call) (place v here input call)
      (map-TPlace E Q TExpr TPlace (λ e. e.0) (λ p. p.0) y)) line)
      (place_case w here input dial (map-TPlace TExpr TPlace (At T Val) (At T Pointer) (value w here input dial) (place w here input dial)
      (map-TPlace E Q TExpr TPlace (λ e. e.0) (λ p. p.0) y)) line)
  place_layer (TPlace-F.Global j) line o k = c.of_pure (Global j, 0) (c.of_global j o, omega arith, λ t. c.of_taken j t)
  place_layer (TPlace-F.At e) line o k = c.of_bind (e.1 o k line) (λ x h. c.of_lift line (point x) (fine_point v w F r Rel c input n x h))
  place_layer (TPlace-F.Plus p m) line o k =
      c.of_bind (p.1 o k line) (λ q h. c.of_lift line (shift q m) (fine_shift v w F r Rel c input n q m (obeys_at r p.0).1 h))
  place_layer (TPlace-F.Elem p i size) line o k =
      c.of_bind (p.1 (both_left (obeys_at r p.0).0 (obeys r i.0) o) (left (calls_at p.0) (calls i.0) k) line)
      (λ q h. c.of_bind (i.1 (both_right (obeys_at r p.0).0 (obeys r i.0) o) (right (calls_at p.0) (calls i.0) k) line)
      (λ x _. c.of_lift line (element q x size) (fine_element v w F r Rel c input n q x size (obeys_at r p.0).1 h)))

  -- two actions that are equal to two that are related
  equal_to : {A : Type 0} {P : A → Type 0} (p p' : Act S A) (q q' : Act T A) → p' ≡ p → q' ≡ q → Rel A P p q → Rel A P p' q'
  equal_to {A = A} {P = P} p p' q q' e f h = subst (λ (x : Act S A). Rel A P x q') (sym e) (subst (λ (y : Act T A). Rel A P p y) (sym f) h)

  value_step : (y : TExpr-F E Q) → OfValue (roll-TExpr (map-TExpr E Q TExpr TPlace (λ e. e.0) (λ p. p.0) y))
  unfolding value place obeys obeys_at calls calls_at
  value_step y o k line =
      let d = map-TExpr E Q TExpr TPlace (λ e. e.0) (λ p. p.0) y in
      equal_to _ _ _ _ (ap (λ f. f line) (fold-roll-TExpr (At S Val) (At S Pointer) (expr_case v here input call) (place_case v here input call) d))
      (ap (λ f. f line) (fold-roll-TExpr (At T Val) (At T Pointer) (expr_case w here input dial) (place_case w here input dial) d))
      (value_layer y line (sym (fold-roll-TExpr Bool (Bool × Bool) (expr_obeys r) (place_obeys r) d) ∙ o)
      (subst Calls (fold-roll-TExpr (List ℕ) (List ℕ) expr_calls place_calls d) k))

  place_step : (y : TPlace-F E Q) → OfPlace (roll-TPlace (map-TPlace E Q TExpr TPlace (λ e. e.0) (λ p. p.0) y))
  unfolding value place obeys obeys_at calls calls_at
  place_step y o k line =
      let d = map-TPlace E Q TExpr TPlace (λ e. e.0) (λ p. p.0) y in
      let is = fold-roll-TPlace Bool (Bool × Bool) (expr_obeys r) (place_obeys r) d in
      subst (λ (b : Bool × Bool). Rel Pointer (FineAt F b.1) (place v here input call (roll-TPlace d) line) (place w here input dial (roll-TPlace d) line))
      (sym is)
      (equal_to _ _ _ _ (ap (λ f. f line) (fold-roll-TPlace (At S Val) (At S Pointer) (expr_case v here input call) (place_case v here input call) d))
      (ap (λ f. f line) (fold-roll-TPlace (At T Val) (At T Pointer) (expr_case w here input dial) (place_case w here input dial) d))
      (place_layer y line (ap (λ b. b.0) (sym is) ∙ o) (subst Calls (fold-roll-TPlace (List ℕ) (List ℕ) expr_calls place_calls d) k)))

  -- an expression that obeys
  pub graded_value : (e : TExpr) → OfValue e
  graded_value = expr_induct OfValue OfPlace value_step place_step

  pub graded_place : (p : TPlace) → OfPlace p
  graded_place = place_induct OfValue OfPlace value_step place_step

  abbrev CallsIn : TExpr → Type 0
  CallsIn = MayCall r.called

  abbrev CallsAt : TPlace → Type 0
  CallsAt = MayCallAt r.called

  -- the calls in the terms of a statement
  abbrev Allowed : Terms → Type 0
  Allowed = MayCallIn r.called

  abbrev AnyCalls : Option TExpr → Type 0
  AnyCalls (Some e) = CallsIn e
  AnyCalls None = Unit {0}

  of_values : (es : List TExpr) (line : ℕ) → all_obey r es ≡ true → AllByRecursion CallsIn es
      → Rel (List Val) (FineAll F) (values v here input call es line) (values w here input dial es line)
  of_values [] line o k = c.of_pure [] tt
  of_values (e ∷ es) line o k = c.of_bind (graded_value e (both_left (obeys r e) (all_obey r es) o) k.0 line)
      (λ x f. c.of_bind (of_values es line (both_right (obeys r e) (all_obey r es) o) k.1) (λ xs g. c.of_pure (x ∷ xs) (f, g)))

  of_test_value : (e : Option TExpr) (line : ℕ) → any_obeys r e ≡ true → AnyCalls e
      → Rel Val (Fine F) (test_value v here input call e line) (test_value w here input dial e line)
  of_test_value (Some e) line o k = graded_value e o k line
  of_test_value None line o k = c.of_pure (Int (pos 1)) (n.tested true)

  of_result_value : (e : Option TExpr) (line : ℕ) → any_obeys r e ≡ true → AnyCalls e
      → Rel Val (Fine F) (result_value v here input call e line) (result_value w here input dial e line)
  of_result_value (Some e) line o k = graded_value e o k line
  of_result_value None line o k = c.of_pure (Int (pos 0)) (n.tested false)

  -- the statements that are exempt
  pub record Exempt : Type 0 where
    pub set : (k : ℕ) (e : TExpr) (line : ℕ) → r.set k e ≡ true → CallsIn e
        → Rel Flow (FineFlow F) (kind_does v here input call (TKind-F.SetLocal k e) line) (kind_does w here input dial (TKind-F.SetLocal k e) line)
    pub store : (p : TPlace) (e : TExpr) (line : ℕ) → r.store p e ≡ true → CallsAt p → CallsIn e
        → Rel Flow (FineFlow F) (kind_does v here input call (TKind-F.Store p e) line) (kind_does w here input dial (TKind-F.Store p e) line)
    pub update : (op : BinOp) (k : ℕ) (e : TExpr) (line : ℕ) → r.update op k e ≡ true → CallsIn e
        → Rel Flow (FineFlow F) (kind_does v here input call (TKind-F.UpdateLocal op k e) line) (kind_does w here input dial (TKind-F.UpdateLocal op k e) line)
    pub update_at : (op : BinOp) (p : TPlace) (e : TExpr) (line : ℕ) → r.update_at op p e ≡ true → CallsAt p → CallsIn e
        → Rel Flow (FineFlow F) (kind_does v here input call (TKind-F.UpdateAt op p e) line) (kind_does w here input dial (TKind-F.UpdateAt op p e) line)

  -- ---- statements

  allowed_left : (s t : Terms) → Allowed (both_terms s t) → Allowed s
  allowed_left s t k = record { exprs = each_left CallsIn s.exprs t.exprs k.exprs; places = each_left CallsAt s.places t.places k.places }

  allowed_right : (s t : Terms) → Allowed (both_terms s t) → Allowed t
  allowed_right s t k = record { exprs = each_right CallsIn s.exprs t.exprs k.exprs; places = each_right CallsAt s.places t.places k.places }

  abbrev kind_terms_of : TKind → Terms
  kind_terms_of = fold-TKind Terms Terms kind_terms (λ s. s.kind)

  abbrev StartCalls : Option Start → Type 0
  StartCalls (Some start) = CallsIn start.value
  StartCalls None = Unit {0}

  start_in_calls : (line : ℕ) (y : TKind-F TKind TStmt) → Allowed (kind_terms (map-TKind TKind TStmt Terms Terms kind_terms_of terms y))
      → StartCalls (start_in line y)
  start_in_calls line (TKind-F.SetLocal k e) h = h.exprs.0
  start_in_calls line TKind-F.Empty h = tt
  start_in_calls line (TKind-F.Store p e) h = tt
  start_in_calls line (TKind-F.UpdateLocal op k e) h = tt
  start_in_calls line (TKind-F.UpdateAt op p e) h = tt
  start_in_calls line (TKind-F.Call e) h = tt
  start_in_calls line (TKind-F.Print format es) h = tt
  start_in_calls line (TKind-F.If e a b) h = tt
  start_in_calls line (TKind-F.While e a) h = tt
  start_in_calls line (TKind-F.For first test third body loop) h = tt
  start_in_calls line (TKind-F.Block ss) h = tt
  start_in_calls line (TKind-F.Return e) h = tt
  start_in_calls line TKind-F.Break h = tt
  start_in_calls line TKind-F.Continue h = tt

  -- the start of an annotated loop is one of the terms of its first part
  start_calls : (s : TStmt) → Allowed (terms s) → StartCalls (start_of (Some s))
  unfolding terms
  start_calls s h =
      start_in_calls (out-TStmt s).line (out-TKind (out-TStmt s).kind)
      (subst Allowed (fold_out-TStmt Terms Terms kind_terms (λ s. s.kind) s ∙ fold_out-TKind Terms Terms kind_terms (λ s. s.kind) (out-TStmt s).kind) h)

  module _ (x : Exempt) where
    of_annotated_start : (loop line : ℕ) (start : Option Start) (b : Bound) {body : Act S Flow} {body' : Act T Flow} → start_obeys r start ≡ true
        → bound_obeys r b ≡ true → StartCalls start → Rel Flow (FineFlow F) body body'
        → Rel Flow (FineFlow F) (annotated_loop v here loop line (start_value v here input call start) b body)
        (annotated_loop w here loop line (start_value w here input dial start) b body')
    of_annotated_start loop line (Some start) b o p k h = of_annotated_loop v w F r Rel c input n here loop line start.counter b
        (both_left (r.local start.counter) _ o) p (graded_value start.value (both_right (r.local start.counter) _ o) k start.line) h
    of_annotated_start loop line None b o p k h = c.of_pure Next tt

    abbrev OfKind : TKind → Type 0
    OfKind d =
        stmt_kind_obeys r d ≡ true → Allowed (kind_terms_of d) → (line : ℕ) → Rel Flow (FineFlow F) (execute_kind v here input call d line)
        (execute_kind w here input dial d line)

    abbrev OfStmt : TStmt → Type 0
    OfStmt d = stmt_obeys r d ≡ true → Allowed (terms d) → Rel Flow (FineFlow F) (execute v here input call d) (execute w here input dial d)

    abbrev K : Type 0
    K = With TKind OfKind

    abbrev Z : Type 0
    Z = With TStmt OfStmt

    -- a statement, and a kind of one, beside what it does in each world and whether it obeys
    abbrev stmt_v : TStmt → TStmt × Act S Flow
    stmt_v d = (d, execute v here input call d)

    abbrev stmt_w : TStmt → TStmt × Act T Flow
    stmt_w d = (d, execute w here input dial d)

    abbrev stmt_o : TStmt → TStmt × Bool
    stmt_o d = (d, stmt_obeys r d)

    abbrev kind_v : TKind → TKind × At S Flow
    kind_v d = (d, execute_kind v here input call d)

    abbrev kind_w : TKind → TKind × At T Flow
    kind_w d = (d, execute_kind w here input dial d)

    abbrev kind_o : TKind → TKind × Bool
    kind_o d = (d, stmt_kind_obeys r d)

    of_block : (zs : List Z) → each_obeys (map stmt_o (map (λ e. e.0) zs)) ≡ true → Allowed (all_terms (map terms (map (λ e. e.0) zs)))
        → Rel Flow (FineFlow F) (sequence (all_do (map stmt_v (map (λ e. e.0) zs)))) (sequence (all_do (map stmt_w (map (λ e. e.0) zs))))
    of_block [] o k = c.of_pure Next tt
    of_block (z ∷ zs) o k = c.of_bind (z.1 (both_left (stmt_obeys r z.0) _ o) (allowed_left (terms z.0) _ k))
        (of_then_flow v w F r Rel c input n (of_block zs (both_right (stmt_obeys r z.0) _ o) (allowed_right (terms z.0) _ k)))

    -- a layer of the tree, in each world
    abbrev layer_v : TKind-F K Z → TKind-F (TKind × At S Flow) (TStmt × Act S Flow)
    layer_v y = map-TKind TKind TStmt (TKind × At S Flow) (TStmt × Act S Flow) kind_v stmt_v (map-TKind K Z TKind TStmt (λ e. e.0) (λ p. p.0) y)

    abbrev layer_w : TKind-F K Z → TKind-F (TKind × At T Flow) (TStmt × Act T Flow)
    layer_w y = map-TKind TKind TStmt (TKind × At T Flow) (TStmt × Act T Flow) kind_w stmt_w (map-TKind K Z TKind TStmt (λ e. e.0) (λ p. p.0) y)

    abbrev layer_o : TKind-F K Z → TKind-F (TKind × Bool) (TStmt × Bool)
    layer_o y = map-TKind TKind TStmt (TKind × Bool) (TStmt × Bool) kind_o stmt_o (map-TKind K Z TKind TStmt (λ e. e.0) (λ p. p.0) y)

    abbrev layer_t : TKind-F K Z → TKind-F Terms Terms
    layer_t y = map-TKind TKind TStmt Terms Terms kind_terms_of terms (map-TKind K Z TKind TStmt (λ e. e.0) (λ p. p.0) y)

    of_set_then : (k line : ℕ) (a : Val) → r.local k ≡ true → Fine F a
        → Rel Flow (FineFlow F) (set_local v k a line >> pure Next) (set_local w k a line >> pure Next)
    of_set_then k line a o f = c.of_bind (c.of_set_local k a line o f) (λ u _. c.of_pure Next tt)

    of_store_then : (q : Pointer) (line : ℕ) (a : Val) → F.at q.0 → q.1 < 2 ^ 32 → Fine F a
        → Rel Flow (FineFlow F) (store v q a line >> pure Next) (store w q a line >> pure Next)
    of_store_then q line a f s g = c.of_bind (c.of_store q a line f s g) (λ u _. c.of_pure Next tt)

    of_for : (line : ℕ) (test : Option TExpr) {first third body : Act S Flow} {first' third' body' : Act T Flow} → any_obeys r test ≡ true → AnyCalls test
        → Rel Flow (FineFlow F) first first' → Rel Flow (FineFlow F) body body' → Rel Flow (FineFlow F) third third'
        → Rel Flow (FineFlow F) (first >>= then_flow (turns line (test_value v here input call test line) body third))
        (first' >>= then_flow (turns line (test_value w here input dial test line) body' third'))
    of_for line test o k f b t = c.of_bind f (of_then_flow v w F r Rel c input n (of_turns v w F r Rel c input n line (of_test_value test line o k) b t))

    test_calls : (test : Option TExpr) → Allowed (if_expr test) → AnyCalls test
    test_calls (Some e) k = k.exprs.0
    test_calls None k = tt

    either : (a b : Bool) (P : Type 0) → (a ≡ true → P) → (b ≡ true → P) → (a || b) ≡ true → P
    either true b P f g h = f refl
    either false b P f g h = g h

    does_layer : (y : TKind-F K Z) → kind_obeys r (layer_o y) ≡ true → Allowed (kind_terms (layer_t y)) → (line : ℕ)
        → Rel Flow (FineFlow F) (kind_does v here input call (layer_v y) line) (kind_does w here input dial (layer_w y) line)
    does_layer TKind-F.Empty o k line = c.of_pure Next tt
    does_layer (TKind-F.SetLocal j e) o k line =
        either (r.set j e) (r.local j && obeys r e) (Rel Flow (FineFlow F) (kind_does v here input call (TKind-F.SetLocal j e) line)
        (kind_does w here input dial (TKind-F.SetLocal j e) line)) (λ t. x.set j e line t k.exprs.0)
        (λ t. c.of_bind (graded_value e (both_right (r.local j) (obeys r e) t) k.exprs.0 line)
        (λ a f. of_set_then j line a (both_left (r.local j) (obeys r e) t) f)) o
    does_layer (TKind-F.Store p e) o k line =
        either (r.store p e) ((obeys_at r p).0 && obeys r e)
        (Rel Flow (FineFlow F) (kind_does v here input call (TKind-F.Store p e) line) (kind_does w here input dial (TKind-F.Store p e) line))
        (λ t. x.store p e line t k.places.0 k.exprs.0)
        (λ t. c.of_bind (graded_place p (both_left (obeys_at r p).0 (obeys r e) t) k.places.0 line)
        (λ q h. c.of_bind (graded_value e (both_right (obeys_at r p).0 (obeys r e) t) k.exprs.0 line) (λ a f. of_store_then q line a h.0 h.1 f))) o
    does_layer (TKind-F.UpdateLocal op j e) o k line =
        either (r.update op j e) (r.local j && obeys r e) (Rel Flow (FineFlow F) (kind_does v here input call (TKind-F.UpdateLocal op j e) line)
        (kind_does w here input dial (TKind-F.UpdateLocal op j e) line)) (λ t. x.update op j e line t k.exprs.0)
        (λ t. c.of_bind (c.of_get_local j line (both_left (r.local j) (obeys r e) t))
        (λ a f. c.of_bind (graded_value e (both_right (r.local j) (obeys r e) t) k.exprs.0 line)
        (λ b g. c.of_bind (c.of_lift line (operate op a b) (fine_binary v w F r Rel c input n op a b f g))
        (λ z h. of_set_then j line z (both_left (r.local j) (obeys r e) t) h)))) o
    does_layer (TKind-F.UpdateAt op p e) o k line =
        either (r.update_at op p e) ((obeys_at r p).0 && obeys r e)
        (Rel Flow (FineFlow F) (kind_does v here input call (TKind-F.UpdateAt op p e) line) (kind_does w here input dial (TKind-F.UpdateAt op p e) line))
        (λ t. x.update_at op p e line t k.places.0 k.exprs.0)
        (λ t. c.of_bind (graded_place p (both_left (obeys_at r p).0 (obeys r e) t) k.places.0 line)
        (λ q i. c.of_bind (c.of_load q kind.Int line i.0 i.1)
        (λ a f. c.of_bind (graded_value e (both_right (obeys_at r p).0 (obeys r e) t) k.exprs.0 line)
        (λ b g. c.of_bind (c.of_lift line (operate op a b) (fine_binary v w F r Rel c input n op a b f g)) (λ z h. of_store_then q line z i.0 i.1 h))))) o
    does_layer (TKind-F.Call e) o k line = c.of_bind (graded_value e o k.exprs.0 line) (λ u _. c.of_pure Next tt)
    does_layer (TKind-F.Print format es) o k line =
        c.of_bind (of_values es line o k.exprs) (λ vs _. c.of_bind {P = Any} (c.of_lift line (numbers vs) (any_ok v w F r Rel c input n (numbers vs)))
        (λ ns _. c.of_bind (c.of_print line (text format ns)) (λ u _. c.of_pure Next tt)))
    does_layer (TKind-F.If e a (Some b)) o k line =
        let rest = both_right (obeys r e) _ o in
        let more = allowed_right (one_expr e) _ k in
        c.of_bind (graded_value e (both_left (obeys r e) _ o) k.exprs.0 line)
        (λ z _. of_cond v w F r Rel c input n (truth z) (a.1 (both_left (stmt_obeys r a.0) _ rest) (allowed_left (terms a.0) _ more))
        (b.1 (both_right (stmt_obeys r a.0) _ rest) (allowed_right (terms a.0) _ more)))
    does_layer (TKind-F.If e a None) o k line =
        let rest = both_right (obeys r e) _ o in
        let more = allowed_right (one_expr e) _ k in
        c.of_bind (graded_value e (both_left (obeys r e) _ o) k.exprs.0 line)
        (λ z _. of_cond v w F r Rel c input n (truth z) (a.1 (both_left (stmt_obeys r a.0) _ rest) (allowed_left (terms a.0) _ more)) (c.of_pure Next tt))
    does_layer (TKind-F.While e a) o k line =
        of_turns v w F r Rel c input n line (graded_value e (both_left (obeys r e) _ o) k.exprs.0 line)
        (a.1 (both_right (obeys r e) _ o) (allowed_right (one_expr e) _ k)) (c.of_pure Next tt)
    does_layer (TKind-F.For (Some first) test (Some third) body None) o k line =
        let o1 = both_right (stmt_obeys r first.0) _ o in
        let o2 = both_right (any_obeys r test) _ o1 in
        let k1 = allowed_right (terms first.0) _ k in
        let k2 = allowed_right (if_expr test) _ k1 in
        of_for line test (both_left (any_obeys r test) _ o1) (test_calls test (allowed_left (if_expr test) _ k1))
        (first.1 (both_left (stmt_obeys r first.0) _ o) (allowed_left (terms first.0) _ k))
        (body.1 (both_right (stmt_obeys r third.0) _ o2) (allowed_right (terms third.0) _ k2))
        (third.1 (both_left (stmt_obeys r third.0) _ o2) (allowed_left (terms third.0) _ k2))
    does_layer (TKind-F.For (Some first) test None body None) o k line =
        let o1 = both_right (stmt_obeys r first.0) _ o in
        let k1 = allowed_right (terms first.0) _ k in
        let k2 = allowed_right (if_expr test) _ k1 in
        of_for line test (both_left (any_obeys r test) _ o1) (test_calls test (allowed_left (if_expr test) _ k1))
        (first.1 (both_left (stmt_obeys r first.0) _ o) (allowed_left (terms first.0) _ k))
        (body.1 (both_right (any_obeys r test) _ o1) (allowed_right no_terms _ k2)) (c.of_pure Next tt)
    does_layer (TKind-F.For None test (Some third) body None) o k line =
        let o2 = both_right (any_obeys r test) _ o in
        let k1 = allowed_right no_terms _ k in
        let k2 = allowed_right (if_expr test) _ k1 in
        of_for line test (both_left (any_obeys r test) _ o) (test_calls test (allowed_left (if_expr test) _ k1)) (c.of_pure Next tt)
        (body.1 (both_right (stmt_obeys r third.0) _ o2) (allowed_right (terms third.0) _ k2))
        (third.1 (both_left (stmt_obeys r third.0) _ o2) (allowed_left (terms third.0) _ k2))
    does_layer (TKind-F.For None test None body None) o k line =
        let k1 = allowed_right no_terms _ k in
        let k2 = allowed_right (if_expr test) _ k1 in
        of_for line test (both_left (any_obeys r test) _ o) (test_calls test (allowed_left (if_expr test) _ k1)) (c.of_pure Next tt)
        (body.1 (both_right (any_obeys r test) _ o) (allowed_right no_terms _ k2)) (c.of_pure Next tt)
    does_layer (TKind-F.For (Some first) test (Some third) body (Some loop)) o k line =
        let o1 = both_right (start_obeys r (start_of (Some first.0))) _ o in
        let k2 = allowed_right (if_expr test) _ (allowed_right (terms first.0) _ k) in
        of_annotated_start loop line (start_of (Some first.0)) (bound_of test) (both_left (start_obeys r (start_of (Some first.0))) _ o)
        (both_left (bound_obeys r (bound_of test)) _ o1) (start_calls first.0 (allowed_left (terms first.0) _ k))
        (body.1 (both_right (bound_obeys r (bound_of test)) _ o1) (allowed_right (terms third.0) _ k2))
    does_layer (TKind-F.For (Some first) test None body (Some loop)) o k line =
        let o1 = both_right (start_obeys r (start_of (Some first.0))) _ o in
        let k2 = allowed_right (if_expr test) _ (allowed_right (terms first.0) _ k) in
        of_annotated_start loop line (start_of (Some first.0)) (bound_of test) (both_left (start_obeys r (start_of (Some first.0))) _ o)
        (both_left (bound_obeys r (bound_of test)) _ o1) (start_calls first.0 (allowed_left (terms first.0) _ k))
        (body.1 (both_right (bound_obeys r (bound_of test)) _ o1) (allowed_right no_terms _ k2))
    does_layer (TKind-F.For None test third body (Some loop)) o k line = c.of_pure Next tt
    does_layer (TKind-F.Block zs) o k line = of_block zs o k
    does_layer (TKind-F.Return e) o k line = c.of_bind (of_result_value e line o (test_calls e k)) (λ a f. c.of_pure (Returned a) f)
    does_layer TKind-F.Break o k line = c.of_pure Broke tt
    does_layer TKind-F.Continue o k line = c.of_pure Continued tt

    kind_step : (y : TKind-F K Z) → OfKind (roll-TKind (map-TKind K Z TKind TStmt (λ e. e.0) (λ p. p.0) y))
    unfolding execute execute_kind stmt_obeys stmt_kind_obeys terms
    kind_step y o k line =
        let d = map-TKind K Z TKind TStmt (λ e. e.0) (λ p. p.0) y in
        let is_v = para-roll-TKind (At S Flow) (Act S Flow) (kind_does v here input call) (stmt_does v here input call) d in
        let is_w = para-roll-TKind (At T Flow) (Act T Flow) (kind_does w here input dial) (stmt_does w here input dial) d in
        let is_o = para-roll-TKind Bool Bool (kind_obeys r) (λ s. s.kind.1) d in
        let is_t = fold-roll-TKind Terms Terms kind_terms (λ s. s.kind) d in
        equal_to _ _ _ _ (ap (λ f. f line) is_v) (ap (λ f. f line) is_w) (does_layer y (sym is_o ∙ o) (subst Allowed is_t k) line)

    stmt_step : (y : TStmt-F K Z) → OfStmt (roll-TStmt (map-TStmt K Z TKind TStmt (λ e. e.0) (λ p. p.0) y))
    unfolding execute execute_kind stmt_obeys stmt_kind_obeys terms
    stmt_step y o k =
        let d = map-TStmt K Z TKind TStmt (λ e. e.0) (λ p. p.0) y in
        let is_v = para-roll-TStmt (At S Flow) (Act S Flow) (kind_does v here input call) (stmt_does v here input call) d in
        let is_w = para-roll-TStmt (At T Flow) (Act T Flow) (kind_does w here input dial) (stmt_does w here input dial) d in
        let is_o = para-roll-TStmt Bool Bool (kind_obeys r) (λ s. s.kind.1) d in
        let is_t = fold-roll-TStmt Terms Terms kind_terms (λ s. s.kind) d in
        equal_to _ _ _ _ is_v is_w (c.of_bind (c.of_spend y.line) (λ u _. y.kind.1 (sym is_o ∙ o) (subst Allowed is_t k) y.line))

    -- a statement that obeys
    pub graded_execute : (d : TStmt) → OfStmt d
    graded_execute = stmt_induct OfKind OfStmt kind_step stmt_step

    pub graded_execute_all : (ds : List TStmt) → stmts_obey r ds ≡ true → Allowed (terms_of ds)
        → Rel Flow (FineFlow F) (execute_all v here input call ds) (execute_all w here input dial ds)
    graded_execute_all [] o k = c.of_pure Next tt
    graded_execute_all (d ∷ ds) o k =
        c.of_bind (graded_execute d (both_left (stmt_obeys r d) _ o) (allowed_left (terms d) _ k))
        (of_then_flow v w F r Rel c input n (graded_execute_all ds (both_right (stmt_obeys r d) _ o) (allowed_right (terms d) _ k)))
