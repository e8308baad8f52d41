-- Expressions and places of a well-formed tree, over kinds.
use Rattle.std.proofs.Common.{◌≡◌, ℕ, ◌+◌, ◌<◌, List, [], ◌∷◌, Option, Some, None, Result, Ok, Err, ◌^◌, Bool, true, false, not, ◌&&◌, ◌||◌, refl, sym, ap, subst, ◌∙◌, arith}
use Rattle.std.specs.Prelude.{ℤ, pos, negsuc, ◌+ℤ◌, ◌*ℤ◌, if◌then◌else◌, nat_lt, map, length, is_some, slice_get}
use Rattle.std.proofs.Math.Bool.{true≢false}
use Rattle.al_source.specs.Steps.{and_then}
use Rattle.al_source.specs.declared.operators.BinOp.{BinOp}
use Rattle.al_source.specs.declared.operators.UnOp.{UnOp}
use Rattle.al_source.specs.declared.operators.UnOp.TheVariants.{Neg, BitNot, Not}
use Rattle.al_source.specs.declared.operators.RedOp.{RedOp}
use Rattle.al_core.specs.declared.values.Obj.{Obj}
use Rattle.al_core.specs.declared.values.Obj.TheVariants.{Global, Serial, Iter}
use Rattle.al_core.specs.declared.values.Val.{Val}
use Rattle.al_core.specs.declared.values.Val.TheVariants.{Int, Ptr}
use Rattle.al_core.specs.declared.values.Kind.{Kind}
use Rattle.al_core.specs.declared.values.Kind.TheVariants as kind
use Rattle.al_core.specs.declared.values.Trap.{Trap}
use Rattle.al_core.specs.declared.values.Trap.TheVariants as trap
use Rattle.al_core.specs.declared.typed_tree.TExpr.{TExpr, map-TExpr, fold-roll-TExpr}
use Rattle.al_core.specs.declared.typed_tree.TExpr.TheViews.{roll-TExpr, roll-TPlace}
use Rattle.al_core.specs.declared.typed_tree.TPlace.{TPlace, map-TPlace, out-TPlace, fold-roll-TPlace, fold_out-TPlace}
use Rattle.al_core.specs.declared.typed_tree.TExpr.TheOpen.{TExpr-F, TPlace-F}
use Rattle.al_core.specs.declared.typed_tree.TLocal.{TLocal}
use Rattle.al_core.specs.declared.typed_tree.TFunc.{TFunc}
use Rattle.al_core.specs.declared.typed_tree.TGlobal.{TGlobal}
use Rattle.al_core.specs.declared.typed_tree.Typed.{Typed}
use Rattle.al_core.specs.World.{Pointer, World}
use Rattle.al_core.specs.Arithmetic.{operated}
use Rattle.al_core.specs.Values.{truth, of_test, number, operate, operate_one, choose, compare, same, point, offset_at, shift, element, input_at, input_number, words_of}
use Rattle.al_core.specs.Action.{Act, At, all, ◌>>=◌, free}
use Rattle.al_core.specs.Meaning.{Where, at_each, expr_case, place_case, value, place}
use Rattle.al_laws.proofs.Induction.{With, expr_induct, place_induct}
use Rattle.al_rules.specs.WellFormed.{is_one, FitsKind, PlaceKind, may_want, fits_either, fit_all, param_kinds, fit_params, gives, global_kind, operand_fits, expr_fits, place_kind_case, fits, place_kind}
use Rattle.al_graded_laws.specs.Rules.{Rules, every, expr_obeys, place_obeys, obeys, obeys_at}
use Rattle.al_graded_laws.proofs.Graded.{Fineness, Fine, FineNumbers, OkIs, Any, both_left, both_right}
use Rattle.al_graded_laws.proofs.Watched.{outer_rules}
use Rattle.al_kinds_laws.specs.Whole.{scalar_of, WholePlace, all_whole, expr_whole, place_whole, whole, whole_at}
use Rattle.al_kinds_laws.proofs.Kinded.{Says, says_number, says_weaker, HaveKinds, Kinded}

-- ---- booleans

not_false : (b : Bool) → not b ≡ true → b ≡ false
not_false true e = absurd (true≢false (sym e))
not_false false e = refl

pub or_nothing : (b : Bool) → (b || false) ≡ true → b ≡ true
or_nothing true e = refl
or_nothing false e = absurd (true≢false (sym e))

-- one of two that both come after a test
shared_test : (a b p : Bool) → ((a && p) || (b && p)) ≡ true → p ≡ true
shared_test a b true e = refl
shared_test true true false e = absurd (true≢false (sym e))
shared_test true false false e = absurd (true≢false (sym e))
shared_test false true false e = absurd (true≢false (sym e))
shared_test false false false e = absurd (true≢false (sym e))

middle_test : (a b f m : Bool) → (((a && f) && m) || ((b && f) && m)) ≡ true → f ≡ true
middle_test a b true m e = refl
middle_test true true false m e = absurd (true≢false (sym e))
middle_test true false false m e = absurd (true≢false (sym e))
middle_test false true false m e = absurd (true≢false (sym e))
middle_test false false false m e = absurd (true≢false (sym e))

pub either_int : (x : FitsKind) → x kind.Int ≡ true → fits_either x ≡ true
either_int x e = ap (λ b. b || x kind.Ptr) e

pub either_ptr : (x : FitsKind) → x kind.Ptr ≡ true → fits_either x ≡ true
either_ptr x e = ap (λ b. x kind.Int || b) e ∙ or_true (x kind.Int)
  where
    or_true : (b : Bool) → (b || true) ≡ true
    or_true true = refl
    or_true false = refl

pub either_kind : (x : FitsKind) (k : Kind) → x k ≡ true → fits_either x ≡ true
either_kind x kind.Int e = either_int x e
either_kind x kind.Ptr e = either_ptr x e

-- where the kind is that of numbers the test is said of numbers
pub of_int : (x : FitsKind) (k : Kind) → x k ≡ true → is_one k kind.Int ≡ true → x kind.Int ≡ true
of_int x kind.Int e t = e
of_int x kind.Ptr e t = absurd (true≢false (sym t))

operand_either : (op : UnOp) (x : FitsKind) → operand_fits op x ≡ true → fits_either x ≡ true
operand_either Neg x e = either_int x e
operand_either BitNot x e = either_int x e
operand_either Not x e = e

abbrev global_number : Obj → ℕ
global_number (Global k) = k
global_number (Serial k) = k
global_number (Iter e j k) = k

-- ---- globals

-- what is known of globals: which may have their address taken, and which hold a number throughout
pub record Globals (F : Fineness) (typed : Typed) (taken shut : ℕ → Bool) : Type 0 where
  pub taken_fine : (k : ℕ) → taken k ≡ true → F.obj (Global k)
  pub shut_scalar : (k : ℕ) → shut k ≡ true → scalar_of (slice_get typed.globals k) ≡ Some kind.Int
  pub shut_apart : (k : ℕ) → shut k ≡ true → F.obj (Global k) → ⊥

module _ {S T : Type 0} (v : World S) (w : World T) (F : Fineness) (taken : ℕ → Bool) (literal : ℤ → Bool) (shut : ℕ → Bool) (typed : Typed)
    (results : List (Option Kind)) (locals : List TLocal) (Stands : ℕ → Type 0) (Rel : (A : Type 0) → (A → Type 0) → Act S A → Act T A → Type 0)
    (c : Kinded v w F shut locals Stands Rel) (here : Where) (input : List ℤ) (n : FineNumbers F (outer_rules taken literal) input)
    (g : Globals F typed taken shut) (call : ℕ → List Val → At S Val) (dial : ℕ → List Val → At T Val)
    (calls_related : (f : ℕ) (func : TFunc) (vs : List Val) (line : ℕ) → slice_get typed.funcs f ≡ Some func → HaveKinds F (param_kinds func) vs
    → Rel Val (Says F (gives (slice_get results f) kind.Int)) (call f vs line) (dial f vs line)) where
  abbrev r : Rules
  r = outer_rules taken literal

  abbrev Fit : TExpr → FitsKind
  Fit e = fits typed results locals e

  of_cond : {A : Type 0} {P : A → Type 0} (b : Bool) {p p' : Act S A} {q q' : Act T A} → Rel A P p q → Rel A P p' q'
      → Rel A P (if b then p else p') (if b then q else q')
  of_cond true h k = h
  of_cond false h k = k

  -- ---- what is computed

  says_int : (b : Bool) (e : Result ℤ Trap) → OkIs F.num e → OkIs (Says F b) (and_then e (λ z. Ok (Int z)))
  says_int b (Ok z) h = says_number F b z h
  says_int b (Err t) h = tt

  says_test : (b t : Bool) → Says F b (of_test t)
  says_test b t = says_number F b _ (n.tested t)

  pub says_binary : (b : Bool) (op : BinOp) (x y : Val) → Fine F x → Fine F y → OkIs (Says F b) (operate op x y)
  unfolding operate
  says_binary b op (Int m) (Int k) h i = says_int b (operated op m k) (n.operated op m k h i)
  says_binary b op (Int m) (Ptr o i) h j = tt
  says_binary b op (Ptr o i) y h j = tt

  says_one : (b : Bool) (op : UnOp) (x : Val) → Fine F x → OkIs (Says F b) (operate_one op x)
  unfolding operate_one
  says_one b Neg (Int m) h = says_number F b _ (n.unary Neg m h)
  says_one b Neg (Ptr o i) h = tt
  says_one b BitNot (Int m) h = says_number F b _ (n.unary BitNot m h)
  says_one b BitNot (Ptr o i) h = tt
  says_one b Not x h = says_test b (not (truth x))

  says_choose : (b : Bool) (op : RedOp) (x y : Val) → Fine F x → Fine F y → OkIs (Says F b) (choose op x y)
  unfolding choose
  says_choose b op (Int m) (Int k) h i = says_number F b _ (n.chosen op m k h i)
  says_choose b op (Int m) (Ptr o i) h j = tt
  says_choose b op (Ptr o i) y h j = tt

  says_compare : (b equal : Bool) (x y : Val) → Says F b (compare equal x y)
  unfolding compare
  says_compare b true x y = says_test b (same x y)
  says_compare b false x y = says_test b (not (same x y))

  says_read : (b : Bool) (i : ℤ) → OkIs (Fine F) (input_at input i) → OkIs (Says F b) (input_at input i)
  says_read b (pos i) h = by_number (slice_get input i) h
    where
      by_number : (z : Option ℤ) → OkIs (Fine F) (input_number z) → OkIs (Says F b) (input_number z)
      by_number (Some m) h = says_number F b m h
      by_number None h = tt
  says_read b (negsuc i) h = tt

  says_input : (b : Bool) (x : Val) → OkIs (Says F b) (and_then (number x) (input_at input))
  says_input b (Int m) = says_read b m (n.read m)
  says_input b (Ptr o i) = tt

  any_ok : {A : Type 0} (e : Result A Trap) → OkIs Any e
  any_ok (Ok a) = tt
  any_ok (Err t) = tt

  -- freeing an object, or nothing
  pub of_free_at : (x : Val) (line : ℕ) → Fine F x → Rel Val (Fine F) (free v x line) (free w x line)
  of_free_at (Int m) line h = c.of_pure (Int (pos 0)) (n.tested false)
  of_free_at (Ptr o i) line h = c.of_bind (c.of_free o i line h.0 h.1) (λ u _. c.of_pure (Int (pos 0)) (n.tested false))

  -- ---- places

  -- a place, where it may lie, and the kind of its word where that is a shut global
  pub record Lies (wants : Option Kind) (t : Bool) (q : Pointer) : Type 0 where
    pub small : q.1 < 2 ^ 32
    pub object : t ≡ true → F.obj q.0
    pub shuts : (k : ℕ) → q.0 ≡ Global k → shut k ≡ true → wants ≡ Some kind.Int

  offset_if : (o : Obj) (m : ℕ) (b t : Bool) → nat_lt m (2 ^ 32) ≡ b → (t ≡ true → F.obj o) → ((k : ℕ) → o ≡ Global k → shut k ≡ true → ⊥)
      → OkIs (Lies None t) (if b then Ok (o, m) else Err trap.Bounds)
  offset_if o m true t l h k = record { small = grind arith; object = h; shuts = λ j e s. absurd (k j e s) }
  offset_if o m false t l h k = tt

  offset_at_is : (o : Obj) (m : ℤ) (t : Bool) → (t ≡ true → F.obj o) → ((k : ℕ) → o ≡ Global k → shut k ≡ true → ⊥) → OkIs (Lies None t) (offset_at o m)
  offset_at_is o (pos m) t h k = offset_if o m (nat_lt m (2 ^ 32)) t refl h k
  offset_at_is o (negsuc m) t h k = tt

  -- what wants no kind is no shut global
  no_shut : (wants : Option Kind) (o : Obj) → not (is_some wants) ≡ true → ((k : ℕ) → o ≡ Global k → shut k ≡ true → wants ≡ Some kind.Int)
      → (k : ℕ) → o ≡ Global k → shut k ≡ true → ⊥
  no_shut wants o u h k e s = true≢false (sym (ap is_some (h k e s)) ∙ not_false (is_some wants) u)

  at_shift : (q : Pointer) (m : ℕ) (wants : Option Kind) (t : Bool) → not (is_some wants) ≡ true → Lies wants t q → OkIs (Lies None t) (shift q m)
  unfolding shift
  at_shift q m wants t u a = offset_at_is q.0 (pos (q.1 + m)) t a.object (no_shut wants q.0 u a.shuts)

  at_element : (q : Pointer) (i : Val) (size : ℕ) (wants : Option Kind) (t : Bool) → not (is_some wants) ≡ true → Lies wants t q
      → OkIs (Lies None t) (element q i size)
  unfolding element
  at_element q (Int m) size wants t u a = offset_at_is q.0 (pos q.1 +ℤ (m *ℤ pos size)) t a.object (no_shut wants q.0 u a.shuts)
  at_element q (Ptr o i) size wants t u a = tt

  at_point : (x : Val) → Fine F x → OkIs (Lies None true) (point x)
  at_point (Int m) h = tt
  at_point (Ptr o i) h = record {
    small = h.1;
    object = λ _. h.0;
    shuts = λ k e s. absurd (g.shut_apart k s (subst F.obj e h.0));
  }

  at_global : (j : ℕ) → Lies (scalar_of (slice_get typed.globals j)) (taken j) (Global j, 0)
  at_global j = record {
    small = omega arith;
    object = g.taken_fine j;
    shuts = λ k e s. ap (λ z. scalar_of (slice_get typed.globals z)) (ap global_number e) ∙ g.shut_scalar k s;
  }

  -- ---- the layers

  abbrev OfValue : TExpr → Type 0
  OfValue e =
      fits_either (Fit e) ≡ true → obeys r e ≡ true → whole typed e ≡ true → (line : ℕ)
      → Rel Val (Says F (Fit e kind.Int)) (value v here input call e line) (value w here input dial e line)

  abbrev OfPlace : TPlace → Type 0
  OfPlace p =
      (place_kind typed results locals p).formed ≡ true → (obeys_at r p).0 ≡ true → (whole_at typed p).0 ≡ true → (line : ℕ)
      → Rel Pointer (Lies (whole_at typed p).1 (obeys_at r p).1) (place v here input call p line) (place w here input dial p line)

  abbrev E : Type 0
  E = With TExpr OfValue

  abbrev Q : Type 0
  Q = With TPlace OfPlace

  abbrev bare : TExpr-F E Q → TExpr-F TExpr TPlace
  bare y = map-TExpr E Q TExpr TPlace (λ e. e.0) (λ p. p.0) y

  abbrev bare_at : TPlace-F E Q → TPlace-F TExpr TPlace
  bare_at y = map-TPlace E Q TExpr TPlace (λ e. e.0) (λ p. p.0) y

  abbrev layer_f : TExpr-F E Q → TExpr-F FitsKind PlaceKind
  layer_f y = map-TExpr TExpr TPlace FitsKind PlaceKind Fit (place_kind typed results locals) (bare y)

  abbrev layer_o : TExpr-F E Q → TExpr-F Bool (Bool × Bool)
  layer_o y = map-TExpr TExpr TPlace Bool (Bool × Bool) (obeys r) (obeys_at r) (bare y)

  abbrev layer_w : TExpr-F E Q → TExpr-F Bool WholePlace
  layer_w y = map-TExpr TExpr TPlace Bool WholePlace (whole typed) (whole_at typed) (bare y)

  args : (es : List E) (ks : List Kind) (line : ℕ) → fit_all (map Fit (map (λ e. e.0) es)) ks ≡ true → every (map (obeys r) (map (λ e. e.0) es)) ≡ true
      → all_whole (map (whole typed) (map (λ e. e.0) es)) ≡ true
      → Rel (List Val) (HaveKinds F ks) (all (at_each line (map (value v here input call) (map (λ e. e.0) es))))
      (all (at_each line (map (value w here input dial) (map (λ e. e.0) es))))
  args [] [] line f o u = c.of_pure [] tt
  args [] (k ∷ ks) line f o u = absurd (true≢false (sym f))
  args (e ∷ es) [] line f o u = absurd (true≢false (sym f))
  args (e ∷ es) (k ∷ ks) line f o u =
      let this = both_left (Fit e.0 k) _ f in
      c.of_bind (e.1 (either_kind (Fit e.0) k this) (both_left (obeys r e.0) _ o) (both_left (whole typed e.0) _ u) line)
      (λ x s. c.of_bind (args es ks line (both_right (Fit e.0 k) _ f) (both_right (obeys r e.0) _ o) (both_right (whole typed e.0) _ u))
      (λ xs k2. c.of_pure (x ∷ xs) (says_weaker F (Fit e.0 kind.Int) (is_one k kind.Int) x (of_int (Fit e.0) k this) s, k2)))

  -- a call, whichever its function is
  of_call : (f : ℕ) (es : List E) (line : ℕ) (func : Option TFunc) → slice_get typed.funcs f ≡ func → fit_params (map Fit (map (λ e. e.0) es)) func ≡ true
      → every (map (obeys r) (map (λ e. e.0) es)) ≡ true → all_whole (map (whole typed) (map (λ e. e.0) es)) ≡ true
      → Rel Val (Says F (gives (slice_get results f) kind.Int))
      (all (at_each line (map (value v here input call) (map (λ e. e.0) es))) >>= (λ vs. call f vs line))
      (all (at_each line (map (value w here input dial) (map (λ e. e.0) es))) >>= (λ vs. dial f vs line))
  of_call f es line (Some func) is p o u = c.of_bind (args es (param_kinds func) line p o u) (λ vs h. calls_related f func vs line is h)
  of_call f es line None is p o u = absurd (true≢false (sym p))

  -- two operands
  of_two : (x y : E) (line : ℕ) → fits_either (Fit x.0) ≡ true → fits_either (Fit y.0) ≡ true → (obeys r x.0 && obeys r y.0) ≡ true
      → (whole typed x.0 && whole typed y.0) ≡ true → {P : Val → Type 0} {f : Val → Val → Act S Val} {h : Val → Val → Act T Val}
      → ((a b : Val) → Fine F a → Fine F b → Rel Val P (f a b) (h a b))
      → Rel Val P (value v here input call x.0 line >>= (λ a. value v here input call y.0 line >>= (λ b. f a b)))
      (value w here input dial x.0 line >>= (λ a. value w here input dial y.0 line >>= (λ b. h a b)))
  of_two x y line fx fy o u k =
      c.of_bind (x.1 fx (both_left (obeys r x.0) (obeys r y.0) o) (both_left (whole typed x.0) (whole typed y.0) u) line)
      (λ a s. c.of_bind (y.1 fy (both_right (obeys r x.0) (obeys r y.0) o) (both_right (whole typed x.0) (whole typed y.0) u) line)
      (λ b t. k a b s.fine t.fine))

  -- both operands are integers
  ints_left : (x y : E) → ((Fit x.0 kind.Int && Fit y.0 kind.Int) || false) ≡ true → fits_either (Fit x.0) ≡ true
  ints_left x y f = either_int (Fit x.0) (both_left (Fit x.0 kind.Int) (Fit y.0 kind.Int) (or_nothing (Fit x.0 kind.Int && Fit y.0 kind.Int) f))

  ints_right : (x y : E) → ((Fit x.0 kind.Int && Fit y.0 kind.Int) || false) ≡ true → fits_either (Fit y.0) ≡ true
  ints_right x y f = either_int (Fit y.0) (both_right (Fit x.0 kind.Int) (Fit y.0 kind.Int) (or_nothing (Fit x.0 kind.Int && Fit y.0 kind.Int) f))

  expr_layer : (y : TExpr-F E Q) (line : ℕ) → fits_either (expr_fits typed results locals (layer_f y)) ≡ true → expr_obeys r (layer_o y) ≡ true
      → expr_whole typed (layer_w y) ≡ true
      → Rel Val (Says F (expr_fits typed results locals (layer_f y) kind.Int))
      (expr_case v here input call (map-TExpr TExpr TPlace (At S Val) (At S Pointer) (value v here input call) (place v here input call) (bare y)) line)
      (expr_case w here input dial (map-TExpr TExpr TPlace (At T Val) (At T Pointer) (value w here input dial) (place w here input dial) (bare y)) line)
  expr_layer (TExpr-F.Number m) line f o u = c.of_pure (Int m) (says_number F true m (n.literal m o))
  expr_layer (TExpr-F.Local j) line f o u = c.of_get_local j line
  expr_layer (TExpr-F.Load want p) line f o u =
      let k = place_kind typed results locals p.0 in
      let formed = middle_test (is_one want kind.Int) (is_one want kind.Ptr) k.formed (may_want k.wants want) f in
      let both = is_one want kind.Int && k.formed in
      c.of_weaker (c.of_bind (p.1 formed o u line) (λ q s. c.of_load q want line s.small))
      (λ x. says_weaker F (is_one want kind.Int) (both && may_want k.wants want) x
      (λ t. both_left (is_one want kind.Int) k.formed (both_left both (may_want k.wants want) t)))
  expr_layer (TExpr-F.Addr p) line f o u =
      c.of_bind (p.1 f (both_left (obeys_at r p.0).0 (obeys_at r p.0).1 o) u line) (λ q s. c.of_pure (Ptr q.0 q.1) (record {
        fine = (s.object (both_right (obeys_at r p.0).0 (obeys_at r p.0).1 o), s.small);
        number = λ t. absurd (true≢false (sym t));
      }))
  expr_layer (TExpr-F.Unary op x) line f o u =
      let e = operand_either op (Fit x.0) (or_nothing (operand_fits op (Fit x.0)) f) in
      c.of_bind (x.1 e o u line) (λ a s. c.of_lift line (operate_one op a) (says_one (operand_fits op (Fit x.0)) op a s.fine))
  expr_layer (TExpr-F.Binary op x y) line f o u =
      of_two x y line (ints_left x y f) (ints_right x y f) o u
      (λ a b h i. c.of_lift line (operate op a b) (says_binary (Fit x.0 kind.Int && Fit y.0 kind.Int) op a b h i))
  expr_layer (TExpr-F.Same equal x y) line f o u =
      let both = or_nothing (Fit x.0 kind.Ptr && Fit y.0 kind.Ptr) f in
      of_two x y line (either_ptr (Fit x.0) (both_left (Fit x.0 kind.Ptr) (Fit y.0 kind.Ptr) both))
      (either_ptr (Fit y.0) (both_right (Fit x.0 kind.Ptr) (Fit y.0 kind.Ptr) both)) o u
      (λ a b h i. c.of_pure (compare equal a b) (says_compare (Fit x.0 kind.Ptr && Fit y.0 kind.Ptr) equal a b))
  expr_layer (TExpr-F.And x y) line f o u =
      let b = fits_either (Fit x.0) && fits_either (Fit y.0) in
      let both = or_nothing b f in
      c.of_bind (x.1 (both_left (fits_either (Fit x.0)) (fits_either (Fit y.0)) both) (both_left (obeys r x.0) (obeys r y.0) o)
      (both_left (whole typed x.0) (whole typed y.0) u) line)
      (λ a _. of_cond (truth a) (c.of_bind (y.1 (both_right (fits_either (Fit x.0)) (fits_either (Fit y.0)) both)
      (both_right (obeys r x.0) (obeys r y.0) o) (both_right (whole typed x.0) (whole typed y.0) u) line)
      (λ z _. c.of_pure (of_test (truth z)) (says_test b (truth z)))) (c.of_pure (of_test false) (says_test b false)))
  expr_layer (TExpr-F.Or x y) line f o u =
      let b = fits_either (Fit x.0) && fits_either (Fit y.0) in
      let both = or_nothing b f in
      c.of_bind (x.1 (both_left (fits_either (Fit x.0)) (fits_either (Fit y.0)) both) (both_left (obeys r x.0) (obeys r y.0) o)
      (both_left (whole typed x.0) (whole typed y.0) u) line)
      (λ a _. of_cond (truth a) (c.of_pure (of_test true) (says_test b true))
      (c.of_bind (y.1 (both_right (fits_either (Fit x.0)) (fits_either (Fit y.0)) both)
      (both_right (obeys r x.0) (obeys r y.0) o) (both_right (whole typed x.0) (whole typed y.0) u) line)
      (λ z _. c.of_pure (of_test (truth z)) (says_test b (truth z)))))
  expr_layer (TExpr-F.Call f xs) line t o u =
      let given = gives (slice_get results f) kind.Int in
      let params = fit_params (map Fit (map (λ e. e.0) xs)) (slice_get typed.funcs f) in
      c.of_weaker (of_call f xs line (slice_get typed.funcs f) refl (shared_test given (gives (slice_get results f) kind.Ptr) params t) o u)
      (λ a. says_weaker F given (given && params) a (both_left given params))
  expr_layer (TExpr-F.Input x) line f o u =
      c.of_bind (x.1 (either_int (Fit x.0) (or_nothing (Fit x.0 kind.Int) f)) o u line)
      (λ a _. c.of_lift line (and_then (number a) (input_at input)) (says_input (Fit x.0 kind.Int) a))
  expr_layer TExpr-F.Inputs line f o u = c.of_pure (Int (pos (length input))) (says_number F true _ n.count)
  expr_layer (TExpr-F.Choose op x y) line f o u =
      of_two x y line (ints_left x y f) (ints_right x y f) o u
      (λ a b h i. c.of_lift line (choose op a b) (says_choose (Fit x.0 kind.Int && Fit y.0 kind.Int) op a b h i))
  expr_layer (TExpr-F.Calloc x size) line f o u =
      c.of_bind (x.1 (either_int (Fit x.0) f) o u line) (λ a _. c.of_bind {P = Any}
      (c.of_lift line (and_then (number a) (λ m. words_of m size)) (any_ok (and_then (number a) (λ m. words_of m size))))
      (λ words _. c.of_weaker (c.of_make words line) (λ z h. record { fine = h; number = λ t. absurd (true≢false (sym t)) })))
  expr_layer (TExpr-F.Free x) line f o u = absurd (true≢false (sym f))

  abbrev layer_at_f : TPlace-F E Q → TPlace-F FitsKind PlaceKind
  layer_at_f y = map-TPlace TExpr TPlace FitsKind PlaceKind Fit (place_kind typed results locals) (bare_at y)

  abbrev layer_at_o : TPlace-F E Q → TPlace-F Bool (Bool × Bool)
  layer_at_o y = map-TPlace TExpr TPlace Bool (Bool × Bool) (obeys r) (obeys_at r) (bare_at y)

  abbrev layer_at_w : TPlace-F E Q → TPlace-F Bool WholePlace
  layer_at_w y = map-TPlace TExpr TPlace Bool WholePlace (whole typed) (whole_at typed) (bare_at y)

  place_layer : (y : TPlace-F E Q) (line : ℕ) → (place_kind_case typed results locals (layer_at_f y)).formed ≡ true
      → (place_obeys r (layer_at_o y)).0 ≡ true → (place_whole typed (layer_at_w y)).0 ≡ true
      → Rel Pointer (Lies (place_whole typed (layer_at_w y)).1 (place_obeys r (layer_at_o y)).1)
      (place_case v here input call (map-TPlace TExpr TPlace (At S Val) (At S Pointer) (value v here input call) (place v here input call) (bare_at y)) line)
      (place_case w here input dial (map-TPlace TExpr TPlace (At T Val) (At T Pointer) (value w here input dial) (place w here input dial) (bare_at y)) line)
  place_layer (TPlace-F.Global j) line f o u = c.of_pure (Global j, 0) (at_global j)
  place_layer (TPlace-F.At e) line f o u = c.of_bind (e.1 (either_ptr (Fit e.0) f) o u line) (λ x s. c.of_lift line (point x) (at_point x s.fine))
  place_layer (TPlace-F.Plus p m) line f o u =
      let wants = (whole_at typed p.0).1 in
      let t = (obeys_at r p.0).1 in
      c.of_bind (p.1 f o (both_left (whole_at typed p.0).0 (not (is_some wants)) u) line)
      (λ q a. c.of_lift line (shift q m) (at_shift q m wants t (both_right (whole_at typed p.0).0 (not (is_some wants)) u) a))
  place_layer (TPlace-F.Elem p e size) line f o u =
      let wants = (whole_at typed p.0).1 in
      let t = (obeys_at r p.0).1 in
      let formed = (place_kind typed results locals p.0).formed in
      let u1 = both_left ((whole_at typed p.0).0 && not (is_some wants)) (whole typed e.0) u in
      c.of_bind (p.1 (both_left formed (Fit e.0 kind.Int) f) (both_left (obeys_at r p.0).0 (obeys r e.0) o)
      (both_left (whole_at typed p.0).0 (not (is_some wants)) u1) line)
      (λ q a. c.of_bind (e.1 (either_int (Fit e.0) (both_right formed (Fit e.0 kind.Int) f)) (both_right (obeys_at r p.0).0 (obeys r e.0) o)
      (both_right ((whole_at typed p.0).0 && not (is_some wants)) (whole typed e.0) u) line)
      (λ x _. c.of_lift line (element q x size) (at_element q x size wants t (both_right (whole_at typed p.0).0 (not (is_some wants)) u1) a)))

  -- two actions that are equal to two that are related
  pub equal_to : {A : Type 0} {P : A → Type 0} (p p' : Act S A) (q q' : Act T A) → p' ≡ p → q' ≡ q → Rel A P p q → Rel A P p' q'
  equal_to {A = A} {P = P} p p' q q' e f h = subst (λ (x : Act S A). Rel A P x q') (sym e) (subst (λ (y : Act T A). Rel A P p y) (sym f) h)

  value_step : (y : TExpr-F E Q) → OfValue (roll-TExpr (bare y))
  unfolding value place obeys obeys_at whole whole_at fits place_kind
  value_step y f o u line =
      let d = bare y in
      let is_f = fold-roll-TExpr FitsKind PlaceKind (expr_fits typed results locals) (place_kind_case typed results locals) d in
      let is_o = fold-roll-TExpr Bool (Bool × Bool) (expr_obeys r) (place_obeys r) d in
      let is_w = fold-roll-TExpr Bool WholePlace (expr_whole typed) (place_whole typed) d in
      subst (λ (k : FitsKind). Rel Val (Says F (k kind.Int)) (value v here input call (roll-TExpr d) line) (value w here input dial (roll-TExpr d) line))
      (sym is_f)
      (equal_to _ _ _ _ (ap (λ f. f line) (fold-roll-TExpr (At S Val) (At S Pointer) (expr_case v here input call) (place_case v here input call) d))
      (ap (λ f. f line) (fold-roll-TExpr (At T Val) (At T Pointer) (expr_case w here input dial) (place_case w here input dial) d))
      (expr_layer y line (ap fits_either (sym is_f) ∙ f) (sym is_o ∙ o) (sym is_w ∙ u)))

  place_step : (y : TPlace-F E Q) → OfPlace (roll-TPlace (bare_at y))
  unfolding value place obeys obeys_at whole whole_at fits place_kind
  place_step y f o u line =
      let d = bare_at y in
      let is_f = fold-roll-TPlace FitsKind PlaceKind (expr_fits typed results locals) (place_kind_case typed results locals) d in
      let is_o = fold-roll-TPlace Bool (Bool × Bool) (expr_obeys r) (place_obeys r) d in
      let is_w = fold-roll-TPlace Bool WholePlace (expr_whole typed) (place_whole typed) d in
      subst (λ (b : WholePlace). Rel Pointer (Lies b.1 (obeys_at r (roll-TPlace d)).1) (place v here input call (roll-TPlace d) line)
      (place w here input dial (roll-TPlace d) line)) (sym is_w)
      (subst (λ (b : Bool × Bool). Rel Pointer (Lies (place_whole typed (layer_at_w y)).1 b.1) (place v here input call (roll-TPlace d) line)
      (place w here input dial (roll-TPlace d) line)) (sym is_o)
      (equal_to _ _ _ _ (ap (λ f. f line) (fold-roll-TPlace (At S Val) (At S Pointer) (expr_case v here input call) (place_case v here input call) d))
      (ap (λ f. f line) (fold-roll-TPlace (At T Val) (At T Pointer) (expr_case w here input dial) (place_case w here input dial) d))
      (place_layer y line (ap (λ k. k.formed) (sym is_f) ∙ f) (ap (λ b. b.0) (sym is_o) ∙ o) (ap (λ b. b.0) (sym is_w) ∙ u))))

  -- an expression that fits some kind
  pub kinded_value : (e : TExpr) → OfValue e
  kinded_value = expr_induct OfValue OfPlace value_step place_step

  pub kinded_place : (p : TPlace) → OfPlace p
  kinded_place = place_induct OfValue OfPlace value_step place_step

  -- what a place wants is the kind of its word
  pub same_wants : (p : TPlace) → (whole_at typed p).1 ≡ (place_kind typed results locals p).wants
  unfolding whole whole_at fits place_kind
  same_wants p =
      ap (λ b. b.1) (fold_out-TPlace Bool WholePlace (expr_whole typed) (place_whole typed) p)
      ∙ by_place (out-TPlace p)
      ∙ ap (λ k. k.wants) (sym (fold_out-TPlace FitsKind PlaceKind (expr_fits typed results locals) (place_kind_case typed results locals) p))
    where
      of_global : (x : Option TGlobal) → scalar_of x ≡ (global_kind x).wants
      of_global (Some g) = refl
      of_global None = refl

      by_place : (y : TPlace-F TExpr TPlace) → (place_whole typed (map-TPlace TExpr TPlace Bool WholePlace (whole typed) (whole_at typed) y)).1
          ≡ (place_kind_case typed results locals (map-TPlace TExpr TPlace FitsKind PlaceKind Fit (place_kind typed results locals) y)).wants
      by_place (TPlace-F.Global j) = of_global (slice_get typed.globals j)
      by_place (TPlace-F.At e) = refl
      by_place (TPlace-F.Plus p m) = refl
      by_place (TPlace-F.Elem p e m) = refl
