-- The code of an expression does what the expression means.
use Rattle.std.proofs.Common.{◌≡◌, ℕ, suc, ◌+◌, List, [], ◌∷◌, ◌++◌, length, map, Some, refl, sym, ap, ◌∙◌, subst}
use Rattle.std.specs.Prelude.{true, false, if◌then◌else◌, ℤ, pos}
use Rattle.al_core.specs.declared.values.Obj.TheVariants.{Global}
use Rattle.al_core.specs.declared.values.Val.{Val}
use Rattle.al_core.specs.declared.values.Val.TheVariants.{Int}
use Rattle.al_core.specs.declared.typed_tree.TExpr.{TExpr, map-TExpr, fold-roll-TExpr}
use Rattle.al_core.specs.declared.typed_tree.TExpr.TheViews.{roll-TExpr, roll-TPlace}
use Rattle.al_core.specs.declared.typed_tree.TPlace.{TPlace, map-TPlace, fold-roll-TPlace}
use Rattle.al_core.specs.declared.typed_tree.TExpr.TheOpen.{TExpr-F, TPlace-F}
use Rattle.al_core.specs.World.{Pointer, World}
use Rattle.al_core.specs.Values.{truth, of_test, compare}
use Rattle.al_core.specs.Action.{State, Act, At, after, bind, ◌>>=◌, pure, all}
use Rattle.al_core.specs.Meaning.{Where, at_each, expr_case, place_case, value, place, values}
use Rattle.al_laws.proofs.Induction.{With, expr_induct, place_induct}
use Rattle.al_code.specs.declared.instructions.Instr.{Instr}
use Rattle.al_code.specs.declared.instructions.Instr.TheVariants as i
use Rattle.al_code.specs.declared.lowered.Code.{Code}
use Rattle.al_code.specs.Machine.{InnerLoop, Caller, Goes, on_stack, does}
use Rattle.al_code_laws.specs.declared.plan.Op.TheVariants.{As, JumpTo, CallOf}
use Rattle.al_code_laws.specs.Planned.{planned, past, Emit, one, ◌⨟◌, Shows, Has}
use Rattle.al_code_laws.specs.Tree.{Lined, in_turn, short, expr_code_case, place_code_case, expr_code, place_code, exprs_code}
use Rattle.al_code_laws.proofs.Args.{push_all}
use Rattle.al_code_laws.proofs.Counting.{all_count}
use Rattle.al_code_laws.proofs.Leads.{Target, has_front, has_back, Leads, leads_pure, leads_bind, leads_one, leads_move, leads_jump, leads_seam, leads_if, leads_unless, spot, at}

module _ {S : Type 0} (world : World S) (here : Where) (input : List ℤ) (code : Code) (callers : List Caller) (room : ℕ) where
  abbrev pub Does : {A : Type 0} → State S → Target → Act S A → (A → Target) → Type 0
  Does = Leads world here input code

  abbrev on : List InnerLoop → ℕ → List Val → Target
  on = at code callers room

  -- what a call does, with its arguments on the stack
  abbrev pub CallsRun : (ℕ → List Val → At S Val) → Type 0
  CallsRun call = (f : ℕ) (vs : List Val) (line r : ℕ) (inner : List InnerLoop) (st : List Val) (s : State S) (h : ℕ)
      → Shows code r (planned (CallOf f (length vs)) line h) → Does s (on inner (suc r) (push_all vs st)) (call f vs line) (λ v. on inner r (v ∷ st))

  -- the code leaves what the action answers, on the stack
  abbrev pub Runs : {A : Type 0} → (A → Val) → Emit → Act S A → Type 0
  Runs show c p = (after : ℕ) → Has code after (c after) → (inner : List InnerLoop) (st : List Val) (s : State S)
      → Does s (on inner (past (c after) after) st) p (λ a. on inner after (show a ∷ st))

  abbrev pub ValueRuns : Emit → Act S Val → Type 0
  ValueRuns = Runs (λ v. v)

  abbrev pub PlaceRuns : Emit → Act S Pointer → Type 0
  PlaceRuns = Runs on_stack

  -- one operand, and an instruction
  pub one_then : {A B : Type 0} {show : A → Val} {to : B → Val} (a : Emit) (x : Instr) (line d : ℕ) {p : Act S A} (f : A → Act S B) → Runs show a p
      → ((n : A) (pc : ℕ) (inner : List InnerLoop) (st : List Val) → does world here input code (Some x) line (spot callers room inner pc (show n ∷ st))
      ≡ (f n >>= (λ v. pure (Goes (spot callers room inner (pc + 1) (to v ∷ st)))))) → Runs to (a ⨟ one (As x) line d) (p >>= f)
  one_then a x line d f h e after has inner st s =
      leads_seam callers room (a (suc after)) (one (As x) line d after) after
      (leads_bind (h (suc after) (has_front code after (a (suc after)) (one (As x) line d after) has) inner st s) (λ n _.
      leads_one callers room (λ v. _ ∷ st) (has_back code after (a (suc after)) (one (As x) line d after) has).0 (λ pc. e n pc inner st)))

  -- two operands, and an instruction
  pub two_then : {A B C : Type 0} {show : A → Val} {bs : B → Val} {to : C → Val} (a b : Emit) (x : Instr) (line d : ℕ) {p : Act S A} {q : Act S B} (f : A → B
      → Act S C) → Runs show a p → Runs bs b q → ((n : A) (m : B) (pc : ℕ) (inner : List InnerLoop) (st : List Val) → does world here input code
      (Some x) line (spot callers room inner pc (bs m ∷ show n ∷ st)) ≡ (f n m >>= (λ v. pure (Goes (spot callers room inner (pc + 1) (to v ∷ st))))))
      → Runs to (a ⨟ (b ⨟ one (As x) line d)) (p >>= (λ n. q >>= f n))
  two_then {to = to} a b x line d f h k e after has inner st s =
      let last = one (As x) line d after in
      let cb = (b ⨟ one (As x) line d) after in
      let ca = a (past cb after) in
      let hb = has_back code after ca cb has in
      leads_seam callers room ca cb after
      (leads_bind (h (past cb after) (has_front code after ca cb has) inner st s) (λ n _.
      leads_seam callers room (b (suc after)) last after
      (leads_bind (k (suc after) (has_front code after (b (suc after)) last hb) inner (_ ∷ st) _) (λ m _.
      leads_one callers room (λ v. to v ∷ st) (has_back code after (b (suc after)) last hb).0 (λ pc. e n m pc inner st)))))

  -- an instruction that pushes a value it knows
  pub pushes : {A : Type 0} {show : A → Val} (x : Instr) (line d : ℕ) (a : A)
      → ((pc : ℕ) (inner : List InnerLoop) (st : List Val) → does world here input code (Some x) line (spot callers room inner pc st)
      ≡ pure (Goes (spot callers room inner (pc + 1) (show a ∷ st)))) → Runs show (one (As x) line d) (pure a)
  pushes x line d a e after has inner st s = leads_move callers room has.0 (λ pc. e pc inner st) (leads_pure s _ a refl)

  at_once : {A B : Type 0} (a : A) (g : A → Act S B) → g a ≡ (pure a >>= g)
  unfolding bind pure
  at_once a g = refl

  module _ (line d : ℕ) (b : Emit) (q : Act S Val) (runs : ValueRuns b q) where
    abbrev tail : ℤ → Emit
    tail answer after = planned (As i.Truth) line (suc d) ∷ planned (JumpTo after) line (suc d) ∷ planned (As (i.Push answer)) line d ∷ []

    -- the second operand, and whether it holds
    second : (answer : ℤ) (after : ℕ) → Has code after (b (suc (suc (suc after))) ++ tail answer after)
        → (inner : List InnerLoop) (st : List Val) (s : State S)
        → Does s (on inner (past (b (suc (suc (suc after))) ++ tail answer after) after) st) (q >>= (λ y. pure (of_test (truth y))))
        (λ v. on inner after (v ∷ st))
    second answer after has inner st s =
        let cb = b (suc (suc (suc after))) in
        let hb = has_back code after cb (tail answer after) has in
        leads_seam callers room cb (tail answer after) after
        (leads_bind (runs (suc (suc (suc after))) (has_front code after cb (tail answer after) has) inner st s) (λ y _.
        leads_move callers room hb.0 (λ pc. refl) (leads_jump callers room hb.1.0 (leads_pure _ _ (of_test (truth y)) refl))))

    and_runs : {p : Act S Val} (a : Emit) → ValueRuns a p → ValueRuns (a ⨟ short line d false (pos 0) b) (p >>= (λ x. if truth x then q >>=
        (λ y. pure (of_test (truth y))) else pure (of_test false)))
    and_runs a h after has inner st s =
        let rest = short line d false (pos 0) b after in
        let hr = has_back code after (a (past rest after)) rest has in
        leads_seam callers room (a (past rest after)) rest after
        (leads_bind (h (past rest after) (has_front code after (a (past rest after)) rest has) inner st s) (λ x _.
        leads_if callers room x hr.0
        (second (pos 0) after hr.1 inner st _)
        (leads_move callers room (has_back code after (b (suc (suc (suc after)))) (tail (pos 0) after) hr.1).1.1.0 (λ pc. refl)
        (leads_pure _ _ (of_test false) refl))))

    or_runs : {p : Act S Val} (a : Emit) → ValueRuns a p → ValueRuns (a ⨟ short line d true (pos 1) b) (p >>= (λ x. if truth x then pure
        (of_test true) else q >>= (λ y. pure (of_test (truth y)))))
    or_runs a h after has inner st s =
        let rest = short line d true (pos 1) b after in
        let hr = has_back code after (a (past rest after)) rest has in
        leads_seam callers room (a (past rest after)) rest after
        (leads_bind (h (past rest after) (has_front code after (a (past rest after)) rest has) inner st s) (λ x _.
        leads_unless callers room x hr.0
        (leads_move callers room (has_back code after (b (suc (suc (suc after)))) (tail (pos 1) after) hr.1).1.1.0 (λ pc. refl)
        (leads_pure _ _ (of_test true) refl))
        (second (pos 1) after hr.1 inner st _)))

  module _ (call : ℕ → List Val → At S Val) (calls : CallsRun call) where
    abbrev V : TExpr → At S Val
    V = value world here input call

    abbrev W : TPlace → At S Pointer
    W = place world here input call

    abbrev ExprOk : TExpr → Type 0
    ExprOk e = (line d : ℕ) → ValueRuns (expr_code e line d) (V e line)

    abbrev PlaceOk : TPlace → Type 0
    PlaceOk p = (line d : ℕ) → PlaceRuns (place_code p line d) (W p line)

    abbrev E : Type 0
    E = With TExpr ExprOk

    abbrev Q : Type 0
    Q = With TPlace PlaceOk

    abbrev expr_parts : TExpr-F E Q → TExpr-F TExpr TPlace
    expr_parts y = map-TExpr E Q TExpr TPlace (λ e. e.0) (λ p. p.0) y

    abbrev place_parts : TPlace-F E Q → TPlace-F TExpr TPlace
    place_parts y = map-TPlace E Q TExpr TPlace (λ e. e.0) (λ p. p.0) y

    as_many : (es : List E) (line : ℕ) → length (at_each line (map V (map (λ e. e.0) es))) ≡ length (map expr_code (map (λ e. e.0) es))
    as_many [] line = refl
    as_many (e ∷ es) line = ap suc (as_many es line)

    args_run : (es : List E) (line d after : ℕ) → Has code after (in_turn line d (map expr_code (map (λ e. e.0) es)) after)
        → (inner : List InnerLoop) (st : List Val) (s : State S)
        → Does s (on inner (past (in_turn line d (map expr_code (map (λ e. e.0) es)) after) after) st)
        (all (at_each line (map V (map (λ e. e.0) es)))) (λ vs. on inner after (push_all vs st))
    args_run [] line d after has inner st s = leads_pure s _ [] refl
    args_run (x ∷ es) line d after has inner st s =
        let cs = in_turn line (suc d) (map expr_code (map (λ e. e.0) es)) after in
        let c = expr_code x.0 line d (past cs after) in
        leads_seam callers room c cs after
        (leads_bind (x.1 line d (past cs after) (has_front code after c cs has) inner st s) (λ v _.
        leads_bind (args_run es line (suc d) after (has_back code after c cs has) inner (v ∷ st) _) (λ vs _. leads_pure _ _ (v ∷ vs) refl)))

    value_layer : (y : TExpr-F E Q) (line d : ℕ)
        → ValueRuns (expr_code_case (map-TExpr TExpr TPlace Lined Lined expr_code place_code (expr_parts y)) line d)
        (expr_case world here input call (map-TExpr TExpr TPlace (At S Val) (At S Pointer) V W (expr_parts y)) line)
    value_layer (TExpr-F.Number n) line d = pushes (i.Push n) line d (Int n) (λ pc inner st. refl)
    value_layer (TExpr-F.Local k) line d = λ after has inner st s. leads_one callers room (λ v. v ∷ st) has.0 (λ pc. refl)
    value_layer (TExpr-F.Load want p) line d = one_then (place_code p.0 line d) (i.Load want) line (suc d) _ (p.1 line d) (λ q pc inner st. refl)
    value_layer (TExpr-F.Addr p) line d = λ after has inner st s. leads_bind (p.1 line d after has inner st s) (λ q _. leads_pure _ _ (on_stack q) refl)
    value_layer (TExpr-F.Unary op a) line d = one_then (expr_code a.0 line d) (i.Unary op) line (suc d) _ (a.1 line d) (λ x pc inner st. refl)
    value_layer (TExpr-F.Binary op a b) line d =
        two_then (expr_code a.0 line d) (expr_code b.0 line (suc d)) (i.Binary op) line (suc (suc d)) _ (a.1 line d) (b.1 line (suc d))
        (λ x y pc inner st. refl)
    value_layer (TExpr-F.Same equal a b) line d =
        two_then (expr_code a.0 line d) (expr_code b.0 line (suc d)) (i.Same equal) line (suc (suc d)) _ (a.1 line d) (b.1 line (suc d))
        (λ x y pc inner st. at_once (compare equal x y) (λ v. pure (Goes (spot callers room inner (pc + 1) (v ∷ st)))))
    value_layer (TExpr-F.And a b) line d =
        and_runs line d (expr_code b.0 line d) (V b.0 line) (b.1 line d) (expr_code a.0 line d) (a.1 line d)
    value_layer (TExpr-F.Or a b) line d =
        or_runs line d (expr_code b.0 line d) (V b.0 line) (b.1 line d) (expr_code a.0 line d) (a.1 line d)
    value_layer (TExpr-F.Call f args) line d = λ after has inner st s.
        let n = length (map expr_code (map (λ e. e.0) args)) in
        let last = one (CallOf f n) line (d + n) after in
        let cs = in_turn line d (map expr_code (map (λ e. e.0) args)) (suc after) in
        leads_seam callers room cs last after
        (leads_bind (args_run args line d (suc after) (has_front code after cs last has) inner st s) (λ vs e.
        calls f vs line after inner st _ (d + n)
        (subst (λ m. Shows code after (planned (CallOf f m) line (d + n))) (sym ((all_count _).by s vs e ∙ as_many args line))
        (has_back code after cs last has).0)))
    value_layer (TExpr-F.Input a) line d = one_then (expr_code a.0 line d) i.Input line (suc d) _ (a.1 line d) (λ x pc inner st. refl)
    value_layer TExpr-F.Inputs line d = pushes i.Inputs line d (Int (pos (length input))) (λ pc inner st. refl)
    value_layer (TExpr-F.Choose op a b) line d =
        two_then (expr_code a.0 line d) (expr_code b.0 line (suc d)) (i.Choose op) line (suc (suc d)) _ (a.1 line d) (b.1 line (suc d))
        (λ x y pc inner st. refl)
    value_layer (TExpr-F.Calloc a size) line d = one_then (expr_code a.0 line d) (i.Calloc size) line (suc d) _ (a.1 line d) (λ x pc inner st. refl)
    value_layer (TExpr-F.Free a) line d = one_then (expr_code a.0 line d) i.Free line (suc d) _ (a.1 line d) (λ x pc inner st. refl)

    place_layer : (y : TPlace-F E Q) (line d : ℕ)
        → PlaceRuns (place_code_case (map-TPlace TExpr TPlace Lined Lined expr_code place_code (place_parts y)) line d)
        (place_case world here input call (map-TPlace TExpr TPlace (At S Val) (At S Pointer) V W (place_parts y)) line)
    place_layer (TPlace-F.Global k) line d = pushes (i.Global k) line d (Global k, 0) (λ pc inner st. refl)
    place_layer (TPlace-F.At e) line d = one_then (expr_code e.0 line d) i.NotNull line (suc d) _ (e.1 line d) (λ x pc inner st. refl)
    place_layer (TPlace-F.Plus p n) line d = one_then (place_code p.0 line d) (i.Plus n) line (suc d) _ (p.1 line d) (λ x pc inner st. refl)
    place_layer (TPlace-F.Elem p e size) line d =
        two_then (place_code p.0 line d) (expr_code e.0 line (suc d)) (i.Elem size) line (suc (suc d)) _ (p.1 line d) (e.1 line (suc d))
        (λ x y pc inner st. refl)

    value_step : (y : TExpr-F E Q) → ExprOk (roll-TExpr (expr_parts y))
    unfolding value place expr_code place_code
    value_step y line d =
        let r = expr_parts y in
        subst (λ (c : Lined). ValueRuns (c line d) (V (roll-TExpr r) line)) (sym (fold-roll-TExpr Lined Lined expr_code_case place_code_case r))
        (subst (λ (p : At S Val). ValueRuns (expr_code_case (map-TExpr TExpr TPlace Lined Lined expr_code place_code r) line d) (p line))
        (sym (fold-roll-TExpr (At S Val) (At S Pointer) (expr_case world here input call) (place_case world here input call) r))
        (value_layer y line d))

    place_step : (y : TPlace-F E Q) → PlaceOk (roll-TPlace (place_parts y))
    unfolding value place expr_code place_code
    place_step y line d =
        let r = place_parts y in
        subst (λ (c : Lined). PlaceRuns (c line d) (W (roll-TPlace r) line)) (sym (fold-roll-TPlace Lined Lined expr_code_case place_code_case r))
        (subst (λ (p : At S Pointer). PlaceRuns (place_code_case (map-TPlace TExpr TPlace Lined Lined expr_code place_code r) line d) (p line))
        (sym (fold-roll-TPlace (At S Val) (At S Pointer) (expr_case world here input call) (place_case world here input call) r))
        (place_layer y line d))

    pub value_runs : (e : TExpr) → ExprOk e
    value_runs = expr_induct ExprOk PlaceOk value_step place_step

    pub place_runs : (p : TPlace) → PlaceOk p
    place_runs = place_induct ExprOk PlaceOk value_step place_step

    pub values_run : (es : List TExpr) (line d after : ℕ) → Has code after (exprs_code es line d after)
        → (inner : List InnerLoop) (st : List Val) (s : State S)
        → Does s (on inner (past (exprs_code es line d after) after) st) (values world here input call es line) (λ vs. on inner after (push_all vs st))
    values_run [] line d after has inner st s = leads_pure s _ [] refl
    values_run (x ∷ es) line d after has inner st s =
        let cs = exprs_code es line (suc d) after in
        let c = expr_code x line d (past cs after) in
        leads_seam callers room c cs after
        (leads_bind (value_runs x line d (past cs after) (has_front code after c cs has) inner st s) (λ v _.
        leads_bind (values_run es line (suc d) after (has_back code after c cs has) inner (v ∷ st) _) (λ vs _. leads_pure _ _ (v ∷ vs) refl)))
