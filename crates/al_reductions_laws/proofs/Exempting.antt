-- An update of a reduction variable is related to itself, whether the variable is a local or a global.
use Rattle.std.proofs.Common.{◌≡◌, ℕ, List, ◌++◌, Option, Some, None, Result, Ok, Err, true, false, refl, sym, ap, subst, ◌∙◌, w64, FitsSigned}
use Rattle.std.specs.Prelude.{ℤ, pos, if◌then◌else◌, slice_get, slice_set}
use Rattle.std.specs.List.{AllByRecursion}
use Rattle.std.proofs.Math.Bool.{true≢false}
use Rattle.al_source.specs.declared.operators.BinOp.{BinOp}
use Rattle.al_source.specs.declared.operators.RedOp.{RedOp}
use Rattle.al_core.specs.declared.choices.Red.{Red}
use Rattle.al_core.specs.declared.values.Val.{Val}
use Rattle.al_core.specs.declared.values.Addr.TheVariants.{Word, Local}
use Rattle.al_core.specs.declared.values.Kind.TheVariants as kind
use Rattle.al_core.specs.declared.values.Trap.{Trap}
use Rattle.al_core.specs.declared.values.Obj.TheVariants.{Global}
use Rattle.al_core.specs.declared.typed_tree.TExpr.{TExpr, map-TExpr, out-TExpr, roll-out-TExpr, fold-roll-TExpr, fold_out-TExpr}
use Rattle.al_core.specs.declared.typed_tree.TPlace.{TPlace, map-TPlace, out-TPlace, roll-out-TPlace, fold-roll-TPlace}
use Rattle.al_core.specs.declared.typed_tree.TExpr.TheOpen.{TExpr-F, TPlace-F}
use Rattle.al_core.specs.declared.typed_tree.TKind.TheOpen.{TKind-F}
use Rattle.al_core.specs.World.{Pointer}
use Rattle.al_core.specs.Values.{operate, choose}
use Rattle.al_core.specs.Action.{Private, State, Answer, Act, At, after, bind, asks, pure, lift, get_frame, set_frame, with_locals, or_zero, at_line, is_private, ◌>>=◌, ◌>>◌, get_local, set_local}
use Rattle.al_core.specs.Action as action
use Rattle.al_core.specs.Access.{Content, red_index, load, store, in_iteration}
use Rattle.al_core.specs.Meaning.{Inside, Flow, Next, expr_case, place_case, value, place, kind_does}
use Rattle.al_core.specs.Iteration.{Execution, calls_within}
use Rattle.al_core.specs.Accepted.{calls, calls_at, expr_calls, place_calls}
use Rattle.al_graded_laws.specs.Rules.{Rules, obeys, MayCall}
use Rattle.al_graded_laws.proofs.Graded.{Fine, FineFlow, graded_value, each_right}
use Rattle.al_graded_laws.proofs.Steady.{steady_graded}
use Rattle.al_graded_laws.proofs.Operators.{Joins, update_joins, choice_joins}
use Rattle.al_reductions_laws.proofs.Sums.{apart, Sums, SameSums, sums_worlds}
use Rattle.al_reductions_laws.proofs.Updates.{Strong, Weak, update_related}
use Rattle.al_reductions_laws.proofs.ChunkSums.{own_of, Obeyed, ExemptHere, strong_calls, body_calls}
use Rattle.al_reductions_laws.proofs.BodyRules.{red_of, red_of_place, chooses_if, updates, body_rules, update_is, chosen_is, local_is, ReadsGlobal, global_is, place_red}

-- ---- actions

module _ {S : Type 0} where
  after_assoc : {A B C : Type 0} (r : Answer A) (s : State S) (f : A → Act S B) (g : B → Act S C)
      → after (after r s f).0 (after r s f).1 g ≡ after r s (λ a. bind (f a) g)
  unfolding bind
  after_assoc (Ok a) s f g = refl
  after_assoc (Err e) s f g = refl

  bind_assoc : {A B C : Type 0} (p : Act S A) (f : A → Act S B) (g : B → Act S C) → (p >>= f) >>= g ≡ p >>= (λ a. f a >>= g)
  unfolding bind
  bind_assoc p f g = λ i s. after_assoc (p s).0 (p s).1 f g i

  pure_bind : {A B : Type 0} (a : A) (f : A → Act S B) → pure a >>= f ≡ f a
  unfolding bind pure
  pure_bind a f = refl

-- a local that is not private is the world's
reads_local : (own : Private) (k line : ℕ) → is_private own k ≡ false → (s : State Content) → s.frame.own ≡ own
    → get_local in_iteration k line s
    ≡ (at_line line (load (Local k) kind.Int s.world).0, record s { world = (load (Local k) kind.Int s.world).1 })
unfolding bind get_frame asks
reads_local own k line p s e =
    ap (λ b. (if b then pure (or_zero (slice_get s.frame.locals k)) else asks line (load (Local k) kind.Int)) s) (ap (λ o. is_private o k) e ∙ p)

sets_local : (own : Private) (k line : ℕ) → is_private own k ≡ false → (z : Val) (s : State Content) → s.frame.own ≡ own
    → set_local in_iteration k z line s ≡ (at_line line (store (Local k) z s.world).0, record s { world = (store (Local k) z s.world).1 })
unfolding bind get_frame asks
sets_local own k line p z s e =
    ap (λ b. (if b then set_frame (with_locals s.frame (slice_set s.frame.locals k z)) else asks line (store (Local k) z)) s)
    (ap (λ o. is_private o k) e ∙ p)

reads_word : (q : Pointer) (line : ℕ) (s : State Content) → action.load in_iteration q kind.Int line s
    ≡ (at_line line (load (Word q.0 q.1) kind.Int s.world).0, record s { world = (load (Word q.0 q.1) kind.Int s.world).1 })
unfolding asks
reads_word q line s = refl

sets_word : (q : Pointer) (line : ℕ) (z : Val) (s : State Content) → action.store in_iteration q z line s
    ≡ (at_line line (store (Word q.0 q.1) z s.world).0, record s { world = (store (Word q.0 q.1) z s.world).1 })
unfolding asks
sets_word q line z s = refl

-- the second part of a choice calls what the choice calls
second_calls : (called : ℕ → Type 0) (e : TExpr) (by : RedOp) (a b : TExpr) → out-TExpr e ≡ TExpr-F.Choose by a b → MayCall called e → MayCall called b
unfolding calls calls_at
second_calls called e by a b i k =
    let is : calls e ≡ calls a ++ calls b =
    fold_out-TExpr (List ℕ) (List ℕ) expr_calls place_calls e
    ∙ ap (λ y. expr_calls (map-TExpr TExpr TPlace (List ℕ) (List ℕ) calls calls_at y)) i in
    each_right called (calls a) (calls b) (subst (AllByRecursion called) is k)

module _ (zero_fits : FitsSigned w64 (pos 0)) (x : Execution) (reds : List Red) (olds : ℕ → ℤ) (r : Rules) (h : Obeyed zero_fits x reds olds r) where
  abbrev call_any : ℕ → List Val → At Content Val
  call_any = body_calls zero_fits x reds olds r h

  abbrev val : TExpr → At Content Val
  val = value in_iteration Inside x.input call_any

  abbrev Weakly : Act Content Flow → Type 0
  Weakly p = Weak reds olds zero_fits (own_of x) Flow (FineFlow (apart reds)) p p

  -- an expression that mentions no reduction variable keeps the accumulators
  strongly : (e : TExpr) (line : ℕ) → obeys r e ≡ true → MayCall r.called e
      → Strong reds olds zero_fits (own_of x) Val (Fine (apart reds)) (val e line) (val e line)
  strongly e line o k =
      graded_value in_iteration in_iteration (apart reds) r (Strong reds olds zero_fits (own_of x))
      (steady_graded (apart reds) zero_fits (Sums reds olds) SameSums (λ s. refl) (λ r s t e f. e ∙ f) in_iteration in_iteration (own_of x) r
      (sums_worlds reds olds zero_fits SameSums (λ s. refl) (λ r s t e f. e ∙ f) (λ s t e. e) (own_of x) r h.avoids))
      Inside x.input h.numbers call_any call_any (strong_calls zero_fits x reds olds r h calls_within) e o k line

  -- reads the variable, evaluates, and sets the variable to both joined
  abbrev updating : Act Content Val → (Val → Act Content (Unit {0})) → (Val → Val → Result Val Trap) → TExpr → ℕ → Act Content Flow
  updating reads sets f y line = reads >>= (λ a. val y line >>= (λ b. lift line (f a b) >>= (λ z. sets z >> pure Next)))

  module _ (op : RedOp) (f : Val → Val → Result Val Trap) (joins : Joins op f) (y : TExpr) (line : ℕ) (o : obeys r y ≡ true) (k : MayCall r.called y) where
    by_local : (n i : ℕ) (e : red_index reds (Local n) ≡ Some i) → ((q : Red) → slice_get reds i ≡ Some q → q.op ≡ op)
        → is_private (own_of x) n ≡ false
        → Weakly (updating (get_local in_iteration n line) (λ z. set_local in_iteration n z line) f y line)
    by_local n i e op_is p =
        update_related reds olds zero_fits (own_of x) (Local n) i e op op_is line f joins (get_local in_iteration n line)
        (λ z. set_local in_iteration n z line) (reads_local (own_of x) n line p) (sets_local (own_of x) n line p)
        (val y line) (val y line) (strongly y line o k)

    by_word : (q : Pointer) (i : ℕ) (e : red_index reds (Word q.0 q.1) ≡ Some i) → ((q : Red) → slice_get reds i ≡ Some q → q.op ≡ op)
        → Weakly (updating (action.load in_iteration q kind.Int line) (λ z. action.store in_iteration q z line) f y line)
    by_word q i e op_is =
        update_related reds olds zero_fits (own_of x) (Word q.0 q.1) i e op op_is line f joins (action.load in_iteration q kind.Int line)
        (λ z. action.store in_iteration q z line) (λ s _. reads_word q line s) (λ z s _. sets_word q line z s)
        (val y line) (val y line) (strongly y line o k)

-- ---- all four kinds

module _ (zero_fits : FitsSigned w64 (pos 0)) (x : Execution) (reds : List Red) (olds : ℕ → ℤ) (called : ℕ → Type 0)
    (h : Obeyed zero_fits x reds olds (body_rules reds called))
    (shared : (k : ℕ) (i : ℕ) → red_index reds (Local k) ≡ Some i → is_private (own_of x) k ≡ false) where
  abbrev r : Rules
  r = body_rules reds called

  abbrev call_here : ℕ → List Val → At Content Val
  call_here = body_calls zero_fits x reds olds r h

  abbrev v_of : TExpr → At Content Val
  v_of = value in_iteration Inside x.input call_here

  abbrev p_of : TPlace → At Content Pointer
  p_of = place in_iteration Inside x.input call_here

  abbrev Related : Act Content Flow → Type 0
  Related p = Weak reds olds zero_fits (own_of x) Flow (FineFlow (apart reds)) p p

  related_same : (p q : Act Content Flow) → p ≡ q → Related q → Related p
  related_same p q e w = subst (λ z. Related z) (sym e) w

  value_out : (e : TExpr) (y : TExpr-F TExpr TPlace) → out-TExpr e ≡ y
      → v_of e ≡ expr_case in_iteration Inside x.input call_here (map-TExpr TExpr TPlace (At Content Val) (At Content Pointer) v_of p_of y)
  unfolding value place
  value_out e y i =
      ap v_of (sym (roll-out-TExpr e))
      ∙ fold-roll-TExpr (At Content Val) (At Content Pointer) (expr_case in_iteration Inside x.input call_here)
      (place_case in_iteration Inside x.input call_here) (out-TExpr e)
      ∙ ap (λ z. expr_case in_iteration Inside x.input call_here (map-TExpr TExpr TPlace (At Content Val) (At Content Pointer) v_of p_of z)) i

  place_out : (p : TPlace) (y : TPlace-F TExpr TPlace) → out-TPlace p ≡ y
      → p_of p ≡ place_case in_iteration Inside x.input call_here (map-TPlace TExpr TPlace (At Content Val) (At Content Pointer) v_of p_of y)
  unfolding value place
  place_out p y i =
      ap p_of (sym (roll-out-TPlace p))
      ∙ fold-roll-TPlace (At Content Val) (At Content Pointer) (expr_case in_iteration Inside x.input call_here)
      (place_case in_iteration Inside x.input call_here) (out-TPlace p)
      ∙ ap (λ z. place_case in_iteration Inside x.input call_here (map-TPlace TExpr TPlace (At Content Val) (At Content Pointer) v_of p_of z)) i

  global_place : (p : TPlace) (k line : ℕ) → out-TPlace p ≡ TPlace-F.Global k → p_of p line ≡ pure (Global k, 0)
  global_place p k line i = ap (λ f. f line) (place_out p (TPlace-F.Global k) i)

  local_value : (e : TExpr) (k line : ℕ) → out-TExpr e ≡ TExpr-F.Local k → v_of e line ≡ get_local in_iteration k line
  local_value e k line i = ap (λ f. f line) (value_out e (TExpr-F.Local k) i)

  global_value : (e : TExpr) (k line : ℕ) → ReadsGlobal k (out-TExpr e) → v_of e line ≡ action.load in_iteration (Global k, 0) kind.Int line
  global_value e k line g =
      ap (λ f. f line) (value_out e (TExpr-F.Load kind.Int g.0) g.1)
      ∙ ap (λ a. a >>= (λ q. action.load in_iteration q kind.Int line)) (global_place g.0 k line g.2)
      ∙ pure_bind (Global k, 0) (λ q. action.load in_iteration q kind.Int line)

  choose_value : (e : TExpr) (by : RedOp) (a b : TExpr) (line : ℕ) → out-TExpr e ≡ TExpr-F.Choose by a b
      → v_of e line ≡ v_of a line >>= (λ u. v_of b line >>= (λ v. lift line (choose by u v)))
  choose_value e by a b line i = ap (λ f. f line) (value_out e (TExpr-F.Choose by a b) i)

  -- what a choice does with what comes after it, where it begins by reading the variable
  choice_then : (e : TExpr) (by : RedOp) (a b : TExpr) (line : ℕ) (p : Act Content Val) (g : Val → Act Content Flow)
      → out-TExpr e ≡ TExpr-F.Choose by a b → v_of a line ≡ p
      → v_of e line >>= g ≡ p >>= (λ u. v_of b line >>= (λ v. lift line (choose by u v) >>= g))
  choice_then e by a b line p g i j =
      ap (λ z. z >>= g) (choose_value e by a b line i ∙ ap (λ z. z >>= (λ u. v_of b line >>= (λ v. lift line (choose by u v)))) j)
      ∙ bind_assoc p (λ u. v_of b line >>= (λ v. lift line (choose by u v))) g
      ∙ ap (λ z. p >>= z) (λ t u. bind_assoc (v_of b line) (λ v. lift line (choose by u v)) g t)

  set_exempt : (k : ℕ) (e : TExpr) (line : ℕ) → r.set k e ≡ true → MayCall called e
      → Related (kind_does in_iteration Inside x.input call_here (TKind-F.SetLocal k e) line)
  set_exempt k e line t m =
      let c = chosen_is reds called (Local k) e (red_of reds (Local k)) refl t in
      let o = c.choice in
      related_same _ _
      (choice_then e o.by o.first o.second line (get_local in_iteration k line) (λ z. set_local in_iteration k z line >> pure Next) o.is
      (local_value o.first k line (local_is c.red.op c.red.at k (out-TExpr o.first) c.at.at_is o.variable)))
      (by_local zero_fits x reds olds r h c.red.op (choose o.by) (choice_joins c.red.op o.by o.by_it) o.second line o.rest
      (second_calls called e o.by o.first o.second o.is m) k c.at.place c.at.index c.at.op_is (shared k c.at.place c.at.index))

  update_exempt : (by : BinOp) (k : ℕ) (e : TExpr) (line : ℕ) → r.update by k e ≡ true → MayCall called e
      → Related (kind_does in_iteration Inside x.input call_here (TKind-F.UpdateLocal by k e) line)
  update_exempt by k e line t m =
      let u = update_is reds called (Local k) by e (red_of reds (Local k)) refl t in
      by_local zero_fits x reds olds r h u.red.op (operate by) (update_joins u.red.op by u.by_it) e line u.rest m
      k u.at.place u.at.index u.at.op_is (shared k u.at.place u.at.index)

  store_exempt : (p : TPlace) (e : TExpr) (line : ℕ) (q : Option Red) → red_of_place reds (out-TPlace p) ≡ q → chooses_if reds called q e ≡ true
      → MayCall called e → Related (kind_does in_iteration Inside x.input call_here (TKind-F.Store p e) line)
  store_exempt p e line (Some q) i t m =
      let g = place_red reds (out-TPlace p) q i in
      let k = g.global in
      let c = chosen_is reds called (Word (Global k) 0) e (Some q) g.found t in
      let o = c.choice in
      let rest = λ (q : Pointer). v_of e line >>= (λ v. action.store in_iteration q v line >> pure Next) in
      related_same _ _
      (ap (λ a. a >>= rest) (global_place p k line g.is) ∙ pure_bind (Global k, 0) rest
      ∙ choice_then e o.by o.first o.second line (action.load in_iteration (Global k, 0) kind.Int line)
      (λ z. action.store in_iteration (Global k, 0) z line >> pure Next) o.is
      (global_value o.first k line (global_is c.red.op c.red.at k 0 (out-TExpr o.first) c.at.at_is o.variable)))
      (by_word zero_fits x reds olds r h c.red.op (choose o.by) (choice_joins c.red.op o.by o.by_it) o.second line o.rest
      (second_calls called e o.by o.first o.second o.is m) (Global k, 0) c.at.place c.at.index c.at.op_is)
  store_exempt p e line None i t m = absurd (true≢false (sym t))

  update_at_exempt : (by : BinOp) (p : TPlace) (e : TExpr) (line : ℕ) (q : Option Red) → red_of_place reds (out-TPlace p) ≡ q
      → updates reds called q by e ≡ true → MayCall called e
      → Related (kind_does in_iteration Inside x.input call_here (TKind-F.UpdateAt by p e) line)
  update_at_exempt by p e line (Some q) i t m =
      let g = place_red reds (out-TPlace p) q i in
      let k = g.global in
      let u = update_is reds called (Word (Global k) 0) by e (Some q) g.found t in
      let rest = λ (q : Pointer).
      action.load in_iteration q kind.Int line
      >>= (λ a. v_of e line >>= (λ b. lift line (operate by a b) >>= (λ z. action.store in_iteration q z line >> pure Next))) in
      related_same _ _ (ap (λ a. a >>= rest) (global_place p k line g.is) ∙ pure_bind (Global k, 0) rest)
      (by_word zero_fits x reds olds r h u.red.op (operate by) (update_joins u.red.op by u.by_it) e line u.rest m
      (Global k, 0) u.at.place u.at.index u.at.op_is)
  update_at_exempt by p e line None i t m = absurd (true≢false (sym t))

  pub exempt_here : ExemptHere zero_fits x reds olds r h
  exempt_here = record {
    set = set_exempt;
    store = λ p e line t _ m. store_exempt p e line (red_of_place reds (out-TPlace p)) refl t m;
    update = update_exempt;
    update_at = λ by p e line t _ m. update_at_exempt by p e line (red_of_place reds (out-TPlace p)) refl t m;
  }
