-- Programs outside iterations, in two worlds: an instance of the second abstraction theorem. What is known of the
-- first run alone holds whatever comes; that the second is like it holds where the first ends in a world that is
-- good.
use Rattle.std.proofs.Common.{◌≡◌, ℕ, zero, suc, List, Result, Ok, Err, refl, sym, ap, subst, ◌∙◌, arith}
use Rattle.std.specs.Prelude.{ℤ, pos, Bool, true, false, if◌then◌else◌, slice_get, slice_set}
use Rattle.std.proofs.Math.Bool.{true≢false}
use Rattle.al_core.specs.declared.values.Obj.{Obj}
use Rattle.al_core.specs.declared.values.Obj.TheVariants.{Global}
use Rattle.al_core.specs.declared.values.Val.{Val}
use Rattle.al_core.specs.declared.values.Val.TheVariants.{Ptr}
use Rattle.al_core.specs.declared.values.Addr.TheVariants.{Word}
use Rattle.al_core.specs.declared.values.Kind.{Kind}
use Rattle.al_core.specs.declared.values.Trap.{Trap}
use Rattle.al_core.specs.declared.values.Trap.TheVariants as trap
use Rattle.al_core.specs.declared.typed_tree.TFunc.{TFunc}
use Rattle.al_core.specs.World.{World}
use Rattle.al_core.specs.Action.{AllPrivate, Frame, State, Answer, Act, after, bind, ◌>>=◌, pure, lift, asks, hands_on, at_line, spend, spend_from, get_budget, get_frame, set_frame, or_zero, is_private, with_locals, get_local, set_local, visit, enter, leave}
use Rattle.al_core.specs.Accepted.{terms_of}
use Rattle.al_core.specs.Meaning.{Where, Flow, returned, frame_of, body_of, call_to}
use Rattle.al_graded_laws.specs.Rules.{Rules, AnyFunction, stmts_obey}
use Rattle.al_graded_laws.proofs.Graded.{may_call_all, Fineness, Fine, FineAll, FineFlow, FineNumbers, OkIs, Any, Graded, graded_execute_all}
use Rattle.al_graded_laws.proofs.Steady.{fine_set, fine_get, fine_frame, fine_returned, own_frame}

-- the rules outside: all locals, and no exemption
abbrev pub outer_rules : (ℕ → Bool) → (ℤ → Bool) → Rules
outer_rules taken literal =
    record {
      local = λ k. true;
      global = λ k. true;
      taken = taken;
      literal = literal;
      called = AnyFunction;
      set = λ k e. false;
      store = λ p e. false;
      update = λ op k e. false;
      update_at = λ op p e. false;
    }

module _ {S T : Type 0} (F : Fineness) (zero_fine : F.num (pos 0)) (U : S → Type 0) (R : S → T → Type 0) (Good : S → Type 0) where
  pub record Sane (s : State S) : Type 0 where
    pub own_is : s.frame.own ≡ AllPrivate
    pub locals : FineAll F s.frame.locals
    pub world : U s.world

  abbrev pub Leaves : {A : Type 0} → (A → Type 0) → Answer A → State S → Type 0
  Leaves P (Ok a) s = P a × Sane s
  Leaves P (Err e) s = U s.world

  pub record Alike (s : State S) (t : State T) : Type 0 where
    pub frame : s.frame ≡ t.frame
    pub budget : s.budget ≡ t.budget
    pub world : R s.world t.world

  pub record Same {A : Type 0} (a : Answer A × State S) (b : Answer A × State T) : Type 0 where
    pub answer : a.0 ≡ b.0
    pub state : Alike a.1 b.1

  pub record Follows (A : Type 0) (P : A → Type 0) (p : Act S A) (q : Act T A) : Type 0 where
    pub sane : (s : State S) → Sane s → Leaves P (p s).0 (p s).1
    pub back : (s : State S) → Sane s → Good (p s).1.world → Good s.world
    pub by : (s : State S) (t : State T) → Sane s → Alike s t → Good (p s).1.world → Same (p s) (q t)

  -- an operation
  pub record Works {A : Type 0} (P : A → Type 0) (f : S → Result A Trap × S) (g : T → Result A Trap × T) : Type 0 where
    pub sane : (s : S) → U s → OkIs P (f s).0 × U (f s).1
    pub back : (s : S) → U s → Good (f s).1 → Good s
    pub by : (s : S) (t : T) → U s → R s t → Good (f s).1 → ((f s).0 ≡ (g t).0) × R (f s).1 (g t).1

  follows_pure : {A : Type 0} {P : A → Type 0} (a : A) → P a → Follows A P (pure a) (pure a)
  unfolding pure
  follows_pure a h = record { sane = λ s n. (h, n); back = λ s n g. g; by = λ s t n b g. record { answer = refl; state = b } }

  lifted : {A : Type 0} (P : A → Type 0) (line : ℕ) (e : Result A Trap) (s : State S) → OkIs P e → Sane s → Leaves P (at_line line e) s
  lifted P line (Ok a) s h n = (h, n)
  lifted P line (Err u) s h n = n.world

  follows_lift : {A : Type 0} {P : A → Type 0} (line : ℕ) (e : Result A Trap) → OkIs P e → Follows A P (lift line e) (lift line e)
  unfolding lift
  follows_lift {P = P} line e h = record { sane = λ s n. lifted P line e s h n; back = λ s n g. g; by = λ s t n b g. record { answer = refl; state = b } }

  goes_sane : {A B : Type 0} {P : A → Type 0} {Q : B → Type 0} (r : Answer A) (f : A → Act S B) (g : A → Act T B) → ((a : A) → P a → Follows B Q (f a) (g a))
      → (s : State S) → Leaves P r s → Leaves Q (after r s f).0 (after r s f).1
  goes_sane (Ok a) f g k s h = (k a h.0).sane s h.1
  goes_sane (Err e) f g k s h = h

  goes_back : {A B : Type 0} {P : A → Type 0} {Q : B → Type 0} (r : Answer A) (f : A → Act S B) (g : A → Act T B) → ((a : A) → P a → Follows B Q (f a) (g a))
      → (s : State S) → Leaves P r s → Good (after r s f).1.world → Good s.world
  goes_back (Ok a) f g k s h e = (k a h.0).back s h.1 e
  goes_back (Err u) f g k s h e = e

  goes_on : {A B : Type 0} {P : A → Type 0} {Q : B → Type 0} (r : Answer A) (f : A → Act S B) (g : A → Act T B) → ((a : A) → P a → Follows B Q (f a) (g a))
      → (s : State S) (t : State T) → Leaves P r s → Alike s t → Good (after r s f).1.world → Same (after r s f) (after r t g)
  goes_on (Ok a) f g k s t h b e = (k a h.0).by s t h.1 b e
  goes_on (Err u) f g k s t h b e = record { answer = refl; state = b }

  pub follows_bind : {A B : Type 0} {P : A → Type 0} {Q : B → Type 0} {p : Act S A} {q : Act T A} {f : A → Act S B} {g : A → Act T B} → Follows A P p q
      → ((a : A) → P a → Follows B Q (f a) (g a)) → Follows B Q (p >>= f) (q >>= g)
  unfolding bind
  follows_bind {P = P} {Q = Q} {p = p} {q = q} {f = f} {g = g} h k = record {
    sane = λ s n. goes_sane {P = P} {Q = Q} (p s).0 f g k (p s).1 (h.sane s n);
    back = λ s n e. h.back s n (goes_back {P = P} {Q = Q} (p s).0 f g k (p s).1 (h.sane s n) e);
    by = λ s t n b e.
        let c = h.by s t n b (goes_back {P = P} {Q = Q} (p s).0 f g k (p s).1 (h.sane s n) e) in
        subst (λ r. Same (after (p s).0 (p s).1 f) (after r (q t).1 g)) c.answer (goes_on {P = P} {Q = Q} (p s).0 f g k (p s).1 (q t).1 (h.sane s n) c.state e);
  }

  spend_sane : (line n : ℕ) (s : State S) → Sane s → Leaves {A = Unit {0}} Any (spend_from line n s).0 (spend_from line n s).1
  spend_sane line zero s n = n.world
  spend_sane line (suc m) s n = (tt, record { own_is = n.own_is; locals = n.locals; world = n.world })

  spend_back : (line n : ℕ) (s : State S) → Good (spend_from line n s).1.world → Good s.world
  spend_back line zero s g = g
  spend_back line (suc m) s g = g

  spend_same : (line n : ℕ) (s : State S) (t : State T) → Alike s t → Same (spend_from line n s) (spend_from line n t)
  spend_same line zero s t b = record { answer = refl; state = b }
  spend_same line (suc m) s t b = record { answer = refl; state = record { frame = b.frame; budget = refl; world = b.world } }

  follows_spend : (line : ℕ) → Follows (Unit {0}) Any (spend line) (spend line)
  unfolding spend
  follows_spend line = record {
    sane = λ s n. spend_sane line s.budget s n;
    back = λ s n g. spend_back line s.budget s g;
    by = λ s t n b g. subst (λ k. Same (spend_from line s.budget s) (spend_from line k t)) b.budget (spend_same line s.budget s t b);
  }

  follows_get_budget : Follows ℕ Any get_budget get_budget
  unfolding get_budget
  follows_get_budget = record { sane = λ s n. (tt, n); back = λ s n g. g; by = λ s t n b g. record { answer = ap (λ n. Ok n) b.budget; state = b } }

  pub record IsFrame (f : Frame) : Type 0 where
    pub own_is : f.own ≡ AllPrivate
    pub locals : FineAll F f.locals

  pub follows_get_frame : Follows Frame IsFrame get_frame get_frame
  unfolding get_frame
  follows_get_frame =
      record {
        sane = λ s n. (record { own_is = n.own_is; locals = n.locals }, n);
        back = λ s n g. g;
        by = λ s t n b g. record {
          answer = ap
              (λ n. Ok n) b.frame;
          state = b;
        };
      }

  pub follows_set_frame : (f : Frame) → IsFrame f → Follows (Unit {0}) Any (set_frame f) (set_frame f)
  unfolding set_frame
  follows_set_frame f h =
      record {
        sane = λ s n.
            (tt, record { own_is = h.own_is; locals = h.locals; world = n.world });
        back = λ s n g. g;
        by = λ s t n b g. record { answer = refl; state = record { frame = refl; budget = b.budget; world = b.world } };
      }

  asked : {A : Type 0} (P : A → Type 0) (line : ℕ) (a : Result A Trap) (u : S) (s : State S) → OkIs P a → U u → Sane s
      → Leaves P (at_line line a) (record s { world = u })
  asked P line (Ok a) u s h k n = (h, record { own_is = n.own_is; locals = n.locals; world = k })
  asked P line (Err e) u s h k n = k

  follows_asks : {A : Type 0} {P : A → Type 0} (line : ℕ) {f : S → Result A Trap × S} {g : T → Result A Trap × T} → Works P f g
      → Follows A P (asks line f) (asks line g)
  unfolding asks
  follows_asks {P = P} line {f = f} {g = g} h = record {
    sane = λ s n. let k = h.sane s.world n.world in asked P line (f s.world).0 (f s.world).1 s k.0 k.1 n;
    back = λ s n e. h.back s.world n.world e;
    by = λ s t n b e. let k = h.by s.world t.world n.world b.world e in record {
      answer = ap
          (at_line line) k.0;
      state = record { frame = b.frame; budget = b.budget; world = k.1 };
    };
  }

  -- what is answered by a visit of an annotated loop
  abbrev pub Handed : Answer (List Val) → Type 0
  Handed (Ok l) = FineAll F l
  Handed (Err e) = Unit {0}

  pub record Visits (f : S → Answer (List Val) × S) (g : T → Answer (List Val) × T) : Type 0 where
    pub sane : (s : S) → U s → Handed (f s).0 × U (f s).1
    pub back : (s : S) → U s → Good (f s).1 → Good s
    pub by : (s : S) (t : T) → U s → R s t → Good (f s).1 → ((f s).0 ≡ (g t).0) × R (f s).1 (g t).1

  handed : (a : Answer (List Val)) (u : S) (s : State S) → Handed a → U u → Sane s → Leaves (λ l. FineAll F l) a (record s { world = u })
  handed (Ok l) u s h k n = (h, record { own_is = n.own_is; locals = n.locals; world = k })
  handed (Err e) u s h k n = k

  follows_hands_on : {f : S → Answer (List Val) × S} {g : T → Answer (List Val) × T} → Visits f g
      → Follows (List Val) (λ l. FineAll F l) (hands_on f) (hands_on g)
  unfolding hands_on
  follows_hands_on {f = f} {g = g} h = record {
    sane = λ s n. let k = h.sane s.world n.world in handed (f s.world).0 (f s.world).1 s k.0 k.1 n;
    back = λ s n e. h.back s.world n.world e;
    by = λ s t n b e. let k = h.by s.world t.world n.world b.world e in record {
      answer = k.0;
      state = record { frame = b.frame; budget = b.budget; world = k.1 };
    };
  }

  follows_cond : {A : Type 0} {P : A → Type 0} (b : Bool) {p p' : Act S A} {q q' : Act T A} → b ≡ true → Follows A P p q → (b ≡ false → Follows A P p' q')
      → Follows A P (if b then p else p') (if b then q else q')
  follows_cond true e h k = h
  follows_cond false e h k = k refl

  pub record Worlds (v : World S) (w : World T) (r : Rules) : Type 0 where
    pub global : (k : ℕ) → r.global k ≡ true → F.at (Global k)
    pub taken : (k : ℕ) → r.taken k ≡ true → F.obj (Global k)
    pub load : (o : Obj) (i : ℕ) (k : Kind) → F.at o → Works (Fine F) (v.load (Word o i) k) (w.load (Word o i) k)
    pub store : (o : Obj) (i : ℕ) (x : Val) → F.at o → Fine F x → Works {A = Unit {0}} Any (v.store (Word o i) x) (w.store (Word o i) x)
    pub make : (words : ℕ) → Works F.obj (v.make words) (w.make words)
    pub free : (o : Obj) (i : ℕ) → F.obj o → Works {A = Unit {0}} Any (v.free o i) (w.free o i)
    pub print : (bytes : List ℕ) → Works {A = Unit {0}} Any (λ s. (Ok tt, v.print bytes s)) (λ t. (Ok tt, w.print bytes t))
    pub visit : (loop : ℕ) (lo hi : ℤ) (locals : List Val) → F.num lo → F.num hi → FineAll F locals
        → Visits (v.visit loop lo hi locals) (w.visit loop lo hi locals)

  module _ (v : World S) (w : World T) (r : Rules) (h : Worlds v w r) where
    private_here : (f : Frame) (k : ℕ) → f.own ≡ AllPrivate → is_private f.own k ≡ true
    private_here f k e = ap (λ o. is_private o k) e

    follows_get_local : (k line : ℕ) → Follows Val (Fine F) (get_local v k line) (get_local w k line)
    follows_get_local k line =
        follows_bind follows_get_frame (λ f is. follows_cond (is_private f.own k) (private_here f k is.own_is)
        (follows_pure {P = Fine F} (or_zero (slice_get f.locals k)) (fine_get F f.locals k zero_fine is.locals))
        (λ t. absurd (true≢false (sym (private_here f k is.own_is) ∙ t))))

    follows_set_local : (k : ℕ) (x : Val) (line : ℕ) → Fine F x → Follows (Unit {0}) Any (set_local v k x line) (set_local w k x line)
    follows_set_local k x line f =
        follows_bind follows_get_frame (λ g is. follows_cond (is_private g.own k) (private_here g k is.own_is)
        (follows_set_frame (with_locals g (slice_set g.locals k x)) (record { own_is = is.own_is; locals = fine_set F g.locals k x f is.locals }))
        (λ t. absurd (true≢false (sym (private_here g k is.own_is) ∙ t))))

    follows_visit : (loop : ℕ) (lo hi : ℤ) → F.num lo → F.num hi → Follows (Unit {0}) Any (visit v loop lo hi) (visit w loop lo hi)
    follows_visit loop lo hi f g =
        follows_bind follows_get_frame (λ fr is. follows_bind {P = λ l. FineAll F l} (follows_hands_on (h.visit loop lo hi fr.locals f g is.locals))
        (λ l fine. follows_set_frame (with_locals fr l) (record { own_is = is.own_is; locals = fine })))

    pub follows_graded : Graded v w F r Follows
    follows_graded = record {
      of_pure = λ {A} {P} a f. follows_pure {A = A} {P = P} a f;
      of_lift = λ {A} {P} line e f. follows_lift {A = A} {P = P} line e f;
      of_bind = follows_bind;
      of_spend = follows_spend;
      of_get_budget = follows_get_budget;
      of_get_local = λ k line o. follows_get_local k line;
      of_set_local = λ k x line o f. follows_set_local k x line f;
      of_global = h.global;
      of_taken = h.taken;
      of_load = λ q k line f _. follows_asks {P = Fine F} line (h.load q.0 q.1 k f);
      of_store = λ q x line f _ g. follows_asks {P = Any} line (h.store q.0 q.1 x f g);
      of_make = λ words line. follows_bind {P = F.obj} {Q = Fine F} (follows_asks {P = F.obj} line (h.make words))
          (λ o f. follows_pure {P = Fine F} (Ptr o 0) (f, omega arith));
      of_free = λ o i line f _. follows_asks {P = Any} line (h.free o i f);
      of_print = λ line bytes. follows_asks {P = Any} line (h.print bytes);
      of_visit = follows_visit;
    }

  -- ---- calls

  left_sane : (r : Answer Flow) (s : State S) (old : Frame) → IsFrame old → Leaves (FineFlow F) r s
      → Leaves (Fine F) (after r s (λ flow. leave old (returned flow))).0 (after r s (λ flow. leave old (returned flow))).1
  unfolding bind set_frame pure
  left_sane (Ok flow) s old is h = (fine_returned F flow zero_fine h.0, record { own_is = is.own_is; locals = is.locals; world = h.1.world })
  left_sane (Err e) s old is h = h

  left_back : (r : Answer Flow) (s : State S) (old : Frame) → Good (after r s (λ flow. leave old (returned flow))).1.world → Good s.world
  unfolding bind set_frame pure
  left_back (Ok flow) s old g = g
  left_back (Err e) s old g = g

  left_same : (r : Answer Flow) (s : State S) (t : State T) (old old' : Frame) → old ≡ old' → Alike s t
      → Same (after r s (λ flow. leave old (returned flow))) (after r t (λ flow. leave old' (returned flow)))
  unfolding bind set_frame pure
  left_same (Ok flow) s t old old' e b = record { answer = refl; state = record { frame = e; budget = b.budget; world = b.world } }
  left_same (Err u) s t old old' e b = record { answer = refl; state = b }

  framed : (frame : Frame) (p : Act S Flow) (q : Act T Flow) → IsFrame frame → Follows Flow (FineFlow F) p q
      → Follows Val (Fine F) (enter frame >>= (λ old. p >>= (λ flow. leave old (returned flow))))
      (enter frame >>= (λ old. q >>= (λ flow. leave old (returned flow))))
  unfolding bind get_frame set_frame pure
  framed frame p q is h = record {
    sane = λ s n.
        let s' = record s { frame = frame } in
        left_sane (p s').0 (p s').1 s.frame (record { own_is = n.own_is; locals = n.locals })
        (h.sane s' (record { own_is = is.own_is; locals = is.locals; world = n.world }));
    back = λ s n e.
        let s' = record s { frame = frame } in
        h.back s' (record { own_is = is.own_is; locals = is.locals; world = n.world }) (left_back (p s').0 (p s').1 s.frame e);
    by = λ s t n b e.
        let s' = record s { frame = frame } in
        let t' = record t { frame = frame } in
        let c = h.by s' t' (record { own_is = is.own_is; locals = is.locals; world = n.world }) (record { frame = refl; budget = b.budget; world = b.world })
        (left_back (p s').0 (p s').1 s.frame e) in
        subst (λ r. Same (after (p s').0 (p s').1 (λ flow. leave s.frame (returned flow)))
        (after r (q t').1 (λ flow. leave t.frame (returned flow)))) c.answer (left_same (p s').0 (p s').1 (q t').1 s.frame t.frame b.frame c.state);
  }

  module _ (v : World S) (w : World T) (taken : ℕ → Bool) (literal : ℤ → Bool) (h : Worlds v w (outer_rules taken literal)) (here : Where)
      (funcs : List TFunc) (input : List ℤ) (n : FineNumbers F (outer_rules taken literal) input)
      (bodies : (f : ℕ) → stmts_obey (outer_rules taken literal) (body_of (slice_get funcs f)) ≡ true) where
    pub follows_call : (m f : ℕ) (args : List Val) (line : ℕ) → FineAll F args
        → Follows Val (Fine F) (call_to v here funcs input m f args line) (call_to w here funcs input m f args line)
    follows_call zero f args line g = follows_lift {P = Fine F} line (Err trap.Depth) tt
    follows_call (suc m) f args line g =
        follows_bind (follows_spend line) (λ u _.
        framed (frame_of (slice_get funcs f) args) _ _
        (record { own_is = own_frame (slice_get funcs f) args; locals = fine_frame F (slice_get funcs f) args zero_fine g })
        (graded_execute_all v w F (outer_rules taken literal) Follows (follows_graded v w (outer_rules taken literal) h) here input n
        (call_to v here funcs input m) (call_to w here funcs input m) (λ f vs line o g. follows_call m f vs line g)
        (record {
          set = λ k e line t _. absurd (true≢false (sym t));
          store = λ p e line t _ _. absurd (true≢false (sym t));
          update = λ op k e line t _. absurd
              (true≢false (sym t));
          update_at = λ op p e line t _ _. absurd (true≢false (sym t));
        })
        (body_of (slice_get funcs f)) (bodies f) (may_call_all (terms_of (body_of (slice_get funcs f))))))
