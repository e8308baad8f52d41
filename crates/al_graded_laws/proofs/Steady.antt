-- Programs in two worlds whose operations answer the same, where what is answered and what frames hold is fine: an
-- instance of the second abstraction theorem, with calls.
use Rattle.std.proofs.Common.{◌≡◌, ℕ, zero, suc, ◌-◌, List, [], ◌∷◌, ◌++◌, Option, Some, None, Result, Ok, Err, refl, sym, ap, subst, ◌∙◌, arith}
use Rattle.std.specs.Prelude.{ℤ, pos, Bool, true, false, if◌then◌else◌, slice_get, slice_set, length, replicate}
use Rattle.std.proofs.Math.Bool.{true≢false}
use Rattle.al_core.specs.declared.values.Obj.{Obj}
use Rattle.al_core.specs.declared.values.Obj.TheVariants.{Global}
use Rattle.al_core.specs.declared.values.Val.{Val}
use Rattle.al_core.specs.declared.values.Val.TheVariants.{Int, Ptr}
use Rattle.al_core.specs.declared.values.Addr.TheVariants.{Word, Local}
use Rattle.al_core.specs.declared.values.Kind.{Kind}
use Rattle.al_core.specs.declared.values.Kind.TheVariants as kind
use Rattle.al_core.specs.declared.values.Trap.{Trap}
use Rattle.al_core.specs.declared.values.Trap.TheVariants as trap
use Rattle.al_core.specs.declared.typed_tree.TFunc.{TFunc}
use Rattle.al_core.specs.World.{World}
use Rattle.al_core.specs.Action.{AllPrivate, Private, Frame, State, Answer, Act, after, bind, ◌>>=◌, pure, lift, asks, at_line, spend, spend_from, get_budget, get_frame, set_frame, or_zero, is_private, with_locals, get_local, set_local, visit, enter, leave}
use Rattle.al_core.specs.Accepted.{terms_of}
use Rattle.al_core.specs.Meaning.{Where, Flow, Next, Broke, Continued, Returned, returned, frame_of, body_of, call_to}
use Rattle.al_graded_laws.specs.Rules.{Rules, stmts_obey, MayCallIn}
use Rattle.al_graded_laws.proofs.Graded.{Fineness, Fine, FineAll, FineFlow, FineNumbers, OkIs, Any, Graded, graded_execute_all}

module _ (F : Fineness) where
  pub fine_set : (l : List Val) (k : ℕ) (x : Val) → Fine F x → FineAll F l → FineAll F (slice_set l k x)
  fine_set [] k x f g = tt
  fine_set (a ∷ l) zero x f g = (f, g.1)
  fine_set (a ∷ l) (suc k) x f g = (g.0, fine_set l k x f g.1)

  pub fine_get : (l : List Val) (k : ℕ) → F.num (pos 0) → FineAll F l → Fine F (or_zero (slice_get l k))
  fine_get [] k z g = z
  fine_get (a ∷ l) zero z g = g.0
  fine_get (a ∷ l) (suc k) z g = fine_get l k z g.1

  fine_zeros : (n : ℕ) → F.num (pos 0) → FineAll F (replicate n (Int (pos 0)))
  fine_zeros zero z = tt
  fine_zeros (suc n) z = (z, fine_zeros n z)

  fine_more : (l k : List Val) → FineAll F l → FineAll F k → FineAll F (l ++ k)
  fine_more [] k f g = g
  fine_more (a ∷ l) k f g = (f.0, fine_more l k f.1 g)

  pub fine_replicate : (n : ℕ) → F.num (pos 0) → FineAll F (replicate n (Int (pos 0)))
  fine_replicate = fine_zeros

  pub fine_frame : (f : Option TFunc) (args : List Val) → F.num (pos 0) → FineAll F args → FineAll F (frame_of f args).locals
  fine_frame (Some f) args z g = fine_more args _ g (fine_zeros (length f.locals - length args) z)
  fine_frame None args z g = g

  pub fine_returned : (f : Flow) → F.num (pos 0) → FineFlow F f → Fine F (returned f)
  fine_returned Next z f = z
  fine_returned Broke z f = z
  fine_returned Continued z f = z
  fine_returned (Returned v) z f = f

pub own_frame : (f : Option TFunc) (args : List Val) → (frame_of f args).own ≡ AllPrivate
own_frame (Some f) args = refl
own_frame None args = refl

-- Two worlds whose states are related by R. K says what an action keeps of the first one's state.
module _ {S T : Type 0} (F : Fineness) (zero_fine : F.num (pos 0)) (R : S → T → Type 0) (K : S → S → Type 0) (k_itself : (s : S) → K s s)
    (k_then : (r s t : S) → K r s → K s t → K r t) where
  pub record Before (own : Private) (s : State S) (t : State T) : Type 0 where
    pub frame : s.frame ≡ t.frame
    pub own_is : s.frame.own ≡ own
    pub locals : FineAll F s.frame.locals
    pub budget : s.budget ≡ t.budget
    pub world : R s.world t.world

  -- what is known where there is an answer
  abbrev pub Good : {A : Type 0} → Private → (A → Type 0) → Answer A → State S → State T → Type 0
  Good own P (Ok a) s t = P a × Before own s t
  Good own P (Err e) s t = Unit {0}

  pub record Came {A : Type 0} (own : Private) (P : A → Type 0) (from : S) (a : Answer A × State S) (b : Answer A × State T) : Type 0 where
    pub answer : a.0 ≡ b.0
    pub good : Good own P a.0 a.1 b.1
    pub budget : a.1.budget ≡ b.1.budget
    pub world : R a.1.world b.1.world
    pub keeps : K from a.1.world

  pub record Steady (own : Private) (A : Type 0) (P : A → Type 0) (p : Act S A) (q : Act T A) : Type 0 where
    pub by : (s : State S) (t : State T) → Before own s t → Came own P s.world (p s) (q t)

  -- an operation
  pub record Works {A : Type 0} (P : A → Type 0) (f : S → Result A Trap × S) (g : T → Result A Trap × T) : Type 0 where
    pub by : (s : S) (t : T) → R s t → ((f s).0 ≡ (g t).0) × (OkIs P (f s).0) × (R (f s).1 (g t).1) × (K s (f s).1)

  at_once : {A : Type 0} (own : Private) (P : A → Type 0) (a : A) (s : State S) (t : State T) → P a → Before own s t → Came own P s.world (Ok a, s) (Ok a, t)
  at_once own P a s t h b = record { answer = refl; good = (h, b); budget = b.budget; world = b.world; keeps = k_itself s.world }

  steady_pure : (own : Private) {A : Type 0} {P : A → Type 0} (a : A) → P a → Steady own A P (pure a) (pure a)
  unfolding pure
  steady_pure own {P = P} a h = record { by = λ s t b. at_once own P a s t h b }

  lifted : (own : Private) {A : Type 0} {P : A → Type 0} (line : ℕ) (e : Result A Trap) (s : State S) (t : State T) → OkIs P e → Before own s t
      → Came own P s.world (at_line line e, s) (at_line line e, t)
  lifted own {P = P} line (Ok a) s t h b = at_once own P a s t h b
  lifted own line (Err u) s t h b = record { answer = refl; good = tt; budget = b.budget; world = b.world; keeps = k_itself s.world }

  pub steady_lift : (own : Private) {A : Type 0} {P : A → Type 0} (line : ℕ) (e : Result A Trap) → OkIs P e → Steady own A P (lift line e) (lift line e)
  unfolding lift
  steady_lift own {P = P} line e h = record { by = λ s t b. lifted own {P = P} line e s t h b }

  goes_on : (own : Private) {A B : Type 0} {P : A → Type 0} {Q : B → Type 0} (from : S) (r : Answer A) (f : A → Act S B) (g : A → Act T B)
      → ((a : A) → P a → Steady own B Q (f a) (g a)) → (s : State S) (t : State T) → Good own P r s t → s.budget ≡ t.budget → R s.world t.world
      → K from s.world → Came own Q from (after r s f) (after r t g)
  goes_on own from (Ok a) f g k s t h e w keeps =
      let c = (k a h.0).by s t h.1 in
      record { answer = c.answer; good = c.good; budget = c.budget; world = c.world; keeps = k_then from s.world (f a s).1.world keeps c.keeps }
  goes_on own from (Err e) f g k s t h b w keeps = record { answer = refl; good = tt; budget = b; world = w; keeps = keeps }

  pub steady_bind : (own : Private) {A B : Type 0} {P : A → Type 0} {Q : B → Type 0} {p : Act S A} {q : Act T A} {f : A → Act S B} {g : A → Act T B}
      → Steady own A P p q → ((a : A) → P a → Steady own B Q (f a) (g a)) → Steady own B Q (p >>= f) (q >>= g)
  unfolding bind
  steady_bind own {P = P} {Q = Q} {p = p} {q = q} {f = f} {g = g} h k = record {
    by = λ s t b.
        let c = h.by s t b in
        subst (λ r. Came own Q s.world (after (p s).0 (p s).1 f) (after r (q t).1 g)) c.answer
        (goes_on own {P = P} {Q = Q} s.world (p s).0 f g k (p s).1 (q t).1 c.good c.budget c.world c.keeps);
  }

  spends : (own : Private) (line n : ℕ) (s : State S) (t : State T) → Before own s t → Came own Any s.world (spend_from line n s) (spend_from line n t)
  spends own line zero s t b = record { answer = refl; good = tt; budget = b.budget; world = b.world; keeps = k_itself s.world }
  spends own line (suc n) s t b = record {
    answer = refl;
    good = (tt, record { frame = b.frame; own_is = b.own_is; locals = b.locals; budget = refl; world = b.world });
    budget = refl;
    world = b.world;
    keeps = k_itself s.world;
  }

  pub steady_spend : (own : Private) (line : ℕ) → Steady own (Unit {0}) Any (spend line) (spend line)
  unfolding spend
  steady_spend own line =
      record { by = λ s t b. subst (λ k. Came own Any s.world (spend_from line s.budget s) (spend_from line k t)) b.budget (spends own line s.budget s t b) }

  steady_get_budget : (own : Private) → Steady own ℕ Any get_budget get_budget
  unfolding get_budget
  steady_get_budget own =
      record { by = λ s t b. record { answer = ap (λ n. Ok n) b.budget; good = (tt, b); budget = b.budget; world = b.world; keeps = k_itself s.world } }

  -- a frame that is that of the state
  pub record IsFrame (own : Private) (f : Frame) : Type 0 where
    pub own_is : f.own ≡ own
    pub locals : FineAll F f.locals

  pub steady_get_frame : (own : Private) → Steady own Frame (IsFrame own) get_frame get_frame
  unfolding get_frame
  steady_get_frame own =
      record {
        by = λ s t b. record {
          answer = ap (λ n. Ok n) b.frame;
          good =
              (record { own_is = b.own_is; locals = b.locals }, b);
          budget = b.budget;
          world = b.world;
          keeps = k_itself s.world;
        };
      }

  pub steady_set_frame : (own : Private) (f : Frame) → IsFrame own f → Steady own (Unit {0}) Any (set_frame f) (set_frame f)
  unfolding set_frame
  steady_set_frame own f h =
      record {
        by = λ s t b. record {
          answer = refl;
          good =
              (tt, record { frame = refl; own_is = h.own_is; locals = h.locals; budget = b.budget; world = b.world });
          budget = b.budget;
          world = b.world;
          keeps = k_itself s.world;
        };
      }

  asked : (own : Private) {A : Type 0} {P : A → Type 0} (line : ℕ) (a : Result A Trap) (u : S) (x : T) (s : State S) (t : State T) → OkIs P a → R u x
      → K s.world u → Before own s t → Came own P s.world (at_line line a, record s { world = u }) (at_line line a, record t { world = x })
  asked own line (Ok a) u x s t h r k b =
      record {
        answer = refl;
        good =
            (h, record { frame = b.frame; own_is = b.own_is; locals = b.locals; budget = b.budget; world = r });
        budget = b.budget;
        world = r;
        keeps = k;
      }
  asked own line (Err e) u x s t h r k b = record { answer = refl; good = tt; budget = b.budget; world = r; keeps = k }

  pub steady_asks : (own : Private) {A : Type 0} {P : A → Type 0} (line : ℕ) {f : S → Result A Trap × S} {g : T → Result A Trap × T} → Works P f g
      → Steady own A P (asks line f) (asks line g)
  unfolding asks
  steady_asks own {P = P} line {f = f} {g = g} h = record {
    by = λ s t b.
        let k = h.by s.world t.world b.world in
        subst (λ r. Came own P s.world (at_line line (f s.world).0, record s { world = (f s.world).1 })
        (at_line line r, record t { world = (g t.world).1 })) k.0 (asked own {P = P} line (f s.world).0 (f s.world).1 (g t.world).1 s t k.1 k.2 k.3 b);
  }

  steady_cond : (own : Private) {A : Type 0} {P : A → Type 0} (b : Bool) {p p' : Act S A} {q q' : Act T A} → (b ≡ true → Steady own A P p q)
      → (b ≡ false → Steady own A P p' q') → Steady own A P (if b then p else p') (if b then q else q')
  steady_cond own true h k = h refl
  steady_cond own false h k = k refl

  -- what frames and worlds have to do, for the rules
  pub record Worlds (v : World S) (w : World T) (own : Private) (r : Rules) : Type 0 where
    pub load_local : (k : ℕ) → r.local k ≡ true → is_private own k ≡ false → Works (Fine F) (v.load (Local k) kind.Int) (w.load (Local k) kind.Int)
    pub store_local : (k : ℕ) (x : Val) → r.local k ≡ true → is_private own k ≡ false → Fine F x
        → Works {A = Unit {0}} Any (v.store (Local k) x) (w.store (Local k) x)
    pub global : (k : ℕ) → r.global k ≡ true → F.at (Global k)
    pub taken : (k : ℕ) → r.taken k ≡ true → F.obj (Global k)
    pub load : (o : Obj) (i : ℕ) (k : Kind) → F.at o → Works (Fine F) (v.load (Word o i) k) (w.load (Word o i) k)
    pub store : (o : Obj) (i : ℕ) (x : Val) → F.at o → Fine F x → Works {A = Unit {0}} Any (v.store (Word o i) x) (w.store (Word o i) x)
    pub make : (words : ℕ) → Works F.obj (v.make words) (w.make words)
    pub free : (o : Obj) (i : ℕ) → F.obj o → Works {A = Unit {0}} Any (v.free o i) (w.free o i)
    pub print : (bytes : List ℕ) → Works {A = Unit {0}} Any (λ s. (Ok tt, v.print bytes s)) (λ t. (Ok tt, w.print bytes t))
    pub visit : (loop : ℕ) (lo hi : ℤ) → F.num lo → F.num hi → Steady own (Unit {0}) Any (visit v loop lo hi) (visit w loop lo hi)

  module _ (v : World S) (w : World T) (own : Private) (r : Rules) (h : Worlds v w own r) where
    pub steady_get_local : (k line : ℕ) → r.local k ≡ true → Steady own Val (Fine F) (get_local v k line) (get_local w k line)
    steady_get_local k line o =
        steady_bind own (steady_get_frame own) (λ f is.
        steady_cond own (is_private f.own k) (λ t. steady_pure own {P = Fine F} (or_zero (slice_get f.locals k)) (fine_get F f.locals k zero_fine is.locals))
        (λ t. steady_asks own {P = Fine F} line (h.load_local k o (ap (λ z. is_private z k) (sym is.own_is) ∙ t))))

    pub steady_set_local : (k : ℕ) (x : Val) (line : ℕ) → r.local k ≡ true → Fine F x → Steady own (Unit {0}) Any (set_local v k x line) (set_local w k x line)
    steady_set_local k x line o f =
        steady_bind own (steady_get_frame own) (λ g is.
        steady_cond own (is_private g.own k) (λ t. steady_set_frame own (with_locals g (slice_set g.locals k x))
        (record { own_is = is.own_is; locals = fine_set F g.locals k x f is.locals }))
        (λ t. steady_asks own {P = Any} line (h.store_local k x o (ap (λ z. is_private z k) (sym is.own_is) ∙ t) f)))

    pub steady_graded : Graded v w F r (Steady own)
    steady_graded = record {
      of_pure = λ {A} {P} a f. steady_pure own {A = A} {P = P} a f;
      of_lift = λ {A} {P} line e f. steady_lift own {A = A} {P = P} line e f;
      of_bind = steady_bind own;
      of_spend = steady_spend own;
      of_get_budget = steady_get_budget own;
      of_get_local = steady_get_local;
      of_set_local = steady_set_local;
      of_global = h.global;
      of_taken = h.taken;
      of_load = λ q k line f _. steady_asks own {P = Fine F} line (h.load q.0 q.1 k f);
      of_store = λ q x line f _ g. steady_asks own {P = Any} line (h.store q.0 q.1 x f g);
      of_make = λ words line. steady_bind own {P = F.obj} {Q = Fine F} (steady_asks own {P = F.obj} line (h.make words))
          (λ o f. steady_pure own {P = Fine F} (Ptr o 0) (f, omega arith));
      of_free = λ o i line f _. steady_asks own {P = Any} line (h.free o i f);
      of_print = λ line bytes. steady_asks own {P = Any} line (h.print bytes);
      of_visit = h.visit;
    }

  -- ---- calls

  left_frame : (own : Private) (from : S) (r : Answer Flow) (s : State S) (t : State T) (old : Frame) (old' : Frame) → old ≡ old' → IsFrame own old
      → Good AllPrivate (FineFlow F) r s t → s.budget ≡ t.budget → R s.world t.world → K from s.world
      → Came own (Fine F) from (after r s (λ flow. leave old (returned flow))) (after r t (λ flow. leave old' (returned flow)))
  unfolding bind set_frame pure
  left_frame own from (Ok flow) s t old old' e is g b w k = record {
    answer = refl;
    good = (fine_returned F flow zero_fine g.0, record { frame = e; own_is = is.own_is; locals = is.locals; budget = b; world = w });
    budget = b;
    world = w;
    keeps = k;
  }
  left_frame own from (Err u) s t old old' e is g b w k = record { answer = refl; good = tt; budget = b; world = w; keeps = k }

  framed : (own : Private) (frame : Frame) (p : Act S Flow) (q : Act T Flow) → IsFrame AllPrivate frame → Steady AllPrivate Flow (FineFlow F) p q
      → Steady own Val (Fine F) (enter frame >>= (λ old. p >>= (λ flow. leave old (returned flow))))
      (enter frame >>= (λ old. q >>= (λ flow. leave old (returned flow))))
  unfolding bind get_frame set_frame pure
  framed own frame p q is h = record {
    by = λ s t b.
        let s' = record s { frame = frame } in
        let t' = record t { frame = frame } in
        let c = h.by s' t' (record { frame = refl; own_is = is.own_is; locals = is.locals; budget = b.budget; world = b.world }) in
        subst (λ r. Came own (Fine F) s.world (after (p s').0 (p s').1 (λ flow. leave s.frame (returned flow)))
        (after r (q t').1 (λ flow. leave t.frame (returned flow)))) c.answer
        (left_frame own s.world (p s').0 (p s').1 (q t').1 s.frame t.frame b.frame
        (record { own_is = b.own_is; locals = b.locals }) c.good c.budget c.world c.keeps);
  }

  -- the rules of functions: all locals, and no exemption
  abbrev pub in_functions : (ℕ → Bool) → (ℕ → Bool) → (ℤ → Bool) → (ℕ → Type 0) → Rules
  in_functions global taken literal called =
      record {
        local = λ k. true;
        global = global;
        taken = taken;
        literal = literal;
        called = called;
        set = λ k e. false;
        store = λ p e. false;
        update = λ op k e. false;
        update_at = λ op p e. false;
      }

  module _ (v : World S) (w : World T) (global taken : ℕ → Bool) (literal : ℤ → Bool) (called : ℕ → Type 0)
      (h : Worlds v w AllPrivate (in_functions global taken literal called)) (here : Where) (funcs : List TFunc) (input : List ℤ)
      (n : FineNumbers F (in_functions global taken literal called) input)
      (bodies : (f : ℕ) → called f → stmts_obey (in_functions global taken literal called) (body_of (slice_get funcs f)) ≡ true)
      (inside : (f : ℕ) → called f → MayCallIn called (terms_of (body_of (slice_get funcs f)))) where
    pub steady_call : (own : Private) (m f : ℕ) (args : List Val) (line : ℕ) → called f → FineAll F args
        → Steady own Val (Fine F) (call_to v here funcs input m f args line) (call_to w here funcs input m f args line)
    steady_call own zero f args line o g = steady_lift own {P = Fine F} line (Err trap.Depth) tt
    steady_call own (suc m) f args line o g =
        steady_bind own (steady_spend own line) (λ u _.
        framed own (frame_of (slice_get funcs f) args) _ _
        (record { own_is = own_frame (slice_get funcs f) args; locals = fine_frame F (slice_get funcs f) args zero_fine g })
        (graded_execute_all v w F (in_functions global taken literal called) (Steady AllPrivate)
        (steady_graded v w AllPrivate (in_functions global taken literal called) h) here input n (call_to v here funcs input m)
        (call_to w here funcs input m) (λ f vs line o g. steady_call AllPrivate m f vs line o g)
        (record {
          set = λ k e line t _. absurd (true≢false (sym t));
          store = λ p e line t _ _. absurd (true≢false (sym t));
          update = λ op k e line t _. absurd
              (true≢false (sym t));
          update_at = λ op p e line t _ _. absurd (true≢false (sym t));
        })
        (body_of (slice_get funcs f)) (bodies f o) (inside f o)))
