-- Programs in two worlds, over kinds, with calls: an instance of the third abstraction theorem. What is known of the
-- first run alone holds whatever comes; that the second is like it holds where the first ends in a world that is good.
use Rattle.std.proofs.Common.{◌≡◌, ℕ, zero, suc, ◌-◌, List, [], ◌∷◌, ◌++◌, Option, Some, None, Result, Ok, Err, refl, sym, ap, subst, ◌∙◌, arith, ◌≤◌, length, take, map, length-append}
use Rattle.std.specs.Prelude.{ℤ, pos, Bool, true, false, if◌then◌else◌, slice_get, slice_set, replicate}
use Rattle.std.specs.List.{AllByRecursion}
use Rattle.std.proofs.lemmas.List.{length-set, length-replicate}
use Rattle.al_core.specs.declared.values.Obj.{Obj}
use Rattle.al_core.specs.declared.values.Obj.TheVariants.{Global}
use Rattle.al_core.specs.declared.values.Val.{Val}
use Rattle.al_core.specs.declared.values.Val.TheVariants.{Int, Ptr}
use Rattle.al_core.specs.declared.values.Addr.TheVariants.{Word, Local}
use Rattle.al_core.specs.declared.values.Kind.{Kind}
use Rattle.al_core.specs.declared.values.Kind.TheVariants as kind
use Rattle.al_core.specs.declared.values.Trap.{Trap}
use Rattle.al_core.specs.declared.values.Trap.TheVariants as trap
use Rattle.al_core.specs.declared.typed_tree.TLocal.{TLocal}
use Rattle.al_core.specs.declared.typed_tree.TFunc.{TFunc}
use Rattle.al_core.specs.declared.typed_tree.Typed.{Typed}
use Rattle.al_core.specs.World.{World}
use Rattle.al_core.specs.Action.{AllPrivate, Private, Frame, State, Answer, Act, after, bind, ◌>>=◌, pure, lift, asks, hands_on, at_line, spend, spend_from, get_budget, get_frame, set_frame, or_zero, is_private, with_locals, get_local, set_local, visit, enter, leave}
use Rattle.al_core.specs.Accepted.{terms_of}
use Rattle.al_core.specs.Loops.{for_loops_in}
use Rattle.al_core.specs.Meaning.{Where, Flow, Next, Broke, Continued, Returned, returned, frame_of, body_of, execute_all, call_to}
use Rattle.al_laws.proofs.Words.{same_some, some_none}
use Rattle.al_rules.specs.WellFormed.{is_one, is_some_kind, is_int_local, param_kinds, gives, IsFormedFunc}
use Rattle.al_graded_laws.specs.Rules.{stmts_obey}
use Rattle.al_graded_laws.proofs.Graded.{Fineness, Fine, FineNumbers, OkIs, Any}
use Rattle.al_graded_laws.proofs.Watched.{outer_rules}
use Rattle.al_kinds_laws.specs.Whole.{whole_in}
use Rattle.al_kinds_laws.proofs.Kinded.{IsNumber, Says, says_number, HaveKinds, Ends, Kinded}
use Rattle.al_kinds_laws.proofs.KindedExpressions.{Globals}
use Rattle.al_kinds_laws.proofs.KindedStatements.{kinded_execute_all}
use Rattle.al_kinds_laws.proofs.WholeTerms.{whole_terms}

-- ---- lists of values

-- of the value at each place
abbrev pub Each : (ℕ → Val → Type 0) → List Val → Type 0
Each P vs = (k : ℕ) (v : Val) → slice_get vs k ≡ Some v → P k v

pub each_set : (P : ℕ → Val → Type 0) (vs : List Val) (k : ℕ) (x : Val) → P k x → Each P vs → Each P (slice_set vs k x)
each_set P [] k x h e j v i = e j v i
each_set P (a ∷ vs) zero x h e zero v i = subst (P 0) (same_some x v i) h
each_set P (a ∷ vs) zero x h e (suc j) v i = e (suc j) v i
each_set P (a ∷ vs) (suc k) x h e zero v i = e 0 v i
each_set P (a ∷ vs) (suc k) x h e (suc j) v i = each_set (λ m. P (suc m)) vs k x h (λ m w t. e (suc m) w t) j v i

module _ (F : Fineness) (zero_fine : F.num (pos 0)) where
  -- each integer local holds a number, and what any local holds is fine
  abbrev pub FrameKinds : List TLocal → List Val → Type 0
  FrameKinds locals vs = (length locals ≤ length vs) × Each (λ k v. Says F (is_int_local locals k) v) vs

  zero_says : (b : Bool) → Says F b (Int (pos 0))
  zero_says b = says_number F b (pos 0) zero_fine

  pub local_says : (locals : List TLocal) (vs : List Val) (k : ℕ) → FrameKinds locals vs → Says F (is_int_local locals k) (or_zero (slice_get vs k))
  local_says locals vs k e = by_value (slice_get vs k) refl
    where
      by_value : (x : Option Val) → slice_get vs k ≡ x → Says F (is_int_local locals k) (or_zero x)
      by_value (Some v) i = e.1 k v i
      by_value None i = zero_says (is_int_local locals k)

  zeros : (P : ℕ → Val → Type 0) (n : ℕ) → ((k : ℕ) → P k (Int (pos 0))) → Each P (replicate n (Int (pos 0)))
  zeros P zero h k v i = absurd (some_none v (sym i))
  zeros P (suc n) h zero v i = subst (P 0) (same_some (Int (pos 0)) v i) (h 0)
  zeros P (suc n) h (suc k) v i = zeros (λ m. P (suc m)) n (λ m. h (suc m)) k v i

  zero_each : (locals : List TLocal) (n : ℕ) → Each (λ k v. Says F (is_int_local locals k) v) (replicate n (Int (pos 0)))
  zero_each locals n = zeros (λ k v. Says F (is_int_local locals k) v) n (λ k. zero_says (is_int_local locals k))

  pub zero_kinds : (locals : List TLocal) (n : ℕ) → length locals ≤ n → FrameKinds locals (replicate n (Int (pos 0)))
  zero_kinds locals n l = (omega (arith, l, length-replicate n (Int (pos 0))), zero_each locals n)

  -- arguments, and 0 in all other locals
  args_kinds : (locals : List TLocal) (p : ℕ) (vs : List Val) (n : ℕ) → HaveKinds F (map (λ l. l.kind) (take p locals)) vs
      → Each (λ k v. Says F (is_int_local locals k) v) (vs ++ replicate n (Int (pos 0)))
  args_kinds [] zero [] n h k x i = zero_each [] n k x i
  args_kinds [] (suc p) [] n h k x i = zero_each [] n k x i
  args_kinds [] zero (v ∷ vs) n h k x i = absurd h
  args_kinds [] (suc p) (v ∷ vs) n h k x i = absurd h
  args_kinds (l ∷ ls) zero [] n h k x i = zero_each (l ∷ ls) n k x i
  args_kinds (l ∷ ls) zero (v ∷ vs) n h k x i = absurd h
  args_kinds (l ∷ ls) (suc p) [] n h k x i = absurd h
  args_kinds (l ∷ ls) (suc p) (v ∷ vs) n h zero x i = subst (Says F (is_one l.kind kind.Int)) (same_some v x i) h.0
  args_kinds (l ∷ ls) (suc p) (v ∷ vs) n h (suc k) x i = args_kinds ls p vs n h.1 k x i

  frame_kinds : (func : TFunc) (args : List Val) → HaveKinds F (param_kinds func) args → FrameKinds func.locals (frame_of (Some func) args).locals
  frame_kinds func args h =
      let more = length func.locals - length args in (
        omega (arith, length-append args (replicate more (Int (pos 0))), length-replicate more (Int (pos 0))),
        args_kinds func.locals func.params args more h,
      )

  says_returned : (k : Option Kind) (flow : Flow) → Ends F k flow → Says F (is_some_kind k kind.Int) (returned flow)
  says_returned k Next h = zero_says (is_some_kind k kind.Int)
  says_returned k Broke h = zero_says (is_some_kind k kind.Int)
  says_returned k Continued h = zero_says (is_some_kind k kind.Int)
  says_returned k (Returned v) h = h

module _ {S T : Type 0} (F : Fineness) (zero_fine : F.num (pos 0)) (U : S → Type 0) (R : S → T → Type 0) (Good : S → Type 0) where
  abbrev Kinds : List TLocal → List Val → Type 0
  Kinds = FrameKinds F zero_fine

  -- what is known of the first run, in a function with these locals
  pub record Sane (own : Private) (locals : List TLocal) (s : State S) : Type 0 where
    pub own_is : s.frame.own ≡ own
    pub kinds : Kinds locals s.frame.locals
    pub world : U s.world

  abbrev pub Leaves : {A : Type 0} → Private → List TLocal → (A → Type 0) → Answer A → State S → Type 0
  Leaves own locals P (Ok a) s = P a × Sane own locals s
  Leaves own locals P (Err e) s = U s.world

  pub record Alike (s : State S) (t : State T) : Type 0 where
    pub frame : s.frame ≡ t.frame
    pub budget : s.budget ≡ t.budget
    pub world : R s.world t.world

  pub record Same {A : Type 0} (a : Answer A × State S) (b : Answer A × State T) : Type 0 where
    pub answer : a.0 ≡ b.0
    pub state : Alike a.1 b.1

  pub record Follows (own : Private) (locals : List TLocal) (A : Type 0) (P : A → Type 0) (p : Act S A) (q : Act T A) : Type 0 where
    pub sane : (s : State S) → Sane own locals s → Leaves own locals P (p s).0 (p s).1
    pub back : (s : State S) → Sane own locals s → Good (p s).1.world → Good s.world
    pub by : (s : State S) (t : State T) → Sane own locals s → Alike s t → Good (p s).1.world → Same (p s) (q t)

  -- an operation
  pub record Works {A : Type 0} (P : A → Type 0) (f : S → Result A Trap × S) (g : T → Result A Trap × T) : Type 0 where
    pub sane : (s : S) → U s → OkIs P (f s).0 × U (f s).1
    pub back : (s : S) → U s → Good (f s).1 → Good s
    pub by : (s : S) (t : T) → U s → R s t → Good (f s).1 → ((f s).0 ≡ (g t).0) × R (f s).1 (g t).1

  -- what is answered by a visit of an annotated loop
  abbrev pub Handed : List TLocal → Answer (List Val) → Type 0
  Handed locals (Ok vs) = Kinds locals vs
  Handed locals (Err e) = Unit {0}

  pub record Visits (locals : List TLocal) (f : S → Answer (List Val) × S) (g : T → Answer (List Val) × T) : Type 0 where
    pub sane : (s : S) → U s → Handed locals (f s).0 × U (f s).1
    pub back : (s : S) → U s → Good (f s).1 → Good s
    pub by : (s : S) (t : T) → U s → R s t → Good (f s).1 → ((f s).0 ≡ (g t).0) × R (f s).1 (g t).1

  module _ (own : Private) (locals : List TLocal) where
    abbrev Goes : (A : Type 0) → (A → Type 0) → Act S A → Act T A → Type 0
    Goes = Follows own locals

    follows_pure : {A : Type 0} {P : A → Type 0} (a : A) → P a → Goes A P (pure a) (pure a)
    unfolding pure
    follows_pure a h = record { sane = λ s n. (h, n); back = λ s n g. g; by = λ s t n b g. record { answer = refl; state = b } }

    lifted : {A : Type 0} (P : A → Type 0) (line : ℕ) (e : Result A Trap) (s : State S) → OkIs P e → Sane own locals s
        → Leaves own locals P (at_line line e) s
    lifted P line (Ok a) s h n = (h, n)
    lifted P line (Err u) s h n = n.world

    pub follows_lift : {A : Type 0} {P : A → Type 0} (line : ℕ) (e : Result A Trap) → OkIs P e → Goes A P (lift line e) (lift line e)
    unfolding lift
    follows_lift {P = P} line e h =
        record { sane = λ s n. lifted P line e s h n; back = λ s n g. g; by = λ s t n b g. record { answer = refl; state = b } }

    goes_sane : {A B : Type 0} {P : A → Type 0} {Q : B → Type 0} (r : Answer A) (f : A → Act S B) (g : A → Act T B) → ((a : A) → P a → Goes B Q (f a) (g a))
        → (s : State S) → Leaves own locals P r s → Leaves own locals Q (after r s f).0 (after r s f).1
    goes_sane (Ok a) f g k s h = (k a h.0).sane s h.1
    goes_sane (Err e) f g k s h = h

    goes_back : {A B : Type 0} {P : A → Type 0} {Q : B → Type 0} (r : Answer A) (f : A → Act S B) (g : A → Act T B) → ((a : A) → P a → Goes B Q (f a) (g a))
        → (s : State S) → Leaves own locals P r s → Good (after r s f).1.world → Good s.world
    goes_back (Ok a) f g k s h e = (k a h.0).back s h.1 e
    goes_back (Err u) f g k s h e = e

    goes_on : {A B : Type 0} {P : A → Type 0} {Q : B → Type 0} (r : Answer A) (f : A → Act S B) (g : A → Act T B) → ((a : A) → P a → Goes B Q (f a) (g a))
        → (s : State S) (t : State T) → Leaves own locals P r s → Alike s t → Good (after r s f).1.world → Same (after r s f) (after r t g)
    goes_on (Ok a) f g k s t h b e = (k a h.0).by s t h.1 b e
    goes_on (Err u) f g k s t h b e = record { answer = refl; state = b }

    pub follows_bind : {A B : Type 0} {P : A → Type 0} {Q : B → Type 0} {p : Act S A} {q : Act T A} {f : A → Act S B} {g : A → Act T B} → Goes A P p q
        → ((a : A) → P a → Goes B Q (f a) (g a)) → Goes B Q (p >>= f) (q >>= g)
    unfolding bind
    follows_bind {P = P} {Q = Q} {p = p} {q = q} {f = f} {g = g} h k = record {
      sane = λ s n. goes_sane {P = P} {Q = Q} (p s).0 f g k (p s).1 (h.sane s n);
      back = λ s n e. h.back s n (goes_back {P = P} {Q = Q} (p s).0 f g k (p s).1 (h.sane s n) e);
      by = λ s t n b e.
          let c = h.by s t n b (goes_back {P = P} {Q = Q} (p s).0 f g k (p s).1 (h.sane s n) e) in
          subst (λ r. Same (after (p s).0 (p s).1 f) (after r (q t).1 g)) c.answer
          (goes_on {P = P} {Q = Q} (p s).0 f g k (p s).1 (q t).1 (h.sane s n) c.state e);
    }

    weaker : {A : Type 0} (P Q : A → Type 0) → ((a : A) → P a → Q a) → (r : Answer A) (s : State S) → Leaves own locals P r s → Leaves own locals Q r s
    weaker P Q k (Ok a) s h = (k a h.0, h.1)
    weaker P Q k (Err e) s h = h

    follows_weaker : {A : Type 0} {P Q : A → Type 0} {p : Act S A} {q : Act T A} → Goes A P p q → ((a : A) → P a → Q a) → Goes A Q p q
    follows_weaker {P = P} {Q = Q} {p = p} h k = record { sane = λ s n. weaker P Q k (p s).0 (p s).1 (h.sane s n); back = h.back; by = h.by }

    spend_sane : (line n : ℕ) (s : State S) → Sane own locals s → Leaves {A = Unit {0}} own locals Any (spend_from line n s).0 (spend_from line n s).1
    spend_sane line zero s n = n.world
    spend_sane line (suc m) s n = (tt, record { own_is = n.own_is; kinds = n.kinds; world = n.world })

    spend_back : (line n : ℕ) (s : State S) → Good (spend_from line n s).1.world → Good s.world
    spend_back line zero s g = g
    spend_back line (suc m) s g = g

    spend_same : (line n : ℕ) (s : State S) (t : State T) → Alike s t → Same (spend_from line n s) (spend_from line n t)
    spend_same line zero s t b = record { answer = refl; state = b }
    spend_same line (suc m) s t b = record { answer = refl; state = record { frame = b.frame; budget = refl; world = b.world } }

    pub follows_spend : (line : ℕ) → Goes (Unit {0}) Any (spend line) (spend line)
    unfolding spend
    follows_spend line = record {
      sane = λ s n. spend_sane line s.budget s n;
      back = λ s n g. spend_back line s.budget s g;
      by = λ s t n b g. subst (λ k. Same (spend_from line s.budget s) (spend_from line k t)) b.budget (spend_same line s.budget s t b);
    }

    follows_get_budget : Goes ℕ Any get_budget get_budget
    unfolding get_budget
    follows_get_budget =
        record { sane = λ s n. (tt, n); back = λ s n g. g; by = λ s t n b g. record { answer = ap (λ n. Ok n) b.budget; state = b } }

    pub record IsFrame (f : Frame) : Type 0 where
      pub own_is : f.own ≡ own
      pub kinds : Kinds locals f.locals

    follows_get_frame : Goes Frame IsFrame get_frame get_frame
    unfolding get_frame
    follows_get_frame = record {
      sane = λ s n. (record { own_is = n.own_is; kinds = n.kinds }, n);
      back = λ s n g. g;
      by = λ s t n b g. record { answer = ap (λ n. Ok n) b.frame; state = b };
    }

    follows_set_frame : (f : Frame) → IsFrame f → Goes (Unit {0}) Any (set_frame f) (set_frame f)
    unfolding set_frame
    follows_set_frame f h = record {
      sane = λ s n. (tt, record { own_is = h.own_is; kinds = h.kinds; world = n.world });
      back = λ s n g. g;
      by = λ s t n b g. record { answer = refl; state = record { frame = refl; budget = b.budget; world = b.world } };
    }

    asked : {A : Type 0} (P : A → Type 0) (line : ℕ) (a : Result A Trap) (u : S) (s : State S) → OkIs P a → U u → Sane own locals s
        → Leaves own locals P (at_line line a) (record s { world = u })
    asked P line (Ok a) u s h k n = (h, record { own_is = n.own_is; kinds = n.kinds; world = k })
    asked P line (Err e) u s h k n = k

    follows_asks : {A : Type 0} {P : A → Type 0} (line : ℕ) {f : S → Result A Trap × S} {g : T → Result A Trap × T} → Works P f g
        → Goes A P (asks line f) (asks line g)
    unfolding asks
    follows_asks {P = P} line {f = f} {g = g} h = record {
      sane = λ s n. let k = h.sane s.world n.world in asked P line (f s.world).0 (f s.world).1 s k.0 k.1 n;
      back = λ s n e. h.back s.world n.world e;
      by = λ s t n b e. let k = h.by s.world t.world n.world b.world e in record {
        answer = ap (at_line line) k.0;
        state = record { frame = b.frame; budget = b.budget; world = k.1 };
      };
    }

    handed : (a : Answer (List Val)) (u : S) (s : State S) → Handed locals a → U u → Sane own locals s
        → Leaves own locals (λ l. Kinds locals l) a (record s { world = u })
    handed (Ok l) u s h k n = (h, record { own_is = n.own_is; kinds = n.kinds; world = k })
    handed (Err e) u s h k n = k

    follows_hands_on : {f : S → Answer (List Val) × S} {g : T → Answer (List Val) × T} → Visits locals f g
        → Goes (List Val) (λ l. Kinds locals l) (hands_on f) (hands_on g)
    unfolding hands_on
    follows_hands_on {f = f} {g = g} h = record {
      sane = λ s n. let k = h.sane s.world n.world in handed (f s.world).0 (f s.world).1 s k.0 k.1 n;
      back = λ s n e. h.back s.world n.world e;
      by = λ s t n b e. let k = h.by s.world t.world n.world b.world e in record {
        answer = k.0;
        state = record { frame = b.frame; budget = b.budget; world = k.1 };
      };
    }

    follows_cond : {A : Type 0} {P : A → Type 0} (b : Bool) {p p' : Act S A} {q q' : Act T A} → (b ≡ true → Goes A P p q) → (b ≡ false → Goes A P p' q')
        → Goes A P (if b then p else p') (if b then q else q')
    follows_cond true h k = h refl
    follows_cond false h k = k refl

  -- what the worlds have to meet, for a function with these locals, in which these loops stand
  pub record Worlds (v : World S) (w : World T) (shut : ℕ → Bool) (own : Private) (locals : List TLocal) (Stands : ℕ → Type 0) : Type 0 where
    pub load_local : (k : ℕ) → is_private own k ≡ false → Works (Says F (is_int_local locals k)) (v.load (Local k) kind.Int) (w.load (Local k) kind.Int)
    pub store_local : (k : ℕ) (x : Val) → is_private own k ≡ false → Says F (is_int_local locals k) x
        → Works {A = Unit {0}} Any (v.store (Local k) x) (w.store (Local k) x)
    pub load : (o : Obj) (i : ℕ) (k : Kind) → Works (Says F (is_one k kind.Int)) (v.load (Word o i) k) (w.load (Word o i) k)
    pub store : (o : Obj) (i : ℕ) (x : Val) → Fine F x → ((k : ℕ) → o ≡ Global k → shut k ≡ true → IsNumber x)
        → Works {A = Unit {0}} Any (v.store (Word o i) x) (w.store (Word o i) x)
    pub make : (words : ℕ) → Works F.obj (v.make words) (w.make words)
    pub free : (o : Obj) (i : ℕ) → F.obj o → Works {A = Unit {0}} Any (v.free o i) (w.free o i)
    pub print : (bytes : List ℕ) → Works {A = Unit {0}} Any (λ s. (Ok tt, v.print bytes s)) (λ t. (Ok tt, w.print bytes t))
    pub visit : (loop : ℕ) (lo hi : ℤ) (vs : List Val) → Stands loop → F.num lo → F.num hi → Kinds locals vs
        → Visits locals (v.visit loop lo hi vs) (w.visit loop lo hi vs)

  module _ (v : World S) (w : World T) (shut : ℕ → Bool) (own : Private) (locals : List TLocal) (Stands : ℕ → Type 0)
      (h : Worlds v w shut own locals Stands) where
    abbrev Runs : (A : Type 0) → (A → Type 0) → Act S A → Act T A → Type 0
    Runs = Follows own locals

    private_as : (f : Frame) (k : ℕ) (b : Bool) → f.own ≡ own → is_private f.own k ≡ b → is_private own k ≡ b
    private_as f k b e t = ap (λ o. is_private o k) (sym e) ∙ t

    follows_get_local : (k line : ℕ) → Runs Val (Says F (is_int_local locals k)) (get_local v k line) (get_local w k line)
    follows_get_local k line =
        follows_bind own locals (follows_get_frame own locals) (λ f is. follows_cond own locals (is_private f.own k)
        (λ t. follows_pure own locals {P = Says F (is_int_local locals k)} (or_zero (slice_get f.locals k))
        (local_says F zero_fine locals f.locals k is.kinds))
        (λ t. follows_asks own locals {P = Says F (is_int_local locals k)} line (h.load_local k (private_as f k false is.own_is t))))

    follows_set_local : (k : ℕ) (x : Val) (line : ℕ) → Says F (is_int_local locals k) x → Runs (Unit {0}) Any (set_local v k x line) (set_local w k x line)
    follows_set_local k x line s =
        follows_bind own locals (follows_get_frame own locals) (λ f is. follows_cond own locals (is_private f.own k)
        (λ t. follows_set_frame own locals (with_locals f (slice_set f.locals k x)) (record {
          own_is = is.own_is;
          kinds = (omega (arith, is.kinds.0, length-set f.locals k x), each_set (λ k v. Says F (is_int_local locals k) v) f.locals k x s is.kinds.1);
        }))
        (λ t. follows_asks own locals {P = Any} line (h.store_local k x (private_as f k false is.own_is t) s)))

    follows_visit : (loop : ℕ) (lo hi : ℤ) → Stands loop → F.num lo → F.num hi → Runs (Unit {0}) Any (visit v loop lo hi) (visit w loop lo hi)
    follows_visit loop lo hi s f g =
        follows_bind own locals (follows_get_frame own locals) (λ fr is.
        follows_bind own locals {P = λ l. Kinds locals l} (follows_hands_on own locals (h.visit loop lo hi fr.locals s f g is.kinds))
        (λ l kinds. follows_set_frame own locals (with_locals fr l) (record { own_is = is.own_is; kinds = kinds })))

    pub follows_kinded : Kinded v w F shut locals Stands (Follows own locals)
    follows_kinded = record {
      of_pure = λ {A} {P} a f. follows_pure own locals {A = A} {P = P} a f;
      of_lift = λ {A} {P} line e f. follows_lift own locals {A = A} {P = P} line e f;
      of_bind = follows_bind own locals;
      of_weaker = λ {A} {P} {Q} k l. follows_weaker own locals {A = A} {P = P} {Q = Q} k l;
      of_spend = follows_spend own locals;
      of_get_budget = follows_get_budget own locals;
      of_get_local = follows_get_local;
      of_set_local = follows_set_local;
      of_load = λ q k line _. follows_asks own locals {P = Says F (is_one k kind.Int)} line (h.load q.0 q.1 k);
      of_store = λ q x line _ f s. follows_asks own locals {P = Any} line (h.store q.0 q.1 x f s);
      of_make = λ words line. follows_bind own locals {P = F.obj} {Q = Fine F} (follows_asks own locals {P = F.obj} line (h.make words))
          (λ o f. follows_pure own locals {P = Fine F} (Ptr o 0) (f, omega arith));
      of_free = λ o i line f _. follows_asks own locals {P = Any} line (h.free o i f);
      of_print = λ line bytes. follows_asks own locals {P = Any} line (h.print bytes);
      of_visit = follows_visit;
    }

  -- ---- calls

  left_sane : (own : Private) (locals inner : List TLocal) (k : Option Kind) (r : Answer Flow) (s : State S) (old : Frame) → IsFrame own locals old
      → Leaves AllPrivate inner (Ends F k) r s
      → Leaves own locals (Says F (is_some_kind k kind.Int)) (after r s (λ flow. leave old (returned flow))).0
      (after r s (λ flow. leave old (returned flow))).1
  unfolding bind set_frame pure
  left_sane own locals inner k (Ok flow) s old is h =
      (says_returned F zero_fine k flow h.0, record { own_is = is.own_is; kinds = is.kinds; world = h.1.world })
  left_sane own locals inner k (Err e) s old is h = h

  left_back : (r : Answer Flow) (s : State S) (old : Frame) → Good (after r s (λ flow. leave old (returned flow))).1.world → Good s.world
  unfolding bind set_frame pure
  left_back (Ok flow) s old g = g
  left_back (Err e) s old g = g

  left_same : (r : Answer Flow) (s : State S) (t : State T) (old old' : Frame) → old ≡ old' → Alike s t
      → Same (after r s (λ flow. leave old (returned flow))) (after r t (λ flow. leave old' (returned flow)))
  unfolding bind set_frame pure
  left_same (Ok flow) s t old old' e b = record { answer = refl; state = record { frame = e; budget = b.budget; world = b.world } }
  left_same (Err u) s t old old' e b = record { answer = refl; state = b }

  framed : (own : Private) (locals inner : List TLocal) (k : Option Kind) (frame : Frame) (p : Act S Flow) (q : Act T Flow) → IsFrame AllPrivate inner frame
      → Follows AllPrivate inner Flow (Ends F k) p q
      → Follows own locals Val (Says F (is_some_kind k kind.Int)) (enter frame >>= (λ old. p >>= (λ flow. leave old (returned flow))))
      (enter frame >>= (λ old. q >>= (λ flow. leave old (returned flow))))
  unfolding bind get_frame set_frame pure
  framed own locals inner k frame p q is h = record {
    sane = λ s n.
        let s' = record s { frame = frame } in
        left_sane own locals inner k (p s').0 (p s').1 s.frame (record { own_is = n.own_is; kinds = n.kinds })
        (h.sane s' (record { own_is = is.own_is; kinds = is.kinds; world = n.world }));
    back = λ s n e.
        let s' = record s { frame = frame } in
        h.back s' (record { own_is = is.own_is; kinds = is.kinds; world = n.world }) (left_back (p s').0 (p s').1 s.frame e);
    by = λ s t n b e.
        let s' = record s { frame = frame } in
        let t' = record t { frame = frame } in
        let c = h.by s' t' (record { own_is = is.own_is; kinds = is.kinds; world = n.world }) (record { frame = refl; budget = b.budget; world = b.world })
        (left_back (p s').0 (p s').1 s.frame e) in
        subst (λ r. Same (after (p s').0 (p s').1 (λ flow. leave s.frame (returned flow)))
        (after r (q t').1 (λ flow. leave t.frame (returned flow)))) c.answer (left_same (p s').0 (p s').1 (q t').1 s.frame t.frame b.frame c.state);
  }

  -- what is asked of a program: its functions are well formed, and their numbers and places are as they have to be
  pub record Program (typed : Typed) (results : List (Option Kind)) (taken : ℕ → Bool) (literal : ℤ → Bool) (Stands : ℕ → ℕ → Type 0) : Type 0 where
    pub formed : (f : ℕ) (func : TFunc) → slice_get typed.funcs f ≡ Some func → IsFormedFunc typed results f func
    pub obeys : (f : ℕ) (func : TFunc) → slice_get typed.funcs f ≡ Some func → stmts_obey (outer_rules taken literal) func.body ≡ true
    pub whole : (f : ℕ) (func : TFunc) → slice_get typed.funcs f ≡ Some func → whole_in typed (terms_of func.body) ≡ true
    pub loops : (f : ℕ) (func : TFunc) → slice_get typed.funcs f ≡ Some func
        → AllByRecursion (λ l. Stands f l.number) (for_loops_in func.body)

  module _ (v : World S) (w : World T) (shut taken : ℕ → Bool) (literal : ℤ → Bool) (typed : Typed) (results : List (Option Kind)) (Stands : ℕ → ℕ → Type 0)
      (program : Program typed results taken literal Stands) (here : Where) (input : List ℤ) (n : FineNumbers F (outer_rules taken literal) input)
      (g : Globals F typed taken shut)
      (worlds : (f : ℕ) (func : TFunc) → slice_get typed.funcs f ≡ Some func → Worlds v w shut AllPrivate func.locals (Stands f)) where
    abbrev Gives : ℕ → Val → Type 0
    Gives f = Says F (gives (slice_get results f) kind.Int)

    -- what a function does in a frame of its own
    abbrev in_frame : {X : Type 0} → World X → ℕ → Option TFunc → List Val → Act X Val
    in_frame u m func args =
        enter (frame_of func args)
        >>= (λ old. execute_all u here input (call_to u here typed.funcs input m) (body_of func) >>= (λ flow. leave old (returned flow)))

    pub follows_call : (own : Private) (locals : List TLocal) (m f : ℕ) (func : TFunc) (args : List Val) (line : ℕ) → slice_get typed.funcs f ≡ Some func
        → HaveKinds F (param_kinds func) args
        → Follows own locals Val (Gives f) (call_to v here typed.funcs input m f args line) (call_to w here typed.funcs input m f args line)
    follows_call own locals zero f func args line is k = follows_lift own locals {P = Gives f} line (Err trap.Depth) tt
    follows_call own locals (suc m) f func args line is k =
        let formed = program.formed f func is in
        let calls = λ (q : ℕ) (callee : TFunc) (vs : List Val) (line : ℕ). follows_call AllPrivate func.locals m q callee vs line in
        let body = kinded_execute_all v w F taken literal shut typed results func.locals (Stands f) (Follows AllPrivate func.locals)
        (follows_kinded v w shut AllPrivate func.locals (Stands f) (worlds f func is)) here input n g (call_to v here typed.funcs input m)
        (call_to w here typed.funcs input m) calls formed.result func.body false formed.body (program.obeys f func is)
        (whole_terms typed (terms_of func.body) (program.whole f func is)) (program.loops f func is) in
        follows_bind own locals (follows_spend own locals line) (λ u _.
        subst (λ z. Follows own locals Val (Says F (gives z kind.Int)) (in_frame v m (slice_get typed.funcs f) args)
        (in_frame w m (slice_get typed.funcs f) args))
        (sym formed.gives)
        (subst (λ z. Follows own locals Val (Says F (is_some_kind formed.result kind.Int)) (in_frame v m z args) (in_frame w m z args)) (sym is)
        (framed own locals func.locals formed.result (frame_of (Some func) args) _ _
        (record { own_is = refl; kinds = frame_kinds F zero_fine func args k }) body)))
