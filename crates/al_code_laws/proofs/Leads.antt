-- The machine follows the meaning.
use Rattle.std.proofs.Common.{◌≡◌, ℕ, suc, ◌+◌, ◌<◌, List, [], ◌∷◌, ◌++◌, length, Option, Some, None, Ok, Err, refl, sym, ap, ◌∙◌, subst, arith}
use Rattle.std.specs.Prelude.{slice_get, Bool, true, false, if◌then◌else◌, ℤ}
use Rattle.al_core.specs.declared.values.Val.{Val}
use Rattle.al_core.specs.declared.values.Trap.{Trap}
use Rattle.al_core.specs.World.{World}
use Rattle.al_core.specs.Values.{truth}
use Rattle.al_core.specs.Action.{State, Answer, Act, after, bind, ◌>>=◌, pure, lift}
use Rattle.al_core.specs.Meaning.{Where}
use Rattle.al_code.specs.declared.instructions.Instr.{Instr}
use Rattle.al_code.specs.declared.instructions.Instr.TheVariants as i
use Rattle.al_code.specs.declared.lowered.Code.{Code}
use Rattle.al_code.specs.Machine.{InnerLoop, Caller, Spot, Move, Goes, return_to, does}
use Rattle.al_code.specs.Runs.{or_no_line, moved, exec}
use Rattle.al_code_laws.specs.declared.plan.Op.TheVariants.{As, JumpTo, JumpIfTo}
use Rattle.al_code_laws.specs.Planned.{planned, Plan, past, place_of, Shows, Has}

-- where an action comes to: a spot, or out of the function with a value, or nowhere
pub data Target : Type 0 where
  To : Spot → Target
  Back : List Caller → ℕ → Val → Target
  Nowhere : Target

abbrev pub Real : Target → Type 0
Real (To c) = Unit {0}
Real (Back callers room v) = Unit {0}
Real Nowhere = ⊥

pub past_append : (a b : Plan) (n : ℕ) → past (a ++ b) n ≡ past a (past b n)
past_append [] b n = refl
past_append (p ∷ a) b n = ap suc (past_append a b n)

module _ (code : Code) where
  pub has_front : (after : ℕ) (a b : Plan) → Has code after (a ++ b) → Has code (past b after) a
  has_front after [] b h = tt
  has_front after (p ∷ a) b h = (subst (λ n. Shows code n p) (past_append a b after) h.0, has_front after a b h.1)

  pub has_back : (after : ℕ) (a b : Plan) → Has code after (a ++ b) → Has code after b
  has_back after [] b h = h
  has_back after (p ∷ a) b h = has_back after a b h.1

module _ {S : Type 0} (world : World S) (here : Where) (input : List ℤ) (code : Code) where
  abbrev run : ℕ → Spot → Act S (Option Val)
  run = exec world here input code

  -- what so many instructions do from a target on
  abbrev pub arrive : ℕ → Target → Act S (Option Val)
  arrive k (To c) = run k c
  arrive k (Back callers room v) = return_to room v callers >>= moved world here input code (run k)
  arrive k Nowhere = pure None

  -- From this state at this target the machine does p, and comes to where p's answer leads:
  -- whatever k instructions do from there, some number of instructions does from here.
  pub record Leads {A : Type 0} (s : State S) (x : Target) (p : Act S A) (to : A → Target) : Type 0 where
    pub by : (k : ℕ) → (j : ℕ) × (arrive j x s ≡ (p >>= (λ a. arrive k (to a))) s)
    pub real : Real x → (a : A) → (p s).0 ≡ Ok a → Real (to a)

abbrev pub spot : List Caller → ℕ → List InnerLoop → ℕ → List Val → Spot
spot callers room inner pc st = record { place = pc; stack = st; inner = inner; callers = callers; room = room }

-- an instruction with its line stands at a spot
abbrev pub StandsAt : Code → Spot → Instr → ℕ → Type 0
StandsAt code c x line = (slice_get code.instrs c.place ≡ Some x) × (slice_get code.lines c.place ≡ Some line)

-- the spot that so many instructions follow
abbrev pub at : Code → List Caller → ℕ → List InnerLoop → ℕ → List Val → Target
at code callers room inner r st = To (spot callers room inner (place_of code r) st)

pub next_place : (code : Code) (r : ℕ) → r < length code.instrs → place_of code (suc r) + 1 ≡ place_of code r
next_place code r h = omega arith

module _ {S : Type 0} where
  pub ends : {A : Type 0} (r : Answer A) (t : State S) → after r t pure ≡ (r, t)
  unfolding pure
  ends (Ok a) t = refl
  ends (Err e) t = refl

module _ {S : Type 0} (world : World S) (here : Where) (input : List ℤ) (code : Code) where
  goes_at : {A : Type 0} (r : Answer A) (t : State S) (to : A → Spot) (f : Spot → Act S (Option Val))
      → after (after r t (λ a. pure (Goes (to a)))).0 (after r t (λ a. pure (Goes (to a)))).1 (moved world here input code f) ≡ after r t (λ a. f (to a))
  unfolding pure
  goes_at (Ok a) t to f = refl
  goes_at (Err e) t to f = refl

  pub opened : (c : Spot) (x : Instr) (line k : ℕ) (s : State S) (q : Act S Move) → StandsAt code c x line → does world here input code (Some x) line c ≡ q
      → exec world here input code (suc k) c s ≡ (q >>= moved world here input code (exec world here input code k)) s
  opened c x line k s q h e =
      ap (λ o. (does world here input code o (or_no_line (slice_get code.lines c.place)) c >>= moved world here input code
      (exec world here input code k)) s) h.0
      ∙ ap (λ o. (does world here input code (Some x) (or_no_line o) c >>= moved world here input code (exec world here input code k)) s) h.1
      ∙ ap (λ (q : Act S Move). (q >>= moved world here input code (exec world here input code k)) s) e

module _ {S : Type 0} {world : World S} {here : Where} {input : List ℤ} {code : Code} where
  pub leads_pure : {A : Type 0} (s : State S) (x : Target) (a : A) {to : A → Target} → x ≡ to a → Leads world here input code s x (pure a) to
  unfolding pure bind
  leads_pure s x a {to = to} e = record {
    by = λ k. (k, ap (λ d. arrive world here input code k d s) e);
    real = λ r b is. let same : a ≡ b = cc in subst (λ b. Real (to b)) same (subst Real e r);
  }

  bind_at : {A B : Type 0} (r : Answer A) (t : State S) (m : A → Target) (f : A → Act S B) (to : B → Target)
      → ((a : A) → r ≡ Ok a → Leads world here input code t (m a) (f a) to) → (k : ℕ) → (j : ℕ)
      × (after r t (λ a. arrive world here input code j (m a)) ≡ after (after r t f).0 (after r t f).1 (λ b. arrive world here input code k (to b)))
  unfolding bind
  bind_at (Ok a) t m f to h k = (h a refl).by k
  bind_at (Err e) t m f to h k = (0, refl)

  real_at : {A B : Type 0} (r : Answer A) (t : State S) (m : A → Target) (f : A → Act S B) (to : B → Target)
      → ((a : A) → r ≡ Ok a → Leads world here input code t (m a) (f a) to) → ((a : A) → r ≡ Ok a → Real (m a)) → (b : B) → (after r t f).0 ≡ Ok b
      → Real (to b)
  real_at (Ok a) t m f to h g b is = (h a refl).real (g a refl) b is
  real_at (Err e) t m f to h g b is = absurd (cc)

  pub leads_bind : {A B : Type 0} {s : State S} {x : Target} {p : Act S A} {m : A → Target} {f : A → Act S B} {to : B → Target}
      → Leads world here input code s x p m → ((a : A) → (p s).0 ≡ Ok a → Leads world here input code (p s).1 (m a) (f a) to)
      → Leads world here input code s x (p >>= f) to
  unfolding bind
  leads_bind {s = s} {p = p} {m = m} {f = f} {to = to} l h = record {
    by = λ k. let b = bind_at (p s).0 (p s).1 m f to h k in let a = l.by b.0 in (a.0, a.1 ∙ b.1);
    real = λ r b is. real_at (p s).0 (p s).1 m f to h (l.real r) b is;
  }

  -- another action that does the same from here
  pub leads_same : {A : Type 0} {s : State S} {x : Target} (p q : Act S A) {to : A → Target} → p s ≡ q s → Leads world here input code s x p to
      → Leads world here input code s x q to
  unfolding bind
  leads_same {A = A} p q {to = to} e l = record {
    by = λ k. let a = l.by k in (a.0, a.1 ∙ ap (λ r. after r.0 r.1 (λ a. arrive world here input code k (to a))) e);
    real = λ r a is. l.real r a (ap (λ r. r.0) e ∙ is);
  }

  -- from each end on to another
  pub leads_onward : {A : Type 0} {s : State S} {x : Target} {p : Act S A} {m to : A → Target} → Leads world here input code s x p m
      → ((a : A) (t : State S) → Leads world here input code t (m a) (pure a) to) → Leads world here input code s x p to
  unfolding bind
  leads_onward {s = s} {p = p} l h = leads_same (p >>= pure) p (ends (p s).0 (p s).1) (leads_bind l (λ a _. h a (p s).1))

  -- one instruction
  pub leads_instr : {A : Type 0} {s : State S} {c : Spot} (x : Instr) (line : ℕ) {p : Act S A} {to : A → Spot} → StandsAt code c x line
      → does world here input code (Some x) line c ≡ (p >>= (λ a. pure (Goes (to a)))) → Leads world here input code s (To c) p (λ a. To (to a))
  unfolding bind
  leads_instr {s = s} {c = c} x line {p = p} {to = to} at e = record {
    by = λ k. (
      suc k,
      opened world here input code c x line k s (p >>= (λ a. pure (Goes (to a)))) at e
          ∙ goes_at world here input code (p s).0 (p s).1 to (exec world here input code k),
    );
    real = λ r a is. tt;
  }

  -- one that only goes somewhere
  pub leads_skip : {A : Type 0} {s : State S} {c : Spot} (x : Instr) (line : ℕ) {d : Spot} {p : Act S A} {to : A → Target} → StandsAt code c x line
      → does world here input code (Some x) line c ≡ pure (Goes d) → Leads world here input code s (To d) p to → Leads world here input code s (To c) p to
  unfolding pure bind
  leads_skip {s = s} {c = c} x line {d = d} at e l = record {
    by = λ k. let h = l.by k in (suc h.0, opened world here input code c x line h.0 s (pure (Goes d)) at e ∙ h.1);
    real = λ r a is. l.real tt a is;
  }

  -- one that does what a return does
  pub leads_return : {s : State S} {c : Spot} (line : ℕ) (v : Val) → StandsAt code c i.Return line → c.stack ≡ v ∷ []
      → {A : Type 0} (a : A) {to : A → Target} → Back c.callers c.room v ≡ to a → Leads world here input code s (To c) (pure a) to
  unfolding pure bind
  leads_return {s = s} {c = c} line v at is a {to = to} e = record {
    by = λ k. (
      suc k,
      opened world here input code c i.Return line k s (return_to c.room v c.callers) at
          (ap (λ st. does world here input code (Some i.Return) line (record c { stack = st })) is) ∙ ap (λ d. arrive world here input code k d s) e,
    );
    real = λ r b so. let same : a ≡ b = cc in subst (λ b. Real (to b)) same (subst Real e tt);
  }

  -- one that traps
  pub leads_trap : {A : Type 0} {s : State S} {c : Spot} (x : Instr) (line : ℕ) (t : Trap) {to : A → Target} → StandsAt code c x line
      → does world here input code (Some x) line c ≡ lift line (Err t) → Leads world here input code s (To c) (lift line (Err t)) to
  unfolding lift bind
  leads_trap {s = s} {c = c} x line t at e = record {
    by = λ k. (1, opened world here input code c x line 0 s (lift line (Err t)) at e);
    real = λ r a is. absurd (cc);
  }

  -- ---- by how many instructions follow

  module _ (callers : List Caller) (room : ℕ) where
    -- one instruction that goes on to the next place
    pub leads_one : {A : Type 0} {s : State S} {inner : List InnerLoop} {r : ℕ} {st : List Val} {x : Instr} {line h : ℕ} {p : Act S A} (g : A → List Val)
        → Shows code r (planned (As x) line h) → ((pc : ℕ) → does world here input code (Some x) line (spot callers room inner pc st) ≡ (p >>=
        (λ a. pure (Goes (spot callers room inner (pc + 1) (g a))))))
        → Leads world here input code s (at code callers room inner (suc r) st) p (λ a. at code callers room inner r (g a))
    leads_one {s = s} {inner = inner} {r = r} {st = st} {x = x} {line = line} {p = p} g shown e =
        subst (λ n. Leads world here input code s (at code callers room inner (suc r) st) p (λ a. To (spot callers room inner n (g a))))
        (next_place code r shown.within)
        (leads_instr x line (shown.op, shown.at_line) (e (place_of code (suc r))))

    pub leads_move : {A : Type 0} {s : State S} {inner : List InnerLoop} {r : ℕ} {st st' : List Val} {x : Instr} {line h : ℕ} {p : Act S A} {to : A → Target}
        → Shows code r (planned (As x) line h) → ((pc : ℕ) → does world here input code (Some x) line (spot callers room inner pc st) ≡ pure (Goes
        (spot callers room inner (pc + 1) st'))) → Leads world here input code s (at code callers room inner r st') p to
        → Leads world here input code s (at code callers room inner (suc r) st) p to
    leads_move {s = s} {inner = inner} {r = r} {st = st} {st' = st'} {x = x} {line = line} {p = p} {to = to} h e l =
        leads_skip x line (h.op, h.at_line) (e (place_of code (suc r)))
        (subst (λ n. Leads world here input code s (To (spot callers room inner n st')) p to) (sym (next_place code r h.within)) l)

    -- a jump
    pub leads_jump : {A : Type 0} {s : State S} {inner : List InnerLoop} {r n : ℕ} {st : List Val} {line h : ℕ} {p : Act S A} {to : A → Target}
        → Shows code r (planned (JumpTo n) line h) → Leads world here input code s (at code callers room inner n st) p to
        → Leads world here input code s (at code callers room inner (suc r) st) p to
    leads_jump {n = n} {line = line} h l = leads_skip (i.Jump (place_of code n)) line (h.op, h.at_line) refl l

    -- code after code
    pub leads_seam : {A : Type 0} {s : State S} {inner : List InnerLoop} {st : List Val} {p : Act S A} {to : A → Target} (a b : Plan) (after : ℕ)
        → Leads world here input code s (at code callers room inner (past a (past b after)) st) p to
        → Leads world here input code s (at code callers room inner (past (a ++ b) after) st) p to
    leads_seam {s = s} {inner = inner} {st = st} {p = p} {to = to} a b n l =
        subst (λ n. Leads world here input code s (at code callers room inner n st) p to) (sym (past_append a b n)) l

    either : {A : Type 0} {s : State S} {inner : List InnerLoop} (b : Bool) (p q : Act S A) (to : A → Target) (m n : ℕ) (st : List Val)
        → Leads world here input code s (To (spot callers room inner m st)) p to → Leads world here input code s (To (spot callers room inner n st)) q to
        → Leads world here input code s (To (spot callers room inner (if b then m else n) st)) (if b then p else q) to
    either true p q to m n st h k = h
    either false p q to m n st h k = k

    -- a test, and what follows each answer
    pub leads_if : {A : Type 0} {s : State S} {inner : List InnerLoop} (v : Val) {p q : Act S A} {to : A → Target} {r n line h : ℕ} {st : List Val}
        → Shows code r (planned (JumpIfTo false n) line h) → Leads world here input code s (at code callers room inner r st) p to
        → Leads world here input code s (at code callers room inner n st) q to
        → Leads world here input code s (at code callers room inner (suc r) (v ∷ st)) (if truth v then p else q) to
    leads_if {s = s} {inner = inner} v {p = p} {q = q} {to = to} {r = r} {n = n} {line = line} {st = st} h l k =
        leads_skip (i.JumpIf false (place_of code n)) line (h.op, h.at_line) refl
        (either (truth v) p q to (place_of code (suc r) + 1) (place_of code n) st
        (subst (λ n. Leads world here input code s (To (spot callers room inner n st)) p to) (sym (next_place code r h.within)) l) k)

    pub leads_unless : {A : Type 0} {s : State S} {inner : List InnerLoop} (v : Val) {p q : Act S A} {to : A → Target} {r n line h : ℕ} {st : List Val}
        → Shows code r (planned (JumpIfTo true n) line h) → Leads world here input code s (at code callers room inner n st) p to
        → Leads world here input code s (at code callers room inner r st) q to
        → Leads world here input code s (at code callers room inner (suc r) (v ∷ st)) (if truth v then p else q) to
    leads_unless {s = s} {inner = inner} v {p = p} {q = q} {to = to} {r = r} {n = n} {line = line} {st = st} h k l =
        leads_skip (i.JumpIf true (place_of code n)) line (h.op, h.at_line) refl
        (either (truth v) p q to (place_of code n) (place_of code (suc r) + 1) st k
        (subst (λ n. Leads world here input code s (To (spot callers room inner n st)) q to) (sym (next_place code r h.within)) l))
