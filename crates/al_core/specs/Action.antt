-- Actions: what one answers or traps with, and the state that it leaves either way.
use Rattle.std.specs.Prelude.{ℕ, zero, suc, Bool, true, ◌&&◌, ◌||◌, if◌then◌else◌, ◌==◌, nat_lt, nat_le, List, [], ◌∷◌, Option, Some, None, Result, Ok, Err, slice_get, slice_set, ℤ, pos}
use Rattle.al_core.specs.declared.values.Val.TheVariants.{Int, Ptr}
use Rattle.al_core.specs.declared.values.Addr.TheVariants.{Word, Local}
use Rattle.al_core.specs.declared.values.Kind.TheVariants as kind
use Rattle.al_core.specs.declared.values.Trap.TheVariants as trap
use Rattle.al_core.specs.World.{Val, Kind, Trap, Pointer, World}

-- which locals are private to the frame: all of them, or in an iteration the loop's counter and those from a first to
-- below a last
pub data Private : Type 0 where
  AllPrivate : Private
  Own : ℕ → ℕ → ℕ → Private

-- the locals of the function that runs, by number
pub record Frame : Type 0 where
  pub locals : List Val
  pub own : Private

-- the frame, the steps that are left, and the world
pub record State (S : Type 0) : Type 0 where
  pub frame : Frame
  pub budget : ℕ
  pub world : S

-- what an action comes to: an answer, or a trap with its line
abbrev pub Answer : Type 0 → Type 0
Answer A = Result A (Trap × ℕ)

abbrev pub Act : Type 0 → Type 0 → Type 0
Act S A = State S → Answer A × State S

-- an action of which the line is still to be told
abbrev pub At : Type 0 → Type 0 → Type 0
At S A = ℕ → Act S A

abbrev pub at_line : {A : Type 0} → ℕ → Result A Trap → Answer A
at_line line (Ok a) = Ok a
at_line line (Err t) = Err (t, line)

-- The words that every action is made of. A proof opens them once, in the file that says what they do.
module _ {S : Type 0} where
  abbrev pub after : {A B : Type 0} → Answer A → State S → (A → Act S B) → Answer B × State S
  after (Ok a) s f = f a s
  after (Err e) s f = (Err e, s)

  -- one action, and then one that knows its answer
  unfoldable pub bind : {A B : Type 0} → Act S A → (A → Act S B) → Act S B
  bind p f = λ s. after (p s).0 (p s).1 f

  -- an answer
  unfoldable pub pure : {A : Type 0} → A → Act S A
  pure a = λ s. (Ok a, s)

  -- what is computed with no state
  unfoldable pub lift : {A : Type 0} → ℕ → Result A Trap → Act S A
  lift line r = λ s. (at_line line r, s)

  -- an operation of the world
  unfoldable pub asks : {A : Type 0} → ℕ → (S → Result A Trap × S) → Act S A
  asks line op = λ s. (at_line line (op s.world).0, record s { world = (op s.world).1 })

  -- an operation whose traps have lines of their own
  unfoldable pub hands_on : {A : Type 0} → (S → Answer A × S) → Act S A
  hands_on op = λ s. ((op s.world).0, record s { world = (op s.world).1 })

  abbrev pub spend_from : ℕ → ℕ → State S → Answer (Unit {0}) × State S
  spend_from line zero s = (Err (trap.Steps, line), s)
  spend_from line (suc n) s = (Ok tt, record s { budget = n })

  -- one step
  unfoldable pub spend : ℕ → Act S (Unit {0})
  spend line = λ s. spend_from line s.budget s

  unfoldable pub get_budget : Act S ℕ
  get_budget = λ s. (Ok s.budget, s)

  unfoldable pub get_frame : Act S Frame
  get_frame = λ s. (Ok s.frame, s)

  unfoldable pub set_frame : Frame → Act S (Unit {0})
  set_frame frame = λ s. (Ok tt, record s { frame = frame })

abbrev pub or_zero : Option Val → Val
or_zero (Some v) = v
or_zero None = Int (pos 0)

abbrev pub is_private : Private → ℕ → Bool
is_private AllPrivate k = true
is_private (Own counter first last) k = (k == counter) || (nat_le first k && nat_lt k last)

abbrev pub with_locals : Frame → List Val → Frame
with_locals frame locals = record frame { locals = locals }

-- made of those words
module _ {S : Type 0} where
  infixl 10 ◌>>=◌
  abbrev pub ◌>>=◌ : {A B : Type 0} → Act S A → (A → Act S B) → Act S B
  p >>= f = bind p f

  infixl 10 ◌>>◌
  abbrev pub ◌>>◌ : {A B : Type 0} → Act S A → Act S B → Act S B
  p >> q = p >>= (λ _. q)

  -- each of them in turn, and all their answers
  abbrev pub all : {A : Type 0} → List (Act S A) → Act S (List A)
  all [] = pure []
  all (p ∷ ps) = p >>= (λ v. all ps >>= (λ vs. pure (v ∷ vs)))

  -- A private local is read and set in the frame. Any other is the world's, where the kind that is asked for says
  -- nothing.
  abbrev pub get_local : World S → ℕ → At S Val
  get_local world k line =
      get_frame
      >>= (λ f. if is_private f.own k then pure (or_zero (slice_get f.locals k))
      else asks line (world.load (Local k) kind.Int))

  abbrev pub set_local : World S → ℕ → Val → At S (Unit {0})
  set_local world k v line =
      get_frame
      >>= (λ f. if is_private f.own k then set_frame (with_locals f (slice_set f.locals k v))
      else asks line (world.store (Local k) v))

  abbrev pub load : World S → Pointer → Kind → At S Val
  load world p want line = asks line (world.load (Word p.0 p.1) want)

  abbrev pub store : World S → Pointer → Val → At S (Unit {0})
  store world p v line = asks line (world.store (Word p.0 p.1) v)

  -- a pointer to the first word of a new object
  abbrev pub make : World S → ℕ → At S Val
  make world words line = asks line (world.make words) >>= (λ o. pure (Ptr o 0))

  -- The object at the end of a pointer is taken out. Null is the end of none, and nothing is done. The value is 0.
  abbrev pub free : World S → Val → At S Val
  free world (Int n) line = pure (Int (pos 0))
  free world (Ptr o w) line = asks line (world.free o w) >> pure (Int (pos 0))

  abbrev pub print : World S → List ℕ → At S (Unit {0})
  print world bytes line = asks line (λ s. (Ok tt, world.print bytes s))

  -- An annotated loop is handed on: the frame's locals go with it and come back.
  abbrev pub visit : World S → ℕ → ℤ → ℤ → Act S (Unit {0})
  visit world loop lo hi =
      get_frame >>= (λ f. hands_on (world.visit loop lo hi f.locals) >>= (λ locals. set_frame (with_locals f locals)))

  -- into a frame of its own, from the frame that it answers
  abbrev pub enter : Frame → Act S Frame
  enter frame = get_frame >>= (λ old. set_frame frame >> pure old)

  abbrev pub leave : Frame → Val → Act S Val
  leave old v = set_frame old >> pure v
