-- The next trip of a loop that runs as an ordinary one.
use Rattle.std.specs.Prelude.{◌≡◌, ◌⊎◌, ⊤, ℕ, suc, ◌+◌, ◌-◌, ℤ, List, [], ◌∷◌, ◌++◌, length, reverse, Result, Ok, Err}
use Rattle.al_core.specs.declared.view.ViewFault.{ViewFault}
use Rattle.al_core.specs.declared.view.ViewFault.TheVariants as fault
use Rattle.al_core.specs.declared.choices.Bound.{Bound}
use Rattle.al_core.specs.declared.values.Trap.{Trap}
use Rattle.al_core.specs.declared.values.Val.{Val}
use Rattle.al_core.specs.Values.{number, trips}
use Rattle.al_core.specs.Action.{State, Answer, Act, lift, ◌>>=◌}
use Rattle.al_core.specs.Access.{Content, in_iteration}
use Rattle.al_code.specs.declared.lowered.Body.{Body}
use Rattle.al_core.specs.Meaning.{Inside, bound_value}
use Rattle.al_code.specs.Machine.{InnerLoop, Move, Goes, top, below, trip, begins}
use Rattle.al_exec.specs.declared.locals.Range.{Range}
use Rattle.al_exec.specs.Active.{Active, state_of}
use Rattle.al_exec.specs.declared.machine.Machine.{Machine}
use Rattle.al_exec.specs.Machines.{spot_in, state_in}

-- one more loop runs
pub record Begins (m : Machine) (x : InnerLoop) (m' : Machine) : Type 0 where
  pub same : m' ≡ record m { inner = m'.inner }
  pub last : m'.inner.items ≡ m.inner.items ++ x ∷ []

-- the trip of a loop in the loops around it, whatever loops the spot has
abbrev pub trip_of : ℕ → Body → InnerLoop → Machine → Content → ℕ → List InnerLoop → Answer Move × State Content
trip_of counter body x m w line inner =
    trip in_iteration line counter body (record (spot_in m) { inner = inner }) (reverse m.inner.items)
    x.loop x.lo x.hi x.next x.left (state_in m w)

-- past the loop, or in its body
pub record TripOver (body : Body) (m m' : Machine) : Type 0 where
  pub place : m'.active.place ≡ body.end
  pub steps : m'.active.budget ≡ m.active.budget
  pub inner : m'.inner ≡ m.inner

pub record InBody (body : Body) (m m' : Machine) : Type 0 where
  pub place : m'.active.place ≡ body.start
  pub steps : m.active.budget ≡ suc m'.active.budget
  pub inner : length m'.inner.items ≡ length m.inner.items + 1

pub record Led (body : Body) (m m' : Machine) : Type 0 where
  pub same :
      m'
      ≡ record m {
        active = record m.active { place = m'.active.place; locals = m'.active.locals; budget = m'.active.budget };
        inner = m'.inner;
      }
  pub leads : TripOver body m m' ⊎ InBody body m m'

pub record Tripped (counter : ℕ) (body : Body) (x : InnerLoop) (m : Machine) (w : Content)
    (m' : Machine) (w' : Content) : Type 0 where
  pub did : (line : ℕ) (inner : List InnerLoop)
      → trip_of counter body x m w line inner ≡ (Ok (Goes (spot_in m')), state_in m' w')
  pub led : Led body m m'

abbrev pub Trips : ℕ → Body → InnerLoop → Machine → Content → Result (Unit {0}) ViewFault → Machine → Content → Type 0
Trips counter body x m w (Ok u) m' w' = Tripped counter body x m w m' w'
Trips counter body x m w (Err (fault.Trap t)) m' w' =
    (line : ℕ) (inner : List InnerLoop) → trip_of counter body x m w line inner ≡ (Err (t, line), state_in m' w')
Trips counter body x m w (Err fault.Memory) m' w' = ⊤

-- ---- the start of a loop

-- a loop's start is taken, and its bound is read
abbrev pub range_then : Bound → Val → ℕ → (ℤ → ℤ → Act Content Move) → Act Content Move
range_then bound v line f =
    lift line (number v) >>= (λ lo. bound_value in_iteration bound line >>= (λ hi. f lo hi))

pub record RangeRead (bound : Bound) (s : Active) (w : Content) (r : Range) (s' : Active) (w' : Content) : Type 0 where
  pub read : (line : ℕ) (f : ℤ → ℤ → Act Content Move)
      → range_then bound (top s.stack) line f (state_of s w) ≡ f r.lo r.hi (state_of s' w')
  pub same : s' ≡ record s { stack = below s.stack; height = s.height - 1 }

abbrev pub ReadsRange : Bound → Active → Content → Result Range ViewFault → Active → Content → Type 0
ReadsRange bound s w (Ok r) s' w' = RangeRead bound s w r s' w'
ReadsRange bound s w (Err (fault.Trap t)) s' w' =
    (line : ℕ) (f : ℤ → ℤ → Act Content Move)
    → range_then bound (top s.stack) line f (state_of s w) ≡ (Err (t, line), state_of s' w')
ReadsRange bound s w (Err fault.Memory) s' w' = ⊤

-- the loop before its first trip, where it makes not too many
abbrev pub Counted : ℕ → ℤ → ℤ → Result InnerLoop Trap → Type 0
Counted loop lo hi (Ok x) =
    (trips lo hi ≡ Ok x.left) × (x ≡ record { loop = loop; lo = lo; hi = hi; next = 0; left = x.left })
Counted loop lo hi (Err t) = trips lo hi ≡ Err t

abbrev pub begins_of : ℕ → Body → ℕ → ℤ → ℤ → Machine → Content → ℕ → Answer Move × State Content
begins_of counter body loop lo hi m w line =
    begins in_iteration Inside line counter body (spot_in m) loop lo hi (state_in m w)

-- inside an iteration the loop is an ordinary one
pub record Begun (counter : ℕ) (body : Body) (loop : ℕ) (lo hi : ℤ) (m : Machine) (w : Content)
    (m' : Machine) (w' : Content) : Type 0 where
  pub did : (line : ℕ) → begins_of counter body loop lo hi m w line ≡ (Ok (Goes (spot_in m')), state_in m' w')
  pub led : Led body m m'

abbrev pub BeginsLoop : ℕ → Body → ℕ → ℤ → ℤ → Machine → Content → Result (Unit {0}) ViewFault → Machine → Content
    → Type 0
BeginsLoop counter body loop lo hi m w (Ok u) m' w' = Begun counter body loop lo hi m w m' w'
BeginsLoop counter body loop lo hi m w (Err (fault.Trap t)) m' w' =
    (line : ℕ) → begins_of counter body loop lo hi m w line ≡ (Err (t, line), state_in m' w')
BeginsLoop counter body loop lo hi m w (Err fault.Memory) m' w' = ⊤
