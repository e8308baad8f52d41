-- A function that runs, as its cells show it.
use Rattle.std.specs.Prelude.{ℕ, ◌-◌, List, length, take, drop, reverse}
use Rattle.al_core.specs.declared.values.Val.{Val}
use Rattle.al_core.specs.Action.{Private, AllPrivate, Own, State}
use Rattle.al_exec.specs.declared.private.Own.{Own as Kept}
use Rattle.al_exec.specs.declared.private.Own.TheVariants as kept

abbrev pub private_of : Kept → Private
private_of kept.All = AllPrivate
private_of (kept.Loop counter first last) = Own counter first last

pub record Active : Type 0 where
  -- the next instruction
  pub place : ℕ
  -- what the callers keep
  pub below : List Val
  pub locals : List Val
  pub own : Private
  -- the top first, and how many values there are
  pub stack : List Val
  pub height : ℕ
  -- how many values the stack has room for, and all values together
  pub room : ℕ
  pub size : ℕ
  -- the steps that are left
  pub budget : ℕ

-- the function whose locals begin at a base, whose stack begins at a floor, and whose next value goes to the top
abbrev pub active_in : List Val → ℕ → ℕ → ℕ → ℕ → Private → ℕ → Active
active_in cells place base floor top own budget = record {
  place = place;
  below = take base cells;
  locals = take (floor - base) (drop base cells);
  own = own;
  stack = reverse (take (top - floor) (drop floor cells));
  height = top - floor;
  room = length cells - floor;
  size = length cells;
  budget = budget;
}

abbrev pub state_of : {S : Type 0} → Active → S → State S
state_of s w = record { frame = record { locals = s.locals; own = s.own }; budget = s.budget; world = w }
