-- Frames of functions that wait for the one that runs.
use Rattle.std.specs.Prelude.{◌≡◌, ℕ, ◌+◌, ◌-◌, ◌≤◌, List, [], ◌++◌, length, take, drop, reverse, replicate, pos}
use Rattle.al_core.specs.declared.values.Val.TheVariants.{Int}
use Rattle.al_core.specs.declared.values.Val.{Val}
use Rattle.al_core.specs.Action.{AllPrivate}
use Rattle.al_code.specs.declared.lowered.Entry.{Entry}
use Rattle.al_code.specs.Machine.{frame_at}
use Rattle.al_exec.specs.declared.active.Left.{Left}
use Rattle.al_exec.specs.Active.{Active, private_of}

-- a function with so many locals, all of them on the stack, was begun, and the one before it waits
pub record Opened (s : Active) (n start : ℕ) (left : Left) (s' : Active) : Type 0 where
  pub new :
      s'
      ≡ record {
        place = start;
        below = s'.below;
        locals = reverse (take n s.stack);
        own = AllPrivate;
        stack = [];
        height = 0;
        room = s.room - s.height;
        size = s.size;
        budget = s.budget;
      }
  pub place : left.place ≡ s.place + 1
  pub own : private_of left.own ≡ s.own
  pub below : take left.base s'.below ≡ s.below
  pub locals : drop left.base (take left.floor s'.below) ≡ s.locals
  pub stack : reverse (drop left.floor s'.below) ≡ drop n s.stack
  pub base : left.base ≤ left.floor
  pub size : length s'.below ≡ left.floor + (s.height - n)
  pub depth : length s.stack ≡ s.height

-- the one that waited goes on
pub record Resumed (s : Active) (left : Left) (s' : Active) : Type 0 where
  pub new :
      s'
      ≡ record {
        place = left.place;
        below = take left.base s.below;
        locals = drop left.base (take left.floor s.below);
        own = private_of left.own;
        stack = reverse (drop left.floor s.below);
        height = length s.below - left.floor;
        room = s'.room;
        size = s.size;
        budget = s.budget;
      }
  pub room : s.room ≤ s'.room

-- there is room for so many values more
pub record Grown (s : Active) (more : ℕ) (s' : Active) : Type 0 where
  pub same : s' ≡ record s { room = s'.room; size = s'.size }
  pub wide : s.height + more ≤ s'.room
  pub wider : s.room ≤ s'.room
  pub all : more ≤ s'.size

-- there are so many zeros on the stack, and room for so many values more
pub record Filled (s : Active) (zeros more : ℕ) (s' : Active) : Type 0 where
  pub same :
      s'
      ≡ record s {
        stack = replicate zeros (Int (pos 0)) ++ s.stack;
        height = s.height + zeros;
        room = s'.room;
        size = s'.size;
      }
  pub wide : s'.height + more ≤ s'.room
  pub wider : s.room ≤ s'.room

-- a function stands at its start, with its arguments in its locals and room for so many values
pub record Laid (s : Active) (e : Entry) (more : ℕ) (s' : Active) : Type 0 where
  pub place : s'.place ≡ e.start
  pub locals : s'.locals ≡ (frame_at e (reverse (take e.params s.stack))).locals
  pub own : s'.own ≡ AllPrivate
  pub stack : s'.stack ≡ []
  pub height : s'.height ≡ 0
  pub room : more ≤ s'.room

-- values were put on the stack, the last one on top
pub record Given (s : Active) (vs : List Val) (s' : Active) : Type 0 where
  pub stack : s'.stack ≡ reverse vs ++ s.stack
  pub height : s'.height ≡ s.height + length vs
  pub room : s'.height ≤ s'.room
  pub place : s'.place ≡ s.place
