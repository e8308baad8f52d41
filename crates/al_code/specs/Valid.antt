-- Which code is valid: each instruction finds its operands, each place that comes next is there with the height that
-- is left, each jump back goes to a step, and each number is in range.
use Rattle.std.specs.Prelude.{◌≡◌, ℕ, suc, ◌+◌, ◌-◌, ◌<◌, ◌≤◌, ◌==◌, if◌then◌else◌, List, [], ◌∷◌, length, Option, Some, None, slice_get}
use Rattle.std.specs.List.{AllByRecursion}
use Rattle.al_source.specs.declared.texts.Piece.{Piece}
use Rattle.al_core.specs.declared.choices.Bound.{Bound}
use Rattle.al_core.specs.declared.choices.Bound.TheVariants as bound
use Rattle.al_core.specs.declared.choices.LoopInfo.{LoopInfo}
use Rattle.al_code.specs.declared.instructions.Instr.{Instr}
use Rattle.al_code.specs.declared.instructions.Instr.TheVariants as i
use Rattle.al_code.specs.declared.lowered.Entry.{Entry}
use Rattle.al_code.specs.declared.lowered.Body.{Body}
use Rattle.al_code.specs.declared.lowered.Code.{Code}
use Rattle.al_code.specs.Machine.{holes}

-- ---- what an instruction takes and puts

abbrev pub params_of : Option Entry → ℕ
params_of (Some e) = e.params
params_of None = 0

abbrev pub holes_of : Option (List Piece) → ℕ
holes_of (Some pieces) = holes pieces
holes_of None = 0

-- how many values it takes from the stack
abbrev pub takes : Code → Instr → ℕ
takes code (i.Push n) = 0
takes code (i.GetLocal k) = 0
takes code (i.SetLocal k) = 1
takes code (i.Global k) = 0
takes code i.NotNull = 1
takes code (i.Plus n) = 1
takes code (i.Elem size) = 2
takes code (i.Load want) = 1
takes code i.Store = 2
takes code i.Dup = 1
takes code i.Drop = 1
takes code (i.Unary op) = 1
takes code i.Truth = 1
takes code (i.Binary op) = 2
takes code (i.Same equal) = 2
takes code (i.Choose op) = 2
takes code (i.Jump to) = 0
takes code (i.JumpIf b to) = 1
takes code (i.Call f) = params_of (slice_get code.funcs f)
takes code i.Return = 1
takes code i.Input = 1
takes code i.Inputs = 0
takes code (i.Calloc size) = 1
takes code i.Free = 1
takes code (i.Print k) = holes_of (slice_get code.texts k)
takes code i.Step = 0
takes code (i.Loop k) = 1
takes code i.EndIteration = 0

-- how many it puts there
abbrev pub puts : Instr → ℕ
puts (i.Push n) = 1
puts (i.GetLocal k) = 1
puts (i.SetLocal k) = 0
puts (i.Global k) = 1
puts i.NotNull = 1
puts (i.Plus n) = 1
puts (i.Elem size) = 1
puts (i.Load want) = 1
puts i.Store = 0
puts i.Dup = 2
puts i.Drop = 0
puts (i.Unary op) = 1
puts i.Truth = 1
puts (i.Binary op) = 1
puts (i.Same equal) = 1
puts (i.Choose op) = 1
puts (i.Jump to) = 0
puts (i.JumpIf b to) = 0
puts (i.Call f) = 1
puts i.Return = 0
puts i.Input = 1
puts i.Inputs = 1
puts (i.Calloc size) = 1
puts i.Free = 1
puts (i.Print k) = 0
puts i.Step = 0
puts (i.Loop k) = 0
puts i.EndIteration = 0

-- ---- what comes next

abbrev pub body_places : Option Body → List ℕ
body_places (Some b) = b.start ∷ b.end ∷ []
body_places None = []

-- the starts and ends of the bodies that end at a place
abbrev pub ended_places : ℕ → List Body → List ℕ
ended_places place [] = []
ended_places place (b ∷ bs) =
    if b.end == place then b.start ∷ b.end ∷ ended_places place bs else ended_places place bs

-- The places that may come after an instruction at a place. After a loop's instruction and after the end of an
-- iteration they are the body's start and end.
abbrev pub places_after : Code → ℕ → Instr → List ℕ
places_after code place (i.Jump to) = to ∷ []
places_after code place (i.JumpIf b to) = to ∷ suc place ∷ []
places_after code place i.Return = []
places_after code place (i.Loop k) = body_places (slice_get code.bodies k)
places_after code place i.EndIteration = ended_places (suc place) code.bodies
places_after code place _ = suc place ∷ []

-- the place to which it jumps
abbrev pub jumps : Instr → List ℕ
jumps (i.Jump to) = to ∷ []
jumps (i.JumpIf b to) = to ∷ []
jumps _ = []

-- ---- numbers in range

-- of a global, a function, a text or a loop
abbrev pub NumberInRange : Code → Instr → Type 0
NumberInRange code (i.Global k) = k < length code.globals
NumberInRange code (i.Call f) = f < length code.funcs
NumberInRange code (i.Print k) = k < length code.texts
NumberInRange code (i.Loop k) = k < length code.loops
NumberInRange code _ = Unit {0}

-- of a local
abbrev pub LocalInRange : ℕ → Instr → Type 0
LocalInRange locals (i.GetLocal k) = k < locals
LocalInRange locals (i.SetLocal k) = k < locals
LocalInRange locals _ = Unit {0}

abbrev pub BoundInRange : ℕ → Bound → Type 0
BoundInRange locals (bound.Number n) = Unit {0}
BoundInRange locals (bound.Local k) = k < locals

-- ---- instructions, functions and bodies

-- an instruction at a place, where the stack has that height
pub record IsSound (code : Code) (place : ℕ) (x : Instr) (height : ℕ) : Type 0 where
  -- it finds its operands
  pub operands : takes code x ≤ height
  pub number : NumberInRange code x
  -- each place that may come next has the height that it leaves
  pub heights :
      AllByRecursion (λ q. slice_get code.heights q ≡ Some (height - takes code x + puts x))
      (places_after code place x)
  -- a jump to a place not after itself goes to a step
  pub back : AllByRecursion (λ q. q ≤ place → slice_get code.instrs q ≡ Some i.Step) (jumps x)

-- the place is one of the function's
abbrev pub IsIn : Entry → ℕ → Type 0
IsIn e place = (e.start ≤ place) × (place < e.end)

pub record IsFunction (code : Code) (e : Entry) : Type 0 where
  -- it has an instruction
  pub begins : e.start < e.end
  pub within : e.end ≤ length code.instrs
  pub params : e.params ≤ e.locals
  pub height : slice_get code.heights e.start ≡ Some 0
  -- each place that may come next lies in the function, and each number of a local is one of its locals
  pub stays : (place : ℕ) (x : Instr) → IsIn e place → slice_get code.instrs place ≡ Some x
      → AllByRecursion (IsIn e) (places_after code place x) × LocalInRange e.locals x

-- the body of a loop
pub record IsBody (code : Code) (loop : ℕ) (info : LoopInfo) (b : Body) : Type 0 where
  -- the loop's instruction stands at one place only, in the function that the loop names
  pub place : ℕ
  pub stands : slice_get code.instrs place ≡ Some (i.Loop loop)
  pub once : (q : ℕ) → slice_get code.instrs q ≡ Some (i.Loop loop) → q ≡ place
  pub func : Entry
  pub has_func : slice_get code.funcs info.func ≡ Some func
  pub stays : IsIn func place
  -- the loop's counter and its bound are locals of that function
  pub counter : info.counter < func.locals
  pub bound : BoundInRange func.locals info.bound
  -- it starts right after that, and its last instruction ends an iteration
  pub starts : b.start ≡ suc place
  pub begins : b.start < b.end
  pub last : slice_get code.instrs (b.end - 1) ≡ Some i.EndIteration
  pub start_height : slice_get code.heights b.start ≡ Some 0
  pub end_height : slice_get code.heights b.end ≡ Some 0

-- the end of an iteration is the last instruction of one body only
pub record EndsOneBody (code : Code) (place : ℕ) : Type 0 where
  pub loop : ℕ
  pub body : Body
  pub has : slice_get code.bodies loop ≡ Some body
  pub is : body.end ≡ suc place
  pub only : (k : ℕ) (b : Body) → slice_get code.bodies k ≡ Some b → b.end ≡ suc place → k ≡ loop

-- ---- code

pub record IsValid (code : Code) : Type 0 where
  pub lines : length code.lines ≡ length code.instrs
  pub heights : length code.heights ≡ length code.instrs
  pub bodies : length code.bodies ≡ length code.loops
  pub main : code.main < length code.funcs
  pub functions : (f : ℕ) (e : Entry) → slice_get code.funcs f ≡ Some e → IsFunction code e
  pub instrs : (place : ℕ) (x : Instr) (height : ℕ) → slice_get code.instrs place ≡ Some x
      → slice_get code.heights place ≡ Some height → IsSound code place x height
  pub loops : (k : ℕ) (info : LoopInfo) (b : Body) → slice_get code.loops k ≡ Some info
      → slice_get code.bodies k ≡ Some b → IsBody code k info b
  pub ends : (place : ℕ) → slice_get code.instrs place ≡ Some i.EndIteration → EndsOneBody code place
