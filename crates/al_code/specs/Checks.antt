-- Valid code, as it is tested.
use Rattle.std.specs.Prelude.{ℕ, zero, suc, ◌+◌, ◌-◌, Bool, true, false, ◌&&◌, ◌||◌, ◌==◌, nat_lt, nat_le, length, Option, Some, None, slice_get, count_by}
use Rattle.std.specs.List.{list_all}
use Rattle.al_core.specs.declared.choices.Bound.{Bound}
use Rattle.al_core.specs.declared.choices.Bound.TheVariants as bound
use Rattle.al_core.specs.declared.choices.LoopInfo.{LoopInfo}
use Rattle.al_code.specs.declared.instructions.Instr.{Instr}
use Rattle.al_code.specs.declared.instructions.Instr.TheVariants as i
use Rattle.al_code.specs.declared.lowered.Entry.{Entry}
use Rattle.al_code.specs.declared.lowered.Body.{Body}
use Rattle.al_code.specs.declared.lowered.Code.{Code}
use Rattle.al_code.specs.declared.checks.Want.{Want}
use Rattle.al_code.specs.declared.checks.Want.TheVariants.{Height, Inside}
use Rattle.al_code.specs.Valid.{takes, puts, places_after}

-- so many numbers from 0 on
abbrev pub all_below : ℕ → (ℕ → Bool) → Bool
all_below zero test = true
all_below (suc n) test = all_below n test && test n

-- so many from one on
abbrev pub all_from : ℕ → ℕ → (ℕ → Bool) → Bool
all_from start zero test = true
all_from start (suc n) test = all_from start n test && test (start + n)

abbrev pub is_height : Option ℕ → ℕ → Bool
is_height (Some k) h = k == h
is_height None h = false

abbrev pub is_inside : Entry → ℕ → Bool
is_inside e place = nat_le e.start place && nat_lt place e.end

-- what is wanted of a place
abbrev pub holds_at : Code → Want → ℕ → Bool
holds_at code (Height h) place = is_height (slice_get code.heights place) h
holds_at code (Inside e) place = is_inside e place

-- of the places that may come after an instruction
unfoldable pub after_holds : Code → ℕ → Instr → Want → Bool
after_holds code place x want = list_all (holds_at code want) (places_after code place x)

abbrev pub number_in_range : Code → Instr → Bool
number_in_range code (i.Global k) = nat_lt k (length code.globals)
number_in_range code (i.Call f) = nat_lt f (length code.funcs)
number_in_range code (i.Print k) = nat_lt k (length code.texts)
number_in_range code (i.Loop k) = nat_lt k (length code.loops)
number_in_range code _ = true

abbrev pub local_in_range : ℕ → Instr → Bool
local_in_range locals (i.GetLocal k) = nat_lt k locals
local_in_range locals (i.SetLocal k) = nat_lt k locals
local_in_range locals _ = true

abbrev pub bound_in_range : ℕ → Bound → Bool
bound_in_range locals (bound.Number n) = true
bound_in_range locals (bound.Local k) = nat_lt k locals

abbrev pub is_step : Option Instr → Bool
is_step (Some i.Step) = true
is_step _ = false

-- a jump forward, or back to a step
abbrev pub lands_at : Code → ℕ → ℕ → Bool
lands_at code place to = nat_lt place to || is_step (slice_get code.instrs to)

abbrev pub lands : Code → ℕ → Instr → Bool
lands code place (i.Jump to) = lands_at code place to
lands code place (i.JumpIf b to) = lands_at code place to
lands code place _ = true

unfoldable pub is_sound : Code → ℕ → Instr → ℕ → Bool
is_sound code place x h =
    nat_le (takes code x) h && number_in_range code x
    && after_holds code place x (Height (h - takes code x + puts x)) && lands code place x

abbrev pub is_start : Option Body → ℕ → Bool
is_start (Some b) place = b.start == place
is_start None place = true

-- one body ends at a place
unfoldable pub ends_at : Code → ℕ → Bool
ends_at code place = count_by (λ b. b.end == place) code.bodies == 1

-- a loop's instruction stands before its body, and the end of an iteration ends one body
abbrev pub is_placed : Code → ℕ → Instr → Bool
is_placed code place (i.Loop k) = is_start (slice_get code.bodies k) (suc place)
is_placed code place i.EndIteration = ends_at code (suc place)
is_placed code place _ = true

abbrev pub is_right : Code → ℕ → Option Instr → Option ℕ → Bool
is_right code place (Some x) (Some h) = is_sound code place x h && is_placed code place x
is_right code place _ _ = true

unfoldable pub is_right_at : Code → ℕ → Bool
is_right_at code place = is_right code place (slice_get code.instrs place) (slice_get code.heights place)

abbrev pub stays : Code → Entry → ℕ → Option Instr → Bool
stays code e place (Some x) = after_holds code place x (Inside e) && local_in_range e.locals x
stays code e place None = true

unfoldable pub stays_at : Code → Entry → ℕ → Bool
stays_at code e place = stays code e place (slice_get code.instrs place)

unfoldable pub is_function : Code → Entry → Bool
is_function code e =
    nat_lt e.start e.end && nat_le e.end (length code.instrs) && nat_le e.params e.locals
    && is_height (slice_get code.heights e.start) 0 && all_from e.start (e.end - e.start) (stays_at code e)

abbrev pub is_function_in : Code → Option Entry → Bool
is_function_in code (Some e) = is_function code e
is_function_in code None = true

unfoldable pub is_function_at : Code → ℕ → Bool
is_function_at code f = is_function_in code (slice_get code.funcs f)

abbrev pub is_loop : ℕ → Option Instr → Bool
is_loop k (Some (i.Loop j)) = j == k
is_loop k _ = false

abbrev pub is_iteration_end : Option Instr → Bool
is_iteration_end (Some i.EndIteration) = true
is_iteration_end _ = false

-- a loop's instruction stands at a place of its function, which has the loop's locals
abbrev pub is_home : LoopInfo → ℕ → Option Entry → Bool
is_home info place (Some e) = is_inside e place && nat_lt info.counter e.locals && bound_in_range e.locals info.bound
is_home info place None = false

unfoldable pub is_body : Code → ℕ → LoopInfo → Body → Bool
is_body code k info b =
    nat_lt 0 b.start && is_loop k (slice_get code.instrs (b.start - 1))
    && is_home info (b.start - 1) (slice_get code.funcs info.func)
    && nat_lt b.start b.end && is_iteration_end (slice_get code.instrs (b.end - 1))
    && is_height (slice_get code.heights b.start) 0 && is_height (slice_get code.heights b.end) 0

abbrev pub is_body_in : Code → ℕ → Option LoopInfo → Option Body → Bool
is_body_in code k (Some info) (Some b) = is_body code k info b
is_body_in code k _ _ = true

unfoldable pub is_body_at : Code → ℕ → Bool
is_body_at code k = is_body_in code k (slice_get code.loops k) (slice_get code.bodies k)

unfoldable pub is_valid : Code → Bool
is_valid code =
    (length code.lines == length code.instrs) && (length code.heights == length code.instrs)
    && (length code.bodies == length code.loops) && nat_lt code.main (length code.funcs)
    && all_below (length code.funcs) (is_function_at code)
    && all_below (length code.instrs) (is_right_at code)
    && all_below (length code.loops) (is_body_at code)
