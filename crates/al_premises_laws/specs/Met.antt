-- What the laws of the serial order ask is met by the small program: its two loops, and memories in which they run.
use Rattle.std.specs.Prelude.{◌≡◌, ◌≢◌, ℕ, ◌+◌, ◌<◌, ◌≤◌, true, [], ◌∷◌, length, Some, None, is_some, reverse, IsPermutation, Contains, Err, pos, negsuc, FitsSigned}
use Rattle.std.specs.Int.{w64}
use Rattle.std.specs.List.{AllByRecursion}
use Rattle.std.specs.FinMap as map
use Rattle.std.specs.FinSet as set
use Rattle.al_core.specs.declared.values.Addr.{Addr}
use Rattle.al_core.specs.declared.values.Addr.TheVariants.{Word, Local}
use Rattle.al_core.specs.declared.values.Obj.TheVariants.{Global, Serial, Iter}
use Rattle.al_core.specs.declared.values.Val.{Val}
use Rattle.al_core.specs.declared.values.Val.TheVariants.{Int}
use Rattle.al_core.specs.declared.values.Trap.TheVariants as trap
use Rattle.al_core.specs.declared.reports.Ending.TheVariants.{Done}
use Rattle.al_core.specs.declared.typed_tree.TExpr.{TExpr}
use Rattle.al_core.specs.declared.typed_tree.TStmt.{TStmt}
use Rattle.al_core.specs.World.{World}
use Rattle.al_core.specs.Action.{Frame, AllPrivate, State, Act, lift, pure}
use Rattle.al_core.specs.Meaning.{Flow, Inside, execute, call_to, value}
use Rattle.al_core.specs.Clash.{meets}
use Rattle.al_core.specs.Serial.{direct}
use Rattle.al_core.specs.Accepted.{IsAccepted}
use Rattle.al_core.specs.Memory.{AgreeAt}
use Rattle.al_core.specs.Access.{red_index, in_iteration}
use Rattle.al_core.specs.Chunk.{outcome, chunk_from, chunk_count}
use Rattle.al_core.specs.Limits.{AreInRange}
use Rattle.al_core.specs.Lockstep.{commits, all_chunks, lockstep}
use Rattle.al_core.specs.Loops.{loop_at}
use Rattle.al_core.specs.Readiness.{IsFresh, IsRunnable, IsReady, HasValues}
use Rattle.al_core.specs.Round.{outcomes, round}
use Rattle.al_core.specs.Run.{start, outside}
use Rattle.al_core.specs.Verdicts.{is_in_order}
use Rattle.al_laws.specs.Budgets.{NeverAdds}
use Rattle.al_laws.specs.Commits.{IsVariable, IsUntouched, IsOff}
use Rattle.al_laws.specs.Ends.{EndsAlike}
use Rattle.al_laws.specs.Names.{HasNames}
use Rattle.al_laws.specs.Recording.{HasNoReds}
use Rattle.al_rounds_laws.specs.InOrder.{Ascend}
use Rattle.al_rounds_laws.specs.Loops.{Each, AreDistinct, LooksAtReads, LooksAtWrites}
use Rattle.al_rounds_laws.specs.Serial.{IsUnnamed}
use Rattle.al_rounds_laws.specs.Writes.{AreApart}
use Rattle.al_graded_laws.specs.Commits.{GivesValues}
use Rattle.al_graded_laws.specs.InRange.{RunsInRange, SeesValues}
use Rattle.al_reductions_laws.specs.Reducible.{IsReducible}
use Rattle.al_reductions_laws.specs.Serial.{RunsReducing}
use Rattle.al_kinds_laws.specs.Numbers.{HoldsNumbers}
use Rattle.al_kinds_laws.specs.Programs.{IsProgram}
use Rattle.al_kinds_laws.specs.Whole.{is_shut}
use Rattle.al_runs_laws.specs.Accepted.{IsInput, LookAtReads, AreInOrder}
use Rattle.al_runs_laws.specs.Modes.{AreSerializable, AreAllowed, AreOrdered}
use Rattle.al_runs_laws.specs.Numbers.{IsLoopOf}
use Rattle.al_runs_laws.specs.Reports.{ChoicesAreSerializable, ChoicesAreOrdered}
use Rattle.al_runs_laws.specs.Small.{small, main, first_body, below, next, small_choices, small_reductions, first_choice, second_choice}
use Rattle.al_premises_laws.specs.Executions.{making, at_making, first_loop, second_loop, first, second, at_first, at_second, reduced, raw_in_order, full_out_of_order, ordered_choices, knobs, setting, own_infos, ordered_infos}

-- ---- the loops are those of the program

abbrev pub LoopsStand : Type 0
LoopsStand = (loop_at small 0 ≡ Some first_loop) × (loop_at small 1 ≡ Some second_loop)

-- the first loop runs in the memory in which a run starts, with the locals that its frame holds
abbrev pub FirstIsAtStart : Type 0
FirstIsAtStart = (start (setting small_choices)).world.content.memory.objects ≡ at_first.objects

-- ---- chunks of the first loop, which has no reductions

abbrev pub FirstIsUnnamed : Type 0
FirstIsUnnamed = IsUnnamed first at_first

-- a chunk, and another one
abbrev pub FirstChunksAreFresh : Type 0
FirstChunksAreFresh = (◌≢◌ {A = ℕ} 0 1) × IsFresh first at_first 0 × IsFresh first at_first 1

-- ---- rounds of the first loop

-- a round of all three chunks, under RAW out of order
abbrev pub FirstRoundIsMet : Type 0
FirstRoundIsMet =
    (first_choice.reds ≡ []) × LooksAtReads first_choice.policy × AreDistinct (0 ∷ 1 ∷ 2 ∷ [])
    × Each (IsFresh first at_first) (0 ∷ 1 ∷ 2 ∷ [])

-- all rounds
abbrev pub FirstLockstepIsMet : Type 0
FirstLockstepIsMet =
    (first_choice.reds ≡ []) × LooksAtReads first_choice.policy × Each (IsFresh first at_first) (all_chunks first)

-- all rounds, of two chunks each, in order
abbrev pub FirstInOrderIsMet : Type 0
FirstInOrderIsMet =
    (raw_in_order.reds ≡ []) × LooksAtReads raw_in_order.policy × (is_in_order raw_in_order.order ≡ true)
    × (0 < 2) × (0 < first.factor) × Each (IsFresh first at_first) (all_chunks first)

abbrev pub ChunksAscend : Type 0
ChunksAscend = Ascend (0 ∷ 1 ∷ 2 ∷ [])

-- the committed chunks of a round under FULL, from the last to the first
abbrev pub FirstInAnyOrderIsMet : Type 0
FirstInAnyOrderIsMet =
    let cs = commits (round first full_out_of_order (0 ∷ 1 ∷ 2 ∷ []) at_first).verdicts in
    (full_out_of_order.reds ≡ []) × LooksAtWrites full_out_of_order.policy × AreDistinct (0 ∷ 1 ∷ 2 ∷ [])
    × Each (IsFresh first at_first) (0 ∷ 1 ∷ 2 ∷ []) × IsPermutation cs (reverse cs)

-- ---- chunks of the second loop, which has two reductions

-- each of its reduction variables is a variable, and one of its reductions
abbrev pub VariablesAreReduced : Type 0
VariablesAreReduced =
    IsVariable (Local 1) × (is_some (red_index small_reductions (Local 1)) ≡ true)
    × IsVariable (Word (Global 0) 0) × (is_some (red_index small_reductions (Word (Global 0) 0)) ≡ true)

-- the memories differ at the reduction variables, and agree at all that a chunk reads
abbrev pub ReadsAgree : Type 0
ReadsAgree =
    (at_second ≢ reduced) × (length at_second.locals ≡ length reduced.locals)
    × ((a : Addr) → set.contains (outcome second small_reductions at_second 3).reads a ≡ true
    → AgreeAt at_second reduced a)

-- a chunk, and another one
abbrev pub SecondChunksAreReducible : Type 0
SecondChunksAreReducible =
    RunsReducing second small_reductions × (◌≢◌ {A = ℕ} 0 1)
    × IsReducible second small_reductions at_second 0 × IsReducible second small_reductions at_second 1

-- what the engine's calls ask of a memory
abbrev pub SecondIsReady : Type 0
SecondIsReady = (c : ℕ) → IsRunnable second at_second c × IsReady second small_reductions at_second c

-- ---- rounds of the second loop

-- a round of four chunks, after which the fifth may still run
abbrev pub SecondRoundIsMet : Type 0
SecondRoundIsMet =
    RunsReducing second second_choice.reds × LooksAtReads second_choice.policy × AreDistinct (0 ∷ 1 ∷ 2 ∷ 3 ∷ [])
    × Each (IsReducible second second_choice.reds at_second) (0 ∷ 1 ∷ 2 ∷ 3 ∷ [])
    × Each (λ c. c ≢ 4) (commits (round second second_choice (0 ∷ 1 ∷ 2 ∷ 3 ∷ []) at_second).verdicts)
    × IsReducible second second_choice.reds at_second 4

-- all rounds, of two chunks each, in order
abbrev pub SecondInOrderIsMet : Type 0
SecondInOrderIsMet =
    RunsReducing second second_choice.reds × LooksAtReads second_choice.policy
    × (is_in_order second_choice.order ≡ true) × (0 < 2) × (0 < second.factor)
    × Each (IsReducible second second_choice.reds at_second) (all_chunks second)

-- the committed chunks of a round, from the last to the first
abbrev pub SecondInAnyOrderIsMet : Type 0
SecondInAnyOrderIsMet =
    let cs = commits (round second second_choice (0 ∷ 1 ∷ 2 ∷ 3 ∷ []) at_second).verdicts in
    RunsReducing second second_choice.reds × LooksAtWrites second_choice.policy × HasValues at_second
    × AreDistinct (0 ∷ 1 ∷ 2 ∷ 3 ∷ []) × Each (IsFresh second at_second) (0 ∷ 1 ∷ 2 ∷ 3 ∷ [])
    × IsPermutation cs (reverse cs)

-- ---- outcomes

-- The first chunk of the first loop touches x, and its last one nothing.
abbrev pub FirstOutcomesAreMet : Type 0
FirstOutcomesAreMet =
    (◌≢◌ {A = ℕ} 0 2) × IsFresh first at_first 0 × IsFresh first at_first 2
    × AreApart (outcome first [] at_first 0).touched (outcome first [] at_first 2).touched

-- Two chunks of the second loop touch nothing but reduction variables.
abbrev pub SecondOutcomesAreMet : Type 0
SecondOutcomesAreMet =
    RunsReducing second small_reductions × HasValues at_second × (◌≢◌ {A = ℕ} 3 4) × IsFresh second at_second 3
    × IsFresh second at_second 4
    × AreApart
    (outcome second small_reductions at_second 3).touched
    (outcome second small_reductions at_second 4).touched
    × HasValues reduced

-- another global is not touched, and is no reduction variable
abbrev pub UntouchedIsMet : Type 0
UntouchedIsMet =
    IsUntouched (outcome second small_reductions at_second 4).touched (Word (Global 1) 0)
    × (red_index small_reductions (Word (Global 1) 0) ≡ None)

-- a chunk of the first loop begins with a record and no reductions
abbrev pub RecordIsMet : Type 0
RecordIsMet = HasNoReds (chunk_from first [] at_first 0).accesses

-- ---- records

-- the second chunk of the first loop reads x
abbrev pub ReadIsMet : Type 0
ReadIsMet = set.contains (outcome first [] at_first 1).reads (Word (Global 0) 0) ≡ true

-- a chunk makes an object
abbrev pub MadeIsMet : Type 0
MadeIsMet = is_some (map.get (outcome making [] at_making 0).made (Iter 2 0 0)) ≡ true

-- and frees another one
abbrev pub FreedIsMet : Type 0
FreedIsMet = Contains (outcome making [] at_making 0).freed (Serial 0)

-- an outcome says nothing of a global, which is neither written nor a reduction variable
abbrev pub OffIsMet : Type 0
OffIsMet = IsOff small_reductions (outcome second small_reductions at_second 4) (Word (Global 1) 0)

-- what the first chunk of the first loop writes, the second one reads
abbrev pub SetsMeet : Type 0
SetsMeet = meets (outcome first [] at_first 0).touched (outcome first [] at_first 1).reads ≡ true

-- ---- executions and actions

abbrev pub frame : Frame
frame = record { locals = []; own = AllPrivate }

abbrev pub other_frame : Frame
other_frame = record { locals = Int (pos 1) ∷ []; own = AllPrivate }

abbrev pub state_of : {S : Type 0} → S → ℕ → State S
state_of now steps = record { frame = frame; budget = steps; world = now }

-- it divides by 0
abbrev pub traps : {S : Type 0} → Act S Flow
traps = lift 6 (Err trap.Divide)

-- an execution, in rounds of two chunks each, ends without a trap
abbrev pub EndIsMet : Type 0
EndIsMet = (0 < 2) × ((lockstep making raw_in_order 2 at_making).ending ≡ Done) × (0 < chunk_count making)

-- a statement, and an expression where no call is known
abbrev pub does : {S : Type 0} → World S → TStmt → Act S Flow
does world stmt = execute world Inside [] (call_to world Inside small.funcs [] 1) stmt

abbrev pub gives : {S : Type 0} → World S → TExpr → Act S Val
gives world e = value world Inside [] (call_to world Inside small.funcs [] 1) e 6

-- the test, the body and the third part of the first loop add no steps, and there are fewer steps than turns
abbrev pub PartsAddNothing : {S : Type 0} → World S → S → Type 0
PartsAddNothing world now =
    NeverAdds (gives world (below 3)) × NeverAdds (does world first_body) × NeverAdds (does world next)
    × ((state_of now 100).budget < 101)

abbrev pub ActionsAreMet : Type 0
ActionsAreMet =
    PartsAddNothing in_iteration (direct first at_first)
    × PartsAddNothing (outside (setting small_choices)) (start (setting small_choices)).world

-- After a trap two states with other locals are alike, and after what answers by the state two that are one.
abbrev pub TrapsAlike : {S : Type 0} → S → Type 0
TrapsAlike {S} now =
    EndsAlike {S = S} {A = Flow} (traps (state_of now 5)) (traps (record (state_of now 5) { frame = other_frame }))
    × ((flow : Flow) (s : State S) → EndsAlike (pure flow s) (pure flow s))

abbrev pub EndsAreMet : Type 0
EndsAreMet = TrapsAlike (direct first at_first) × TrapsAlike (start (setting small_choices)).world

-- ---- numbers and values

-- the greatest number of 64 bits, the least one, and 0
abbrev pub NumbersFit : Type 0
NumbersFit =
    FitsSigned w64 (pos 9223372036854775807) × FitsSigned w64 (negsuc 9223372036854775807) × FitsSigned w64 (pos 0)

-- of both loops; in the second one two iterations from the seventh on
abbrev pub ValuesAreMet : Type 0
ValuesAreMet =
    RunsInRange first × HasValues at_first × RunsInRange second × HasValues at_second × (7 + 2 ≤ second.trips)
    × SeesValues (chunk_from second small_reductions at_second 0)
    × AllByRecursion GivesValues (outcomes second small_reductions at_second (0 ∷ 1 ∷ []))

-- both loops stand in `main`, and each may begin in its memory
abbrev pub NumbersAreMet : Type 0
NumbersAreMet =
    IsLoopOf first main × HoldsNumbers small main.locals at_first × IsAccepted small first.loop first_choice.reds
    × IsLoopOf second main × HoldsNumbers small main.locals at_second
    × IsAccepted small second.loop second_choice.reds × IsFresh second at_second 0 × HasValues at_second

-- ---- runs

-- a run of the program by its own choices
abbrev pub RunsAreMet : Type 0
RunsAreMet =
    let g = setting small_choices in
    IsProgram g.typed g.input × (0 < g.sizes.factor) × AreSerializable g × AreAllowed g × (is_shut g.typed 0 ≡ true)

-- a run with both loops in order
abbrev pub RunsInOrderAreMet : Type 0
RunsInOrderAreMet =
    let g = setting ordered_choices in
    IsProgram g.typed g.input × (0 < g.sizes.factor) × (0 < g.sizes.lanes) × AreSerializable g × AreOrdered g

-- its report
abbrev pub ReportsInOrderAreMet : Type 0
ReportsInOrderAreMet =
    IsProgram small [] × ChoicesAreSerializable small ordered_choices × ChoicesAreOrdered ordered_choices

-- what is asked of numbers of a run holds at its start
abbrev pub LimitsAreMet : Type 0
LimitsAreMet = AreInRange knobs × HasNames (setting small_choices) (start (setting small_choices)).world

-- ---- sources

abbrev pub InputIsMet : Type 0
InputIsMet = IsInput (pos 12 ∷ negsuc 6 ∷ [])

-- annotations as the two loops have them, and in order
abbrev pub AnnotationsAreMet : Type 0
AnnotationsAreMet = LookAtReads own_infos × LookAtReads ordered_infos × AreInOrder ordered_infos
