-- What is planned, and code that shows it. A place is told by how many instructions follow it.
use Rattle.std.specs.Prelude.{◌≡◌, ℕ, suc, ◌-◌, ◌<◌, List, [], ◌∷◌, ◌++◌, length, Some, slice_get}
use Rattle.al_source.specs.declared.texts.Piece.{Piece}
use Rattle.al_core.specs.declared.choices.Bound.{Bound}
use Rattle.al_core.specs.declared.choices.LoopInfo.{LoopInfo}
use Rattle.al_code.specs.declared.instructions.Instr.{Instr}
use Rattle.al_code.specs.declared.instructions.Instr.TheVariants as i
use Rattle.al_code.specs.declared.lowered.Entry.{Entry}
use Rattle.al_code.specs.declared.lowered.Body.{Body}
use Rattle.al_code.specs.declared.lowered.Code.{Code}
use Rattle.al_code.specs.Machine.{holes}
use Rattle.al_code_laws.specs.declared.plan.Op.{Op}
use Rattle.al_code_laws.specs.declared.plan.Op.TheVariants.{As, JumpTo, JumpIfTo, CallOf, PrintOf, LoopTo, EndOf, Never}
use Rattle.al_code_laws.specs.declared.plan.Planned.{Planned}

abbrev pub Plan : Type 0
Plan = List Planned

-- what is planned, by how many instructions follow it
abbrev pub Emit : Type 0
Emit = ℕ → Plan

-- an operation at a line, where the stack has that height
abbrev pub planned : Op → ℕ → ℕ → Planned
planned op line height = record { op = op; line = line; height = height }

-- how many instructions follow the place before these
abbrev pub past : Plan → ℕ → ℕ
past [] n = n
past (p ∷ ps) n = suc (past ps n)

abbrev pub nothing : Emit
nothing after = []

abbrev pub one : Op → ℕ → ℕ → Emit
one op line height after = planned op line height ∷ []

infixr 8 ◌⨟◌
abbrev pub ◌⨟◌ : Emit → Emit → Emit
(a ⨟ b) after = a (past (b after) after) ++ b after

module _ (code : Code) where
  -- where so many instructions follow, the first of them included
  abbrev pub place_of : ℕ → ℕ
  place_of r = length code.instrs - r

  abbrev pub HasInstr : ℕ → Instr → Type 0
  HasInstr r x = slice_get code.instrs (place_of (suc r)) ≡ Some x

  pub record HasLoop (r k counter : ℕ) (bound : Bound) (after : ℕ) : Type 0 where
    pub instr : HasInstr r (i.Loop k)
    pub info : LoopInfo
    pub has_info : slice_get code.loops k ≡ Some info
    pub counts : info.counter ≡ counter
    pub bounds : info.bound ≡ bound
    pub body : Body
    pub has_body : slice_get code.bodies k ≡ Some body
    pub starts : body.start ≡ place_of r
    pub ends : body.end ≡ place_of after

  pub record HasCall (r f count : ℕ) : Type 0 where
    pub instr : HasInstr r (i.Call f)
    pub entry : Entry
    pub has_entry : slice_get code.funcs f ≡ Some entry
    pub takes : entry.params ≡ count

  pub record HasPrint (r : ℕ) (format : List Piece) (count : ℕ) : Type 0 where
    pub number : ℕ
    pub instr : HasInstr r (i.Print number)
    pub has_text : slice_get code.texts number ≡ Some format
    pub takes : holes format ≡ count

  abbrev pub ShowsOp : ℕ → Op → Type 0
  ShowsOp r (As x) = HasInstr r x
  ShowsOp r (JumpTo to) = HasInstr r (i.Jump (place_of to))
  ShowsOp r (JumpIfTo b to) = HasInstr r (i.JumpIf b (place_of to))
  ShowsOp r (CallOf f count) = HasCall r f count
  ShowsOp r (PrintOf format count) = HasPrint r format count
  ShowsOp r (LoopTo k counter bound after) = HasLoop r k counter bound after
  ShowsOp r (EndOf k) = HasInstr r i.EndIteration
  ShowsOp r Never = ⊥

  -- at a place that so many instructions follow
  pub record Shows (r : ℕ) (p : Planned) : Type 0 where
    pub within : r < length code.instrs
    pub at_line : slice_get code.lines (place_of (suc r)) ≡ Some p.line
    pub at_height : slice_get code.heights (place_of (suc r)) ≡ Some p.height
    pub op : ShowsOp r p.op

  abbrev pub Has : ℕ → Plan → Type 0
  Has after [] = Unit {0}
  Has after (p ∷ ps) = Shows (past ps after) p × Has after ps
