-- What is planned, as lists of instructions, lines, heights, texts and bodies.
use Rattle.std.specs.Prelude.{◌≡◌, ℕ, ◌-◌, List, [], ◌∷◌, ◌++◌, length, map, Option, Some, None}
use Rattle.al_source.specs.declared.texts.Piece.{Piece}
use Rattle.al_core.specs.declared.choices.LoopInfo.{LoopInfo}
use Rattle.al_core.specs.declared.typed_tree.TFunc.{TFunc}
use Rattle.al_core.specs.declared.typed_tree.Typed.{Typed}
use Rattle.al_code.specs.declared.instructions.Instr.{Instr}
use Rattle.al_code.specs.declared.instructions.Instr.TheVariants as i
use Rattle.al_code.specs.declared.lowered.Body.{Body}
use Rattle.al_code.specs.declared.lowered.Code.{Code}
use Rattle.al_code.specs.declared.lowered.Entry.{Entry}
use Rattle.al_code_laws.specs.declared.plan.Op.{Op}
use Rattle.al_code_laws.specs.declared.plan.Op.TheVariants.{As, JumpTo, JumpIfTo, CallOf, PrintOf, LoopTo, EndOf, Never}
use Rattle.al_code_laws.specs.declared.plan.Planned.{Planned}
use Rattle.al_code_laws.specs.Planned.{Plan, past}
use Rattle.al_lower.specs.declared.assembly.Parts.{Parts}
use Rattle.al_lower.specs.Emits.{program_code}

-- what is taken from the front of a plan
abbrev pub TakesFirst : Plan → Option Planned → Plan → Type 0
TakesFirst old None new = old ≡ []
TakesFirst old (Some p) new = old ≡ p ∷ new

-- The instruction of an operation, among so many in all, after so many texts. Never is a return.
abbrev pub instr_of : ℕ → ℕ → Op → Instr
instr_of total texts (As x) = x
instr_of total texts (JumpTo to) = i.Jump (total - to)
instr_of total texts (JumpIfTo b to) = i.JumpIf b (total - to)
instr_of total texts (CallOf f count) = i.Call f
instr_of total texts (PrintOf format count) = i.Print texts
instr_of total texts (LoopTo k counter bound after) = i.Loop k
instr_of total texts (EndOf k) = i.EndIteration
instr_of total texts Never = i.Return

abbrev pub text_in : Op → List (List Piece)
text_in (PrintOf format count) = format ∷ []
text_in _ = []

-- the body of a loop's instruction that so many follow
abbrev pub body_in : ℕ → ℕ → Op → List Body
body_in total left (LoopTo k counter bound after) = record { start = total - left; end = total - after } ∷ []
body_in total left _ = []

abbrev pub no_parts : Parts
no_parts = record { instrs = []; lines = []; heights = []; texts = []; bodies = [] }

-- one operation more, which so many follow
abbrev pub with_planned : ℕ → ℕ → Planned → Parts → Parts
with_planned total left p parts = record {
  instrs = parts.instrs ++ instr_of total (length parts.texts) p.op ∷ [];
  lines = parts.lines ++ p.line ∷ [];
  heights = parts.heights ++ p.height ∷ [];
  texts = parts.texts ++ text_in p.op;
  bodies = parts.bodies ++ body_in total left p.op;
}

abbrev pub assembled : ℕ → Plan → Parts → Parts
assembled total [] parts = parts
assembled total (p ∷ ps) parts = assembled total ps (with_planned total (length ps) p parts)

-- ---- functions

-- an entry by how many instructions follow its places, and so many the last function
abbrev pub entries_from_end : List TFunc → ℕ → List Entry
entries_from_end [] n = []
entries_from_end (f ∷ fs) n =
    record {
      start = past (program_code (f ∷ fs) n) n;
      end = past (program_code fs n) n;
      params = f.params;
      locals = length f.locals;
    }
    ∷ entries_from_end fs n

-- by the place from the start
abbrev pub turned : ℕ → Entry → Entry
turned total e = record e { start = total - e.start; end = total - e.end }

-- ---- the whole

abbrev pub with_parts : Parts → Typed → List Entry → List LoopInfo → Code
with_parts parts typed funcs infos = record {
  instrs = parts.instrs;
  lines = parts.lines;
  heights = parts.heights;
  globals = typed.globals;
  funcs = funcs;
  main = typed.main;
  loops = infos;
  bodies = parts.bodies;
  texts = parts.texts;
}

abbrev pub code_by_plan : Plan → Typed → List LoopInfo → Code
code_by_plan plan typed infos =
    with_parts (assembled (length plan) plan no_parts) typed
    (map (turned (length plan)) (entries_from_end typed.funcs 0)) infos

-- the code of a typed tree with these entries of its annotated loops
unfoldable pub code_of : Typed → List LoopInfo → Code
code_of typed infos = code_by_plan (program_code typed.funcs 0) typed infos
