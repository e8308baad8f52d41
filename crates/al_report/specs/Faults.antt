-- What is said of each fault of a source or an input. Want of memory is no cause and has no text: a condition of each
-- call rules it out.
use Rattle.std.specs.Prelude.{ℕ, List, [], codes, Option, Some, None, option_map}
use Rattle.al_source.specs.declared.faults.LexFault.{LexFault}
use Rattle.al_source.specs.declared.faults.ParseFault.{ParseFault}
use Rattle.al_source.specs.declared.faults.ParseFault.TheVariants as parse
use Rattle.al_text.specs.declared.faults.InputFault.{InputFault}
use Rattle.al_text.specs.declared.faults.InputCause.{InputCause}
use Rattle.al_text.specs.declared.faults.InputCause.TheVariants as input
use Rattle.al_text.specs.Faults as text
use Rattle.al_rules.specs.declared.faults.LexicalCause.{LexicalCause}
use Rattle.al_rules.specs.declared.faults.LexicalCause.TheVariants as lexical
use Rattle.al_rules.specs.declared.faults.LayoutFault.{LayoutFault}
use Rattle.al_rules.specs.declared.faults.LayoutCause.{LayoutCause}
use Rattle.al_rules.specs.declared.faults.LayoutCause.TheVariants as layout
use Rattle.al_rules.specs.declared.faults.TypeFault.{TypeFault}
use Rattle.al_rules.specs.declared.faults.TypeKind.{TypeKind}
use Rattle.al_rules.specs.declared.faults.TypeKind.TheVariants.{Twice, Unknown, Shape, Mismatch, NotPlace, LocalAddress, Count, Return, Outside, Main}
use Rattle.al_rules.specs.declared.faults.NoteFault.{NoteFault}
use Rattle.al_rules.specs.declared.faults.NoteKind.{NoteKind}
use Rattle.al_rules.specs.declared.faults.NoteKind.TheVariants.{Form, IndexChanges, BoundChanges, Leaves, ReductionName, ReductionAddress, ReductionUsed}
use Rattle.al_rules.specs.declared.faults.LowerFault.{LowerFault}
use Rattle.al_rules.specs.declared.faults.LowerFault.TheVariants as lower
use Rattle.al_rules.specs.declared.faults.Refusal.{Refusal}
use Rattle.al_rules.specs.declared.faults.Refusal.TheVariants.{Lexical, Grammar, Layout, Types, Notes, TooManyNodes}
use Rattle.al_rules.specs.Faults.{spelled, laid, typed, noted}
use Rattle.al_report.specs.Lines.{of_file, of_line}

-- ---- causes

abbrev pub lexical_text : List ℕ → LexicalCause → List ℕ
lexical_text name lexical.TooLong = of_file name (codes "source too long")
lexical_text name (lexical.BadByte line) = of_line name line (codes "bad byte")
lexical_text name (lexical.BadNumber line) = of_line name line (codes "bad number")
lexical_text name (lexical.BadText line) = of_line name line (codes "bad text")
lexical_text name (lexical.OpenComment line) = of_line name line (codes "open comment")

abbrev pub sizes_text : List ℕ → LayoutCause → List ℕ
sizes_text name (layout.SelfHolding line) = of_line name line (codes "struct holds itself")
sizes_text name (layout.TooLarge line) = of_line name line (codes "too many words")

abbrev pub type_kind_name : TypeKind → List ℕ
type_kind_name Twice = codes "name defined twice"
type_kind_name Unknown = codes "unknown name"
type_kind_name Shape = codes "type not allowed here"
type_kind_name Mismatch = codes "wrong type"
type_kind_name NotPlace = codes "not a place"
type_kind_name LocalAddress = codes "address of a local"
type_kind_name Count = codes "wrong number of arguments"
type_kind_name Return = codes "wrong return"
type_kind_name Outside = codes "break or continue outside a loop"
type_kind_name Main = codes "no main function"

abbrev pub note_kind_name : NoteKind → List ℕ
note_kind_name Form = codes "loop form"
note_kind_name IndexChanges = codes "counter changes"
note_kind_name BoundChanges = codes "bound changes"
note_kind_name Leaves = codes "loop is left"
note_kind_name ReductionName = codes "reduction name"
note_kind_name ReductionAddress = codes "reduction address"
note_kind_name ReductionUsed = codes "reduction used"

-- a source that is refused
abbrev pub refusal_text : List ℕ → Refusal → List ℕ
refusal_text name (Lexical cause) = lexical_text name cause
refusal_text name Grammar = of_file name (codes "not a program")
refusal_text name (Layout cause) = sizes_text name cause
refusal_text name (Types cause) = of_line name cause.line (type_kind_name cause.kind)
refusal_text name (Notes cause) = of_line name cause.line (note_kind_name cause.kind)
refusal_text name TooManyNodes = of_file name (codes "too many nodes")

-- an input that is refused
abbrev pub input_cause_text : List ℕ → InputCause → List ℕ
input_cause_text name input.TooLong = of_file name (codes "input too long")
input_cause_text name (input.NotNumber line) = of_line name line (codes "not a number")
input_cause_text name (input.OutOfRange line) = of_line name line (codes "out of range")
input_cause_text name input.TooMany = of_file name (codes "too many numbers")

-- ---- faults

abbrev pub told : List ℕ → Option Refusal → List ℕ
told name (Some cause) = refusal_text name cause
told name None = []

abbrev pub lex_text : List ℕ → LexFault → List ℕ
lex_text name fault = told name (option_map Lexical (spelled fault))

abbrev pub parse_text : List ℕ → ParseFault → List ℕ
parse_text name parse.Syntax = told name (Some Grammar)
parse_text name parse.Memory = told name None

abbrev pub layout_text : List ℕ → LayoutFault → List ℕ
layout_text name fault = told name (option_map Layout (laid fault))

abbrev pub type_text : List ℕ → TypeFault → List ℕ
type_text name fault = told name (option_map Types (typed fault))

abbrev pub note_text : List ℕ → NoteFault → List ℕ
note_text name fault = told name (option_map Notes (noted fault))

abbrev pub lower_text : List ℕ → LowerFault → List ℕ
lower_text name lower.TooLarge = told name (Some TooManyNodes)
lower_text name lower.Memory = told name None

abbrev pub input_told : List ℕ → Option InputCause → List ℕ
input_told name (Some cause) = input_cause_text name cause
input_told name None = []

abbrev pub input_text : List ℕ → InputFault → List ℕ
input_text name fault = input_told name (text.told fault)
