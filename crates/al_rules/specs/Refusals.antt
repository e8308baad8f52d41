-- The typed tree of a source and the entries of its annotated loops, or why the source is refused: the first cause in
-- this order.
use Rattle.std.specs.Prelude.{if◌then◌else◌, nat_lt, List, length, unwrap_or, Option, Result, Ok, Err}
use Rattle.al_source.specs.Steps.{and_then}
use Rattle.al_source.specs.declared.limits.TheConstants.{SOURCE_BYTES, SOURCE_NODES}
use Rattle.al_source.specs.declared.faults.LexFault.{LexFault}
use Rattle.al_source.specs.declared.source_tree.Item.{Item}
use Rattle.al_source.specs.declared.source_tree.Program.{Program}
use Rattle.al_grammar.specs.Characters.{Bytes}
use Rattle.al_grammar.specs.Phrases.{Tokens}
use Rattle.al_grammar.specs.Reading.{reading}
use Rattle.al_grammar.specs.Steps.{Read}
use Rattle.al_grammar.specs.ProgramParser.{all_items}
use Rattle.al_core.specs.declared.choices.LoopInfo.{LoopInfo}
use Rattle.al_core.specs.declared.typed_tree.Typed.{Typed}
use Rattle.al_rules.specs.declared.faults.LexicalCause.{LexicalCause}
use Rattle.al_rules.specs.declared.faults.LexicalCause.TheVariants.{TooLong}
use Rattle.al_rules.specs.declared.faults.Refusal.{Refusal}
use Rattle.al_rules.specs.declared.faults.Refusal.TheVariants.{Lexical, Grammar, Layout, Types, Notes, TooManyNodes}
use Rattle.al_rules.specs.Faults.{spelled}
use Rattle.al_rules.specs.Layouts.{fault_of, layout_of}
use Rattle.al_rules.specs.Programs.{typed_with}
use Rattle.al_rules.specs.Notes.{notes_of}

abbrev pub because : {A F : Type 0} → (F → Refusal) → Result A F → Result A Refusal
because cause (Ok a) = Ok a
because cause (Err fault) = Err (cause fault)

-- No reading ends in want of memory.
abbrev pub lexical_cause : LexFault → LexicalCause
lexical_cause fault = unwrap_or (spelled fault) TooLong

abbrev pub tokens_of : Bytes → Result Tokens Refusal
tokens_of source =
    if nat_lt SOURCE_BYTES (length source) then Err (Lexical TooLong)
    else because (λ fault. Lexical (lexical_cause fault)) (reading source)

abbrev pub derived : Read (List Item) → Result Program Refusal
derived (Ok r) = Ok (record { items = r.0 })
derived (Err rest) = Err Grammar

abbrev pub program_of : Tokens → Result Program Refusal
program_of tokens = derived (all_items tokens)

abbrev pub tree_of : Program → Result Typed Refusal
tree_of p = and_then (because Layout (layout_of p)) (λ layout. because Types (typed_with layout p))

-- a typed tree and the entries of its annotated loops, by their numbers
abbrev pub Noted : Type 0
Noted = Typed × List LoopInfo

abbrev pub small_enough : Noted → Result Noted Refusal
small_enough t = if nat_lt SOURCE_NODES t.0.nodes then Err TooManyNodes else Ok t

abbrev pub annotated_well : Typed → Result Noted Refusal
annotated_well typed = and_then (because Notes (notes_of typed)) (λ infos. small_enough (typed, infos))

-- The tokens and the program are those of the functions that read them, of which it is proved that they are the rules
-- of the grammar.
unfoldable pub accepted : Bytes → Result Noted Refusal
accepted source =
    and_then (tokens_of source) (λ tokens.
    and_then (program_of tokens) (λ p.
    and_then (tree_of p) annotated_well))

abbrev pub refusal : Bytes → Option Refusal
refusal source = fault_of (accepted source)
