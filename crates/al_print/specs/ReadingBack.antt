-- What it means that a text is read back.
use Rattle.std.specs.Prelude.{◌≡◌, List}
use Rattle.al_source.specs.declared.tokens.Token.{Token}
use Rattle.al_source.specs.declared.source_tree.Program.{Program}
use Rattle.al_grammar.specs.Characters.{Bytes}
use Rattle.al_grammar.specs.Spelling.{Spells}
use Rattle.al_grammar.specs.Programs.{Derives}
use Rattle.al_print.specs.Lines.{without_lines}

-- A source spells tokens that derive the program.
abbrev pub HasSource : Program → Type 0
HasSource p = (source : Bytes) × (tokens : List Token) × Spells source tokens × Derives tokens p

-- A text spells tokens, and these derive a program that is the given one but for its lines.
abbrev pub ReadsBack : Program → Bytes → Type 0
ReadsBack p text =
    (tokens : List Token) × (q : Program) × Spells text tokens × Derives tokens q × (without_lines q ≡ without_lines p)
