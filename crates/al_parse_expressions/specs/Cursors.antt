-- What a cursor is to the definitions, and what a method that reads tokens ensures.
use Rattle.std.specs.Prelude.{Result}
use Rattle.al_source.specs.declared.faults.ParseFault.{ParseFault}
use Rattle.al_source.specs.Answers.{Walks}
use Rattle.al_source.specs.Faults.{syntactic}
use Rattle.al_grammar.specs.Expressions.{State}
use Rattle.al_grammar.specs.Steps.{Step}
use Rattle.al_grammar.specs.ExpressionParser.{Parser}
use Rattle.al_parse_expressions.specs.declared.cursor.Cursor.{Cursor}

-- the operators that may still come, and the tokens that are left
abbrev pub state : Cursor → State
state c = (c.room, c.rest.now)

-- What the step reads and leaves. After a syntax fault the cursor stands at the first bad token.
abbrev pub Parses : {A : Type 0} → Step A → Cursor → Result A ParseFault → Cursor → Type 0
Parses step old result new = Walks (syntactic new.rest.now) (step old.rest.now) result new.rest.now

-- the same of a step that counts operators
abbrev pub ParsesCounted : {A : Type 0} → Parser A → Cursor → Result A ParseFault → Cursor → Type 0
ParsesCounted step old result new = Walks (syntactic new.rest.now) (step (state old)) result (state new)
