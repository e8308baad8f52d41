-- A function value that reads statements of this many levels.
use Rattle.std.specs.Prelude.{ℕ, ◌<◌, length, Result, OnOk}
use denote.Ref.{MutBor}
use Rattle.al_source.specs.declared.source_tree.Stmt.{Stmt}
use Rattle.al_source.specs.declared.faults.ParseFault.{ParseFault}
use Rattle.al_grammar.specs.StatementParser.{statement}
use Rattle.al_parse_expressions.specs.declared.cursor.Cursor.{Cursor}
use Rattle.al_parse_expressions.specs.Cursors.{Parses}

-- what such a call leaves
abbrev pub Left : Type 1
Left = MutBor Cursor → ℕ → Result Stmt ParseFault → MutBor Cursor → Type 0

pub record NestsStatement (depth : ℕ) (pre : MutBor Cursor → ℕ → Type 0) (post : Left) : Type 0 where
  pub callable : (old : MutBor Cursor) → pre old depth
  pub reads : (old new : MutBor Cursor) (r : Result Stmt ParseFault)
      → post old depth r new → Parses (statement depth) old.now r new.now
  pub shorter : (old new : MutBor Cursor) (r : Result Stmt ParseFault)
      → post old depth r new → OnOk r (length new.now.rest.now < length old.now.rest.now)
