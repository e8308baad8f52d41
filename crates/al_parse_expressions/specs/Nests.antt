-- A function value that reads expressions where fewer tokens are left than the limit.
use Rattle.std.specs.Prelude.{ℕ, ◌<◌, length, Result, OnOk}
use denote.Ref.{MutBor}
use Rattle.al_source.specs.declared.source_tree.Expr.{Expr}
use Rattle.al_source.specs.declared.faults.ParseFault.{ParseFault}
use Rattle.al_grammar.specs.ExpressionParser.{parse, whole}
use Rattle.al_parse_expressions.specs.declared.cursor.Cursor.{Cursor}
use Rattle.al_parse_expressions.specs.Cursors.{ParsesCounted}

-- what such a call leaves
abbrev pub Left : Type 1
Left = MutBor Cursor → ℕ → Result Expr ParseFault → MutBor Cursor → Type 0

pub record Nests (limit : ℕ) (pre : MutBor Cursor → ℕ → Type 0) (post : Left) : Type 0 where
  pub callable : (old : MutBor Cursor) (level : ℕ) → length old.now.rest.now < limit → pre old level
  pub reads : (old new : MutBor Cursor) (level : ℕ) (r : Result Expr ParseFault)
      → post old level r new → ParsesCounted (parse (whole level)) old.now r new.now
  pub shorter : (old new : MutBor Cursor) (level : ℕ) (r : Result Expr ParseFault)
      → post old level r new → OnOk r (length new.now.rest.now < length old.now.rest.now)
