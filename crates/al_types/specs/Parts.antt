-- The parts of a statement that may be absent.
use Rattle.std.specs.Prelude.{ℕ, Bool, Option, Some, None}
use Rattle.al_source.specs.declared.source_tree.CType.{CType}
use Rattle.al_source.specs.declared.source_tree.Expr.{Expr}
use Rattle.al_source.specs.declared.source_tree.Stmt.{Stmt}
use Rattle.al_core.specs.declared.typed_tree.TExpr.{TExpr}
use Rattle.al_core.specs.declared.typed_tree.TStmt.{TStmt}
use Rattle.al_rules.specs.Scopes.{Known}
use Rattle.al_rules.specs.Statements.{Part, part, is_body, part_if, condition}
use Rattle.al_rules.specs.Walks.{Walk, pure, ◌>>=◌}

abbrev pub any_of : Known → ℕ → CType → Option Stmt → Option Part
any_of known func gives None = None
any_of known func gives (Some s) = Some (part known func gives s)

-- a condition, and then what stands behind it
abbrev pub tested : Known → ℕ → CType → ℕ → Bool → Expr → Part → Walk (TExpr × TStmt)
tested known func gives line looped test body =
    condition known func gives line test >>= (λ c.
    part_if is_body body looped >>= (λ a. pure (c, a)))
