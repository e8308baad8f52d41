-- One step of the walk that types statements.
use Rattle.std.proofs.Common.{◌≡◌, refl, ℕ, Bool, ap, ◌∙◌}
use Rattle.std.specs.Prelude.{Ok}
use Rattle.al_source.specs.declared.source_tree.CType.{CType}
use Rattle.al_source.specs.declared.source_tree.StmtKind.{StmtKind}
use Rattle.al_core.specs.declared.typed_tree.TKind.{TKind}
use Rattle.al_core.specs.declared.typed_tree.TStmt.{roll-TStmt}
use Rattle.al_grammar.specs.Statements.{statement_of}
use Rattle.al_rules.specs.Scopes.{Known}
use Rattle.al_rules.specs.Statements.{part, kind_part}
use Rattle.al_rules.specs.Walks.{Walk, Progress, bind, pure}
use Rattle.al_rules.proofs.StatementNodes as nodes

-- the walk of this statement gives the typed one, and leads from one state to the other
abbrev pub stands : Known → ℕ → CType → ℕ → StmtKind → Bool → Progress → TKind → Progress → Type 0
stands known func result line d looped s k z =
    (part known func result (statement_of line d)).walk looped s ≡ Ok (roll-TStmt (record { line = line; kind = k }), z)

pub step : (known : Known) (func : ℕ) (result : CType) (line : ℕ) (d : StmtKind) (looped : Bool) (s : Progress) (w : Walk TKind) (k : TKind) (z : Progress)
    → (kind_part known func result d).walk line looped ≡ w → w s ≡ Ok (k, z) → stands known func result line d looped s k z
unfolding bind pure
step known func result line d looped s w k z is ends =
    ap (λ f. f s) (nodes.walks-stmt known func result (statement_of line d) looped)
    ∙ ap (λ (v : Walk TKind). bind v (λ k. pure (roll-TStmt (record { line = line; kind = k }))) s) is
    ∙ rw ends refl
