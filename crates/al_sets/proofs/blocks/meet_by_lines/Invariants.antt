use Rattle.std.proofs.Common.{◌≡◌, ℕ, ◌<◌, true, get_or}
use Rattle.al_core.specs.declared.values.Addr.{Addr}
use Rattle.al_core.specs.Lines.{line_of}
use Rattle.al_planes.specs.Lines.{size}
use Rattle.al_sets.specs.declared.blocks.Block.{Block}
use Rattle.al_sets.specs.Blocks.{block_has, has_address}
use Rattle.al_sets.proofs.blocks.meet_by_lines.Given as goal

abbrev pub invariant-loop-block : goal.invariant-loop-block
invariant-loop-block l =
    (k : ℕ) (d : Block) (a b : Addr) → k < l.block-index → block_has a (get_or l.few k d) ≡ true
    → has_address l.many b ≡ true → line_of (size l.line) a ≡ line_of (size l.line) b → ⊥
