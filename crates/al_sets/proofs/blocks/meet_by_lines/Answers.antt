use Rattle.std.proofs.Common.{◌≡◌, [], sym, ◌∙◌, inl, inr, arith}
use Rattle.std.proofs.Math.Bool.{true≢false}
use Rattle.std.proofs.lemmas.Bool.{cases_lt}
use Rattle.al_sets.specs.declared.blocks.Block.{Block}
use Rattle.al_sets.specs.Blocks.{block_has}
use Rattle.al_sets.proofs.Truth.{one_of}
use Rattle.al_sets.proofs.Lining.{common_line, common_offsets, no_line}
use Rattle.al_sets.proofs.blocks.meet_by_lines.Goals as goal
use Rattle.al_sets.proofs.blocks.meet_by_lines.Goals.{in-Ok+else-block_meets_by_lines, in_default}

pub returns-then-block_meets_by_lines-clause-met : goal.returns-then-block_meets_by_lines-clause-met
returns-then-block_meets_by_lines-clause-met c _ =
    common_line c.args.line c.args.few.now c.args.many.now c.loop-block.block-index c.in-Ok.i _ c.requires
    c.loop-block-test.true c.in-Ok.ensures.found (c.block_meets_by_lines.ensures.met c.if-block_meets_by_lines.true)

pub loop-block-preserved : goal.loop-block-preserved
loop-block-preserved c k d a b lt h g s = elim (cases_lt k c.loop-block.block-index) [
  | inl below ↦ c.loop-block.invariant k d a b below h g s
  | inr le ↦
      let e : k ≡ c.loop-block.block-index = omega arith in
      elim c.match-search.branch [
        | in-Ok+else-block_meets_by_lines x ↦
            let met =
            x.block_meets_by_lines.ensures.every (common_offsets c.args.line c.args.few.now c.args.many.now k
            c.loop-block.block-index d _ a b e c.loop-block-test.true h s x.in-Ok.i c.requires x.in-Ok.ensures.found g) in
            true≢false (sym met ∙ x.if-block_meets_by_lines.false)
        | in_default x ↦
            true≢false (sym g ∙ no_line c.args.line c.args.few.now c.args.many.now k c.loop-block.block-index d _ a b e
            c.loop-block-test.true h s _ x.in_default.ensures.absent)
      ]
]

pub returns-clause-every : goal.returns-clause-every
returns-clause-every c m =
    let f = one_of (block_has m.first) c.args.few.now m.in_first in
    let d : Block = record { place = m.first; masks = [] } in
    absurd (c.loop-block.invariant f.0 d m.first m.second (omega (arith, f.1)) (f.2 d) m.in_second m.same)
