use Rattle.std.proofs.Common.{◌≡◌, [], sym, ◌∙◌, inl, inr, arith}
use Rattle.std.proofs.Math.Bool.{true≢false}
use Rattle.std.proofs.lemmas.Bool.{cases_lt}
use Rattle.al_sets.specs.declared.blocks.Block.{Block}
use Rattle.al_sets.specs.Blocks.{block_has}
use Rattle.al_sets.proofs.Truth.{one_of}
use Rattle.al_sets.proofs.Meeting.{common_address, common_place_at, none_common_at}
use Rattle.al_sets.proofs.blocks.meet.Goals as goal
use Rattle.al_sets.proofs.blocks.meet.Goals.{in-Ok+else-masks_meet, in_default}

pub returns-then-masks_meet-clause-met : goal.returns-then-masks_meet-clause-met
returns-then-masks_meet-clause-met c _ =
    common_address c.args.few.now c.args.many.now c.loop-block.block-index c.in-Ok.i _ c.requires c.loop-block-test.true
    c.in-Ok.ensures.found (c.masks_meet.ensures.met c.if-masks_meet.true)

pub loop-block-preserved : goal.loop-block-preserved
loop-block-preserved c k d a lt h g = elim (cases_lt k c.loop-block.block-index) [
  | inl below ↦ c.loop-block.invariant k d a below h g
  | inr le ↦
      let e : k ≡ c.loop-block.block-index = omega arith in
      elim c.match-search.branch [
        | in-Ok+else-masks_meet x ↦
            let met =
            x.masks_meet.ensures.every (common_place_at c.args.few.now c.args.many.now k c.loop-block.block-index x.in-Ok.i d _ a
            c.requires e c.loop-block-test.true x.in-Ok.ensures.found h g) in
            true≢false (sym met ∙ x.if-masks_meet.false)
        | in_default x ↦
            true≢false (sym g ∙ none_common_at c.args.few.now c.args.many.now k c.loop-block.block-index _ d _ a e
            c.loop-block-test.true x.in_default.ensures.absent h)
      ]
]

pub returns-clause-every : goal.returns-clause-every
returns-clause-every c m =
    let f = one_of (block_has m.address) c.args.few.now m.in_first in
    let d : Block = record { place = m.address; masks = [] } in
    absurd (c.loop-block.invariant f.0 d m.address (omega (arith, f.1)) (f.2 d) m.in_second)
