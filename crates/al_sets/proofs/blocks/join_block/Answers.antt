use Rattle.std.proofs.Common.{◌≡◌, ◌||◌, List, cond, ap, sym, subst, ◌∙◌}
use Rattle.std.specs.List.{insert}
use Rattle.al_planes.specs.Masks.{bit_in}
use Rattle.al_sets.specs.declared.blocks.Block.{Block}
use Rattle.al_sets.specs.Blocks.{IsAscending, IsAt, IsGapFor, has_address}
use Rattle.al_sets.proofs.Edits.{block_joined, block_added, ascending_set, ascending_inserted}
use Rattle.al_sets.proofs.blocks.join_block.Goals as goal

pub returns-in-Ok-clause-ascending : goal.returns-in-Ok-clause-ascending
returns-in-Ok-clause-ascending c =
    let bs : List Block = c.args.blocks.now.items in
    let at : IsAt bs c.args.more.now.place c.in-Ok.i =
    subst (λ l. IsAt l c.args.more.now.place c.in-Ok.i) c.as_slice.ensures.value c.in-Ok.ensures.found in
    ascending_set bs c.args.more.now.place c.in-Ok.i _
    (ap (λ (b : Block). b.place) c.index_mut.ensures.value ∙ at.same c.index_mut.result.now) at c.requires.ascending

pub returns-in-Ok-clause-addresses : goal.returns-in-Ok-clause-addresses
returns-in-Ok-clause-addresses c =
    let bs : List Block = c.args.blocks.now.items in
    let at : IsAt bs c.args.more.now.place c.in-Ok.i =
    subst (λ l. IsAt l c.args.more.now.place c.in-Ok.i) c.as_slice.ensures.value c.in-Ok.ensures.found in
    block_joined bs c.in-Ok.i _ c.args.more.now c.index_mut.result.now at
    (ap (λ (b : Block). b.place) c.index_mut.ensures.value)
    (λ j. c.masks_join.ensures j ∙ ap (λ (b : Block). bit_in c.args.more.now.masks j || bit_in b.masks j) c.index_mut.ensures.value)

pub returns-in-Err-clause-ascending : goal.returns-in-Err-clause-ascending
returns-in-Err-clause-ascending c =
    let bs : List Block = c.args.blocks.now.items in
    let m : Block = c.args.more.now in
    let gap : IsGapFor bs m.place c.in-Err.i =
    subst (λ l. IsGapFor l m.place c.in-Err.i) c.as_slice.ensures.value c.in-Err.ensures.absent in
    let done : c.insert-done.new.self.items ≡ insert bs c.in-Err.i m =
    c.insert-done.ensures.items ∙ ap (λ b. cond b (insert bs c.in-Err.i m) bs) (c.insert-done.ensures.succeeds c.requires.room) in
    subst IsAscending (sym done) (ascending_inserted bs m.place c.in-Err.i m (λ t. m.place) gap c.requires.ascending)

pub returns-in-Err-clause-addresses : goal.returns-in-Err-clause-addresses
returns-in-Err-clause-addresses c a =
    let bs : List Block = c.args.blocks.now.items in
    let m : Block = c.args.more.now in
    let done : c.insert-done.new.self.items ≡ insert bs c.in-Err.i m =
    c.insert-done.ensures.items ∙ ap (λ b. cond b (insert bs c.in-Err.i m) bs) (c.insert-done.ensures.succeeds c.requires.room) in
    ap (λ l. has_address l a) done ∙ block_added bs c.in-Err.i m a
