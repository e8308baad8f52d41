use Rattle.std.proofs.Common.{◌≡◌, ◌-◌, ℕ, length, take, get_or, sym, ap, ◌∙◌, arith}
use Rattle.al_planes.specs.Masks.{bit_in}
use Rattle.al_sets.specs.declared.blocks.Block.{Block}
use Rattle.al_sets.proofs.Taken.{trimmed_to}
use Rattle.al_sets.proofs.maps.trim.Goals as goal

pub loop-blocks-preserved-in_default : goal.loop-blocks-preserved-in_default
loop-blocks-preserved-in_default c =
    let cs = c.loop-blocks.blocks.items in
    let more = c.loop-blocks.rows.items in
    let now : c.len.result ≡ length cs = c.len.ensures ∙ c.loop-blocks.blocks.ok.0 in
    let long : c.len-last.result ≡ length cs = c.len-last.ensures ∙ c.loop-blocks.blocks.ok.0 in
    trimmed_to c.args.blocks.now.items cs c.args.rows.now.items more
    c.loop-blocks.invariant (omega (arith, now, c.loop-blocks-test.true)) c.index.result.now
    (λ n h. ap (λ (l : ℕ). bit_in (get_or cs (l - 1) c.index.result.now).masks n) (sym long)
    ∙ ap (λ (b : Block). bit_in b.masks n) (sym c.index.ensures) ∙ c.in_default.ensures.none n h)
    c.pop.new.self.items (c.pop.ensures.rest ∙ ap (λ n. take (n - 1) cs) c.loop-blocks.blocks.ok.0)
    c.pop-in-loop-blocks.new.self.items
    (c.pop-in-loop-blocks.ensures.rest ∙ ap (λ n. take (n - 1) more) c.loop-blocks.rows.ok.0)
