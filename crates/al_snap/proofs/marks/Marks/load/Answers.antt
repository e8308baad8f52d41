use Rattle.std.proofs.Common.{◌≡◌, false, cond, sym, ap, ◌∙◌}
use Rattle.std.specs.FinSet as set
use Rattle.al_core.specs.Access.{AccessRecord, with_read, with_head}
use Rattle.al_snap.specs.Marks.{marked}
use Rattle.al_snap.proofs.marks.Marks.load.Goals as goal

pub returns-in_ok-read : goal.returns-in_ok-read
returns-in_ok-read c x told =
    let at = c.args.at in
    let y : AccessRecord = with_head (marked x c.args.self.now) at in
    let head : marked x c.head.new.self ≡ y = c.in_ok-head.ensures x in
    let untouched : set.contains y.touched at ≡ false =
    ap (λ (z : AccessRecord). set.contains z.touched at) (sym head) ∙ sym (told c.if-found.true) ∙ c.if-not-touched.true in
    c.in_ok-read.ensures x
    ∙ ap (λ (y : AccessRecord). with_read y at) head
    ∙ (λ t. cond (sym c.if-found.true t) (cond (sym untouched t) y (with_read y at)) y)
