use Rattle.std.proofs.Common.{◌≡◌, ◌≤◌, ◌-◌, ap, ◌∙◌, arith, take, drop, reverse}
use Rattle.al_exec.specs.Active.{Active, private_of}
use Rattle.al_exec.proofs.Cells.{tops}
use Rattle.al_exec.proofs.active.Active.top_values.Goals as goal

pub returns : goal.returns
returns c =
    let i = c.self.inside in
    let n = c.args.count in
    let some : n ≤ i.top - i.floor = omega (arith, c.requires, ap (λ s. s.height) c.self.view_is) in
    let same : i.top - (i.top - n) ≡ n = omega (arith, some) in
    ap (λ k. take k (drop (i.top - n) c.deref.result.now)) same
    ∙ ap (λ cells. take n (drop (i.top - n) cells)) c.deref.ensures.value
    ∙ tops i.cells.items i.place i.base i.floor i.top (private_of i.own) i.budget n c.self.invariant.1 c.self.invariant.2 some
    ∙ ap (λ (s : Active). reverse (take n s.stack)) c.self.view_is
