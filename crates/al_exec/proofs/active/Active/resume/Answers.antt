use Rattle.std.proofs.Common.{◌≡◌, ◌≤◌, length, take, ap, arith, subst}
use Rattle.std.proofs.lemmas.List.{length-take-le}
use Rattle.al_exec.specs.Active.{Active, active_in, private_of}
use Rattle.al_exec.specs.Frames.{Resumed}
use Rattle.al_exec.proofs.Cells.{resumed}
use Rattle.al_exec.proofs.active.Active.resume.Goals as goal

pub returns : goal.returns
returns c =
    let i = c.self.inside in
    let size : length (take i.base i.cells.items) ≡ i.base =
    length-take-le i.base i.cells.items (omega (arith, c.self.invariant.0, c.self.invariant.1, c.self.invariant.2)) in
    let high : c.args.left.floor ≤ i.base = omega (arith, c.requires.floor, size, ap (λ s. length s.below) c.self.view_is) in
    subst
    (λ (s : Active).
    Resumed s c.args.left (active_in i.cells.items c.args.left.place c.args.left.base c.args.left.floor i.base (private_of c.args.left.own) i.budget))
    c.self.view_is
    (resumed i.cells.items i.place i.base i.floor i.top (private_of i.own) i.budget c.args.left
    c.self.invariant.0 c.self.invariant.1 c.self.invariant.2 c.requires.base high)
