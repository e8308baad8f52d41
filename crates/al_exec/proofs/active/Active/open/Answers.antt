use Rattle.std.proofs.Common.{◌≤◌, ◌-◌, ◌+◌, refl, ap, arith, subst}
use Rattle.al_core.specs.Action.{AllPrivate}
use Rattle.al_exec.specs.declared.active.Left.{Left}
use Rattle.al_exec.specs.Active.{Active, active_in, private_of}
use Rattle.al_exec.specs.Frames.{Opened}
use Rattle.al_exec.proofs.Cells.{opened}
use Rattle.al_exec.proofs.active.Active.open.Goals as goal

pub returns : goal.returns
returns c =
    let i = c.self.inside in
    let n = c.args.locals in
    let left : Left = record { place = i.place + 1; base = i.base; floor = i.floor; own = i.own } in
    let some : n ≤ i.top - i.floor = omega (arith, c.requires.locals, ap (λ s. s.height) c.self.view_is) in
    subst
    (λ (s : Active). Opened s n c.args.start left (active_in i.cells.items c.args.start (i.top - n) i.top i.top AllPrivate i.budget))
    c.self.view_is
    (opened i.cells.items i.place i.base i.floor i.top (private_of i.own) i.budget n c.args.start left
    c.self.invariant.0 c.self.invariant.1 c.self.invariant.2 some refl refl refl refl)
