use Rattle.std.proofs.Common.{◌≡◌, ◌+◌, ◌++◌, ◌∷◌, ◌-◌, [], take, ap, ◌∙◌, refl, append-nil}
use Rattle.al_code.specs.declared.instructions.Instr.TheVariants as i
use Rattle.al_exec.specs.declared.machine.Machine.{Machine}
use Rattle.al_exec.proofs.Returned.{ended, returned}
use Rattle.al_exec.proofs.machine.Machine.leave.Goals as goal

pub peek-v-requires : goal.peek-v-requires
peek-v-requires c =
    (c.requires.valid.instrs c.args.self.now.active.place i.Return c.args.self.now.active.height c.requires.at c.requires.stands.fits.height).operands

pub returns-in-None-clause-moves : goal.returns-in-None-clause-moves
returns-in-None-clause-moves c input w =
    let m = c.args.self.now in
    let none : m.callers.items ≡ [] =
    c.in-None.ensures.items ∙ append-nil c.pop.new.self.items ∙ c.in-None.ensures.rest
    ∙ ap (λ n. take (n - 1) m.callers.items) c.in-None.ensures.cases.0 in
    let m' : Machine = record m { callers = c.pop.new.self } in
    ended c.args.code.now m m' c.unpack.result none (c.unpack.ensures ∙ c.peek-v.ensures) refl refl input w

pub returns-in-Some-clause-moves : goal.returns-in-Some-clause-moves
returns-in-Some-clause-moves c input w =
    let m = c.args.self.now in
    let waits : m.callers.items ≡ c.pop.new.self.items ++ c.in-Some.field-0 ∷ [] = c.in-Some.ensures.items in
    let m' : Machine = record m { active = c.push.new.self; inner = c.in-Some.field-0.inner; callers = c.pop.new.self; room = m.room + 1 } in
    returned c.args.code.now m c.requires.stands c.in-Some.field-0 c.pop.new.self.items waits m' c.peek-v.result c.resume.new.self
    c.resume.ensures c.peek-v.ensures c.push.ensures refl refl refl refl refl input w
