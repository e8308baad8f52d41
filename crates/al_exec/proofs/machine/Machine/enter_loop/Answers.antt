use Rattle.std.proofs.Common.{rules, w64, sym, subst, refl}
use Rattle.al_exec.specs.declared.machine.Machine.{Machine}
use Rattle.std.proofs.lemmas.Int.{to_z-of_z}
use mir.Val.{SFits}
use Rattle.al_code.specs.declared.instructions.Instr.TheVariants as i
use Rattle.al_exec.specs.declared.machine.Onward.{Onward}
use Rattle.al_exec.specs.declared.machine.Onward.TheVariants as onward
use Rattle.al_exec.specs.Machines.{Moved}
use Rattle.al_exec.proofs.LoopMoves.{loop_there, body_there, start_there, range_fault, stopped, entered, entered_fault}
use Rattle.al_exec.proofs.machine.Machine.enter_loop.Goals as goal

pub info_at-info-requires : goal.info_at-info-requires
info_at-info-requires g c = loop_there c.args.code.now c.requires.valid c.args.self.now c.requires.stands c.args.k c.requires.at

pub body_at-body-requires : goal.body_at-body-requires
body_at-body-requires g c = body_there c.args.code.now c.requires.valid c.args.self.now c.requires.stands c.args.k c.requires.at

pub range-requires : goal.range-requires
range-requires g c = start_there c.args.code.now c.requires.valid c.args.self.now c.requires.stands c.args.k c.requires.at

pub returns-in-Err-clause-moves : goal.returns-in-Err-clause-moves
returns-in-Err-clause-moves g c input =
    let m : Machine = c.args.self.now in
    let m' : Machine = record m { active = c.range.new.self } in
    range_fault c.args.code.now c.requires.valid m c.requires.stands c.args.k c.requires.at
    c.info_at-info.result.now c.body_at-body.result c.info_at-info.ensures c.body_at-body.ensures
    c.in-Err.e m' (g.V.View.content c.args.view.now) (g.V.View.content c.range.new.view) c.in-Err.ensures.read input

pub returns-then-not-self-clause-moves : goal.returns-then-not-self-clause-moves
returns-then-not-self-clause-moves g c input =
    let m : Machine = c.args.self.now in
    let m' : Machine = record m { active = c.goto.new.self; counter = c.info_at-info.result.now.counter } in
    let low : SFits w64 c.in-Ok.range.lo = search rules in
    let high : SFits w64 c.in-Ok.range.hi = search rules in
    subst
    (λ (r : Onward). Moved input c.args.code.now (i.Loop c.args.k) m (g.V.View.content c.args.view.now) r m' (g.V.View.content c.range.new.view))
    (λ j. onward.Stops c.args.k (sym (to_z-of_z w64 c.in-Ok.range.lo low) j) (sym (to_z-of_z w64 c.in-Ok.range.hi high) j))
    (stopped c.args.code.now c.requires.valid m c.requires.stands c.args.k c.requires.at
    c.info_at-info.result.now c.body_at-body.result c.info_at-info.ensures c.body_at-body.ensures
    c.in-Ok.range c.range.new.self (g.V.View.content c.args.view.now) (g.V.View.content c.range.new.view) c.in-Ok.ensures.read
    c.if-not-self.true m' c.goto.ensures refl refl refl refl refl refl input)

pub returns-in-Ok-begin_loop-clause-moves : goal.returns-in-Ok-begin_loop-clause-moves
returns-in-Ok-begin_loop-clause-moves g c input =
    let m : Machine = c.args.self.now in
    entered c.args.code.now c.requires.valid m c.requires.stands c.args.k c.requires.at
    c.info_at-info.result.now c.body_at-body.result c.info_at-info.ensures c.body_at-body.ensures
    c.in-Ok.range c.range.new.self (g.V.View.content c.args.view.now) (g.V.View.content c.range.new.view) c.in-Ok.ensures.read
    c.if-not-self.false c.begin_loop.new.self (g.V.View.content c.begin_loop.new.view) c.in-Ok-begin_loop.ensures.begins input

pub returns-in-Err-begin_loop-clause-moves : goal.returns-in-Err-begin_loop-clause-moves
returns-in-Err-begin_loop-clause-moves g c input =
    let m : Machine = c.args.self.now in
    entered_fault c.args.code.now c.requires.valid m c.requires.stands c.args.k c.requires.at
    c.info_at-info.result.now c.body_at-body.result c.info_at-info.ensures c.body_at-body.ensures
    c.in-Ok.range c.range.new.self (g.V.View.content c.args.view.now) (g.V.View.content c.range.new.view) c.in-Ok.ensures.read
    c.if-not-self.false c.begin_loop.new.self (g.V.View.content c.begin_loop.new.view) c.in-Err-begin_loop.e c.in-Err-begin_loop.ensures.begins input
