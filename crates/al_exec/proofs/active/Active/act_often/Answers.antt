use Rattle.std.proofs.Common.{rules, ◌≡◌, w64, sym, ap, ◌∙◌}
use Rattle.std.proofs.lemmas.Int.{to_z-of_z}
use mir.Val.{SFits, to_z, of_z}
use Rattle.al_code.specs.declared.instructions.Instr.TheVariants as i
use Rattle.al_exec.proofs.Acting.{done_often}
use Rattle.al_exec.proofs.active.Active.act_often.Goals as goal

pub returns-in-Push : goal.returns-in-Push
returns-in-Push g c input =
    let fits : SFits w64 c.in-Push.n = search rules in
    let same : i.Push c.in-Push.n ≡ i.Push (to_z w64 (of_z w64 c.in-Push.n)) = ap i.Push (sym (to_z-of_z w64 c.in-Push.n fits)) in
    done_often input c.args.code.now c.args.x _ c.args.self.now c.push_number.new.self (g.V.View.content c.args.view.now)
    (g.V.View.content c.args.view.now) c.push_number.result
    (c.in-Push.is ∙ same) (c.push_number.ensures input c.args.code.now (g.V.View.content c.args.view.now))

pub returns-in-GetLocal : goal.returns-in-GetLocal
returns-in-GetLocal g c input =
    done_often input c.args.code.now c.args.x (i.GetLocal c.in-GetLocal.k) c.args.self.now c.get_local.new.self
    (g.V.View.content c.args.view.now) (g.V.View.content c.get_local.new.view) c.get_local.result
    c.in-GetLocal.is (c.get_local.ensures input c.args.code.now)

pub returns-in-SetLocal : goal.returns-in-SetLocal
returns-in-SetLocal g c input =
    done_often input c.args.code.now c.args.x (i.SetLocal c.in-SetLocal.k) c.args.self.now c.put_local.new.self
    (g.V.View.content c.args.view.now) (g.V.View.content c.put_local.new.view) c.put_local.result
    c.in-SetLocal.is (c.put_local.ensures input c.args.code.now)

pub returns-in-Global : goal.returns-in-Global
returns-in-Global g c input =
    done_often input c.args.code.now c.args.x (i.Global c.in-Global.k) c.args.self.now c.push_global.new.self
    (g.V.View.content c.args.view.now) (g.V.View.content c.args.view.now) c.push_global.result
    c.in-Global.is (c.push_global.ensures input c.args.code.now (g.V.View.content c.args.view.now))

pub returns-in-NotNull : goal.returns-in-NotNull
returns-in-NotNull g c input =
    done_often input c.args.code.now c.args.x (i.NotNull) c.args.self.now c.not_null.new.self
    (g.V.View.content c.args.view.now) (g.V.View.content c.args.view.now) c.not_null.result
    c.in-NotNull.is (c.not_null.ensures input c.args.code.now (g.V.View.content c.args.view.now))

pub returns-in-Plus : goal.returns-in-Plus
returns-in-Plus g c input =
    done_often input c.args.code.now c.args.x (i.Plus c.in-Plus.words) c.args.self.now c.plus.new.self
    (g.V.View.content c.args.view.now) (g.V.View.content c.args.view.now) c.plus.result
    c.in-Plus.is (c.plus.ensures input c.args.code.now (g.V.View.content c.args.view.now))

pub returns-in-Elem : goal.returns-in-Elem
returns-in-Elem g c input =
    done_often input c.args.code.now c.args.x (i.Elem c.in-Elem.size) c.args.self.now c.elem.new.self
    (g.V.View.content c.args.view.now) (g.V.View.content c.args.view.now) c.elem.result
    c.in-Elem.is (c.elem.ensures input c.args.code.now (g.V.View.content c.args.view.now))

pub returns-in-Load : goal.returns-in-Load
returns-in-Load g c input =
    done_often input c.args.code.now c.args.x (i.Load c.in-Load.want) c.args.self.now c.load.new.self
    (g.V.View.content c.args.view.now) (g.V.View.content c.load.new.view) c.load.result
    c.in-Load.is (c.load.ensures input c.args.code.now)

pub returns-in-Store : goal.returns-in-Store
returns-in-Store g c input =
    done_often input c.args.code.now c.args.x (i.Store) c.args.self.now c.store.new.self
    (g.V.View.content c.args.view.now) (g.V.View.content c.store.new.view) c.store.result
    c.in-Store.is (c.store.ensures input c.args.code.now)

pub returns-in-Dup : goal.returns-in-Dup
returns-in-Dup g c input =
    done_often input c.args.code.now c.args.x (i.Dup) c.args.self.now c.dup.new.self
    (g.V.View.content c.args.view.now) (g.V.View.content c.args.view.now) c.dup.result
    c.in-Dup.is (c.dup.ensures input c.args.code.now (g.V.View.content c.args.view.now))

pub returns-in-Drop : goal.returns-in-Drop
returns-in-Drop g c input =
    done_often input c.args.code.now c.args.x (i.Drop) c.args.self.now c.drop_top.new.self
    (g.V.View.content c.args.view.now) (g.V.View.content c.args.view.now) c.drop_top.result
    c.in-Drop.is (c.drop_top.ensures input c.args.code.now (g.V.View.content c.args.view.now))

pub returns-in-Truth : goal.returns-in-Truth
returns-in-Truth g c input =
    done_often input c.args.code.now c.args.x (i.Truth) c.args.self.now c.test.new.self
    (g.V.View.content c.args.view.now) (g.V.View.content c.args.view.now) c.test.result
    c.in-Truth.is (c.test.ensures input c.args.code.now (g.V.View.content c.args.view.now))

pub returns-in-Binary : goal.returns-in-Binary
returns-in-Binary g c input =
    done_often input c.args.code.now c.args.x (i.Binary c.in-Binary.op) c.args.self.now c.binary.new.self
    (g.V.View.content c.args.view.now) (g.V.View.content c.args.view.now) c.binary.result
    c.in-Binary.is (c.binary.ensures input c.args.code.now (g.V.View.content c.args.view.now))

pub returns-in-Jump : goal.returns-in-Jump
returns-in-Jump g c input =
    done_often input c.args.code.now c.args.x (i.Jump c.in-Jump.to) c.args.self.now c.jump.new.self
    (g.V.View.content c.args.view.now) (g.V.View.content c.args.view.now) c.jump.result
    c.in-Jump.is (c.jump.ensures input c.args.code.now (g.V.View.content c.args.view.now))

pub returns-in-JumpIf : goal.returns-in-JumpIf
returns-in-JumpIf g c input =
    done_often input c.args.code.now c.args.x (i.JumpIf c.in-JumpIf.holds c.in-JumpIf.to) c.args.self.now c.jump_if.new.self
    (g.V.View.content c.args.view.now) (g.V.View.content c.args.view.now) c.jump_if.result
    c.in-JumpIf.is (c.jump_if.ensures input c.args.code.now (g.V.View.content c.args.view.now))

pub returns-in-Step : goal.returns-in-Step
returns-in-Step g c input =
    done_often input c.args.code.now c.args.x (i.Step) c.args.self.now c.step.new.self
    (g.V.View.content c.args.view.now) (g.V.View.content c.args.view.now) c.step.result
    c.in-Step.is (c.step.ensures input c.args.code.now (g.V.View.content c.args.view.now))
