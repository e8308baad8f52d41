use Rattle.std.proofs.Common.{rules, ◌≡◌, w64, sym, ap, ◌∙◌}
use Rattle.std.proofs.lemmas.Int.{to_z-of_z}
use mir.Val.{SFits, to_z, of_z}
use Rattle.al_code.specs.declared.instructions.Instr.TheVariants as i
use Rattle.al_exec.proofs.Acting.{done}
use Rattle.al_exec.proofs.active.Active.act.Goals as goal

pub returns-in-Push : goal.returns-in-Push
returns-in-Push g c =
    let fits : SFits w64 c.in-Push.n = search rules in
    let same : i.Push c.in-Push.n ≡ i.Push (to_z w64 (of_z w64 c.in-Push.n)) = ap i.Push (sym (to_z-of_z w64 c.in-Push.n fits)) in
    done c.args.input.now c.args.code.now c.args.x _ c.args.self.now c.push_number.new.self (g.V.View.content c.args.view.now)
    (g.V.View.content c.args.view.now) c.push_number.result c.going.result
    (c.in-Push.is ∙ same) c.going.ensures (c.push_number.ensures c.args.input.now c.args.code.now (g.V.View.content c.args.view.now))

pub returns-in-GetLocal : goal.returns-in-GetLocal
returns-in-GetLocal g c =
    done c.args.input.now c.args.code.now c.args.x (i.GetLocal c.in-GetLocal.k) c.args.self.now c.get_local.new.self
    (g.V.View.content c.args.view.now) (g.V.View.content c.get_local.new.view) c.get_local.result c.going-in-GetLocal.result
    c.in-GetLocal.is c.going-in-GetLocal.ensures (c.get_local.ensures c.args.input.now c.args.code.now)

pub returns-in-SetLocal : goal.returns-in-SetLocal
returns-in-SetLocal g c =
    done c.args.input.now c.args.code.now c.args.x (i.SetLocal c.in-SetLocal.k) c.args.self.now c.put_local.new.self
    (g.V.View.content c.args.view.now) (g.V.View.content c.put_local.new.view) c.put_local.result c.going-in-SetLocal.result
    c.in-SetLocal.is c.going-in-SetLocal.ensures (c.put_local.ensures c.args.input.now c.args.code.now)

pub returns-in-Global : goal.returns-in-Global
returns-in-Global g c =
    done c.args.input.now c.args.code.now c.args.x (i.Global c.in-Global.k) c.args.self.now c.push_global.new.self
    (g.V.View.content c.args.view.now) (g.V.View.content c.args.view.now) c.push_global.result c.going-in-Global.result
    c.in-Global.is c.going-in-Global.ensures (c.push_global.ensures c.args.input.now c.args.code.now (g.V.View.content c.args.view.now))

pub returns-in-NotNull : goal.returns-in-NotNull
returns-in-NotNull g c =
    done c.args.input.now c.args.code.now c.args.x (i.NotNull) c.args.self.now c.not_null.new.self
    (g.V.View.content c.args.view.now) (g.V.View.content c.args.view.now) c.not_null.result c.going-in-NotNull.result
    c.in-NotNull.is c.going-in-NotNull.ensures (c.not_null.ensures c.args.input.now c.args.code.now (g.V.View.content c.args.view.now))

pub returns-in-Plus : goal.returns-in-Plus
returns-in-Plus g c =
    done c.args.input.now c.args.code.now c.args.x (i.Plus c.in-Plus.words) c.args.self.now c.plus.new.self
    (g.V.View.content c.args.view.now) (g.V.View.content c.args.view.now) c.plus.result c.going-in-Plus.result
    c.in-Plus.is c.going-in-Plus.ensures (c.plus.ensures c.args.input.now c.args.code.now (g.V.View.content c.args.view.now))

pub returns-in-Elem : goal.returns-in-Elem
returns-in-Elem g c =
    done c.args.input.now c.args.code.now c.args.x (i.Elem c.in-Elem.size) c.args.self.now c.elem.new.self
    (g.V.View.content c.args.view.now) (g.V.View.content c.args.view.now) c.elem.result c.going-in-Elem.result
    c.in-Elem.is c.going-in-Elem.ensures (c.elem.ensures c.args.input.now c.args.code.now (g.V.View.content c.args.view.now))

pub returns-in-Load : goal.returns-in-Load
returns-in-Load g c =
    done c.args.input.now c.args.code.now c.args.x (i.Load c.in-Load.want) c.args.self.now c.load.new.self
    (g.V.View.content c.args.view.now) (g.V.View.content c.load.new.view) c.load.result c.going-in-Load.result
    c.in-Load.is c.going-in-Load.ensures (c.load.ensures c.args.input.now c.args.code.now)

pub returns-in-Store : goal.returns-in-Store
returns-in-Store g c =
    done c.args.input.now c.args.code.now c.args.x (i.Store) c.args.self.now c.store.new.self
    (g.V.View.content c.args.view.now) (g.V.View.content c.store.new.view) c.store.result c.going-in-Store.result
    c.in-Store.is c.going-in-Store.ensures (c.store.ensures c.args.input.now c.args.code.now)

pub returns-in-Dup : goal.returns-in-Dup
returns-in-Dup g c =
    done c.args.input.now c.args.code.now c.args.x (i.Dup) c.args.self.now c.dup.new.self
    (g.V.View.content c.args.view.now) (g.V.View.content c.args.view.now) c.dup.result c.going-in-Dup.result
    c.in-Dup.is c.going-in-Dup.ensures (c.dup.ensures c.args.input.now c.args.code.now (g.V.View.content c.args.view.now))

pub returns-in-Drop : goal.returns-in-Drop
returns-in-Drop g c =
    done c.args.input.now c.args.code.now c.args.x (i.Drop) c.args.self.now c.drop_top.new.self
    (g.V.View.content c.args.view.now) (g.V.View.content c.args.view.now) c.drop_top.result c.going-in-Drop.result
    c.in-Drop.is c.going-in-Drop.ensures (c.drop_top.ensures c.args.input.now c.args.code.now (g.V.View.content c.args.view.now))

pub returns-in-Unary : goal.returns-in-Unary
returns-in-Unary g c =
    done c.args.input.now c.args.code.now c.args.x (i.Unary c.in-Unary.op) c.args.self.now c.unary.new.self
    (g.V.View.content c.args.view.now) (g.V.View.content c.args.view.now) c.unary.result c.going-in-Unary.result
    c.in-Unary.is c.going-in-Unary.ensures (c.unary.ensures c.args.input.now c.args.code.now (g.V.View.content c.args.view.now))

pub returns-in-Truth : goal.returns-in-Truth
returns-in-Truth g c =
    done c.args.input.now c.args.code.now c.args.x (i.Truth) c.args.self.now c.test.new.self
    (g.V.View.content c.args.view.now) (g.V.View.content c.args.view.now) c.test.result c.going-in-Truth.result
    c.in-Truth.is c.going-in-Truth.ensures (c.test.ensures c.args.input.now c.args.code.now (g.V.View.content c.args.view.now))

pub returns-in-Binary : goal.returns-in-Binary
returns-in-Binary g c =
    done c.args.input.now c.args.code.now c.args.x (i.Binary c.in-Binary.op) c.args.self.now c.binary.new.self
    (g.V.View.content c.args.view.now) (g.V.View.content c.args.view.now) c.binary.result c.going-in-Binary.result
    c.in-Binary.is c.going-in-Binary.ensures (c.binary.ensures c.args.input.now c.args.code.now (g.V.View.content c.args.view.now))

pub returns-in-Same : goal.returns-in-Same
returns-in-Same g c =
    done c.args.input.now c.args.code.now c.args.x (i.Same c.in-Same.equal) c.args.self.now c.same.new.self
    (g.V.View.content c.args.view.now) (g.V.View.content c.args.view.now) c.same.result c.going-in-Same.result
    c.in-Same.is c.going-in-Same.ensures (c.same.ensures c.args.input.now c.args.code.now (g.V.View.content c.args.view.now))

pub returns-in-Choose : goal.returns-in-Choose
returns-in-Choose g c =
    done c.args.input.now c.args.code.now c.args.x (i.Choose c.in-Choose.op) c.args.self.now c.choose.new.self
    (g.V.View.content c.args.view.now) (g.V.View.content c.args.view.now) c.choose.result c.going-in-Choose.result
    c.in-Choose.is c.going-in-Choose.ensures (c.choose.ensures c.args.input.now c.args.code.now (g.V.View.content c.args.view.now))

pub returns-in-Jump : goal.returns-in-Jump
returns-in-Jump g c =
    done c.args.input.now c.args.code.now c.args.x (i.Jump c.in-Jump.to) c.args.self.now c.jump.new.self
    (g.V.View.content c.args.view.now) (g.V.View.content c.args.view.now) c.jump.result c.going-in-Jump.result
    c.in-Jump.is c.going-in-Jump.ensures (c.jump.ensures c.args.input.now c.args.code.now (g.V.View.content c.args.view.now))

pub returns-in-JumpIf : goal.returns-in-JumpIf
returns-in-JumpIf g c =
    done c.args.input.now c.args.code.now c.args.x (i.JumpIf c.in-JumpIf.holds c.in-JumpIf.to) c.args.self.now c.jump_if.new.self
    (g.V.View.content c.args.view.now) (g.V.View.content c.args.view.now) c.jump_if.result c.going-in-JumpIf.result
    c.in-JumpIf.is c.going-in-JumpIf.ensures (c.jump_if.ensures c.args.input.now c.args.code.now (g.V.View.content c.args.view.now))

pub returns-in-Input : goal.returns-in-Input
returns-in-Input g c =
    done c.args.input.now c.args.code.now c.args.x (i.Input) c.args.self.now c.input.new.self
    (g.V.View.content c.args.view.now) (g.V.View.content c.args.view.now) c.input.result c.going-in-Input.result
    c.in-Input.is c.going-in-Input.ensures (c.input.ensures c.args.code.now (g.V.View.content c.args.view.now))

pub returns-in-Inputs : goal.returns-in-Inputs
returns-in-Inputs g c =
    done c.args.input.now c.args.code.now c.args.x (i.Inputs) c.args.self.now c.inputs.new.self
    (g.V.View.content c.args.view.now) (g.V.View.content c.args.view.now) c.inputs.result c.going-in-Inputs.result
    c.in-Inputs.is c.going-in-Inputs.ensures (c.inputs.ensures c.args.code.now (g.V.View.content c.args.view.now))

pub returns-in-Calloc : goal.returns-in-Calloc
returns-in-Calloc g c =
    done c.args.input.now c.args.code.now c.args.x (i.Calloc c.in-Calloc.size) c.args.self.now c.calloc.new.self
    (g.V.View.content c.args.view.now) (g.V.View.content c.calloc.new.view) c.calloc.result c.going-in-Calloc.result
    c.in-Calloc.is c.going-in-Calloc.ensures (c.calloc.ensures c.args.input.now c.args.code.now)

pub returns-in-Free : goal.returns-in-Free
returns-in-Free g c =
    done c.args.input.now c.args.code.now c.args.x (i.Free) c.args.self.now c.free.new.self
    (g.V.View.content c.args.view.now) (g.V.View.content c.free.new.view) c.free.result c.going-in-Free.result
    c.in-Free.is c.going-in-Free.ensures (c.free.ensures c.args.input.now c.args.code.now)

pub returns-in-Print : goal.returns-in-Print
returns-in-Print g c =
    done c.args.input.now c.args.code.now c.args.x (i.Print c.in-Print.k) c.args.self.now c.print_text.new.self
    (g.V.View.content c.args.view.now) (g.V.View.content c.print_text.new.view) c.print_text.result c.going-in-Print.result
    c.in-Print.is c.going-in-Print.ensures (c.print_text.ensures c.args.input.now)

pub returns-in-Step : goal.returns-in-Step
returns-in-Step g c =
    done c.args.input.now c.args.code.now c.args.x (i.Step) c.args.self.now c.step.new.self
    (g.V.View.content c.args.view.now) (g.V.View.content c.args.view.now) c.step.result c.going-in-Step.result
    c.in-Step.is c.going-in-Step.ensures (c.step.ensures c.args.input.now c.args.code.now (g.V.View.content c.args.view.now))
