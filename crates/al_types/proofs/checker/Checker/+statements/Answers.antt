use Rattle.std.proofs.Common.{true, refl, ◌∙◌}
use Rattle.std.proofs.lemmas.Result.{err_from_is_err_and}
use Rattle.al_core.specs.declared.typed_tree.TKind.TheVariants as k
use Rattle.al_rules.specs.Statements.{is_body, part, part_if, any_part, condition, statements}
use Rattle.al_rules.specs.Walks.{bind, pure, ◌>>=◌}
use Rattle.al_rules.proofs.StatementNodes.{part_of, walks-Declare, walks-If, walks-While, walks-For, walks-Block, walks-Break, walks-Continue}
use Rattle.al_types.proofs.Failing.{fails}
use Rattle.al_types.proofs.Within.{both, for_parts, within_done, within_fault}
use Rattle.al_types.proofs.checker.Checker.+statements.Goals as goal

pub block-returns-in_err-ss-clause-walks : goal.block-returns-in_err-ss-clause-walks
unfolding bind pure
block-returns-in_err-ss-clause-walks t c =
    let on = c.args.self.now in
    let p = err_from_is_err_and c.from_residual.result c.from_residual.ensures.1 in
    rw (p.1, p.2, walks-Block)
    (fails _ _ _ (λ e is.
    within_fault (bind (statements on.known.now on.func on.gives.now c.args.looped c.args.ss.now) (λ ts. pure (k.Block ts)))
    c.args.p.now c.enter-mark.new.self e c.enter-mark.ensures.inside (rw is refl)) c.in_err-ss.ensures.walks)

pub block-returns-clause-walks : goal.block-returns-clause-walks
unfolding bind pure
block-returns-clause-walks t c =
    let on = c.args.self.now in
    rw walks-Block
    (within_done (bind (statements on.known.now on.func on.gives.now c.args.looped c.args.ss.now) (λ ts. pure (k.Block ts)))
    c.args.p.now c.enter-mark.new.self c.statements.new.p c.leave.new.self (k.Block c.in_ok-ss.ss) c.enter-mark.result
    c.enter-mark.ensures.inside c.enter-mark.ensures.mark (rw c.in_ok-ss.ensures.walks refl) c.in_ok-ss.ensures.outer c.leave.ensures)

pub kind-returns-in-Declare-clause-walks : goal.kind-returns-in-Declare-clause-walks
kind-returns-in-Declare-clause-walks t c = rw (c.in-Declare.is, walks-Declare) c.declare.ensures.walks

pub kind-returns-in-Break-clause-walks : goal.kind-returns-in-Break-clause-walks
kind-returns-in-Break-clause-walks t c =
    let on = c.args.self.now in
    rw (c.in-Break.is, walks-Break) (c.break_loop.ensures on.known.now on.func on.gives.now c.args.p.now)

pub kind-returns-in-Continue-clause-walks : goal.kind-returns-in-Continue-clause-walks
kind-returns-in-Continue-clause-walks t c =
    let on = c.args.self.now in
    rw (c.in-Continue.is, walks-Continue) (c.continue_loop.ensures on.known.now on.func on.gives.now c.args.p.now)

-- ---- branches

pub kind-returns-in_err-c-in-If-clause-walks : goal.kind-returns-in_err-c-in-If-clause-walks
unfolding bind pure
kind-returns-in_err-c-in-If-clause-walks t c =
    let known = c.args.self.now.known.now in
    let func = c.args.self.now.func in
    let gives = c.args.self.now.gives.now in
    let p = err_from_is_err_and c.from_residual.result c.from_residual.ensures.1 in
    rw (p.1, p.2, c.in-If.is, walks-If, ← c.get.ensures)
    (fails _ _ _ (λ e is.
    both (condition known func gives c.args.line c.in-If.c) (part_if is_body (part known func gives c.get.result.now) c.args.looped)
    (λ c' a. any_part is_body (part_of known func gives c.in-If.b) c.args.looped >>= (λ b. pure (k.If c' a b))) c.args.p.now
    ∙ rw is refl) c.in_err-c-in-If.ensures.walks)

pub kind-returns-in_err-b-in-If-clause-walks : goal.kind-returns-in_err-b-in-If-clause-walks
unfolding bind pure
kind-returns-in_err-b-in-If-clause-walks t c =
    let known = c.args.self.now.known.now in
    let func = c.args.self.now.func in
    let gives = c.args.self.now.gives.now in
    let p = err_from_is_err_and c.from_residual-in_err-b-in-If.result c.from_residual-in_err-b-in-If.ensures.1 in
    rw (p.1, p.2, c.in-If.is, walks-If, ← c.get.ensures)
    (fails _ _ _ (λ e is.
    both (condition known func gives c.args.line c.in-If.c) (part_if is_body (part known func gives c.get.result.now) c.args.looped)
    (λ c' a. any_part is_body (part_of known func gives c.in-If.b) c.args.looped >>= (λ b. pure (k.If c' a b))) c.args.p.now
    ∙ rw (c.in_ok-c-in-If.ensures.walks, is) refl) c.in_err-b-in-If.ensures.walks)

pub kind-returns-in_ok-b-in-If-clause-walks : goal.kind-returns-in_ok-b-in-If-clause-walks
unfolding bind pure
kind-returns-in_ok-b-in-If-clause-walks t c =
    let known = c.args.self.now.known.now in
    let func = c.args.self.now.func in
    let gives = c.args.self.now.gives.now in
    rw (c.in-If.is, walks-If, ← c.get.ensures, c.into_inner.ensures)
    (both (condition known func gives c.args.line c.in-If.c) (part_if is_body (part known func gives c.get.result.now) c.args.looped)
    (λ c' a. any_part is_body (part_of known func gives c.in-If.b) c.args.looped >>= (λ b. pure (k.If c' a b))) c.args.p.now
    ∙ rw (c.in_ok-c-in-If.ensures.walks, c.in_ok-b-in-If.ensures.walks) refl)

-- ---- loops

pub kind-returns-in_err-c-in-While-clause-walks : goal.kind-returns-in_err-c-in-While-clause-walks
unfolding bind pure
kind-returns-in_err-c-in-While-clause-walks t c =
    let known = c.args.self.now.known.now in
    let func = c.args.self.now.func in
    let gives = c.args.self.now.gives.now in
    let p = err_from_is_err_and c.from_residual-in_err-c-in-While.result c.from_residual-in_err-c-in-While.ensures.1 in
    rw (p.1, p.2, c.in-While.is, walks-While, ← c.get-in-While.ensures)
    (fails _ _ _ (λ e is.
    both (condition known func gives c.args.line c.in-While.c) (part_if is_body (part known func gives c.get-in-While.result.now) true)
    (λ c' a. pure (k.While c' a)) c.args.p.now
    ∙ rw is refl) c.in_err-c-in-While.ensures.walks)

pub kind-returns-in_ok-c-in-While-clause-walks : goal.kind-returns-in_ok-c-in-While-clause-walks
unfolding bind pure
kind-returns-in_ok-c-in-While-clause-walks t c =
    let known = c.args.self.now.known.now in
    let func = c.args.self.now.func in
    let gives = c.args.self.now.gives.now in
    rw (c.in-While.is, walks-While, ← c.get-in-While.ensures, c.into_inner-in-While.ensures)
    (both (condition known func gives c.args.line c.in-While.c) (part_if is_body (part known func gives c.get-in-While.result.now) true)
    (λ c' a. pure (k.While c' a)) c.args.p.now
    ∙ rw c.in_ok-c-in-While.ensures.walks refl)

pub kind-returns-in_err-third-in-For-clause-walks : goal.kind-returns-in_err-third-in-For-clause-walks
unfolding bind pure
kind-returns-in_err-third-in-For-clause-walks t c =
    let on = c.args.self.now in
    let parts = c.in-For in
    let p = err_from_is_err_and c.from_residual-in_err-third-in-For.result c.from_residual-in_err-third-in-For.ensures.1 in
    rw (p.1, p.2, c.in-For.is, walks-For, c.in_ok-own-in-For.ensures)
    (fails _ _ _ (λ e is.
    within_fault
    (for_parts on.known.now on.func on.gives.now c.args.line c.args.looped
    parts.first parts.test parts.third parts.body c.in_ok-own-in-For.own)
    c.args.p.now c.enter-mark.new.self e c.enter-mark.ensures.inside
    (rw (c.in_ok-first-in-For.ensures.walks, c.in_ok-test-in-For.ensures, is) refl)) c.in_err-third-in-For.ensures.walks)

pub kind-returns-in_err-body-in-For-clause-walks : goal.kind-returns-in_err-body-in-For-clause-walks
unfolding bind pure
kind-returns-in_err-body-in-For-clause-walks t c =
    let on = c.args.self.now in
    let parts = c.in-For in
    let p = err_from_is_err_and c.from_residual-in_err-body-in-For.result c.from_residual-in_err-body-in-For.ensures.1 in
    rw (p.1, p.2, c.in-For.is, walks-For, c.in_ok-own-in-For.ensures, ← c.get-in-For.ensures)
    (fails _ _ _ (λ e is.
    within_fault
    (for_parts on.known.now on.func on.gives.now c.args.line c.args.looped
    parts.first parts.test parts.third c.get-in-For.result.now c.in_ok-own-in-For.own)
    c.args.p.now c.enter-mark.new.self e c.enter-mark.ensures.inside
    (rw (c.in_ok-first-in-For.ensures.walks, c.in_ok-test-in-For.ensures, c.in_ok-third-in-For.ensures.walks, is) refl)) c.in_err-body-in-For.ensures.walks)

pub kind-returns-in_ok-body-in-For-clause-walks : goal.kind-returns-in_ok-body-in-For-clause-walks
unfolding bind pure
kind-returns-in_ok-body-in-For-clause-walks t c =
    let on = c.args.self.now in
    let parts = c.in-For in
    let body = c.in_ok-body-in-For in
    rw (c.in-For.is, walks-For, c.in_ok-own-in-For.ensures, ← c.get-in-For.ensures, c.for_kind.ensures)
    (within_done
    (for_parts on.known.now on.func on.gives.now c.args.line c.args.looped
    parts.first parts.test parts.third c.get-in-For.result.now c.in_ok-own-in-For.own)
    c.args.p.now c.enter-mark.new.self c.looped_body.new.p c.leave.new.self
    (k.For c.in_ok-first-in-For.first c.in_ok-test-in-For.test c.in_ok-third-in-For.third body.body body.number) c.enter-mark.result
    c.enter-mark.ensures.inside c.enter-mark.ensures.mark
    (rw (c.in_ok-first-in-For.ensures.walks, c.in_ok-test-in-For.ensures, c.in_ok-third-in-For.ensures.walks, body.ensures.walks) refl)
    (body.ensures.outer ∙ (c.in_ok-third-in-For.ensures.outer ∙ c.in_ok-first-in-For.ensures.outer)) c.leave.ensures)
