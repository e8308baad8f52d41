use Rattle.std.proofs.Common.{refl}
use Rattle.std.proofs.lemmas.Result.{err_from_is_err_and}
use Rattle.al_types.proofs.Failing.{fails}
use Rattle.al_types.proofs.TypedBy.{is_typed_by}
use Rattle.al_types.proofs.program.check.Goals as goal

pub returns-in_err-main : goal.returns-in_err-main
returns-in_err-main c =
    let p = err_from_is_err_and c.from_residual-in_err-main.result c.from_residual-in_err-main.ensures.1 in
    let by = is_typed_by c.args.layout.now c.args.program.now c.in_ok-known.known c.in_ok-known.ensures in
    rw (p.1, p.2, by) (fails _ _ _ (λ e is. rw is refl) c.in_err-main.ensures)

pub returns-in_err-funcs : goal.returns-in_err-funcs
returns-in_err-funcs c =
    let p = err_from_is_err_and c.from_residual-in_err-funcs.result c.from_residual-in_err-funcs.ensures.1 in
    let by = is_typed_by c.args.layout.now c.args.program.now c.in_ok-known.known c.in_ok-known.ensures in
    rw (p.1, p.2, by) (fails _ _ _ (λ e is. rw (c.in_ok-main.ensures, is) refl) c.in_err-funcs.ensures)

pub returns : goal.returns
returns c =
    let by = is_typed_by c.args.layout.now c.args.program.now c.in_ok-known.known c.in_ok-known.ensures in
    rw (by, c.in_ok-main.ensures, c.in_ok-funcs.ensures, c.in_ok-globals.ensures, c.from_vec.ensures, c.nodes.ensures) refl
