use Rattle.std.proofs.Common.{◌≡◌, false, length, arith, replicate, refl}
use Rattle.std.proofs.lemmas.Grind.{common_steps}
use Rattle.al_loop_notes.specs.Uses.{stmt_uses, callees}
use Rattle.al_loop_notes.proofs.Reaching.{begun, gone, less, ended}
use Rattle.al_loop_notes.proofs.reach.reached.Goals as goal

pub loop-n-init : goal.loop-n-init
loop-n-init c =
    let marks : c.from_vec-marks.result ≡ replicate (length c.args.program.now.typed.now.funcs) false = grind (arith, common_steps) in
    let todo : c.add_callees.new.todo ≡ callees (stmt_uses c.args.s.now) = grind (arith, common_steps) in
    begun c.args.program.now.typed.now c.args.s.now _ _ marks todo

pub loop-n-smaller : goal.loop-n-smaller
loop-n-smaller c = less c.args.program.now.typed.now _ _ _ _ _ _ _ refl c.in-Some.ensures c.in_ok-visit.ensures.marks c.in_ok-visit.ensures.todo

pub loop-n-preserved : goal.loop-n-preserved
loop-n-preserved c =
    gone c.args.program.now.typed.now c.args.s.now _ _ _ _ _ _ _ refl c.loop-n.invariant c.in-Some.ensures c.in_ok-visit.ensures.marks
    c.in_ok-visit.ensures.todo

pub returns : goal.returns
returns c = ended c.args.program.now.typed.now c.args.s.now _ _ c.loop-n.invariant c.in_default.ensures.0
