use Rattle.std.proofs.Common.{◌≡◌, ◌+◌, ◌-◌, ◌++◌, suc, sym, ap, arith, ◌∙◌}
use Rattle.al_core.specs.Lockstep.{up_from}
use Rattle.al_plain.proofs.InTurn.{chunk_next}
use Rattle.al_plain.proofs.rounds.all_chunks.Goals as goal

pub loop-c-preserved : goal.loop-c-preserved
loop-c-preserved c =
    let n = c.args.count in
    let i = c.loop-c.c in
    let more : n - i ≡ suc (n - (i + 1)) = omega arith in
    let next : i + 1 ≡ suc i = omega arith in
    ap (λ all. all ++ up_from (n - (i + 1)) (i + 1)) c.in_ok-push.ensures.ok ∙ sym (chunk_next c.loop-c.all (n - i) (n - (i + 1)) i (i + 1) more next)
    ∙ c.loop-c.invariant
