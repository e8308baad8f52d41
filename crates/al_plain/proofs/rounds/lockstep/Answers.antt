use Rattle.std.proofs.Common.{◌≡◌, ◌+◌, ◌-◌, suc, [], sym, ap, arith, ◌∙◌, length-append, length, ◌∷◌}
use Rattle.std.proofs.Math.Bool.{true≢false}
use Rattle.al_core.specs.Lockstep.{Rounds, with_round}
use Rattle.al_plain.specs.Executions.{execution_of}
use Rattle.al_plain.specs.Pending.{left_after, next_round}
use Rattle.al_plain.proofs.InTurn.{round_next, round_last}
use Rattle.al_plain.proofs.rounds.lockstep.Goals as goal

pub returns-in-None : goal.returns-in-None
returns-in-None c =
    let x = c.args.x.now in
    let choice = c.args.choice.now in
    let lanes = x.on.knobs.lanes in
    let l = c.loop-round in
    let n = c.chunks-count.result in
    let more : n - l._round ≡ suc (n - (l._round + 1)) = omega arith in
    let left = sym c.in-None.is ∙ c.in_ok-left.ensures.left ∙ ap (λ p. left_after lanes p (next_round x choice p l.so_far.memory)) c.as_slice.ensures in
    let new = c.in_ok-left.ensures.rounds ∙ ap (λ p. with_round (next_round x choice p l.so_far.memory) l.so_far) c.as_slice.ensures in
    sym (round_last (execution_of x) choice lanes l.so_far (n - l._round) (n - (l._round + 1)) l.pending c.go_on.new.self more
    (λ e. true≢false (sym (c.if-is_empty.ensures.1 e))) left new) ∙ l.invariant.runs

pub loop-round-preserved : goal.loop-round-preserved
loop-round-preserved c =
    let x = c.args.x.now in
    let choice = c.args.choice.now in
    let lanes = x.on.knobs.lanes in
    let l = c.loop-round in
    let n = c.chunks-count.result in
    let more : n - l._round ≡ suc (n - (l._round + 1)) = omega arith in
    let left = sym c.in-Some.is ∙ c.in_ok-left.ensures.left ∙ ap (λ p. left_after lanes p (next_round x choice p l.so_far.memory)) c.as_slice.ensures in
    let new = c.in_ok-left.ensures.rounds ∙ ap (λ p. with_round (next_round x choice p l.so_far.memory) l.so_far) c.as_slice.ensures in
    let r = next_round x choice l.pending l.so_far.memory in
    record {
      runs =
          sym (round_next (execution_of x) choice lanes l.so_far (n - l._round) (n - (l._round + 1)) l.pending c.in-Some.left c.go_on.new.self more
          (λ e. true≢false (sym (c.if-is_empty.ensures.1 e))) left new) ∙ l.invariant.runs;
      few = omega (arith, l.invariant.few, ap (λ (s : Rounds). length s.rounds) new, length-append l.so_far.rounds (r.verdicts ∷ []));
    }
