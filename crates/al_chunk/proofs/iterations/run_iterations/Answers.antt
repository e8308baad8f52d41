use Rattle.std.proofs.Common.{◌≡◌, ◌+◌, ◌-◌, ◌*◌, ◌≤◌, ℕ, suc, sym, ap, ◌∙◌, subst, arith}
use Rattle.al_core.specs.Iteration.{iterations}
use Rattle.al_laws.proofs.Splits.{no_steps}
use Rattle.al_chunk.specs.Loops.{execution_of, finished}
use Rattle.al_chunk.proofs.InTurn.{goes_on, stops}
use Rattle.al_chunk.proofs.Turning.{renamed}
use Rattle.al_chunk.proofs.iterations.run_iterations.Goals as goal

pub loop-j-init : goal.loop-j-init
loop-j-init g c =
    record {
      exact = λ typed l s.
          let x = execution_of typed l c.args.input.now c.args.env.now in
          let all : c.args.first + c.args.count - c.args.first ≡ c.args.count = omega arith in
          no_steps _ ∙ ap (λ k. iterations x k c.args.first (g.V.View.content c.args.view.now)) all;
      few = omega arith;
      room = c.in_ok-machine.ensures.room;
    }

pub returns-in-Trap-clause-exact : goal.returns-in-Trap-clause-exact
returns-in-Trap-clause-exact g c typed l s =
    let x = execution_of typed l c.args.input.now c.args.env.now in
    let turn = c.in_ok-turn.turn in
    let w = g.V.View.content c.loop-j.view in
    let r = finished turn (g.V.View.content c.run_iteration.new.view) in
    let end = c.args.first + c.args.count in
    let j = c.loop-j.j in
    let more : end - j ≡ suc (end - (j + 1)) = omega (arith, c.loop-j-test.true) in
    let is = renamed x j w _ (c.name_by.ensures ∙ ap (λ a. record w { allocations = a }) c.iteration.ensures) in
    sym (c.loop-j.invariant.exact typed l s)
    ∙ stops x (end - j) (end - (j + 1)) j c.loop-j.steps w r _ _ more (sym (c.in_ok-turn.ensures.exact typed l s) ∙ is) c.in-Trap.is

few_more : (s t a b most : ℕ) → s ≤ a * most → t ≤ most → b ≡ a + 1 → s + t ≤ b * most
few_more s t a b most h k e = subst (λ n. s + t ≤ n * most) (sym e) (omega (arith, h, k))

pub loop-j-preserved : goal.loop-j-preserved
loop-j-preserved g c =
    let turn = c.in_ok-turn.turn in
    let w = g.V.View.content c.loop-j.view in
    let r = finished turn (g.V.View.content c.run_iteration.new.view) in
    let first = c.args.first in
    let end = first + c.args.count in
    let j = c.loop-j.j in
    let more : end - j ≡ suc (end - (j + 1)) = omega (arith, c.loop-j-test.true) in
    let next : j + 1 ≡ suc j = omega arith in
    let past : j + 1 - first ≡ j - first + 1 = omega (arith, c.loop-j.auto.j) in
    record {
      exact = λ typed l s.
          let x = execution_of typed l c.args.input.now c.args.env.now in
          let is = renamed x j w _ (c.name_by.ensures ∙ ap (λ a. record w { allocations = a }) c.iteration.ensures) in
          sym (goes_on x (end - j) (end - (j + 1)) j (j + 1) c.loop-j.steps w r more next (sym (c.in_ok-turn.ensures.exact typed l s) ∙ is) c.in-Done.is)
          ∙ c.loop-j.invariant.exact typed l s;
      few = few_more c.loop-j.steps turn.steps (j - first) (j + 1 - first) c.args.env.now.iter_steps c.loop-j.invariant.few c.in_ok-turn.ensures.few past;
      room = c.in_ok-turn.ensures.room;
    }
