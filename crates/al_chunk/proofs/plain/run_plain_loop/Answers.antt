use Rattle.std.proofs.Common.{sym, ap, ◌∙◌}
use Rattle.al_core.specs.Run.{result_of_steps, counts_of_steps}
use Rattle.al_chunk.specs.Loops.{execution_of}
use Rattle.al_chunk.proofs.Chunks.{loop_gives}
use Rattle.al_chunk.proofs.plain.run_plain_loop.Goals as goal

pub returns : goal.returns
returns g c typed l s =
    let x = execution_of typed l c.args.input.now c.args.env.now in
    let run = c.in_ok-run.run' in
    ap result_of_steps
    (loop_gives x (g.S.Store.memory c.args.store) c.iteration.result _ _ c.iteration.ensures c.begin-view.ensures (c.in_ok-run.ensures.exact typed l s))
    ∙ (λ t. record {
      memory = sym c.finish-store.ensures.store t;
      printed = sym c.finish-store.ensures.printed t;
      ending = run.ending;
      counts = counts_of_steps run.steps;
    })
