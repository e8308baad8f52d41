use Rattle.std.proofs.Common.{◌+◌, ◌-◌, ◌<◌, sym, subst, arith}
use Rattle.al_core.specs.Action.{State}
use Rattle.al_core.specs.Run.{Whole, sizes_of}
use Rattle.al_core.specs.Report.{report}
use Rattle.al_laws.proofs.Fits.{counts_fit}
use Rattle.al_plain.proofs.runs.run_program.Goals as goal

pub told-requires : goal.told-requires
unfolding report
told-requires c =
    let a = c.args in
    let few = (counts_fit a.program.now a.input.now a.knobs a.choices.now c.requires).span in
    subst (λ (m : State Whole). (a.knobs.serial_steps - m.budget) + m.world.counts.span < 340282366920938463463374607431768211456)
    (sym c.in_ok-ending.ensures.machine) (omega (arith, few))
