use Rattle.std.proofs.Common.{refl, arith}
use Rattle.al_sets.proofs.Cleared.{set_at}
use Rattle.al_sets.proofs.bits.first_bit.Goals as goal

pub returns-then-m-i-gt0-clause-found : goal.returns-then-m-i-gt0-clause-found
returns-then-m-i-gt0-clause-found c = (
  omega (arith, c.lowest_one.ensures.within, c.loop-i-test.true),
  set_at c.args.m.now c.loop-i.i _ 0 (omega (arith, c.loop-i-test.true, c.told-m)) refl c.lowest_one.result
      c.lowest_one.ensures.within c.lowest_one.ensures.one,
)
