use Rattle.std.proofs.Common.{arith}
use Rattle.al_sets.proofs.Cleared.{bits_without}
use Rattle.al_sets.proofs.bits.clear_bit.Goals as goal

pub returns : goal.returns
returns c j = bits_without c.args.m.now c.args.i (omega arith) j
