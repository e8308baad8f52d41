use Rattle.std.proofs.Common.{w64}
use Rattle.std.proofs.lemmas.Nat.Bits.{bit_at-trailing_zeros}
use Rattle.al_sets.proofs.bits.lowest_one.Goals as goal

pub returns-clause-within : goal.returns-clause-within
returns-clause-within c = (bit_at-trailing_zeros w64 c.args.n c.requires c.ranges.n.fits).0

pub returns-clause-one : goal.returns-clause-one
returns-clause-one c = (bit_at-trailing_zeros w64 c.args.n c.requires c.ranges.n.fits).1
