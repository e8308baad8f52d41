-- The numbers of the small program have their sizes.
use Rattle.al_runs_laws.specs.Met.{SmallIsSized}
use Rattle.al_runs_laws.proofs.SmallFacts.{small_is_program}

pub small_is_sized : SmallIsSized
small_is_sized = record { code = small_is_program.numbers.code; starts = small_is_program.starts }
