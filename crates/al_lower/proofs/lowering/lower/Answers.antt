use Rattle.std.proofs.Common.{subst, sym}
use Rattle.al_code.specs.Valid.{IsValid}
use Rattle.al_lower.proofs.Laying.{stands}
use Rattle.al_lower.proofs.Validity.{valid}
use Rattle.al_lower.proofs.lowering.lower.Goals as goal

pub returns-clause-stands : goal.returns-clause-stands
returns-clause-stands c = stands c.args.typed.now c.args.infos.now c.requires.formed c.requires.entries c.in_ok-code.code c.in_ok-code.ensures

pub returns-clause-valid : goal.returns-clause-valid
returns-clause-valid c =
    subst IsValid (sym c.in_ok-code.ensures) (valid c.args.typed.now c.args.infos.now c.requires.formed c.requires.entries)
