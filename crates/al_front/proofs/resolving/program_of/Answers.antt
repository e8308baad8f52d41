use Rattle.std.proofs.Common.{◌≡◌, Ok, Err, subst}
use Rattle.al_parser.specs.IsParsed.{IsParsed}
use Rattle.al_rules.specs.declared.faults.Refusal.TheVariants.{Grammar}
use Rattle.al_rules.specs.Refusals.{program_of}
use Rattle.al_front.proofs.Causes.{derived_program, refused_program}
use Rattle.al_front.proofs.resolving.program_of.Goals as goal

pub returns-in-Program-clause-answer : goal.returns-in-Program-clause-answer
returns-in-Program-clause-answer c =
    let told = subst (IsParsed c.as_slice.result.now) c.in-Program.is c.in_ok-program.ensures in
    subst (λ ts. program_of ts ≡ Ok c.in-Program.program) c.as_slice.ensures (derived_program _ _ told)

pub returns-in-FirstBad-clause-answer : goal.returns-in-FirstBad-clause-answer
returns-in-FirstBad-clause-answer c =
    let told = subst (IsParsed c.as_slice.result.now) c.in-FirstBad.is c.in_ok-program.ensures in
    subst (λ ts. program_of ts ≡ Err Grammar) c.as_slice.ensures (refused_program _ told.1)
