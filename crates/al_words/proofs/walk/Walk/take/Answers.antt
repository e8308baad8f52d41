use Rattle.al_words.proofs.Places.{value_fits, optioned_fits}
use Rattle.al_words.proofs.walk.Walk.take.Goals as goal

pub returns-in-Some-clause-fits : goal.returns-in-Some-clause-fits
returns-in-Some-clause-fits c =
    value_fits c.args.at c.args.self.now c.value.new.self c.requires.fits c.in-Some.waiting _ c.value.result c.in-Some.is c.value.ensures

pub returns-in-None-clause-fits : goal.returns-in-None-clause-fits
returns-in-None-clause-fits c = optioned_fits c.args.at c.args.self.now c.option.new.self c.requires.fits _ c.option.result c.in-None.is c.option.ensures
