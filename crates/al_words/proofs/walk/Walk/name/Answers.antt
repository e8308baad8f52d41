use Rattle.std.proofs.Common.{rules}
use Rattle.al_words.proofs.Places.{few_words}
use Rattle.al_words.proofs.walk.Walk.name.Goals as goal

pub overflow_cast-self : goal.overflow_cast-self
overflow_cast-self c =
    let small = few_words c.args.at c.args.self.now c.requires (search (rules, c.if-self-lt17.true)) in
    search (rules, small)
