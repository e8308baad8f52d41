use Rattle.al_heap.proofs.Replaced.{page_taken}
use Rattle.al_heap.proofs.pages.page_of.Goals as goal

pub returns-then-first-words : goal.returns-then-first-words
returns-then-first-words c = page_taken c.args.words.now c.args.number c.min.result c.if-first-words.true c.min.ensures
