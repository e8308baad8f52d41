use Rattle.std.proofs.Common.{rules}
use Rattle.std.proofs.lemmas.Fn.{always_returns_same}
use Rattle.al_core.specs.Orders.{addr_cmp}
use Rattle.al_sets.proofs.Found.{searched}
use Rattle.al_sets.proofs.blocks.search.Goals as goal

pub returns : goal.returns
returns c =
    let facts = c.binary_search_by.ensures in
    searched c.args.blocks.now c.requires c.args.place _ facts.bound
    (facts.position (λ b. addr_cmp b.place c.args.place) (always_returns_same _ _ _ (λ a r g called. search rules)))
