use Rattle.std.proofs.Common.{◌||◌, ap, ◌∙◌}
use Rattle.std.specs.FinSet as set
use Rattle.al_sets.specs.Blocks.{has_address}
use Rattle.al_sets.proofs.MemberLemmas.{members_union}
use Rattle.al_sets.proofs.sets.AddrSet.union.Goals as goal

pub returns-clause-members : goal.returns-clause-members
returns-clause-members c =
    members_union c.self.inside.blocks.items c.join.new.blocks.items c.other.inside.blocks.items
    (λ a. c.join.ensures.addresses a
    ∙ ap (λ l. has_address l a || has_address c.self.inside.blocks.items a) c.as_slice.ensures.value)
    ∙ (λ t. set.union (c.self.view_is t).members (c.other.view_is t).members)
