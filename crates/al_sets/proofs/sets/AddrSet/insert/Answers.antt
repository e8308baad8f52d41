use Rattle.std.proofs.Common.{ap, ◌∙◌}
use Rattle.std.specs.FinSet as set
use Rattle.al_sets.specs.Members.{AddressSet}
use Rattle.al_sets.proofs.MemberLemmas.{members_insert}
use Rattle.al_sets.proofs.sets.AddrSet.insert.Goals as goal

pub returns-clause-ok : goal.returns-clause-ok
returns-clause-ok c =
    members_insert c.self.inside.blocks.items c.insert.new.blocks.items c.args.at c.in_ok-insert.ensures.ok
    ∙ ap (λ (s : AddressSet). set.insert s.members c.args.at) c.self.view_is
