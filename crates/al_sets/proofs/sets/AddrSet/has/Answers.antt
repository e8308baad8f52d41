use Rattle.std.proofs.Common.{sym, ap, ◌∙◌}
use Rattle.std.specs.FinSet as set
use Rattle.al_sets.specs.Blocks.{has_address}
use Rattle.al_sets.specs.Members.{AddressSet}
use Rattle.al_sets.proofs.MemberLemmas.{members_have}
use Rattle.al_sets.proofs.sets.AddrSet.has.Goals as goal

pub returns : goal.returns
returns c =
    c.has.ensures
    ∙ ap (λ l. has_address l c.args.at.now) c.as_slice.ensures.value
    ∙ sym (members_have c.self.inside.blocks.items c.args.at.now)
    ∙ ap (λ (s : AddressSet). set.contains s.members c.args.at.now) c.self.view_is
