use Rattle.std.proofs.Common.{◌∙◌}
use Rattle.al_core.specs.Clash.{meets}
use Rattle.al_sets.proofs.MemberLemmas.{meets_by, meets_by_turned}
use Rattle.al_sets.proofs.sets.AddrSet.meets.Goals as goal

pub returns-then-len : goal.returns-then-len
returns-then-len c =
    meets_by c.self.inside.blocks.items c.other.inside.blocks.items _ _ c.as_slice.ensures.value
    c.as_slice-then-len.ensures.value _ c.meet.ensures.met c.meet.ensures.every
    ∙ (λ t. meets (c.self.view_is t).members (c.other.view_is t).members)

pub returns-else-len : goal.returns-else-len
returns-else-len c =
    meets_by_turned c.self.inside.blocks.items c.other.inside.blocks.items _ _ c.as_slice-else-len-2.ensures.value
    c.as_slice-else-len.ensures.value _ c.meet-else-len.ensures.met c.meet-else-len.ensures.every
    ∙ (λ t. meets (c.self.view_is t).members (c.other.view_is t).members)
