use Rattle.std.proofs.Common.{◌∙◌}
use Rattle.al_core.specs.Clash.{meets_lines}
use Rattle.al_sets.proofs.MemberLemmas.{lines_by, lines_by_turned}
use Rattle.al_sets.proofs.sets.AddrSet.meets_lines.Goals as goal

pub returns-then-len : goal.returns-then-len
returns-then-len c =
    lines_by c.args.line _ c.line_of-line.ensures c.self.inside.blocks.items c.other.inside.blocks.items _ _
    c.as_slice.ensures.value c.as_slice-then-len.ensures.value _ c.meet_by_lines.ensures.met c.meet_by_lines.ensures.every
    ∙ (λ t. meets_lines c.args.line (c.self.view_is t).members (c.other.view_is t).members)

pub returns-else-len : goal.returns-else-len
returns-else-len c =
    lines_by_turned c.args.line _ c.line_of-line.ensures c.self.inside.blocks.items c.other.inside.blocks.items _ _
    c.as_slice-else-len-2.ensures.value c.as_slice-else-len.ensures.value _ c.meet_by_lines-else-len.ensures.met
    c.meet_by_lines-else-len.ensures.every
    ∙ (λ t. meets_lines c.args.line (c.self.view_is t).members (c.other.view_is t).members)
