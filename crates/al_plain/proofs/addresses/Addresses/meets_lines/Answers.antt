use Rattle.std.proofs.Common.{◌∙◌}
use Rattle.al_plain.specs.Meeting.{any_meets}
use Rattle.al_plain.proofs.AddressSets.{lines_by}
use Rattle.al_plain.proofs.addresses.Addresses.meets_lines.Goals as goal

pub returns : goal.returns
returns c =
    c.any_meets.ensures ∙ (λ t. any_meets c.args.line (c.as_slice.ensures t) (c.as_slice-2.ensures t))
    ∙ lines_by c.args.line _ _ _ _ c.in_ok-here.ensures.same c.in_ok-there.ensures.same
