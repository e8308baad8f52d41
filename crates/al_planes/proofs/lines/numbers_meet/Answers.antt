use Rattle.std.proofs.Common.{ℕ, not, nat_eq, bit_and, sym, ap, ◌∙◌}
use Rattle.al_planes.proofs.LineBits.{met, every}
use Rattle.al_planes.proofs.lines.numbers_meet.Goals as goal

pub returns-clause-met : goal.returns-clause-met
returns-clause-met c h =
    met c.args.line c.args.a c.args.b c.windows.result c.windows-2.result c.windows.ensures c.windows-2.ensures
    (ap (λ (f : ℕ). not (nat_eq (bit_and (bit_and c.windows.result c.windows-2.result) f) 0)) (sym c.firsts.ensures) ∙ h)

pub returns-clause-every : goal.returns-clause-every
returns-clause-every c m =
    ap (λ (f : ℕ). not (nat_eq (bit_and (bit_and c.windows.result c.windows-2.result) f) 0)) c.firsts.ensures
    ∙ every c.args.line c.args.a c.args.b c.windows.result c.windows-2.result c.windows.ensures c.windows-2.ensures m
