use Rattle.std.proofs.Common.{ℕ, sym, ap, subst}
use Rattle.al_planes.specs.Lines.{AreWindows, size}
use Rattle.al_planes.proofs.LineBits.{itself}
use Rattle.al_planes.proofs.lines.windows.Goals as goal

pub returns-in-Two : goal.returns-in-Two
returns-in-Two c =
    subst (λ (n : ℕ). AreWindows c.args.x c.doubled.result n) (sym (ap size c.in-Two.is)) (c.doubled.ensures c.args.x (itself c.args.x))

pub returns-in-Four : goal.returns-in-Four
returns-in-Four c =
    subst (λ (n : ℕ). AreWindows c.args.x c.doubled-in-Four-2.result n) (sym (ap size c.in-Four.is))
    (c.doubled-in-Four-2.ensures c.args.x (c.doubled-in-Four.ensures c.args.x (itself c.args.x)))

pub returns-in-Eight : goal.returns-in-Eight
returns-in-Eight c =
    subst (λ (n : ℕ). AreWindows c.args.x c.doubled-in-Eight-3.result n) (sym (ap size c.in-Eight.is))
    (c.doubled-in-Eight-3.ensures c.args.x (c.doubled-in-Eight-2.ensures c.args.x (c.doubled-in-Eight.ensures c.args.x (itself c.args.x))))

pub returns-in-Sixteen : goal.returns-in-Sixteen
returns-in-Sixteen c =
    subst (λ (n : ℕ). AreWindows c.args.x c.doubled-in-Sixteen-4.result n) (sym (ap size c.in-Sixteen.is))
    (c.doubled-in-Sixteen-4.ensures c.args.x
    (c.doubled-in-Sixteen-3.ensures c.args.x
    (c.doubled-in-Sixteen-2.ensures c.args.x (c.doubled-in-Sixteen.ensures c.args.x (itself c.args.x)))))
