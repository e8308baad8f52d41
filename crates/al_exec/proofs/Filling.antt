-- Zeros on the stack, in room that was made or was there.
use Rattle.std.proofs.Common.{◌≡◌, ◌≤◌, ℕ, ◌+◌, ◌++◌, sym, ap, ◌∙◌, arith}
use Rattle.std.specs.Prelude.{replicate}
use Rattle.al_exec.specs.Active.{Active}
use Rattle.al_exec.specs.Frames.{Grown, Filled}
use Rattle.al_exec.proofs.Calling.{zero_value}

-- so many zeros more
abbrev pub with_zeros : Active → ℕ → Active
with_zeros s zeros = record s { stack = replicate zeros zero_value ++ s.stack; height = s.height + zeros }

pub filled_here : (s s' : Active) (zeros more : ℕ) → s' ≡ with_zeros s zeros → s.height + zeros + more ≤ s.room → Filled s zeros more s'
filled_here s s' zeros more new wide =
    let room : s'.room ≡ s.room = ap (λ (s : Active). s.room) new in
    let size : s'.size ≡ s.size = ap (λ (s : Active). s.size) new in
    let high : s'.height ≡ s.height + zeros = ap (λ (s : Active). s.height) new in
    record {
      same = new ∙ (λ j. record (with_zeros s zeros) { room = sym room j; size = sym size j });
      wide = omega (arith, wide, high, room);
      wider = omega (arith, room);
    }

pub filled_by : (s s1 s2 : Active) (zeros more : ℕ) → Grown s (zeros + more) s1 → s2 ≡ with_zeros s1 zeros → Filled s zeros more s2
filled_by s s1 s2 zeros more grown new =
    let room : s2.room ≡ s1.room = ap (λ (s : Active). s.room) new in
    let size : s2.size ≡ s1.size = ap (λ (s : Active). s.size) new in
    let high : s2.height ≡ s1.height + zeros = ap (λ (s : Active). s.height) new in
    let low : s1.height ≡ s.height = ap (λ (s : Active). s.height) grown.same in
    record {
      same = new ∙ ap (λ (s : Active). with_zeros s zeros) grown.same ∙ (λ j. record (with_zeros s zeros) { room = sym room j; size = sym size j });
      wide = omega (arith, grown.wide, high, low, room);
      wider = omega (arith, grown.wider, room);
    }
