use Rattle.std.proofs.Common.{◌≡◌, ◌+◌, ◌*◌, ◌/◌, ◌<◌, ◌||◌, List, ℕ, length, drop, ap, sym, ◌∙◌, arith}
use Rattle.std.specs.Simd.{first_chunks}
use Rattle.al_planes.specs.Planes as spec
use Rattle.al_planes.proofs.Blocks.{blocks_met}
use Rattle.al_planes.proofs.planes.planes_meet.Goals as goal

pub returns-then-block_meets : goal.returns-then-block_meets
returns-then-block_meets c =
    let a : List ℕ = c.args.a.now in
    let b : List ℕ = c.args.b.now in
    let i : ℕ = c.loop-i.i in
    let inv : spec.planes_meet (drop (i * 8) a) (drop (i * 8) b) ≡ spec.planes_meet a b = c.loop-i.invariant in
    let n : i < length a / 8 = omega (arith, c.as_chunks.ensures.front_len) in
    let same : length b / 8 ≡ length a / 8 = ap (λ (j : ℕ). j / 8) (sym c.requires) in
    let met =
    blocks_met 8 i (length a / 8) a b _ _ c.as_chunks.ensures.front (c.as_chunks-2.ensures.front ∙ ap (λ (m : ℕ). first_chunks 8 m b) same) n in
    sym (sym inv ∙ met
    ∙ ap (λ p. p || spec.planes_meet (drop ((i + 1) * 8) a) (drop ((i + 1) * 8) b)) (sym c.block_meets.ensures ∙ c.if-block_meets.true))

pub loop-i-preserved : goal.loop-i-preserved
loop-i-preserved c =
    let a : List ℕ = c.args.a.now in
    let b : List ℕ = c.args.b.now in
    let i : ℕ = c.loop-i.i in
    let inv : spec.planes_meet (drop (i * 8) a) (drop (i * 8) b) ≡ spec.planes_meet a b = c.loop-i.invariant in
    let n : i < length a / 8 = omega (arith, c.as_chunks.ensures.front_len) in
    let same : length b / 8 ≡ length a / 8 = ap (λ (j : ℕ). j / 8) (sym c.requires) in
    let met =
    blocks_met 8 i (length a / 8) a b _ _ c.as_chunks.ensures.front (c.as_chunks-2.ensures.front ∙ ap (λ (m : ℕ). first_chunks 8 m b) same) n in
    sym (met
    ∙ ap (λ p. p || spec.planes_meet (drop ((i + 1) * 8) a) (drop ((i + 1) * 8) b)) (sym c.block_meets.ensures ∙ c.if-block_meets.false)) ∙ inv
