-- Lines of masks, number by number.
use Rattle.std.proofs.Common.{◌≡◌, ℕ, ◌+◌, ◌*◌, ◌/◌, ◌%◌, ◌<◌, List, get_or, sym, ap, ◌∙◌, arith}
use Rattle.std.specs.Int.{bit_at}
use Rattle.std.proofs.lemmas.Bool.{eqb-true, eq-eqb}
use Rattle.al_planes.specs.declared.lines.Line.{Line}
use Rattle.al_planes.specs.declared.lines.Line.TheVariants as line
use Rattle.al_planes.specs.Lines.{CommonBits, size}
use Rattle.al_planes.specs.Masks.{CommonLine}
use Rattle.al_planes.proofs.Bits.{has_place}

-- places of one line in a number are places of one line in the masks
same_line : (l : Line) (k i j : ℕ) → i / size l ≡ j / size l → (k * 64 + i) / size l ≡ (k * 64 + j) / size l
same_line line.One k i j e = omega arith
same_line line.Two k i j e = omega arith
same_line line.Four k i j e = omega arith
same_line line.Eight k i j e = omega arith
same_line line.Sixteen k i j e = omega arith

-- the places of a line are in one number
same_number : (l : Line) (i j : ℕ) → i / size l ≡ j / size l → (j / 64 ≡ i / 64) × (i % 64 / size l ≡ j % 64 / size l)
same_number line.One i j e = (omega arith, omega arith)
same_number line.Two i j e = (omega arith, omega arith)
same_number line.Four i j e = (omega arith, omega arith)
same_number line.Eight i j e = (omega arith, omega arith)
same_number line.Sixteen i j e = (omega arith, omega arith)

pub common_line : (l : Line) (a b : List ℕ) (k : ℕ) → k < 8 → CommonBits (size l) (get_or a k 0) (get_or b k 0)
    → CommonLine (size l) a b
common_line l a b k h c = record {
  first = k * 64 + c.first;
  second = k * 64 + c.second;
  first_below = omega (arith, c.first_below);
  second_below = omega (arith, c.second_below);
  in_a = has_place a k c.first c.first_below ∙ eq-eqb _ _ c.in_a;
  in_b = has_place b k c.second c.second_below ∙ eq-eqb _ _ c.in_b;
  same = same_line l k c.first c.second c.same;
}

pub number_of_line : (l : Line) (a b : List ℕ) → CommonLine (size l) a b
    → (k : ℕ) × (k < 8) × CommonBits (size l) (get_or a k 0) (get_or b k 0)
number_of_line l a b c =
    let s = same_number l c.first c.second c.same in
    let below : c.first / 64 < 8 = omega (arith, c.first_below) in (
      c.first / 64,
      below,
      record {
        first = c.first % 64;
        second = c.second % 64;
        first_below = omega arith;
        second_below = omega arith;
        in_a = eqb-true _ _ c.in_a;
        in_b = ap (λ (k : ℕ). bit_at (get_or b k 0) (c.second % 64)) (sym s.0) ∙ eqb-true _ _ c.in_b;
        same = s.1;
      },
    )
