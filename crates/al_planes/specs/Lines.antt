-- Bits of a number by lines, which are neighbours from a multiple of the line's size on.
use Rattle.std.specs.Prelude.{◌≡◌, ◌↔◌, ℕ, ◌+◌, ◌/◌, ◌<◌, ◌≤◌}
use Rattle.std.specs.Int.{bit_at}
use Rattle.al_planes.specs.declared.lines.Line.{Line}
use Rattle.al_planes.specs.declared.lines.Line.TheVariants as line

abbrev pub size : Line → ℕ
size line.One = 1
size line.Two = 2
size line.Four = 4
size line.Eight = 8
size line.Sixteen = 16

-- the first bit of each line
abbrev pub first_bits : Line → ℕ
first_bits line.One = 18446744073709551615
first_bits line.Two = 6148914691236517205
first_bits line.Four = 1229782938247303441
first_bits line.Eight = 72340172838076673
first_bits line.Sixteen = 281479271743489

-- a bit of x within s places from k on
pub record InWindow (x k s : ℕ) : Type 0 where
  pub place : ℕ
  pub from : k ≤ place
  pub within : place < k + s
  pub set : bit_at x place ≡ 1

-- y has the bits from which on x has one within s places
abbrev pub AreWindows : ℕ → ℕ → ℕ → Type 0
AreWindows x y s = (k : ℕ) → (bit_at y k ≡ 1) ↔ InWindow x k s

-- two bits in one line of g, of two numbers
pub record CommonBits (g a b : ℕ) : Type 0 where
  pub first : ℕ
  pub second : ℕ
  pub first_below : first < 64
  pub second_below : second < 64
  pub in_a : bit_at a first ≡ 1
  pub in_b : bit_at b second ≡ 1
  pub same : first / g ≡ second / g
