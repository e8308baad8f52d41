-- Lines lie in blocks.
use Rattle.std.proofs.Common.{◌≡◌, ℕ, ◌+◌, ◌*◌, ◌/◌, ◌<◌, true, false, List, length, get_or, refl, sym, ap, subst, ◌∙◌, arith}
use Rattle.std.proofs.lemmas.List.Folds.{list_any_at}
use Rattle.al_core.specs.declared.values.Obj.{Obj}
use Rattle.al_core.specs.declared.values.Addr.{Addr}
use Rattle.al_core.specs.declared.values.Addr.TheVariants.{Word, Head, Local}
use Rattle.al_core.specs.Lines.{line_of}
use Rattle.al_planes.specs.declared.lines.Line.{Line}
use Rattle.al_planes.specs.declared.lines.Line.TheVariants as line
use Rattle.al_planes.specs.Lines.{size}
use Rattle.al_planes.specs.Masks as masks
use Rattle.al_planes.specs.Masks.{bit_in, CommonPlace}
use Rattle.al_sets.specs.declared.blocks.Block.{Block}
use Rattle.al_sets.specs.Places.{place_of, offset_of, address_at}
use Rattle.al_sets.specs.Blocks.{IsAscending, IsAt, IsGapFor, CommonOffsets, CommonLine, block_has, has_address}
use Rattle.al_sets.proofs.Placing.{same_address, place_there, offset_there, offset_below}
use Rattle.al_sets.proofs.Found.{has_at, had_at, address_in_block, no_address}
use Rattle.al_sets.proofs.Meeting.{bit_there, bit_there_in, same_default}

-- words of one line are in one block
same_block : (l : Line) (v w : ℕ) → v / size l ≡ w / size l → v / 512 ≡ w / 512
same_block line.One v w e = omega arith
same_block line.Two v w e = omega arith
same_block line.Four v w e = omega arith
same_block line.Eight v w e = omega arith
same_block line.Sixteen v w e = omega arith

pub line_place : (l : Line) (a b : Addr) → line_of (size l) a ≡ line_of (size l) b → place_of a ≡ place_of b
line_place l (Word o v) (Word p w) e =
    let f : o ≡ p = cc in
    let q : v / size l ≡ w / size l = cc in
    λ t. Word (f t) (same_block l v w q t)
line_place l (Word o v) (Head p) e = absurd (cc)
line_place l (Word o v) (Local k) e = absurd (cc)
line_place l (Head o) (Word p w) e = absurd (cc)
line_place l (Head o) (Head p) e = ap place_of e
line_place l (Head o) (Local k) e = absurd (cc)
line_place l (Local k) (Word p w) e = absurd (cc)
line_place l (Local k) (Head p) e = absurd (cc)
line_place l (Local k) (Local m) e = ap place_of e

-- an address is the one at its offset of its block
there : (a : Addr) → address_at (place_of a) (offset_of a) ≡ a
there a =
    let h = offset_below a in
    same_address _ _ (place_there (place_of a) (offset_of a) h) (offset_there (place_of a) (offset_of a) h)

-- ---- blocks of one place

to_words : (l : Line) (p i j : ℕ) → i / size l ≡ j / size l → (p * 512 + i) / size l ≡ (p * 512 + j) / size l
to_words line.One p i j e = omega arith
to_words line.Two p i j e = omega arith
to_words line.Four p i j e = omega arith
to_words line.Eight p i j e = omega arith
to_words line.Sixteen p i j e = omega arith

from_words : (l : Line) (p i j : ℕ) → (p * 512 + i) / size l ≡ (p * 512 + j) / size l → i / size l ≡ j / size l
from_words line.One p i j e = omega arith
from_words line.Two p i j e = omega arith
from_words line.Four p i j e = omega arith
from_words line.Eight p i j e = omega arith
from_words line.Sixteen p i j e = omega arith

module _ (l : Line) (q : Addr) (a b : List ℕ) where
  pub words_met : (o : Obj) (p : ℕ) → q ≡ Word o p → masks.CommonLine (size l) a b → CommonOffsets (size l) q a b
  words_met o p e c = record {
    first = c.first;
    second = c.second;
    first_below = c.first_below;
    second_below = c.second_below;
    in_a = c.in_a;
    in_b = c.in_b;
    same =
        subst (λ (x : Addr). line_of (size l) (address_at x c.first) ≡ line_of (size l) (address_at x c.second)) (sym e)
        (λ t. Word o (to_words l p c.first c.second c.same t));
  }

  pub words_meet : (o : Obj) (p : ℕ) → q ≡ Word o p → CommonOffsets (size l) q a b → masks.CommonLine (size l) a b
  words_meet o p e c =
      let s = subst (λ (x : Addr). line_of (size l) (address_at x c.first) ≡ line_of (size l) (address_at x c.second)) e c.same in
      let q : (p * 512 + c.first) / size l ≡ (p * 512 + c.second) / size l = cc in
      record {
        first = c.first;
        second = c.second;
        first_below = c.first_below;
        second_below = c.second_below;
        in_a = c.in_a;
        in_b = c.in_b;
        same = from_words l p c.first c.second q;
      }

  -- other addresses are lines of their own
  pub others_met : CommonPlace a b → CommonOffsets (size l) q a b
  others_met c = record {
    first = c.place;
    second = c.place;
    first_below = c.below;
    second_below = c.below;
    in_a = c.in_a;
    in_b = c.in_b;
    same = λ t. line_of (size l) (address_at q c.place);
  }

  pub others_meet : ((n : ℕ) → line_of (size l) (address_at q n) ≡ address_at q n) → CommonOffsets (size l) q a b → CommonPlace a b
  others_meet alone c =
      let e : address_at q c.first ≡ address_at q c.second = sym (alone c.first) ∙ c.same ∙ alone c.second in
      let f : c.first ≡ c.second =
      sym (offset_there q c.first c.first_below) ∙ ap offset_of e ∙ offset_there q c.second c.second_below in
      record { place = c.first; below = c.first_below; in_a = c.in_a; in_b = ap (bit_in b) f ∙ c.in_b }

-- heads and locals are lines of their own
pub head_alone : (l : Line) (q : Addr) (o : Obj) → q ≡ Head o → (n : ℕ) → line_of (size l) (address_at q n) ≡ address_at q n
head_alone l q o e n = subst (λ (x : Addr). line_of (size l) (address_at x n) ≡ address_at x n) (sym e) refl

pub local_alone : (l : Line) (q : Addr) (k : ℕ) → q ≡ Local k → (n : ℕ) → line_of (size l) (address_at q n) ≡ address_at q n
local_alone l q k e n = subst (λ (x : Addr). line_of (size l) (address_at x n) ≡ address_at x n) (sym e) refl

-- ---- lists of blocks

module _ (l : Line) (xs bs : List Block) where
  pub common_line : (k i : ℕ) (d : Block) → IsAscending bs → k < length xs → IsAt bs (get_or xs k d).place i
      → CommonOffsets (size l) (get_or xs k d).place (get_or xs k d).masks (get_or bs i d).masks → CommonLine (size l) xs bs
  common_line k i d up within at c =
      let b : Block = get_or xs k d in
      let first : Addr = address_at b.place c.first in
      record {
        first = first;
        second = address_at b.place c.second;
        in_first = list_any_at (block_has first) xs k d within (bit_there b c.first c.first_below c.in_a);
        in_second = bit_there_in bs i d b.place c.second up at c.second_below c.in_b;
        same = c.same;
      }

  module _ (k j : ℕ) (d e : Block) (a b : Addr) (same : k ≡ j) (within : j < length xs)
      (had : block_has a (get_or xs k d) ≡ true) (line : line_of (size l) a ≡ line_of (size l) b) where
    at_first : (get_or xs j e).place ≡ place_of a
    at_first = had_at a (get_or xs j e) (ap (block_has a) (sym (same_default xs k j d e same within)) ∙ had)

    at_second : (get_or xs j e).place ≡ place_of b
    at_second = at_first ∙ line_place l a b line

    pub common_offsets : (i : ℕ) → IsAscending bs → IsAt bs (get_or xs j e).place i → has_address bs b ≡ true
        → CommonOffsets (size l) (get_or xs j e).place (get_or xs j e).masks (get_or bs i e).masks
    common_offsets i up at g = record {
      first = offset_of a;
      second = offset_of b;
      first_below = offset_below a;
      second_below = offset_below b;
      in_a =
          sym (has_at a (get_or xs j e) at_first)
          ∙ ap (block_has a) (sym (same_default xs k j d e same within))
          ∙ had;
      in_b = sym (address_in_block bs b up i e (subst (λ q. IsAt bs q i) at_second at)) ∙ g;
      same =
          ap (λ (q : Addr). line_of (size l) (address_at q (offset_of a))) at_first
          ∙ ap (line_of (size l)) (there a)
          ∙ line
          ∙ ap (line_of (size l)) (sym (there b))
          ∙ ap (λ (q : Addr). line_of (size l) (address_at q (offset_of b))) (sym at_second);
    }

    pub no_line : (i : ℕ) → IsGapFor bs (get_or xs j e).place i → has_address bs b ≡ false
    no_line i gap = no_address bs b i (subst (λ q. IsGapFor bs q i) at_second gap)
