-- A pile that grows stays one for its task, so a shelf that is a pile needs no proof of its own.
use Rattle.std.proofs.Common.{◌≡◌, ℕ, ◌≤◌, List, [], ◌∷◌, ◌++◌, length, sym, ap, ◌∙◌, subst, ⊎_elim, arith}
use mathlib.Core.Option.{some}
use lib.ListN.{get_elem?}
use Rattle.al_board.specs.declared.pile.Pile.{Pile}
use Rattle.al_board.specs.Fits.{AreFit}
use Rattle.al_board.specs.Piles.{on_pile, room_of, IsPileFor}
use Rattle.al_count.proofs.Totals.{at_end}

module _ {T : Type 0} (fits : ℕ → T → Type 0) (lanes : ℕ) where
  pub pile_grows : (p q : Pile T) (piece : T) → IsPileFor fits lanes p → fits (length (on_pile p)) piece → on_pile q ≡ on_pile p ++ piece ∷ []
      → room_of q ≡ room_of p → IsPileFor fits lanes q
  pile_grows p q piece h fit laid room = record {
    room = let r = h.room in omega arith;
    fit = subst (AreFit fits) (sym laid) (λ lane x e.
        ⊎_elim
        (λ was. h.fit lane x was)
        (λ (t : (lane ≡ length (on_pile p)) × (piece ≡ x)). subst (λ (z : ℕ × T). fits z.0 z.1) (λ i. (sym t.0 i, t.1 i)) fit)
        (at_end (on_pile p) piece x lane e));
  }

  -- an empty pile with room is one
  pub pile_starts : (p : Pile T) → on_pile p ≡ [] → lanes ≤ room_of p → IsPileFor fits lanes p
  pile_starts p none room = record {
    room = room;
    fit = λ lane x e.
        absurd (mathlib.Core.Option.some-ne-none x (sym e ∙ ap (λ (z : List T). get_elem? z lane) none));
  }
