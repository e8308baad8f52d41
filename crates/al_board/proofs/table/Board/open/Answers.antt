use Rattle.std.proofs.Common.{sym, subst, ◌≡◌, ◌+◌, ◌++◌, ◌∷◌, [], ◌∙◌, ℕ, List, replicate}
use Rattle.atomic_table.specs.Table.{opening}
use Rattle.al_board.specs.declared.view.Slot.{Slot}
use Rattle.al_board.specs.declared.view.Slot.TheVariants.{Empty}
use Rattle.al_board.specs.Views.{opener}
use Rattle.al_board.specs.Rule.{terms, IsKept}
use Rattle.al_board.proofs.Opens.{opens}
use Rattle.al_board.proofs.table.Board.open.Goals as goal

pub new-requires : goal.new-requires
new-requires g c =
    let key = c.args.setting in
    let n : ℕ = key.lanes in
    let b = terms g.T.Piece.fits g.T.Piece.laid (λ k m h. g.T.Piece.stands k h × (g.T.Piece.lanes k ≡ m)) key in
    let words : c.as_slice.result.now ≡ replicate (n + 2) 0 = c.as_slice.ensures.value ∙ c.in_ok-words.ensures.items_if_clones_equal (λ y h. h) in
    let slots : c.in_ok-slots.slots.items ≡ replicate n Empty ++ c.args.last ∷ [] = c.in_ok-slots.ensures in
    subst (λ (z : List ℕ × List (Slot g.row.T.Denot g.row.T-Shelf.Denot)). IsKept b (opening z.0 z.1 (opener key))) (λ i. (sym words i, sym slots i))
    (opens b c.args.last c.requires.lanes.0 c.requires.lanes.1 c.requires.last)
