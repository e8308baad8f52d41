use Rattle.std.proofs.Common.{rules, ap, replicate, ◌≡◌, ◌∙◌, ◌++◌, ◌∷◌, []}
use Rattle.al_board.specs.declared.view.Slot.TheVariants.{Empty}
use Rattle.al_board.proofs.opening.slots_of.Goals as goal

pub returns : goal.returns
returns g c =
    let e : c.loop.counter ≡ c.args.lanes = search rules in
    let i = c.loop.invariant in
    c.in_ok-push-2.ensures.items ∙ ap (λ xs. xs ++ c.loop.last-1 ∷ []) (i.items ∙ ap (λ n. replicate n Empty) e)
    ∙ ap (λ x. replicate c.args.lanes Empty ++ x ∷ []) i.last
