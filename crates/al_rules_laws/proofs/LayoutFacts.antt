-- The layout of a program is that of its sizes.
use Rattle.std.proofs.Common.{◌≡◌, List, [], ◌∷◌, Option, Some, None, Result, Ok, refl}
use Rattle.al_source.specs.declared.source_tree.Item.{Item}
use Rattle.al_source.specs.declared.source_tree.Program.{Program}
use Rattle.al_rules.specs.declared.layout.Layout.{Layout}
use Rattle.al_rules.specs.Layouts.{no_layout, with_item, with_items, layout_fault_at, unless, laid_out, layout_of, sizes}

pub unless_ok : {A F : Type 0} (o : Option F) (r : Result A F) (a : A) → unless o r ≡ Ok a → (o ≡ None) × (r ≡ Ok a)
unless_ok (Some fault) r a e = absurd cc
unless_ok None r a e = (refl, e)

laid_out_is : (l : Layout) (is : List Item) (m : Layout) → laid_out l is ≡ Ok m → with_items l is ≡ m
laid_out_is l [] m e = cc
laid_out_is l (i ∷ is) m e = laid_out_is (with_item l i) is m (unless_ok (layout_fault_at l i) (laid_out (with_item l i) is) m e).1

pub layout_is_sizes : (p : Program) (l : Layout) → layout_of p ≡ Ok l → sizes p ≡ l
unfolding layout_of sizes
layout_is_sizes p l e = laid_out_is no_layout p.items l e
