-- What holds of layouts.
use Rattle.std.specs.Prelude.{◌≡◌, Ok}
use Rattle.al_source.specs.declared.source_tree.Program.{Program}
use Rattle.al_rules.specs.declared.layout.Layout.{Layout}
use Rattle.al_rules.specs.Layouts.{layout_of, sizes}

abbrev pub LayoutIsSizes : Type 0
LayoutIsSizes = (p : Program) (l : Layout) → layout_of p ≡ Ok l → sizes p ≡ l
