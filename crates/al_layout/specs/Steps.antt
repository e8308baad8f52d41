-- What a step of laying a program out gives: a value, or the item's fault.
use Rattle.std.specs.Prelude.{ℕ, List, Result, Ok}
use Rattle.std.specs.List.{sum}
use Rattle.al_source.specs.declared.source_tree.Item.{Item}
use Rattle.al_source.specs.declared.source_tree.StructDef.{StructDef}
use Rattle.al_rules.specs.declared.faults.LayoutCause.{LayoutCause}
use Rattle.al_rules.specs.declared.layout.Layout.{Layout}
use Rattle.al_rules.specs.declared.layout.StructLayout.{StructLayout}
use Rattle.al_rules.specs.Layouts.{words_of_fields, struct_layout, with_item, too_large, layout_fault_at, unless}

-- a struct, where it is not too large
abbrev pub placed : List StructLayout → StructDef → Result StructLayout LayoutCause
placed known s = unless (too_large (words_of_fields known s.fields) s.line) (Ok (struct_layout known s))

-- with one item more
abbrev pub added : Layout → Item → Result Layout LayoutCause
added l i = unless (layout_fault_at l i) (Ok (with_item l i))

-- the same, with the words of all globals
abbrev pub summed : Layout → Item → Result (ℕ × Layout) LayoutCause
summed l i = unless (layout_fault_at l i) (Ok (sum (with_item l i).globals, with_item l i))
