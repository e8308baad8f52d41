-- How many words the structs and globals of a program have, and where the fields of a struct lie.
use Rattle.std.specs.Prelude.{ℕ, ◌+◌, ◌*◌, Bool, false, if◌then◌else◌, nat_lt, List, [], ◌∷◌, ◌++◌, Option, Some, None, Result, Ok, Err}
use Rattle.std.specs.List.{find, list_any, sum}
use Rattle.std.specs.Str.{bytes_eq}
use Rattle.al_source.specs.declared.limits.TheConstants.{OBJECT_WORDS}
use Rattle.al_source.specs.declared.source_tree.CType.{CType, fold-CType}
use Rattle.al_source.specs.declared.source_tree.CType.TheOpen.{CType-F}
use Rattle.al_source.specs.declared.source_tree.Field.{Field}
use Rattle.al_source.specs.declared.source_tree.StructDef.{StructDef}
use Rattle.al_source.specs.declared.source_tree.Item.{Item}
use Rattle.al_source.specs.declared.source_tree.Item.TheVariants as item
use Rattle.al_source.specs.declared.source_tree.Program.{Program}
use Rattle.al_rules.specs.declared.faults.LayoutCause.{LayoutCause}
use Rattle.al_rules.specs.declared.faults.LayoutCause.TheVariants.{SelfHolding, TooLarge}
use Rattle.al_rules.specs.declared.layout.Layout.{Layout}
use Rattle.al_rules.specs.declared.layout.StructLayout.{StructLayout}
use Rattle.al_rules.specs.Names.{Name}

-- ---- words

abbrev pub words_or_none : Option StructLayout → ℕ
words_or_none (Some s) = s.words
words_or_none None = 0

-- A word holds an integer or a pointer. A struct that is not known, and `void`, have none. Of two structs of one name
-- the first counts.
abbrev pub words_case : List StructLayout → CType-F ℕ → ℕ
words_case known CType-F.Int = 1
words_case known CType-F.Void = 0
words_case known (CType-F.Struct name) = words_or_none (find (λ s. bytes_eq s.name name) known)
words_case known (CType-F.Ptr words) = 1
words_case known (CType-F.Array words length) = length * words

-- the words of a type, where these structs are known
unfoldable pub words_of : List StructLayout → CType → ℕ
words_of known = fold-CType ℕ (words_case known)

-- ---- structs

-- the offset of each field, the first of which lies there
abbrev pub offsets_from : List StructLayout → ℕ → List Field → List ℕ
offsets_from known at [] = []
offsets_from known at (f ∷ fs) = at ∷ offsets_from known (at + words_of known f.ty) fs

abbrev pub words_of_fields : List StructLayout → List Field → ℕ
words_of_fields known [] = 0
words_of_fields known (f ∷ fs) = words_of known f.ty + words_of_fields known fs

-- a struct's fields lie in order without gaps
abbrev pub struct_layout : List StructLayout → StructDef → StructLayout
struct_layout known s = record {
  name = s.name;
  words = words_of_fields known s.fields;
  offsets = offsets_from known 0 s.fields;
}

-- a type holds a struct of this name by value
abbrev pub holds_case : Name → CType-F Bool → Bool
holds_case name (CType-F.Struct other) = bytes_eq other name
holds_case name (CType-F.Array held length) = held
holds_case name _ = false

unfoldable pub holds : Name → CType → Bool
holds name = fold-CType Bool (holds_case name)

-- ---- items

abbrev pub no_layout : Layout
no_layout = record { structs = []; globals = [] }

-- with one item more: a struct by value is known where an earlier item defines it
abbrev pub with_item : Layout → Item → Layout
with_item l (item.Struct s) = record l { structs = l.structs ++ struct_layout l.structs s ∷ [] }
with_item l (item.Global g) = record l { globals = l.globals ++ words_of l.structs g.ty ∷ [] }
with_item l (item.Func f) = l

abbrev pub with_items : Layout → List Item → Layout
with_items l [] = l
with_items l (i ∷ is) = with_items (with_item l i) is

-- The sizes of a program, whatever its faults.
unfoldable pub sizes : Program → Layout
sizes p = with_items no_layout p.items

-- ---- faults

abbrev pub too_large : ℕ → ℕ → Option LayoutCause
too_large words line = if nat_lt OBJECT_WORDS words then Some (TooLarge line) else None

-- an item's fault behind the items before it: a struct holds itself, by name, or is too large; or the globals so far
-- are
abbrev pub layout_fault_at : Layout → Item → Option LayoutCause
layout_fault_at l (item.Struct s) =
    if list_any (λ f. holds s.name f.ty) s.fields then Some (SelfHolding s.line)
    else too_large (words_of_fields l.structs s.fields) s.line
layout_fault_at l (item.Global g) = too_large (sum l.globals + words_of l.structs g.ty) g.line
layout_fault_at l (item.Func f) = None

abbrev pub unless : {A F : Type 0} → Option F → Result A F → Result A F
unless (Some fault) r = Err fault
unless None r = r

abbrev pub laid_out : Layout → List Item → Result Layout LayoutCause
laid_out l [] = Ok l
laid_out l (i ∷ is) = unless (layout_fault_at l i) (laid_out (with_item l i) is)

-- The layout of a program, or its first layout fault.
unfoldable pub layout_of : Program → Result Layout LayoutCause
layout_of p = laid_out no_layout p.items

abbrev pub fault_of : {A F : Type 0} → Result A F → Option F
fault_of (Ok a) = None
fault_of (Err fault) = Some fault

abbrev pub layout_fault : Program → Option LayoutCause
layout_fault p = fault_of (layout_of p)
