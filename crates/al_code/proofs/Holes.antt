-- How many numbers a text prints.
use Rattle.std.proofs.Common.{◌≡◌, ◌+◌, Bool, List, ◌∷◌, cond, refl, sym, arith}
use Rattle.std.specs.Prelude.{true, false, count_by}
use Rattle.std.proofs.lemmas.List.Recursion.{is_count_by}
use Rattle.al_source.specs.declared.texts.Piece.{Piece}
use Rattle.al_source.specs.declared.texts.Piece.TheVariants as piece
use Rattle.al_code.specs.Machine.{holes}

abbrev pub is_number : Piece → Bool
is_number (piece.Plain bytes) = false
is_number piece.Number = true

hole_counts : (x : Piece) (f : List Piece) → holes (x ∷ f) ≡ cond (is_number x) (1 + holes f) (holes f)
hole_counts (piece.Plain bytes) f = refl
hole_counts piece.Number f = omega arith

pub holes_counted : (f : List Piece) → count_by is_number f ≡ holes f
holes_counted f = sym (is_count_by holes is_number refl hole_counts f)
