-- What files hold, as a list of names and bytes, and what a read gives of it.
use Rattle.std.specs.Prelude.{ℕ, List, take, Option}
use Rattle.std.specs.Option.{option_map}
use Rattle.std.specs.Map.{lookup}
use Rattle.std.specs.Str.{bytes_eq}

-- the names of files, as the bytes of their text, each with the bytes of the file
abbrev pub Contents : Type 0
Contents = List (List ℕ × List ℕ)

-- the bytes of the file of this name, if there is one
abbrev pub contents_of : Contents → List ℕ → Option (List ℕ)
contents_of files name = lookup (bytes_eq name) files

-- the first bytes of the file of this name, at most so many: all of them, where it has no more
abbrev pub beginning_of : Contents → List ℕ → ℕ → Option (List ℕ)
beginning_of files name most = option_map (take most) (contents_of files name)
