-- The lines on standard error.
use Rattle.std.specs.Prelude.{ℕ, List, ◌++◌, codes}
use Rattle.std.specs.Fmt.{decimal}

-- about a whole file
abbrev pub of_file : List ℕ → List ℕ → List ℕ
of_file name text = codes "alter: " ++ name ++ codes ": " ++ text ++ codes "\n"

-- about a line of a file
abbrev pub of_line : List ℕ → ℕ → List ℕ → List ℕ
of_line name line text = codes "alter: " ++ name ++ codes ":" ++ decimal line ++ codes ": " ++ text ++ codes "\n"
