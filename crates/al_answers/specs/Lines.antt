-- The lines for a file that is not read.
use Rattle.std.specs.Prelude.{ℕ, List, [], ◌∷◌, ◌++◌, codes}

-- `alter: `, a text round a name, and a line feed
abbrev pub line : List ℕ → List ℕ → List ℕ → List ℕ
line before name after = codes "alter: " ++ (before ++ (name ++ (after ++ 10 ∷ [])))

abbrev pub unread_line : List ℕ → List ℕ
unread_line name = line (codes "cannot read ") name []

abbrev pub absent_line : List ℕ → List ℕ
absent_line name = line (codes "no such file: ") name []
