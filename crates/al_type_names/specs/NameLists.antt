-- Lists of names.
use Rattle.std.specs.Prelude.{Bool, List, [], ◌∷◌, ◌++◌, if◌then◌else◌}
use Rattle.al_rules.specs.Names.{Name, any_named}

-- with a name more, unless it is there
abbrev pub with_name : Name → List Name → List Name
with_name name names = if any_named (λ n. n) name names then names else names ++ name ∷ []

-- the names of a list
abbrev pub named_in : List Name → Name → Bool
named_in names name = any_named (λ n. n) name names
