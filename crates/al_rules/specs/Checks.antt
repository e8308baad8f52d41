-- Checks that give a value, or the kind of a fault. The line is told by the statement or item.
use Rattle.std.specs.Prelude.{Bool, if◌then◌else◌, List, [], ◌∷◌, Option, Some, None, Result, Ok, Err}
use Rattle.al_source.specs.Steps.{and_then}
use Rattle.al_rules.specs.declared.faults.TypeKind.{TypeKind}

abbrev pub Checked : Type 0 → Type 0
Checked A = Result A TypeKind

infixl 10 ◌>>=◌
abbrev pub ◌>>=◌ : {A B : Type 0} → Checked A → (A → Checked B) → Checked B
c >>= f = and_then c f

infixl 10 ◌>>◌
abbrev pub ◌>>◌ : {A B : Type 0} → Checked A → Checked B → Checked B
c >> d = c >>= (λ _. d)

-- the first fault of a list, or all its values
abbrev pub all : {A : Type 0} → List (Checked A) → Checked (List A)
all [] = Ok []
all (c ∷ cs) = c >>= (λ a. all cs >>= (λ as'. Ok (a ∷ as')))

abbrev pub each : {A B : Type 0} → (A → Checked B) → List A → Checked (List B)
each check [] = Ok []
each check (a ∷ rest) = check a >>= (λ b. each check rest >>= (λ bs. Ok (b ∷ bs)))

abbrev pub ensure : Bool → TypeKind → Checked (Unit {0})
ensure holds kind = if holds then Ok tt else Err kind

abbrev pub some_or : {A : Type 0} → Option A → TypeKind → Checked A
some_or (Some a) kind = Ok a
some_or None kind = Err kind

-- the second where the first is refused
abbrev pub or_else : {A : Type 0} → Checked A → Checked A → Checked A
or_else (Ok a) other = Ok a
or_else (Err kind) other = other
