-- The commit orders that events tell.
use Rattle.std.proofs.Common.{◌≡◌, ℕ, suc, ◌+◌, ◌<◌, ◌≤◌, List, [], ◌∷◌, ◌++◌, Some, None, true, false, refl, ap, subst, ◌∙◌, arith, append_assoc}
use Rattle.std.specs.Prelude.{if◌then◌else◌, ◌==◌, map}
use Rattle.std.proofs.lemmas.Bool.{ne_eqb, eqb-false}
use Rattle.al_core.specs.declared.reports.Event.{Event}
use Rattle.al_core.specs.declared.reports.Event.TheVariants as event
use Rattle.al_core.specs.declared.reports.Judged.{Judged}
use Rattle.al_core.specs.Lockstep.{commits_of}
use Rattle.al_core.specs.Report.{rounds_until, commit_order}

-- of executions below this one
abbrev pub Below : ℕ → List Event → Type 0
Below e [] = Unit {0}
Below e (event.Enter number x line trips chunks ∷ es) = (x < e) × Below e es
Below e (event.Round round ∷ es) = Below e es

-- of this execution and later ones
abbrev pub From : ℕ → List Event → Type 0
From e [] = Unit {0}
From e (event.Enter number x line trips chunks ∷ es) = (e ≤ x) × From e es
From e (event.Round round ∷ es) = From e es

-- what comes next begins with a loop
abbrev pub Begins : List Event → Type 0
Begins [] = Unit {0}
Begins (event.Enter number x line trips chunks ∷ es) = Unit {0}
Begins (event.Round round ∷ es) = ⊥

pub commit_skip : (e : ℕ) (es rest : List Event) → Below e es → commit_order (es ++ rest) e ≡ commit_order rest e
commit_skip e [] rest h = refl
commit_skip e (event.Enter number x line trips chunks ∷ es) rest h =
    ap (λ b. if b then Some (commits_of (rounds_until (es ++ rest))) else commit_order (es ++ rest) e) (ne_eqb x e (omega (arith, h.0)))
    ∙ commit_skip e es rest h.1
commit_skip e (event.Round round ∷ es) rest h = commit_skip e es rest h

pub commit_none : (e : ℕ) (es : List Event) → From (suc e) es → commit_order es e ≡ None
commit_none e [] h = refl
commit_none e (event.Enter number x line trips chunks ∷ es) h =
    ap (λ b. if b then Some (commits_of (rounds_until es)) else commit_order es e) (ne_eqb x e (omega (arith, h.0))) ∙ commit_none e es h.1
commit_none e (event.Round round ∷ es) h = commit_none e es h

until_next : (rs : List (List Judged)) (rest : List Event) → Begins rest → rounds_until (map (λ r. event.Round r) rs ++ rest) ≡ rs
until_next [] [] h = refl
until_next [] (event.Enter number x line trips chunks ∷ es) h = refl
until_next [] (event.Round round ∷ es) h = absurd h
until_next (r ∷ rs) rest h = ap (λ l. r ∷ l) (until_next rs rest h)

eq_itself : (e : ℕ) → (e == e) ≡ true
eq_itself e = elim (e == e) as (λ b. (e == e) ≡ b → b ≡ true) [ true ↦ λ t. refl | false ↦ λ t. absurd (eqb-false e e t refl) ] refl

pub commit_here : (e number line trips chunks : ℕ) (rs : List (List Judged)) (rest : List Event) → Begins rest
    → commit_order (event.Enter number e line trips chunks ∷ (map (λ r. event.Round r) rs ++ rest)) e ≡ Some (commits_of rs)
commit_here e number line trips chunks rs rest h =
    let more = map (λ r. event.Round r) rs ++ rest in
    ap (λ b. if b then Some (commits_of (rounds_until more)) else commit_order more e) (eq_itself e)
    ∙ ap (λ l. Some (commits_of l)) (until_next rs rest h)

below_more : (e : ℕ) (es : List Event) → Below e es → Below (suc e) es
below_more e [] h = tt
below_more e (event.Enter number x line trips chunks ∷ es) h = (omega (arith, h.0), below_more e es h.1)
below_more e (event.Round round ∷ es) h = below_more e es h

pub below_both : (e : ℕ) (es fs : List Event) → Below e es → Below e fs → Below e (es ++ fs)
below_both e [] fs h k = k
below_both e (event.Enter number x line trips chunks ∷ es) fs h k = (h.0, below_both e es fs h.1 k)
below_both e (event.Round round ∷ es) fs h k = below_both e es fs h k

pub below_rounds : (e : ℕ) (rs : List (List Judged)) → Below e (map (λ r. event.Round r) rs)
below_rounds e [] = tt
below_rounds e (r ∷ rs) = below_rounds e rs

pub from_rounds : (e : ℕ) (rs : List (List Judged)) (rest : List Event) → From e rest → From e (map (λ r. event.Round r) rs ++ rest)
from_rounds e [] rest h = h
from_rounds e (r ∷ rs) rest h = from_rounds e rs rest h

pub from_less : (e : ℕ) (es : List Event) → From (suc e) es → From e es
from_less e [] h = tt
from_less e (event.Enter number x line trips chunks ∷ es) h = (omega (arith, h.0), from_less e es h.1)
from_less e (event.Round round ∷ es) h = from_less e es h

pub append_nothing : (es : List Event) → es ≡ es ++ []
append_nothing [] = refl
append_nothing (e ∷ es) = ap (λ l. e ∷ l) (append_nothing es)

pub append_order : (es fs rest : List Event) (e : ℕ) → commit_order ((es ++ fs) ++ rest) e ≡ commit_order (es ++ (fs ++ rest)) e
append_order es fs rest e = ap (λ l. commit_order l e) (append_assoc es fs rest)

pub below_next : (e : ℕ) (es : List Event) → Below e es → Below (e + 1) es
below_next e es h = let next : suc e ≡ e + 1 = omega arith in subst (λ n. Below n es) next (below_more e es h)
