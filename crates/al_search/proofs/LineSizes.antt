-- The lines of what is tried.
use Rattle.std.proofs.Common.{◌≡◌, ℕ, zero, suc, List, [], ◌∷◌, map, slice_get, slice_set, Option, None, Some, Result, Ok, Err, IfOk, IfSome, subst, sym, ap}
use Rattle.al_core.specs.declared.choices.Choice.{Choice}
use Rattle.al_core.specs.declared.choices.LoopInfo.{LoopInfo}
use Rattle.al_core.specs.Lines.{IsLineSize, with_line}
use Rattle.al_engine.specs.Jobs.{HaveLineSizes}
use Rattle.al_runs_laws.specs.Accepted.{unannotated}
use Rattle.al_search.specs.Search.{candidate, choices_for}
use Rattle.std.specs.declared.alloc.AllocError.{AllocError}

lined : (line : ℕ) (xs : List Choice) (k : ℕ) (c : Choice) → slice_get (map (with_line line) xs) k ≡ Some c → c.line ≡ line
lined line [] k c h = absurd cc
lined line (x ∷ xs) zero c h = let same : with_line line x ≡ c = cc in sym (ap (λ (c : Choice). c.line) same)
lined line (x ∷ xs) (suc k) c h = lined line xs k c h

pub have_line : (line : ℕ) (xs : List Choice) (r : Result (List Choice) AllocError) → IfOk r (λ cs. cs ≡ map (with_line line) xs)
    → IfOk r (λ cs. (k : ℕ) (c : Choice) → slice_get cs k ≡ Some c → c.line ≡ line)
have_line line xs (Ok cs) is = λ k c h. lined line xs k c (subst (λ l. slice_get l k ≡ Some c) is h)
have_line line xs (Err e) is = tt

pub none_has : (infos : List LoopInfo) → HaveLineSizes (unannotated infos)
none_has [] k c h = absurd cc
none_has (i ∷ is) zero c h = absurd cc
none_has (i ∷ is) (suc k) c h = none_has is k c h

set_has : (cs : List (Option Choice)) (i : ℕ) (v : Option Choice) → IfSome v (λ (c : Choice). IsLineSize c.line)
    → HaveLineSizes cs → HaveLineSizes (slice_set cs i v)
set_has [] i v size has k c h = absurd cc
set_has (x ∷ xs) zero v size has zero c h = let same : v ≡ Some c = cc in subst (λ o. IfSome o (λ (c : Choice). IsLineSize c.line)) same size
set_has (x ∷ xs) zero v size has (suc k) c h = has (suc k) c h
set_has (x ∷ xs) (suc i) v size has zero c h = has zero c h
set_has (x ∷ xs) (suc i) v size has (suc k) c h = set_has xs i v size (λ j d e. has (suc j) d e) k c h

candidate_has : (tried : List Choice) (k : Option ℕ) → ((j : ℕ) (c : Choice) → slice_get tried j ≡ Some c → IsLineSize c.line)
    → (found : Option Choice) → candidate tried k ≡ found → IfSome found (λ (c : Choice). IsLineSize c.line)
candidate_has tried k all None is = tt
candidate_has tried None all (Some c) is = absurd cc
candidate_has tried (Some j) all (Some c) is = all j c is

-- so runs may be given what is tried
pub trial_has : (infos : List LoopInfo) (number : ℕ) (tried : List Choice) (k : Option ℕ)
    → ((j : ℕ) (c : Choice) → slice_get tried j ≡ Some c → IsLineSize c.line)
    → (choice : Option Choice) → choice ≡ candidate tried k
    → (cs : List (Option Choice)) → cs ≡ choices_for infos number choice → HaveLineSizes cs
trial_has infos number tried k all choice is cs set =
    subst HaveLineSizes (sym set) (set_has (unannotated infos) number choice (candidate_has tried k all choice (sym is)) (none_has infos))

-- a list whose lines have one size has sizes that a run may have
pub all_sized : (line : ℕ) (cs : List Choice) → IsLineSize line → ((k : ℕ) (c : Choice) → slice_get cs k ≡ Some c → c.line ≡ line)
    → (k : ℕ) (c : Choice) → slice_get cs k ≡ Some c → IsLineSize c.line
all_sized line cs size all k c is = subst IsLineSize (sym (all k c is)) size
