-- Checks whose faults get their line, as steps of the walk.
use Rattle.std.proofs.Common.{◌≡◌, ℕ, Result, Ok, Err, sym, ap, ◌∙◌, subst}
use Rattle.al_rules.specs.declared.faults.TypeCause.{TypeCause}
use Rattle.al_rules.specs.declared.faults.TypeFault.{TypeFault}
use Rattle.al_rules.specs.Faults.{typed}
use Rattle.al_rules.specs.Scopes.{Scope}
use Rattle.al_source.specs.Steps.{and_then}
use Rattle.al_rules.specs.Checks.{Checked}
use Rattle.al_rules.specs.Walks.{Progress, Walk, at_line, bind, checks}
use Rattle.al_type_names.specs.declared.fault.Fault.{Fault}
use Rattle.al_source.specs.Answers.{Fails, Gives, Walks}
use Rattle.al_type_names.specs.Steps.{kind_of}
use Rattle.al_types.proofs.Failing.{fails}

-- what is told of a check, whatever it comes to
abbrev pub Lined : {A : Type 0} → ℕ → Result A Fault → Result A TypeFault → Type 0
Lined {A} line r' r = (told : Checked A) → Gives kind_of told r' → Gives typed (at_line line told) r

pub walked : {A : Type 0} (line : ℕ) (check : Scope → Checked A) (s : Progress) (r : Result A TypeFault)
    → Gives typed (at_line line (check s.scope)) r → Walks typed (checks line check s) r s
unfolding checks
walked line check s (Ok a) given = ap (λ r. and_then r (λ a. Ok (a, s))) given
walked line check s (Err e) given =
    fails (at_line line (check s.scope)) (and_then (at_line line (check s.scope)) (λ a. Ok (a, s))) (typed e)
    (λ e is. ap (λ r. and_then r (λ a. Ok (a, s))) is) given

-- a check that reads the names in scope
pub walked_scope : {A : Type 0} (line : ℕ) (check : Scope → Checked A) (scope : Scope) (s : Progress) (r' : Result A Fault) (r : Result A TypeFault)
    → scope ≡ s.scope → Gives kind_of (check scope) r' → Lined line r' r → Walks typed (checks line check s) r s
walked_scope line check scope s r' r same ensured given =
    walked line check s r (subst (λ (q : Scope). Gives typed (at_line line (check q)) r) same (given (check scope) ensured))

-- a check at the end of a walk
pub walked_last : {A : Type 0} (line : ℕ) (check : Checked A) (told : Result (A × Progress) TypeCause) (s : Progress) (r' : Result A Fault)
    (r : Result A TypeFault) → told ≡ checks line (λ _. check) s → Gives kind_of check r' → Lined line r' r → Walks typed told r s
walked_last line check told s r' r is ensured given =
    subst (λ (w : Result (_ × Progress) TypeCause). Walks typed w r s) (sym is) (walked line (λ _. check) s r (given check ensured))

-- behind a step
pub bound : {A B : Type 0} (p : Walk A) (f : A → Walk B) (s t : Progress) (a : A) → p s ≡ Ok (a, t) → bind p f s ≡ f a t
unfolding bind
bound p f s t a is = ap (λ r. and_then r (λ r. f r.0 r.1)) is

-- a check that fails, where what is told is its fault with the line
pub lined : {A B : Type 0} (line : ℕ) (check : Checked A) (told : Result B TypeCause) (r' : Result A Fault) (e : TypeFault) → Gives kind_of check r'
    → Lined line r' (Err e) → ((d : TypeCause) → at_line line check ≡ Err d → told ≡ Err d) → Fails told (typed e)
lined line check told r' e ensured given h = fails (at_line line check) told (typed e) h (given check ensured)

-- the same of a step of the walk
pub stopped : {A B : Type 0} (line : ℕ) (check : Checked A) (told : Result B TypeCause) (s : Progress) (r' : Result A Fault) (e : TypeFault)
    → Gives kind_of check r' → Lined line r' (Err e) → ((d : TypeCause) → checks line (λ _. check) s ≡ Err d → told ≡ Err d) → Fails told (typed e)
unfolding checks
stopped line check told s r' e ensured given h = lined line check told r' e ensured given (λ d is. h d (ap (λ r. and_then r (λ a. Ok (a, s))) is))

-- and of one that reads the names in scope
pub stopped_scope : {A B : Type 0} (line : ℕ) (check : Scope → Checked A) (told : Result B TypeCause) (scope : Scope) (s : Progress) (r' : Result A Fault)
    (e : TypeFault) → scope ≡ s.scope → Gives kind_of (check scope) r' → Lined line r' (Err e)
    → ((d : TypeCause) → checks line check s ≡ Err d → told ≡ Err d) → Fails told (typed e)
unfolding checks
stopped_scope line check told scope s r' e same ensured given h =
    lined line (check scope) told r' e ensured given
    (λ d is. h d (ap (λ r. and_then r (λ a. Ok (a, s))) (ap (λ (q : Scope). at_line line (check q)) (sym same) ∙ is)))
