-- Arguments that are fitted to parameters one by one, at a place among these.
use Rattle.std.proofs.Common.{◌≡◌, ℕ, ◌+◌, ◌<◌, ◌≤◌, List, [], ◌∷◌, ◌++◌, length, drop, get_or, Ok, Err, sym, ap, ap₂, ◌∙◌}
use Rattle.std.proofs.lemmas.List.{drop_all}
use Rattle.al_source.specs.declared.source_tree.Field.{Field}
use Rattle.al_core.specs.declared.typed_tree.TExpr.{TExpr}
use Rattle.al_rules.specs.declared.faults.TypeKind.{TypeKind}
use Rattle.al_rules.specs.declared.operands.Operand.{Operand}
use Rattle.al_source.specs.Steps.{and_then}
use Rattle.al_rules.specs.Checks.{Checked}
use Rattle.al_rules.specs.Operands.{fitting, fitting_all}
use Rattle.al_type_operands.proofs.Gathered.{behind, behind_one, behind_all, next_of}

abbrev pub one_more : List Field → List Operand → TExpr → Checked (List TExpr)
one_more fs xs a = and_then (fitting_all fs xs) (λ as'. Ok (a ∷ as'))

-- the next parameter, and the next argument
taken : (fs : List Field) (i : ℕ) (f : Field) (xs ys : List Operand) (x : Operand) → i < length fs → f ≡ get_or fs i f → xs ≡ x ∷ ys
    → fitting_all (drop i fs) xs ≡ and_then (fitting f.ty x) (one_more (drop (i + 1) fs) ys)
taken fs i f xs ys x within is front = ap₂ (λ fs xs. fitting_all fs xs) (next_of fs i f within is) front

-- one more
pub fits_more : (done new : List TExpr) (fs : List Field) (i : ℕ) (f : Field) (xs ys : List Operand) (x : Operand) (a : TExpr) → i < length fs
    → f ≡ get_or fs i f → xs ≡ x ∷ ys → fitting f.ty x ≡ Ok a → new ≡ done ++ a ∷ []
    → behind done (fitting_all (drop i fs) xs) ≡ behind new (fitting_all (drop (i + 1) fs) ys)
fits_more done new fs i f xs ys x a within is front fits grown =
    ap (behind done) (taken fs i f xs ys x within is front)
    ∙ ap (λ (r : Checked TExpr). behind done (and_then r (one_more (drop (i + 1) fs) ys))) fits
    ∙ behind_one done a (fitting_all (drop (i + 1) fs) ys) ∙ ap (λ d. behind d (fitting_all (drop (i + 1) fs) ys)) (sym grown)

module _ (told : Checked (List TExpr)) (done : List TExpr) (fs : List Field) (i : ℕ) (xs : List Operand) where
  -- the first that does not fit
  pub fits_fault : (f : Field) (ys : List Operand) (x : Operand) (k : TypeKind) → told ≡ behind done (fitting_all (drop i fs) xs) → i < length fs
      → f ≡ get_or fs i f → xs ≡ x ∷ ys → fitting f.ty x ≡ Err k → told ≡ Err k
  fits_fault f ys x k so_far within is front fits =
      so_far ∙ ap (behind done) (taken fs i f xs ys x within is front)
      ∙ ap (λ (r : Checked TExpr). behind done (and_then r (one_more (drop (i + 1) fs) ys))) fits

  -- no more arguments
  pub fits_short : (f : Field) → told ≡ behind done (fitting_all (drop i fs) xs) → i < length fs → f ≡ get_or fs i f → xs ≡ [] → told ≡ Ok done
  fits_short f so_far within is none = so_far ∙ ap₂ (λ fs xs. behind done (fitting_all fs xs)) (next_of fs i f within is) none ∙ behind_all done

  -- no more parameters
  pub fits_end : told ≡ behind done (fitting_all (drop i fs) xs) → length fs ≤ i → told ≡ Ok done
  fits_end so_far past = so_far ∙ ap (λ fs. behind done (fitting_all fs xs)) (drop_all i fs past) ∙ behind_all done
