-- Calls by what is called.
use Rattle.std.proofs.Common.{◌≡◌, ℕ, ◌==◌, List, [], ◌∷◌, length, Ok, refl}
use Rattle.al_source.specs.declared.operators.RedOp.{RedOp}
use Rattle.al_source.specs.declared.source_tree.CType.TheVariants as type
use Rattle.al_source.specs.declared.source_tree.Func.{Func}
use Rattle.al_core.specs.declared.typed_tree.TExpr.TheVariants as e
use Rattle.al_rules.specs.declared.faults.TypeKind.TheVariants.{Count}
use Rattle.al_rules.specs.declared.operands.Operand.{Operand}
use Rattle.al_rules.specs.Checks.{◌>>=◌, ◌>>◌, ensure}
use Rattle.al_rules.specs.Scopes.{Function, Input, Inputs, Choose}
use Rattle.al_rules.specs.Operands.{integer, pointer, fitting_all, called, freed}
use Rattle.al_type_operands.specs.Arguments.{none_of, only_of, pair_of}

pub called_function : (k : ℕ) (f : Func) (xs : List Operand)
    → called (Function k f) xs ≡ (ensure (length xs == length f.params) Count >> fitting_all f.params xs >>= (λ args. Ok (f.result, e.Call k args)))
unfolding called
called_function k f xs = refl

pub called_input : (xs : List Operand) → called Input xs ≡ (only_of xs >>= (λ x. integer x >>= (λ a. Ok (type.Int, e.Input a))))
unfolding called
called_input [] = refl
called_input (x ∷ []) = refl
called_input (x ∷ y ∷ xs) = refl

pub called_inputs : (xs : List Operand) → called Inputs xs ≡ (none_of xs >>= (λ _. Ok (type.Int, e.Inputs)))
unfolding called
called_inputs [] = refl
called_inputs (x ∷ xs) = refl

pub called_choose : (op : RedOp) (xs : List Operand)
    → called (Choose op) xs ≡ (pair_of xs >>= (λ p. integer p.0 >>= (λ a. integer p.1 >>= (λ b. Ok (type.Int, e.Choose op a b)))))
unfolding called
called_choose op [] = refl
called_choose op (x ∷ []) = refl
called_choose op (x ∷ y ∷ []) = refl
called_choose op (x ∷ y ∷ z ∷ xs) = refl

pub freed_only : (xs : List Operand) → freed xs ≡ (only_of xs >>= (λ x. pointer x >>= (λ a. Ok (e.Free a.1))))
unfolding freed
freed_only [] = refl
freed_only (x ∷ []) = refl
freed_only (x ∷ y ∷ xs) = refl
