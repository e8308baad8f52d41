-- Scopes within scopes, and statements one after another, as the code walks over them.
use Rattle.std.proofs.Common.{◌≡◌, ℕ, ◌+◌, ◌<◌, ◌≤◌, Bool, List, [], ◌∷◌, ◌++◌, length, drop, get_or, Option, Result, Ok, Err, refl, sym, ap, ◌∙◌, arith, length-append}
use Rattle.std.proofs.lemmas.List.{drop_all}
use Rattle.al_source.specs.declared.source_tree.CType.{CType}
use Rattle.al_source.specs.declared.source_tree.Expr.{Expr}
use Rattle.al_source.specs.declared.source_tree.Stmt.{Stmt}
use Rattle.al_core.specs.declared.choices.Choice.{Choice}
use Rattle.al_core.specs.declared.typed_tree.TKind.{TKind}
use Rattle.al_core.specs.declared.typed_tree.TKind.TheVariants as k
use Rattle.al_core.specs.declared.typed_tree.TStmt.{TStmt}
use Rattle.al_rules.specs.declared.faults.TypeCause.{TypeCause}
use Rattle.al_source.specs.Steps.{and_then}
use Rattle.al_rules.specs.Scopes.{Known, Scope, in_scope, nested}
use Rattle.al_rules.specs.Walks.{Progress, Walk, bind, pure, get_scope, set_scope, within, ◌>>=◌}
use Rattle.al_rules.specs.Statements.{is_first, is_third, part, any_part, any_condition, looped_body, statements}
use Rattle.al_rules.proofs.StatementNodes.{part_of}
use Rattle.al_type_names.specs.Bindings.{without_inner}
use Rattle.al_type_names.proofs.ScopeLists.{left_scope}
use Rattle.al_type_operands.proofs.Gathered.{next_of, behind_with, with_one, with_all}

abbrev pub entered : Progress → Progress
entered s = record s { scope = nested s.scope }

abbrev pub left : ℕ → Progress → Progress
left mark t = record t { scope = without_inner mark t.scope }

-- what was entered may be left
pub may_leave : (s t : Progress) → t.scope.outer ≡ in_scope s.scope → length s.scope.outer ≤ length t.scope.outer
may_leave s t around = omega (arith, ap length around, length-append s.scope.inner s.scope.outer)

-- what a walk comes to in a scope of its own
module _ {A : Type 0} (w : Walk A) (s : Progress) where
  pub within_ok : (t : Progress) (a : A) (mark : ℕ) → mark ≡ length s.scope.outer → w (entered s) ≡ Ok (a, t)
      → t.scope.outer ≡ in_scope s.scope → within w s ≡ Ok (a, left mark t)
  unfolding bind pure get_scope set_scope
  within_ok t a mark at got around =
      ap (λ (r : Result (A × Progress) TypeCause). and_then r (λ r. Ok (r.0, record r.1 { scope = s.scope }))) got
      ∙ ap (λ (scope : Scope). Ok (a, record t { scope = scope })) (sym (ap (λ m. without_inner m t.scope) at ∙ left_scope s.scope t.scope around))

  pub within_err : (e : TypeCause) → w (entered s) ≡ Err e → within w s ≡ Err e
  unfolding bind pure get_scope set_scope
  within_err e got = ap (λ (r : Result (A × Progress) TypeCause). and_then r (λ r. Ok (r.0, record r.1 { scope = s.scope }))) got

-- the same of a walk from a state that is known to be within
pub within_done : {A : Type 0} (w : Walk A) (s at t u : Progress) (a : A) (mark : ℕ) → at ≡ entered s → mark ≡ length s.scope.outer
    → w at ≡ Ok (a, t) → t.scope.outer ≡ at.scope.outer → u ≡ left mark t → within w s ≡ Ok (a, u)
within_done w s at t u a mark inside marked got around outside =
    within_ok w s t a mark marked (ap w (sym inside) ∙ got) (around ∙ ap (λ (p : Progress). p.scope.outer) inside) ∙ ap (λ p. Ok (a, p)) (sym outside)

pub within_fault : {A : Type 0} (w : Walk A) (s at : Progress) (e : TypeCause) → at ≡ entered s → w at ≡ Err e → within w s ≡ Err e
within_fault w s at e inside got = within_err w s e (ap w (sym inside) ∙ got)

-- what a `for` walks through in its scope
abbrev pub for_parts : Known → ℕ → CType → ℕ → Bool → Option Stmt → Option Expr → Option Stmt → Stmt → Option Choice → Walk TKind
for_parts known func gives line looped first test third body own =
    any_part is_first (part_of known func gives first) looped >>= (λ a.
    any_condition known func gives line test >>= (λ c.
    any_part is_third (part_of known func gives third) looped >>= (λ t.
    looped_body known func gives line own (part known func gives body) >>= (λ b. pure (k.For a c t b.0 b.1)))))

-- two steps, and then one that knows both values
module _ {A B C : Type 0} (p : Walk A) (q : Walk B) (f : A → B → Walk C) (s : Progress) where
  second : (a : A) (r : Result (B × Progress) TypeCause) → and_then r (λ r. f a r.0 r.1)
      ≡ and_then {A = (A × B) × Progress} (and_then r (λ r. Ok ((a, r.0), r.1))) (λ r. f r.0.0 r.0.1 r.1)
  second a (Ok r) = refl
  second a (Err e) = refl

  first : (r : Result (A × Progress) TypeCause) → and_then r (λ r. and_then (q r.1) (λ t. f r.0 t.0 t.1))
      ≡ and_then {A = (A × B) × Progress} (and_then r (λ r. and_then (q r.1) (λ t. Ok ((r.0, t.0), t.1)))) (λ r. f r.0.0 r.0.1 r.1)
  first (Ok r) = second r.0 (q r.1)
  first (Err e) = refl

  pub both : bind p (λ a. bind q (λ b. f a b)) s ≡ bind {A = A × B} (bind p (λ a. bind q (λ b. pure (a, b)))) (λ r. f r.0 r.1) s
  unfolding bind pure
  both = first (p s)

module _ (known : Known) (func : ℕ) (gives : CType) (looped : Bool) where
  -- one statement more
  pub statements_more : (done new : List TStmt) (ss : List Stmt) (i : ℕ) (s : Stmt) (t : TStmt) (p q : Progress) → i < length ss
      → s ≡ get_or ss i s → new ≡ done ++ t ∷ [] → (part known func gives s).walk looped p ≡ Ok (t, q)
      → behind_with done (statements known func gives looped (drop i ss) p) ≡ behind_with new (statements known func gives looped (drop (i + 1) ss) q)
  unfolding bind pure
  statements_more done new ss i s t p q within is grown got =
      ap (λ l. behind_with done (statements known func gives looped l p)) (next_of ss i s within is)
      ∙ ap (λ (r : Result (TStmt × Progress) TypeCause). behind_with done
      (and_then r (λ r. and_then (statements known func gives looped (drop (i + 1) ss) r.1) (λ rs. Ok (r.0 ∷ rs.0, rs.1))))) got
      ∙ with_one done t (statements known func gives looped (drop (i + 1) ss) q)
      ∙ ap (λ d. behind_with d (statements known func gives looped (drop (i + 1) ss) q)) (sym grown)

  -- the first fault
  pub statements_fault : (told : Result (List TStmt × Progress) TypeCause) (done : List TStmt) (ss : List Stmt) (i : ℕ) (s : Stmt)
      (p : Progress) (e : TypeCause) → told ≡ behind_with done (statements known func gives looped (drop i ss) p) → i < length ss
      → s ≡ get_or ss i s → (part known func gives s).walk looped p ≡ Err e → told ≡ Err e
  unfolding bind pure
  statements_fault told done ss i s p e so_far within is got =
      so_far ∙ ap (λ l. behind_with done (statements known func gives looped l p)) (next_of ss i s within is)
      ∙ ap (λ (r : Result (TStmt × Progress) TypeCause). behind_with done
      (and_then r (λ r. and_then (statements known func gives looped (drop (i + 1) ss) r.1) (λ rs. Ok (r.0 ∷ rs.0, rs.1))))) got

  -- all statements
  pub statements_end : (told : Result (List TStmt × Progress) TypeCause) (done : List TStmt) (ss : List Stmt) (i : ℕ) (p : Progress)
      → told ≡ behind_with done (statements known func gives looped (drop i ss) p) → length ss ≤ i → told ≡ Ok (done, p)
  unfolding pure
  statements_end told done ss i p so_far past =
      so_far ∙ ap (λ l. behind_with done (statements known func gives looped l p)) (drop_all i ss past) ∙ with_all done p
