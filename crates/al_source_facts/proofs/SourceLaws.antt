-- What the laws of sources ask is met.
use Rattle.std.proofs.Common.{◌≡◌, ℕ, zero, suc, [], ◌∷◌, Some, true, refl, inl, sym, ap, subst, ◌∙◌, arith, w64, FitsSigned}
use Rattle.std.specs.Prelude.{slice_get, ℤ}
use Rattle.al_source.specs.declared.annotations.CommitOrder.{CommitOrder}
use Rattle.al_source.specs.declared.annotations.CommitOrder.TheVariants.{InOrder, OutOfOrder}
use Rattle.al_core.specs.declared.choices.Choice.{Choice}
use Rattle.al_core.specs.declared.choices.LoopInfo.{LoopInfo}
use Rattle.al_core.specs.declared.typed_tree.TExpr.{fold-roll-TExpr, out-roll-TExpr}
use Rattle.al_core.specs.declared.typed_tree.TPlace.{fold-roll-TPlace}
use Rattle.al_core.specs.declared.typed_tree.TStmt.{para-roll-TStmt}
use Rattle.al_core.specs.declared.typed_tree.TKind.{para-roll-TKind, out-roll-TKind}
use Rattle.al_core.specs.declared.typed_tree.TGlobal.{TGlobal}
use Rattle.al_core.specs.Meaning.{body_of}
use Rattle.al_core.specs.Verdicts.{is_in_order}
use Rattle.al_rules.specs.Layouts.{fault_of, sizes}
use Rattle.al_rules.specs.Notes.{or_no_infos}
use Rattle.al_rules.specs.Programs.{Resolved, typed_with}
use Rattle.al_rules.proofs.LayoutNodes.{words_nodes}
use Rattle.al_laws.proofs.Words.{same_some, some_none}
use Rattle.al_rounds_laws.specs.Loops.{LooksAtReads}
use Rattle.al_graded_laws.specs.InRange.{in_range}
use Rattle.al_graded_laws.specs.Rules.{stmts_obey, stmt_obeys, obeys, obeys_at}
use Rattle.al_graded_laws.proofs.Values.{zero_fits}
use Rattle.al_runs_laws.specs.Accepted.{IsSized, IsInput, LookAtReads, AreInOrder}
use Rattle.al_runs_laws.specs.Reports.{ChoicesAreOrdered}
use Rattle.al_runs_laws.specs.Small.{second_choice}
use Rattle.al_runs_laws.specs.Sources.{IsSource, IsOwnChoice, ChoicesAreOwn}
use Rattle.al_source_facts.specs.Trees.{program, x_name, y_name}
use Rattle.al_source_facts.specs.Tree.{tree, layout, main, entry, entries, global, first_own}
use Rattle.al_source_facts.specs.Met.{input, chosen, ReportIsMet, ReportInOrderIsMet, AcceptedIsMet, AcceptedInOrderIsMet}
use Rattle.al_source_facts.proofs.Typing.{lays, is_typed}
use Rattle.al_source_facts.proofs.Noting.{is_noted}
use Rattle.al_source_facts.proofs.Accepting.{source_accepted, ordered_accepted}

-- ---- the input

input_numbers : (j : ℕ) (n : ℤ) → slice_get input j ≡ Some n → FitsSigned w64 n
input_numbers zero n e = subst (FitsSigned w64) (same_some _ n e) (grind arith)
input_numbers (suc zero) n e = subst (FitsSigned w64) (same_some _ n e) (grind arith)
input_numbers (suc (suc j)) n e = absurd (some_none n (sym e))

is_input : IsInput input
is_input = record { numbers = input_numbers; count = grind arith }

main_in_range : stmts_obey in_range main.body ≡ true
unfolding stmt_obeys obeys obeys_at
main_in_range = simp (para-roll-TStmt, para-roll-TKind, fold-roll-TExpr, fold-roll-TPlace, out-roll-TKind, out-roll-TExpr)

-- ---- two of a kind

two : {A : Type 0} (P : ℕ → A → Type 0) (a b : A) → P 0 a → P 1 b → (n : ℕ) (i : A) → slice_get (a ∷ b ∷ []) n ≡ Some i → P n i
two P a b p q zero i e = subst (P 0) (same_some a i e) p
two P a b p q (suc zero) i e = subst (P 1) (same_some b i e) q
two P a b p q (suc (suc n)) i e = absurd (some_none i (sym e))

-- ---- the trees, by the order of the first loop

module _ (o : CommitOrder) where
  abbrev first : LoopInfo
  first = entry 0 6 3 (first_own o)

  abbrev second : LoopInfo
  second = entry 1 11 9 second_choice

  code : (f : ℕ) → stmts_obey in_range (body_of (slice_get (tree o).funcs f)) ≡ true
  code zero = main_in_range
  code (suc f) = refl

  starts : (k : ℕ) (g : TGlobal) → slice_get (tree o).globals k ≡ Some g → FitsSigned w64 g.start
  starts = two (λ k (g : TGlobal). FitsSigned w64 g.start) (global x_name) (global y_name) zero_fits zero_fits

  is_sized : IsSized (tree o)
  is_sized = record { code = code; starts = starts }

  sized_as : sizes (program o) ≡ layout
  unfolding sizes
  sized_as = simp words_nodes

  resolved : Resolved (program o) (tree o)
  resolved = record {
    laid_out = ap fault_of (lays o);
    is_typed = ap (λ l. typed_with l (program o)) sized_as ∙ is_typed o;
  }

  is_source : IsSource (program o) (tree o) input
  is_source = record {
    resolved = resolved;
    annotated = ap fault_of (is_noted o);
    numbers = record { code = code; input_numbers = input_numbers; input_length = is_input.count };
    starts = starts;
  }

  look_at_reads : LookAtReads (entries o)
  look_at_reads = two (λ n (i : LoopInfo). LooksAtReads i.own.policy) first second refl refl

  abbrev IsOwn : LoopInfo → Choice → Type 0
  IsOwn info choice = LooksAtReads choice.policy × IsOwnChoice (tree o) info choice

  own_of : (n : ℕ) (info : LoopInfo) (choice : Choice) → slice_get (entries o) n ≡ Some info
      → slice_get (chosen o) n ≡ Some (Some choice) → IsOwn info choice
  own_of zero info choice e f =
      subst (λ i. IsOwn i choice) (same_some first info e)
      (subst (IsOwn first) (same_some (first_own o) choice (same_some _ _ f)) (refl, inl refl))
  own_of (suc zero) info choice e f =
      subst (λ i. IsOwn i choice) (same_some second info e)
      (subst (IsOwn second) (same_some second_choice choice (same_some _ _ f)) (refl, inl refl))
  own_of (suc (suc n)) info choice e f = absurd (some_none info (sym e))

  choices_are_own : ChoicesAreOwn (tree o) (chosen o)
  choices_are_own n info choice e f =
      own_of n info choice (ap (λ r. slice_get (or_no_infos r) n) (sym (is_noted o)) ∙ e) f

-- ---- in order

chosen_ordered : ChoicesAreOrdered (chosen InOrder)
chosen_ordered zero choice e = subst (λ (c : Choice). is_in_order c.order ≡ true) (same_some (first_own InOrder) choice (same_some _ _ e)) refl
chosen_ordered (suc zero) choice e = subst (λ (c : Choice). is_in_order c.order ≡ true) (same_some second_choice choice (same_some _ _ e)) refl
chosen_ordered (suc (suc n)) choice e = absurd (some_none (Some choice) (sym e))

are_in_order : AreInOrder (entries InOrder)
are_in_order = two (λ n (i : LoopInfo). is_in_order i.own.order ≡ true) (first InOrder) (second InOrder) refl refl

-- ---- the facts

pub report_is_met : ReportIsMet
report_is_met = (is_source OutOfOrder, omega arith, choices_are_own OutOfOrder)

pub report_in_order_is_met : ReportInOrderIsMet
report_in_order_is_met = (is_source InOrder, omega arith, omega arith, choices_are_own InOrder, chosen_ordered)

pub accepted_is_met : AcceptedIsMet
accepted_is_met = (source_accepted, is_sized OutOfOrder, is_input, omega arith, look_at_reads OutOfOrder)

pub accepted_in_order_is_met : AcceptedInOrderIsMet
accepted_in_order_is_met =
    (ordered_accepted, is_sized InOrder, is_input, omega arith, omega arith, look_at_reads InOrder, are_in_order)
