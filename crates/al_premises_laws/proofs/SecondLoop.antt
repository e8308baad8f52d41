-- What the laws of loops with reductions ask is met by the second loop.
use Rattle.std.proofs.Common.{◌≡◌, ◌≢◌, ℕ, zero, suc, List, [], ◌∷◌, length, Option, Some, None, Bool, true, false, refl, sym, ap, subst, ◌∙◌, arith}
use Rattle.std.specs.Prelude.{cond, ◌++◌, All, option_map, slice_get, ℤ, pos}
use Rattle.std.proofs.Math.Bool.{true≢false}
use Rattle.std.proofs.lemmas.List.Sorted.{IsPermutation-reverse}
use Rattle.std.specs.FinMap as map
use Rattle.std.specs.FinSet as set
use Rattle.al_core.specs.declared.choices.Red.{Red}
use Rattle.al_core.specs.declared.typed_tree.TGlobal.{TGlobal}
use Rattle.al_core.specs.declared.typed_tree.TLocal.{TLocal}
use Rattle.al_core.specs.declared.values.Addr.{Addr}
use Rattle.al_core.specs.declared.values.Addr.TheVariants.{Word, Head, Local}
use Rattle.al_core.specs.declared.values.Obj.{Obj}
use Rattle.al_core.specs.declared.values.Obj.TheVariants.{Global}
use Rattle.al_core.specs.declared.values.Val.{Val}
use Rattle.al_core.specs.declared.values.Val.TheVariants.{Int}
use Rattle.al_core.specs.Orders.{obj_eq}
use Rattle.al_core.specs.Action.{or_zero}
use Rattle.al_core.specs.Memory.{Memory, AgreeAt, length_at, word_in, value_at}
use Rattle.al_core.specs.Accepted.{IsAccepted}
use Rattle.al_core.specs.Chunk.{chunk_start, chunk_end, sum_of, outcome}
use Rattle.al_core.specs.Lockstep.{commits, not_committed}
use Rattle.al_core.specs.Readiness.{LeadsTo, IsFresh, IsOfKind, HasGlobals, HasLocals}
use Rattle.al_core.specs.Round.{round}
use Rattle.al_laws.proofs.Orders.{obj_equal}
use Rattle.al_laws.proofs.Unread.{reductions_are_unrecorded}
use Rattle.al_laws.proofs.Words.{same_some, some_none}
use Rattle.al_rounds_laws.specs.Loops.{Each, AreDistinct}
use Rattle.al_rounds_laws.proofs.InOrder.{round_in_order}
use Rattle.al_reductions_laws.specs.Reducible.{IsReducible}
use Rattle.al_reductions_laws.specs.Serial.{RunsReducing}
use Rattle.al_reductions_laws.proofs.AcceptedReds.{all_of}
use Rattle.al_runs_laws.specs.Small.{small, main, global, small_reductions, second_choice}
use Rattle.al_runs_laws.proofs.SmallFacts.{small_choices_fit}
use Rattle.al_premises_laws.specs.Executions.{second_loop, second, at_second, reduced}
use Rattle.al_premises_laws.specs.Met.{VariablesAreReduced, ReadsAgree, SecondChunksAreReducible, SecondIsReady, SecondRoundIsMet, SecondInOrderIsMet, SecondInAnyOrderIsMet}
use Rattle.al_premises_laws.proofs.Memories.{object_of, is_unnamed, held}
use Rattle.al_premises_laws.proofs.Stands.{second_stands}
use Rattle.al_premises_laws.proofs.Ranges.{second_in_range, second_has_values}
use Rattle.al_premises_laws.proofs.FirstLoop.{each}

pub second_accepted : IsAccepted small second_loop small_reductions
second_accepted = (small_choices_fit 1 second_loop second_choice second_stands refl).1

pub second_reduces : RunsReducing second small_reductions
second_reduces = record { numbers = second_in_range; accepted = second_accepted }

pub variables_are_reduced : VariablesAreReduced
variables_are_reduced = (tt, refl, tt, refl)

-- ---- the memory

-- an object of it, where x holds n
abbrev found : ℤ → Bool → Bool → Option (List Val)
found n b c = cond b (Some (Int n ∷ [])) (cond c (Some (Int (pos 1) ∷ [])) None)

object : (o : Obj) → map.get at_second.objects o ≡ found (pos 1) (obj_eq o (Global 0)) (obj_eq o (Global 1))
object = object_of (pos 1) (pos 1) (pos 3) (pos 0)

pub second_fresh : (c : ℕ) → IsFresh second at_second c
second_fresh c = is_unnamed (pos 1) (pos 1) (pos 3) (pos 0) 1 (chunk_start second c) (chunk_end second c)

abbrev HoldsNumber : Red → Type 0
HoldsNumber r = (n : ℤ) × (value_at at_second r.at ≡ Some (Int n))

numbers : (j : ℕ) (r : Red) → slice_get small_reductions j ≡ Some r → HoldsNumber r
numbers zero r e = subst HoldsNumber (same_some _ r e) (pos 0, refl)
numbers (suc zero) r e = subst HoldsNumber (same_some _ r e) (pos 1, ap (λ z. word_in z 0) (object (Global 0)))
numbers (suc (suc j)) r e = absurd (some_none r (sym e))

abbrev IsNoWay : Val → Type 0
IsNoWay v = All (λ r. ¬ (LeadsTo v r)) small_reductions

no_way : (n : ℤ) → IsNoWay (Int n)
no_way n = all_of (λ r. ¬ (LeadsTo (Int n) r)) small_reductions (λ j r e h. h)

pub second_reducible : (c : ℕ) → IsReducible second small_reductions at_second c
second_reducible c = record {
  fresh = second_fresh c;
  values = second_has_values;
  reductions = all_of HoldsNumber small_reductions numbers;
  unaliased = held (pos 1) (pos 1) (pos 3) (pos 0) IsNoWay (no_way (pos 1)) (no_way (pos 1)) (no_way (pos 3)) (no_way (pos 0));
}

all_reducible : (cs : List ℕ) → Each (IsReducible second small_reductions at_second) cs
all_reducible = each _ second_reducible

globals_there : HasGlobals second at_second
globals_there zero g e =
    subst (λ (z : TGlobal). length_at at_second (Global 0) ≡ Some z.words) (same_some global g e)
    (ap (option_map length) (object (Global 0)))
globals_there (suc zero) g e =
    subst (λ (z : TGlobal). length_at at_second (Global 1) ≡ Some z.words) (same_some global g e)
    (ap (option_map length) (object (Global 1)))
globals_there (suc (suc k)) g e = absurd (some_none g (sym e))

abbrev HoldsLocal : ℕ → TLocal → Type 0
HoldsLocal k l = (v : Val) × (slice_get at_second.locals k ≡ Some v) × IsOfKind l.kind v

locals_there : HasLocals main at_second
locals_there zero l e = subst (HoldsLocal 0) (same_some _ l e) (Int (pos 3), refl, refl)
locals_there (suc zero) l e = subst (HoldsLocal 1) (same_some _ l e) (Int (pos 0), refl, refl)
locals_there (suc (suc k)) l e = absurd (some_none l (sym e))

pub second_is_ready : SecondIsReady
second_is_ready c = (
  record { fresh = second_fresh c; values = second_has_values },
  record {
    globals = globals_there;
    locals = λ f e. subst (λ z. HasLocals z at_second) (same_some main f e) locals_there;
    reductions = (second_reducible c).reductions;
    fresh = second_fresh c;
    unaliased = (second_reducible c).unaliased;
    values = second_has_values;
  },
)

-- ---- chunks and rounds

pub second_chunks_are_reducible : SecondChunksAreReducible
second_chunks_are_reducible =
    (second_reduces, (λ e. absurd (omega (arith, e))), second_reducible 0, second_reducible 1)

four_differ : AreDistinct (0 ∷ 1 ∷ 2 ∷ 3 ∷ [])
four_differ = (
  ((λ e. absurd (omega (arith, e))), ((λ e. absurd (omega (arith, e))), ((λ e. absurd (omega (arith, e))), tt))),
  (((λ e. absurd (omega (arith, e))), ((λ e. absurd (omega (arith, e))), tt)), (((λ e. absurd (omega (arith, e))), tt), (tt, tt))),
)

first_ones : (P : ℕ → Type 0) (cs ds : List ℕ) → Each P (cs ++ ds) → Each P cs
first_ones P [] ds h = tt
first_ones P (c ∷ cs) ds h = (h.0, first_ones P cs ds h.1)

-- in order the committed chunks are among those of the round
fifth_is_left : Each (λ c. c ≢ 4) (commits (round second second_choice (0 ∷ 1 ∷ 2 ∷ 3 ∷ []) at_second).verdicts)
fifth_is_left =
    let js = (round second second_choice (0 ∷ 1 ∷ 2 ∷ 3 ∷ []) at_second).verdicts in
    first_ones (λ c. c ≢ 4) (commits js) (not_committed js)
    (subst (Each (λ c. c ≢ 4)) (round_in_order second second_choice refl at_second (0 ∷ 1 ∷ 2 ∷ 3 ∷ []))
    ((λ e. absurd (omega (arith, e))), ((λ e. absurd (omega (arith, e))), ((λ e. absurd (omega (arith, e))), ((λ e. absurd (omega (arith, e))), tt)))))

pub second_round_is_met : SecondRoundIsMet
second_round_is_met =
    (second_reduces, refl, four_differ, all_reducible (0 ∷ 1 ∷ 2 ∷ 3 ∷ []), fifth_is_left, second_reducible 4)

pub second_in_order_is_met : SecondInOrderIsMet
second_in_order_is_met =
    (second_reduces, refl, refl, omega arith, omega arith, all_reducible (0 ∷ 1 ∷ 2 ∷ 3 ∷ 4 ∷ []))

pub second_in_any_order_is_met : SecondInAnyOrderIsMet
second_in_any_order_is_met = (
  second_reduces,
  refl,
  second_has_values,
  four_differ,
  each (IsFresh second at_second) second_fresh (0 ∷ 1 ∷ 2 ∷ 3 ∷ []),
  IsPermutation-reverse _,
)

-- ---- what is read

abbrev IsRead : Addr → Type 0
IsRead a = set.contains (outcome second small_reductions at_second 3).reads a ≡ true

sum_is_unread : ¬ (IsRead (Local 1))
sum_is_unread h =
    true≢false (sym h ∙ (reductions_are_unrecorded second small_reductions at_second 3 (Local 1) tt refl).0)

greatest_is_unread : ¬ (IsRead (Word (Global 0) 0))
greatest_is_unread h =
    true≢false (sym h ∙ (reductions_are_unrecorded second small_reductions at_second 3 (Word (Global 0) 0) tt refl).0)

other_object : (o : Obj) → map.get reduced.objects o ≡ found (pos 8) (obj_eq o (Global 0)) (obj_eq o (Global 1))
other_object = object_of (pos 8) (pos 1) (pos 3) (pos 36)

words_agree : (o : Obj) (w : ℕ) (b : Bool) → obj_eq o (Global 0) ≡ b → IsRead (Word o w)
    → word_in (found (pos 1) b (obj_eq o (Global 1))) w ≡ word_in (found (pos 8) b (obj_eq o (Global 1))) w
words_agree o zero true e h = absurd (greatest_is_unread (subst (λ q. IsRead (Word q 0)) (obj_equal o (Global 0) e) h))
words_agree o (suc w) true e h = refl
words_agree o w false e h = refl

lengths_agree : (b c : Bool) → option_map length (found (pos 1) b c) ≡ option_map length (found (pos 8) b c)
lengths_agree true c = refl
lengths_agree false c = refl

agree : (a : Addr) → IsRead a → AgreeAt at_second reduced a
agree (Word o w) h =
    ap (λ z. word_in z w) (object o) ∙ words_agree o w (obj_eq o (Global 0)) refl h
    ∙ sym (ap (λ z. word_in z w) (other_object o))
agree (Head o) h =
    ap (option_map length) (object o) ∙ lengths_agree (obj_eq o (Global 0)) (obj_eq o (Global 1))
    ∙ sym (ap (option_map length) (other_object o))
agree (Local zero) h = refl
agree (Local (suc zero)) h = absurd (sum_is_unread h)
agree (Local (suc (suc k))) h = refl

others : at_second ≢ reduced
others e = absurd (grind (arith, ap (λ (m : Memory). sum_of (or_zero (slice_get m.locals 1))) e))

pub reads_agree : ReadsAgree
reads_agree = (others, refl, agree)
