-- What the laws of numbers, values, runs and reports ask is met by the small program.
use Rattle.std.proofs.Common.{◌≡◌, ℕ, zero, suc, [], ◌∷◌, Some, None, Bool, true, false, refl, sym, ap, subst, ◌∙◌, arith, w64, FitsSigned}
use Rattle.std.specs.Prelude.{cond, not, ◌||◌, is_some, slice_get, ℤ, pos, negsuc}
use Rattle.std.specs.FinMap as map
use Rattle.std.proofs.Math.Bool.{true≢false}
use Rattle.al_core.specs.declared.choices.Choice.{Choice}
use Rattle.al_core.specs.declared.choices.LoopInfo.{LoopInfo}
use Rattle.al_core.specs.declared.choices.Red.{Red}
use Rattle.al_core.specs.declared.typed_tree.TFunc.{TFunc}
use Rattle.al_core.specs.declared.values.Addr.TheVariants.{Word}
use Rattle.al_core.specs.declared.values.Obj.{Obj}
use Rattle.al_core.specs.declared.values.Obj.TheVariants.{Global}
use Rattle.al_core.specs.declared.values.Val.TheVariants.{Int}
use Rattle.al_core.specs.Accepted.{IsAccepted, IsRedVariable, terms_of, takes_in}
use Rattle.al_core.specs.Loops.{Loop, loop_at}
use Rattle.al_core.specs.Memory.{word_in}
use Rattle.al_core.specs.Orders.{obj_eq}
use Rattle.al_core.specs.Report.{by_choices}
use Rattle.al_core.specs.Run.{start}
use Rattle.al_core.specs.Verdicts.{is_in_order}
use Rattle.al_laws.specs.Names.{IsWithin, HasNames}
use Rattle.al_laws.proofs.Orders.{obj_equal}
use Rattle.al_laws.proofs.Words.{same_some, some_none}
use Rattle.al_rounds_laws.specs.Loops.{LooksAtReads}
use Rattle.al_graded_laws.proofs.Committed.{outcomes_give_values}
use Rattle.al_reductions_laws.proofs.AcceptedReds.{all_at}
use Rattle.al_kinds_laws.specs.Numbers.{IsOpenVal, HoldsNumbers}
use Rattle.al_kinds_laws.specs.Whole.{is_shut}
use Rattle.al_rules.specs.WellFormed.{is_int_local}
use Rattle.al_runs_laws.specs.Modes.{IsSerializable, AreSerializable, AreAllowed, IsAllowed, IsOrdered, AreOrdered}
use Rattle.al_runs_laws.specs.Numbers.{IsLoopOf}
use Rattle.al_runs_laws.specs.Reports.{ChoicesAreSerializable, ChoicesAreOrdered}
use Rattle.al_runs_laws.specs.Small.{small, main, small_choices, small_reductions, first_choice, second_choice}
use Rattle.al_runs_laws.proofs.SmallFacts.{small_is_program, small_choices_fit}
use Rattle.al_premises_laws.specs.Executions.{info, first_loop, second_loop, first, second, holding, at_second, raw_in_order, ordered_choices, setting}
use Rattle.al_premises_laws.specs.Met.{ValuesAreMet, NumbersAreMet, RunsAreMet, RunsInOrderAreMet, ReportsInOrderAreMet, LimitsAreMet, InputIsMet, AnnotationsAreMet}
use Rattle.al_premises_laws.proofs.Memories.{object_of, held}
use Rattle.al_premises_laws.proofs.Stands.{first_stands, second_stands}
use Rattle.al_premises_laws.proofs.Ranges.{small_number, fits, first_in_range, second_in_range, first_has_values, second_has_values}
use Rattle.al_premises_laws.proofs.SecondLoop.{second_accepted, second_fresh}

-- ---- values

pub values_are_met : ValuesAreMet
values_are_met = (
  first_in_range,
  first_has_values,
  second_in_range,
  second_has_values,
  omega arith,
  record { memory = second_has_values; sums = (grind arith, (grind arith, tt)) },
  (
    outcomes_give_values second second_in_range small_reductions at_second 0 second_has_values,
    (outcomes_give_values second second_in_range small_reductions at_second 1 second_has_values, tt),
  ),
)

-- ---- numbers

module _ (x y i s : ℤ) (in_x : FitsSigned w64 x) (in_y : FitsSigned w64 y) (in_i : FitsSigned w64 i) (in_s : FitsSigned w64 s) where
  integers : (k : ℕ) → is_int_local main.locals k ≡ true → (n : ℤ) × (slice_get (holding x y i s).locals k ≡ Some (Int n))
  integers zero e = (i, refl)
  integers (suc zero) e = (s, refl)
  integers (suc (suc k)) e = absurd (true≢false (sym e))

  scalars : (k : ℕ) → is_shut small k ≡ true
      → (n : ℤ) × (word_in (map.get (holding x y i s).objects (Global k)) 0 ≡ Some (Int n))
  scalars zero e = (x, ap (λ z. word_in z 0) (object_of x y i s (Global 0)))
  scalars (suc zero) e = (y, ap (λ z. word_in z 0) (object_of x y i s (Global 1)))
  scalars (suc (suc k)) e = absurd (true≢false (sym e))

  holds_numbers : HoldsNumbers small main.locals (holding x y i s)
  holds_numbers = record {
    values = held x y i s (IsOpenVal small) in_x in_y in_i in_s;
    enough = omega arith;
    integers = integers;
    globals = scalars;
  }

first_accepted : IsAccepted small first_loop []
first_accepted = (small_choices_fit 0 first_loop first_choice first_stands refl).1

first_is_loop : IsLoopOf first main
first_is_loop = record {
  program = small_is_program;
  number = 0;
  loop = first_stands;
  stands = refl;
  counters = λ j l. small_number 3 j (omega arith) l;
}

second_is_loop : IsLoopOf second main
second_is_loop = record {
  program = small_is_program;
  number = 1;
  loop = second_stands;
  stands = refl;
  counters = λ j l. small_number 9 j (omega arith) l;
}

zero_fits : FitsSigned w64 (pos 0)
zero_fits = fits 0 (omega arith)

pub numbers_are_met : NumbersAreMet
numbers_are_met = (
  first_is_loop,
  holds_numbers (pos 0) (pos 0) (pos 0) (pos 0) zero_fits zero_fits zero_fits zero_fits,
  first_accepted,
  second_is_loop,
  holds_numbers (pos 1) (pos 1) (pos 3) (pos 0) (fits 1 (omega arith)) (fits 1 (omega arith)) (fits 3 (omega arith)) zero_fits,
  second_accepted,
  second_fresh 0,
  second_has_values,
)

-- ---- runs

-- what the loops at both numbers have by their own entries, all have
module _ (P : ℕ → Loop → Type 0) (at_0 : P 0 first_loop) (at_1 : P 1 second_loop) where
  both : (n : ℕ) (l : Loop) → loop_at small n ≡ Some l → P n l
  both zero l e = subst (P 0) (same_some first_loop l (sym first_stands ∙ e)) at_0
  both (suc zero) l e = subst (P 1) (same_some second_loop l (sym second_stands ∙ e)) at_1
  both (suc (suc n)) l e = absurd (some_none l (sym e))

serializable : AreSerializable (setting small_choices)
serializable number l e at =
    both (λ n (z : Loop). IsSerializable small z (by_choices small_choices z.info.number e))
    (refl, first_accepted) (refl, second_accepted) number l at

serializable_in_order : AreSerializable (setting ordered_choices)
serializable_in_order number l e at =
    both (λ n (z : Loop). IsSerializable small z (by_choices ordered_choices z.info.number e))
    (refl, first_accepted) (refl, second_accepted) number l at

allowed : AreAllowed (setting small_choices)
allowed number l e at =
    both (λ n (z : Loop). IsAllowed small z (by_choices small_choices z.info.number e)) first_accepted second_accepted number l at

ordered : AreOrdered (setting ordered_choices)
ordered number l e at =
    both (λ n (z : Loop). IsOrdered (by_choices ordered_choices z.info.number e)) refl refl number l at

-- no function takes the address of the variable of the second reduction
x_is_variable : IsRedVariable small second_loop (Word (Global 0) 0)
x_is_variable = all_at (λ (r : Red). IsRedVariable small second_loop r.at) small_reductions 1 _ second_accepted.variables refl

x_is_shut : is_shut small 0 ≡ true
x_is_shut =
    ap (λ b. not (b || false))
    (all_at (λ (f : TFunc). takes_in (Word (Global 0) 0) (terms_of f.body) ≡ false) small.funcs 0 main x_is_variable.0.untaken refl)

pub runs_are_met : RunsAreMet
runs_are_met = (small_is_program, omega arith, serializable, allowed, x_is_shut)

pub runs_in_order_are_met : RunsInOrderAreMet
runs_in_order_are_met = (small_is_program, omega arith, omega arith, serializable_in_order, ordered)

choices_fit : ChoicesAreSerializable small ordered_choices
choices_fit zero l choice at e =
    subst (λ (c : Choice). LooksAtReads c.policy × IsAccepted small l c.reds) (same_some raw_in_order choice (same_some _ _ e))
    (refl, subst (λ z. IsAccepted small z []) (same_some first_loop l (sym first_stands ∙ at)) first_accepted)
choices_fit (suc zero) l choice at e = small_choices_fit 1 l choice at e
choices_fit (suc (suc n)) l choice at e = absurd (some_none (Some choice) (sym e))

choices_ordered : ChoicesAreOrdered ordered_choices
choices_ordered zero choice e =
    subst (λ (c : Choice). is_in_order c.order ≡ true) (same_some raw_in_order choice (same_some _ _ e)) refl
choices_ordered (suc zero) choice e =
    subst (λ (c : Choice). is_in_order c.order ≡ true) (same_some second_choice choice (same_some _ _ e)) refl
choices_ordered (suc (suc n)) choice e = absurd (some_none (Some choice) (sym e))

pub reports_in_order_are_met : ReportsInOrderAreMet
reports_in_order_are_met = (small_is_program, choices_fit, choices_ordered)

-- ---- limits

abbrev there : Bool → Bool → Bool
there b c = is_some (cond b (Some (Int (pos 0) ∷ [])) (cond c (Some (Int (pos 0) ∷ [])) None))

named : (o : Obj) (b c : Bool) → obj_eq o (Global 0) ≡ b → obj_eq o (Global 1) ≡ c → there b c ≡ true → IsWithin 2 0 o
named o true c e f h = subst (IsWithin 2 0) (sym (obj_equal o (Global 0) e)) (omega arith)
named o false true e f h = subst (IsWithin 2 0) (sym (obj_equal o (Global 1) f)) (omega arith)
named o false false e f h = absurd (true≢false (sym h))

names : HasNames (setting small_choices) (start (setting small_choices)).world
names = record {
  objects = λ o h.
      named o (obj_eq o (Global 0)) (obj_eq o (Global 1)) refl refl
      (sym (ap is_some (object_of (pos 0) (pos 0) (pos 0) (pos 0) o)) ∙ h);
  outer = refl;
  counted = omega arith;
}

pub limits_are_met : LimitsAreMet
limits_are_met = (
  record {
    lanes = (omega arith, omega arith);
    chunk = (omega arith, omega arith);
    threads = (omega arith, omega arith);
    line = refl;
    iter_steps = (omega arith, omega arith);
    serial_steps = (omega arith, omega arith);
  },
  names,
)

-- ---- sources

input_numbers : (j : ℕ) (n : ℤ) → slice_get (pos 12 ∷ negsuc 6 ∷ []) j ≡ Some n → FitsSigned w64 n
input_numbers zero n e = subst (FitsSigned w64) (same_some _ n e) (grind arith)
input_numbers (suc zero) n e = subst (FitsSigned w64) (same_some _ n e) (grind arith)
input_numbers (suc (suc j)) n e = absurd (some_none n (sym e))

pub input_is_met : InputIsMet
input_is_met = record { numbers = input_numbers; count = fits 2 (omega arith) }

two : (P : LoopInfo → Type 0) (a b : LoopInfo) → P a → P b → (n : ℕ) (i : LoopInfo) → slice_get (a ∷ b ∷ []) n ≡ Some i → P i
two P a b p q zero i e = subst P (same_some a i e) p
two P a b p q (suc zero) i e = subst P (same_some b i e) q
two P a b p q (suc (suc n)) i e = absurd (some_none i (sym e))

pub annotations_are_met : AnnotationsAreMet
annotations_are_met = (
  two (λ (i : LoopInfo). LooksAtReads i.own.policy) first_loop.info second_loop.info refl refl,
  two (λ (i : LoopInfo). LooksAtReads i.own.policy) (info 0 6 3 raw_in_order) second_loop.info refl refl,
  two (λ (i : LoopInfo). is_in_order i.own.order ≡ true) (info 0 6 3 raw_in_order) second_loop.info refl refl,
)
