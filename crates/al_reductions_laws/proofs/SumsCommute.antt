-- Outcomes of chunks with reductions that touched different addresses may be laid over a memory in either order, and the
-- committed ones of a round in any.
use Rattle.std.proofs.Common.{◌≡◌, ◌≢◌, ℕ, zero, suc, List, [], ◌∷◌, Option, Some, None, true, false, refl, sym, ap, ◌∙◌, inl, inr, arith, w64, FitsSigned}
use Rattle.std.specs.Prelude.{ℤ, if◌then◌else◌, is_some, slice_get}
use Rattle.std.specs.List.{AllByRecursion}
use Rattle.std.specs.FinMap as map
use Rattle.std.specs.FinSet as set
use Rattle.std.proofs.Math.Bool.{true≢false}
use Rattle.std.proofs.lemmas.Bool.{cases_eq}
use Rattle.al_source.specs.declared.operators.RedOp.{RedOp}
use Rattle.al_core.specs.declared.choices.Red.{Red}
use Rattle.al_core.specs.declared.values.Obj.{Obj}
use Rattle.al_core.specs.declared.values.Obj.TheVariants.{Global, Serial, Iter}
use Rattle.al_core.specs.declared.values.Val.{Val}
use Rattle.al_core.specs.declared.values.Val.TheVariants.{Int, Ptr}
use Rattle.al_core.specs.declared.values.Addr.{Addr}
use Rattle.al_core.specs.declared.values.Addr.TheVariants.{Word, Head, Local}
use Rattle.al_core.specs.Orders.{addr_eq}
use Rattle.al_core.specs.Reductions.{red_apply}
use Rattle.al_core.specs.Memory.{Memory, length_at, value_at}
use Rattle.al_core.specs.Access.{AccessRecord, red_index}
use Rattle.al_core.specs.Accepted.{IsRedVariable}
use Rattle.al_core.specs.Iteration.{Execution, Finished}
use Rattle.al_core.specs.Chunk.{Outcome, chunk_runs, chunk_from, outcome_of, outcome}
use Rattle.al_core.specs.Readiness.{IsFresh, HasValues}
use Rattle.al_core.specs.Applied.{with_sum, with_sums, applied, all_applied}
use Rattle.al_core.specs.Round.{outcomes, round}
use Rattle.al_core.specs.Lockstep.{commits}
use Rattle.al_laws.specs.PrivateMemories.{is_among}
use Rattle.al_laws.specs.Commits.{IsVariable}
use Rattle.al_laws.proofs.Joining.{is_associative, is_commutative}
use Rattle.al_laws.proofs.Naming.{made_are_named}
use Rattle.al_laws.proofs.DirectRuns.{chunk_keeps}
use Rattle.al_laws.proofs.Laid.{none_of}
use Rattle.al_laws.proofs.Overlay.{over}
use Rattle.al_laws.proofs.Orders.{addr_equal}
use Rattle.al_laws.proofs.Words.{same_some, some_none}
use Rattle.al_laws.proofs.Applying.{sums_value, sums_length}
use Rattle.al_laws.proofs.Untouched.{false_or, untouched_unwritten}
use Rattle.al_laws.proofs.Unread.{reductions_are_unrecorded}
use Rattle.al_graded_laws.proofs.Memories.{put_itself}
use Rattle.al_graded_laws.proofs.Committed.{applied_values, outcomes_give_values}
use Rattle.al_rounds_laws.specs.Loops.{Each, Pairwise}
use Rattle.al_rounds_laws.specs.Writes.{AreApart}
use Rattle.al_rounds_laws.proofs.AllRounds.{round_each}
use Rattle.al_rounds_laws.proofs.AnyOrder.{IsIn, each_in, pair_in, here}
use Rattle.al_rounds_laws.proofs.Commuting.{word_or, length_or, OneIsNone, word_after, length_after, local_after, commute, same_memory}
use Rattle.al_rounds_laws.proofs.Names.{made_is_foreign}
use Rattle.al_rounds_laws.proofs.Shuffles.{steps, any_order}
use Rattle.al_rounds_laws.proofs.Writing.{round_is_laid_over, committed_touch_apart}
use Rattle.al_reductions_laws.specs.Serial.{RunsReducing}
use Rattle.al_reductions_laws.specs.Writes.{OutcomesCommute, AnyOrderIsSame}
use Rattle.al_reductions_laws.proofs.Variables.{is_red}
use Rattle.al_reductions_laws.proofs.Joined.{AreApart as VariablesDiffer, index_cases, found_at}
use Rattle.al_reductions_laws.proofs.AcceptedReds.{Reducing, reducing, found_variable, differ}

-- ---- a reduction variable after all reductions were joined

-- what a value becomes, where it is a number
abbrev join_with : RedOp → Option Val → Option ℤ → Option Val
join_with op (Some (Int old)) (Some n) = Some (Int (red_apply op old n))
join_with op v n = v

join_none : (op : RedOp) (v : Option Val) → v ≡ join_with op v None
join_none op None = refl
join_none op (Some (Int old)) = refl
join_none op (Some (Ptr o w)) = refl

sum_here : (r : Red) (n : ℤ) (m : Memory) (y : Option Val) → value_at m r.at ≡ y → value_at (with_sum r n m y) r.at ≡ join_with r.op y (Some n)
sum_here r n m (Some (Int old)) e = put_itself m r.at (Int (red_apply r.op old n)) (ap is_some e)
sum_here r n m (Some (Ptr o w)) e = e
sum_here r n m None e = e

sum_elsewhere : (r : Red) (n : ℤ) (m : Memory) (q : Addr) → addr_eq r.at q ≡ false → value_at (with_sum r n m (value_at m r.at)) q ≡ value_at m q
sum_elsewhere r n m q f = sums_value (r ∷ []) (n ∷ []) m q (ap (λ b. if b then Some 0 else None) f)

sums_here : (rs : List Red) (ns : List ℤ) (m : Memory) (q : Addr) (i : ℕ) (r : Red) → VariablesDiffer rs → red_index rs q ≡ Some i → slice_get rs i ≡ Some r
    → value_at (with_sums rs ns m) q ≡ join_with r.op (value_at m q) (slice_get ns i)
sums_here [] ns m q i r p e s = absurd (some_none i (sym e))
sums_here (a ∷ rs) [] m q i r p e s = join_none r.op (value_at m q)
sums_here (a ∷ rs) (n ∷ ns) m q zero r p e s =
    index_cases a rs q zero (value_at (with_sums rs ns (with_sum a n m (value_at m a.at))) q ≡ join_with r.op (value_at m q) (Some n)) e
    (λ t _.
    let at = addr_equal a.at q t in
    let same = same_some a r s in
    sums_value rs ns (with_sum a n m (value_at m a.at)) q (ap (red_index rs) (sym at) ∙ p.0)
    ∙ ap (value_at (with_sum a n m (value_at m a.at))) (sym at) ∙ sum_here a n m (value_at m a.at) refl
    ∙ (λ k. join_with (same k).op (value_at m (at k)) (Some n)))
    (λ t j f z. absurd (omega (arith, z)))
sums_here (a ∷ rs) (n ∷ ns) m q (suc i) r p e s =
    index_cases a rs q (suc i) (value_at (with_sums rs ns (with_sum a n m (value_at m a.at))) q ≡ join_with r.op (value_at m q) (slice_get ns i)) e
    (λ t z. absurd (omega (arith, z)))
    (λ t j f z.
    let same : j ≡ i = omega (arith, z) in
    sums_here rs ns (with_sum a n m (value_at m a.at)) q i r p.1 (f ∙ ap (λ k. Some k) same) s
    ∙ ap (λ v. join_with r.op v (slice_get ns i)) (sum_elsewhere a n m q t))

-- ---- two joins

abbrev FitsIf : Option ℤ → Type 0
FitsIf (Some n) = FitsSigned w64 n
FitsIf None = Unit {0}

fits_at : (ns : List ℤ) (i : ℕ) → AllByRecursion (λ n. FitsSigned w64 n) ns → FitsIf (slice_get ns i)
fits_at [] i h = tt
fits_at (n ∷ ns) zero h = h.0
fits_at (n ∷ ns) (suc i) h = fits_at ns i h.1

joins_commute : (op : RedOp) (v : Option Val) (a b : Option ℤ) → ((n : ℤ) → v ≡ Some (Int n) → FitsSigned w64 n) → FitsIf a → FitsIf b
    → join_with op (join_with op v a) b ≡ join_with op (join_with op v b) a
joins_commute op (Some (Int n)) (Some a) (Some b) h f g =
    ap (λ z. Some (Int z))
    (is_associative op n a b (h n refl) f g ∙ ap (red_apply op n) (is_commutative op a b f g) ∙ sym (is_associative op n b a (h n refl) g f))
joins_commute op (Some (Int n)) (Some a) None h f g = refl
joins_commute op (Some (Int n)) None (Some b) h f g = refl
joins_commute op (Some (Int n)) None None h f g = refl
joins_commute op (Some (Ptr o w)) (Some a) (Some b) h f g = refl
joins_commute op (Some (Ptr o w)) (Some a) None h f g = refl
joins_commute op (Some (Ptr o w)) None (Some b) h f g = refl
joins_commute op (Some (Ptr o w)) None None h f g = refl
joins_commute op None (Some a) (Some b) h f g = refl
joins_commute op None (Some a) None h f g = refl
joins_commute op None None (Some b) h f g = refl
joins_commute op None None None h f g = refl

-- ---- an outcome, at reduction variables and elsewhere

module _ (reds : List Red) (N : Memory) (out : Outcome) where
  elsewhere : (q : Addr) → red_index reds q ≡ None → value_at (applied reds N out) q ≡ value_at (applied [] N out) q
  unfolding applied
  elsewhere q e = sums_value reds out.accumulators (applied [] N out) q e

  same_length : (o : Obj) → length_at (applied reds N out) o ≡ length_at (applied [] N out) o
  unfolding applied
  same_length o = sums_length reds out.accumulators (applied [] N out) o

  joined_at : VariablesDiffer reds → (q : Addr) (i : ℕ) (r : Red) → red_index reds q ≡ Some i → slice_get reds i ≡ Some r
      → value_at (applied reds N out) q ≡ join_with r.op (value_at (applied [] N out) q) (slice_get out.accumulators i)
  unfolding applied
  joined_at p q i r e s = sums_here reds out.accumulators (applied [] N out) q i r p e s

module _ (x : Execution) (reds : List Red) (h : Reducing x reds) (m : Memory) (c : ℕ) (fresh : IsFresh x m c) where
  abbrev out : Outcome
  out = outcome x reds m c

  freed_in : (r : Finished) (z : Option AccessRecord) (l : AccessRecord) → z ≡ Some l → (outcome_of r z).freed ≡ l.freed
  freed_in r z l e = ap (λ z. (outcome_of r z).freed) e

  global_unfreed : (k : ℕ) → is_among out.freed (Global k) ≡ false
  unfolding outcome
  global_unfreed k =
      let r = chunk_runs x c (chunk_from x reds m c) in
      let view = chunk_keeps x reds m c fresh in
      ap (λ os. is_among os (Global k)) (freed_in r r.content.accesses view.accesses view.is)
      ∙ false_or (is_among view.accesses.freed (Global k)) (λ t. true≢false (sym (view.private.gone (Global k) t).freeable))

  global_unmade : (k : ℕ) → map.get out.made (Global k) ≡ None
  global_unmade k = none_of (map.get out.made (Global k)) (false_or (is_some (map.get out.made (Global k))) (λ t. made_are_named x reds m c (Global k) t))

  unwritten : (q : Addr) → IsVariable q → is_red reds q ≡ true → map.get out.writes q ≡ None
  unwritten q v e = untouched_unwritten x reds m c q (reductions_are_unrecorded x reds m c q v e).1

  -- a chunk writes no reduction variable itself
  at_variable : (N : Memory) (q : Addr) → IsRedVariable x.typed x.loop q → is_red reds q ≡ true → value_at (applied [] N out) q ≡ value_at N q
  at_variable N (Word (Global k) w) v e =
      word_after N out (Global k) w
      ∙ ap (λ b. if b then None else word_or (map.get out.made (Global k)) w (over (map.get out.writes (Word (Global k) w)) (value_at N (Word (Global k) w))))
      (global_unfreed k)
      ∙ ap (λ z. word_or z w (over (map.get out.writes (Word (Global k) w)) (value_at N (Word (Global k) w)))) (global_unmade k)
      ∙ ap (λ z. over z (value_at N (Word (Global k) w))) (unwritten (Word (Global k) w) tt e)
  at_variable N (Word (Serial k) w) v e = absurd v
  at_variable N (Word (Iter i j k) w) v e = absurd v
  at_variable N (Head o) v e = absurd v
  at_variable N (Local k) v e = local_after N out k ∙ ap (λ z. over z (value_at N (Local k))) (unwritten (Local k) tt e)

-- what an outcome leaves at a word or a local depends on what was there
module _ (out : Outcome) where
  word_by : (L N : Memory) (o : Obj) (i : ℕ) → value_at L (Word o i) ≡ value_at N (Word o i)
      → value_at (applied [] L out) (Word o i) ≡ value_at (applied [] N out) (Word o i)
  word_by L N o i e =
      word_after L out o i
      ∙ ap (λ v. if is_among out.freed o then None else word_or (map.get out.made o) i (over (map.get out.writes (Word o i)) v)) e
      ∙ sym (word_after N out o i)

  local_by : (L N : Memory) (k : ℕ) → value_at L (Local k) ≡ value_at N (Local k)
      → value_at (applied [] L out) (Local k) ≡ value_at (applied [] N out) (Local k)
  local_by L N k e = local_after L out k ∙ ap (over (map.get out.writes (Local k))) e ∙ sym (local_after N out k)

  length_by : (L N : Memory) (o : Obj) → length_at L o ≡ length_at N o → length_at (applied [] L out) o ≡ length_at (applied [] N out) o
  length_by L N o e =
      length_after L out o ∙ ap (λ l. if is_among out.freed o then None else length_or (map.get out.made o) l) e ∙ sym (length_after N out o)

-- ---- two outcomes

module _ (x : Execution) (reds : List Red) (h : RunsReducing x reds) (m : Memory) (values : HasValues m) (c d : ℕ) (apart : c ≢ d)
    (f : IsFresh x m c) (g : IsFresh x m d) (touched : AreApart (outcome x reds m c).touched (outcome x reds m d).touched) where
  abbrev k : Reducing x reds
  k = reducing x reds h

  abbrev a : Outcome
  a = outcome x reds m c

  abbrev b : Outcome
  b = outcome x reds m d

  one_is_none : (q : Addr) → OneIsNone (map.get a.writes q) (map.get b.writes q)
  one_is_none q =
      elim (set.contains a.touched q) as (λ t. set.contains a.touched q ≡ t → OneIsNone (map.get a.writes q) (map.get b.writes q)) [
        | true ↦ λ t. inr (untouched_unwritten x reds m d q (false_or _ (λ u. touched q t u)))
        | false ↦ λ t. inl (untouched_unwritten x reds m c q t)
      ] refl

  without_sums : (n : Memory) → applied [] (applied [] n a) b ≡ applied [] (applied [] n b) a
  without_sums n =
      commute a b one_is_none (λ q t. made_is_foreign x reds m c d apart f g q t)
      (λ q t. made_is_foreign x reds m d c (λ e. apart (sym e)) g f q t) n

  accumulator_fits : (e : ℕ) (i : ℕ) → FitsIf (slice_get (outcome x reds m e).accumulators i)
  accumulator_fits e i = fits_at (outcome x reds m e).accumulators i (outcomes_give_values x h.numbers reds m e values).sums

  module _ (n : Memory) (fits : HasValues n) where
    -- at a reduction variable
    at_red : (q : Addr) (i : ℕ) → red_index reds q ≡ Some i
        → value_at (applied reds (applied reds n a) b) q ≡ value_at (applied reds (applied reds n b) a) q
    at_red q i e =
        let r = found_at reds q i e in
        let v = found_variable x reds k q i e in
        let red = ap is_some e in
        let old = value_at n q in
        let first = λ (N : Memory) (e' : ℕ) (fresh : IsFresh x m e').
        joined_at reds N (outcome x reds m e') (differ x reds k) q i r.0 e r.1
        ∙ ap (λ z. join_with r.0.op z (slice_get (outcome x reds m e').accumulators i)) (at_variable x reds k m e' fresh N q v red) in
        first (applied reds n a) d g
        ∙ ap (λ z. join_with r.0.op z (slice_get b.accumulators i)) (first n c f)
        ∙ joins_commute r.0.op old (slice_get a.accumulators i) (slice_get b.accumulators i) (λ z s. fits q (Int z) s) (accumulator_fits c i)
        (accumulator_fits d i)
        ∙ sym (first (applied reds n b) c f ∙ ap (λ z. join_with r.0.op z (slice_get a.accumulators i)) (first n d g))

    at_word : (o : Obj) (i : ℕ) (y : Option ℕ) → red_index reds (Word o i) ≡ y
        → value_at (applied reds (applied reds n a) b) (Word o i) ≡ value_at (applied reds (applied reds n b) a) (Word o i)
    at_word o i (Some j) e = at_red (Word o i) j e
    at_word o i None e =
        let q = Word o i in
        elsewhere reds (applied reds n a) b q e ∙ word_by b (applied reds n a) (applied [] n a) o i (elsewhere reds n a q e)
        ∙ ap (λ z. value_at z q) (without_sums n)
        ∙ sym (elsewhere reds (applied reds n b) a q e ∙ word_by a (applied reds n b) (applied [] n b) o i (elsewhere reds n b q e))

    at_local : (j : ℕ) (y : Option ℕ) → red_index reds (Local j) ≡ y
        → value_at (applied reds (applied reds n a) b) (Local j) ≡ value_at (applied reds (applied reds n b) a) (Local j)
    at_local j (Some i) e = at_red (Local j) i e
    at_local j None e =
        let q = Local j in
        elsewhere reds (applied reds n a) b q e ∙ local_by b (applied reds n a) (applied [] n a) j (elsewhere reds n a q e)
        ∙ ap (λ z. value_at z q) (without_sums n)
        ∙ sym (elsewhere reds (applied reds n b) a q e ∙ local_by a (applied reds n b) (applied [] n b) j (elsewhere reds n b q e))

    at_length : (o : Obj) → length_at (applied reds (applied reds n a) b) o ≡ length_at (applied reds (applied reds n b) a) o
    at_length o =
        same_length reds (applied reds n a) b o ∙ length_by b (applied reds n a) (applied [] n a) o (same_length reds n a o)
        ∙ ap (λ z. length_at z o) (without_sums n)
        ∙ sym (same_length reds (applied reds n b) a o ∙ length_by a (applied reds n b) (applied [] n b) o (same_length reds n b o))

    both_orders : applied reds (applied reds n a) b ≡ applied reds (applied reds n b) a
    both_orders =
        same_memory _ _ at_length (λ o i. at_word o i (red_index reds (Word o i)) refl) (λ j. at_local j (red_index reds (Local j)) refl)

pub outcomes_commute : OutcomesCommute
outcomes_commute x reds m c d h values apart f g touched n fits = both_orders x reds h m values c d apart f g touched n fits

-- ---- any order

module _ (x : Execution) (reds : List Red) (h : RunsReducing x reds) (m : Memory) (values : HasValues m) (ks : List ℕ) where
  abbrev laid : ℕ → Memory → Memory
  laid c n = applied reds n (outcome x reds m c)

  abbrev TouchedApart : ℕ → ℕ → Type 0
  TouchedApart c d = AreApart (outcome x reds m c).touched (outcome x reds m d).touched

  keeps_values : (c : ℕ) → IsIn c ks → (n : Memory) → HasValues n → HasValues (laid c n)
  keeps_values c i n v = applied_values reds n (outcome x reds m c) v (outcomes_give_values x h.numbers reds m c values)

  laid_commute : Pairwise TouchedApart ks → Each (IsFresh x m) ks → (a b : ℕ) → IsIn a ks → IsIn b ks → (n : Memory) → HasValues n
      → laid b (laid a n) ≡ laid a (laid b n)
  laid_commute apart fresh a b i j n v =
      elim (cases_eq a b) as (λ _. laid b (laid a n) ≡ laid a (laid b n)) [
        | inl e ↦ ap (λ z. laid z (laid a n)) (sym e) ∙ ap (λ z. laid a (laid z n)) e
        | inr differ ↦
            outcomes_commute x reds m a b h values differ (each_in (IsFresh x m) ks fresh a i) (each_in (IsFresh x m) ks fresh b j)
            (pair_in TouchedApart (λ c d h q s t. h q t s) ks apart a b differ i j) n v
      ]

  by_steps : (l : List ℕ) (n : Memory) (apart : Pairwise TouchedApart ks) (fresh : Each (IsFresh x m) ks)
      → all_applied reds (outcomes x reds m l) n ≡ steps laid (λ c. IsIn c ks) HasValues keeps_values (laid_commute apart fresh) l n
  by_steps [] n apart fresh = refl
  by_steps (c ∷ l) n apart fresh = by_steps l (laid c n) apart fresh

pub any_order_is_same : AnyOrderIsSame
any_order_is_same x choice m cs ds h looks values distinct fresh shuffled =
    let reds = choice.reds in
    let ks = commits (round x choice cs m).verdicts in
    let apart = committed_touch_apart x choice m cs looks in
    let kept = round_each x choice m (IsFresh x m) cs fresh in
    ap (λ z. z.memory) (round_is_laid_over x choice m cs)
    ∙ by_steps x reds h m values ks ks m apart kept
    ∙ sym (any_order (laid x reds h m values ks) (λ c. IsIn c ks) HasValues (keeps_values x reds h m values ks)
    (laid_commute x reds h m values ks apart kept) ks ds
    shuffled (λ k d s. here ks k d s) m values)
    ∙ sym (by_steps x reds h m values ks ds m apart kept)
