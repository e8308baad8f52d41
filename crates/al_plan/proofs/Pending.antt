-- Lists of pending chunks.
use Rattle.std.proofs.Common.{◌≡◌, ℕ, zero, suc, ◌+◌, ◌-◌, ◌<◌, ◌≤◌, ◌/◌, ◌%◌, Bool, true, false, nat_lt, cond, List, [], ◌∷◌, ◌++◌, length, drop, get_or, Ok, Err, refl, sym, ap, ◌∙◌, arith}
use Rattle.std.specs.Prelude.{not, min, ℤ}
use Rattle.std.specs.Int.{div_ceil}
use Rattle.std.proofs.lemmas.Bool.{ltb-false}
use Rattle.std.proofs.Math.Nat.{div-le_self}
use Rattle.al_source.specs.declared.limits.TheConstants.{LOOP_TRIPS}
use Rattle.al_core.specs.declared.values.Trap.TheVariants as trap
use Rattle.al_core.specs.Values.{trips, trip_count}
use Rattle.std.proofs.lemmas.List.{drop-append-le, get_or_append_left, append_assoc, length-append}
use Rattle.std.proofs.Math.Seq.{drop-append-add, get_or-append_right}
use Rattle.al_core.specs.declared.reports.Verdict.{Verdict}
use Rattle.al_core.specs.Lockstep.{up_from, not_committed}
use Rattle.al_core.specs.Round.{with_chunks}
use Rattle.al_core.specs.Verdicts.{is_committed, cons_if}
use Rattle.al_plan.specs.Plans.{pending}

pub length-up_from : (n c : ℕ) → length (up_from n c) ≡ n
length-up_from zero c = refl
length-up_from (suc n) c = ap (λ (k : ℕ). suc k) (length-up_from n (suc c))

pub up_from_at : (n c i : ℕ) → i < n → get_or (up_from n c) i 0 ≡ c + i
up_from_at zero c i h = absurd (omega arith)
up_from_at (suc n) c zero h = omega arith
up_from_at (suc n) c (suc i) h = up_from_at n (suc c) i (omega arith) ∙ (let e : suc c + i ≡ c + suc i = omega arith in e)

pub drop-up_from : (k n c : ℕ) → k ≤ n → drop k (up_from n c) ≡ up_from (n - k) (c + k)
drop-up_from zero n c h = λ t. up_from ((let e : n ≡ n - 0 = omega arith in e) t) ((let e : c ≡ c + 0 = omega arith in e) t)
drop-up_from (suc k) zero c h = absurd (omega arith)
drop-up_from (suc k) (suc n) c h =
    drop-up_from k n (suc c) (omega arith)
    ∙ (λ t. up_from ((let e : n - k ≡ suc n - suc k = omega arith in e) t) ((let e : suc c + k ≡ c + suc k = omega arith in e) t))

-- ---- chunks that failed

step : (cs : List ℕ) (vs : List Verdict) (i : ℕ) (v : Verdict) → i < length cs → i < length vs
    → not_committed (with_chunks (drop i cs) (drop i vs))
    ≡ cons_if (not (is_committed (get_or vs i v))) (get_or cs i 0) (not_committed (with_chunks (drop (suc i) cs) (drop (suc i) vs)))
step [] vs i v h g = absurd (omega arith)
step (c ∷ cs) [] i v h g = absurd (omega arith)
step (c ∷ cs) (w ∷ vs) zero v h g = refl
step (c ∷ cs) (w ∷ vs) (suc i) v h g = step cs vs i v (omega arith) (omega arith)

no_more : (l : List ℕ) → l ++ [] ≡ l
no_more [] = refl
no_more (x ∷ l) = ap (λ m. x ∷ m) (no_more l)

committed_by : (b : Bool) (c : ℕ) (rest : List ℕ) → b ≡ true → cons_if (not b) c rest ≡ rest
committed_by b c rest e = ap (λ b. cons_if (not b) c rest) e

failed_by : (b : Bool) (c : ℕ) (rest : List ℕ) → b ≡ false → cons_if (not b) c rest ≡ c ∷ rest
failed_by b c rest e = ap (λ b. cons_if (not b) c rest) e

module _ (cs : List ℕ) (vs : List Verdict) (left : List ℕ) (i : ℕ) (v : Verdict)
    (so_far : left ++ not_committed (with_chunks (drop i cs) (drop i vs)) ≡ not_committed (with_chunks cs vs))
    (few : i < length cs) (within : i < length vs) where
  rest : List ℕ
  rest = not_committed (with_chunks (drop (i + 1) cs) (drop (i + 1) vs))

  next_rest : not_committed (with_chunks (drop i cs) (drop i vs))
      ≡ cons_if (not (is_committed (get_or vs i v))) (get_or cs i 0) rest
  unfolding rest
  next_rest =
      step cs vs i v few within
      ∙ ap (λ (n : ℕ). cons_if (not (is_committed (get_or vs i v))) (get_or cs i 0)
      (not_committed (with_chunks (drop n cs) (drop n vs)))) (let e : suc i ≡ i + 1 = omega arith in e)

  pub one_committed : is_committed (get_or vs i v) ≡ true → (same : List ℕ) → same ≡ left
      → same ++ not_committed (with_chunks (drop (i + 1) cs) (drop (i + 1) vs)) ≡ not_committed (with_chunks cs vs)
  unfolding rest
  one_committed e same f =
      ap (λ l. l ++ rest) f
      ∙ ap (λ l. left ++ l) (sym (next_rest ∙ committed_by (is_committed (get_or vs i v)) (get_or cs i 0) rest e)) ∙ so_far

  pub one_failed : is_committed (get_or vs i v) ≡ false → (more : List ℕ) → more ≡ left ++ get_or cs i 0 ∷ []
      → more ++ not_committed (with_chunks (drop (i + 1) cs) (drop (i + 1) vs)) ≡ not_committed (with_chunks cs vs)
  unfolding rest
  one_failed e more f =
      ap (λ l. l ++ rest) f
      ∙ append_assoc left (get_or cs i 0 ∷ []) rest
      ∙ ap (λ l. left ++ l) (sym (next_rest ∙ failed_by (is_committed (get_or vs i v)) (get_or cs i 0) rest e))
      ∙ so_far

none_judged : (cs : List ℕ) → not_committed (with_chunks cs []) ≡ []
none_judged [] = refl
none_judged (c ∷ cs) = refl

drop_all : {X : Type 0} (xs : List X) (n : ℕ) → length xs ≤ n → drop n xs ≡ []
drop_all [] zero h = refl
drop_all [] (suc n) h = refl
drop_all (x ∷ xs) zero h = absurd (omega arith)
drop_all (x ∷ xs) (suc n) h = drop_all xs n (omega arith)

pub all_judged : (cs : List ℕ) (vs : List Verdict) (left : List ℕ) (i : ℕ) → length vs ≤ i
    → left ++ not_committed (with_chunks (drop i cs) (drop i vs)) ≡ not_committed (with_chunks cs vs)
    → left ≡ not_committed (with_chunks cs vs)
all_judged cs vs left i h e =
    sym (no_more left)
    ∙ ap (λ l. left ++ l) (sym (ap (λ l. not_committed (with_chunks (drop i cs) l)) (drop_all vs i h) ∙ none_judged (drop i cs)))
    ∙ e

-- ---- what a plan shows

pub length-pending : (again : List ℕ) (fresh count : ℕ) → length (pending again fresh count) ≡ length again + (count - fresh)
length-pending again fresh count =
    length-append again (up_from (count - fresh) fresh)
    ∙ ap (λ (n : ℕ). length again + n) (length-up_from (count - fresh) fresh)

module _ (again now : List ℕ) (fresh count : ℕ) (shown : pending again fresh count ≡ now) where
  pub shown_length : length again + (count - fresh) ≡ length now
  shown_length = sym (length-pending again fresh count) ∙ ap length shown

  pub is_left : (i : ℕ) → i < length now → length again ≤ i → i - length again < count - fresh
  is_left i h g = let e = shown_length in omega arith

  pub fresh_chunk : (i : ℕ) → i < length now → length again ≤ i → fresh + (i - length again) ≡ get_or now i 0
  fresh_chunk i h g =
      sym (up_from_at (count - fresh) fresh (i - length again) (is_left i h g))
      ∙ sym (get_or-append_right again (up_from (count - fresh) fresh) i 0 g)
      ∙ ap (λ l. get_or l i 0) shown

  pub again_chunk : (i : ℕ) → i < length again → get_or again i 0 ≡ get_or now i 0
  again_chunk i h =
      sym (get_or_append_left again (up_from (count - fresh) fresh) 0 i h) ∙ ap (λ l. get_or l i 0) shown

  -- after so many chunks were judged, and these are left of them
  pub again_left : (left : List ℕ) (n : ℕ) → n ≤ length again
      → pending (left ++ drop n again) fresh count ≡ left ++ drop n now
  again_left left n h =
      append_assoc left (drop n again) (up_from (count - fresh) fresh)
      ∙ ap (λ l. left ++ l) (sym (drop-append-le n again (up_from (count - fresh) fresh) h) ∙ ap (drop n) shown)

  pub fresh_left : (left : List ℕ) (n : ℕ) → n ≤ length now → length again ≤ n
      → pending left (fresh + (n - length again)) count ≡ left ++ drop n now
  fresh_left left n h g =
      let k : ℕ = n - length again in
      let few : k ≤ count - fresh = let e = shown_length in omega arith in
      ap (λ l. left ++ l)
      ((λ t. up_from ((let e : count - (fresh + k) ≡ count - fresh - k = omega arith in e) t) (fresh + k))
      ∙ sym (drop-up_from k (count - fresh) fresh few)
      ∙ sym (drop-append-add again (up_from (count - fresh) fresh) k)
      ∙ (λ t. drop ((let e : length again + k ≡ n = omega arith in e) t) (shown t)))

-- ---- how many chunks there are

few_by : (b : Bool) (n m : ℕ) → nat_lt LOOP_TRIPS n ≡ b → Ok m ≡ cond b (Err trap.Trips) (Ok n) → m ≤ LOOP_TRIPS
few_by true n m e h = absurd (cc)
few_by false n m e h = let same : m ≡ n = cc in let few : n ≤ LOOP_TRIPS = ltb-false LOOP_TRIPS n e in omega arith

pub trips_few : (lo hi : ℤ) (n : ℕ) → Ok n ≡ trips lo hi → n ≤ LOOP_TRIPS
unfolding trips
trips_few lo hi n e = few_by (nat_lt LOOP_TRIPS (trip_count lo hi)) (trip_count lo hi) n refl e

pub chunks_few : (n k d : ℕ) → n ≤ LOOP_TRIPS → d ≡ div_ceil n k → d ≤ LOOP_TRIPS + 1
chunks_few n k d h e =
    let below : n / k ≤ n = div-le_self n k in
    let one : min 1 (n % k) ≤ 1 = omega arith in
    let exact : d ≡ n / k + min 1 (n % k) = e in
    omega arith
