-- What one test more does to a finding, and the findings of a list of candidates.
use Rattle.std.proofs.Common.{ℕ, suc, ◌≡◌, ◌+◌, ◌^◌, ◌<◌, Option, Some, None, List, length, map, slice_index_or, IfOk, refl, sym, ap, ◌∙◌, subst, arith, Ok, Result, replicate}
use Rattle.std.proofs.lemmas.List.{same_lists, get_or-map, get_or-replicate, length-map}
use Rattle.std.proofs.lemmas.List.FromFn.{get_or-map-range_with_len, length-map-range_with_len}
use Rattle.al_infer.specs.declared.outcomes.Outcome.{Outcome}
use Rattle.al_infer.specs.declared.tables.Why.{Why}
use Rattle.al_infer.specs.declared.tables.Found.{Found}
use Rattle.al_infer.specs.declared.tables.Found.TheVariants.{Accepted, Refused}
use Rattle.al_infer.specs.Findings.{IsFinding, finding, first_refusal, or_here, reason, reason_at, refused_or, span_sum, findings, table, tabled}

refused_next : (r : Option (ℕ × Why)) (here : Option Why) (t sum s n : ℕ) (why : Why) → Accepted sum ≡ refused_or r s → here ≡ Some why
    → Refused t why ≡ refused_or (or_here t r here) n
refused_next = grind arith

accepted_next : (r : Option (ℕ × Why)) (here : Option Why) (t sum s span : ℕ) → Accepted sum ≡ refused_or r s → here ≡ None
    → Accepted (sum + span) ≡ refused_or (or_here t r here) (s + span)
accepted_next = grind arith

stays_next : (r : Option (ℕ × Why)) (here : Option Why) (t u s n : ℕ) (why : Why) → Refused u why ≡ refused_or r s
    → Refused u why ≡ refused_or (or_here t r here) n
stays_next = grind arith

module _ (told : Option ℕ → ℕ → Outcome) (t k : ℕ) where
  -- one more, as it is counted
  counted : (f : Found) → IsFinding told (suc t) k f → IsFinding told (t + 1) k f
  counted f h = let e : suc t ≡ t + 1 = omega arith in subst (λ n. IsFinding told n k f) e h

  pub refused_here : (sum : ℕ) (why : Why) (plain tried : Outcome) → IsFinding told t k (Accepted sum)
      → plain ≡ told None t → tried ≡ told (Some k) t → Some why ≡ reason plain tried
      → IsFinding told (t + 1) k (Refused t why)
  refused_here sum why plain tried h p q is = counted _ record {
    found = let here = sym (is ∙ (ap (λ o. reason o tried) p ∙ ap (reason (told None t)) q)) in
        refused_next (first_refusal told k t) (reason_at told k t) t sum (span_sum told k t) _ why h.found here;
    small = tt;
  }

  accepted_then : (sum : ℕ) → IsFinding told t k (Accepted sum) → reason_at told k t ≡ None → (told (Some k) t).span < 2 ^ 100
      → IsFinding told (t + 1) k (Accepted (sum + (told (Some k) t).span))
  accepted_then sum h is small = counted _ record {
    found = accepted_next (first_refusal told k t) (reason_at told k t) t sum (span_sum told k t) _ h.found is;
    small = omega (arith, h.small, small);
  }

  pub accepted_here : (sum : ℕ) (plain tried : Outcome) → IsFinding told t k (Accepted sum)
      → plain ≡ told None t → tried ≡ told (Some k) t → None ≡ reason plain tried → tried.span < 2 ^ 100
      → IsFinding told (t + 1) k (Accepted (sum + tried.span))
  accepted_here sum plain tried h p q is small =
      let here = sym (is ∙ (ap (λ o. reason o tried) p ∙ ap (reason (told None t)) q)) in
      let less = subst (λ (o : Outcome). o.span < 2 ^ 100) q small in
      subst (λ (o : Outcome). IsFinding told (t + 1) k (Accepted (sum + o.span))) (sym q) (accepted_then sum h here less)

  pub refused_before : (u : ℕ) (why : Why) → IsFinding told t k (Refused u why) → IsFinding told (t + 1) k (Refused u why)
  refused_before u why h = counted _ record {
    found = stays_next (first_refusal told k t) (reason_at told k t) t u (span_sum told k t) _ why h.found;
    small = tt;
  }

-- before any test
module _ {E : Type 0} (told : Option ℕ → ℕ → Outcome) where
  pub untried : (n k : ℕ) (d : Result Found E) → k < n → IfOk (slice_index_or (replicate n (Ok (Accepted 0))) k d) (IsFinding told 0 k)
  untried n k d h =
      subst (λ r. IfOk r (IsFinding told 0 k)) (sym (get_or-replicate n k (Ok (Accepted 0)) d h)) record { found = refl; small = omega arith }

  -- rows that all are found are the findings
  pub all_findings : (t : ℕ) (v : List Found) (rows : List (Result Found E)) → rows ≡ map (λ f. Ok f) v
      → ((k : ℕ) (d : Result Found E) → k < length rows → IfOk (slice_index_or rows k d) (IsFinding told t k))
      → v ≡ findings told (length v) t
  all_findings t v rows is each = same_lists v _ (sym (length-map-range_with_len (λ k. finding told k t) 0 (length v))) (λ k d h.
      let e = get_or-map-range_with_len (λ j. finding told j t) 0 (length v) k k d h (omega arith) in
      let all = subst (λ (rs : List (Result Found E)). (k : ℕ) (d : Result Found E) → k < length rs
      → IfOk (slice_index_or rs k d) (IsFinding told t k)) is each in
      let more = all k (Ok d) (subst (λ n. k < n) (sym (length-map v (λ (f : Found). Ok f))) h) in
      let here = subst (λ (r : Result Found E). IfOk r (IsFinding told t k)) (get_or-map (λ f. Ok f) v k d (Ok d) h) more in
      here.found ∙ sym e)

  -- so the table is made of them
  pub table_of : (n t : ℕ) (v : List Found) (rows : List (Result Found E)) → rows ≡ map (λ f. Ok f) v → length rows ≡ n
      → ((k : ℕ) (d : Result Found E) → k < n → IfOk (slice_index_or rows k d) (IsFinding told t k))
      → tabled v ≡ table told n t
  table_of n t v rows is many each =
      let whole = all_findings t v rows is (subst (λ m. (k : ℕ) (d : Result Found E) → k < m
      → IfOk (slice_index_or rows k d) (IsFinding told t k)) (sym many) each) in
      let count : length v ≡ n = sym (ap length is ∙ length-map v (λ (f : Found). Ok f)) ∙ many in
      ap tabled (whole ∙ ap (λ m. findings told m t) count)
