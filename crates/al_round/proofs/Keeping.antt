-- Keeping one committed outcome more.
use Rattle.std.proofs.Common.{◌≡◌, ℕ, zero, suc, ◌+◌, ◌<◌, List, [], ◌∷◌, ◌++◌, length, drop, Bool, true, false, slice_index_or, refl, sym, ap, subst, ◌∙◌, append_assoc, arith}
use Rattle.al_core.specs.declared.choices.Red.{Red}
use Rattle.al_core.specs.declared.reports.Ending.{Ending}
use Rattle.al_core.specs.declared.reports.Ending.TheVariants as ending
use Rattle.al_core.specs.declared.reports.Verdict.{Verdict}
use Rattle.al_core.specs.Memory.{Memory}
use Rattle.al_core.specs.Chunk.{Outcome}
use Rattle.al_core.specs.Verdicts.{is_committed, cons_if, committed}
use Rattle.al_core.specs.Applied.{applied, all_applied}
use Rattle.al_core.specs.Round.{all_printed, last_ending}
use Rattle.al_round.specs.Rounds.{HasLaidFirst, IsKept}

-- ---- more outcomes after some

applied_more : (reds : List Red) (done more : List Outcome) (m : Memory) → all_applied reds (done ++ more) m ≡ all_applied reds more (all_applied reds done m)
applied_more reds [] more m = refl
applied_more reds (x ∷ done) more m = applied_more reds done more (applied reds m x)

printed_more : (done more : List Outcome) (bytes : List ℕ) → all_printed (done ++ more) bytes ≡ all_printed more (all_printed done bytes)
printed_more [] more bytes = refl
printed_more (x ∷ done) more bytes = printed_more done more (bytes ++ x.printed)

ending_more : (done more : List Outcome) (e : Ending) → last_ending (done ++ more) e ≡ last_ending more (last_ending done e)
ending_more [] more e = refl
ending_more (x ∷ done) more e = ending_more done more x.ending

-- ---- the verdict that comes next

drop_at : {A : Type 0} (xs : List A) (k : ℕ) (d : A) → k < length xs → drop k xs ≡ slice_index_or xs k d ∷ drop (suc k) xs
drop_at {A} [] k d h = absurd (omega arith)
drop_at {A} (x ∷ xs) zero d h = refl
drop_at {A} (x ∷ xs) (suc k) d h = drop_at xs k d (omega arith)

cons_split : (b : Bool) (o : Outcome) (rest : List Outcome) → cons_if b o rest ≡ cons_if b o [] ++ rest
cons_split true o rest = refl
cons_split false o rest = refl

-- the committed ones of what is left, by that verdict
committed_at : (o : Outcome) (os : List Outcome) (vs : List Verdict) (k : ℕ) (d : Verdict) → k < length vs
    → committed (o ∷ os) (drop k vs) ≡ cons_if (is_committed (slice_index_or vs k d)) o [] ++ committed os (drop (k + 1) vs)
committed_at o os vs k d h =
    let next : suc k ≡ k + 1 = omega arith in
    ap (committed (o ∷ os)) (drop_at vs k d h)
    ∙ cons_split (is_committed (slice_index_or vs k d)) o (committed os (drop (suc k) vs))
    ∙ ap (λ z. cons_if (is_committed (slice_index_or vs k d)) o [] ++ committed os (drop z vs)) next

-- ---- keeping

module _ (reds : List Red) (m : Memory) (cs : List Outcome) where
  -- nothing is kept yet
  pub none_kept : (n : Memory) (printed : List ℕ) (e : Ending) → n ≡ m → printed ≡ [] → e ≡ ending.Done → IsKept reds m cs cs n printed e
  none_kept n printed e h p d = record { done = []; whole = refl; memory = h; bytes = p; last = d }

  kept_more : (more left : List Outcome) (n next : Memory) (printed bytes : List ℕ) (e last : Ending) → IsKept reds m cs (more ++ left) n printed e
      → next ≡ all_applied reds more n → bytes ≡ all_printed more printed → last ≡ last_ending more e → IsKept reds m cs left next bytes last
  kept_more more left n next printed bytes e last h a p d = record {
    done = h.done ++ more;
    whole = append_assoc h.done more left ∙ h.whole;
    memory = a ∙ ap (all_applied reds more) h.memory ∙ sym (applied_more reds h.done more m);
    bytes = p ∙ ap (all_printed more) h.bytes ∙ sym (printed_more h.done more []);
    last = d ∙ ap (last_ending more) h.last ∙ sym (ending_more h.done more ending.Done);
  }

  -- the next one is kept, where it is committed
  pub kept_next : (o : Outcome) (os : List Outcome) (vs : List Verdict) (k : ℕ) (d : Verdict) (n next : Memory) (printed bytes : List ℕ)
      (e last : Ending) → k < length vs → IsKept reds m cs (committed (o ∷ os) (drop k vs)) n printed e
      → next ≡ all_applied reds (cons_if (is_committed (slice_index_or vs k d)) o []) n
      → bytes ≡ all_printed (cons_if (is_committed (slice_index_or vs k d)) o []) printed
      → last ≡ last_ending (cons_if (is_committed (slice_index_or vs k d)) o []) e
      → IsKept reds m cs (committed os (drop (k + 1) vs)) next bytes last
  kept_next o os vs k d n next printed bytes e last inside h a p f =
      kept_more (cons_if (is_committed (slice_index_or vs k d)) o []) (committed os (drop (k + 1) vs)) n next printed bytes e last
      (subst (λ z. IsKept reds m cs z n printed e) (committed_at o os vs k d inside) h) a p f

  -- the first ones were laid
  pub first_laid : (left : List Outcome) (n next : Memory) (printed : List ℕ) (e : Ending) → IsKept reds m cs left n printed e → next ≡ n
      → HasLaidFirst reds m next cs
  first_laid left n next printed e h f = record { done = h.done; left = left; whole = h.whole; memory = f ∙ h.memory }
