-- What a round keeps, and its list of verdicts.
use Rattle.std.proofs.Common.{◌≡◌, ℕ, List, [], ◌∷◌, ◌++◌, length, refl, sym, ap, ◌∙◌, append_assoc, append-nil, arith}
use Rattle.al_core.specs.declared.choices.Red.{Red}
use Rattle.al_core.specs.declared.reports.Judged.{Judged}
use Rattle.al_core.specs.declared.reports.Verdict.{Verdict}
use Rattle.al_core.specs.Chunk.{Outcome}
use Rattle.al_core.specs.Verdicts.{committed}
use Rattle.al_core.specs.Applied.{all_applied}
use Rattle.al_core.specs.Round.{Round, with_chunks, all_printed, last_ending}
use Rattle.al_plain.specs.Keeping.{kept, all_kept}

-- the list grows by one
pub one_more : (all new more : List Judged) (j : Judged) → new ≡ all ++ j ∷ [] → new ++ more ≡ all ++ j ∷ more
one_more all new more j e = ap (λ l. l ++ more) e ∙ append_assoc all (j ∷ []) more

pub none_more : (chunks : List ℕ) (vs : List Verdict) (all : List Judged) → length vs ≡ 0 → all ≡ all ++ with_chunks chunks vs
none_more [] vs all e = sym (append-nil all)
none_more (c ∷ chunks) [] all e = sym (append-nil all)
none_more (c ∷ chunks) (v ∷ vs) all e = absurd (omega arith)

-- of no verdicts nothing is kept
pub none_kept : (reds : List Red) (os : List Outcome) (vs : List Verdict) (r : Round) → length vs ≡ 0
    → r ≡ all_kept reds (committed os vs) r
none_kept reds [] vs r e = refl
none_kept reds (o ∷ os) [] r e = refl
none_kept reds (o ∷ os) (v ∷ vs) r e = absurd (omega arith)

-- all that is kept
pub round_kept : (reds : List Red) (os : List Outcome) (r : Round)
    → all_kept reds os r ≡ record r { memory = all_applied reds os r.memory; printed = all_printed os r.printed; ending = last_ending os r.ending }
round_kept reds [] r = refl
round_kept reds (o ∷ os) r = round_kept reds os (kept reds o r)
