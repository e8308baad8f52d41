-- Runs in parts: what comes after two runs.
use Rattle.std.proofs.Common.{◌≡◌, ℕ, ◌+◌, List, [], ◌∷◌, ◌++◌, refl, sym, ap, ◌∙◌}
use Rattle.al_core.specs.Access.{Content}
use Rattle.al_core.specs.Iteration.{Execution, then_runs, iterations}
use Rattle.al_core.specs.Chunk.{chunk_runs}
use Rattle.al_core.specs.Serial.{chunks_run}
use Rattle.al_laws.proofs.Splits.{no_steps, then_runs_twice, iterations_split}

-- the chunks of two lists
pub chunks_of_both : (x : Execution) (ks bs : List ℕ) (c : Content) → chunks_run x (ks ++ bs) c ≡ then_runs (chunks_run x ks c) (chunks_run x bs)
chunks_of_both x [] bs c = sym (no_steps (chunks_run x bs c))
chunks_of_both x (a ∷ ks) bs c =
    let r = chunk_runs x a c in
    let more : chunks_run x (ks ++ bs) ≡ (λ d. then_runs (chunks_run x ks d) (chunks_run x bs)) = λ i d. chunks_of_both x ks bs d i in
    ap (then_runs r) more ∙ sym (then_runs_twice r (chunks_run x ks) (chunks_run x bs) r.ending refl)

-- so many iterations and so many more
pub iterations_of_both : (x : Execution) (a b n j k : ℕ) (c : Content) → n ≡ a + b → k ≡ j + a
    → iterations x n j c ≡ then_runs (iterations x a j c) (iterations x b k)
iterations_of_both x a b n j k c e f =
    ap (λ z. iterations x z j c) e ∙ iterations_split x a b j c ∙ ap (λ z. then_runs (iterations x a j c) (iterations x b z)) (sym f)
