use Rattle.std.proofs.Common.{◌∙◌, ◌≡◌, sym, subst, ℕ, ◌<◌, IfOk, slice_index_or, arith}
use Rattle.al_infer.specs.Findings.{IsFinding}
use Rattle.al_infer.proofs.OneMore.{table_of}
use Rattle.al_infer.proofs.search.infer.Goals as goal

pub returns : goal.returns
returns g c =
    let told = g.T.Trial.told c.args.trial.now in
    let end : c.loop-test.test ≡ c.args.tests = omega (arith, c.loop-test-test.false, c.loop-test.auto.test-end) in
    let rows = c.loop-test.rows.items in
    let each = subst (λ t. (k : ℕ) (d : _) → k < c.args.candidates → IfOk (slice_index_or rows k d) (IsFinding told t k)) end c.loop-test.invariant.1 in
    let all_found = sym c.deref.ensures.value ∙ c.in_ok-all_found.ensures in
    c.tabled.ensures ∙ table_of told c.args.candidates c.args.tests _ rows all_found c.loop-test.invariant.0 each
