use Rattle.std.proofs.Common.{◌≡◌, slice_index, Some, None, sym, ◌∙◌, arith}
use Rattle.std.proofs.lemmas.List.{take_rest}
use Rattle.al_grammar.specs.Lexemes.{unit_at}
use Rattle.al_lexer.proofs.TextLemmas.{passed_goes, passed_ends, passed_stops}
use Rattle.al_lexer.proofs.texts.inside_len.Goals as goal

pub returns-in_err-len-clause-value : goal.returns-in_err-len-clause-value
returns-in_err-len-clause-value c =
    let r = c.loop-rest.rest.now in
    let e : unit_at r ≡ None = sym c.unit_at.ensures.value ∙ c.in_err-len.was in
    c.from_residual.ensures ∙ passed_stops c.args.z.now r c.loop-rest.invariant e (λ h. omega (arith, c.byte.ensures.value, c.loop-rest-test.true))

pub loop-rest-preserved : goal.loop-rest-preserved
loop-rest-preserved c =
    let r = c.loop-rest.rest.now in
    let u = c.in_ok-len in
    let e : unit_at r ≡ Some (u.len, u.field-0-1) = sym c.unit_at.ensures.value ∙ u.was in
    rw (take_rest r c.in_ok-len.len)
    (passed_goes c.args.z.now r (u.len, u.field-0-1) c.loop-rest.invariant e (λ h. omega (arith, c.byte.ensures.value, c.loop-rest-test.true))
    u.ensures.within.0 u.ensures.within.1)

pub returns-clause-value : goal.returns-clause-value
returns-clause-value c =
    let r = c.loop-rest.rest.now in
    let e : slice_index r 0 ≡ 34 = omega (arith, c.byte.ensures.value, c.loop-rest-test.false) in
    passed_ends c.args.z.now r c.loop-rest.invariant e
