use Rattle.std.proofs.Common.{◌≡◌, Some, None, sym, ap, ◌∙◌}
use Rattle.std.proofs.lemmas.List.{take_rest}
use Rattle.al_grammar.specs.Lexemes.{unit_at}
use Rattle.al_lexer.proofs.TextLemmas.{gathered_byte, gathered_number, gathered_skip, gathered_end, nil_by_test}
use Rattle.al_lexer.proofs.texts.format_of.Goals as goal

pub loop-rest-preserved-in-Some-default-Some : goal.loop-rest-preserved-in-Some-default-Some
loop-rest-preserved-in-Some-default-Some c =
    let r = c.loop-rest.rest.now in
    let u = c.in-Some-default-Some in
    let e : unit_at r ≡ Some (u.len, Some u.b) = sym c.unit_at.ensures.value ∙ u.is ∙ ap (λ o. Some (u.len, o)) u.field-0-1-is in
    rw (take_rest r u.len, c.in_ok-push-in-Some-default-Some.ensures.ok)
    (gathered_byte c.args.z.now c.loop-rest.pieces c.loop-rest.plain r u.len u.b c.loop-rest.invariant e u.ensures.within.0 u.ensures.within.1)

pub loop-rest-preserved-in-Some-default-None : goal.loop-rest-preserved-in-Some-default-None
loop-rest-preserved-in-Some-default-None c =
    let r = c.loop-rest.rest.now in
    let u = c.in-Some-default-None in
    let e : unit_at r ≡ Some (u.len, None) = sym c.unit_at.ensures.value ∙ u.is ∙ ap (λ o. Some (u.len, o)) u.field-0-1-is in
    rw
    (take_rest r u.len, c.in_ok-push-in-Some-default-None.ensures.ok, c.in_ok-push_plain-in-Some-default-None.ensures, c.new-plain-in-Some-default-None.ensures)
    (gathered_number c.args.z.now c.loop-rest.pieces c.loop-rest.plain r u.len c.loop-rest.invariant e u.ensures.within.0 u.ensures.within.1)

pub loop-rest-preserved : goal.loop-rest-preserved
loop-rest-preserved c =
    let r = c.loop-rest.rest.now in
    rw (take_rest r 1) (gathered_skip c.args.z.now c.loop-rest.pieces c.loop-rest.plain r c.loop-rest.invariant (sym c.unit_at.ensures.value ∙ c.in-None.is))

pub returns : goal.returns
returns c =
    c.in_ok-push_plain.ensures
    ∙ gathered_end c.args.z.now c.loop-rest.pieces c.loop-rest.plain c.loop-rest.rest.now c.loop-rest.invariant
    (nil_by_test c.loop-rest.rest.now (sym c.is_empty.ensures ∙ c.loop-rest-test.false))
