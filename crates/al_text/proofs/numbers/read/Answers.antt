use Rattle.std.proofs.Common.{◌≡◌, ◌∙◌, ap, sym, length, arith}
use Rattle.al_text.specs.Numbers.{numbers_onto}
use Rattle.al_text.proofs.WordLemmas.{read_on, read_last, fails_last, fails_within, word_goes_on}
use Rattle.al_text.proofs.numbers.read.Goals as goal
use Rattle.al_text.proofs.numbers.read.Goals.{then-is_blank+in-Ok, else-is_blank}

pub loop-at-preserved : goal.loop-at-preserved
loop-at-preserved c =
    elim c.if-is_blank.branch [
      | then-is_blank+in-Ok w ↦ record {
        whole =
            let blank = sym c.is_blank.ensures ∙ w.if-is_blank.true in
            rw (w.numbers-is, w.line-is, w.start-is, w.line_after-line.ensures.value)
            (read_on c.loop-at.numbers _ c.loop-at.line c.args.text.now c.loop-at.start c.loop-at.at _ c.loop-at-test.true blank
            w.in-Ok.ensures.ok c.loop-at.invariant.whole);
        begun = omega arith;
        lines = omega arith;
      }
      | else-is_blank w ↦ rw (w.numbers-is, w.line-is, w.start-is) record {
        whole =
            let solid = sym c.is_blank.ensures ∙ w.if-is_blank.false in
            let on = word_goes_on c.args.text.now c.loop-at.start c.loop-at.at c.loop-at.line c.loop-at.invariant.begun c.loop-at-test.true solid in
            ap (λ ws. numbers_onto c.loop-at.numbers ws) (sym on) ∙ c.loop-at.invariant.whole;
        begun = omega arith;
        lines = omega arith;
      }
    ]

pub returns-in-Ok-push_word : goal.returns-in-Ok-push_word
returns-in-Ok-push_word c =
    let last : c.loop-at.at ≡ length c.args.text.now = omega arith in
    read_last c.loop-at.numbers _ c.loop-at.line c.args.text.now c.loop-at.start c.loop-at.at _ last c.in-Ok-push_word.ensures.ok c.loop-at.invariant.whole

pub returns-in-Err-push_word : goal.returns-in-Err-push_word
returns-in-Err-push_word c =
    let last : c.loop-at.at ≡ length c.args.text.now = omega arith in
    fails_last c.in-Err-push_word.fault c.loop-at.numbers c.loop-at.line c.args.text.now c.loop-at.start c.loop-at.at _ last
    c.in-Err-push_word.ensures.err c.loop-at.invariant.whole

pub returns-in-Err : goal.returns-in-Err
returns-in-Err c =
    let blank = sym c.is_blank.ensures ∙ c.if-is_blank.true in
    fails_within c.in-Err.fault c.loop-at.numbers c.loop-at.line c.args.text.now c.loop-at.start c.loop-at.at _ c.loop-at-test.true blank
    c.in-Err.ensures.err c.loop-at.invariant.whole
