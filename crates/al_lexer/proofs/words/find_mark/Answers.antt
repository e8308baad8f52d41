use Rattle.std.proofs.Common.{nat_eq, sym, ap, ◌∙◌}
use Rattle.std.proofs.lemmas.List.{take_rest}
use Rattle.std.specs.List.{starts_with}
use Rattle.al_source.specs.declared.tokens.Mark.TheVariants.{LeftParen}
use Rattle.al_grammar.specs.Words.{mark_text}
use Rattle.al_lexer.proofs.TableLemmas.{find_behind}
use Rattle.al_lexer.proofs.words.find_mark.Goals as goal

pub loop-table-preserved : goal.loop-table-preserved
loop-table-preserved c =
    let other =
    ap (starts_with nat_eq c.args.z.now) (sym c.mark_text-text.ensures) ∙ sym c.starts_with.ensures.value ∙ c.if-starts_with.false in
    rw (take_rest c.loop-table.table.now 1)
    (find_behind (λ mark. starts_with nat_eq c.args.z.now (mark_text mark)) c.loop-table.table.now LeftParen c.in-len1-up.len_at_least other
    ∙ c.loop-table.invariant)
