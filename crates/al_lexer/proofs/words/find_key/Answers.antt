use Rattle.std.proofs.Common.{sym, ap, ◌∙◌}
use Rattle.std.proofs.lemmas.List.{take_rest}
use Rattle.std.specs.Str.{bytes_eq}
use Rattle.al_source.specs.declared.tokens.Key.TheVariants.{Auto}
use Rattle.al_grammar.specs.Words.{key_text}
use Rattle.al_lexer.proofs.TableLemmas.{find_behind}
use Rattle.al_lexer.proofs.words.find_key.Goals as goal

pub loop-table-preserved : goal.loop-table-preserved
loop-table-preserved c =
    let other = ap (λ text. bytes_eq text c.args.word.now) (sym c.key_text.ensures) ∙ sym c.eq.ensures ∙ c.if-eq.false in
    rw (take_rest c.loop-table.table.now 1)
    (find_behind (λ key. bytes_eq (key_text key) c.args.word.now) c.loop-table.table.now Auto c.in-len1-up.len_at_least other
    ∙ c.loop-table.invariant)
