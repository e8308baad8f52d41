use Rattle.std.proofs.Common.{◌∙◌}
use Rattle.al_search.proofs.Few.{few_lined}
use Rattle.al_search.proofs.LineSizes.{have_line}
use Rattle.al_search.proofs.search.tried.Goals as goal

pub returns-clause-few : goal.returns-clause-few
returns-clause-few c =
    few_lined c.args.line c.args.typed.now c.args.info.now _ _ (c.as_slice.ensures ∙ c.in_ok-list.ensures) c.with_lines.ensures

pub returns-clause-lines : goal.returns-clause-lines
returns-clause-lines c = have_line c.args.line _ _ c.with_lines.ensures
