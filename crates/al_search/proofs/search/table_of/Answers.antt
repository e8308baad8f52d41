use Rattle.std.proofs.Common.{◌≡◌, ◌∙◌, IfOk, sym, subst, ap}
use Rattle.al_engine.specs.Jobs.{IsCodeOf}
use Rattle.al_search.proofs.LineSizes.{all_sized}
use Rattle.al_search.specs.Search as spec
use Rattle.al_search.proofs.search.table_of.Goals as goal

pub table_by-requires-clause-may : goal.table_by-requires-clause-may
table_by-requires-clause-may g c κs within = record {
  loops = c.as_slice.ensures ∙ sym (ap (λ p. p.1) c.of.ensures);
  valid = c.requires.valid;
  code = subst (λ p. IsCodeOf p.0 c.args.code.now) (sym c.of.ensures) c.requires.code;
  ranges = c.requires.ranges;
  lines = all_sized c.args.knobs.line c.args.tried.now c.requires.ranges.line c.requires.lines;
}

pub returns : goal.returns
returns g c =
    subst (λ p. IfOk c.table_by.result (λ t. t ≡ spec.table_of p c.args.number c.args.tried.now c.args.tests.now c.args.knobs))
    c.of.ensures c.table_by.ensures
