use Rattle.std.proofs.Common.{◌<◌, ap, ◌∙◌, arith}
use Rattle.std.specs.Prelude.{reverse}
use Rattle.al_lower.proofs.Functions.{functions_next, entries_next}
use Rattle.al_lower.proofs.program.functions.Goals as goal

pub loop-left-preserved : goal.loop-left-preserved
loop-left-preserved c =
    let was = c.loop-left.invariant in
    let some : 0 < c.loop-left.left = omega (arith, c.loop-left-test.true) in
    let fs = c.args.funcs.now in
    let n = c.loop-left.left in
    let f = c.index-funcs-left.result in
    let is = c.index-funcs-left.is in
    record {
      within = omega (arith, was.within);
      code = functions_next fs n f c.loop-left.code c.entry.new.code some was.within is was.code c.in_ok-entry.ensures.code;
      entries = ap reverse c.in_ok-push.ensures.items
          ∙ entries_next fs n f c.loop-left.code c.entry.new.code c.loop-left.entries.items c.in_ok-entry.field-0
          some was.within is was.code c.in_ok-entry.ensures.code c.in_ok-entry.ensures.entry was.entries;
    }
