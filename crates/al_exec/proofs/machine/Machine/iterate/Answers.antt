use Rattle.std.proofs.Common.{◌≡◌, Some, sym, ap, ◌∙◌, w64, subst, arith}
use Rattle.std.proofs.lemmas.Int.{to_z-of_z}
use Rattle.al_code.specs.declared.lowered.Entry.{Entry}
use Rattle.al_exec.specs.Starts.{StartsIteration}
use Rattle.al_exec.proofs.Beginnings.{func_there}
use Rattle.al_exec.proofs.machine.Machine.iterate.Goals as goal

pub entry_at-requires : goal.entry_at-requires
entry_at-requires c = func_there c.args.code.now c.requires.valid c.args.info.now c.requires.one

pub again-requires-clause-room : goal.again-requires-clause-room
again-requires-clause-room c = record {
  tall = c.tallest-tallest.ensures;
  cells = λ e has.
      let same : Some e ≡ Some c.entry_at.result = sym has ∙ c.entry_at.ensures in
      let is : e ≡ c.entry_at.result = grind (arith, same) in
      let locals = ap (λ (e : Entry). e.locals) is in
      omega (arith, locals, c.in_ok-grow.ensures.ok.all);
}

pub returns-clause-starts : goal.returns-clause-starts
returns-clause-starts c e b has_e has_b =
    subst
    (λ n. StartsIteration c.args.code.now c.args.info.now e b n c.again.new.self)
    (to_z-of_z w64 c.args.counter c.ranges.counter)
    (c.again.ensures.starts e b has_e has_b)
