use Rattle.std.proofs.Common.{◌≡◌, IfOk, ap, sym, subst, ◌∙◌}
use Rattle.std.specs.FinSet as set
use Rattle.al_core.specs.Memory.{value_at}
use Rattle.al_heap.specs.Stores.{value_or_trap}
use Rattle.al_snap.specs.Layers.{seen, own_has}
use Rattle.al_snap.proofs.Reading.{read_as_word}
use Rattle.al_snap.proofs.layers.Layers.look.Goals as goal

pub returns-in-Word-clause-value : goal.returns-in-Word-clause-value
returns-in-Word-clause-value g c =
    c.word.ensures.value
    ∙ sym (read_as_word (seen c.args.self.now) c.in-Word.obj c.in-Word.w)
    ∙ ap (λ a. value_or_trap (seen c.args.self.now) a (value_at (seen c.args.self.now) a)) (sym c.in-Word.is)

pub returns-in-Word-clause-own : goal.returns-in-Word-clause-own
returns-in-Word-clause-own g c = c.word.ensures.own ∙ ap (own_has c.args.self.now) (sym c.in-Word.is)

pub returns-in-Word-clause-written : goal.returns-in-Word-clause-written
returns-in-Word-clause-written g c h =
    subst (λ a. IfOk c.word.result.value (λ _. c.word.result.written ≡ set.contains c.args.self.now.touched a))
    (sym c.in-Word.is) (c.word.ensures.written h)
