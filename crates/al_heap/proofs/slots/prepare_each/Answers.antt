use Rattle.std.proofs.Common.{◌≡◌, rules, sym, subst, ◌∙◌}
use Rattle.std.proofs.lemmas.Map.Iter.{rest_more, rest_all}
use Rattle.std.specs.Map.Iter.{deref_pair}
use Rattle.al_heap.specs.Stores.{IsReadyForEach}
use Rattle.al_heap.proofs.SlotLemmas.{ready_or}
use Rattle.al_heap.proofs.slots.prepare_each.Goals as goal

pub loop-obj-preserved-in-Continue-1 : goal.loop-obj-preserved-in-Continue-1
loop-obj-preserved-in-Continue-1 g c =
    let o = c.in-Some.obj.now in
    let s = c.in-Some.slot.now in
    let first = rest_more deref_pair c.loop-obj.obj-iterator c.next.new.self c.next.result (c.in-Some.obj, c.in-Some.slot) c.in-Some.is c.next.ensures.steps in
    record {
      memory = c.prepare.ensures.memory ∙ c.loop-obj.invariant.memory;
      kept = λ q h. c.prepare.ensures.kept q (c.loop-obj.invariant.kept q h);
      rest = λ r more each. c.loop-obj.invariant.rest r (λ q h. more q (c.prepare.ensures.kept q h))
          (subst (IsReadyForEach r) (sym first) (ready_or r o s (more o c.in_ok-prepare.ensures.ready), each));
    }

pub returns-clause-ready : goal.returns-clause-ready
returns-clause-ready g c =
    let ready = g.S.Store.is_ready c.loop-obj.store in
    let none = rest_all deref_pair c.loop-obj.obj-iterator c.next.new.self c.next.result c.in-None.is c.next.ensures.steps in
    let all : c.into_iter-obj-iterator.result ≡ c.args.slots.now.entries = search rules in
    subst (IsReadyForEach ready) all (c.loop-obj.invariant.rest ready (λ q h. h) (subst (IsReadyForEach ready) (sym none) tt))
