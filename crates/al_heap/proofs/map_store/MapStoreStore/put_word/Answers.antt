use Rattle.std.proofs.Common.{◌≡◌, ◌∙◌}
use Rattle.std.specs.FinMap as map
use Rattle.al_core.specs.Memory.{with_words}
use Rattle.al_heap.specs.Stores.{objects_in}
use Rattle.al_heap.proofs.Replaced.{put_back, none_replaced}
use Rattle.al_heap.proofs.map_store.MapStoreStore.put_word.Goals as goal

pub returns-in-Some-clause-memory : goal.returns-in-Some-clause-memory
returns-in-Some-clause-memory c =
    let old = objects_in c.args.self.now.slots in
    let new : objects_in c.put-in-Some.new.self ≡ with_words old c.args.obj c.args.at c.args.value (map.get old c.args.obj) =
    c.put-in-Some.ensures.objects
    ∙ (λ t. map.insert (c.in-Some.ensures.objects t) c.args.obj (c.put.ensures.after t))
    ∙ put_back old c.args.obj c.args.at c.args.value c.in-Some.words c.in-Some.ensures.taken in
    λ t. record { objects = new t; locals = c.args.self.now.locals }

pub returns-in_default-clause-memory : goal.returns-in_default-clause-memory
returns-in_default-clause-memory c =
    let old = objects_in c.args.self.now.slots in
    let new : objects_in c.take.new.self ≡ with_words old c.args.obj c.args.at c.args.value (map.get old c.args.obj) =
    c.take.ensures.objects ∙ none_replaced old c.args.obj c.args.at c.args.value c.in_default.ensures.taken in
    λ t. record { objects = new t; locals = c.args.self.now.locals }
