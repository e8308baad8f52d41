use Rattle.al_pages.proofs.Changes.{objects_same}
use Rattle.al_pages.proofs.page_store.PageStoreStore.prepare.Goals as goal

pub returns-clause-memory : goal.returns-clause-memory
returns-clause-memory c =
    λ t. record {
      objects = objects_same c.args.self.now.objects c.prepare.new.self c.prepare.ensures.same t;
      locals = c.args.self.now.locals;
    }
