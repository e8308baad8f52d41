use Rattle.std.proofs.Common.{None, ap, ◌∙◌}
use Rattle.al_pages.specs.Tables.{objects_of}
use Rattle.al_pages.proofs.Changes.{objects_taken, set_keeps_names}
use Rattle.al_pages.proofs.page_store.PageStoreStore.remove.Goals as goal

pub returns-clause-memory : goal.returns-clause-memory
returns-clause-memory c =
    λ t. record {
      objects = (ap objects_of c.take.ensures ∙ objects_taken c.args.self.now.objects c.args.obj) t;
      locals = c.args.self.now.locals;
    }

pub returns-clause-kept : goal.returns-clause-kept
returns-clause-kept c =
    set_keeps_names c.args.self.now.objects c.take.new.self c.args.obj None c.take.ensures
