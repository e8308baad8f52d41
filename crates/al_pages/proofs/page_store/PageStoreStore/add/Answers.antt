use Rattle.std.proofs.Common.{Some, ap, ◌∙◌}
use Rattle.al_pages.specs.Tables.{objects_of}
use Rattle.al_pages.proofs.Changes.{objects_put, set_keeps_names}
use Rattle.al_pages.proofs.page_store.PageStoreStore.add.Goals as goal

pub returns-clause-memory : goal.returns-clause-memory
returns-clause-memory c =
    λ t. record {
      objects = (ap objects_of c.put.ensures ∙ objects_put c.args.self.now.objects c.args.obj c.args.words c.requires) t;
      locals = c.args.self.now.locals;
    }

pub returns-clause-kept : goal.returns-clause-kept
returns-clause-kept c =
    set_keeps_names c.args.self.now.objects c.put.new.self c.args.obj (Some c.args.words) c.put.ensures
